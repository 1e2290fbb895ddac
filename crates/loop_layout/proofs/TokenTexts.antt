-- The bytes that are a token are the bytes of that token.
use Rattle.std.proofs.Common.{◌≡◌, ℕ, suc, ◌+◌, ◌-◌, ◌<◌, Bool, true, false, cond, List, [], ◌∷◌, ◌++◌, length, take, drop, get_or, Option, Some, None, option_map, eqb, codes, bytes_eq, find, refl, ap, sym, ◌∙◌, arith}
use Rattle.std.proofs.lemmas.List.{take_more, take_all}
use Rattle.std.proofs.lemmas.Bool.Decides.{nat_tests}
use Rattle.std.proofs.lemmas.Slice.Eq.{bytes_eq-Decides}
use Rattle.loop_tokens.specs.declared.token.Token.{Token}
use Rattle.loop_tokens.specs.declared.token.Token.TheVariants as tok
use Rattle.loop_tokens.specs.declared.keyword.Keyword.{Keyword}
use Rattle.loop_tokens.specs.declared.keyword.AtWord.{AtWord}
use Rattle.loop_tokens.specs.declared.keyword.AtWord.TheVariants as at
use Rattle.loop_tokens.specs.declared.sign.Sign.{Sign}
use Rattle.loop_tokens.specs.declared.sign.Sign.TheVariants as sg
use Rattle.loop_tokens.specs.Bytes.{is_letter, is_digit}
use Rattle.loop_tokens.specs.Signs.{sign_of, sign_text, short_sign, long_sign}
use Rattle.loop_tokens.specs.Keywords.{keyword_of, keyword_text, all_keywords, at_word_of, at_text}
use Rattle.loop_tokens.specs.Tokens.{token_of, is_token, named, closes}
use Rattle.loop_tokens.proofs.FirstBytes.{quote_token}
use Rattle.loop_tokens.proofs.TokenOf.{letter_is, digit_is, quote_is}
use Rattle.loop_tokens.proofs.Ends.{closes_ends}
use Rattle.loop_layout.specs.Layout.{token_text}
use Rattle.loop_layout.proofs.LongestTokens.{some_token}

pub same_some : {X : Type 0} (x y : X) → ◌≡◌ {A = Option X} (Some x) (Some y) → x ≡ y
same_some x y h = cc

-- ---- names and reserved words

found_more : {X : Type 0} (p : X → Bool) (x y : X) (o : Option X) (t : Bool) → p x ≡ t → (o ≡ Some y → p y ≡ true) → cond t (Some x) o ≡ Some y → p y ≡ true
found_more p x y o true is later h = ap p (sym (same_some x y h)) ∙ is
found_more p x y o false is later h = later h

found : {X : Type 0} (p : X → Bool) (xs : List X) (y : X) → find p xs ≡ Some y → p y ≡ true
found p [] y h = cc
found p (x ∷ xs) y h = found_more p x y (find p xs) (p x) refl (found p xs y) h

keyword_bytes : (bs : List ℕ) (w : Keyword) → keyword_of bs ≡ Some w → keyword_text w ≡ bs
keyword_bytes bs w h = (bytes_eq-Decides (keyword_text w) bs).0 (found (λ v. bytes_eq (keyword_text v) bs) all_keywords w h)

named_text : (o : Option Keyword) (bs : List ℕ) → keyword_of bs ≡ o → token_text (named o bs) ≡ bs
named_text None bs h = refl
named_text (Some w) bs h = keyword_bytes bs w h

-- ---- texts

pub text_front : (bs : List ℕ) → closes false bs ≡ true → take (length bs - 1) bs ++ 34 ∷ [] ≡ bs
text_front bs h =
    let ends = closes_ends 0 bs h in
    let some : 0 < length bs = ends.0 in
    let size : suc (length bs - 1) ≡ length bs = omega arith in
    let at : get_or (0 ∷ bs) (suc (length bs - 1)) 0 ≡ 34 = ap (λ (n : ℕ). get_or (0 ∷ bs) n 0) size ∙ ends.1 in
    ap (λ (b : ℕ). take (length bs - 1) bs ++ b ∷ []) (sym at) ∙ sym (take_more bs (length bs - 1) 0 (omega arith)) ∙ take_all (length bs - 1 + 1) bs (omega arith)

-- ---- at-words

at_bytes : (bs : List ℕ) (a : AtWord) → at_word_of bs ≡ Some a → at_text a ≡ 64 ∷ bs
at_bytes bs a h = by (bytes_eq bs (codes "init")) (bytes_eq bs (codes "keep")) (bytes_eq bs (codes "reduce")) refl refl refl h where
  of : (word : List ℕ) (w : AtWord) → at_text w ≡ 64 ∷ word → bytes_eq bs word ≡ true → ◌≡◌ {A = Option AtWord} (Some w) (Some a) → at_text a ≡ 64 ∷ bs
  of word w text same is = ap at_text (sym (same_some w a is)) ∙ text ∙ ap (λ ys. 64 ∷ ys) (sym ((bytes_eq-Decides bs word).0 same))

  by : (s t u : Bool) → bytes_eq bs (codes "init") ≡ s → bytes_eq bs (codes "keep") ≡ t → bytes_eq bs (codes "reduce") ≡ u → at_word_of bs ≡ Some a → at_text a ≡ 64 ∷ bs
  by true t u i k r g = of (codes "init") at.Init refl i (rw i at g)
  by false true u i k r g = of (codes "keep") at.Keep refl k (rw (i, k) at g)
  by false false true i k r g = of (codes "reduce") at.Reduce refl r (rw (i, k, r) at g)
  by false false false i k r g = let no : ◌≡◌ {A = Option AtWord} None (Some a) = (rw (i, k, r) at g) in cc

mapped_at : (o : Option AtWord) (bs : List ℕ) (t : Token) → at_word_of bs ≡ o → option_map tok.At o ≡ Some t → token_text t ≡ 64 ∷ bs
mapped_at None bs t is h = cc
mapped_at (Some a) bs t is h = ap token_text (sym (same_some (tok.At a) t h)) ∙ at_bytes bs a is

-- ---- signs

-- of a choice by tests, what the chosen sign is
pick : (t : Bool) (s u : Sign) (o : Option Sign) (bytes : List ℕ) → (t ≡ true → sign_text s ≡ bytes) → (o ≡ Some u → sign_text u ≡ bytes) → cond t (Some s) o ≡ Some u → sign_text u ≡ bytes
pick true s u o bytes here later h = ap sign_text (sym (same_some s u h)) ∙ here refl
pick false s u o bytes here later h = later h

one_byte : (b c : ℕ) → eqb b c ≡ true → c ∷ [] ≡ b ∷ []
one_byte b c h = let is : c ≡ b = grind (arith, nat_tests) in ap (λ (d : ℕ). d ∷ []) is

two_bytes : (b c d : ℕ) → eqb b d ≡ true → eqb c 61 ≡ true → d ∷ 61 ∷ [] ≡ b ∷ c ∷ []
two_bytes b c d h g = let is : d ≡ b = grind (arith, nat_tests) in let also : 61 ≡ c = grind (arith, nat_tests) in ap (λ (e : ℕ). e ∷ 61 ∷ []) is ∙ ap (λ (e : ℕ). b ∷ e ∷ []) also

short_bytes : (b : ℕ) (u : Sign) → short_sign b ≡ Some u → sign_text u ≡ b ∷ []
short_bytes b u h = pick (eqb b 60) sg.Less u _ (b ∷ []) (one_byte b 60)
    (pick (eqb b 62) sg.Greater u _ (b ∷ []) (one_byte b 62)
    (pick (eqb b 61) sg.Assign u _ (b ∷ []) (one_byte b 61)
    (pick (eqb b 43) sg.Plus u _ (b ∷ []) (one_byte b 43)
    (pick (eqb b 45) sg.Minus u _ (b ∷ []) (one_byte b 45)
    (pick (eqb b 42) sg.Star u _ (b ∷ []) (one_byte b 42)
    (pick (eqb b 38) sg.Join u _ (b ∷ []) (one_byte b 38)
    (pick (eqb b 58) sg.Colon u _ (b ∷ []) (one_byte b 58)
    (pick (eqb b 44) sg.Comma u _ (b ∷ []) (one_byte b 44)
    (pick (eqb b 40) sg.Open u _ (b ∷ []) (one_byte b 40)
    (pick (eqb b 41) sg.Close u None (b ∷ []) (one_byte b 41) (λ none. cc))))))))))) h

long_bytes : (b c : ℕ) (u : Sign) → eqb c 61 ≡ true → long_sign b ≡ Some u → sign_text u ≡ b ∷ c ∷ []
long_bytes b c u g h = pick (eqb b 43) sg.PlusAssign u _ (b ∷ c ∷ []) (λ e. two_bytes b c 43 e g)
    (pick (eqb b 61) sg.Equal u _ (b ∷ c ∷ []) (λ e. two_bytes b c 61 e g)
    (pick (eqb b 33) sg.NotEqual u _ (b ∷ c ∷ []) (λ e. two_bytes b c 33 e g)
    (pick (eqb b 60) sg.AtMost u _ (b ∷ c ∷ []) (λ e. two_bytes b c 60 e g)
    (pick (eqb b 62) sg.AtLeast u None (b ∷ c ∷ []) (λ e. two_bytes b c 62 e g) (λ none. cc))))) h

pair_bytes : (t : Bool) (b c : ℕ) (u : Sign) → eqb c 61 ≡ t → cond t (long_sign b) None ≡ Some u → sign_text u ≡ b ∷ c ∷ []
pair_bytes true b c u g h = long_bytes b c u g h
pair_bytes false b c u g h = cc

sign_bytes : (bs : List ℕ) (u : Sign) → sign_of bs ≡ Some u → sign_text u ≡ bs
sign_bytes [] u h = cc
sign_bytes (b ∷ []) u h = short_bytes b u h
sign_bytes (b ∷ c ∷ []) u h = pair_bytes (eqb c 61) b c u refl h
sign_bytes (b ∷ c ∷ d ∷ ds) u h = cc

mapped_sign : (o : Option Sign) (bs : List ℕ) (t : Token) → sign_of bs ≡ o → option_map tok.Sign o ≡ Some t → token_text t ≡ bs
mapped_sign None bs t is h = cc
mapped_sign (Some u) bs t is h = ap token_text (sym (same_some (tok.Sign u) t h)) ∙ sign_bytes bs u is

-- ---- any token

at_there : (b : ℕ) (bs : List ℕ) → b ≡ 64 → token_of (b ∷ bs) ≡ option_map tok.At (at_word_of bs)
at_there b bs is = rw is refl

sign_there : (b : ℕ) (bs : List ℕ) → is_letter b ≡ false → is_digit b ≡ false → eqb b 34 ≡ false → eqb b 64 ≡ false → token_of (b ∷ bs) ≡ option_map tok.Sign (sign_of (b ∷ bs))
sign_there b bs l d q a = rw (l, d, q, a) refl

-- the bytes that are a token are the bytes of that token
pub token_bytes : (xs : List ℕ) (t : Token) → token_of xs ≡ Some t → token_text t ≡ xs
token_bytes [] t h = cc
token_bytes (b ∷ bs) t h = at_letter (is_letter b) refl where
  passes : is_token (b ∷ bs) ≡ true
  passes = some_token (b ∷ bs) t h

  same : (u : Token) → ◌≡◌ {A = Option Token} (Some u) (token_of (b ∷ bs)) → token_text u ≡ b ∷ bs → token_text t ≡ b ∷ bs
  same u is text = ap token_text (sym (same_some u t (is ∙ h))) ∙ text

  at_other : (q a : Bool) → is_letter b ≡ false → is_digit b ≡ false → eqb b 34 ≡ q → eqb b 64 ≡ a → token_text t ≡ b ∷ bs
  at_other true a l d q k =
      let is : b ≡ 34 = grind (arith, nat_tests) in
      let less : length (b ∷ bs) - 1 - 1 ≡ length bs - 1 = omega arith in
      let front : token_text (tok.Text (take (length (b ∷ bs) - 1 - 1) (drop 1 (b ∷ bs)))) ≡ 34 ∷ bs =
      ap (λ (n : ℕ). 34 ∷ take n bs ++ 34 ∷ []) less ∙ ap (λ ys. 34 ∷ ys) (text_front bs (sym (quote_token b bs is) ∙ passes)) in
      same (tok.Text (take (length (b ∷ bs) - 1 - 1) (drop 1 (b ∷ bs)))) (quote_is (b ∷ bs) b bs refl is passes) (front ∙ ap (λ (n : ℕ). n ∷ bs) (sym is))
  at_other false true l d q k = let is : b ≡ 64 = grind (arith, nat_tests) in
      mapped_at (at_word_of bs) bs t refl (sym (at_there b bs is) ∙ h) ∙ ap (λ (n : ℕ). n ∷ bs) (sym is)
  at_other false false l d q k = mapped_sign (sign_of (b ∷ bs)) (b ∷ bs) t refl (sym (sign_there b bs l d q k) ∙ h)

  at_digit : (s : Bool) → is_letter b ≡ false → is_digit b ≡ s → token_text t ≡ b ∷ bs
  at_digit true l d = same (tok.Number (b ∷ bs)) (digit_is (b ∷ bs) b bs refl l d passes) refl
  at_digit false l d = at_other (eqb b 34) (eqb b 64) l d refl refl

  at_letter : (s : Bool) → is_letter b ≡ s → token_text t ≡ b ∷ bs
  at_letter true l = same (named (keyword_of (b ∷ bs)) (b ∷ bs)) (letter_is (b ∷ bs) b bs refl l passes) (named_text (keyword_of (b ∷ bs)) (b ∷ bs) refl)
  at_letter false l = at_digit (is_digit b) l refl
