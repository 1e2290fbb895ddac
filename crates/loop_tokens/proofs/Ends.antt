-- Where a token or a run of blanks ends, a text may be cut.
use Rattle.std.proofs.Common.{◌≡◌, ◌≢◌, ℕ, zero, suc, ◌+◌, ◌<◌, ◌≤◌, Bool, true, false, cond, not, ◌&&◌, List, [], ◌∷◌, length, take, get_or, None, is_some, eqb, IsUtf8, IsCharBoundary, codes, bytes_eq, refl, sym, ◌∙◌, subst, arith, lit<}
use Rattle.std.specs.List.{list_all, prefix_len}
use Rattle.std.proofs.lemmas.Bool.Decides.{nat_tests}
use Rattle.std.proofs.lemmas.Slice.Eq.{bytes_eq-Decides}
use Rattle.std.proofs.lemmas.Str.{IsCharBoundary-after_ascii, IsCharBoundary-start}
use Rattle.loop_tokens.specs.Bytes.{is_letter, is_digit, is_word_byte, is_blank, escape}
use Rattle.loop_tokens.specs.Signs.{is_sign, short_sign, long_sign}
use Rattle.loop_tokens.specs.Keywords.{is_at_word}
use Rattle.loop_tokens.specs.Tokens.{is_token, closes, is_empty, IsLongestFront}
use Rattle.loop_tokens.proofs.Fronts.{front_run}
use Rattle.loop_tokens.proofs.FirstBytes.{letter_token, digit_token, quote_token, at_token, sign_token}

-- the last byte of a list that isn't empty
abbrev pub last_byte : ℕ → List ℕ → ℕ
last_byte b [] = b
last_byte b (c ∷ cs) = last_byte c cs

pub last_is : (b : ℕ) (bs : List ℕ) → get_or (b ∷ bs) (length bs) 0 ≡ last_byte b bs
last_is b [] = refl
last_is b (c ∷ cs) = last_is c cs

word_ascii : (b : ℕ) → is_word_byte b ≡ true → b < 128
word_ascii b h = grind (arith, nat_tests)

letter_ascii : (b : ℕ) → is_letter b ≡ true → b < 128
letter_ascii b h = grind (arith, nat_tests)

digit_ascii : (b : ℕ) → is_digit b ≡ true → b < 128
digit_ascii b h = grind (arith, nat_tests)

pub blank_ascii : (b : ℕ) → is_blank b ≡ true → b < 128
blank_ascii b h = grind (arith, nat_tests)

and_left : (s t : Bool) → (s && t) ≡ true → s ≡ true
and_left true t h = refl
and_left false t h = cc

and_right : (s t : Bool) → (s && t) ≡ true → t ≡ true
and_right true t h = h
and_right false t h = cc

run_ascii : (p : ℕ → Bool) → ((b : ℕ) → p b ≡ true → b < 128) → (b : ℕ) (bs : List ℕ) → b < 128 → list_all p bs ≡ true → last_byte b bs < 128
run_ascii p ascii b [] here h = here
run_ascii p ascii b (c ∷ cs) here h = run_ascii p ascii c cs (ascii c (and_left (p c) (list_all p cs) h)) (and_right (p c) (list_all p cs) h)

quote_last : (q e f : Bool) (b : ℕ) (bs : List ℕ) → eqb b 34 ≡ q → cond q (is_empty bs) (cond e (closes true bs) (not f && closes false bs)) ≡ true →
    ((g : Bool) (c : ℕ) → closes g bs ≡ true → last_byte c bs ≡ 34) → last_byte b bs ≡ 34
quote_last true e f b [] is h ih = grind (arith, nat_tests)
quote_last true e f b (c ∷ cs) is h ih = cc
quote_last false true f b bs is h ih = ih true b h
quote_last false false true b bs is h ih = cc
quote_last false false false b bs is h ih = ih false b h

closes_last : (e : Bool) (b : ℕ) (bs : List ℕ) → closes e bs ≡ true → last_byte b bs ≡ 34
closes_last e b [] h = cc
closes_last true b (c ∷ cs) h = closes_last false c cs (and_right (is_some (escape c)) (closes false cs) h)
closes_last false b (c ∷ cs) h = quote_last (eqb c 34) (eqb c 92) (eqb c 10) c cs refl h (λ g d k. closes_last g d cs k)

pub closes_some : (e : Bool) (bs : List ℕ) → closes e bs ≡ true → 0 < length bs
closes_some e [] h = cc
closes_some e (b ∷ bs) h = omega arith

at_last : (bs : List ℕ) → is_at_word bs ≡ true → last_byte 64 bs < 128
at_last bs h = by (bytes_eq bs (codes "init")) (bytes_eq bs (codes "keep")) (bytes_eq bs (codes "reduce")) refl refl refl h where
  of : (word : List ℕ) → last_byte 64 word < 128 → bytes_eq bs word ≡ true → last_byte 64 bs < 128
  of word lt same = let is : bs ≡ word = (bytes_eq-Decides bs word).0 same in rw is lt

  by : (s t u : Bool) → bytes_eq bs (codes "init") ≡ s → bytes_eq bs (codes "keep") ≡ t → bytes_eq bs (codes "reduce") ≡ u → is_at_word bs ≡ true → last_byte 64 bs < 128
  by true t u i k r g = of (codes "init") (lit< tt) i
  by false true u i k r g = of (codes "keep") (lit< tt) k
  by false false true i k r g = of (codes "reduce") (lit< tt) r
  by false false false i k r g = let no : false ≡ true = (rw (i, k, r) at g) in cc

short_ascii : (b : ℕ) → is_some (short_sign b) ≡ true → b < 128
short_ascii b h = grind (arith, nat_tests)

long_last : (t : Bool) (b c : ℕ) → eqb c 61 ≡ t → is_some (cond t (long_sign b) None) ≡ true → c < 128
long_last true b c is h = grind (arith, nat_tests)
long_last false b c is h = cc

sign_last : (b : ℕ) (bs : List ℕ) → is_sign (b ∷ bs) ≡ true → last_byte b bs < 128
sign_last b [] h = short_ascii b h
sign_last b (c ∷ []) h = long_last (eqb c 61) b c refl h
sign_last b (c ∷ d ∷ ds) h = cc

token_last : (b : ℕ) (bs : List ℕ) → is_token (b ∷ bs) ≡ true → last_byte b bs < 128
token_last b bs h = at_letter (is_letter b) refl where
  at_other : (q a : Bool) → is_letter b ≡ false → is_digit b ≡ false → eqb b 34 ≡ q → eqb b 64 ≡ a → last_byte b bs < 128
  at_other true a l d q k = let is : b ≡ 34 = grind (arith, nat_tests) in
      let last : last_byte b bs ≡ 34 = closes_last false b bs (sym (quote_token b bs is) ∙ h) in rw last (lit< tt)
  at_other false true l d q k = let is : b ≡ 64 = grind (arith, nat_tests) in rw is (at_last bs (sym (at_token b bs is) ∙ h))
  at_other false false l d q k = let n : b ≢ 34 = grind (arith, nat_tests) in let m : b ≢ 64 = grind (arith, nat_tests) in
      sign_last b bs (sym (sign_token b bs l d n m) ∙ h)

  at_digit : (t : Bool) → is_letter b ≡ false → is_digit b ≡ t → last_byte b bs < 128
  at_digit true l d = run_ascii is_digit digit_ascii b bs (digit_ascii b d) (sym (digit_token b bs l d) ∙ h)
  at_digit false l d = at_other (eqb b 34) (eqb b 64) l d refl refl

  at_letter : (t : Bool) → is_letter b ≡ t → last_byte b bs < 128
  at_letter true l = run_ascii is_word_byte word_ascii b bs (letter_ascii b l) (sym (letter_token b bs l) ∙ h)
  at_letter false l = at_digit (is_digit b) l refl

last_taken : (b : ℕ) (bs : List ℕ) (n : ℕ) → n ≤ length bs → last_byte b (take n bs) ≡ get_or (b ∷ bs) n 0
last_taken b bs zero le = refl
last_taken b [] (suc n) le = absurd (omega arith)
last_taken b (c ∷ cs) (suc n) le = last_taken c cs n (omega arith)

cut_behind : (b : ℕ) (bs : List ℕ) (n : ℕ) → IsUtf8 (b ∷ bs) → n ≤ length bs → last_byte b (take n bs) < 128 → IsCharBoundary (b ∷ bs) (suc n)
cut_behind b bs n u within last =
    let ascii : get_or (b ∷ bs) n 0 < 128 = subst (λ (k : ℕ). k < 128) (last_taken b bs n within) last in
    let cut : IsCharBoundary (b ∷ bs) (n + 1) = IsCharBoundary-after_ascii (b ∷ bs) n u (omega arith) ascii in
    let P : ℕ → Type 0 = IsCharBoundary (b ∷ bs) in
    let same : n + 1 ≡ suc n = omega arith in
    subst P same cut

-- a text may be cut behind a token
pub token_cut : (bs : List ℕ) (n : ℕ) → IsUtf8 bs → IsLongestFront is_token bs n → IsCharBoundary bs n
token_cut bs zero u front = IsCharBoundary-start bs u
token_cut [] (suc n) u front = absurd (omega (arith, front.within))
token_cut (b ∷ bs) (suc n) u front = cut_behind b bs n u (omega (arith, front.within)) (token_last b (take n bs) front.passes)

-- a text may be cut behind blanks
blanks_cut : (bs : List ℕ) (n : ℕ) → IsUtf8 bs → n ≤ length bs → list_all is_blank (take n bs) ≡ true → IsCharBoundary bs n
blanks_cut bs zero u le h = IsCharBoundary-start bs u
blanks_cut [] (suc n) u le h = absurd (omega arith)
blanks_cut (b ∷ bs) (suc n) u le h = cut_behind b bs n u (omega arith)
    (run_ascii is_blank blank_ascii b (take n bs) (blank_ascii b (and_left (is_blank b) (list_all is_blank (take n bs)) h)) (and_right (is_blank b) (list_all is_blank (take n bs)) h))

pub blank_cut : (bs : List ℕ) → IsUtf8 bs → IsCharBoundary bs (prefix_len is_blank bs)
blank_cut bs u = let run = front_run is_blank bs in blanks_cut bs (prefix_len is_blank bs) u run.within run.passes

-- a text between its quotes
pub closes_ends : (b : ℕ) (bs : List ℕ) → closes false bs ≡ true → (0 < length bs) × (get_or (b ∷ bs) (length bs) 0 ≡ 34)
closes_ends b bs h = (closes_some false bs h, last_is b bs ∙ closes_last false b bs h)
