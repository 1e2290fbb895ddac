-- Names and literals that are well formed are sound tokens, and the other way round.
use Rattle.std.proofs.Common.{◌≡◌, ◌==◌, ℕ, ◌-◌, ◌<◌, Bool, true, false, not, ◌&&◌, List, [], ◌∷◌, length, take, Option, Some, None, option_map, IsUtf8, refl, arith, if◌then◌else◌}
use Rattle.std.specs.Prelude.{is_some}
use Rattle.std.specs.List.{list_all}
use Rattle.std.proofs.lemmas.Bool.{and_parts}
use Rattle.std.proofs.lemmas.Bool.Decides.{nat_tests}
use Rattle.std.proofs.lemmas.Str.{IsUtf8-nil}
use Rattle.loop_tokens.specs.declared.token.Token.{Token}
use Rattle.loop_tokens.specs.declared.token.Token.TheVariants as tok
use Rattle.loop_tokens.specs.declared.keyword.Keyword.{Keyword}
use Rattle.loop_tokens.specs.declared.keyword.AtWord.{AtWord}
use Rattle.loop_tokens.specs.declared.sign.Sign.{Sign}
use Rattle.loop_tokens.specs.Bytes.{is_letter, is_digit, is_word_byte}
use Rattle.loop_tokens.specs.Signs.{sign_of}
use Rattle.loop_tokens.specs.Keywords.{keyword_of, at_word_of}
use Rattle.loop_tokens.specs.Tokens.{named, closes}
use Rattle.loop_grammar.specs.WellFormed.{is_name}
use Rattle.loop_layout.proofs.WrittenUtf8.{ascii_utf8}
use Rattle.loop_writer.proofs.Tidy.{IsSound}

-- ---- what a name is among tokens

by_tests : (l w : Bool) (k : Option Keyword) (bs : List ℕ) (other : Option Token) → l ≡ true → w ≡ true → not (is_some k) ≡ true →
    (if l then (if w then Some (named k bs) else None) else other) ≡ Some (tok.Name bs)
by_tests true true None bs other h g f = refl
by_tests true true (Some k) bs other h g f = absurd (cc)
by_tests true false k bs other h g f = absurd (cc)
by_tests false w k bs other h g f = absurd (cc)

letter_ascii : (b : ℕ) → is_letter b ≡ true → b < 128
letter_ascii b h = grind (arith, nat_tests)

word_ascii : (b : ℕ) → is_word_byte b ≡ true → b < 128
word_ascii b h = grind (arith, nat_tests)

words_utf8 : (bs : List ℕ) → list_all is_word_byte bs ≡ true → IsUtf8 bs
words_utf8 [] h = IsUtf8-nil
words_utf8 (b ∷ bs) h = let p = and_parts (is_word_byte b) (list_all is_word_byte bs) h in ascii_utf8 b bs (word_ascii b p.0) (words_utf8 bs p.1)

pub name_sound : (n : List ℕ) → is_name n ≡ true → IsSound (tok.Name n)
name_sound [] h = absurd (cc)
name_sound (b ∷ bs) h =
    let p = and_parts (is_letter b) (list_all is_word_byte bs && not (is_some (keyword_of (b ∷ bs)))) h in
    let q = and_parts (list_all is_word_byte bs) (not (is_some (keyword_of (b ∷ bs)))) p.1 in
    let other : Option Token = if is_digit b then (if list_all is_digit bs then Some (tok.Number (b ∷ bs)) else None)
    else (if b == 34 then (if closes false bs then Some (tok.Text (take (length bs - 1) bs)) else None)
    else (if b == 64 then option_map tok.At (at_word_of bs) else option_map tok.Sign (sign_of (b ∷ bs)))) in
    (by_tests (is_letter b) (list_all is_word_byte bs) (keyword_of (b ∷ bs)) (b ∷ bs) other p.0 q.0 q.1, ascii_utf8 b bs (letter_ascii b p.0) (words_utf8 bs q.0))

-- ---- the other way round

at_no_name : (o : Option AtWord) (n : List ℕ) → option_map tok.At o ≡ Some (tok.Name n) → ⊥
at_no_name None n h = cc
at_no_name (Some a) n h = cc

sign_no_name : (o : Option Sign) (n : List ℕ) → option_map tok.Sign o ≡ Some (tok.Name n) → ⊥
sign_no_name None n h = cc
sign_no_name (Some a) n h = cc

no_name : (d e q c a : Bool) (x y n : List ℕ) (o : Option AtWord) (s : Option Sign) →
    (if d then (if e then Some (tok.Number x) else None) else (if q then (if c then Some (tok.Text y) else None)
    else (if a then option_map tok.At o else option_map tok.Sign s))) ≡ Some (tok.Name n) → ⊥
no_name true true q c a x y n o s h = cc
no_name true false q c a x y n o s h = cc
no_name false e true true a x y n o s h = cc
no_name false e true false a x y n o s h = cc
no_name false e false c true x y n o s h = at_no_name o n h
no_name false e false c false x y n o s h = sign_no_name s n h

name_tests : (l w : Bool) (k : Option Keyword) (bs n : List ℕ) (other : Option Token) → (other ≡ Some (tok.Name n) → ⊥) →
    (if l then (if w then Some (named k bs) else None) else other) ≡ Some (tok.Name n) → (l && (w && not (is_some k))) ≡ true
name_tests true true None bs n other never h = refl
name_tests true true (Some k) bs n other never h = absurd (let e : Some (tok.Keyword k) ≡ Some (tok.Name n) = h in cc)
name_tests true false k bs n other never h = absurd (cc)
name_tests false w k bs n other never h = absurd (never h)

pub name_is : (n : List ℕ) → IsSound (tok.Name n) → is_name n ≡ true
name_is [] h = absurd (let e : ◌≡◌ {A = Option Token} None (Some (tok.Name [])) = h.0 in cc)
name_is (b ∷ bs) h =
    let other : Option Token = if is_digit b then (if list_all is_digit bs then Some (tok.Number (b ∷ bs)) else None)
    else (if b == 34 then (if closes false bs then Some (tok.Text (take (length bs - 1) bs)) else None)
    else (if b == 64 then option_map tok.At (at_word_of bs) else option_map tok.Sign (sign_of (b ∷ bs)))) in
    name_tests (is_letter b) (list_all is_word_byte bs) (keyword_of (b ∷ bs)) (b ∷ bs) (b ∷ bs) other
    (no_name (is_digit b) (list_all is_digit bs) (b == 34) (closes false bs) (b == 64) (b ∷ bs) (take (length bs - 1) bs) (b ∷ bs) (at_word_of bs) (sign_of (b ∷ bs))) h.0
