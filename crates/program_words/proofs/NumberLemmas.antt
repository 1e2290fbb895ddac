-- Digits that no 64 bits hold are no number in a range of 64 bits.
use Rattle.std.proofs.Common.{◌≡◌, ℕ, ◌<◌, ◌^◌, Bool, true, false, List, length, Some, None, Result, Err, refl, subst, rules, arith}
use Rattle.std.specs.Prelude.{◌&&◌, nat_le, if◌then◌else◌}
use Rattle.std.specs.Result.{OkIff}
use Rattle.std.specs.Str.{all_ascii_digits}
use Rattle.std.specs.Str.Parse.{digits_value, ParsesUnsigned}
use Rattle.std.proofs.lemmas.Bool.{leb-true}
use Rattle.std.proofs.lemmas.Str.Parse.{parse_digits, numerals_by_value, tells_all_ascii_digits}
use Rattle.program_words.specs.Numbers.{is_numeral, is_between, number_within}

not_between : (least most n : ℕ) (b : Bool) → most < n → is_between least most n ≡ b → b ≡ false
not_between least most n false lt e = refl
not_between least most n true lt e = let le : nat_le n most ≡ true = search rules in absurd (omega (arith, leb-true n most le))

is_none : (a b : Bool) (n : ℕ) → b ≡ false → None ≡ (if a && b then Some n else None)
is_none true b n e = rw e refl
is_none false b n e = refl

pub not_parsed : {E : Type 0} (least most : ℕ) (text : List ℕ) (r : Result ℕ E) (e : E) → r ≡ Err e → ParsesUnsigned 64 10 text r → is_numeral text ≡ true → most < 2 ^ 64 → None ≡ number_within least most text
not_parsed least most text r e is parses numeral small =
    let digits : all_ascii_digits text ≡ true = search rules in
    let some : nat_le 1 (length text) ≡ true = search rules in
    let own = numerals_by_value (λ ds. all_ascii_digits ds ≡ true) tells_all_ascii_digits in
    let told = parse_digits own 64 text r parses digits in
    let wide : ((0 < length text) × (digits_value 10 text < 2 ^ 64)) → ⊥ =
    subst (λ x. OkIff x ((0 < length text) × (digits_value 10 text < 2 ^ 64)) (digits_value 10 text)) is told in
    let above : digits_value 10 text < 2 ^ 64 → ⊥ = λ lt. wide (omega (arith, leb-true 1 (length text) some), lt) in
    is_none (is_numeral text) (is_between least most (digits_value 10 text)) (digits_value 10 text)
    (not_between least most (digits_value 10 text) (is_between least most (digits_value 10 text)) (omega arith) refl)
