-- What kind of token a byte begins.
use Rattle.std.proofs.Common.{◌≡◌, ◌≢◌, ℕ, Bool, true, false, cond, List, ◌∷◌, Option, Some, None, is_some, option_map, eqb, refl, arith}
use Rattle.std.specs.List.{list_all}
use Rattle.std.proofs.lemmas.Bool.Decides.{nat_tests}
use Rattle.loop_tokens.specs.Bytes.{is_letter, is_digit, is_word_byte}
use Rattle.loop_tokens.specs.Signs.{is_sign, sign_of}
use Rattle.loop_tokens.specs.Keywords.{is_at_word, at_word_of}
use Rattle.loop_tokens.specs.Tokens.{is_token, closes}

some_cond : {X : Type 0} (t : Bool) (x : X) → is_some (cond t (Some x) None) ≡ t
some_cond true x = refl
some_cond false x = refl

some_map : {X Y : Type 0} (f : X → Y) (o : Option X) → is_some (option_map f o) ≡ is_some o
some_map f None = refl
some_map f (Some x) = refl

pub letter_token : (b : ℕ) (xs : List ℕ) → is_letter b ≡ true → is_token (b ∷ xs) ≡ list_all is_word_byte xs
letter_token b xs h = rw h (some_cond (list_all is_word_byte xs) _)

pub digit_token : (b : ℕ) (xs : List ℕ) → is_letter b ≡ false → is_digit b ≡ true → is_token (b ∷ xs) ≡ list_all is_digit xs
digit_token b xs h i = rw (h, i) (some_cond (list_all is_digit xs) _)

pub quote_token : (b : ℕ) (xs : List ℕ) → b ≡ 34 → is_token (b ∷ xs) ≡ closes false xs
quote_token b xs h = rw h (some_cond (closes false xs) _)

pub at_token : (b : ℕ) (xs : List ℕ) → b ≡ 64 → is_token (b ∷ xs) ≡ is_at_word xs
at_token b xs h = rw h (some_map _ (at_word_of xs))

pub sign_token : (b : ℕ) (xs : List ℕ) → is_letter b ≡ false → is_digit b ≡ false → b ≢ 34 → b ≢ 64 → is_token (b ∷ xs) ≡ is_sign (b ∷ xs)
sign_token b xs h i n m =
    let q : eqb b 34 ≡ false = grind (arith, nat_tests) in
    let a : eqb b 64 ≡ false = grind (arith, nat_tests) in
    rw (h, i, q, a) (some_map _ (sign_of (b ∷ xs)))
