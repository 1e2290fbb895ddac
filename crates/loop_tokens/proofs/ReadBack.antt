-- What is written is read back.
use Rattle.std.proofs.Common.{◌≡◌, ℕ, Bool, true, false, eqb, List, [], ◌∷◌, ◌++◌, refl, ap, ◌∙◌, arith, append_assoc}
use Rattle.std.proofs.lemmas.Bool.Decides.{nat_tests}
use Rattle.loop_tokens.specs.Literals.{meaning, text_of, escaped, escaped_byte}
use Rattle.loop_tokens.specs.Tokens.{closes}
use Rattle.loop_tokens.specs.Laws.{EscapesReadBack}

-- a byte as it is written
pub record Written (b : ℕ) : Type 0 where
  pub goes_on : (xs : List ℕ) → closes false (escaped_byte b ++ xs) ≡ closes false xs
  pub means : (xs : List ℕ) → meaning false (escaped_byte b ++ xs) ≡ b ∷ meaning false xs

written : (b : ℕ) → Written b
written b = by (eqb b 34) (eqb b 92) (eqb b 10) (eqb b 9) refl refl refl refl where
  plain : eqb b 34 ≡ false → eqb b 92 ≡ false → eqb b 10 ≡ false → eqb b 9 ≡ false → Written b
  plain q e n t = record { goes_on = λ xs. rw (q, e, n, t) (rw (q, e, n) refl); means = λ xs. rw (q, e, n, t) (rw e refl) }

  by : (q e n t : Bool) → eqb b 34 ≡ q → eqb b 92 ≡ e → eqb b 10 ≡ n → eqb b 9 ≡ t → Written b
  by true e n t hq he hn ht = let is : b ≡ 34 = grind (arith, nat_tests) in record { goes_on = λ xs. rw is refl; means = λ xs. rw is refl }
  by false true n t hq he hn ht = let is : b ≡ 92 = grind (arith, nat_tests) in record { goes_on = λ xs. rw is refl; means = λ xs. rw is refl }
  by false false true t hq he hn ht = let is : b ≡ 10 = grind (arith, nat_tests) in record { goes_on = λ xs. rw is refl; means = λ xs. rw is refl }
  by false false false true hq he hn ht = let is : b ≡ 9 = grind (arith, nat_tests) in record { goes_on = λ xs. rw is refl; means = λ xs. rw is refl }
  by false false false false hq he hn ht = plain hq he hn ht

pub escapes_close : (text : List ℕ) → closes false (escaped text ++ 34 ∷ []) ≡ true
escapes_close [] = refl
escapes_close (b ∷ bs) = ap (closes false) (append_assoc (escaped_byte b) (escaped bs) (34 ∷ [])) ∙ (written b).goes_on (escaped bs ++ 34 ∷ []) ∙ escapes_close bs

pub escapes_mean : (text : List ℕ) → text_of (escaped text) ≡ text
escapes_mean [] = refl
escapes_mean (b ∷ bs) = (written b).means (escaped bs) ∙ ap (λ xs. b ∷ xs) (escapes_mean bs)

pub escapes_read_back : EscapesReadBack
escapes_read_back text = (escapes_close text, escapes_mean text)
