-- A text read byte by byte.
use Rattle.std.proofs.Common.{◌≡◌, ℕ, zero, suc, ◌+◌, ◌-◌, ◌<◌, ◌≤◌, Bool, true, false, List, [], ◌∷◌, length, take, drop, get_or, refl, ap, sym, ◌∙◌, subst, arith, rules, below_more, ⊎_elim, is_some, eqb, cond, not, ◌&&◌, ◌≢◌}
use Rattle.std.proofs.lemmas.List.{at_drop_more}
use Rattle.std.proofs.lemmas.Bool.{cases_lt}
use Rattle.std.proofs.lemmas.Bool.Decides.{nat_tests}
use Rattle.loop_tokens.specs.Bytes.{escape}
use Rattle.loop_tokens.specs.Tokens.{IsLongestFront, NoFront, closes, is_empty}
use Rattle.loop_tokens.proofs.Fronts.{front_closes}

-- i bytes were read and the text hasn't closed; `escaped` says whether a backslash was the last
pub record Scan (bs : List ℕ) (i : ℕ) (escaped : Bool) : Type 0 where
  pub ahead : (m : ℕ) → closes false (take (i + m) bs) ≡ closes escaped (take m (drop i bs))
  pub behind : (m : ℕ) → m < i + 1 → closes false (take m bs) ≡ false

pub scan_start : (bs : List ℕ) → Scan bs 0 false
scan_start bs = record { ahead = λ m. search rules; behind = first } where
  first : (m : ℕ) → m < 0 + 1 → closes false (take m bs) ≡ false
  first zero le = refl
  first (suc m) le = absurd (omega arith)

at_more : (bs : List ℕ) (i : ℕ) (e : Bool) → Scan bs i e → i < length bs → (m : ℕ) → closes false (take (i + suc m) bs) ≡ closes e (get_or bs i 0 ∷ take m (drop (i + 1) bs))
at_more bs i e s lt m = s.ahead (suc m) ∙ at_drop_more (λ xs. closes e (take (suc m) xs)) bs i 0 lt

pub scan_step : (bs : List ℕ) (i : ℕ) (e e' : Bool) → Scan bs i e → i < length bs → ((xs : List ℕ) → closes e (get_or bs i 0 ∷ xs) ≡ closes e' xs) → Scan bs (i + 1) e'
scan_step bs i e e' s lt same =
    let shift : (m : ℕ) → closes false (take (i + 1 + m) bs) ≡ closes false (take (i + suc m) bs) = λ m. ap (λ (k : ℕ). closes false (take k bs)) (omega arith) in
    record {
      ahead = λ m. shift m ∙ at_more bs i e s lt m ∙ same (take m (drop (i + 1) bs));
      behind = below_more (λ m. closes false (take m bs) ≡ false) (i + 1) s.behind (at_more bs i e s lt 0 ∙ same []);
    }

-- the text closes at this byte
pub scan_close : (bs : List ℕ) (i : ℕ) (e : Bool) → Scan bs i e → i < length bs → closes e (get_or bs i 0 ∷ []) ≡ true → IsLongestFront (closes false) bs (i + 1)
scan_close bs i e s lt h = front_closes bs (i + 1) (omega arith) (at_more bs i e s lt 0 ∙ h)

-- the text can't go on at this byte
pub scan_fail : (bs : List ℕ) (i : ℕ) (e : Bool) → Scan bs i e → i < length bs → ((xs : List ℕ) → closes e (get_or bs i 0 ∷ xs) ≡ false) → NoFront (closes false) bs
scan_fail bs i e s lt none n le = ⊎_elim (λ less. s.behind n less) later (cases_lt n (i + 1)) where
  later : i + 1 ≤ n → closes false (take n bs) ≡ false
  later more = let P : ℕ → Type 0 = λ k. closes false (take k bs) ≡ false in
      let there : i + suc (n - (i + 1)) ≡ n = omega arith in
      subst P there (at_more bs i e s lt (n - (i + 1)) ∙ none _)

-- the bytes end before the text does
pub scan_end : (bs : List ℕ) (i : ℕ) (e : Bool) → Scan bs i e → length bs ≤ i → NoFront (closes false) bs
scan_end bs i e s end n le = s.behind n (omega arith)

-- ---- one byte

pub bad_escape : (b : ℕ) (xs : List ℕ) → is_some (escape b) ≡ false → closes true (b ∷ xs) ≡ false
bad_escape b xs h = rw h refl

pub good_escape : (b : ℕ) (xs : List ℕ) → is_some (escape b) ≡ true → closes true (b ∷ xs) ≡ closes false xs
good_escape b xs h = rw h refl

pub at_quote : (b : ℕ) → b ≡ 34 → closes false (b ∷ []) ≡ true
at_quote b h = rw h refl

pub at_line_end : (b : ℕ) (xs : List ℕ) → b ≡ 10 → closes false (b ∷ xs) ≡ false
at_line_end b xs h = rw h refl

closes_cases : (q e f : Bool) (xs : List ℕ) → q ≡ false → f ≡ false → cond q (is_empty xs) (cond e (closes true xs) (not f && closes false xs)) ≡ closes e xs
closes_cases true e f xs h i = cc
closes_cases false e true xs h i = cc
closes_cases false true false xs h i = refl
closes_cases false false false xs h i = refl

pub at_other : (b : ℕ) (e : Bool) (xs : List ℕ) → b ≢ 34 → b ≢ 10 → e ≡ eqb b 92 → closes false (b ∷ xs) ≡ closes e xs
at_other b e xs n m h = closes_cases (eqb b 34) (eqb b 92) (eqb b 10) xs (grind (arith, nat_tests)) (grind (arith, nat_tests)) ∙ ap (λ t. closes t xs) (sym h)
