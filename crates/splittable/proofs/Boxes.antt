-- A box is cut in two boxes.
use Rattle.std.proofs.Common.{◌≡◌, ℕ, zero, suc, ◌+◌, ◌-◌, ◌*◌, ◌/◌, ◌%◌, ◌<◌, ◌≤◌, ◌⊎◌, inl, inr, true, false, nat_le, if◌then◌else◌, ◌==◌, List, [], ◌∷◌, ◌++◌, replicate, refl, sym, ap, ◌∙◌, arith}
use Rattle.std.proofs.Math.Nat.{mul-le-mul_left}
use Rattle.std.proofs.lemmas.Bool.Decides.{nat_tests}
use Rattle.splittable.specs.Places.{item_count, places_after}
use Rattle.splittable.specs.Parts.{widths, left_of_cut}
use Rattle.splittable.specs.Fields.{IsBox, cut}
use Rattle.splittable.proofs.Products.{same_run, whole_runs, last_of_runs}

-- c is where a box of n items after b others is cut
pub record IsCut (lens : List ℕ) (b n c : ℕ) : Type 0 where
  pub low : 1 ≤ c
  pub high : c < n
  pub left_third : n ≤ 3 * c
  pub right_third : n ≤ 3 * (n - c)
  pub left : IsBox lens b c
  pub right : IsBox lens (b + c) (n - c)
  pub windows : left_of_cut lens (widths (places_after lens b) (places_after lens (b + n - 1))) ≡ c

-- a window of one place on each axis is not cut
pub left_of_cut-one : (lens : List ℕ) (b : ℕ) → left_of_cut lens (widths (places_after lens b) (places_after lens b)) ≡ 0
left_of_cut-one [] b = refl
left_of_cut-one (len ∷ lens) b =
    let one : (b % len + 1) + 1 - (b % len + 1) ≡ 1 = omega arith in
    rw (left_of_cut-one lens (b / len), one) refl

-- a box within one run of the first axis
in_run : (len : ℕ) (lens : List ℕ) (b n : ℕ) → 2 ≤ n → b % len + n ≤ len → IsCut (len ∷ lens) b n (n / 2)
in_run len lens b n many h =
    let last : b % len + (n - 1) < len = omega arith in
    let half : b % len + n / 2 < len = omega arith in
    let ends = same_run b (n - 1) len last in
    let mid = same_run b (n / 2) len half in
    let e : b + n - 1 ≡ b + (n - 1) = omega arith in
    let w : (b % len + (n - 1) + 1) + 1 - (b % len + 1) ≡ n = omega arith in
    record {
      low = omega arith;
      high = omega arith;
      left_third = omega arith;
      right_third = omega arith;
      left = inl (omega arith);
      right = inl (omega (arith, mid.0));
      windows = rw (e, ends.0, ends.1, left_of_cut-one lens (b / len), w) refl;
    }

-- a box of whole runs of the first axis
of_runs : (len : ℕ) (lens : List ℕ) (q m c : ℕ) → 1 ≤ len → 2 ≤ m → IsCut lens q m c → IsCut (len ∷ lens) (len * q) (len * m) (len * c)
of_runs len lens q m c some many h =
    let runs = whole_runs len q some in
    let last = last_of_runs len q m some (omega arith) in
    let w : (len - 1 + 1) + 1 - (0 + 1) ≡ len = omega arith in
    let slow : left_of_cut lens (widths (places_after lens q) (places_after lens (q + m - 1))) ≡ c = h.windows in
    let some_slow : (c == 0) ≡ false = grind (arith, nat_tests, h.low) in
    let parts : m ≡ c + (m - c) = omega (arith, h.high) in
    let split : len * m - len * c ≡ len * (m - c) = omega (arith, ap (λ k. len * k) parts) in
    record {
      low = omega (arith, mul-le-mul_left len h.low);
      high = omega (arith, mul-le-mul_left len h.high);
      left_third = omega (arith, mul-le-mul_left len h.left_third);
      right_third = rw split (omega (arith, mul-le-mul_left len h.right_third));
      left = inr (q, c, refl, refl, h.left);
      right = inr (q + c, m - c, omega arith, split, h.right);
      windows = rw (runs.0, runs.1, last.0, last.1, w, slow, some_slow) refl;
    }

-- how the cut of a list of lengths is worked out
pub cut-in_run : (len : ℕ) (lens : List ℕ) (n : ℕ) → n ≤ len → cut (len ∷ lens) n ≡ n / 2
cut-in_run len lens n h = let e : nat_le n len ≡ true = grind (arith, nat_tests) in rw e refl

pub cut-of_runs : (len : ℕ) (lens : List ℕ) (m : ℕ) → 1 ≤ len → 2 ≤ m → cut (len ∷ lens) (len * m) ≡ len * cut lens m
cut-of_runs len lens m some many =
    let lt : len < len * m = omega (arith, mul-le-mul_left len many) in
    let e : nat_le (len * m) len ≡ false = grind (arith, nat_tests) in
    let runs = whole_runs len m some in
    rw (e, runs.1) refl

-- some whole runs, of two items at least, are one run or several runs
pub runs_cases : (len m : ℕ) → 2 ≤ len * m → (1 ≤ len) × ((m ≡ 1) ⊎ (2 ≤ m))
runs_cases len zero h = absurd (omega (arith, h))
runs_cases len (suc zero) h = (omega (arith, h), inl refl)
runs_cases zero (suc (suc m)) h = absurd (omega (arith, h))
runs_cases (suc len) (suc (suc m)) h = (omega arith, inr (omega arith))

-- one whole run
one_run : (len : ℕ) (lens : List ℕ) (q m : ℕ) → 1 ≤ len → 2 ≤ len * m → m ≡ 1 → IsCut (len ∷ lens) (len * q) (len * m) (cut (len ∷ lens) (len * m))
one_run len lens q m some many one =
    let runs = whole_runs len q some in
    let e : len * m ≡ len = omega (arith, ap (λ k. len * k) one) in
    let le : len * m ≤ len = omega (arith, e) in
    let fits : (len * q) % len + len * m ≤ len = omega (arith, runs.0, e) in
    rw (cut-in_run len lens (len * m) le) (in_run len lens (len * q) (len * m) many fits)

-- a box is cut in two boxes, where its window on the slowest axis with a window longer than one is cut in two
pub cut_box : (lens : List ℕ) (b n : ℕ) → 2 ≤ n → IsBox lens b n → IsCut lens b n (cut lens n)
cut_box [] b n many h = absurd (omega (arith, h.1))
cut_box (len ∷ lens) b n many (inl h) =
    let le : n ≤ len = omega arith in
    rw (cut-in_run len lens n le) (in_run len lens b n many h)
cut_box (len ∷ lens) b n many (inr (q, m, eb, en, is_box)) =
    let many' : 2 ≤ len * m = omega (arith, many, en) in
    let cases = runs_cases len m many' in
    let P : ℕ → ℕ → Type 0 = λ b n. IsCut (len ∷ lens) b n (cut (len ∷ lens) n) in
    let here : P (len * q) (len * m) =
    elim cases.1 [
      | inl one ↦ one_run len lens q m cases.0 many' one
      | inr more ↦ rw (cut-of_runs len lens m cases.0 more) (of_runs len lens q m (cut lens m) cases.0 more (cut_box lens q m more is_box))
    ] in
    rw (eb, en) here

-- all places are a box
pub whole_box : (lens : List ℕ) → IsBox lens 0 (item_count lens)
whole_box [] = (refl, refl)
whole_box (len ∷ lens) = inr (0, item_count lens, omega arith, refl, whole_box lens)

-- an axis of one place changes no box
pub padded_box : (lens : List ℕ) (k b n : ℕ) → IsBox lens b n → IsBox (lens ++ replicate k 1) b n
padded_box [] zero b n h = h
padded_box [] (suc k) b n h = inl (rw (h.0, h.1) (omega arith))
padded_box (len ∷ lens) k b n (inl h) = inl h
padded_box (len ∷ lens) k b n (inr (q, m, eb, en, h)) = inr (q, m, eb, en, padded_box lens k q m h)

-- and no cut
cut-ones : (k : ℕ) → cut (replicate k 1) 1 ≡ 0
cut-ones zero = refl
cut-ones (suc k) = refl

pub cut-padded : (lens : List ℕ) (k b n : ℕ) → IsBox lens b n → cut (lens ++ replicate k 1) n ≡ cut lens n
cut-padded [] k b n h = rw h.1 (cut-ones k)
cut-padded (len ∷ lens) k b n (inl h) =
    let le : n ≤ len = omega arith in
    cut-in_run len (lens ++ replicate k 1) n le ∙ sym (cut-in_run len lens n le)
cut-padded (zero ∷ lens) k b n (inr (q, m, eb, en, h)) =
    let le : n ≤ 0 = omega (arith, en) in
    cut-in_run 0 (lens ++ replicate k 1) n le ∙ sym (cut-in_run 0 lens n le)
cut-padded (suc len ∷ lens) k b n (inr (q, m, eb, en, h)) =
    let runs = whole_runs (suc len) m (omega arith) in
    let same : cut (lens ++ replicate k 1) (n / suc len) ≡ cut lens (n / suc len) = rw (en, runs.1) (cut-padded lens k q m h) in
    ap (λ c. if nat_le n (suc len) then n / 2 else suc len * c) same
