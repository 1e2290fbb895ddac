-- How shares of a weight are gathered.
use Rattle.std.proofs.Common.{◌≡◌, ℕ, zero, suc, ◌+◌, ◌-◌, ◌*◌, ◌/◌, ◌^◌, ◌<◌, ◌≤◌, List, [], ◌∷◌, ◌++◌, length, append_assoc, sum_by, refl, sym, ap, ◌∙◌, subst, arith}
use Rattle.std.specs.List.{AllByRecursion}
use Rattle.std.proofs.lemmas.List.{length-append}
use Rattle.std.proofs.lemmas.List.Sums.{sum_by-append, sum_by-cons}
use Rattle.std.proofs.Math.Nat.{pow-succ'}
use Rattle.part_deque.specs.Steps.{right_weight}
use Rattle.part_deque.specs.Ends.{ThiefEnd, after_split, split_off}
use Rattle.fold_steal.specs.Cuts.{CanSpread, IsFreshEnd, HasAdded}

module _ {A : Type 0} (P : A → Type 0) (weigh : A → ℕ) where
  both_such : (xs ys : List A) → AllByRecursion P xs → AllByRecursion P ys → AllByRecursion P (xs ++ ys)
  both_such [] ys h k = k
  both_such (x ∷ xs) ys h k = (h.0, both_such xs ys h.1 k)

  -- one share
  pub added_one : (old new : List A) (x : A) → P x → new ≡ old ++ x ∷ [] → HasAdded P weigh 1 (weigh x) old new
  added_one old new x p e = record { shares = x ∷ []; added = e; many_are = refl; each = (p, tt); weights = sum_by-cons weigh x [] ∙ (let n : weigh x + 0 ≡ weigh x = omega arith in n) }

  -- some shares, and then others
  pub added_both : (many few all a b weight : ℕ) (old mid new : List A) → many + few ≡ all → a + b ≡ weight → HasAdded P weigh many a old mid → HasAdded P weigh few b mid new → HasAdded P weigh all weight old new
  added_both many few all a b weight old mid new counts weights h k =
      record {
        shares = h.shares ++ k.shares;
        added = k.added ∙ ap (λ l. l ++ k.shares) h.added ∙ append_assoc old h.shares k.shares;
        many_are = (let n = length-append h.shares k.shares in let x = h.many_are in let y = k.many_are in omega (arith, n, x, y, counts));
        each = both_such h.shares k.shares h.each k.each;
        weights = (let s = sum_by-append weigh h.shares k.shares in let x = h.weights in let y = k.weights in omega (arith, s, x, y, weights));
      }

-- an end that can be spread over several can be cut, and each half spread over its share of them
pub can_cut : (many : ℕ) (t : ThiefEnd) → 2 ≤ many → CanSpread many t → 2 * right_weight ≤ t.weight
can_cut many t several (zero, weight, enough) = absurd (let e : many ≤ 1 = enough in omega arith)
can_cut many t several (suc k, weight, enough) =
    let double : 2 ^ suc k ≡ 2 * 2 ^ k = pow-succ' 2 k in
    let some : 1 ≤ 2 ^ k = omega arith in
    omega arith

pub half_spreads : (many few : ℕ) (t : ThiefEnd) → 2 ≤ many → few ≤ many - many / 2 → CanSpread many t → CanSpread few (split_off t) × CanSpread few (after_split t)
half_spreads many few t several part (zero, weight, enough) = absurd (let e : many ≤ 1 = enough in omega arith)
half_spreads many few t several part (suc k, weight, enough) =
    let double : 2 ^ suc k ≡ 2 * 2 ^ k = pow-succ' 2 k in
    ((k, omega arith, omega arith), (k, omega arith, omega arith))
