-- One of several seats took a turn.
use Rattle.std.proofs.Common.{◌≡◌, ℕ, zero, suc, ◌<◌, List, [], ◌∷◌, length, set, get_or, ap, ◌∙◌, arith}
use Rattle.fold_steal.specs.declared.seats.Held.{Held}
use Rattle.fold_steal.specs.Crews.{fixed, all_fixed}

module _ {S : Type 0} where
  set_same : (xs : List (Held S)) (k : ℕ) (y d : Held S) → k < length xs → fixed y ≡ fixed (get_or xs k d) → all_fixed (set xs k y) ≡ all_fixed xs
  set_same [] k y d lt e = absurd (omega arith)
  set_same (x ∷ xs) zero y d lt e = ap (λ f. f ∷ all_fixed xs) e
  set_same (x ∷ xs) (suc k) y d lt e = ap (λ l. fixed x ∷ l) (set_same xs k y d (omega arith) e)

  -- the seat at this place took a turn, which changes nothing of what is fixed
  pub turned_same : (xs : List (Held S)) (k : ℕ) (x y : Held S) → k < length xs → x ≡ get_or xs k x → fixed y ≡ fixed x → all_fixed (set xs k y) ≡ all_fixed xs
  turned_same xs k x y lt is e = set_same xs k y x lt (e ∙ ap fixed is)
