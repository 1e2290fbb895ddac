-- The inputs of one tower of a row: those of two lists one after the other, one more, and its start value.
use Rattle.std.proofs.Common.{◌≡◌, ℕ, zero, suc, ◌+◌, ◌<◌, ◌≤◌, List, [], ◌∷◌, ◌++◌, length, map, Bool, true, false, cond, Option, Some, None, refl, ap, ◌∙◌, arith, append-nil, eq-eqb}
use Rattle.std.specs.Prelude.{◌==◌, filter, slice_get}
use Rattle.std.proofs.lemmas.Bool.{eqb-true}
use Rattle.std.proofs.lemmas.List.{map-append}
use Rattle.std.proofs.lemmas.List.Elements.{filter-append}
use Rattle.loop_data.specs.declared.value.Value.{Value}
use Rattle.reducer_tower.specs.declared.row.Emitted.{Emitted}
use Rattle.reducer_tower.specs.declared.named.Named.{Named}
use Rattle.reducer_tower.specs.Laws.{StartsComeFirst}
use Rattle.reducer_tower.specs.Rows.{inputs_of, started_by, starts_from, starts_of}

-- ---- inputs

-- at most as many as the row has
pub few : (i : ℕ) (xs : List Emitted) → length (inputs_of i xs) ≤ length xs
few i [] = omega arith
few i (x ∷ xs) = omega (arith, one (x.tower == i) x (filter (λ e. e.tower == i) xs) (length xs) (few i xs))
  where
    one : (b : Bool) (x : Emitted) (kept : List Emitted) (n : ℕ) → length (map (λ (e : Emitted). e.value) kept) ≤ n → length (map (λ (e : Emitted). e.value) (cond b (x ∷ kept) kept)) ≤ n + 1
    one true x kept n h = omega arith
    one false x kept n h = omega arith

-- those of two lists are those of the first, then those of the second
pub inputs_of-append : (i : ℕ) (xs ys : List Emitted) → inputs_of i (xs ++ ys) ≡ inputs_of i xs ++ inputs_of i ys
inputs_of-append i xs ys = ap (map (λ e. e.value)) (filter-append (λ e. e.tower == i) xs ys) ∙ map-append (λ e. e.value) (filter (λ e. e.tower == i) xs) (filter (λ e. e.tower == i) ys)

-- one input is the tower's where it has its number
pub one_of : (i : ℕ) (x : Emitted) (b : Bool) → (x.tower == i) ≡ b → inputs_of i (x ∷ []) ≡ cond b (x.value ∷ []) []
one_of i x true e = ap (λ b. map (λ (e : Emitted). e.value) (cond b (x ∷ []) [])) e
one_of i x false e = ap (λ b. map (λ (e : Emitted). e.value) (cond b (x ∷ []) [])) e

-- a test of two numbers that aren't one
pub apart : (k i : ℕ) (b : Bool) → (k == i) ≡ b → (k ≡ i → ⊥) → b ≡ false
apart k i true e ne = absurd (ne (eqb-true k i e))
apart k i false e ne = refl

-- ---- start values

abbrev from_start : ℕ → Value → Emitted
from_start k start = record { tower = k; value = start }

start_here : (i k : ℕ) (o : Option Value) → (k == i) ≡ true → inputs_of i (map (from_start k) (started_by o)) ≡ started_by o
start_here i k None e = refl
start_here i k (Some x) e = one_of i (from_start k x) true e

start_there : (i k : ℕ) (o : Option Value) → (k == i) ≡ false → inputs_of i (map (from_start k) (started_by o)) ≡ []
start_there i k None e = refl
start_there i k (Some x) e = one_of i (from_start k x) false e

-- the towers from k on have no start value before k
none_before : (i k : ℕ) (towers : List Named) → i < k → inputs_of i (starts_from k towers) ≡ []
none_before i k [] lt = refl
none_before i k (n ∷ ts) lt =
    inputs_of-append i (map (from_start k) (started_by n.start)) (starts_from (suc k) ts)
    ∙ ap (λ l. l ++ inputs_of i (starts_from (suc k) ts)) (start_there i k n.start (apart k i (k == i) refl (λ e. omega (arith, e))))
    ∙ none_before i (suc k) ts (omega arith)

-- the start value of the tower at j, where the first of the towers has the number k
start_at : (towers : List Named) (i k j : ℕ) (named : Named) → i ≡ k + j → slice_get towers j ≡ Some named → inputs_of i (starts_from k towers) ≡ started_by named.start
start_at [] i k j named e at = cc
start_at (n ∷ ts) i k zero named e at =
    let here : n ≡ named = cc in
    let same : k ≡ i = omega (arith, e) in
    inputs_of-append i (map (from_start k) (started_by n.start)) (starts_from (suc k) ts)
    ∙ ap (λ l. l ++ inputs_of i (starts_from (suc k) ts)) (start_here i k n.start (eq-eqb k i same))
    ∙ ap (λ l. started_by n.start ++ l) (none_before i (suc k) ts (omega arith))
    ∙ append-nil (started_by n.start)
    ∙ ap (λ (z : Named). started_by z.start) here
start_at (n ∷ ts) i k (suc j) named e at =
    inputs_of-append i (map (from_start k) (started_by n.start)) (starts_from (suc k) ts)
    ∙ ap (λ l. l ++ inputs_of i (starts_from (suc k) ts)) (start_there i k n.start (apart k i (k == i) refl (λ f. omega (arith, e, f))))
    ∙ start_at ts i (suc k) j named (omega (arith, e)) at

pub starts_come_first : StartsComeFirst
starts_come_first towers i named inputs at =
    inputs_of-append i (starts_of towers) inputs ∙ ap (λ l. l ++ inputs_of i inputs) (start_at towers i 0 i named (omega arith) at)
