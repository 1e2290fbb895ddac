-- That a whole job that was run as one part has a lawful report.
use Rattle.std.proofs.Common.{◌≡◌, ℕ, zero, suc, ◌≤◌, ◌<◌, true, List, [], ◌∷◌, length, Option, Some, None, refl, sym, subst, ◌∙◌, arith}
use Rattle.std.specs.Prelude.{IfSome, min, max, nat_le}
use Rattle.std.specs.List.{slice_index_or}
use Rattle.std.proofs.lemmas.Bool.Decides.{nat_tests}
use Rattle.std.proofs.lemmas.List.Elements.{All-nil}
use Rattle.std.proofs.lemmas.List.Sorted.{IsPermutation-refl}
use Rattle.splittable.specs.Places.{item_count}
use Rattle.splittable.specs.Parts.{Stretch, last_place, whole_of}
use Rattle.splittable.specs.Nodes.{leaves_of}
use Rattle.splittable.proofs.Leaves.{leaves_within-leaf, leaves_of-none, leaves_of-some}
use Rattle.fold_seq.specs.declared.answers.Reduced.{Reduced}
use Rattle.fold_seq.specs.declared.answers.Reduced.TheVariants.{Going, Stopped, Faulted}
use Rattle.fold_seq.specs.Answers.{stop_place_of, StopsWithin, IsGoingAnd}
use Rattle.piece_ledger.specs.Reports.{leaves_up_to, IsLawfulReport, IsStoppedReport, IsExactReport}

-- ---- the report of one leaf

-- the whole is the one leaf of a shape that has items, where the least part size is their number
one_leaf : (lens : List ℕ) (least : ℕ) → 1 ≤ item_count lens → item_count lens ≤ least → leaves_of lens least ≡ whole_of lens ∷ []
one_leaf lens least some le = leaves_of-some lens least some ∙ leaves_within-leaf (item_count lens) least (whole_of lens) le

-- which leaf a list of one holds
only_leaf : (leaf other : Stretch) (k : ℕ) → k < length (leaf ∷ []) → slice_index_or (leaf ∷ []) k other ≡ other → leaf ≡ other
only_leaf leaf other zero lt is = is
only_leaf leaf other (suc k) lt is = absurd (omega arith)

-- how many of one leaf have their first place at or left of a place: one, if it begins there
one_up_to : (leaf : Stretch) (place : ℕ) → leaf.first ≤ place → leaves_up_to place (leaf ∷ []) ≡ 1
one_up_to leaf place le = let e : nat_le leaf.first place ≡ true = grind (arith, nat_tests) in rw e refl

stopped : (leaf : Stretch) (count place : ℕ) → leaf.first ≤ place → IsStoppedReport (leaf ∷ []) count place 1 0
stopped leaf count place le =
    let up : leaves_up_to place (leaf ∷ []) ≡ 1 = one_up_to leaf place le in
    record {
      at_least = omega (arith, up);
      at_most = omega arith;
      few = omega arith;
      none = (λ _. refl, λ _. refl);
      skips = record {
        run = leaf ∷ [];
        left = [];
        all = IsPermutation-refl (leaf ∷ []);
        right = All-nil (λ (other : Stretch). place < other.first);
        ran_is = refl;
        skipped_is = refl;
      };
    }

exact : (leaf : Stretch) (count place : ℕ) → leaf.first ≤ place → count ≡ last_place leaf → IsExactReport (leaf ∷ []) count place 1 0
exact leaf count place le last =
    record {
      ran_is = sym (one_up_to leaf place le);
      skipped_is = λ other there holds. let same = only_leaf leaf other there.0 there.1 there.2 in
          let at : count ≡ last_place other = subst (λ (l : Stretch). count ≡ last_place l) same last in omega (arith, at);
    }

-- the report where the whole was run as the one leaf
whole_leaf : (lens : List ℕ) (workers : ℕ) (place : Option ℕ) → IfSome place (λ at. 1 ≤ at) → IsLawfulReport (whole_of lens ∷ []) (item_count lens) workers place 1 0
whole_leaf lens workers None le = (refl, refl)
whole_leaf lens workers (Some at) le =
    (stopped (whole_of lens) (item_count lens) at le, λ one. exact (whole_of lens) (item_count lens) at le (omega arith))

none_leaf : (workers : ℕ) (place : Option ℕ) → place ≡ None → IsLawfulReport [] 0 workers place 0 0
none_leaf workers place e = subst (λ at. IsLawfulReport [] 0 workers at 0 0) (sym e) (refl, refl)

-- a report that the whole was run as one part, or that there was none, is lawful where it is the one leaf
pub whole_is_lawful : (lens : List ℕ) (workers ran : ℕ) (place : Option ℕ) → IfSome place (λ at. 1 ≤ at) → (item_count lens ≡ 0 → place ≡ None) →
    ran ≡ min (item_count lens) 1 → IsLawfulReport (leaves_of lens (max 1 (item_count lens))) (item_count lens) workers place ran 0
whole_is_lawful lens workers ran place from empty is = at (item_count lens) refl
  where
    at : (n : ℕ) → item_count lens ≡ n → IsLawfulReport (leaves_of lens (max 1 (item_count lens))) (item_count lens) workers place ran 0
    at zero e =
        let none : ran ≡ 0 = omega arith in
        subst (λ r. IsLawfulReport (leaves_of lens (max 1 (item_count lens))) (item_count lens) workers place r 0) (sym none)
        (subst (λ ls. IsLawfulReport ls (item_count lens) workers place 0 0) (sym (leaves_of-none lens _ e))
        (subst (λ c. IsLawfulReport [] c workers place 0 0) (sym e) (none_leaf workers place (empty e))))
    at (suc n) e =
        let one : ran ≡ 1 = omega arith in
        subst (λ r. IsLawfulReport (leaves_of lens (max 1 (item_count lens))) (item_count lens) workers place r 0) (sym one)
        (subst (λ ls. IsLawfulReport ls (item_count lens) workers place 1 0) (sym (one_leaf lens _ (omega arith) (omega arith)))
        (whole_leaf lens workers place from))

-- ---- where the whole stops

pub from_one : {S : Type 0} → (count : ℕ) (r : Reduced S) → StopsWithin 1 count r → IfSome (stop_place_of r) (λ at. 1 ≤ at)
from_one count (Going s) within = tt
from_one count (Stopped at line s) within = within.0
from_one count (Faulted at line kind) within = within.0

pub none_stops : {S : Type 0} → (P : S → Type 0) (r : Reduced S) → IsGoingAnd P r → stop_place_of r ≡ None
none_stops P (Going s) going = refl
none_stops P (Stopped at line s) going = absurd going
none_stops P (Faulted at line kind) going = absurd going
