-- How many outcomes were run of how many leaves, whole and up to a place.
use Rattle.std.proofs.Common.{◌≡◌, ℕ, ◌+◌, ◌<◌, ◌≤◌, ◌⊎◌, inl, inr, if◌then◌else◌, cond, Bool, true, false, Option, Some, None, List, [], ◌∷◌, length, refl, sym, ap, ◌∙◌, subst, arith}
use Rattle.std.specs.Prelude.{nat_le}
use Rattle.std.specs.List.{All, AllByRecursion, count_by, sum_by, flat_map}
use Rattle.std.specs.List.Sorted.{IsPermutation}
use Rattle.std.proofs.lemmas.Bool.{cases_lt, le-leb, lt-leb}
use Rattle.std.proofs.lemmas.List.{length-append}
use Rattle.std.proofs.lemmas.List.Elements.{All-contains, All-weaker}
use Rattle.std.proofs.lemmas.List.Sums.{sum_by-cons, sum_by-append}
use Rattle.std.proofs.lemmas.List.Sorted.{IsPermutation-sym, Contains-permutation, sum_by-IsPermutation}
use Rattle.splittable.specs.Places.{item_count}
use Rattle.splittable.specs.Parts.{Stretch, HoldsPlace, AreNeighbours}
use Rattle.splittable.specs.Nodes.{IsNode, IsLeaf, leaves_under, leaves_of}
use Rattle.splittable.proofs.Nesting.{node_lies, leaf_lies_in}
use Rattle.splittable.proofs.Covers.{leaves_of_neighbours}
use Rattle.splittable.proofs.LeafList.{leaves_are_leaves, leaves_of_leaf, neighbours_under_node}
use Rattle.fold_seq.specs.declared.answers.Reduced.{Reduced}
use Rattle.piece_ledger.specs.declared.outcomes.Outcome.{Outcome}
use Rattle.piece_ledger.specs.declared.outcomes.OutcomeKind.{OutcomeKind}
use Rattle.piece_ledger.specs.declared.outcomes.OutcomeKind.TheVariants.{Ran, Skipped}
use Rattle.piece_ledger.specs.Outcomes.{has_run, KindStopsAt, KindRunsOnly, KindSkipsAt}
use Rattle.piece_ledger.specs.Logs.{LiesAmong, IsLeftStop, IsWhole, IsRightOfStop, IsLeftmostStop, RunsNoneRightOfStop, OutcomesStand, IsCollectable}
use Rattle.piece_ledger.specs.Tallies.{skipped_items}
use Rattle.piece_ledger.specs.Reports.{leaves_up_to, IsExactReport, IsLawfulReport}
use Rattle.piece_ledger.proofs.Neighbours.{all_from_contains, at_contains, count_none, neighbours_sum}
use Rattle.piece_ledger.proofs.Sorting.{sorted_of}
use Rattle.piece_ledger.proofs.Standing.{part_of, parts_of, near_from}

-- parts next to each other are some, where some place lies between
some_neighbours : (from to : ℕ) (parts : List Stretch) → AreNeighbours from parts to → from < to → 1 ≤ length parts
some_neighbours from to [] near less = let e : from ≡ to = near in absurd (omega (arith, e, less))
some_neighbours from to (part ∷ parts) near less = omega arith

-- leaves begin within their node
pub begin_at : (from to : ℕ) (parts : List Stretch) → AreNeighbours from parts to → AllByRecursion (λ (p : Stretch). from ≤ p.first) parts
begin_at from to [] near = tt
begin_at from to (part ∷ parts) near =
    let first = near.0 in
    let rest = begin_at (part.first + part.len) to parts near.1 in
    (omega (arith, first), all_from_contains (λ (p : Stretch). from ≤ p.first) parts (λ p c. let low = at_contains (λ (q : Stretch). part.first + part.len ≤ q.first) parts p rest c in omega (arith, first, low)))

-- so many outcomes ran, so many items were skipped, and there are so many leaves
pub record AreTotals (ran skipped leaves : ℕ) : Type 0 where
  pub most : ran ≤ leaves
  pub none_to : skipped ≡ 0 → ran ≡ leaves
  pub none_back : ran ≡ leaves → skipped ≡ 0

totals_same : (ran skipped leaves ran' skipped' leaves' : ℕ) → ran' ≡ ran → skipped' ≡ skipped → leaves' ≡ leaves → AreTotals ran skipped leaves → AreTotals ran' skipped' leaves'
totals_same ran skipped leaves ran' skipped' leaves' e1 e2 e3 h =
    let most = h.most in
    record {
      most = omega (arith, e1, e3, most);
      none_to = λ none. let same = h.none_to (omega (arith, e2, none)) in omega (arith, e1, e3, same);
      none_back = λ same. let none = h.none_back (omega (arith, e1, e3, same)) in omega (arith, e2, none);
    }

at_most_one : (b : Bool) → cond {A = ℕ} b 1 0 ≤ 1
at_most_one true = omega arith
at_most_one false = omega arith

module _ {S : Type 0} where
  -- one outcome more
  totals_kind : (part : Stretch) (kind : OutcomeKind S) (ran skipped leaves here : ℕ) → 1 ≤ part.len → 1 ≤ here → KindRunsOnly (λ _. here ≡ 1) part kind → AreTotals ran skipped leaves →
      AreTotals (cond {A = ℕ} (has_run kind) 1 0 + ran) ((if has_run kind then 0 else part.len) + skipped) (here + leaves)
  totals_kind part (Ran answer) ran skipped leaves here some some' one h =
      let most = h.most in
      record {
        most = omega (arith, one, most);
        none_to = λ none. let same = h.none_to (omega (arith, none)) in omega (arith, one, same);
        none_back = λ same. let none = h.none_back (omega (arith, one, same)) in omega (arith, none);
      }
  totals_kind part (Skipped seen) ran skipped leaves here some some' one h =
      let most = h.most in
      record {
        most = omega (arith, some', most);
        none_to = λ none. absurd (omega (arith, none, some));
        none_back = λ same. absurd (omega (arith, same, some', most));
      }

  -- what an outcome of whole logs says of itself
  pub record IsSound (lens : List ℕ) (least : ℕ) (o : Outcome S) : Type 0 where
    pub some : 1 ≤ o.part.len
    pub node : IsNode lens least o.part
    pub leaf : KindRunsOnly (IsLeaf lens least) o.part o.kind

  pub one_leaf : (lens : List ℕ) (least : ℕ) (part : Stretch) (kind : OutcomeKind S) → KindRunsOnly (IsLeaf lens least) part kind → KindRunsOnly (λ _. leaves_under least part ≡ part ∷ []) part kind
  one_leaf lens least part (Ran _) h = leaves_of_leaf least part h.1
  one_leaf lens least part (Skipped _) h = tt

  one_length : (least : ℕ) (part : Stretch) (kind : OutcomeKind S) → KindRunsOnly (λ _. leaves_under least part ≡ part ∷ []) part kind → KindRunsOnly (λ _. length (leaves_under least part) ≡ 1) part kind
  one_length least part (Ran _) h = ap length h
  one_length least part (Skipped _) h = tt

  pub totals : (lens : List ℕ) (least : ℕ) → 1 ≤ least → (outcomes : List (Outcome S)) → AllByRecursion (IsSound lens least) outcomes →
      AreTotals (count_by (λ (o : Outcome S). has_run o.kind) outcomes) (sum_by skipped_items outcomes) (length (flat_map (leaves_under least) (parts_of outcomes)))
  totals lens least large [] h = record { most = omega arith; none_to = λ _. refl; none_back = λ _. refl }
  totals lens least large (o ∷ rest) h =
      let here = h.0 in
      let f : Outcome S → ℕ = λ (o : Outcome S). cond {A = ℕ} (has_run o.kind) 1 0 in
      let leaves = leaves_under least o.part in
      let some = here.some in
      let some_leaf = some_neighbours o.part.first (o.part.first + o.part.len) leaves (neighbours_under_node lens least o.part here.node large) (omega (arith, some)) in
      let more = totals lens least large rest h.1 in
      totals_same _ _ _ _ _ _ (sum_by-cons f o rest) (sum_by-cons skipped_items o rest) (length-append leaves (flat_map (leaves_under least) (parts_of rest)))
      (totals_kind o.part o.kind _ _ _ (length leaves) some some_leaf (one_length least o.part o.kind (one_leaf lens least o.part o.kind here.leaf)) more)

  -- how many leaves of one outcome begin at or left of a place
  up_kind : (place : ℕ) (part : Stretch) (kind : OutcomeKind S) (leaves : List Stretch) → KindRunsOnly (λ _. leaves ≡ part ∷ []) part kind → KindSkipsAt (λ _. leaves_up_to place leaves ≡ 0) kind →
      leaves_up_to place leaves ≤ cond {A = ℕ} (has_run kind) 1 0
  up_kind place part (Ran _) leaves one none =
      let P : List Stretch → Type 0 = λ l. leaves_up_to place l ≤ 1 in
      let cons = sum_by-cons (λ (leaf : Stretch). cond {A = ℕ} (nat_le leaf.first place) 1 0) part [] in
      let most = at_most_one (nat_le part.first place) in
      subst P (sym one) (omega (arith, cons, most))
  up_kind place part (Skipped _) leaves one none = omega (arith, none)

  up_exact : (place : ℕ) (part : Stretch) (kind : OutcomeKind S) (leaves : List Stretch) → KindRunsOnly (λ _. leaves ≡ part ∷ []) part kind → KindSkipsAt (λ _. leaves_up_to place leaves ≡ 0) kind →
      KindRunsOnly (λ (p : Stretch). p.first ≤ place) part kind → leaves_up_to place leaves ≡ cond {A = ℕ} (has_run kind) 1 0
  up_exact place part (Ran _) leaves one none left =
      let P : List Stretch → Type 0 = λ l. leaves_up_to place l ≡ 1 in
      let cons = sum_by-cons (λ (leaf : Stretch). cond {A = ℕ} (nat_le leaf.first place) 1 0) part [] in
      let yes : cond {A = ℕ} (nat_le part.first place) 1 0 ≡ 1 = ap (λ b. cond {A = ℕ} b 1 0) (le-leb part.first place left) in
      subst P (sym one) (omega (arith, cons, yes))
  up_exact place part (Skipped _) leaves one none left = none

  -- an outcome that was skipped lies right of a place
  abbrev pub LiesRight : ℕ → Outcome S → Type 0
  LiesRight place o = KindSkipsAt (λ _. place < o.part.first) o.kind

  none_up : (lens : List ℕ) (least place : ℕ) → 1 ≤ least → (part : Stretch) (kind : OutcomeKind S) → IsNode lens least part → KindSkipsAt (λ _. place < part.first) kind →
      KindSkipsAt (λ _. leaves_up_to place (leaves_under least part) ≡ 0) kind
  none_up lens least place large part (Ran _) node right = tt
  none_up lens least place large part (Skipped _) node right =
      let begin = begin_at part.first (part.first + part.len) (leaves_under least part) (neighbours_under_node lens least part node large) in
      count_none (λ (leaf : Stretch). nat_le leaf.first place) (leaves_under least part) (all_from_contains (λ (leaf : Stretch). nat_le leaf.first place ≡ false) (leaves_under least part)
      (λ leaf c. let low = at_contains (λ (q : Stretch). part.first ≤ q.first) (leaves_under least part) leaf begin c in lt-leb leaf.first place (omega (arith, right, low))))

  pub up_to : (lens : List ℕ) (least place : ℕ) → 1 ≤ least → (outcomes : List (Outcome S)) → AllByRecursion (IsSound lens least) outcomes → AllByRecursion (LiesRight place) outcomes →
      leaves_up_to place (flat_map (leaves_under least) (parts_of outcomes)) ≤ count_by (λ (o : Outcome S). has_run o.kind) outcomes
  up_to lens least place large [] h right = omega arith
  up_to lens least place large (o ∷ rest) h right =
      let here = h.0 in
      let leaves = leaves_under least o.part in
      let more = up_to lens least place large rest h.1 right.1 in
      let cons = sum_by-cons (λ (o : Outcome S). cond {A = ℕ} (has_run o.kind) 1 0) o rest in
      let both = sum_by-append (λ (leaf : Stretch). cond {A = ℕ} (nat_le leaf.first place) 1 0) leaves (flat_map (leaves_under least) (parts_of rest)) in
      let one = up_kind place o.part o.kind leaves (one_leaf lens least o.part o.kind here.leaf) (none_up lens least place large o.part o.kind here.node right.0) in
      omega (arith, more, cons, both, one)

  abbrev pub RunsLeft : ℕ → Outcome S → Type 0
  RunsLeft place o = KindRunsOnly (λ (p : Stretch). p.first ≤ place) o.part o.kind

  pub up_to_exact : (lens : List ℕ) (least place : ℕ) → 1 ≤ least → (outcomes : List (Outcome S)) → AllByRecursion (IsSound lens least) outcomes → AllByRecursion (LiesRight place) outcomes → AllByRecursion (RunsLeft place) outcomes →
      leaves_up_to place (flat_map (leaves_under least) (parts_of outcomes)) ≡ count_by (λ (o : Outcome S). has_run o.kind) outcomes
  up_to_exact lens least place large [] h right left = refl
  up_to_exact lens least place large (o ∷ rest) h right left =
      let here = h.0 in
      let leaves = leaves_under least o.part in
      let more = up_to_exact lens least place large rest h.1 right.1 left.1 in
      let cons = sum_by-cons (λ (o : Outcome S). cond {A = ℕ} (has_run o.kind) 1 0) o rest in
      let both = sum_by-append (λ (leaf : Stretch). cond {A = ℕ} (nat_le leaf.first place) 1 0) leaves (flat_map (leaves_under least) (parts_of rest)) in
      let one = up_exact place o.part o.kind leaves (one_leaf lens least o.part o.kind here.leaf) (none_up lens least place large o.part o.kind here.node right.0) left.0 in
      omega (arith, more, cons, both, one)
