-- Logs that are whole, and in which each skip lies right of a stop, have a lawful tally.
use Rattle.std.proofs.Common.{◌≡◌, ℕ, ◌+◌, ◌<◌, ◌≤◌, ◌⊎◌, inl, inr, if◌then◌else◌, cond, Bool, true, false, Option, Some, None, List, [], ◌∷◌, length, refl, sym, ap, ◌∙◌, subst, arith}
use Rattle.std.specs.Prelude.{nat_le}
use Rattle.std.specs.List.{All, AllByRecursion, count_by, sum_by, flat_map}
use Rattle.std.specs.List.Sorted.{IsPermutation}
use Rattle.std.proofs.lemmas.Bool.{cases_lt, le-leb, lt-leb}
use Rattle.std.proofs.lemmas.List.{length-append}
use Rattle.std.proofs.lemmas.List.Elements.{All-contains, All-weaker}
use Rattle.std.proofs.lemmas.List.Sums.{sum_by-cons, sum_by-append}
use Rattle.std.proofs.lemmas.List.Sorted.{IsPermutation-sym, Contains-permutation, sum_by-IsPermutation}
use Rattle.splittable.specs.Places.{item_count}
use Rattle.splittable.specs.Parts.{Stretch, HoldsPlace, AreNeighbours}
use Rattle.splittable.specs.Nodes.{IsNode, IsLeaf, leaves_under, leaves_of}
use Rattle.splittable.proofs.Nesting.{node_lies, leaf_lies_in}
use Rattle.splittable.proofs.Covers.{leaves_of_neighbours}
use Rattle.splittable.proofs.LeafList.{leaves_are_leaves, leaves_of_leaf, neighbours_under_node}
use Rattle.fold_seq.specs.declared.answers.Reduced.{Reduced}
use Rattle.piece_ledger.specs.declared.outcomes.Outcome.{Outcome}
use Rattle.piece_ledger.specs.declared.outcomes.OutcomeKind.{OutcomeKind}
use Rattle.piece_ledger.specs.declared.outcomes.OutcomeKind.TheVariants.{Ran, Skipped}
use Rattle.piece_ledger.specs.Outcomes.{has_run, KindStopsAt, KindRunsOnly, KindSkipsAt}
use Rattle.piece_ledger.specs.Logs.{LiesAmong, IsLeftStop, IsWhole, IsRightOfStop, IsLeftmostStop, RunsNoneRightOfStop, OutcomesStand, IsCollectable}
use Rattle.piece_ledger.specs.Tallies.{skipped_items}
use Rattle.piece_ledger.specs.Reports.{leaves_up_to, LeavesSkipped, IsExactReport, IsLawfulReport}
use Rattle.piece_ledger.proofs.Neighbours.{all_from_contains, at_contains, count_none, neighbours_sum}
use Rattle.piece_ledger.proofs.Sorting.{sorted_of}
use Rattle.piece_ledger.proofs.Standing.{part_of, parts_of, near_from}
use Rattle.piece_ledger.proofs.Counting.{IsSound, AreTotals, totals, LiesRight, RunsLeft, up_to, up_to_exact}
use Rattle.piece_ledger.proofs.Leaving.{skipped_leaves}

module _ {S : Type 0} where
  -- how many items are skipped of outcomes next to each other: none, or few
  few_kind : (kind : OutcomeKind S) (n from to place skipped : ℕ) → 1 ≤ n → from + n ≤ to → KindSkipsAt (λ _. place < from) kind →
      (skipped ≡ 0) ⊎ ((skipped + (from + n) ≤ to) × (skipped + (place + 1) ≤ to)) →
      ((if has_run kind then 0 else n) + skipped ≡ 0) ⊎ (((if has_run kind then 0 else n) + skipped + from ≤ to) × ((if has_run kind then 0 else n) + skipped + (place + 1) ≤ to))
  few_kind (Ran _) n from to place skipped some in' right (inl none) = inl (omega (arith, none))
  few_kind (Ran _) n from to place skipped some in' right (inr h) = inr (omega (arith, h.0), omega (arith, h.1))
  few_kind (Skipped _) n from to place skipped some in' right (inl none) = inr (omega (arith, none, in'), omega (arith, none, in', right))
  few_kind (Skipped _) n from to place skipped some in' right (inr h) = inr (omega (arith, h.0), omega (arith, h.0, right))

  pub few : (lens : List ℕ) (least place from to : ℕ) (outcomes : List (Outcome S)) → AllByRecursion (IsSound lens least) outcomes → AllByRecursion (LiesRight place) outcomes → AreNeighbours from (parts_of outcomes) to →
      (sum_by skipped_items outcomes ≡ 0) ⊎ ((sum_by skipped_items outcomes + from ≤ to) × (sum_by skipped_items outcomes + (place + 1) ≤ to))
  few lens least place from to [] h right near = inl refl
  few lens least place from to (o ∷ rest) h right near =
      let here = h.0 in
      let some = here.some in
      let first = near.0 in
      let all = neighbours_sum part_of (o.part.first + o.part.len) to rest near.1 in
      let cons = sum_by-cons skipped_items o rest in
      let more = few lens least place (o.part.first + o.part.len) to rest h.1 right.1 near.1 in
      let step = few_kind o.kind o.part.len o.part.first to place (sum_by skipped_items rest) some (omega (arith, all)) right.0 more in
      elim step [
        | inl none ↦ inl (omega (arith, cons, none))
        | inr h ↦ inr (omega (arith, cons, first, h.0), omega (arith, cons, h.1))
      ]

  -- each part that ran ends at or before a place, and each that was skipped begins there or after it
  abbrev pub IsCut : ℕ → Outcome S → Type 0
  IsCut end o = KindRunsOnly (λ (p : Stretch). p.first + p.len ≤ end) o.part o.kind × KindSkipsAt (λ _. end ≤ o.part.first) o.kind

  cut_kind : (part : Stretch) (kind : OutcomeKind S) (from to end skipped : ℕ) → 1 ≤ part.len → part.first ≡ from → end ≤ to → KindRunsOnly (λ (p : Stretch). p.first + p.len ≤ end) part kind → KindSkipsAt (λ _. end ≤ part.first) kind →
      (end ≤ part.first + part.len → skipped + (part.first + part.len) ≡ to) → (part.first + part.len ≤ end → skipped + end ≡ to) →
      (end ≤ from → (if has_run kind then 0 else part.len) + skipped + from ≡ to) × (from ≤ end → (if has_run kind then 0 else part.len) + skipped + end ≡ to)
  cut_kind part (Ran _) from to end skipped some first in' ran right after before =
      (λ past. absurd (omega (arith, past, ran, some, first)), λ low. let e = before ran in omega (arith, e))
  cut_kind part (Skipped _) from to end skipped some first in' ran right after before =
      (λ past. let e = after (omega (arith, past, first)) in omega (arith, e, first), λ low. let e = after (omega (arith, right)) in omega (arith, e, low, right, first))

  pub cut_exact : (lens : List ℕ) (least from to end : ℕ) (outcomes : List (Outcome S)) → AllByRecursion (IsSound lens least) outcomes → AllByRecursion (IsCut end) outcomes → end ≤ to → AreNeighbours from (parts_of outcomes) to →
      (end ≤ from → sum_by skipped_items outcomes + from ≡ to) × (from ≤ end → sum_by skipped_items outcomes + end ≡ to)
  cut_exact lens least from to end [] h cut in' near = let e : from ≡ to = near in (λ past. omega (arith, e), λ low. omega (arith, e, low, in'))
  cut_exact lens least from to end (o ∷ rest) h cut in' near =
      let cons = sum_by-cons skipped_items o rest in
      let more = cut_exact lens least (o.part.first + o.part.len) to end rest h.1 cut.1 in' near.1 in
      let step = cut_kind o.part o.kind from to end (sum_by skipped_items rest) h.0.some near.0 in' cut.0.0 cut.0.1 more.0 more.1 in
      (λ past. let e = step.0 past in omega (arith, cons, e), λ low. let e = step.1 low in omega (arith, cons, e))

  -- the leaf that holds the place is where what ran ends
  pub cut_at : (lens : List ℕ) (least place : ℕ) (leaf part : Stretch) (kind : OutcomeKind S) → IsLeaf lens least leaf → HoldsPlace leaf place → 1 ≤ part.len → IsNode lens least part → KindRunsOnly (IsLeaf lens least) part kind →
      KindRunsOnly (λ (p : Stretch). p.first ≤ place) part kind → KindSkipsAt (λ _. place < part.first) kind →
      KindRunsOnly (λ (p : Stretch). p.first + p.len ≤ leaf.first + leaf.len) part kind × KindSkipsAt (λ _. leaf.first + leaf.len ≤ part.first) kind
  cut_at lens least place leaf part (Ran _) is_leaf holds some node ran left right = (
    elim (cases_lt (leaf.first + leaf.len) (part.first + part.len)) [
      | inl past ↦ (let in' = leaf_lies_in lens least place part leaf ran is_leaf.0 (left, (let high = holds.1 in omega (arith, past, high))) holds in in'.1)
      | inr le ↦ le
    ],
    tt,
  )
  cut_at lens least place leaf part (Skipped _) is_leaf holds some node ran left right = (
    tt,
    elim (cases_lt part.first (leaf.first + leaf.len)) [
      | inl shared ↦ absurd (
          let low = holds.0 in
          let in' = leaf_lies_in lens least part.first leaf part is_leaf node (omega (arith, low, right), shared) (omega arith, omega (arith, some)) in
          omega (arith, in'.0, low, right))
      | inr apart ↦ apart
    ],
  )

  -- whole logs in the order of their places
  record IsLaidOut (lens : List ℕ) (least : ℕ) (outcomes sorted : List (Outcome S)) : Type 0 where
    perm : IsPermutation outcomes sorted
    near : AreNeighbours 1 (parts_of sorted) (item_count lens + 1)
    sound : AllByRecursion (IsSound lens least) sorted
    leaves : flat_map (leaves_under least) (parts_of sorted) ≡ leaves_of lens least

  nodes_of : (lens : List ℕ) (least : ℕ) (outcomes : List (Outcome S)) → AllByRecursion (IsSound lens least) outcomes → AllByRecursion (IsNode lens least) (parts_of outcomes)
  nodes_of lens least [] h = tt
  nodes_of lens least (o ∷ rest) h = (h.0.node, nodes_of lens least rest h.1)

  lie_among : (lens : List ℕ) (least : ℕ) (outcomes : List (Outcome S)) → All (λ (o : Outcome S). IsNode lens least o.part) outcomes → All (λ (o : Outcome S). LiesAmong (item_count lens) o.part) outcomes
  lie_among lens least outcomes nodes = All-weaker (λ (o : Outcome S). IsNode lens least o.part) (λ (o : Outcome S). LiesAmong (item_count lens) o.part)
      (λ o node. let lies = node_lies lens least o.part node in record { from_one = lies.1; some = lies.2; within = lies.3 }) outcomes nodes

  pub collectable : (stands : ℕ → ℕ → Reduced S → Type 0) (lens : List ℕ) (least : ℕ) (outcomes : List (Outcome S)) → IsWhole lens least outcomes → OutcomesStand stands outcomes → IsRightOfStop outcomes → IsCollectable stands (item_count lens) outcomes
  collectable stands lens least outcomes whole standing right = record { within = lie_among lens least outcomes whole.nodes; once = whole.once; standing = standing; right = right }

  laid_out : (lens : List ℕ) (least : ℕ) (outcomes : List (Outcome S)) → 1 ≤ least → IsWhole lens least outcomes → (sorted : List (Outcome S)) × IsLaidOut lens least outcomes sorted
  laid_out lens least outcomes large h =
      let order = sorted_of part_of outcomes in
      let sorted = order.0 in
      let perm = order.1.perm in
      let back = IsPermutation-sym outcomes sorted perm in
      let within = lie_among lens least outcomes h.nodes in
      let near = near_from (item_count lens) outcomes sorted within h.once perm order.1.up in
      let sound : AllByRecursion (IsSound lens least) sorted = all_from_contains (IsSound lens least) sorted (λ o c.
      let c' = Contains-permutation sorted outcomes o back c in
      let node = All-contains (λ (o : Outcome S). IsNode lens least o.part) outcomes o h.nodes c' in
      let lies = node_lies lens least o.part node in
      record { some = lies.2; node = node; leaf = All-contains (λ (o : Outcome S). KindRunsOnly (IsLeaf lens least) o.part o.kind) outcomes o h.leaves c' }) in
      (sorted, record { perm = perm; near = near; sound = sound; leaves = leaves_of_neighbours lens least (parts_of sorted) large (nodes_of lens least sorted sound) near })

  -- where there is no stop, nothing was skipped
  never_kind : (outcomes : List (Outcome S)) (part : Stretch) (kind : OutcomeKind S) (place : ℕ) → All (λ (o : Outcome S). (at : ℕ) → KindStopsAt o.kind at → ⊥) outcomes → KindSkipsAt (IsLeftStop outcomes part) kind → KindSkipsAt (λ _. place < part.first) kind
  never_kind outcomes part (Ran _) place never right = tt
  never_kind outcomes part (Skipped seen) place never right = absurd (All-contains (λ (o : Outcome S). (at : ℕ) → KindStopsAt o.kind at → ⊥) outcomes right.1.0 never right.1.1 seen right.1.2)

  right_kind : (outcomes : List (Outcome S)) (part : Stretch) (kind : OutcomeKind S) (place : ℕ) → All (λ (o : Outcome S). (at : ℕ) → KindStopsAt o.kind at → place ≤ at) outcomes → KindSkipsAt (IsLeftStop outcomes part) kind → KindSkipsAt (λ _. place < part.first) kind
  right_kind outcomes part (Ran _) place least right = tt
  right_kind outcomes part (Skipped seen) place least right =
      let le = All-contains (λ (o : Outcome S). (at : ℕ) → KindStopsAt o.kind at → place ≤ at) outcomes right.1.0 least right.1.1 seen right.1.2 in
      let less = right.0 in
      omega (arith, le, less)

  exact : (lens : List ℕ) (least place : ℕ) (outcomes sorted : List (Outcome S)) → 1 ≤ least → IsLaidOut lens least outcomes sorted → AllByRecursion (LiesRight place) sorted → AllByRecursion (RunsLeft place) sorted →
      IsExactReport (leaves_of lens least) (item_count lens) place (count_by (λ (o : Outcome S). has_run o.kind) sorted) (sum_by skipped_items sorted)
  exact lens least place outcomes sorted large laid right left =
      record {
        ran_is = sym (up_to_exact lens least place large sorted laid.sound right left) ∙ ap (leaves_up_to place) laid.leaves;
        skipped_is = λ leaf among holds.
            let is_leaf = at_contains (IsLeaf lens least) (leaves_of lens least) leaf (leaves_are_leaves lens least large) among in
            let lies = node_lies lens least leaf is_leaf.0 in
            let in' = lies.3 in
            let one = lies.1 in
            let cut : AllByRecursion (IsCut (leaf.first + leaf.len)) sorted = all_from_contains (IsCut (leaf.first + leaf.len)) sorted (λ o c.
            let sound = at_contains (IsSound lens least) sorted o laid.sound c in
            cut_at lens least place leaf o.part o.kind is_leaf holds sound.some sound.node sound.leaf (at_contains (RunsLeft place) sorted o left c) (at_contains (LiesRight place) sorted o right c)) in
            let e = (cut_exact lens least 1 (item_count lens + 1) (leaf.first + leaf.len) sorted laid.sound cut in' laid.near).1 (omega (arith, one)) in
            omega (arith, e, one);
      }

  report_permuted : (leaves : List Stretch) (count workers : ℕ) (place : Option ℕ) (outcomes sorted : List (Outcome S)) → IsPermutation outcomes sorted →
      IsLawfulReport leaves count workers place (count_by (λ (o : Outcome S). has_run o.kind) sorted) (sum_by skipped_items sorted) →
      IsLawfulReport leaves count workers place (count_by (λ (o : Outcome S). has_run o.kind) outcomes) (sum_by skipped_items outcomes)
  report_permuted leaves count workers place outcomes sorted perm h =
      subst (λ ran. IsLawfulReport leaves count workers place ran (sum_by skipped_items outcomes)) (sum_by-IsPermutation (λ (o : Outcome S). cond {A = ℕ} (has_run o.kind) 1 0) outcomes sorted perm)
      (subst (λ skipped. IsLawfulReport leaves count workers place (count_by (λ (o : Outcome S). has_run o.kind) sorted) skipped) (sum_by-IsPermutation skipped_items outcomes sorted perm) h)

  pub lawful : (lens : List ℕ) (least workers : ℕ) (outcomes : List (Outcome S)) (place : Option ℕ) → 1 ≤ least → IsWhole lens least outcomes → IsRightOfStop outcomes → IsLeftmostStop outcomes place →
      (workers ≡ 1 → RunsNoneRightOfStop outcomes) → IsLawfulReport (leaves_of lens least) (item_count lens) workers place (count_by (λ (o : Outcome S). has_run o.kind) outcomes) (sum_by skipped_items outcomes)
  lawful lens least workers outcomes None large whole skips never alone =
      let laid = laid_out lens least outcomes large whole in
      let sorted = laid.0 in
      let back = IsPermutation-sym outcomes sorted laid.1.perm in
      let place = item_count lens + 1 in
      let right : AllByRecursion (LiesRight place) sorted = all_from_contains (LiesRight place) sorted (λ o c.
      never_kind outcomes o.part o.kind place never (All-contains (λ (o : Outcome S). KindSkipsAt (IsLeftStop outcomes o.part) o.kind) outcomes o skips (Contains-permutation sorted outcomes o back c))) in
      let none : sum_by skipped_items sorted ≡ 0 = elim (few lens least place 1 (item_count lens + 1) sorted laid.1.sound right laid.1.near) [
        | inl none ↦ none
        | inr h ↦ absurd (let past = h.1 in omega (arith, past))
      ] in
      let all = totals lens least large sorted laid.1.sound in
      report_permuted (leaves_of lens least) (item_count lens) workers None outcomes sorted laid.1.perm (all.none_to none ∙ ap length laid.1.leaves, none)
  lawful lens least workers outcomes (Some place) large whole skips stop alone =
      let laid = laid_out lens least outcomes large whole in
      let sorted = laid.0 in
      let back = IsPermutation-sym outcomes sorted laid.1.perm in
      let right : AllByRecursion (LiesRight place) sorted = all_from_contains (LiesRight place) sorted (λ o c.
      right_kind outcomes o.part o.kind place stop.1 (All-contains (λ (o : Outcome S). KindSkipsAt (IsLeftStop outcomes o.part) o.kind) outcomes o skips (Contains-permutation sorted outcomes o back c))) in
      let all = totals lens least large sorted laid.1.sound in
      let same : length (flat_map (leaves_under least) (parts_of sorted)) ≡ length (leaves_of lens least) = ap length laid.1.leaves in
      let up = up_to lens least place large sorted laid.1.sound right in
      let same_up : leaves_up_to place (flat_map (leaves_under least) (parts_of sorted)) ≡ leaves_up_to place (leaves_of lens least) = ap (leaves_up_to place) laid.1.leaves in
      let most = all.most in
      report_permuted (leaves_of lens least) (item_count lens) workers (Some place) outcomes sorted laid.1.perm (
        record {
          at_least = omega (arith, up, same_up);
          at_most = omega (arith, most, same);
          few = elim (few lens least place 1 (item_count lens + 1) sorted laid.1.sound right laid.1.near) [
            | inl none ↦ omega (arith, none)
            | inr h ↦ (let past = h.1 in omega (arith, past))
          ];
          none = (λ none. all.none_to none ∙ same, λ ran. all.none_back (ran ∙ sym same));
          skips = subst (λ ls. LeavesSkipped ls place (count_by (λ (o : Outcome S). has_run o.kind) sorted) (sum_by skipped_items sorted)) laid.1.leaves
              (skipped_leaves lens least place large sorted laid.1.sound right);
        },
        λ one. exact lens least place outcomes sorted large laid.1 right (all_from_contains (RunsLeft place) sorted (λ o c.
            All-contains (λ (o : Outcome S). KindRunsOnly (λ (p : Stretch). p.first ≤ place) o.part o.kind) outcomes o (alone one place stop.0) (Contains-permutation sorted outcomes o back c))),
      )
