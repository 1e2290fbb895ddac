-- The leaves of outcomes in the order of their places are those that were run, and those of what was skipped.
use Rattle.std.proofs.Common.{◌≡◌, ℕ, ◌+◌, ◌<◌, ◌≤◌, if◌then◌else◌, cond, List, [], ◌∷◌, ◌++◌, append_assoc, length, refl, sym, ◌∙◌, subst, arith}
use Rattle.std.specs.List.{All, AllByRecursion, count_by, sum_by, flat_map}
use Rattle.std.specs.List.Sorted.{IsPermutation}
use Rattle.std.proofs.lemmas.List.Elements.{All-nil, All-append, All-from_recursion}
use Rattle.std.proofs.lemmas.List.Sums.{sum_by-cons, sum_by-append}
use Rattle.std.proofs.lemmas.List.Sorted.{IsPermutation-refl, IsPermutation-trans, IsPermutation-cons, IsPermutation-append_comm, IsPermutation-append_left, IsPermutation-append_right}
use Rattle.splittable.specs.Parts.{Stretch, AreNeighbours}
use Rattle.splittable.specs.Nodes.{IsNode, leaves_under}
use Rattle.splittable.proofs.LeafList.{neighbours_under_node}
use Rattle.piece_ledger.specs.declared.outcomes.Outcome.{Outcome}
use Rattle.piece_ledger.specs.declared.outcomes.OutcomeKind.{OutcomeKind}
use Rattle.piece_ledger.specs.declared.outcomes.OutcomeKind.TheVariants.{Ran, Skipped}
use Rattle.piece_ledger.specs.Outcomes.{has_run, KindRunsOnly, KindSkipsAt}
use Rattle.piece_ledger.specs.Tallies.{skipped_items}
use Rattle.piece_ledger.specs.Reports.{LeavesSkipped}
use Rattle.piece_ledger.proofs.Neighbours.{all_from_contains, at_contains}
use Rattle.piece_ledger.proofs.Standing.{parts_of}
use Rattle.piece_ledger.proofs.Counting.{IsSound, LiesRight, one_leaf, begin_at}

abbrev len_of : Stretch → ℕ
len_of p = p.len

-- parts next to each other have as many items as lie between
sum_between : (from to : ℕ) (parts : List Stretch) → AreNeighbours from parts to → from + sum_by len_of parts ≡ to
sum_between from to [] near = let e : from ≡ to = near in omega (arith, e)
sum_between from to (part ∷ parts) near =
    let first = near.0 in
    let cons = sum_by-cons len_of part parts in
    let rest = sum_between (part.first + part.len) to parts near.1 in
    omega (arith, first, cons, rest)

-- the leaves of what was skipped go before those that were run
to_front : (run ls left more : List Stretch) → IsPermutation (run ++ left) more → IsPermutation (run ++ (ls ++ left)) (ls ++ more)
to_front run ls left more perm =
    let one : IsPermutation ((run ++ ls) ++ left) ((ls ++ run) ++ left) = IsPermutation-append_left left (run ++ ls) (ls ++ run) (IsPermutation-append_comm run ls) in
    let two : IsPermutation (run ++ (ls ++ left)) (ls ++ (run ++ left)) = subst (λ l. IsPermutation l (ls ++ (run ++ left))) (append_assoc run ls left)
    (subst (λ l. IsPermutation ((run ++ ls) ++ left) l) (append_assoc ls run left) one) in
    IsPermutation-trans (run ++ (ls ++ left)) (ls ++ (run ++ left)) (ls ++ more) two (IsPermutation-append_right ls (run ++ left) more perm)

module _ {S : Type 0} where
  skipped_kind : (place : ℕ) (part : Stretch) (kind : OutcomeKind S) (ls more : List Stretch) (ran skipped : ℕ) → KindRunsOnly (λ _. ls ≡ part ∷ []) part kind → sum_by len_of ls ≡ part.len →
      KindSkipsAt (λ _. All (λ (leaf : Stretch). place < leaf.first) ls) kind → LeavesSkipped more place ran skipped →
      LeavesSkipped (ls ++ more) place (cond {A = ℕ} (has_run kind) 1 0 + ran) ((if has_run kind then 0 else part.len) + skipped)
  skipped_kind place part (Ran _) ls more ran skipped one sum right h =
      let ran_is = h.ran_is in
      let skipped_is = h.skipped_is in
      let own : LeavesSkipped (part ∷ more) place (1 + ran) (0 + skipped) = record {
        run = part ∷ h.run;
        left = h.left;
        all = IsPermutation-cons part (h.run ++ h.left) more h.all;
        right = h.right;
        ran_is = omega (arith, ran_is);
        skipped_is = omega (arith, skipped_is);
      } in
      subst (λ (l : List Stretch). LeavesSkipped (l ++ more) place (1 + ran) (0 + skipped)) (sym one) own
  skipped_kind place part (Skipped _) ls more ran skipped one sum right h =
      let ran_is = h.ran_is in
      let skipped_is = h.skipped_is in
      let both = sum_by-append len_of ls h.left in
      record {
        run = h.run;
        left = ls ++ h.left;
        all = to_front h.run ls h.left more h.all;
        right = All-append (λ (leaf : Stretch). place < leaf.first) ls h.left right h.right;
        ran_is = omega (arith, ran_is);
        skipped_is = omega (arith, skipped_is, both, sum);
      }

  right_leaves : (lens : List ℕ) (least place : ℕ) → 1 ≤ least → (part : Stretch) (kind : OutcomeKind S) → IsNode lens least part → KindSkipsAt (λ _. place < part.first) kind →
      KindSkipsAt (λ _. All (λ (leaf : Stretch). place < leaf.first) (leaves_under least part)) kind
  right_leaves lens least place large part (Ran _) node right = tt
  right_leaves lens least place large part (Skipped _) node right =
      let begin = begin_at part.first (part.first + part.len) (leaves_under least part) (neighbours_under_node lens least part node large) in
      All-from_recursion (λ (leaf : Stretch). place < leaf.first) (leaves_under least part) (all_from_contains (λ (leaf : Stretch). place < leaf.first) (leaves_under least part)
      (λ leaf c. let low = at_contains (λ (q : Stretch). part.first ≤ q.first) (leaves_under least part) leaf begin c in omega (arith, right, low)))

  pub skipped_leaves : (lens : List ℕ) (least place : ℕ) → 1 ≤ least → (outcomes : List (Outcome S)) → AllByRecursion (IsSound lens least) outcomes → AllByRecursion (LiesRight place) outcomes →
      LeavesSkipped (flat_map (leaves_under least) (parts_of outcomes)) place (count_by (λ (o : Outcome S). has_run o.kind) outcomes) (sum_by skipped_items outcomes)
  skipped_leaves lens least place large [] h right =
      record { run = []; left = []; all = IsPermutation-refl []; right = All-nil (λ (leaf : Stretch). place < leaf.first); ran_is = refl; skipped_is = refl }
  skipped_leaves lens least place large (o ∷ rest) h right =
      let here = h.0 in
      let leaves = leaves_under least o.part in
      let more = flat_map (leaves_under least) (parts_of rest) in
      let f : Outcome S → ℕ = λ (o : Outcome S). cond {A = ℕ} (has_run o.kind) 1 0 in
      let near = neighbours_under_node lens least o.part here.node large in
      let sum = sum_between o.part.first (o.part.first + o.part.len) leaves near in
      let own = skipped_kind place o.part o.kind leaves more (count_by (λ (o : Outcome S). has_run o.kind) rest) (sum_by skipped_items rest)
      (one_leaf lens least o.part o.kind here.leaf) (omega (arith, sum)) (right_leaves lens least place large o.part o.kind here.node right.0) (skipped_leaves lens least place large rest h.1 right.1) in
      subst (λ n. LeavesSkipped (leaves ++ more) place n (sum_by skipped_items (o ∷ rest))) (sym (sum_by-cons f o rest))
      (subst (λ n. LeavesSkipped (leaves ++ more) place (f o + count_by (λ (o : Outcome S). has_run o.kind) rest) n) (sym (sum_by-cons skipped_items o rest)) own)
