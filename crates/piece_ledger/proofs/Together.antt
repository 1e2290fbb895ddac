-- The logs of several seats, put together, and what all logs of a fold say.
use Rattle.std.proofs.Common.{◌≡◌, ℕ, ◌+◌, ◌<◌, ◌≤◌, List, [], ◌∷◌, ◌++◌, append_assoc, map, length, Result, Ok, Err, IfOk, refl, sym, ap, ◌∙◌, subst, arith}
use Rattle.std.specs.List.{All, Contains, flat_map}
use Rattle.std.specs.List.Sorted.{IsPermutation}
use Rattle.std.proofs.lemmas.List.{append-nil}
use Rattle.std.proofs.lemmas.List.Concat.{flat_map-append}
use Rattle.std.proofs.lemmas.List.Elements.{All-nil, All-cons, All-append, All-head, All-tail, All-weaker, Contains-append_left, Contains-append_right}
use Rattle.number_ranges.specs.Ranges.{most_items}
use Rattle.splittable.specs.Places.{item_count}
use Rattle.splittable.specs.Parts.{Stretch, AreNeighbours}
use Rattle.splittable.specs.Nodes.{IsNode, IsLeaf, leaves_of}
use Rattle.splittable.proofs.Nesting.{node_lies}
use Rattle.fold_seq.specs.declared.answers.Reduced.{Reduced}
use Rattle.fold_seq.specs.Answers.{stop_place_of}
use Rattle.fold_seq.specs.Standing.{StopLies}
use Rattle.stop_word.specs.Numbers.{no_stop, AreAmong}
use Rattle.piece_ledger.specs.declared.outcomes.Outcome.{Outcome}
use Rattle.piece_ledger.specs.declared.outcomes.OutcomeKind.{OutcomeKind}
use Rattle.piece_ledger.specs.declared.outcomes.OutcomeKind.TheVariants.{Ran, Skipped}
use Rattle.piece_ledger.specs.declared.tallies.Tally.{Tally}
use Rattle.piece_ledger.specs.Outcomes.{KindStands, KindRunsOnly, stops_of_kind}
use Rattle.piece_ledger.specs.Logs.{outcomes_of, stops_of, IsWhole, IsRightOfStop, IsLeftmostStop, OutcomesStand, IsOrderedAfter, IsOrdered}
use Rattle.piece_ledger.specs.Kept.{IsSkippedBy, IsKept, AreKept}
use Rattle.piece_ledger.specs.Tallies.{tally_of}
use Rattle.piece_ledger.specs.Folded.{least_for, IsReported, HasLawfulTally, HaveLawfulTally, IsLawfulTally}
use Rattle.piece_ledger.proofs.Alone.{right_of_stop, none_right}
use Rattle.piece_ledger.proofs.Keeping.{saw_more}
use Rattle.piece_ledger.proofs.Once.{hold_once}
use Rattle.piece_ledger.proofs.Tallying.{lawful}

all_back : {A : Type 0} (P : A → Type 0) (xs ys : List A) → All P (xs ++ ys) → All P ys
all_back P [] ys h = h
all_back P (x ∷ xs) ys h = all_back P xs ys (All-tail P x (xs ++ ys) h)

module _ {S : Type 0} where
  pub outcomes_of_both : (logs logs' : List (List (Outcome S))) → outcomes_of (logs ++ logs') ≡ outcomes_of logs ++ outcomes_of logs'
  outcomes_of_both logs logs' = flat_map-append (λ (log : List (Outcome S)). log) logs logs'

  -- the log of one seat that had reported nothing
  pub kept_one : (stands : ℕ → ℕ → Reduced S → Type 0) (lens : List ℕ) (least : ℕ) (reported seen : List ℕ) (log : List (Outcome S)) → IsKept stands lens least [] reported seen log → AreKept stands lens least reported seen (log ∷ [])
  kept_one stands lens least reported seen log h =
      let same : log ≡ outcomes_of (log ∷ []) = sym (append-nil log) in
      record {
        stops = subst (λ l. flat_map (λ (o : Outcome S). stops_of_kind o.kind) l ≡ reported) same h.stops;
        nodes = subst (All (λ (o : Outcome S). IsNode lens least o.part)) same h.nodes;
        leaves = subst (All (λ (o : Outcome S). KindRunsOnly (IsLeaf lens least) o.part o.kind)) same h.leaves;
        standing = subst (OutcomesStand stands) same h.standing;
        skipping = subst (All (IsSkippedBy seen)) same h.skipping;
        ordered = All-cons IsOrdered log [] h.ordered (All-nil IsOrdered);
      }

  -- those of two groups of seats
  pub kept_both : (stands : ℕ → ℕ → Reduced S → Type 0) (lens : List ℕ) (least : ℕ) (reported reported' seen seen' : List ℕ) (logs logs' : List (List (Outcome S))) → AreKept stands lens least reported seen logs →
      AreKept stands lens least reported' seen' logs' → AreKept stands lens least (reported ++ reported') (seen ++ seen') (logs ++ logs')
  kept_both stands lens least reported reported' seen seen' logs logs' h h' =
      let one = outcomes_of logs in
      let two = outcomes_of logs' in
      let same : one ++ two ≡ outcomes_of (logs ++ logs') = sym (outcomes_of_both logs logs') in
      record {
        stops = subst (λ l. flat_map (λ (o : Outcome S). stops_of_kind o.kind) l ≡ reported ++ reported') same
            (flat_map-append (λ (o : Outcome S). stops_of_kind o.kind) one two ∙ (λ k. h.stops k ++ h'.stops k));
        nodes = subst (All (λ (o : Outcome S). IsNode lens least o.part)) same (All-append (λ (o : Outcome S). IsNode lens least o.part) one two h.nodes h'.nodes);
        leaves = subst (All (λ (o : Outcome S). KindRunsOnly (IsLeaf lens least) o.part o.kind)) same
            (All-append (λ (o : Outcome S). KindRunsOnly (IsLeaf lens least) o.part o.kind) one two h.leaves h'.leaves);
        standing = subst (OutcomesStand stands) same (All-append (λ (o : Outcome S). KindStands stands o.part o.kind) one two h.standing h'.standing);
        skipping = subst (All (IsSkippedBy (seen ++ seen'))) same (All-append (IsSkippedBy (seen ++ seen')) one two
            (saw_more seen (seen ++ seen') (λ n c. Contains-append_left seen seen' n c) one h.skipping)
            (saw_more seen' (seen ++ seen') (λ n c. Contains-append_right seen seen' n c) two h'.skipping));
        ordered = All-append IsOrdered logs logs' h.ordered h'.ordered;
      }

  runs_weaker : (xs ys : List ℕ) (part : Stretch) (kind : OutcomeKind S) → KindRunsOnly (λ (p : Stretch). All (λ stop. p.first ≤ stop) (xs ++ ys)) part kind → KindRunsOnly (λ (p : Stretch). All (λ stop. p.first ≤ stop) ys) part kind
  runs_weaker xs ys part (Ran _) h = all_back (λ stop. part.first ≤ stop) xs ys h
  runs_weaker xs ys part (Skipped _) h = tt

  -- what is ordered after some stops is so after fewer
  ordered_weaker : (xs ys : List ℕ) (log : List (Outcome S)) → IsOrderedAfter (xs ++ ys) log → IsOrderedAfter ys log
  ordered_weaker xs ys [] h = tt
  ordered_weaker xs ys (o ∷ log) h =
      (runs_weaker xs ys o.part o.kind h.0, ordered_weaker xs (ys ++ stops_of_kind o.kind) log (subst (λ l. IsOrderedAfter l log) (append_assoc xs ys (stops_of_kind o.kind)) h.1))

  -- one log, and another after it and its stops
  ordered_then : (before : List ℕ) (log log' : List (Outcome S)) → IsOrderedAfter before log → IsOrderedAfter (before ++ flat_map (λ (o : Outcome S). stops_of_kind o.kind) log) log' → IsOrderedAfter before (log ++ log')
  ordered_then before [] log' h h' = subst (λ l. IsOrderedAfter l log') (append-nil before) h'
  ordered_then before (o ∷ log) log' h h' =
      (h.0, ordered_then (before ++ stops_of_kind o.kind) log log' h.1 (subst (λ l. IsOrderedAfter l log') (sym (append_assoc before (stops_of_kind o.kind) (flat_map (λ (p : Outcome S). stops_of_kind p.kind) log))) h'))

  -- one log more, of the seat to which all others are joined
  pub kept_next : (stands : ℕ → ℕ → Reduced S → Type 0) (lens : List ℕ) (least : ℕ) (reported reported' seen more : List ℕ) (logs : List (List (Outcome S))) (log : List (Outcome S)) → AreKept stands lens least reported seen logs →
      IsKept stands lens least reported reported' (seen ++ more) log → AreKept stands lens least reported' (seen ++ more) (logs ++ log ∷ [])
  kept_next stands lens least reported reported' seen more logs log h h' =
      let one = outcomes_of logs in
      let same : one ++ log ≡ outcomes_of (logs ++ log ∷ []) = sym (outcomes_of_both logs (log ∷ []) ∙ ap (λ l. one ++ l) (append-nil log)) in
      record {
        stops = subst (λ l. flat_map (λ (o : Outcome S). stops_of_kind o.kind) l ≡ reported') same
            (flat_map-append (λ (o : Outcome S). stops_of_kind o.kind) one log ∙ ap (λ l. l ++ flat_map (λ (o : Outcome S). stops_of_kind o.kind) log) h.stops ∙ h'.stops);
        nodes = subst (All (λ (o : Outcome S). IsNode lens least o.part)) same (All-append (λ (o : Outcome S). IsNode lens least o.part) one log h.nodes h'.nodes);
        leaves = subst (All (λ (o : Outcome S). KindRunsOnly (IsLeaf lens least) o.part o.kind)) same
            (All-append (λ (o : Outcome S). KindRunsOnly (IsLeaf lens least) o.part o.kind) one log h.leaves h'.leaves);
        standing = subst (OutcomesStand stands) same (All-append (λ (o : Outcome S). KindStands stands o.part o.kind) one log h.standing h'.standing);
        skipping = subst (All (IsSkippedBy (seen ++ more))) same (All-append (IsSkippedBy (seen ++ more)) one log
            (saw_more seen (seen ++ more) (λ n c. Contains-append_left seen more n c) one h.skipping) h'.skipping);
        ordered = All-append IsOrdered logs (log ∷ []) h.ordered
            (All-cons IsOrdered log [] (ordered_weaker reported [] log (subst (λ l. IsOrderedAfter l log) (sym (append-nil reported)) h'.ordered)) (All-nil IsOrdered));
      }

  -- where one seat kept all logs, they are ordered as one
  pub order_next : (stands : ℕ → ℕ → Reduced S → Type 0) (lens : List ℕ) (least : ℕ) (reported reported' seen seen' : List ℕ) (logs : List (List (Outcome S))) (log : List (Outcome S)) → AreKept stands lens least reported seen logs →
      IsKept stands lens least reported reported' seen' log → IsOrdered (outcomes_of logs) → IsOrdered (outcomes_of (logs ++ log ∷ []))
  order_next stands lens least reported reported' seen seen' logs log h h' ordered =
      let same : outcomes_of logs ++ log ≡ outcomes_of (logs ++ log ∷ []) = sym (outcomes_of_both logs (log ∷ []) ∙ ap (λ l. outcomes_of logs ++ l) (append-nil log)) in
      subst (λ l. IsOrdered l) same (ordered_then [] (outcomes_of logs) log ordered (subst (λ l. IsOrderedAfter l log) (sym h.stops) h'.ordered))

  pub kept_whole : (stands : ℕ → ℕ → Reduced S → Type 0) (lens : List ℕ) (least : ℕ) (reported seen : List ℕ) (logs : List (List (Outcome S))) (parts : List Stretch) → AreKept stands lens least reported seen logs →
      IsPermutation (map (λ (o : Outcome S). o.part) (outcomes_of logs)) parts → AreNeighbours 1 parts (item_count lens + 1) → IsWhole lens least (outcomes_of logs)
  kept_whole stands lens least reported seen logs parts h perm near =
      record { once = hold_once (item_count lens) (outcomes_of logs) parts perm near; nodes = h.nodes; leaves = h.leaves }

  pub kept_right : (stands : ℕ → ℕ → Reduced S → Type 0) (lens : List ℕ) (least : ℕ) (reported seen : List ℕ) (logs : List (List (Outcome S))) → item_count lens ≤ most_items → AreKept stands lens least reported seen logs →
      AreAmong reported seen → IsRightOfStop (outcomes_of logs)
  kept_right stands lens least reported seen logs few h among =
      let firsts : All (λ (o : Outcome S). o.part.first ≤ no_stop) (outcomes_of logs) = All-weaker (λ (o : Outcome S). IsNode lens least o.part) (λ (o : Outcome S). o.part.first ≤ no_stop)
      (λ o node. let lies = node_lies lens least o.part node in let within = lies.3 in omega (arith, within, few)) (outcomes_of logs) h.nodes in
      right_of_stop (outcomes_of logs) reported seen h.stops among firsts h.skipping

  -- what the logs of a fold over all items say
  pub record AreAll (stands : ℕ → ℕ → Reduced S → Type 0) (lens : List ℕ) (least workers : ℕ) (logs : List (List (Outcome S))) : Type 0 where
    pub whole : IsWhole lens least (outcomes_of logs)
    pub standing : OutcomesStand stands (outcomes_of logs)
    pub right : IsRightOfStop (outcomes_of logs)
    pub ordered : All IsOrdered logs
    pub tally : HasLawfulTally lens least workers (outcomes_of logs)

  -- at most one log is ordered as a whole
  pub one_ordered : (logs : List (List (Outcome S))) → length logs ≤ 1 → All IsOrdered logs → IsOrdered (outcomes_of logs)
  one_ordered [] few h = tt
  one_ordered (log ∷ []) few h = subst (λ l. IsOrdered l) (sym (append-nil log)) (All-head IsOrdered log [] h)
  one_ordered (log ∷ other ∷ rest) few h = absurd (omega (arith, few))

  -- kept logs, whose parts are those next to each other from the first place to the last
  pub all_kept : (stands : ℕ → ℕ → Reduced S → Type 0) → StopLies stands → (lens : List ℕ) (least workers : ℕ) (reported seen : List ℕ) (logs : List (List (Outcome S))) (parts : List Stretch) → item_count lens ≤ most_items → 1 ≤ least →
      AreAmong reported seen → AreKept stands lens least reported seen logs → IsPermutation (map (λ (o : Outcome S). o.part) (outcomes_of logs)) parts → AreNeighbours 1 parts (item_count lens + 1) →
      (workers ≡ 1 → IsOrdered (outcomes_of logs) × AreNeighbours 1 (map (λ (o : Outcome S). o.part) (outcomes_of logs)) (item_count lens + 1)) → AreAll stands lens least workers logs
  all_kept stands lies lens least workers reported seen logs parts few large among h perm near alone =
      let whole = kept_whole stands lens least reported seen logs parts h perm near in
      let right = kept_right stands lens least reported seen logs few h among in
      record {
        whole = whole;
        standing = h.standing;
        right = right;
        ordered = h.ordered;
        tally = λ place leftmost. lawful lens least workers (outcomes_of logs) place large whole right leftmost
            (λ one. let both = alone one in none_right stands lies 1 (item_count lens + 1) (outcomes_of logs) (omega arith) h.standing both.0 both.1);
      }

  -- the tally that was collected, where that of the logs is lawful
  pub lawful_collected : {E : Type 0} (r : Result (Reduced S × Tally) E) (base workers : ℕ) (lens : List ℕ) (logs : List (List (Outcome S))) → HaveLawfulTally base lens workers logs →
      IfOk r (λ x. IsLeftmostStop (outcomes_of logs) (stop_place_of x.0)) → IfOk r (λ x. x.1 ≡ tally_of (outcomes_of logs)) → IfOk r (IsLawfulTally base lens workers)
  lawful_collected (Ok x) base workers lens logs lawful leftmost tally =
      subst (λ (t : Tally). IsReported lens (least_for base lens) workers (stop_place_of x.0) t) (sym tally) (lawful (stop_place_of x.0) leftmost)
  lawful_collected (Err e) base workers lens logs lawful leftmost tally = tt
