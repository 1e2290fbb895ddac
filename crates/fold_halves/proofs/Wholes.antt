-- What the logs of all items say.
use Rattle.std.proofs.Common.{◌≡◌, ℕ, ◌+◌, ◌≤◌, ◌<◌, List, [], ◌∷◌, ◌++◌, map, length, refl, sym, ap, ◌∙◌, subst, arith}
use Rattle.std.specs.List.{All}
use Rattle.std.proofs.lemmas.List.{append-nil}
use Rattle.std.proofs.lemmas.List.Elements.{All-nil, All-head}
use Rattle.std.proofs.lemmas.List.Sorted.{IsPermutation-refl}
use Rattle.number_ranges.specs.Ranges.{most_items}
use Rattle.splittable.specs.Places.{item_count}
use Rattle.splittable.specs.Parts.{Stretch, AreNeighbours, whole_of}
use Rattle.splittable.specs.Nodes.{IsNode, IsLeaf}
use Rattle.fold_seq.specs.declared.answers.Reduced.{Reduced}
use Rattle.fold_seq.specs.Standing.{StopLies}
use Rattle.stop_word.specs.Numbers.{AreAmong}
use Rattle.stop_word.specs.Seats.{SeatState}
use Rattle.piece_ledger.specs.declared.outcomes.Outcome.{Outcome}
use Rattle.piece_ledger.specs.Outcomes.{KindStopsAt, KindStands, KindRunsOnly, KindSkipsAt}
use Rattle.piece_ledger.specs.Logs.{outcomes_of, IsWhole, IsLeftStop, IsRightOfStop, OutcomesStand, IsOrdered, RunsNoneRightOfStop}
use Rattle.piece_ledger.proofs.Tallying.{lawful}
use Rattle.piece_ledger.proofs.Together.{AreAll, one_ordered, all_kept}
use Rattle.fold_halves.specs.Logged.{AreLogged}

module _ {S : Type 0} where
  abbrev parts_of : List (Outcome S) → List Stretch
  parts_of log = map (λ (o : Outcome S). o.part) log

  pub all_logged : (stands : ℕ → ℕ → Reduced S → Type 0) → StopLies stands → (lens : List ℕ) (least workers : ℕ) (part : Stretch) (seat : SeatState) (logs : List (List (Outcome S))) → item_count lens ≤ most_items → 1 ≤ least →
      part ≡ whole_of lens → AreAmong seat.reported seat.seen → (workers ≡ 1 → length logs ≤ 1) → AreLogged stands lens least part seat logs → AreAll stands lens least workers logs
  all_logged stands lies lens least workers part seat logs few large is among alone h =
      let first : part.first ≡ 1 = ap (λ (p : Stretch). p.first) is in
      let len : part.len ≡ item_count lens = ap (λ (p : Stretch). p.len) is in
      let end : part.first + part.len ≡ item_count lens + 1 = omega (arith, first, len) in
      let near : AreNeighbours 1 (parts_of (outcomes_of logs)) (item_count lens + 1) = subst (λ k. AreNeighbours k (parts_of (outcomes_of logs)) (item_count lens + 1)) first
      (subst (λ k. AreNeighbours part.first (parts_of (outcomes_of logs)) k) end h.near) in
      all_kept stands lies lens least workers seat.reported seat.seen logs (parts_of (outcomes_of logs)) few large among h.kept (IsPermutation-refl (parts_of (outcomes_of logs))) near
      (λ one. (one_ordered logs (alone one) h.kept.ordered, near))

  -- where there is no item, there is no log
  none_whole : (lens : List ℕ) (least : ℕ) → item_count lens ≡ 0 → IsWhole {S = S} lens least []
  none_whole lens least none = record {
    once = λ place low high. absurd (omega (arith, low, high, none));
    nodes = All-nil (λ (o : Outcome S). IsNode lens least o.part);
    leaves = All-nil (λ (o : Outcome S). KindRunsOnly (IsLeaf lens least) o.part o.kind);
  }

  none_all : (stands : ℕ → ℕ → Reduced S → Type 0) (lens : List ℕ) (least workers : ℕ) → item_count lens ≡ 0 → 1 ≤ least → AreAll stands lens least workers []
  none_all stands lens least workers none large =
      let right : IsRightOfStop {S = S} [] = All-nil (λ (o : Outcome S). KindSkipsAt (IsLeftStop [] o.part) o.kind) in
      record {
        whole = none_whole lens least none;
        standing = All-nil (λ (o : Outcome S). KindStands stands o.part o.kind);
        right = right;
        ordered = All-nil IsOrdered;
        tally = λ place leftmost. lawful lens least workers [] place large (none_whole lens least none) right leftmost (λ one place has. All-nil (λ (o : Outcome S). KindRunsOnly (λ (p : Stretch). p.first ≤ place) o.part o.kind));
      }

  pub none_logged : (stands : ℕ → ℕ → Reduced S → Type 0) (lens : List ℕ) (least workers : ℕ) (logs : List (List (Outcome S))) → item_count lens ≡ 0 → 1 ≤ least → logs ≡ [] → AreAll stands lens least workers logs
  none_logged stands lens least workers logs none large is = subst (λ l. AreAll stands lens least workers l) (sym is) (none_all stands lens least workers none large)
