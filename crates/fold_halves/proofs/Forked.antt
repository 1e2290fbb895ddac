-- What seats leave together that begin a node.
use Rattle.std.proofs.Common.{◌≡◌, ℕ, ◌+◌, ◌≤◌, List, [], ◌∷◌, ◌++◌, map, Result, Ok, IfOk, refl, sym, ap, ◌∙◌, subst, arith}
use Rattle.std.proofs.lemmas.List.{append-nil, map-append}
use Rattle.std.proofs.lemmas.List.Elements.{All-nil}
use Rattle.splittable.specs.Parts.{Stretch, AreNeighbours}
use Rattle.splittable.proofs.LeafList.{AreNeighbours-append}
use Rattle.fold_seq.specs.declared.answers.Reduced.{Reduced}
use Rattle.stop_word.specs.Seats.{SeatState}
use Rattle.piece_ledger.specs.declared.outcomes.Outcome.{Outcome}
use Rattle.piece_ledger.specs.Logs.{outcomes_of}
use Rattle.piece_ledger.specs.Kept.{IsKept, AreKept}
use Rattle.piece_ledger.proofs.Keeping.{kept_none}
use Rattle.piece_ledger.proofs.Together.{outcomes_of_both, kept_one, kept_both}
use Rattle.fold_halves.specs.Logged.{IsLogged, AreLogged, LogsOn, IsHalved}

pub ok_of : {A E : Type 0} (P : A → Type 0) (r : Result A E) (x : A) → r ≡ Ok x → IfOk r P → P x
ok_of P r x e h = subst (λ y. IfOk y P) e h

module _ {S : Type 0} where
  abbrev parts_of : List (Outcome S) → List Stretch
  parts_of log = map (λ (o : Outcome S). o.part) log

  -- the log of one seat that had reported nothing
  pub forked_one : (stands : ℕ → ℕ → Reduced S → Type 0) (lens : List ℕ) (least : ℕ) (part : Stretch) (old new : SeatState) (log log' : List (Outcome S)) (logs : List (List (Outcome S))) → old.reported ≡ [] → log ≡ [] → logs ≡ log' ∷ [] →
      LogsOn stands lens least part.first (part.first + part.len) old new log log' → AreLogged stands lens least part new logs
  forked_one stands lens least part old new log log' logs none empty is on =
      let start : IsLogged stands lens least part.first part.first old log = record {
        kept = subst (λ r. IsKept stands lens least [] r old.seen log) (sym none) (subst (λ l. IsKept stands lens least [] [] old.seen l) (sym empty) (kept_none stands lens least [] old.seen));
        near = subst (λ l. AreNeighbours part.first (parts_of l) part.first) (sym empty) refl;
      } in
      let h = on part.first start in
      subst (λ l. AreLogged stands lens least part new l) (sym is) (record {
        kept = kept_one stands lens least new.reported new.seen log' h.kept;
        near = subst (λ l. AreNeighbours part.first (parts_of l) (part.first + part.len)) (sym (append-nil log')) h.near;
      })

  -- the logs of two groups of seats, each of which began one half
  pub forked_both : (stands : ℕ → ℕ → Reduced S → Type 0) (lens : List ℕ) (least : ℕ) (part left right : Stretch) (old begun one two both : SeatState) (log log' : List (Outcome S)) (logs1 logs2 logs : List (List (Outcome S))) →
      IsHalved stands lens least part left right old begun log log' → AreLogged stands lens least left one logs1 → AreLogged stands lens least right two logs2 →
      both.reported ≡ one.reported ++ two.reported → both.seen ≡ one.seen ++ two.seen → logs ≡ logs1 ++ logs2 → AreLogged stands lens least part both logs
  forked_both stands lens least part left right old begun one two both log log' logs1 logs2 logs h h1 h2 r s is =
      let begins = h.halves.begins in
      let next = h.halves.next in
      let together = h.halves.together in
      let end : right.first + right.len ≡ part.first + part.len = omega (arith, begins, next, together) in
      let left_near : AreNeighbours part.first (parts_of (outcomes_of logs1)) right.first = subst (λ k. AreNeighbours k (parts_of (outcomes_of logs1)) right.first) begins
      (subst (λ k. AreNeighbours left.first (parts_of (outcomes_of logs1)) k) (sym next) h1.near) in
      let right_near : AreNeighbours right.first (parts_of (outcomes_of logs2)) (part.first + part.len) = subst (λ k. AreNeighbours right.first (parts_of (outcomes_of logs2)) k) end h2.near in
      let near = AreNeighbours-append part.first right.first (part.first + part.len) (parts_of (outcomes_of logs1)) (parts_of (outcomes_of logs2)) left_near right_near in
      let parts : parts_of (outcomes_of (logs1 ++ logs2)) ≡ parts_of (outcomes_of logs1) ++ parts_of (outcomes_of logs2) =
      ap (λ l. parts_of l) (outcomes_of_both logs1 logs2) ∙ map-append (λ (o : Outcome S). o.part) (outcomes_of logs1) (outcomes_of logs2) in
      let kept = kept_both stands lens least one.reported two.reported one.seen two.seen logs1 logs2 h1.kept h2.kept in
      subst (λ l. AreLogged stands lens least part both l) (sym is) (record {
        kept = subst (λ x. AreKept stands lens least x both.seen (logs1 ++ logs2)) (sym r) (subst (λ x. AreKept stands lens least (one.reported ++ two.reported) x (logs1 ++ logs2)) (sym s) kept);
        near = subst (λ ps. AreNeighbours part.first ps (part.first + part.len)) (sym parts) near;
      })
