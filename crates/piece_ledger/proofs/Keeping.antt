-- How a log grows where a part is begun, by a seat that had reported some stops before.
use Rattle.std.proofs.Common.{◌≡◌, ℕ, ◌<◌, ◌≤◌, if◌then◌else◌, Bool, true, false, List, [], ◌∷◌, ◌++◌, append_assoc, refl, sym, ap, ◌∙◌, subst, arith}
use Rattle.std.specs.Prelude.{nat_lt}
use Rattle.std.specs.List.{All, Contains}
use Rattle.std.proofs.lemmas.Bool.{ltb-true, ltb-false}
use Rattle.std.proofs.lemmas.List.{append-nil}
use Rattle.std.proofs.lemmas.List.Concat.{flat_map-append}
use Rattle.std.proofs.lemmas.List.Elements.{All-nil, All-push, All-weaker, Contains-append_left, Contains-push}
use Rattle.splittable.specs.Parts.{Stretch}
use Rattle.splittable.specs.Nodes.{IsNode, IsLeaf}
use Rattle.fold_seq.specs.declared.answers.Reduced.{Reduced}
use Rattle.stop_word.specs.Seats.{SeatState}
use Rattle.piece_ledger.specs.declared.outcomes.Outcome.{Outcome}
use Rattle.piece_ledger.specs.declared.outcomes.OutcomeKind.{OutcomeKind}
use Rattle.piece_ledger.specs.declared.outcomes.OutcomeKind.TheVariants.{Ran, Skipped}
use Rattle.piece_ledger.specs.declared.beginning.Begun.{Begun}
use Rattle.piece_ledger.specs.declared.beginning.Begun.TheVariants as begun
use Rattle.piece_ledger.specs.Outcomes.{KindStands, KindRunsOnly, KindSkipsAt, stops_of_kind}
use Rattle.piece_ledger.specs.Logs.{stops_of, IsOrderedAfter}
use Rattle.piece_ledger.specs.Beginning.{begun_by, IsDone, IsBegun}
use Rattle.piece_ledger.specs.Kept.{IsSkippedBy, IsKept}

-- what the answer says of the number that was loaded
by_tests : (loaded first least len : ℕ) (b c : Bool) → nat_lt loaded first ≡ b → nat_lt least len ≡ c → begun.Ran ≡ (if b then begun.Skipped else if c then begun.Longer else begun.Ran) → (first ≤ loaded) × (len ≤ least)
by_tests loaded first least len true c is is' e = absurd cc
by_tests loaded first least len false true is is' e = absurd cc
by_tests loaded first least len false false is is' e = (ltb-false loaded first is, ltb-false least len is')

ran_by : (loaded : ℕ) (part : Stretch) (least : ℕ) → begun.Ran ≡ begun_by loaded part least → (part.first ≤ loaded) × (part.len ≤ least)
ran_by loaded part least e = by_tests loaded part.first least part.len (nat_lt loaded part.first) (nat_lt least part.len) refl refl e

by_test : (loaded first least len : ℕ) (b c : Bool) → nat_lt loaded first ≡ b → begun.Skipped ≡ (if b then begun.Skipped else if c then begun.Longer else begun.Ran) → loaded < first
by_test loaded first least len true c is e = ltb-true loaded first is
by_test loaded first least len false true is e = absurd cc
by_test loaded first least len false false is e = absurd cc

skipped_by : (loaded : ℕ) (part : Stretch) (least : ℕ) → begun.Skipped ≡ begun_by loaded part least → loaded < part.first
skipped_by loaded part least e = by_test loaded part.first least part.len (nat_lt loaded part.first) (nat_lt least part.len) refl e

module _ {S : Type 0} where
  ordered_snoc : (before : List ℕ) (log : List (Outcome S)) (o : Outcome S) → IsOrderedAfter before log → KindRunsOnly (λ (part : Stretch). All (λ stop. part.first ≤ stop) (before ++ stops_of log)) o.part o.kind → IsOrderedAfter before (log ++ o ∷ [])
  ordered_snoc before [] o h runs = (subst (λ stops. KindRunsOnly (λ (part : Stretch). All (λ stop. part.first ≤ stop) stops) o.part o.kind) (append-nil before) runs, tt)
  ordered_snoc before (x ∷ log) o h runs =
      (h.0, ordered_snoc (before ++ stops_of_kind x.kind) log o h.1 (subst (λ stops. KindRunsOnly (λ (part : Stretch). All (λ stop. part.first ≤ stop) stops) o.part o.kind) (sym (append_assoc before (stops_of_kind x.kind) (stops_of log))) runs))

  saw_more_kind : (xs ys : List ℕ) → ((n : ℕ) → Contains xs n → Contains ys n) → (part : Stretch) (kind : OutcomeKind S) →
      KindSkipsAt (λ number. (number < part.first) × Contains xs number) kind → KindSkipsAt (λ number. (number < part.first) × Contains ys number) kind
  saw_more_kind xs ys more part (Ran _) h = tt
  saw_more_kind xs ys more part (Skipped number) h = (h.0, more number h.1)

  -- what was seen is among what was seen later
  pub saw_more : (xs ys : List ℕ) → ((n : ℕ) → Contains xs n → Contains ys n) → (log : List (Outcome S)) → All (IsSkippedBy xs) log → All (IsSkippedBy ys) log
  saw_more xs ys more log h = All-weaker (IsSkippedBy xs) (IsSkippedBy ys) (λ o k. saw_more_kind xs ys more o.part o.kind k) log h

  -- one outcome more
  kept_more : (stands : ℕ → ℕ → Reduced S → Type 0) (lens : List ℕ) (least : ℕ) (before reported seen reported' more : List ℕ) (log : List (Outcome S)) (o : Outcome S) → IsKept stands lens least before reported seen log →
      reported' ≡ reported ++ stops_of_kind o.kind → IsNode lens least o.part → KindRunsOnly (IsLeaf lens least) o.part o.kind → KindStands stands o.part o.kind → IsSkippedBy (seen ++ more) o →
      KindRunsOnly (λ (part : Stretch). All (λ stop. part.first ≤ stop) reported) o.part o.kind → IsKept stands lens least before reported' (seen ++ more) (log ++ o ∷ [])
  kept_more stands lens least before reported seen reported' more log o h is node leaf stand saw runs =
      record {
        stops = ap (λ l. before ++ l) (flat_map-append (λ (p : Outcome S). stops_of_kind p.kind) log (o ∷ []) ∙ ap (λ l. stops_of log ++ l) (append-nil (stops_of_kind o.kind)))
            ∙ sym (append_assoc before (stops_of log) (stops_of_kind o.kind)) ∙ ap (λ l. l ++ stops_of_kind o.kind) h.stops ∙ sym is;
        nodes = All-push (λ (p : Outcome S). IsNode lens least p.part) log o h.nodes node;
        leaves = All-push (λ (p : Outcome S). KindRunsOnly (IsLeaf lens least) p.part p.kind) log o h.leaves leaf;
        standing = All-push (λ (p : Outcome S). KindStands stands p.part p.kind) log o h.standing stand;
        skipping = All-push (IsSkippedBy (seen ++ more)) log o (saw_more seen (seen ++ more) (λ n c. Contains-append_left seen more n c) log h.skipping) saw;
        ordered = ordered_snoc before log o h.ordered (subst (λ l. KindRunsOnly (λ (part : Stretch). All (λ stop. part.first ≤ stop) l) o.part o.kind) (sym h.stops) runs);
      }

  -- nothing more, but a number that was seen
  kept_seen : (stands : ℕ → ℕ → Reduced S → Type 0) (lens : List ℕ) (least : ℕ) (before reported seen more : List ℕ) (log : List (Outcome S)) → IsKept stands lens least before reported seen log → IsKept stands lens least before reported (seen ++ more) log
  kept_seen stands lens least before reported seen more log h =
      record { stops = h.stops; nodes = h.nodes; leaves = h.leaves; standing = h.standing; skipping = saw_more seen (seen ++ more) (λ n c. Contains-append_left seen more n c) log h.skipping; ordered = h.ordered }

  -- an empty log, whatever the seat had reported and seen
  pub kept_none : (stands : ℕ → ℕ → Reduced S → Type 0) (lens : List ℕ) (least : ℕ) (before seen : List ℕ) → IsKept stands lens least before before seen []
  kept_none stands lens least before seen =
      record {
        stops = append-nil before;
        nodes = All-nil (λ (p : Outcome S). IsNode lens least p.part);
        leaves = All-nil (λ (p : Outcome S). KindRunsOnly (IsLeaf lens least) p.part p.kind);
        standing = All-nil (λ (p : Outcome S). KindStands stands p.part p.kind);
        skipping = All-nil (IsSkippedBy seen);
        ordered = tt;
      }

  -- the lists and the log afterwards, by what they are
  kept_as : (stands : ℕ → ℕ → Reduced S → Type 0) (lens : List ℕ) (least : ℕ) (before reported reported' seen seen' : List ℕ) (log log' : List (Outcome S)) → reported' ≡ reported → seen' ≡ seen → log' ≡ log → IsKept stands lens least before reported seen log → IsKept stands lens least before reported' seen' log'
  kept_as stands lens least before reported reported' seen seen' log log' e e' e'' h =
      subst (λ r. IsKept stands lens least before r seen' log') (sym e) (subst (λ s. IsKept stands lens least before reported s log') (sym e') (subst (λ l. IsKept stands lens least before reported seen l) (sym e'') h))

  kept_done : (stands : ℕ → ℕ → Reduced S → Type 0) (lens : List ℕ) (least loaded : ℕ) (before : List ℕ) (part : Stretch) (old new : SeatState) (log log' : List (Outcome S)) (answer : Begun) → IsNode lens least part →
      IsKept stands lens least before old.reported old.seen log → answer ≡ begun_by loaded part least → All (λ n. loaded ≤ n) old.reported → IsDone stands part loaded old new log log' answer → IsKept stands lens least before new.reported new.seen log'
  kept_done stands lens least loaded before part old new log log' begun.Skipped node h by most done =
      let o : Outcome S = record { part = part; kind = Skipped loaded } in
      kept_as stands lens least before old.reported new.reported (old.seen ++ loaded ∷ []) new.seen (log ++ o ∷ []) log' done.1 done.0 done.2
      (kept_more stands lens least before old.reported old.seen old.reported (loaded ∷ []) log o h (sym (append-nil old.reported)) node tt tt (skipped_by loaded part least by, Contains-push old.seen loaded) tt)
  kept_done stands lens least loaded before part old new log log' begun.Longer node h by most done =
      kept_as stands lens least before old.reported new.reported (old.seen ++ loaded ∷ []) new.seen log log' done.1 done.0 done.2 (kept_seen stands lens least before old.reported old.seen (loaded ∷ []) log h)
  kept_done stands lens least loaded before part old new log log' begun.Ran node h by most (answer, told, stand, seen, many, reported, logged) =
      let o : Outcome S = record { part = part; kind = Ran answer } in
      let tests = ran_by loaded part least by in
      kept_as stands lens least before new.reported new.reported (old.seen ++ loaded ∷ told) new.seen (log ++ o ∷ []) log' refl seen logged
      (kept_more stands lens least before old.reported old.seen new.reported (loaded ∷ told) log o h reported node (node, tests.1) stand tt
      (All-weaker (λ n. loaded ≤ n) (λ n. part.first ≤ n) (λ n le. let low = tests.0 in omega (arith, low, le)) old.reported most))

  pub kept_begun : (stands : ℕ → ℕ → Reduced S → Type 0) (lens : List ℕ) (least : ℕ) (before : List ℕ) (part : Stretch) (old new : SeatState) (log log' : List (Outcome S)) (answer : Begun) → IsNode lens least part →
      IsKept stands lens least before old.reported old.seen log → IsBegun stands least part old new log log' answer → IsKept stands lens least before new.reported new.seen log'
  kept_begun stands lens least before part old new log log' answer node h begun =
      kept_done stands lens least begun.loaded before part old new log log' answer node h begun.answer_is begun.least_reported begun.done
