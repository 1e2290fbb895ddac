-- How the log of one seat grows that begins nodes from left to right.
use Rattle.std.proofs.Common.{◌≡◌, ℕ, ◌+◌, ◌<◌, ◌≤◌, ◌↔◌, if◌then◌else◌, Bool, true, false, Option, Some, None, IsNone, IfSome, List, [], ◌∷◌, ◌++◌, map, refl, sym, ap, ◌∙◌, subst, arith}
use Rattle.std.specs.Prelude.{nat_lt}
use Rattle.std.specs.List.{All, Contains}
use Rattle.std.proofs.lemmas.Bool.{ltb-true}
use Rattle.std.proofs.lemmas.List.{map-append}
use Rattle.std.proofs.lemmas.List.Elements.{All-nil}
use Rattle.splittable.specs.Parts.{Stretch, AreNeighbours, AreHalves}
use Rattle.splittable.specs.Nodes.{IsNode, HasNodes, HasNodesAlways}
use Rattle.splittable.proofs.LeafList.{AreNeighbours-append}
use Rattle.splittable.proofs.Nesting.{node_lies}
use Rattle.fold_seq.specs.declared.answers.Reduced.{Reduced}
use Rattle.stop_word.specs.Seats.{SeatState}
use Rattle.piece_ledger.specs.declared.outcomes.Outcome.{Outcome}
use Rattle.piece_ledger.specs.declared.outcomes.OutcomeKind.{OutcomeKind}
use Rattle.piece_ledger.specs.declared.outcomes.OutcomeKind.TheVariants.{Ran, Skipped}
use Rattle.piece_ledger.specs.declared.beginning.Begun.{Begun}
use Rattle.piece_ledger.specs.declared.beginning.Begun.TheVariants as begun
use Rattle.piece_ledger.specs.Beginning.{begun_by, IsDone, IsBegun}
use Rattle.piece_ledger.specs.Outcomes.{KindSkipsAt}
use Rattle.piece_ledger.specs.Kept.{IsKept}
use Rattle.piece_ledger.proofs.Keeping.{kept_begun}
use Rattle.fold_halves.specs.Logged.{IsLogged, LogsOn, IsHalved, IsLoggedOr}

longer_test : (loaded first least len : ℕ) (b c : Bool) → nat_lt least len ≡ c → begun.Longer ≡ (if b then begun.Skipped else if c then begun.Longer else begun.Ran) → least < len
longer_test loaded first least len true c is e = absurd cc
longer_test loaded first least len false true is e = ltb-true least len is
longer_test loaded first least len false false is e = absurd cc

module _ {S : Type 0} where
  abbrev parts_of : List (Outcome S) → List Stretch
  parts_of log = map (λ (o : Outcome S). o.part) log

  near_more : (from mid : ℕ) (part : Stretch) (kind : OutcomeKind S) (log : List (Outcome S)) → part.first ≡ mid → AreNeighbours from (parts_of log) mid → AreNeighbours from (parts_of (log ++ (record { part = part; kind = kind }) ∷ [])) (mid + part.len)
  near_more from mid part kind log first near =
      let one : AreNeighbours mid (part ∷ []) (mid + part.len) = (first, ap (λ k. k + part.len) first) in
      subst (λ ps. AreNeighbours from ps (mid + part.len)) (sym (map-append (λ (o : Outcome S). o.part) log ((record { part = part; kind = kind }) ∷ []))) (AreNeighbours-append from mid (mid + part.len) (parts_of log) (part ∷ []) near one)

  near_done : (stands : ℕ → ℕ → Reduced S → Type 0) (loaded from : ℕ) (part : Stretch) (old new : SeatState) (log log' : List (Outcome S)) (answer : Begun) → (answer ≡ begun.Longer → ⊥) → AreNeighbours from (parts_of log) part.first →
      IsDone stands part loaded old new log log' answer → AreNeighbours from (parts_of log') (part.first + part.len)
  near_done stands loaded from part old new log log' begun.Skipped not near done =
      subst (λ l. AreNeighbours from (parts_of l) (part.first + part.len)) (sym done.2) (near_more from part.first part (Skipped loaded) log refl near)
  near_done stands loaded from part old new log log' begun.Longer not near done = absurd (not refl)
  near_done stands loaded from part old new log log' begun.Ran not near (answer, told, stand, seen, many, reported, logged) =
      subst (λ l. AreNeighbours from (parts_of l) (part.first + part.len)) (sym logged) (near_more from part.first part (Ran answer) log refl near)

  -- a node was skipped or run
  pub logged_next : (stands : ℕ → ℕ → Reduced S → Type 0) (lens : List ℕ) (least : ℕ) (part : Stretch) (old new : SeatState) (log log' : List (Outcome S)) (answer : Begun) → (answer ≡ begun.Longer → ⊥) → IsNode lens least part →
      IsBegun stands least part old new log log' answer → LogsOn stands lens least part.first (part.first + part.len) old new log log'
  logged_next stands lens least part old new log log' answer not node is_begun from h =
      record { kept = kept_begun stands lens least [] part old new log log' answer node h.kept is_begun; near = near_done stands is_begun.loaded from part old new log log' answer not h.near is_begun.done }

  -- what beginning a node leaves that is longer than the least part size
  record IsLeft (stands : ℕ → ℕ → Reduced S → Type 0) (lens : List ℕ) (least : ℕ) (part : Stretch) (old new : SeatState) (log log' : List (Outcome S)) : Type 0 where
    longer : least < part.len
    reported : new.reported ≡ old.reported
    log_is : log' ≡ log
    logged : LogsOn stands lens least part.first part.first old new log log'

  logged_longer : (stands : ℕ → ℕ → Reduced S → Type 0) (lens : List ℕ) (least : ℕ) (part : Stretch) (old new : SeatState) (log log' : List (Outcome S)) (answer : Begun) → answer ≡ begun.Longer → IsNode lens least part →
      IsBegun stands least part old new log log' answer → IsLeft stands lens least part old new log log'
  logged_longer stands lens least part old new log log' answer is node is_begun =
      let same : IsDone stands part is_begun.loaded old new log log' begun.Longer = subst (λ a. IsDone stands part is_begun.loaded old new log log' a) is is_begun.done in
      record {
        longer = longer_test is_begun.loaded part.first least part.len (nat_lt is_begun.loaded part.first) (nat_lt least part.len) refl (subst (λ a. a ≡ begun_by is_begun.loaded part least) is is_begun.answer_is);
        reported = same.1;
        log_is = same.2;
        logged = λ from h. record {
          kept = kept_begun stands lens least [] part old new log log' answer node h.kept is_begun;
          near = subst (λ l. AreNeighbours from (parts_of l) part.first) (sym same.2) h.near;
        };
      }

  halved_from : (stands : ℕ → ℕ → Reduced S → Type 0) (lens : List ℕ) (least : ℕ) (part : Stretch) (old new : SeatState) (log log' : List (Outcome S)) (halves : Option (Stretch × Stretch)) →
      IsNode lens least part → 1 ≤ least → IsLeft stands lens least part old new log log' → (IsNone halves ↔ (part.len ≡ 1)) → IfSome halves (λ h. AreHalves part h.0 h.1) → IfSome halves (λ h. HasNodesAlways part h.0 h.1) →
      IsLoggedOr stands lens least part old new log log' halves
  halved_from stands lens least part old new log log' None node large left none are nodes =
      let one : part.len ≡ 1 = none.0 refl in let longer = left.longer in absurd (omega (arith, one, large, longer))
  halved_from stands lens least part old new log log' (Some h) node large left none are nodes =
      let lies = node_lies lens least part node in
      let both = subst (λ l. HasNodes l least part h.0 h.1) lies.0 (nodes least) node left.longer in
      record { halves = are; left_node = both.0; right_node = both.1; reported = left.reported; log_is = left.log_is; logged = left.logged }

  -- a node is longer than the least part size
  pub logged_halved : (stands : ℕ → ℕ → Reduced S → Type 0) (lens : List ℕ) (least : ℕ) (part : Stretch) (old new : SeatState) (log log' : List (Outcome S)) (answer : Begun) (halves : Option (Stretch × Stretch)) → answer ≡ begun.Longer →
      IsNode lens least part → 1 ≤ least → IsBegun stands least part old new log log' answer → (IsNone halves ↔ (part.len ≡ 1)) → IfSome halves (λ h. AreHalves part h.0 h.1) → IfSome halves (λ h. HasNodesAlways part h.0 h.1) →
      IsLoggedOr stands lens least part old new log log' halves
  logged_halved stands lens least part old new log log' answer halves is node large is_begun =
      halved_from stands lens least part old new log log' halves node large (logged_longer stands lens least part old new log log' answer is node is_begun)

  -- what is known where there are no halves, and where there are
  pub logged_none : (stands : ℕ → ℕ → Reduced S → Type 0) (lens : List ℕ) (least : ℕ) (part : Stretch) (old new : SeatState) (log log' : List (Outcome S)) (halves : Option (Stretch × Stretch)) → halves ≡ None →
      IsLoggedOr stands lens least part old new log log' halves → LogsOn stands lens least part.first (part.first + part.len) old new log log'
  logged_none stands lens least part old new log log' halves is h = subst (λ (x : Option (Stretch × Stretch)). IsLoggedOr stands lens least part old new log log' x) is h

  pub logged_some : (stands : ℕ → ℕ → Reduced S → Type 0) (lens : List ℕ) (least : ℕ) (part left right : Stretch) (old new : SeatState) (log log' : List (Outcome S)) (halves : Option (Stretch × Stretch)) → halves ≡ Some (left, right) →
      IsLoggedOr stands lens least part old new log log' halves → IsHalved stands lens least part left right old new log log'
  logged_some stands lens least part left right old new log log' halves is h = subst (λ (x : Option (Stretch × Stretch)). IsLoggedOr stands lens least part old new log log' x) is h

  -- both halves, one after the other
  pub logged_both : (stands : ℕ → ℕ → Reduced S → Type 0) (lens : List ℕ) (least : ℕ) (part left right : Stretch) (seat0 seat1 seat2 seat3 : SeatState) (log0 log1 log2 log3 : List (Outcome S)) →
      IsHalved stands lens least part left right seat0 seat1 log0 log1 → LogsOn stands lens least left.first (left.first + left.len) seat1 seat2 log1 log2 → LogsOn stands lens least right.first (right.first + right.len) seat2 seat3 log2 log3 →
      LogsOn stands lens least part.first (part.first + part.len) seat0 seat3 log0 log3
  logged_both stands lens least part left right seat0 seat1 seat2 seat3 log0 log1 log2 log3 h one two from start =
      let begins = h.halves.begins in
      let next = h.halves.next in
      let together = h.halves.together in
      let end : right.first + right.len ≡ part.first + part.len = omega (arith, begins, next, together) in
      let first : IsLogged stands lens least from left.first seat1 log1 = subst (λ k. IsLogged stands lens least from k seat1 log1) (sym begins) (h.logged from start) in
      let mid : IsLogged stands lens least from right.first seat2 log2 = subst (λ k. IsLogged stands lens least from k seat2 log2) (sym next) (one from first) in
      subst (λ k. IsLogged stands lens least from k seat3 log3) end (two from mid)
