-- How logs grow.
use Rattle.std.proofs.Common.{◌≡◌, ℕ, ◌+◌, ◌<◌, ◌⊎◌, ⊎_elim, List, [], ◌∷◌, ◌++◌, append_assoc, sum_by, refl, sym, ap, ◌∙◌, subst, arith}
use Rattle.std.specs.List.{All, Contains}
use Rattle.std.proofs.lemmas.List.Elements.{All-push, All-weaker, Contains-append_left, Contains-append_right}
use Rattle.std.proofs.lemmas.List.Sums.{sum_by-append, sum_by-cons, sum_by_push}
use Rattle.splittable.specs.Parts.{Stretch, part_places, AreHalves, HavePlacesOf, AreNeighbours}
use Rattle.splittable.specs.Nodes.{IsNode}
use Rattle.fold_seq.specs.declared.answers.Reduced.{Reduced}
use Rattle.stop_word.specs.Seats.{SeatState}
use Rattle.piece_ledger.specs.declared.outcomes.Outcome.{Outcome}
use Rattle.piece_ledger.specs.declared.outcomes.OutcomeKind.{OutcomeKind}
use Rattle.piece_ledger.specs.declared.outcomes.OutcomeKind.TheVariants.{Ran, Skipped}
use Rattle.piece_ledger.specs.declared.beginning.Begun.{Begun}
use Rattle.piece_ledger.specs.declared.beginning.Begun.TheVariants as begun
use Rattle.piece_ledger.specs.Outcomes.{KindStands, KindSkipsAt}
use Rattle.piece_ledger.specs.Logs.{OutcomesStand}
use Rattle.piece_ledger.specs.Beginning.{IsDone, IsBegun, IsRefused}
use Rattle.piece_ledger.specs.Kept.{IsKept}
use Rattle.piece_ledger.proofs.Keeping.{kept_begun}
use Rattle.fold_steal.specs.Worths.{worth_of, worth}
use Rattle.fold_steal.specs.Seats.{parts_of, any_answer, IsKeptLog}
use Rattle.fold_steal.specs.Growth.{HasGrown}

nothing_more : (n : ℕ) → n + 0 ≡ n
nothing_more n = omega arith

-- two halves have the places of the whole
pub halves_worth : (w : ℕ → ℕ) (part left right : Stretch) → HavePlacesOf part left right → worth_of w left + worth_of w right ≡ worth_of w part
halves_worth w part left right e = sym (sum_by-append w (part_places left) (part_places right)) ∙ ap (sum_by w) e

-- halves lie where their part lay
pub near_halves : (part left right : Stretch) → AreHalves part left right → (logged post : List Stretch) (from to : ℕ) →
    AreNeighbours from (logged ++ part ∷ post) to → AreNeighbours from (logged ++ left ∷ right ∷ post) to
near_halves part left right h [] post from to (here, rest) =
    let e : part.first + part.len ≡ right.first + right.len = (let a = h.begins in let b = h.next in let c = h.together in omega arith) in
    let P : ℕ → Type 0 = λ k. AreNeighbours k post to in
    (h.begins ∙ here, (h.next, subst P e rest))
near_halves part left right h (x ∷ logged) post from to (here, rest) = (here, near_halves part left right h logged post (x.first + x.len) to rest)

module _ {S : Type 0} where
  pub parts_snoc : (log : List (Outcome S)) (o : Outcome S) → parts_of (log ++ o ∷ []) ≡ parts_of log ++ o.part ∷ []
  parts_snoc [] o = refl
  parts_snoc (x ∷ xs) o = ap (λ l. x.part ∷ l) (parts_snoc xs o)

  -- the log has grown by these parts, and then by those
  pub grown_then : (stands : ℕ → ℕ → Reduced S → Type 0) (lens : List ℕ) (least : ℕ) (ps qs : List Stretch) (a b c : SeatState) (log log' log'' : List (Outcome S)) →
      HasGrown stands lens least ps a b log log' → HasGrown stands lens least qs b c log' log'' → HasGrown stands lens least (ps ++ qs) a c log log''
  grown_then stands lens least ps qs a b c log log' log'' one two =
      record {
        word = two.word ∙ one.word;
        weight = two.weight ∙ one.weight;
        kept = λ k. two.kept (one.kept k);
        standing = λ k. two.standing (one.standing k);
        worth_is = λ w. (let x = one.worth_is w in let y = two.worth_is w in omega (arith, sum_by-append (worth_of w) ps qs));
        order = λ from to rest near.
            let P : List Stretch → Type 0 = λ l. AreNeighbours from (parts_of log ++ l) to in
            two.order from to rest (one.order from to (qs ++ rest) (subst P (append_assoc ps qs rest) near));
      }

  pub grown_by_nothing : (stands : ℕ → ℕ → Reduced S → Type 0) (lens : List ℕ) (least : ℕ) (a : SeatState) (log : List (Outcome S)) → HasGrown stands lens least [] a a log log
  grown_by_nothing stands lens least a log =
      record { word = refl; weight = refl; kept = λ k. k; standing = λ k. k; worth_is = λ w. sym (nothing_more (worth w (parts_of log))); order = λ from to rest near. near }

  -- by both halves of a part is by the part
  pub grown_halves : (stands : ℕ → ℕ → Reduced S → Type 0) (lens : List ℕ) (least : ℕ) (part left right : Stretch) (a b : SeatState) (log log' : List (Outcome S)) → AreHalves part left right → HavePlacesOf part left right →
      HasGrown stands lens least (left ∷ right ∷ []) a b log log' → HasGrown stands lens least (part ∷ []) a b log log'
  grown_halves stands lens least part left right a b log log' halves places h =
      record {
        word = h.word;
        weight = h.weight;
        kept = h.kept;
        standing = h.standing;
        worth_is = λ w.
            let x = h.worth_is w in
            let y = halves_worth w part left right places in
            omega (arith, sum_by-cons (worth_of w) left (right ∷ []), sum_by-cons (worth_of w) right [], sum_by-cons (worth_of w) part []);
        order = λ from to rest near. h.order from to rest (near_halves part left right halves (parts_of log) rest from to near);
      }

  -- what becomes of a part, its answer aside
  any_done : (stands : ℕ → ℕ → Reduced S → Type 0) (part : Stretch) (loaded : ℕ) (old new : SeatState) (log log' : List (Outcome S)) (answer : Begun) → IsDone stands part loaded old new log log' answer → IsDone any_answer part loaded old new log log' answer
  any_done stands part loaded old new log log' begun.Skipped done = done
  any_done stands part loaded old new log log' begun.Longer done = done
  any_done stands part loaded old new log log' begun.Ran (answer, told, stand, seen, many, reported, logged) = (answer, told, tt, seen, many, reported, logged)

  kept_any : (stands : ℕ → ℕ → Reduced S → Type 0) (lens : List ℕ) (least : ℕ) (part : Stretch) (old new : SeatState) (log log' : List (Outcome S)) (answer : Begun) → IsNode lens least part → IsBegun stands least part old new log log' answer →
      IsKeptLog lens least old.reported old.seen log → IsKeptLog lens least new.reported new.seen log'
  kept_any stands lens least part old new log log' answer node h k =
      kept_begun any_answer lens least [] part old new log log' answer node k (record {
        loaded = h.loaded;
        answer_is = h.answer_is;
        done = any_done stands part h.loaded old new log log' answer h.done;
        least_reported = h.least_reported;
        least_seen = h.least_seen;
        exact = h.exact;
      })

  -- one outcome more
  grown_one : (stands : ℕ → ℕ → Reduced S → Type 0) (lens : List ℕ) (least : ℕ) (old new : SeatState) (log log' : List (Outcome S)) (o : Outcome S) → new.word ≡ old.word → new.weight ≡ old.weight → log' ≡ log ++ o ∷ [] →
      KindStands stands o.part o.kind → (IsKeptLog lens least old.reported old.seen log → IsKeptLog lens least new.reported new.seen log') → HasGrown stands lens least (o.part ∷ []) old new log log'
  grown_one stands lens least old new log log' o word weight more stand kept =
      let e : parts_of log' ≡ parts_of log ++ o.part ∷ [] = ap parts_of more ∙ parts_snoc log o in
      record {
        word = word;
        weight = weight;
        kept = kept;
        standing = λ k. subst (OutcomesStand stands) (sym more) (All-push (λ (p : Outcome S). KindStands stands p.part p.kind) log o k stand);
        worth_is = λ w. ap (worth w) e ∙ sum_by-append (worth_of w) (parts_of log) (o.part ∷ []);
        order = λ from to rest near.
            let P : List Stretch → Type 0 = λ l. AreNeighbours from l to in
            subst P (sym (ap (λ l. l ++ rest) e ∙ append_assoc (parts_of log) (o.part ∷ []) rest)) near;
      }

  -- a part was run
  pub grown_ran : (stands : ℕ → ℕ → Reduced S → Type 0) (lens : List ℕ) (least : ℕ) (part : Stretch) (old new : SeatState) (log log' : List (Outcome S)) → IsNode lens least part → new.word ≡ old.word → new.weight ≡ old.weight →
      IsBegun stands least part old new log log' begun.Ran → HasGrown stands lens least (part ∷ []) old new log log'
  grown_ran stands lens least part old new log log' node word weight h =
      let d = h.done in
      grown_one stands lens least old new log log' (record { part = part; kind = Ran d.0 }) word weight d.6 d.2 (kept_any stands lens least part old new log log' begun.Ran node h)

  -- a part was skipped
  pub grown_skipped : (stands : ℕ → ℕ → Reduced S → Type 0) (lens : List ℕ) (least : ℕ) (part : Stretch) (old new : SeatState) (log log' : List (Outcome S)) → IsNode lens least part → new.word ≡ old.word → new.weight ≡ old.weight →
      IsBegun stands least part old new log log' begun.Skipped → HasGrown stands lens least (part ∷ []) old new log log'
  grown_skipped stands lens least part old new log log' node word weight h =
      let d = h.done in
      grown_one stands lens least old new log log' (record { part = part; kind = Skipped h.loaded }) word weight d.2 tt (kept_any stands lens least part old new log log' begun.Skipped node h)

  -- a longer part was begun: nothing was logged
  pub grown_longer : (stands : ℕ → ℕ → Reduced S → Type 0) (lens : List ℕ) (least : ℕ) (part : Stretch) (old new : SeatState) (log log' : List (Outcome S)) → IsNode lens least part → new.word ≡ old.word → new.weight ≡ old.weight →
      IsBegun stands least part old new log log' begun.Longer → HasGrown stands lens least [] old new log log'
  grown_longer stands lens least part old new log log' node word weight h =
      let same : log' ≡ log = h.done.2 in
      record {
        word = word;
        weight = weight;
        kept = kept_any stands lens least part old new log log' begun.Longer node h;
        standing = λ k. subst (OutcomesStand stands) (sym same) k;
        worth_is = λ w. ap (λ l. worth w (parts_of l)) same ∙ sym (nothing_more (worth w (parts_of log)));
        order = λ from to rest near. (let P : List (Outcome S) → Type 0 = λ l. AreNeighbours from (parts_of l ++ rest) to in subst P (sym same) near);
      }

  pub saw_more_kind : (seen more : List ℕ) (part : Stretch) (kind : OutcomeKind S) → KindSkipsAt (λ number. (number < part.first) × Contains seen number) kind → KindSkipsAt (λ number. (number < part.first) × Contains (seen ++ more) number) kind
  saw_more_kind seen more part (Ran _) h = tt
  saw_more_kind seen more part (Skipped number) h = (h.0, Contains-append_left seen more number h.1)

  pub saw_less_kind : (before seen : List ℕ) (part : Stretch) (kind : OutcomeKind S) → KindSkipsAt (λ number. (number < part.first) × Contains seen number) kind → KindSkipsAt (λ number. (number < part.first) × Contains (before ++ seen) number) kind
  saw_less_kind before seen part (Ran _) h = tt
  saw_less_kind before seen part (Skipped number) h = (h.0, Contains-append_right before seen number h.1)

  abbrev Saw : List ℕ → Outcome S → Type 0
  Saw seen o = KindSkipsAt (λ number. (number < o.part.first) × Contains seen number) o.kind

  -- the seat has seen more numbers
  pub kept_more_seen : (lens : List ℕ) (least : ℕ) (reported seen more : List ℕ) (log : List (Outcome S)) → IsKeptLog lens least reported seen log → IsKeptLog lens least reported (seen ++ more) log
  kept_more_seen lens least reported seen more log h =
      record {
        stops = h.stops;
        nodes = h.nodes;
        leaves = h.leaves;
        standing = h.standing;
        skipping = All-weaker (Saw seen) (Saw (seen ++ more)) (λ o k. saw_more_kind seen more o.part o.kind k) log h.skipping;
        ordered = h.ordered;
      }

  -- for want of memory nothing was logged or reported
  pub kept_refused : (lens : List ℕ) (least : ℕ) (old new : SeatState) (log log' : List (Outcome S)) → IsRefused old new log log' → IsKeptLog lens least old.reported old.seen log → IsKeptLog lens least new.reported new.seen log'
  kept_refused lens least old new log log' h k =
      let to : (seen : List ℕ) → new.seen ≡ seen → IsKeptLog lens least old.reported seen log → IsKeptLog lens least new.reported new.seen log' =
      λ seen e x. subst (λ (p : (List ℕ × List ℕ) × List (Outcome S)). IsKeptLog lens least p.0.0 p.0.1 p.1) (λ i. ((sym h.reported i, sym e i), sym h.log_is i)) x in
      ⊎_elim (λ same. to old.seen same k) (λ p. to (old.seen ++ p.0 ∷ []) p.1 (kept_more_seen lens least old.reported old.seen (p.0 ∷ []) log k)) h.seen
