-- How the deques of a new crew are gathered, and why its seats keep what seats keep.
use Rattle.std.proofs.Common.{◌≡◌, ℕ, zero, suc, ◌+◌, ◌-◌, ◌*◌, ◌^◌, ◌<◌, ◌≤◌, Option, Some, None, List, [], ◌∷◌, ◌++◌, append_assoc, append-nil, length, map, take, drop, get_or, reverse, option_to_list, sum_by, refl, sym, ap, ◌∙◌, subst, arith}
use Rattle.std.specs.List.{AllByRecursion, flat_map}
use Rattle.std.proofs.lemmas.List.{length-append, map-append}
use Rattle.std.proofs.lemmas.List.Sums.{sum_by-append, sum_by-cons}
use Rattle.splittable.specs.Places.{item_count}
use Rattle.splittable.specs.Parts.{Stretch, AreNeighbours}
use Rattle.splittable.specs.Nodes.{IsNode, least_part_of}
use Rattle.stop_word.specs.Seats.{SeatState}
use Rattle.part_deque.specs.Rule.{whole_weight}
use Rattle.part_deque.specs.Steps.{right_weight}
use Rattle.part_deque.specs.Ends.{DequeId, OwnerEnd, ThiefEnd, thief_end, half_weight}
use Rattle.piece_ledger.specs.declared.outcomes.Outcome.{Outcome}
use Rattle.piece_ledger.proofs.Keeping.{kept_none}
use Rattle.fold_steal.specs.declared.seats.Held.{Held}
use Rattle.fold_steal.specs.Worths.{worth_of, worth}
use Rattle.fold_steal.specs.Stacks.{IsStack}
use Rattle.fold_steal.specs.Seats.{IsHeld, IsKeptLog, IsThiefOf, any_answer, parts_of, stolen_worth}
use Rattle.fold_steal.specs.Crews.{AreColumns}
use Rattle.fold_steal.specs.Deals.{push_column}
use Rattle.fold_steal.specs.Cuts.{IsFreshStop, IsFreshEnd, CanSpread, HasAdded}
use Rattle.fold_steal.specs.NewSeats.{IsStarted, AreStarted, IsNewEnd, IsNewRow, owner_key, AreDeques, AreAllWhereAlone}
use Rattle.fold_steal.proofs.RowSteps.{drop_then}
use Rattle.fold_steal.proofs.DealSteps.{columns_more}

-- a new deque's thief's end can be cut for as many workers as there may be
pub new_spreads : (workers : ℕ) (t : ThiefEnd) → workers ≤ 32 → t.weight ≡ half_weight → CanSpread workers t
new_spreads workers t few weight = (10, weight, omega arith)

pub own_fresh : (deque : DequeId) (lens : List ℕ) (least : ℕ) (t : ThiefEnd) → IsFreshEnd deque lens least t → IsFreshEnd t.deque t.lens t.least t
own_fresh deque lens least t h =
    h ∙ (λ i. thief_end (sym (ap (λ (t : ThiefEnd). t.deque) h) i) (sym (ap (λ (t : ThiefEnd). t.lens) h) i) (sym (ap (λ (t : ThiefEnd). t.least) h) i) t.weight [] 0 0)

-- the part dealt to a worker is a node
pub node_at : (lens : List ℕ) (least k : ℕ) (parts dealt : List Stretch) → AllByRecursion (IsNode lens least) parts → dealt ≡ take 1 (drop k parts) → AllByRecursion (IsNode lens least) dealt
node_at lens least zero [] dealt h e = subst (AllByRecursion (IsNode lens least)) (sym e) tt
node_at lens least (suc k) [] dealt h e = subst (AllByRecursion (IsNode lens least)) (sym e) tt
node_at lens least zero (x ∷ xs) dealt h e = subst (AllByRecursion (IsNode lens least)) (sym e) (h.0, tt)
node_at lens least (suc k) (x ∷ xs) dealt h e = node_at lens least k xs dealt h.1 e

started_more : (lens : List ℕ) (least : ℕ) (parts : List Stretch) (os : List OwnerEnd) (o : OwnerEnd) → AreStarted lens least parts os → IsStarted lens least (take 1 (drop (length os) parts)) o → AreStarted lens least parts (os ++ o ∷ [])
started_more lens least parts [] o h one = (one, tt)
started_more lens least parts (x ∷ os) o h one =
    (h.0, started_more lens least (drop 1 parts) os o h.1 (subst (λ ps. IsStarted lens least (take 1 ps) o) (sym (drop_then (length os) parts)) one))

-- ---- rows

push_many : (rows : List (List ThiefEnd)) (ts : List ThiefEnd) → length (push_column rows ts) ≡ length rows
push_many [] ts = refl
push_many (row ∷ rows) [] = refl
push_many (row ∷ rows) (t ∷ ts) = ap suc (push_many rows ts)

new_end_last : (lens : List ℕ) (least : ℕ) (row : List ThiefEnd) (t : ThiefEnd) → AllByRecursion (IsNewEnd lens least) row → IsNewEnd lens least t → AllByRecursion (IsNewEnd lens least) (row ++ t ∷ [])
new_end_last lens least [] t h one = (one, tt)
new_end_last lens least (x ∷ xs) t h one = (h.0, new_end_last lens least xs t h.1 one)

new_rows_more : (lens : List ℕ) (least k : ℕ) (rows : List (List ThiefEnd)) (ts : List ThiefEnd) → AllByRecursion (IsNewRow lens least k) rows → AllByRecursion (IsNewEnd lens least) ts → length ts ≡ length rows →
    AllByRecursion (IsNewRow lens least (k + 1)) (push_column rows ts)
new_rows_more lens least k [] ts h new many = tt
new_rows_more lens least k (row ∷ rows) [] h new many = absurd (omega arith)
new_rows_more lens least k (row ∷ rows) (t ∷ ts) h new many = (
  record { many_are = length-append row (t ∷ []) ∙ ap (λ n. n + 1) h.0.many_are; ends = new_end_last lens least row t h.0.ends new.0 },
  new_rows_more lens least k rows ts h.1 new.1 (omega arith),
)

no_rows_new : (lens : List ℕ) (least : ℕ) (rows : List (List ThiefEnd)) → AllByRecursion (λ (row : List ThiefEnd). row ≡ []) rows → AllByRecursion (IsNewRow lens least 0) rows
no_rows_new lens least [] h = tt
no_rows_new lens least (row ∷ rows) h = (record { many_are = ap length h.0; ends = subst (AllByRecursion (IsNewEnd lens least)) (sym h.0) tt }, no_rows_new lens least rows h.1)

-- the shares of an end are on its deque, and new
shares_of : (deque : DequeId) (lens : List ℕ) (least : ℕ) (t : ThiefEnd) (ts : List ThiefEnd) → t.deque ≡ deque → t.lens ≡ lens → t.least ≡ least → AllByRecursion (IsFreshEnd t.deque t.lens t.least) ts →
    AllByRecursion (λ (x : ThiefEnd). x.deque ≡ deque) ts × AllByRecursion (IsNewEnd lens least) ts
shares_of deque lens least t [] d l e h = (tt, tt)
shares_of deque lens least t (x ∷ xs) d l e h =
    let rest = shares_of deque lens least t xs d l e h.1 in
    let here : x.deque ≡ t.deque = ap (λ (x : ThiefEnd). x.deque) h.0 in
    ((here ∙ d, rest.0), (h.0 ∙ (λ i. thief_end (sym here i) (l i) (e i) x.weight [] 0 0), rest.1))

-- ---- deques

pub no_deques : (lens : List ℕ) (least workers : ℕ) (parts : List Stretch) (owners : List OwnerEnd) (rows : List (List ThiefEnd)) → owners ≡ [] → AllByRecursion (λ (row : List ThiefEnd). row ≡ []) rows → length rows ≡ workers →
    AreDeques lens least parts 0 workers owners rows
no_deques lens least workers parts owners rows none empty many =
    subst (λ os. AreDeques lens least parts 0 workers os rows) (sym none) (record { started = tt; owners_are = refl; columns = empty; rows_are = many; new_rows = no_rows_new lens least rows empty })

-- the ends of which an end was cut, where there was none before
pub ends_are : (t : ThiefEnd) (workers : ℕ) (none ends : List ThiefEnd) → none ≡ [] → HasAdded (IsFreshEnd t.deque t.lens t.least) (λ (t : ThiefEnd). t.weight) workers t.weight none ends → length ends ≡ workers
ends_are t workers none ends e h = ap length (h.added ∙ ap (λ l. l ++ h.shares) e) ∙ h.many_are

-- one deque more
pub deques_more : (lens : List ℕ) (least number workers : ℕ) (parts dealt : List Stretch) (owners owners' : List OwnerEnd) (rows rows' : List (List ThiefEnd)) (o : OwnerEnd) (t : ThiefEnd) (none ends : List ThiefEnd) →
    AreDeques lens least parts number workers owners rows → dealt ≡ take 1 (drop number parts) → IsStarted lens least dealt o → IsFreshEnd o.deque lens least t → t.weight ≡ half_weight → owners' ≡ owners ++ o ∷ [] → none ≡ [] →
    HasAdded (IsFreshEnd t.deque t.lens t.least) (λ (t : ThiefEnd). t.weight) workers t.weight none ends → rows' ≡ push_column rows ends → AreDeques lens least parts (number + 1) workers owners' rows'
deques_more lens least number workers parts dealt owners owners' rows rows' o t none ends h deal start fresh weight more empty added handed =
    let is : ends ≡ added.shares = added.added ∙ ap (λ l. l ++ added.shares) empty in
    let many : length ends ≡ length rows = ends_are t workers none ends empty added ∙ sym h.rows_are in
    let each = subst (AllByRecursion (IsFreshEnd t.deque t.lens t.least)) (sym is) added.each in
    let of = shares_of o.deque lens least t ends (ap (λ (t : ThiefEnd). t.deque) fresh) (ap (λ (t : ThiefEnd). t.lens) fresh) (ap (λ (t : ThiefEnd). t.least) fresh) each in
    let heavy : o.weight ≡ half_weight = ap (λ (o : OwnerEnd). o.weight) start in
    let sum : sum_by (λ (t : ThiefEnd). t.weight) ends ≡ half_weight = ap (sum_by (λ (t : ThiefEnd). t.weight)) is ∙ added.weights ∙ weight in
    let column = columns_more (map owner_key owners) rows o.deque o.weight ends h.columns many of.0 (omega arith) in
    let key : map owner_key (owners ++ o ∷ []) ≡ map owner_key owners ++ (o.deque, o.weight) ∷ [] = map-append owner_key owners (o ∷ []) in
    let here : IsStarted lens least (take 1 (drop (length owners) parts)) o = subst (λ ps. IsStarted lens least ps o) (deal ∙ ap (λ n. take 1 (drop n parts)) (sym h.owners_are)) start in
    let all : AreDeques lens least parts (number + 1) workers (owners ++ o ∷ []) (push_column rows ends) =
    record {
      started = started_more lens least parts owners o h.started here;
      owners_are = length-append owners (o ∷ []) ∙ ap (λ n. n + 1) h.owners_are;
      columns = subst (λ ks. AreColumns ks (push_column rows ends)) (sym key) column;
      rows_are = push_many rows ends ∙ h.rows_are;
      new_rows = new_rows_more lens least number rows ends h.new_rows of.1 many;
    } in
    subst (λ (p : List OwnerEnd × List (List ThiefEnd)). AreDeques lens least parts (number + 1) workers p.0 p.1) (λ i. (sym more i, sym handed i)) all

pub all_deques : (lens : List ℕ) (least number workers : ℕ) (parts : List Stretch) (owners : List OwnerEnd) (rows : List (List ThiefEnd)) → number ≡ workers → AreDeques lens least parts number workers owners rows → AreDeques lens least parts workers workers owners rows
all_deques lens least number workers parts owners rows e h = subst (λ n. AreDeques lens least parts n workers owners rows) e h

-- ---- one seat

new_stole : (w : ℕ → ℕ) (lens : List ℕ) (least : ℕ) (ts : List ThiefEnd) → AllByRecursion (IsNewEnd lens least) ts → stolen_worth w ts ≡ 0
new_stole w lens least [] h = refl
new_stole w lens least (t ∷ ts) h =
    let here : worth w t.taken ≡ 0 = ap (λ (t : ThiefEnd). worth w t.taken) h.0 in
    let rest = new_stole w lens least ts h.1 in
    omega (arith, sum_by-cons (λ (t : ThiefEnd). worth w t.taken) t ts, here, rest)

new_of : (lens : List ℕ) (least : ℕ) (ts : List ThiefEnd) → AllByRecursion (IsNewEnd lens least) ts → AllByRecursion (IsThiefOf lens least) ts × AllByRecursion (λ (t : ThiefEnd). t.stolen ≡ 0) ts
new_of lens least [] h = (tt, tt)
new_of lens least (t ∷ ts) h =
    let rest = new_of lens least ts h.1 in
    (((ap (λ (t : ThiefEnd). t.lens) h.0, ap (λ (t : ThiefEnd). t.least) h.0), rest.0), (ap (λ (t : ThiefEnd). t.stolen) h.0, rest.1))

one_turned : (d : Option Stretch) → reverse (option_to_list d) ≡ option_to_list d
one_turned (Some x) = refl
one_turned None = refl

module _ {S : Type 0} where
  -- a seat before its first turn keeps what a seat keeps
  pub new_is_held : (seat : Held S) → least_part_of 1 (item_count seat.owner.lens) ≤ seat.owner.least → IsStarted seat.owner.lens seat.owner.least (option_to_list seat.dealt) seat.owner →
      AllByRecursion (IsNewEnd seat.owner.lens seat.owner.least) seat.thieves.items → seat.number < length seat.thieves.items → IsFreshStop seat.stop.word seat.stop →
      AreAllWhereAlone seat.owner.lens (length seat.thieves.items) (option_to_list seat.dealt) → seat.stack.items ≡ [] → seat.log ≡ [] → IsHeld seat
  new_is_held seat large start ends number stop alone stack log =
      let lens = seat.owner.lens in
      let least = seat.owner.least in
      let of = new_of lens least seat.thieves.items ends in
      let none : IsKeptLog lens least [] seat.stop.seen [] = kept_none any_answer lens least [] seat.stop.seen in
      record {
        large = large;
        owner_of = (refl, refl);
        thieves_of = of.0;
        number = number;
        balanced = λ w.
            let taken : worth w seat.owner.taken ≡ 0 = ap (λ (o : OwnerEnd). worth w o.taken) start in
            let pushed : worth w seat.owner.pushed ≡ worth w (option_to_list seat.dealt) = ap (λ (o : OwnerEnd). worth w o.pushed) start in
            let stacked : worth w seat.stack.items ≡ 0 = ap (worth w) stack in
            let logged : worth w (parts_of seat.log) ≡ 0 = ap (λ (l : List (Outcome S)). worth w (parts_of l)) log in
            let stole = new_stole w lens least seat.thieves.items ends in
            omega arith;
        stacked = subst (IsStack lens least) (sym stack) ∣ tt ∣₁;
        kept = subst (λ (p : List ℕ × List (Outcome S)). IsKeptLog lens least p.0 seat.stop.seen p.1) (λ i. (sym stop.reported i, sym log i)) none;
        alone = λ one.
            let kept : reverse seat.owner.kept ≡ option_to_list seat.dealt = ap (λ (o : OwnerEnd). reverse o.kept) start ∙ one_turned seat.dealt in
            record {
              owner_stole = ap (λ (o : OwnerEnd). o.stolen) start;
              thieves_stole = of.1;
              order = subst (λ ps. AreNeighbours 1 ps (item_count lens + 1)) (λ i. parts_of (sym log i) ++ (reverse (sym stack i) ++ sym kept i)) (alone one);
            };
      }
