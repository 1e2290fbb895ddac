-- The seats of a new crew are all its seats.
use Rattle.std.proofs.Common.{◌≡◌, ℕ, zero, suc, ◌+◌, ◌-◌, ◌<◌, ◌≤◌, Option, List, [], ◌∷◌, ◌++◌, append-nil, length, map, take, drop, option_to_list, sum_by, refl, sym, ap, ◌∙◌, subst, arith}
use Rattle.std.specs.List.{All, AllByRecursion, flat_map}
use Rattle.std.proofs.lemmas.List.Elements.{All-nil, All-from_recursion}
use Rattle.std.proofs.lemmas.List.{length-map}
use Rattle.std.proofs.lemmas.List.Sums.{sum_by-cons}
use Rattle.atomic_table.specs.Seated.{TableId}
use Rattle.splittable.specs.Places.{item_count}
use Rattle.splittable.specs.Parts.{Stretch, AreNeighbours}
use Rattle.fold_seq.specs.declared.answers.Reduced.{Reduced}
use Rattle.stop_word.specs.Seats.{SeatState}
use Rattle.part_deque.specs.Rule.{whole_weight}
use Rattle.part_deque.specs.Ends.{DequeId, OwnerEnd, ThiefEnd}
use Rattle.piece_ledger.specs.declared.outcomes.Outcome.{Outcome}
use Rattle.piece_ledger.specs.Outcomes.{KindStands}
use Rattle.piece_ledger.specs.Logs.{OutcomesStand}
use Rattle.fold_steal.specs.declared.seats.Held.{Held}
use Rattle.fold_steal.specs.Crews.{CrewNow, Fixed, fixed, all_fixed, placed, IsOf, BeginsAt, first_weight, AreColumns, owner_of, AreAll}
use Rattle.fold_steal.specs.Deals.{IsDealt, first_deal}
use Rattle.fold_steal.specs.Cuts.{IsFreshStop, HasAdded}
use Rattle.fold_steal.specs.NewSeats.{owner_key, AreStops, AreDeques, IsNewSeat, AreNewSeats, HaveEnds}
use Rattle.fold_steal.specs.Working.{MayTurn}
use Rattle.fold_steal.proofs.DealSteps.{first_deal_is_all}

-- ---- columns of ends that stay where they are

begins_placed : (deque : DequeId) (rows : List (List ThiefEnd)) → AllByRecursion (BeginsAt deque) rows → AllByRecursion (BeginsAt deque) (map (map placed) rows)
begins_placed deque [] h = tt
begins_placed deque ([] ∷ rows) h = absurd h.0
begins_placed deque ((t ∷ ts) ∷ rows) h = (h.0, begins_placed deque rows h.1)

weights_placed : (rows : List (List ThiefEnd)) → sum_by first_weight (map (map placed) rows) ≡ sum_by first_weight rows
weights_placed [] = refl
weights_placed ([] ∷ rows) =
    let rest = weights_placed rows in
    omega (arith, sum_by-cons first_weight [] (map (map placed) rows), sum_by-cons first_weight [] rows, rest)
weights_placed ((t ∷ ts) ∷ rows) =
    let rest = weights_placed rows in
    omega (arith, sum_by-cons first_weight (map placed (t ∷ ts)) (map (map placed) rows), sum_by-cons first_weight (t ∷ ts) rows, rest)

drops_placed : (rows : List (List ThiefEnd)) → map (drop 1) (map (map placed) rows) ≡ map (map placed) (map (drop 1) rows)
drops_placed [] = refl
drops_placed ([] ∷ rows) = ap (λ l. [] ∷ l) (drops_placed rows)
drops_placed ((t ∷ ts) ∷ rows) = ap (λ l. map placed ts ∷ l) (drops_placed rows)

none_placed : (rows : List (List ThiefEnd)) → AllByRecursion (λ (row : List ThiefEnd). row ≡ []) rows → AllByRecursion (λ (row : List ThiefEnd). row ≡ []) (map (map placed) rows)
none_placed [] h = tt
none_placed (row ∷ rows) h = (ap (map placed) h.0, none_placed rows h.1)

columns_stay : (os : List (DequeId × ℕ)) (rows : List (List ThiefEnd)) → AreColumns os rows → AreColumns os (map (map placed) rows)
columns_stay [] rows h = none_placed rows h
columns_stay (o ∷ os) rows h = (
  begins_placed o.0 rows h.0,
  ap (λ n. o.1 + n) (weights_placed rows) ∙ h.1,
  subst (AreColumns os) (sym (drops_placed rows)) (columns_stay os (map (drop 1) rows) h.2),
)

-- ---- the deal

-- the first parts, one by one, are all parts where there are no more
dealt_from : {S : Type 0} (crew : CrewNow) (number : ℕ) (parts : List Stretch) (seats : List (Held S)) → AreNewSeats crew number parts seats → length parts ≤ length seats → flat_map (λ (f : Fixed). f.dealt) (all_fixed seats) ≡ parts
dealt_from crew number [] [] h few = refl
dealt_from crew number (x ∷ xs) [] h few = absurd (omega arith)
dealt_from crew number [] (s ∷ seats) h few =
    let rest = dealt_from crew (suc number) [] seats h.1 (omega arith) in
    let here : (fixed s).dealt ≡ [] = h.0.dealt_is in
    (λ i. here i ++ rest i)
dealt_from crew number (x ∷ xs) (s ∷ seats) h few =
    let rest = dealt_from crew (suc number) xs seats h.1 (omega arith) in
    let here : (fixed s).dealt ≡ x ∷ [] = h.0.dealt_is in
    (λ i. here i ++ rest i)

pub dealt_parts : (lens : List ℕ) (least workers : ℕ) (parts items : List Stretch) → parts ≡ items → items ≡ first_deal lens least workers → 1 ≤ least → 1 ≤ workers → IsDealt lens least workers parts
dealt_parts lens least workers parts items e e' some any = subst (IsDealt lens least workers) (sym (e ∙ e')) (first_deal_is_all lens least workers some any)

-- stop seats that were cut of the one that had the whole weight
pub cut_all : (word : TableId) (many weight : ℕ) (none stops : List SeatState) → none ≡ [] → weight ≡ whole_weight → HasAdded (IsFreshStop word) (λ (s : SeatState). s.weight) many weight none stops → AreStops word many stops
cut_all word many weight none stops empty whole h =
    let is : stops ≡ h.shares = h.added ∙ ap (λ l. l ++ h.shares) empty in
    subst (AreStops word many) (sym is) (record { many_are = h.many_are; fresh = h.each; weights = h.weights ∙ whole })

module _ {S : Type 0} where
  all_of : (crew : CrewNow) (number : ℕ) (parts : List Stretch) (seats : List (Held S)) → AreNewSeats crew number parts seats → AllByRecursion (IsOf crew) (all_fixed seats)
  all_of crew number parts [] h = tt
  all_of crew number parts (s ∷ seats) h =
      ((ap (λ (o : OwnerEnd). o.lens) h.0.owner, ap (λ (o : OwnerEnd). o.least) h.0.owner, h.0.stop.word_is), all_of crew (suc number) (drop 1 parts) seats h.1)

  keys_fixed : (seats : List (Held S)) → map owner_of (all_fixed seats) ≡ map owner_key (map (λ (s : Held S). s.owner) seats)
  keys_fixed [] = refl
  keys_fixed (s ∷ seats) = ap (λ l. (s.owner.deque, s.owner.weight) ∷ l) (keys_fixed seats)

  ends_fixed : (seats : List (Held S)) → map (λ (f : Fixed). f.ends) (all_fixed seats) ≡ map (map placed) (map (λ (s : Held S). s.thieves.items) seats)
  ends_fixed [] = refl
  ends_fixed (s ∷ seats) = ap (λ l. map placed s.thieves.items ∷ l) (ends_fixed seats)

  shares_fixed : (seats : List (Held S)) → sum_by (λ (f : Fixed). f.share) (all_fixed seats) ≡ sum_by (λ (s : SeatState). s.weight) (map (λ (s : Held S). s.stop) seats)
  shares_fixed [] = refl
  shares_fixed (s ∷ seats) =
      let rest = shares_fixed seats in
      omega (arith, sum_by-cons (λ (f : Fixed). f.share) (fixed s) (all_fixed seats), sum_by-cons (λ (s : SeatState). s.weight) s.stop (map (λ (s : Held S). s.stop) seats), rest)

  pub seats_many : (stops : List SeatState) (owners : List OwnerEnd) (rows : List (List ThiefEnd)) (seats : List (Held S)) (workers : ℕ) → HaveEnds stops owners rows seats → length stops ≡ workers → length seats ≡ workers
  seats_many stops owners rows seats workers h many = sym (length-map seats (λ (s : Held S). s.stop)) ∙ ap length h.stops_are ∙ many

  -- the seats that were made are all
  pub all_are : (crew : CrewNow) (workers : ℕ) (parts : List Stretch) (stops : List SeatState) (owners : List OwnerEnd) (rows : List (List ThiefEnd)) (seats : List (Held S)) → IsDealt crew.lens crew.least workers parts → AreStops crew.word workers stops →
      AreDeques crew.lens crew.least parts workers workers owners rows → AreNewSeats crew 0 parts seats → HaveEnds stops owners rows seats → AreAll crew (all_fixed seats)
  all_are crew workers parts stops owners rows seats deal share deques new ends =
      let many = seats_many stops owners rows seats workers ends share.many_are in
      let few = deal.many in
      let keys : map owner_of (all_fixed seats) ≡ map owner_key owners = keys_fixed seats ∙ ap (map owner_key) ends.owners_are in
      let placed_rows : map (λ (f : Fixed). f.ends) (all_fixed seats) ≡ map (map placed) rows = ends_fixed seats ∙ ap (map (map placed)) ends.rows_are in
      record {
        of = all_of crew 0 parts seats new;
        columns = subst (λ (p : List (DequeId × ℕ) × List (List ThiefEnd)). AreColumns p.0 p.1) (λ i. (sym keys i, sym placed_rows i)) (columns_stay (map owner_key owners) rows deques.columns);
        shares = shares_fixed seats ∙ ap (sum_by (λ (s : SeatState). s.weight)) ends.stops_are ∙ share.weights;
        deal = subst (λ ps. AreNeighbours 1 ps (item_count crew.lens + 1)) (sym (dealt_from crew 0 parts seats new (omega arith))) deal.near;
      }

  new_turn : (stands : ℕ → ℕ → Reduced S → Type 0) (crew : CrewNow) (number : ℕ) (parts : List Stretch) (seats : List (Held S)) → AreNewSeats crew number parts seats → AllByRecursion (MayTurn crew stands) seats
  new_turn stands crew number parts [] h = tt
  new_turn stands crew number parts (s ∷ seats) h = (
    record {
      of = (ap (λ (o : OwnerEnd). o.lens) h.0.owner, ap (λ (o : OwnerEnd). o.least) h.0.owner, h.0.stop.word_is);
      standing = subst (OutcomesStand stands) (sym h.0.log) (All-nil (λ (o : Outcome S). KindStands stands o.part o.kind));
    },
    new_turn stands crew (suc number) (drop 1 parts) seats h.1,
  )

  -- new seats may take turns
  pub new_may_turn : (stands : ℕ → ℕ → Reduced S → Type 0) (crew : CrewNow) (parts : List Stretch) (seats : List (Held S)) → AreNewSeats crew 0 parts seats → All (MayTurn crew stands) seats
  new_may_turn stands crew parts seats h = All-from_recursion (MayTurn crew stands) seats (new_turn stands crew 0 parts seats h)
