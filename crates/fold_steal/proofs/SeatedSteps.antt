-- How the seats of a new crew are made, one after another, of what each needs.
use Rattle.std.proofs.Common.{◌≡◌, ℕ, zero, suc, ◌+◌, ◌-◌, ◌<◌, ◌≤◌, Option, List, [], ◌∷◌, ◌++◌, append_assoc, append-nil, length, map, take, drop, get_or, option_to_list, sum_by, refl, sym, ap, ◌∙◌, subst, arith}
use Rattle.std.specs.List.{AllByRecursion}
use Rattle.std.specs.Global.{Vec}
use Rattle.std.proofs.lemmas.List.{length-append, map-append}
use Rattle.splittable.specs.Places.{item_count}
use Rattle.splittable.specs.Parts.{Stretch, AreNeighbours}
use Rattle.splittable.specs.Nodes.{least_part_of}
use Rattle.stop_word.specs.Seats.{SeatState}
use Rattle.part_deque.specs.Ends.{OwnerEnd, ThiefEnd}
use Rattle.fold_steal.specs.declared.seats.Held.{Held}
use Rattle.fold_steal.specs.Crews.{CrewNow}
use Rattle.fold_steal.specs.Deals.{IsDealt}
use Rattle.fold_steal.specs.Cuts.{IsFreshStop}
use Rattle.fold_steal.specs.NewSeats.{IsStarted, AreStarted, IsNewEnd, IsNewRow, AreStops, AreDeques, crew_with, IsNewSeat, AreNewSeats, HasEnds, HaveEnds, AreAllWhereAlone}
use Rattle.fold_steal.proofs.RowSteps.{drop_then, many_rows}
use Rattle.fold_steal.proofs.HandSteps.{left_more}

module _ {A : Type 0} where
  -- the first of a list was taken out
  pub first_out : (xs ys : List A) (x : A) → 0 < length xs → x ≡ get_or xs 0 x → ys ≡ drop 1 xs → xs ≡ x ∷ ys
  first_out [] ys x some is rest = absurd (omega arith)
  first_out (z ∷ zs) ys x some is rest = λ i. sym is i ∷ sym rest i

  -- what was before, and what is left, are all still
  still_all : (before all : List A) (x : A) (xs ys : List A) → xs ≡ x ∷ ys → before ++ xs ≡ all → (before ++ x ∷ []) ++ ys ≡ all
  still_all before all x xs ys e h = append_assoc before (x ∷ []) ys ∙ ap (λ l. before ++ l) (sym e) ∙ h

  -- nothing is left
  none_left : (xs : List A) → length xs ≡ 0 → xs ≡ []
  none_left [] e = refl
  none_left (x ∷ xs) e = absurd (omega arith)

  pub all_gone : (before all xs : List A) → length xs ≡ 0 → before ++ xs ≡ all → before ≡ all
  all_gone before all xs none h = sym (append-nil before) ∙ ap (λ l. before ++ l) (sym (none_left xs none)) ∙ h

-- the first of some rows was taken out
pub first_row_out : (xs ys : List (Vec ThiefEnd)) (x : Vec ThiefEnd) → 0 < length xs → x ≡ get_or xs 0 x → ys ≡ drop 1 xs → map (λ r. r.items) xs ≡ x.items ∷ map (λ r. r.items) ys
first_row_out xs ys x some is rest = ap (map (λ (r : Vec ThiefEnd). r.items)) (first_out xs ys x some is rest)

-- parts next to each other, of which there is at most one
dealt_alone : (parts dealt : List Stretch) (to k : ℕ) → k ≡ 0 → length parts ≤ 1 → dealt ≡ take 1 (drop k parts) → AreNeighbours 1 parts to → AreNeighbours 1 dealt to
dealt_alone [] dealt to k first few e near =
    let at : take 1 (drop k []) ≡ [] = ap (λ n. take 1 (drop n [])) first in
    subst (λ ps. AreNeighbours 1 ps to) (sym (e ∙ at)) near
dealt_alone (x ∷ []) dealt to k first few e near = subst (λ ps. AreNeighbours 1 ps to) (sym (e ∙ ap (λ n. take 1 (drop n (x ∷ []))) first)) near
dealt_alone (x ∷ y ∷ zs) dealt to k first few e near = absurd (omega arith)

-- what the next seat is made of
pub record IsNext (crew : CrewNow) (workers number : ℕ) (dealt : List Stretch) (stop : SeatState) (owner : OwnerEnd) (row : List ThiefEnd) : Type 0 where
  pub large : least_part_of 1 (item_count owner.lens) ≤ owner.least
  pub started : IsStarted owner.lens owner.least dealt owner
  pub ends : AllByRecursion (IsNewEnd owner.lens owner.least) row
  pub in_row : number < length row
  pub stop_is : IsFreshStop stop.word stop
  pub alone : AreAllWhereAlone owner.lens (length row) dealt
  pub lens_is : owner.lens ≡ crew.lens
  pub least_is : owner.least ≡ crew.least
  pub word_is : stop.word ≡ crew.word

next_is : (crew : CrewNow) (workers number : ℕ) (parts dealt : List Stretch) (stop : SeatState) (owner : OwnerEnd) (row : List ThiefEnd) → least_part_of 1 (item_count crew.lens) ≤ crew.least → IsDealt crew.lens crew.least workers parts →
    number < workers → dealt ≡ take 1 (drop number parts) → IsFreshStop crew.word stop → IsStarted crew.lens crew.least (take 1 (drop number parts)) owner → IsNewRow crew.lens crew.least workers row → IsNext crew workers number dealt stop owner row
next_is crew workers number parts dealt stop owner row large deal lt e fresh start ends =
    let lens : owner.lens ≡ crew.lens = ap (λ (o : OwnerEnd). o.lens) start in
    let least : owner.least ≡ crew.least = ap (λ (o : OwnerEnd). o.least) start in
    record {
      large = subst (λ (p : List ℕ × ℕ). least_part_of 1 (item_count p.0) ≤ p.1) (λ i. (sym lens i, sym least i)) large;
      started = subst (λ (p : (List ℕ × ℕ) × List Stretch). IsStarted p.0.0 p.0.1 p.1 owner) (λ i. ((sym lens i, sym least i), sym e i)) start;
      ends = subst (λ (p : List ℕ × ℕ). AllByRecursion (IsNewEnd p.0 p.1) row) (λ i. (sym lens i, sym least i)) ends.ends;
      in_row = (let n = ends.many_are in omega arith);
      stop_is = record { word_is = refl; reported = fresh.reported; seen = fresh.seen };
      alone = λ one.
          let n = ends.many_are in
          let few = deal.many in
          subst (λ l. AreNeighbours 1 dealt (item_count l + 1)) (sym lens) (dealt_alone parts dealt (item_count crew.lens + 1) number (omega arith) (omega arith) e deal.near);
      lens_is = lens;
      least_is = least;
      word_is = fresh.word_is;
    }

module _ {S : Type 0} where
  new_seats_more : (crew : CrewNow) (number : ℕ) (parts : List Stretch) (seats : List (Held S)) (s : Held S) → AreNewSeats crew number parts seats → IsNewSeat crew (number + length seats) (take 1 (drop (length seats) parts)) s →
      AreNewSeats crew number parts (seats ++ s ∷ [])
  new_seats_more crew number parts [] s h one = let e : number + 0 ≡ number = omega arith in (subst (λ n. IsNewSeat crew n (take 1 parts) s) e one, tt)
  new_seats_more crew number parts (x ∷ seats) s h one =
      let e : number + suc (length seats) ≡ suc number + length seats = omega arith in (
        h.0,
        new_seats_more crew (suc number) (drop 1 parts) seats s h.1
            (subst (λ (p : ℕ × List Stretch). IsNewSeat crew p.0 (take 1 p.1) s) (λ i. (e i, sym (drop_then (length seats) parts) i)) one),
      )

  new_as : (crew : CrewNow) (number : ℕ) (dealt : List Stretch) (s : Held S) → IsNewSeat (crew_with crew.lens crew.least crew.word) number dealt s → IsNewSeat crew number dealt s
  new_as crew number dealt s h = record { number_is = h.number_is; dealt_is = h.dealt_is; stack = h.stack; log = h.log; stop = h.stop; owner = h.owner; thieves = h.thieves }

  -- So many seats were made of what was there, and this is what is left for the others.
  pub record AreSeatedUpTo (crew : CrewNow) (parts : List Stretch) (workers number : ℕ) (stops stops' : List SeatState) (owners owners' : List OwnerEnd) (rows rows' : List (List ThiefEnd)) (seats : List (Held S)) : Type 0 where
    pub new : AreNewSeats crew 0 parts seats
    pub many : length seats ≡ number
    pub stops_are : map (λ (s : Held S). s.stop) seats ++ stops' ≡ stops
    pub owners_are : map (λ (s : Held S). s.owner) seats ++ owners' ≡ owners
    pub rows_are : map (λ (s : Held S). s.thieves.items) seats ++ rows' ≡ rows
    pub stops_left : number + length stops' ≡ workers
    pub owners_left : number + length owners' ≡ workers
    pub rows_left : number + length rows' ≡ workers
    pub fresh : AllByRecursion (IsFreshStop crew.word) stops'
    pub started : AreStarted crew.lens crew.least (drop number parts) owners'
    pub new_rows : AllByRecursion (IsNewRow crew.lens crew.least workers) rows'

  pub none_seated : (crew : CrewNow) (parts : List Stretch) (workers : ℕ) (stops : List SeatState) (owners : List OwnerEnd) (rows : List (List ThiefEnd)) (seats : List (Held S)) → seats ≡ [] → AreStops crew.word workers stops →
      AreDeques crew.lens crew.least parts workers workers owners rows → AreSeatedUpTo crew parts workers 0 stops stops owners owners rows rows seats
  none_seated crew parts workers stops owners rows seats none s d =
      subst (AreSeatedUpTo crew parts workers 0 stops stops owners owners rows rows) (sym none)
      (record {
        new = tt;
        many = refl;
        stops_are = refl;
        owners_are = refl;
        rows_are = refl;
        stops_left = (let n = s.many_are in omega arith);
        owners_left = (let n = d.owners_are in omega arith);
        rows_left = (let n = d.rows_are in omega arith);
        fresh = s.fresh;
        started = d.started;
        new_rows = d.new_rows;
      })

  module _ (crew : CrewNow) (parts : List Stretch) (workers number : ℕ) (stops stops' stops'' : List SeatState) (owners owners' owners'' : List OwnerEnd) (rows rows' rows'' : List (List ThiefEnd)) (seats : List (Held S)) (dealt : List Stretch)
      (stop : SeatState) (owner : OwnerEnd) (row : List ThiefEnd) where
    pub next_seat : least_part_of 1 (item_count crew.lens) ≤ crew.least → IsDealt crew.lens crew.least workers parts → number < workers → AreSeatedUpTo crew parts workers number stops stops' owners owners' rows rows' seats → dealt ≡ take 1 (drop number parts) →
        stops' ≡ stop ∷ stops'' → owners' ≡ owner ∷ owners'' → rows' ≡ row ∷ rows'' → IsNext crew workers number dealt stop owner row
    next_seat large deal lt h e a b c =
        next_is crew workers number parts dealt stop owner row large deal lt e
        (subst (AllByRecursion (IsFreshStop crew.word)) a h.fresh).0
        (subst (AreStarted crew.lens crew.least (drop number parts)) b h.started).0
        (subst (AllByRecursion (IsNewRow crew.lens crew.least workers)) c h.new_rows).0

    -- one seat more
    pub seated_more : (seats' : List (Held S)) (s : Held S) → AreSeatedUpTo crew parts workers number stops stops' owners owners' rows rows' seats → dealt ≡ take 1 (drop number parts) →
        stops' ≡ stop ∷ stops'' → owners' ≡ owner ∷ owners'' → rows' ≡ row ∷ rows'' → IsNext crew workers number dealt stop owner row →
        IsNewSeat (crew_with owner.lens owner.least stop.word) number dealt s → HasEnds stop owner row s → seats' ≡ seats ++ s ∷ [] → AreSeatedUpTo crew parts workers (number + 1) stops stops'' owners owners'' rows rows'' seats'
    seated_more seats' s h e a b c next new ends more =
        let one : suc number ≡ number + 1 = omega arith in
        let same : crew_with owner.lens owner.least stop.word ≡ crew_with crew.lens crew.least crew.word = λ i. crew_with (next.lens_is i) (next.least_is i) (next.word_is i) in
        let count = h.many in
        let at : number ≡ 0 + length seats = omega arith in
        let seat : IsNewSeat crew (0 + length seats) (take 1 (drop (length seats) parts)) s =
        new_as crew (0 + length seats) (take 1 (drop (length seats) parts)) s
        (subst (λ (p : (CrewNow × ℕ) × List Stretch). IsNewSeat p.0.0 p.0.1 p.1 s) (λ i. ((same i, at i), (e ∙ ap (λ n. take 1 (drop n parts)) (sym h.many)) i)) new) in
        let m : length stops' ≡ suc (length stops'') = ap length a in
        let m' : length owners' ≡ suc (length owners'') = ap length b in
        let m'' : length rows' ≡ suc (length rows'') = ap length c in
        let x = h.stops_left in
        let x' = h.owners_left in
        let x'' = h.rows_left in
        let put_stop : map (λ (s : Held S). s.stop) (seats ++ s ∷ []) ≡ map (λ (s : Held S). s.stop) seats ++ stop ∷ [] =
        map-append (λ (s : Held S). s.stop) seats (s ∷ []) ∙ ap (λ t. map (λ (s : Held S). s.stop) seats ++ t ∷ []) ends.stop_is in
        let put_owner : map (λ (s : Held S). s.owner) (seats ++ s ∷ []) ≡ map (λ (s : Held S). s.owner) seats ++ owner ∷ [] =
        map-append (λ (s : Held S). s.owner) seats (s ∷ []) ∙ ap (λ t. map (λ (s : Held S). s.owner) seats ++ t ∷ []) ends.owner_is in
        let put_row : map (λ (s : Held S). s.thieves.items) (seats ++ s ∷ []) ≡ map (λ (s : Held S). s.thieves.items) seats ++ row ∷ [] =
        map-append (λ (s : Held S). s.thieves.items) seats (s ∷ []) ∙ ap (λ t. map (λ (s : Held S). s.thieves.items) seats ++ t ∷ []) ends.thieves_are in
        subst (AreSeatedUpTo crew parts workers (number + 1) stops stops'' owners owners'' rows rows'') (sym more)
        (record {
          new = new_seats_more crew 0 parts seats s h.new seat;
          many = length-append seats (s ∷ []) ∙ ap (λ n. n + 1) h.many;
          stops_are = ap (λ l. l ++ stops'') put_stop ∙ still_all (map (λ (s : Held S). s.stop) seats) stops stop stops' stops'' a h.stops_are;
          owners_are = ap (λ l. l ++ owners'') put_owner ∙ still_all (map (λ (s : Held S). s.owner) seats) owners owner owners' owners'' b h.owners_are;
          rows_are = ap (λ l. l ++ rows'') put_row ∙ still_all (map (λ (s : Held S). s.thieves.items) seats) rows row rows' rows'' c h.rows_are;
          stops_left = omega arith;
          owners_left = omega arith;
          rows_left = omega arith;
          fresh = (subst (AllByRecursion (IsFreshStop crew.word)) a h.fresh).1;
          started = subst (λ ps. AreStarted crew.lens crew.least ps owners'') (left_more number parts) (subst (AreStarted crew.lens crew.least (drop number parts)) b h.started).1;
          new_rows = (subst (AllByRecursion (IsNewRow crew.lens crew.least workers)) c h.new_rows).1;
        })

  -- all seats are made
  pub all_seated : (crew : CrewNow) (parts : List Stretch) (workers number : ℕ) (stops stops' : List SeatState) (owners owners' : List OwnerEnd) (rows rows' : List (List ThiefEnd)) (seats : List (Held S)) → workers ≤ number →
      AreSeatedUpTo crew parts workers number stops stops' owners owners' rows rows' seats → AreNewSeats crew 0 parts seats × HaveEnds stops owners rows seats
  all_seated crew parts workers number stops stops' owners owners' rows rows' seats le h =
      let x = h.stops_left in
      let x' = h.owners_left in
      let x'' = h.rows_left in (
        h.new,
        record {
          stops_are = all_gone (map (λ (s : Held S). s.stop) seats) stops stops' (omega arith) h.stops_are;
          owners_are = all_gone (map (λ (s : Held S). s.owner) seats) owners owners' (omega arith) h.owners_are;
          rows_are = all_gone (map (λ (s : Held S). s.thieves.items) seats) rows rows' (omega arith) h.rows_are;
        },
      )
