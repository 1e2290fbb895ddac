-- What the reducers of the leaves and of groups do, said of the states of towers.
use mathlib.Core.Path as path
use mathlib.Core.Path.{◌∙◌}
use Rattle.std.proofs.Common.{Bool, Option, Some, ◌≡◌, ℕ, ◌^◌, ◌<◌, ◌≤◌, List, [], ◌∷◌, ◌++◌, length, map, ℤ, pos, to_z, of_z, refl, arith, length-append, w64, FitsSigned}
use Rattle.std.specs.Prelude.{All, true, false}
use Rattle.std.specs.Int.{w128}
use Rattle.std.proofs.lemmas.Int.{to_z-of_z, SFits-int_wrap}
use Rattle.std.proofs.lemmas.List.{map-append, map-id, length-map}
use Rattle.std.proofs.lemmas.List.Elements.{All-append, All-push}
use Rattle.loop_data.specs.declared.value.Value.{Value}
use Rattle.loop_data.specs.ValueParts.{as_int, as_bool, left_of, right_of}
use Rattle.loop_results.specs.Results.{input_at_key, product_of}
use Rattle.reducer_laws.specs.Numbers.{IsSum, IsProduct}
use Rattle.reducer_laws.specs.Groups.{GroupsStand}
use Rattle.reducer_laws.specs.Standing.{MayTake, MayMerge, TakesNext, TakesTogether}
use Rattle.reducer_laws.proofs.NumberLemmas.{sum_fits}
use Rattle.reducer_laws.proofs.GroupLemmas.{group_none}
use Rattle.reducer_tower.specs.declared.state.TowerState.{TowerState, out-TowerState}
use Rattle.reducer_tower.specs.declared.state.TowerState.TheVariants as state
use Rattle.reducer_tower.specs.declared.state.TowerState.TheOpen.{TowerState-F as s}
use Rattle.reducer_tower.specs.declared.state.TowerState.TheViews.{out-roll-TowerState}
use Rattle.reducer_tower.specs.Inputs.{at_place, HasPlace}
use Rattle.reducer_tower.specs.Stands.{Standing, sum_in, prod_in, count_in, truth_in, found_in, placed_in, listed_in, grouped_in, both_in, SumStands, ProdStands, CountStands, TruthStands, FoundStands, PlacedStands, ListStands, GroupedStand, BothStand}

-- ---- a state that is made from a reducer's, where it stands for what the reducer's stands for on the parts of the inputs
module _ {S J : Type 0} (by : S → List J → Type 0) (f : Value → J) (stands : Standing) (make : S → TowerState)
    (same : (a : S) (xs : List Value) → path.◌≡◌ {A = Type 0} (stands (make a) xs) (by a (map f xs))) where
  read : (a : S) (xs : List Value) → stands (make a) xs → by a (map f xs)
  read a xs h = path.subst (λ (T : Type 0). T) (same a xs) h

  write : (a : S) (xs : List Value) → by a (map f xs) → stands (make a) xs
  write a xs h = path.subst (λ (T : Type 0). T) (path.sym (same a xs)) h

  taken : (before after : S) (input : Value) → TakesNext by before (f input) after → TakesNext stands (make before) input (make after)
  taken before after input t = λ xs h. write after (xs ++ input ∷ []) (path.subst (by after) (path.sym (map-append f xs (input ∷ []))) (t (map f xs) (read before xs h)))

  together : (a b whole : S) → TakesTogether by a b whole → TakesTogether stands (make a) (make b) (make whole)
  together a b whole t = λ xs ys g h. write whole (xs ++ ys) (path.subst (by whole) (path.sym (map-append f xs ys)) (t (map f xs) (map f ys) (read a xs g) (read b ys h)))

  may_take : (a : S) → MayTake stands (make a) → MayTake by a
  may_take a (xs, h, lt) = (map f xs, read a xs h, omega (arith, length-map xs f, lt))

  few : (xs ys : List Value) → length (xs ++ ys) ≤ 2 ^ 62 → length (map f xs ++ map f ys) ≤ 2 ^ 62
  few xs ys le = path.subst (λ l. length l ≤ 2 ^ 62) (map-append f xs ys) (omega (arith, length-map (xs ++ ys) f, le))

  may_merge : (a b : S) → MayMerge stands (make a) (make b) → MayMerge by a b
  may_merge a b (xs, ys, g, h, le) = (map f xs, map f ys, read a xs g, read b ys h, few xs ys le)

-- what an option holds is one value
pub held_once : {A : Type 0} (x y : A) (o : Option A) → o ≡ Some x → o ≡ Some y → x ≡ y
held_once x y o e f = cc

-- ---- sums
pub out-Sum : (n : ℤ) → out-TowerState (state.Sum n) ≡ s.Sum n
out-Sum n = path.ap out-TowerState (path.sym (state.rolls-Sum n)) ∙ out-roll-TowerState (s.Sum n)

same_sum : (n : ℤ) (xs : List Value) → path.◌≡◌ {A = Type 0} (SumStands (state.Sum n) xs) (IsSum n (map as_int xs))
same_sum n xs = path.ap (λ l. sum_in l xs) (out-Sum n)

pub sum_taken : (total n after : ℤ) (input : Value) → n ≡ as_int input → TakesNext IsSum total n after → TakesNext SumStands (state.Sum total) input (state.Sum after)
sum_taken total n after input e t = taken IsSum as_int SumStands state.Sum same_sum total after input (path.subst (λ m. TakesNext IsSum total m after) e t)

pub sum_may_merge : (a b : ℤ) → MayMerge SumStands (state.Sum a) (state.Sum b) → MayMerge IsSum a b
sum_may_merge = may_merge IsSum as_int SumStands state.Sum same_sum

-- a sum that so few inputs make is what the machine holds
held : (n : ℤ) (xs ys : List ℤ) → IsSum n xs → length (xs ++ ys) ≤ 2 ^ 62 → to_z w128 (of_z w128 n) ≡ n
held n xs ys h le = to_z-of_z w128 n (sum_fits n xs h (omega (arith, length-append xs ys, le)))

pub sum_merged : (a b whole : ℤ) → MayMerge SumStands (state.Sum a) (state.Sum b) → TakesTogether IsSum (to_z w128 (of_z w128 a)) (to_z w128 (of_z w128 b)) whole
    → TakesTogether SumStands (state.Sum a) (state.Sum b) (state.Sum (to_z w128 (of_z w128 whole)))
sum_merged a b whole may t =
    let (xs, ys, g, h, le) = sum_may_merge a b may in
    let left = held a xs ys g le in
    let right = held b ys xs h (omega (arith, length-append xs ys, length-append ys xs, le)) in
    let one = path.subst (λ z. TakesTogether IsSum z (to_z w128 (of_z w128 b)) whole) left t in
    let both : TakesTogether IsSum a b whole = path.subst (λ z. TakesTogether IsSum a z whole) right one in
    let same = to_z-of_z w128 whole (sum_fits whole (xs ++ ys) (both xs ys g h) le) in
    path.subst (λ z. TakesTogether SumStands (state.Sum a) (state.Sum b) (state.Sum z)) (path.sym same) (together IsSum as_int SumStands state.Sum same_sum a b whole both)

-- ---- products, which fit the machine as they are wrapped
pub out-Prod : (n : ℤ) → out-TowerState (state.Prod n) ≡ s.Prod n
out-Prod n = path.ap out-TowerState (path.sym (state.rolls-Prod n)) ∙ out-roll-TowerState (s.Prod n)

same_prod : (n : ℤ) (xs : List Value) → path.◌≡◌ {A = Type 0} (ProdStands (state.Prod n) xs) (IsProduct n (map as_int xs))
same_prod n xs = path.ap (λ l. prod_in l xs) (out-Prod n)

pub prod_taken : (product n after : ℤ) (input : Value) → n ≡ as_int input → TakesNext IsProduct product n after → TakesNext ProdStands (state.Prod product) input (state.Prod after)
prod_taken product n after input e t = taken IsProduct as_int ProdStands state.Prod same_prod product after input (path.subst (λ m. TakesNext IsProduct product m after) e t)

-- ---- counts, whose reducer takes inputs that are nothing
pub out-Count : (n : ℕ) → out-TowerState (state.Count n) ≡ s.Count n
out-Count n = path.ap out-TowerState (path.sym (state.rolls-Count n)) ∙ out-roll-TowerState (s.Count n)

abbrev blank : Value → Unit {0}
blank x = tt

abbrev pub Counts : ℕ → List (Unit {0}) → Type 0
Counts n xs = n ≡ length xs

same_count : (n : ℕ) (xs : List Value) → path.◌≡◌ {A = Type 0} (CountStands (state.Count n) xs) (Counts n (map blank xs))
same_count n xs = path.ap (λ l. count_in l xs) (out-Count n) ∙ path.ap (λ m. n ≡ m) (path.sym (length-map xs blank))

pub count_taken : (n after : ℕ) (input : Value) → TakesNext Counts n tt after → TakesNext CountStands (state.Count n) input (state.Count after)
count_taken n after input t = taken Counts blank CountStands state.Count same_count n after input t

pub count_may_take : (n : ℕ) → MayTake CountStands (state.Count n) → MayTake Counts n
count_may_take = may_take Counts blank CountStands state.Count same_count

pub count_may_merge : (a b : ℕ) → MayMerge CountStands (state.Count a) (state.Count b) → MayMerge Counts a b
count_may_merge = may_merge Counts blank CountStands state.Count same_count

pub count_merged : (a b whole : ℕ) → TakesTogether Counts a b whole → TakesTogether CountStands (state.Count a) (state.Count b) (state.Count whole)
count_merged = together Counts blank CountStands state.Count same_count

-- ---- values with their places
abbrev Placed : Type 0
Placed = Option (Value × ℕ)

pub out-FoundAt : (x : Placed) → out-TowerState (state.FoundAt x) ≡ s.FoundAt x
out-FoundAt x = path.ap out-TowerState (path.sym (state.rolls-FoundAt x)) ∙ out-roll-TowerState (s.FoundAt x)

module _ (says : Placed → List (Value × ℕ) → Type 0) where
  same_placed : (x : Placed) (xs : List Value) → path.◌≡◌ {A = Type 0} (PlacedStands says (state.FoundAt x) xs) (All HasPlace xs × says x (map at_place xs))
  same_placed x xs = path.ap (λ l. placed_in says l xs) (out-FoundAt x)

  read_placed : (x : Placed) (xs : List Value) → PlacedStands says (state.FoundAt x) xs → All HasPlace xs × says x (map at_place xs)
  read_placed x xs h = path.subst (λ (T : Type 0). T) (same_placed x xs) h

  write_placed : (x : Placed) (xs : List Value) → All HasPlace xs × says x (map at_place xs) → PlacedStands says (state.FoundAt x) xs
  write_placed x xs h = path.subst (λ (T : Type 0). T) (path.sym (same_placed x xs)) h

  pub placed_merged : (a b whole : Placed) → TakesTogether says a b whole → TakesTogether (PlacedStands says) (state.FoundAt a) (state.FoundAt b) (state.FoundAt whole)
  placed_merged a b whole t = λ xs ys g h.
      let one = read_placed a xs g in
      let other = read_placed b ys h in
      write_placed whole (xs ++ ys) (
        All-append HasPlace xs ys one.0 other.0,
        path.subst (says whole) (path.sym (map-append at_place xs ys)) (t (map at_place xs) (map at_place ys) one.1 other.1),
      )

-- ---- groups, whatever their inner states stand for
abbrev pub Held : Type 0
Held = List (List ℕ × TowerState)

pub out-Grouped : (g : Held) → out-TowerState (state.Grouped g) ≡ s.Grouped g
out-Grouped g = path.ap out-TowerState (path.sym (state.rolls-Grouped g)) ∙ out-roll-TowerState (s.Grouped g)

module _ (inner : Standing) where
  pub same_groups : (g : Held) (xs : List Value) → path.◌≡◌ {A = Type 0} (GroupedStand inner (state.Grouped g) xs) (GroupsStand inner g (map input_at_key xs))
  same_groups g xs = path.ap (λ l. grouped_in inner l xs) (out-Grouped g)

  pub grouped_taken : (before after : Held) (k : List ℕ) (x input : Value) → (k, x) ≡ input_at_key input → TakesNext (GroupsStand inner) before (k, x) after → TakesNext (GroupedStand inner) (state.Grouped before) input (state.Grouped after)
  grouped_taken before after k x input e t =
      taken (GroupsStand inner) input_at_key (GroupedStand inner) state.Grouped same_groups before after input (path.subst (λ p. TakesNext (GroupsStand inner) before p after) e t)

  pub grouped_merged : (a b whole : Held) → TakesTogether (GroupsStand inner) a b whole → TakesTogether (GroupedStand inner) (state.Grouped a) (state.Grouped b) (state.Grouped whole)
  grouped_merged = together (GroupsStand inner) input_at_key (GroupedStand inner) state.Grouped same_groups
