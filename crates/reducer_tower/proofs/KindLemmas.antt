-- What a state stands for, and which inputs fit, in a tower that is known to be of a kind.
use mathlib.Core.Path.{◌≡◌, refl, sym, ap, ◌∙◌}
use Rattle.std.specs.Prelude.{Bool, true, false, ◌&&◌}
use Rattle.std.specs.Ordering.{nat_cmp}
use Rattle.std.proofs.Common.{true≢false}
use Rattle.loop_data.specs.declared.value.Value.{Value, out-Value}
use Rattle.loop_data.specs.declared.tower.Kind.{Kind, map-Kind}
use Rattle.loop_data.specs.declared.tower.Kind.TheViews.{roll-Kind}
use Rattle.loop_data.specs.declared.tower.Kind.TheVariants as kind
use Rattle.loop_data.specs.declared.tower.Kind.TheOpen.{Kind-F, Kind-F as k}
use Rattle.loop_data.specs.declared.tower.Kind.TheFolds.{rec-roll-Kind, fold-roll-Kind}
use Rattle.loop_data.specs.ValueOrder.{value_cmp}
use Rattle.loop_data.specs.ValueParts.{left_of, right_of}
use Rattle.loop_results.specs.Extremes.{IsFirstExtreme, is_smaller, is_greater, is_smaller_at, is_greater_at}
use Rattle.loop_values.specs.Fits.{fits_tower, input_step, is_pair, is_text_at}
use Rattle.reducer_laws.specs.Ends.{IsAny, IsAll}
use Rattle.reducer_tower.specs.Inputs.{is_keyed}
use Rattle.reducer_tower.specs.Stands.{Standing, Stands, stands_step, SumStands, ProdStands, CountStands, TruthStands, FoundStands, PlacedStands, ListStands, GroupedStand, BothStand, IsFirst, IsLast}

-- a layer over positions is the layer over what stands there
natural : (X : Type 0) (v : X → Kind) (inner : Kind → Standing) (x : Kind-F X) → stands_step {X = X} (λ p. inner (v p)) x ≡ stands_step inner (map-Kind X Kind v x)
natural X v inner k.Sum = refl
natural X v inner k.Prod = refl
natural X v inner k.Count = refl
natural X v inner k.Least = refl
natural X v inner k.Greatest = refl
natural X v inner k.LeastAt = refl
natural X v inner k.GreatestAt = refl
natural X v inner k.First = refl
natural X v inner k.Last = refl
natural X v inner k.Any = refl
natural X v inner k.All = refl
natural X v inner k.Listed = refl
natural X v inner (k.Grouped f) = refl
natural X v inner (k.Both f g) = refl

pub stands-roll : (x : Kind-F Kind) → Stands (roll-Kind x) ≡ stands_step Stands x
stands-roll = rec-roll-Kind Standing (λ X whole inner layer. stands_step inner layer) natural

opened : (x : Kind-F Kind) (v self : Kind) → roll-Kind x ≡ v → self ≡ v → Stands self ≡ stands_step Stands x
opened x v self rolls is = ap Stands (is ∙ sym rolls) ∙ stands-roll x

fits_opened : (x : Kind-F Kind) (v self : Kind) (input : Value) → roll-Kind x ≡ v → self ≡ v → fits_tower self input ≡ input_step (map-Kind Kind (Value → Bool) fits_tower x) input
fits_opened x v self input rolls is = ap (λ z. fits_tower z input) (is ∙ sym rolls) ∙ ap (λ f. f input) (fold-roll-Kind (Value → Bool) input_step x)

all_three : (a b c : Bool) → (a && b && c) ≡ true → (a ≡ true) × (b ≡ true) × (c ≡ true)
all_three true true c h = (refl, refl, h)
all_three true false c h = absurd (true≢false (sym h))
all_three false b c h = absurd (true≢false (sym h))

both_true : (a b : Bool) → a ≡ true → b ≡ true → (a && b) ≡ true
both_true true b e h = h
both_true false b e h = absurd (true≢false (sym e))

-- ---- of a tower that is known to be of a kind; `lent` is what was lent of its inner tower
module _ (self : Kind) where
  pub of_sum : self ≡ kind.Sum → Stands self ≡ SumStands
  of_sum is = opened k.Sum kind.Sum self kind.rolls-Sum is

  pub of_prod : self ≡ kind.Prod → Stands self ≡ ProdStands
  of_prod is = opened k.Prod kind.Prod self kind.rolls-Prod is

  pub of_count : self ≡ kind.Count → Stands self ≡ CountStands
  of_count is = opened k.Count kind.Count self kind.rolls-Count is

  pub of_least : self ≡ kind.Least → Stands self ≡ FoundStands (IsFirstExtreme (is_smaller value_cmp))
  of_least is = opened k.Least kind.Least self kind.rolls-Least is

  pub of_greatest : self ≡ kind.Greatest → Stands self ≡ FoundStands (IsFirstExtreme (is_greater value_cmp))
  of_greatest is = opened k.Greatest kind.Greatest self kind.rolls-Greatest is

  pub of_least_at : self ≡ kind.LeastAt → Stands self ≡ PlacedStands (IsFirstExtreme (is_smaller_at value_cmp nat_cmp))
  of_least_at is = opened k.LeastAt kind.LeastAt self kind.rolls-LeastAt is

  pub of_greatest_at : self ≡ kind.GreatestAt → Stands self ≡ PlacedStands (IsFirstExtreme (is_greater_at value_cmp nat_cmp))
  of_greatest_at is = opened k.GreatestAt kind.GreatestAt self kind.rolls-GreatestAt is

  pub of_first : self ≡ kind.First → Stands self ≡ FoundStands IsFirst
  of_first is = opened k.First kind.First self kind.rolls-First is

  pub of_last : self ≡ kind.Last → Stands self ≡ FoundStands IsLast
  of_last is = opened k.Last kind.Last self kind.rolls-Last is

  pub of_any : self ≡ kind.Any → Stands self ≡ TruthStands IsAny
  of_any is = opened k.Any kind.Any self kind.rolls-Any is

  pub of_all : self ≡ kind.All → Stands self ≡ TruthStands IsAll
  of_all is = opened k.All kind.All self kind.rolls-All is

  pub of_listed : self ≡ kind.Listed → Stands self ≡ ListStands
  of_listed is = opened k.Listed kind.Listed self kind.rolls-Listed is

  pub of_grouped : (inner lent : Kind) → self ≡ kind.Grouped inner → lent ≡ inner → Stands self ≡ GroupedStand (Stands lent)
  of_grouped inner lent is same = opened (k.Grouped inner) (kind.Grouped inner) self (kind.rolls-Grouped inner) is ∙ ap (λ z. GroupedStand (Stands z)) (sym same)

  pub of_both : (left right lent lent' : Kind) → self ≡ kind.Both left right → lent ≡ left → lent' ≡ right → Stands self ≡ BothStand (Stands lent) (Stands lent')
  of_both left right lent lent' is same same' =
      opened (k.Both left right) (kind.Both left right) self (kind.rolls-Both left right) is
      ∙ ap (λ z. BothStand (Stands z) (Stands right)) (sym same)
      ∙ ap (λ z. BothStand (Stands lent) (Stands z)) (sym same')

  pub grouped_fits : (inner lent : Kind) (x : Value) → self ≡ kind.Grouped inner → lent ≡ inner → fits_tower self x ≡ true → (is_keyed x ≡ true) × (fits_tower lent (right_of x) ≡ true)
  grouped_fits inner lent x is same fit =
      let whole = sym (fits_opened (k.Grouped inner) (kind.Grouped inner) self x (kind.rolls-Grouped inner) is) ∙ fit in
      let (pair, text, rest) = all_three (is_pair x) (is_text_at (out-Value (left_of x))) (fits_tower inner (right_of x)) whole in
      (both_true (is_pair x) (is_text_at (out-Value (left_of x))) pair text, ap (λ z. fits_tower z (right_of x)) same ∙ rest)

  pub both_fit : (left right lent lent' : Kind) (x : Value) → self ≡ kind.Both left right → lent ≡ left → lent' ≡ right → fits_tower self x ≡ true
      → (is_pair x ≡ true) × ((fits_tower lent (left_of x) ≡ true) × (fits_tower lent' (right_of x) ≡ true))
  both_fit left right lent lent' x is same same' fit =
      let whole = sym (fits_opened (k.Both left right) (kind.Both left right) self x (kind.rolls-Both left right) is) ∙ fit in
      let (pair, one, other) = all_three (is_pair x) (fits_tower left (left_of x)) (fits_tower right (right_of x)) whole in
      (pair, (ap (λ z. fits_tower z (left_of x)) same ∙ one, ap (λ z. fits_tower z (right_of x)) same' ∙ other))
