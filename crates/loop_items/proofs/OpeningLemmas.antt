-- Axes that are opened one after another, up to the first that is refused.
use Rattle.std.proofs.Common.{◌≡◌, ℕ, suc, ◌+◌, ◌<◌, ◌≤◌, List, [], ◌∷◌, ◌++◌, length, map, drop, get_or, Option, Some, None, Result, Ok, Err, refl, ap, sym, ◌∙◌, add-one, append_assoc, append-nil}
use Rattle.std.specs.Prelude.{IsErrAnd, flat_map}
use Rattle.std.proofs.Math.Seq.{drop-cons}
use Rattle.std.proofs.lemmas.List.{drop_all}
use Rattle.loop_data.specs.declared.value.Value.{Value}
use Rattle.loop_data.specs.declared.value.Value.TheVariants.{Tuple}
use Rattle.loop_data.specs.declared.head.Axis.{Axis, fold-roll-Axis}
use Rattle.loop_data.specs.declared.head.Axis.TheVariants.{Zip, rolls-Zip}
use Rattle.loop_data.specs.declared.head.Axis.TheOpen.{Axis-F as a}
use Rattle.loop_meaning.specs.Items.{Listing, Sources, all_items, axis_items, axis_step, side_by_side}
use Rattle.loop_items.specs.declared.refusal.HeadRefusal.{HeadRefusal}
use Rattle.loop_items.specs.Collected.{Collecting, Collection, all_collected, collected, collected_step}
use Rattle.loop_items.specs.Opening.{AreOpen}
use Rattle.loop_items.specs.Refusals.{collection_refusal, first_refusal, or_else, unless_refused}

or_else-assoc : (a b c : Option HeadRefusal) → or_else (or_else a b) c ≡ or_else a (or_else b c)
or_else-assoc None b c = refl
or_else-assoc (Some refusal) b c = refl

pub or_else-none : (a : Option HeadRefusal) → or_else a None ≡ a
or_else-none None = refl
or_else-none (Some refusal) = refl

pub first-append : (line : ℕ) (cs ds : List Collection) → first_refusal line (cs ++ ds) ≡ or_else (first_refusal line cs) (first_refusal line ds)
first-append line [] ds = refl
first-append line (c ∷ cs) ds =
    ap (or_else (collection_refusal line c)) (first-append line cs ds) ∙ sym (or_else-assoc (collection_refusal line c) (first_refusal line cs) (first_refusal line ds))

-- what isn't refused is the whole
pub was_fine : {A : Type 0} (refusal : Option HeadRefusal) (whole value : A) → Ok value ≡ unless_refused refusal whole → (refusal ≡ None) × (value ≡ whole)
was_fine None whole value e = (refl, cc e)
was_fine (Some refusal) whole value e = absurd (cc e)

pub was_refused : {A : Type 0} (refusal : Option HeadRefusal) (whole : A) (r : HeadRefusal) → Err r ≡ unless_refused refusal whole → refusal ≡ Some r
was_refused None whole r e = absurd (cc e)
was_refused (Some refusal) whole r e = cc e

-- what is left to open makes the whole
pub record IsOpening (line : ℕ) (axes : List Axis) (sources : Sources) (i : ℕ) (lists : List (List Value)) : Type 0 where
  pub values : lists ++ all_items (map axis_items (drop i axes)) sources ≡ all_items (map axis_items axes) sources
  pub rest : first_refusal line (all_collected (drop i axes) sources) ≡ first_refusal line (all_collected axes sources)

next_axis : (axes : List Axis) (i : ℕ) (axis : Axis) → i < length axes → axis ≡ get_or axes i axis → drop i axes ≡ axis ∷ drop (i + 1) axes
next_axis axes i axis within is = drop-cons axes i axis within ∙ ap (λ x. x ∷ drop (suc i) axes) (sym is) ∙ ap (λ j. axis ∷ drop j axes) (sym (add-one i))

module _ (line : ℕ) (axes : List Axis) (sources : Sources) (i : ℕ) (lists : List (List Value)) (so : IsOpening line axes sources i lists) where
  -- the refusals that are left, that of one axis first
  left : (axis : Axis) → i < length axes → axis ≡ get_or axes i axis →
      or_else (first_refusal line (collected axis sources)) (first_refusal line (all_collected (drop (i + 1) axes) sources)) ≡ first_refusal line (all_collected axes sources)
  left axis within is =
      sym (first-append line (collected axis sources) (all_collected (drop (i + 1) axes) sources))
      ∙ ap (λ (xs : List Axis). first_refusal line (all_collected xs sources)) (sym (next_axis axes i axis within is))
      ∙ so.rest

  -- one more axis was opened
  pub opened_more : (axis : Axis) (values : List Value) (new : List (List Value)) → i < length axes → axis ≡ get_or axes i axis →
      Ok values ≡ unless_refused (first_refusal line (collected axis sources)) (axis_items axis sources) →
      new ≡ lists ++ values ∷ [] → IsOpening line axes sources (i + 1) new
  opened_more axis values new within is told now =
      let fine = was_fine (first_refusal line (collected axis sources)) (axis_items axis sources) values told in
      let after = all_items (map axis_items (drop (i + 1) axes)) sources in
      record {
        values =
            ap (λ xs. xs ++ after) now
            ∙ append_assoc lists (values ∷ []) after
            ∙ ap (λ v. lists ++ (v ∷ after)) fine.1
            ∙ ap (λ (xs : List Axis). lists ++ all_items (map axis_items xs) sources) (sym (next_axis axes i axis within is))
            ∙ so.values;
        rest =
            ap (λ o. or_else o (first_refusal line (all_collected (drop (i + 1) axes) sources))) (sym fine.0) ∙ left axis within is;
      }

  -- one is refused, and none before it
  pub refused_here : (axis : Axis) (r : HeadRefusal) → i < length axes → axis ≡ get_or axes i axis →
      Err r ≡ unless_refused (first_refusal line (collected axis sources)) (axis_items axis sources) →
      first_refusal line (all_collected axes sources) ≡ Some r
  refused_here axis r within is told =
      sym (left axis within is)
      ∙ ap (λ o. or_else o (first_refusal line (all_collected (drop (i + 1) axes) sources))) (was_refused (first_refusal line (collected axis sources)) (axis_items axis sources) r told)

  -- all are open
  pub all_open : length axes ≤ i → AreOpen line axes sources lists
  all_open over =
      let none : drop i axes ≡ [] = drop_all i axes over in
      record {
        values = sym (append-nil lists) ∙ ap (λ (xs : List Axis). lists ++ all_items (map axis_items xs) sources) (sym none) ∙ so.values;
        fine = sym so.rest ∙ ap (λ (xs : List Axis). first_refusal line (all_collected xs sources)) none;
      }

-- ---- zips

parts_collected : (parts : List Axis) (sources : Sources) → flat_map (λ (part : Collecting). part sources) (map collected parts) ≡ all_collected parts sources
parts_collected [] sources = refl
parts_collected (x ∷ xs) sources = ap (λ cs. collected x sources ++ cs) (parts_collected xs sources)

-- the layer of a zip
zip_collected : (parts : List Axis) → collected (Zip parts) ≡ collected_step (a.Zip (map collected parts))
zip_collected parts = ap collected (sym (rolls-Zip parts)) ∙ fold-roll-Axis Collecting collected_step (a.Zip parts)

zip_items : (parts : List Axis) → axis_items (Zip parts) ≡ axis_step (a.Zip (map axis_items parts))
zip_items parts = ap axis_items (sym (rolls-Zip parts)) ∙ fold-roll-Axis Listing axis_step (a.Zip parts)

module _ (line : ℕ) (axis : Axis) (parts : List Axis) (sources : Sources) (is : axis ≡ Zip parts) where
  zip_refusals : first_refusal line (collected axis sources) ≡ first_refusal line (all_collected parts sources)
  zip_refusals = ap (λ (x : Axis). first_refusal line (collected x sources)) is
      ∙ ap (λ (f : Collecting). first_refusal line (f sources)) (zip_collected parts)
      ∙ ap (first_refusal line) (parts_collected parts sources)

  pub zip_refused : (r : HeadRefusal) → first_refusal line (all_collected parts sources) ≡ Some r →
      Err r ≡ unless_refused (first_refusal line (collected axis sources)) (axis_items axis sources)
  zip_refused r told = sym (ap (λ o. unless_refused o (axis_items axis sources)) (zip_refusals ∙ told))

  pub zip_opened : (lists : List (List Value)) → AreOpen line parts sources lists →
      Ok (map Tuple (side_by_side lists)) ≡ unless_refused (first_refusal line (collected axis sources)) (axis_items axis sources)
  zip_opened lists fine =
      let same : map Tuple (side_by_side lists) ≡ axis_items axis sources =
      ap (λ (xs : List (List Value)). map Tuple (side_by_side xs)) fine.values
      ∙ sym (ap (λ (x : Axis). axis_items x sources) is ∙ ap (λ (f : Listing). f sources) (zip_items parts))
      in
      ap Ok same ∙ sym (ap (λ o. unless_refused o (axis_items axis sources)) (zip_refusals ∙ fine.fine))

-- an error that was handed on is the same error
pub handed_on : {T : Type 0} (result : Result T HeadRefusal) (refusal : HeadRefusal) → IsErrAnd result (λ e. e ≡ refusal) → result ≡ Err refusal
handed_on (Ok x) refusal h = absurd h
handed_on (Err e) refusal h = ap Err h
