use Rattle.std.proofs.Common.{◌≡◌, ◌++◌, ℕ, List, Bor, map, refl, sym, ap, ◌∙◌, rules}
use Rattle.std.specs.Map.Iter.{deref_pair}
use Rattle.std.proofs.Output.{has_written_append, has_written_of_eq}
use Rattle.std.proofs.lemmas.Map.Iter.{iter_end}
use Rattle.loop_data.specs.ValueTexts.{separated}
use Rattle.reducer_tower.specs.declared.state.TowerState.{TowerState}
use Rattle.reducer_tower.specs.Texts.{state_text, group_text, groups_text}
use Rattle.reducer_tower.proofs.DisplayLemmas.{between_after-last, group_written, texts_of_lent}
use Rattle.reducer_tower.proofs.display.+texts.Goals as goal

pub write_groups-loop-key-preserved : goal.write_groups-loop-key-preserved
write_groups-loop-key-preserved g t c =
    let item : Bor (List ℕ) × Bor TowerState = (c.in-Some.key, c.in-Some.state) in (
      search rules,
      sym (between_after-last c.loop-key.yielded item),
      λ plain.
          let before = c.loop-key.invariant.2 plain in
          let gap = c.write_str-in-loop-key.ensures.writes before.plain (search rules) in
          let key = c.write_str-in-loop-key-2.ensures.writes gap.plain (search rules) in
          let colon = c.write_str-in-loop-key-3.ensures.writes key.plain (search rules) in
          let part = c.fmt.ensures.writes colon.plain (search rules) in
          let written = has_written_append _ _ _ _ _ _ (has_written_append _ _ _ _ _ _ (has_written_append _ _ _ _ _ _ (has_written_append _ _ _ _ _ _ before gap) key) colon) part in
          has_written_of_eq _ _ _ _ _ (rw c.as_str.ensures.bytes (group_written deref_pair c.loop-key.yielded item c.loop-key.between.now c.loop-key.invariant.1)) written,
    )

pub write_groups-returns : goal.write_groups-returns
write_groups-returns g t c = λ plain ok.
    let start = c.into_iter-key-iterator.ensures.into_iter_gives ∙ c.iter-key-items.ensures.rest in
    let whole = (iter_end deref_pair c.args.groups.now c.loop-key.yielded c.into_iter-key-iterator.result c.loop-key.key-iterator c.next.new.self c.next.result start c.loop-key.yielded_by c.in-None.is c.next.ensures.steps).0 in
    let texts = texts_of_lent deref_pair c.loop-key.yielded ∙ ap (λ gs. map group_text (map (λ g. (g.0, state_text g.1)) gs)) whole in
    let opened = c.write_str.ensures.writes plain (search rules) in
    let inside = c.loop-key.invariant.2 opened.plain in
    let closed = c.write_str-2.ensures.writes inside.plain ok in
    let written = has_written_append _ _ _ _ _ _ (has_written_append _ _ _ _ _ _ opened inside) closed in
    has_written_of_eq _ _ _ _ _ (rw texts refl) written
