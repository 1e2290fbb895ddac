use Rattle.std.proofs.Common.{◌≡◌, ◌+◌, ◌++◌, [], ◌∷◌, take, refl, sym, ap, ◌∙◌, rules}
use Rattle.std.proofs.lemmas.List.{take_more, take_all}
use Rattle.std.proofs.Output.{has_written_append, has_written_of_eq}
use Rattle.loop_data.specs.ValueTexts.{value_text}
use Rattle.reducer_tower.specs.Texts.{list_text}
use Rattle.reducer_tower.proofs.DisplayLemmas.{between_after-last, separated-last}
use Rattle.reducer_tower.proofs.display.write_inputs.Goals as goal

pub loop-input-init : goal.loop-input-init
loop-input-init g c = (search rules, refl, λ plain. search rules)

pub loop-input-preserved : goal.loop-input-preserved
loop-input-preserved g c =
    let i = c.loop-input.input-index in
    let items = c.args.inputs.now in
    let item = c.input-item.result in
    let more : take (i + 1) items ≡ take i items ++ item ∷ [] = take_more items i item c.loop-input-test.true ∙ ap (λ x. take i items ++ x ∷ []) (sym c.input-item.is) in (
      search rules,
      rw more (sym (between_after-last (take i items) item)),
      λ plain.
          let before = c.loop-input.invariant.2 plain in
          let gap = c.write_str-in-loop-input.ensures.writes before.plain (search rules) in
          let part = c.fmt.ensures.writes gap.plain (search rules) in
          let written = has_written_append _ _ _ _ _ _ (has_written_append _ _ _ _ _ _ before gap) part in
          has_written_of_eq _ _ _ _ _ (rw (c.loop-input.invariant.1, more) (sym (separated-last value_text (take i items) item))) written,
    )

pub returns : goal.returns
returns g c = λ plain ok.
    let all = take_all c.loop-input.input-index c.args.inputs.now c.loop-input-test.false in
    let opened = c.write_str.ensures.writes plain (search rules) in
    let inside = c.loop-input.invariant.2 opened.plain in
    let closed = c.write_str-2.ensures.writes inside.plain ok in
    let written = has_written_append _ _ _ _ _ _ (has_written_append _ _ _ _ _ _ opened inside) closed in
    has_written_of_eq _ _ _ _ _ (rw all refl) written
