use Rattle.std.proofs.Common.{◌≡◌, ◌+◌, ◌++◌, [], ◌∷◌, take, refl, sym, ap, ◌∙◌, rules}
use Rattle.std.proofs.lemmas.List.{take_more, take_all}
use Rattle.std.proofs.Output.{has_written_append, has_written_of_eq}
use Rattle.loop_data.specs.ValueTexts.{value_text}
use Rattle.loop_data.proofs.TextLemmas.{between_after-last, separated-last, value_text-Tuple}
use Rattle.loop_data.proofs.display.ValueDisplay.+fmt.Goals as goal

pub loop-part-init : goal.loop-part-init
loop-part-init g c c' = (search rules, refl, λ plain. search rules)

pub loop-part-preserved : goal.loop-part-preserved
loop-part-preserved g c c' =
    let i = c'.loop-part.part-index in
    let items = c'.as_slice-part-items.result.now in
    let item = c'.part-item.result in
    let more : take (i + 1) items ≡ take i items ++ item ∷ [] = take_more items i item c'.loop-part-test.true ∙ ap (λ x. take i items ++ x ∷ []) (sym c'.part-item.is) in (
      search rules,
      rw more (sym (between_after-last (take i items) item)),
      λ plain.
          let before = c'.loop-part.invariant.2 plain in
          let gap = c'.write_str-in-loop-part.ensures.writes before.plain (search rules) in
          let part = c'.fmt.ensures.writes gap.plain (search rules) in
          let written = has_written_append _ _ _ _ _ _ (has_written_append _ _ _ _ _ _ before gap) part in
          has_written_of_eq _ _ _ _ _ (rw (c'.loop-part.invariant.1, more) (sym (separated-last value_text (take i items) item))) written,
    )

pub returns-after-loop-part-clause-writes : goal.returns-after-loop-part-clause-writes
returns-after-loop-part-clause-writes g c c' plain ok =
    let parts = c'.in-Tuple.parts in
    let all = take_all c'.loop-part.part-index c'.as_slice-part-items.result.now c'.loop-part-test.false ∙ c'.as_slice-part-items.ensures in
    let opened = c'.write_str-in-Tuple.ensures.writes plain (search rules) in
    let inside = c'.loop-part.invariant.2 opened.plain in
    let closed = c'.write_str-in-Tuple-2.ensures.writes inside.plain ok in
    let written = has_written_append _ _ _ _ _ _ (has_written_append _ _ _ _ _ _ opened inside) closed in
    has_written_of_eq _ _ _ _ _ (rw (all, c'.in-Tuple.is) (sym (value_text-Tuple parts))) written
