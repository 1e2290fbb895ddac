use Rattle.std.proofs.Common.{◌∙◌, ◌+◌, sym}
use Rattle.csv.specs.Records.{fields_of}
use Rattle.column_input.proofs.HeaderLemmas.{differs_here, fields_compared, not_false, not_true, same_further}
use Rattle.column_input.proofs.header.first_difference.Goals as goal

pub returns-then-ne : goal.returns-then-ne
returns-then-ne c =
    let compared = fields_compared c.get.result c.get-in-loop-place.result _ _ c.get.ensures.value c.get-in-loop-place.ensures.value in
    sym (c.loop-place.invariant ∙ differs_here (c.loop-place.place + 1) c.loop-place.place (fields_of c.args.names.now) (fields_of c.args.fields.now) (sym compared ∙ not_true _ (sym c.ne.ensures ∙ c.if-ne.true)))

pub loop-place-preserved : goal.loop-place-preserved
loop-place-preserved c =
    let compared = fields_compared c.get.result c.get-in-loop-place.result _ _ c.get.ensures.value c.get-in-loop-place.ensures.value in
    c.loop-place.invariant ∙ same_further (c.loop-place.place + 1) c.loop-place.place (fields_of c.args.names.now) (fields_of c.args.fields.now) (sym compared ∙ not_false _ (sym c.ne.ensures ∙ c.if-ne.false))
