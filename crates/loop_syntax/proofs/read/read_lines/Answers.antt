use Rattle.std.proofs.Common.{◌+◌, ap, ◌∙◌, arith, map}
use Rattle.std.proofs.lemmas.Result.{err_from_is_err_and}
use Rattle.loop_tokens.specs.Lines.{lines_of}
use Rattle.loop_grammar.specs.Texts.{FirstLineRefusal}
use Rattle.loop_syntax.proofs.ReadLemmas.{finish_at, at, step_at, refused_at, passed_on}
use Rattle.loop_syntax.proofs.read.read_lines.Goals as goal

pub returns-in_err-form-clause-refused : goal.returns-in_err-form-clause-refused
returns-in_err-form-clause-refused c =
    let items = c.deref-line-items.result.now in
    let i = c.loop-line.line-index in
    let next = at (λ x. x.now) items i _ c.loop-line-test.true in
    let same = ap (map (λ x. x.now)) c.deref-line-items.ensures.value ∙ c.in_ok-lines.ensures.lines in
    let p = err_from_is_err_and c.from_residual-in_err-form.result c.from_residual-in_err-form.ensures.1 in
    passed_on (FirstLineRefusal 1 (lines_of c.args.text.now)) _ _ _ p.1 p.2 (λ ne. refused_at _ i c.loop-line.forms.items _ next c.loop-line.invariant.reading _ c.loop-line.number _ _ _ same c.loop-line.invariant.number c.in_ok-tokens.ensures (c.in_err-form.ensures.refuses ne))

pub loop-line-preserved : goal.loop-line-preserved
loop-line-preserved c =
    let items = c.deref-line-items.result.now in
    let i = c.loop-line.line-index in
    let next = at (λ x. x.now) items i _ c.loop-line-test.true in
    record {
      number = ap (λ n. n + 1) c.loop-line.invariant.number;
      reading = step_at _ i c.loop-line.forms.items _ next c.loop-line.invariant.reading c.loop-line.number _ _ _ _ c.loop-line.invariant.number c.in_ok-keep.ensures c.in_ok-tokens.ensures c.in_ok-form.ensures.says;
    }

pub returns-clause-said : goal.returns-clause-said
returns-clause-said c =
    let items = c.deref-line-items.result.now in
    let same = ap (map (λ x. x.now)) c.deref-line-items.ensures.value ∙ c.in_ok-lines.ensures.lines in
    finish_at (λ x. x.now) items _ c.loop-line.line-index _ (omega arith) same c.loop-line.invariant.reading
