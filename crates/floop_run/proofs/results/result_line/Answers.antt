use Rattle.std.proofs.Common.{◌≡◌, Err, None, ap, sym, ◌∙◌}
use Rattle.loop_meaning.specs.Reducers.{inputs_of}
use Rattle.fitting_inputs.specs.ReduceLines.{reducer_kind}
use Rattle.reducer_tower.specs.Rows.{number_of}
use Rattle.floop_run.specs.Results.{line, text_of}
use Rattle.floop_run.proofs.ResultLemmas.{text_in, no_text}
use Rattle.floop_run.proofs.results.result_line.Goals as goal

pub returns-in_ok-push-in-Ok : goal.returns-in_ok-push-in-Ok
returns-in_ok-push-in-Ok c = λ program emitted are.
    c.in_ok-push-in-Ok.ensures.items
    ∙ ap line
    (text_in program c.args.state.now.states.items emitted c.as_str.result.now c.in-Ok.text.items c.args.row.now.towers.items c.text.result c.in-Ok.text are.reducers c.in-Ok.is c.text.ensures.no_such_name c.in-Ok.ensures.text are.stands
    ∙ ap (λ name. text_of (reducer_kind program name) (inputs_of program emitted name)) c.as_str.ensures.bytes)

pub returns-in_ok-vec-in-Err-NoSuchName : goal.returns-in_ok-vec-in-Err-NoSuchName
returns-in_ok-vec-in-Err-NoSuchName c = λ program emitted are.
    let name = c.args.print.now.name in
    let row = c.args.row.now.towers.items in
    let none : number_of name row ≡ None = ap (λ n. number_of n row) (sym c.as_str.ensures.bytes) ∙ c.text.ensures.no_such_name.0 (c.in-Err-NoSuchName.is ∙ ap Err c.in-Err-NoSuchName.field-0-is) in
    c.in_ok-vec-in-Err-NoSuchName.ensures.items ∙ ap line (sym (no_text program row name (inputs_of program emitted name) are.reducers none))
