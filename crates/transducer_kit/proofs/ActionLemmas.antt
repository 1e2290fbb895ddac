-- What the statements of a stage leave of an element.
use Rattle.std.proofs.Common.{◌≡◌, [], sym, ap, ◌∙◌, append-nil}
use Rattle.loop_data.specs.declared.statement.Statement.{Statement}
use Rattle.loop_meaning.specs.declared.steps.BodyRun.{BodyRun}
use Rattle.loop_meaning.specs.declared.steps.Flow.TheVariants as flow
use Rattle.loop_meaning.specs.Statements.{statement_run}
use Rattle.loop_meaning.proofs.BehindLemmas.{statement_behind}
use Rattle.chain_stages.specs.declared.element.Element.{Element}
use Rattle.chain_stages.specs.Elements.{run_of, without_pairs}

-- the body run of an element, with nothing emitted
abbrev pub bare_run : Element → BodyRun
bare_run e = record { names = e.env; emitted = []; flow = flow.Going }

-- a statement done with nothing emitted before it
pub block_done : (x : Statement) (e : Element) → without_pairs e (statement_run x (run_of e)) ≡ record (statement_run x (bare_run e)) { emitted = e.emitted }
block_done x e =
    ap (λ pairs. without_pairs e (statement_run x (record (run_of e) { emitted = pairs }))) (sym (append-nil e.emitted))
    ∙ ap (without_pairs e) ((statement_behind x).same e.emitted (bare_run e))
