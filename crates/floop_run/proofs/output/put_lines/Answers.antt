use Rattle.std.proofs.lemmas.Result.{err_from_is_err_and}
use Rattle.floop_run.proofs.PutLemmas.{PutsPrefix-at, LastPutFailed-at}
use Rattle.floop_run.proofs.output.put_lines.Goals as goal

pub returns-in_err-put-clause-prefix : goal.returns-in_err-put-clause-prefix
returns-in_err-put-clause-prefix g c =
    let p = err_from_is_err_and c.from_residual.result c.from_residual.ensures.1 in
    rw p.1 (PutsPrefix-at (λ line. line.items) c.args.lines.now c.loop-line.line-index c.line-item.result c.as_slice.result.now _ _ _ c.loop-line-test.true c.line-item.is c.as_slice.ensures.value c.loop-line.invariant.written c.in_err-put.ensures.prefix)

pub returns-in_err-put-clause-last : goal.returns-in_err-put-clause-last
returns-in_err-put-clause-last g c =
    let p = err_from_is_err_and c.from_residual.result c.from_residual.ensures.1 in
    rw p.1 (LastPutFailed-at (λ line. line.items) c.args.lines.now c.loop-line.line-index c.line-item.result c.as_slice.result.now _ _ _ _ _ _ c.loop-line-test.true c.line-item.is c.as_slice.ensures.value c.loop-line.invariant.written c.in_err-put.ensures.prefix c.loop-line.invariant.puts c.put.ensures.puts)
