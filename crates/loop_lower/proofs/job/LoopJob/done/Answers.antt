use Rattle.std.proofs.Common.{arith}
use Rattle.loop_meaning.specs.Stores.{start_store}
use Rattle.fitting_inputs.proofs.LegalRuns.{legal_parts_emit_few}
use Rattle.program_rows.specs.Pairs.{numbered}
use Rattle.program_rows.proofs.PairLemmas.{numbered_few}
use Rattle.loop_lower.specs.Ends.{run_over}
use Rattle.loop_lower.proofs.job.LoopJob.done.Goals as goal

-- a legal loop emits few inputs
pub with_starts-requires : goal.with_starts-requires
with_starts-requires c =
    let job = c.args.self.now in
    let P = job.program.now in
    let items = job.head.items in
    let row = job.row.towers.items in
    let pairs = (run_over P items).emitted in (
      numbered row pairs,
      c.requires.holds.stands,
      omega (arith, numbered_few row pairs, legal_parts_emit_few P (start_store P) items 1 job.known.legal job.known.few_items),
    )

pub returns : goal.returns
returns c =
    let job = c.args.self.now in
    record {
      no_fault = c.requires.no_fault;
      skips = c.requires.holds.skips;
      stands = c.in_ok-state.ensures (numbered job.row.towers.items (run_over job.program.now job.head.items).emitted) c.requires.holds.stands;
    }
