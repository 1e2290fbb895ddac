use Rattle.std.proofs.Common.{refl, sym, subst}
use Rattle.program_words.specs.Views.{request_seen}
use Rattle.reducer_tower.specs.declared.row.Row.{Row}
use Rattle.loop_lower.specs.Ends.{IsEnd}
use Rattle.floop_run.specs.Results.{whole_run}
use Rattle.floop_run.proofs.ReportLemmas.{report_is_lawful, run_written}
use Rattle.floop_run.proofs.results.run_output.Goals as goal

pub end_output-requires : goal.end_output-requires
end_output-requires c =
    let job = c.args.job.now in
    let run = whole_run job.program.now job.head.items in
    (run, subst (λ (r : Row). IsEnd r.towers.items run c.in_ok-end.end) (sym c.row.ensures.same) c.in_ok-end.ensures)

pub returns-clause-answer : goal.returns-clause-answer
returns-clause-answer c =
    let job = c.args.job.now in
    let program = job.program.now in
    let run = whole_run program job.head.items in
    let request = request_seen c.args.request.now in
    let lawful = report_is_lawful request program job.row.towers.items job.head c.args.answer c.args.tally job.counted c.requires.stands c.requires.tally in
    let end = subst (λ (r : Row). IsEnd r.towers.items run c.in_ok-end.end) (sym c.row.ensures.same) c.in_ok-end.ensures in
    let ended = c.in_ok-output.ensures.answer run (record { reducers = c.row.ensures.reducers; ended = end }) in
    run_written request program job.head c.args.tally c.in_ok-output.output (record { status = c.in_ok-output.output.status; lines = c.add_report.new.lines }) ended refl c.in_ok-add_report.ensures lawful
