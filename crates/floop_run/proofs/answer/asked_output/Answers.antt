use Rattle.std.proofs.Common.{◌≡◌, ◌+◌, Ok, length, subst}
use Rattle.program_words.specs.Views.{request_seen}
use Rattle.floop_run.specs.declared.found.Found.TheVariants.{Loop}
use Rattle.floop_run.specs.Answers.{IsAskedAnswer}
use Rattle.floop_run.specs.Outputs.{MakesFound}
use Rattle.floop_run.specs.Requests.{data_names}
use Rattle.floop_run.proofs.OutputLemmas.{output_of}
use Rattle.floop_run.proofs.answer.asked_output.Goals as goal

pub returns-in_ok-output-in-Loop : goal.returns-in_ok-output-in-Loop
returns-in_ok-output-in-Loop g c =
    let q = request_seen c.args.request.now in
    let found : c.found_for.result ≡ Ok (Loop c.in-Loop.legal c.in-Loop.table) = cc (c.in_ok-output.is, c.in_ok-output.was, c.in-Loop.is) in
    output_of q (IsAskedAnswer q) (1 + length (data_names q)) (Loop c.in-Loop.legal c.in-Loop.table) c.in_ok-output-in-Loop.output _ _ _ _ _ _
    (λ h is. (_, is, c.in_ok-output-in-Loop.ensures.answer h)) c.in_ok-output-in-Loop.ensures.answered
    (subst (λ r. MakesFound q (IsAskedAnswer q) (1 + length (data_names q)) r (g.F.Files.held c.args.files.now) (g.F.Files.held c.found_for.new.files) (g.F.Files.reads c.args.files.now) (g.F.Files.reads c.found_for.new.files) (g.F.Files.faults c.args.files.now) (g.F.Files.faults c.found_for.new.files))
    found c.found_for.ensures)
