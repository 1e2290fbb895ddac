use Rattle.std.proofs.Common.{ap, refl, arith}
use Rattle.program_words.specs.Words.{texts}
use Rattle.program_words.specs.declared.command.Call.TheVariants as call
use Rattle.program_words.specs.Views.{request_seen}
use Rattle.floop_run.specs.Requests.{most_reads}
use Rattle.floop_run.proofs.ReadLemmas.{every, refused_output, asked_answers, asked_written}
use Rattle.floop_run.proofs.OutputLemmas.{outputs_on, makes}
use Rattle.floop_run.proofs.answer.output_for.Goals as goal

pub returns-in-Ok-clause-made : goal.returns-in-Ok-clause-made
returns-in-Ok-clause-made g c =
    let q = request_seen c.in-Ok.request in
    let most = ap most_reads c.in-Ok.ensures.request in
    outputs_on _ _ _ _ _ _ _ _ _ _ _ _ _ _ _ _
    (asked_answers call.Direct (texts c.args.words.now) q (g.F.Files.held c.args.files.now) c.in-Ok.ensures.request)
    (asked_written call.Direct (texts c.args.words.now) q c.in-Ok.ensures.request)
    refl (rw most (omega arith)) refl c.asked_output.ensures

pub returns-in_ok-refusal_of-in-Err-clause-made : goal.returns-in_ok-refusal_of-in-Err-clause-made
returns-in_ok-refusal_of-in-Err-clause-made g c =
    makes _ _ _ _ _ _ _ _ _ _ _
    (every (g.F.Files.held c.args.files.now) _ (λ held. refused_output call.Direct (texts c.args.words.now) _ held c.in_ok-refusal_of-in-Err.field-0 c.in-Err.ensures.refusal c.in_ok-refusal_of-in-Err.ensures.answer))
    c.in_ok-refusal_of-in-Err.ensures.answered refl (omega arith) refl
