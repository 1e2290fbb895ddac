use Rattle.std.proofs.Common.{Err, ap, ◌∙◌}
use Rattle.program_words.specs.Words.{texts}
use Rattle.program_words.specs.declared.command.Call.TheVariants as call
use Rattle.floop_run.specs.Requests.{request_in}
use Rattle.floop_run.proofs.TopLemmas.{missing_given, output_given, refused_given, prefix_of_refused, only_output, one_put}
use Rattle.floop_run.proofs.top.floop_words.Goals as goal

pub returns-in-Ok-clause-words_refused : goal.returns-in-Ok-clause-words_refused
returns-in-Ok-clause-words_refused g c =
    refused_given (request_in call.Direct (texts c.args.words.now)) c.in-Ok.output c.give.result _ _ _ _ c.in-Ok.ensures.words c.give.ensures.given c.give.ensures.cases c.give.ensures.write_fault

pub returns-in-Ok-clause-words_prefix : goal.returns-in-Ok-clause-words_prefix
returns-in-Ok-clause-words_prefix g c =
    prefix_of_refused (request_in call.Direct (texts c.args.words.now)) (g.K.Sink.written c.args.out.now) _ c.in-Ok.output c.give.result c.in-Ok.ensures.words c.give.ensures.prefix

pub returns-in-Ok-clause-not_held : goal.returns-in-Ok-clause-not_held
returns-in-Ok-clause-not_held g c =
    only_output (g.F.Files.held c.args.files.now) call.Direct (texts c.args.words.now) c.in-Ok.output c.give.result _ c.in-Ok.ensures.made.output c.in-Ok.ensures.made.answered

pub returns-in-Ok-clause-words_put : goal.returns-in-Ok-clause-words_put
returns-in-Ok-clause-words_put g c =
    one_put (request_in call.Direct (texts c.args.words.now)) c.in-Ok.output c.give.result _ _ _ _ c.in-Ok.ensures.words c.give.ensures.put_each c.give.ensures.last_put c.give.ensures.cases

pub returns-in-Err-ReadFault-clause-headline : goal.returns-in-Err-ReadFault-clause-headline
returns-in-Err-ReadFault-clause-headline g c =
    missing_given (g.F.Files.held c.args.files.now) call.Direct (texts c.args.words.now) _ _ c.output_for.result (g.K.Sink.written c.args.out.now) (c.in-Err-ReadFault.is ∙ ap Err c.in-Err-ReadFault.field-0-is) c.output_for.ensures.made.read_fault

pub returns-in-Ok-clause-headline : goal.returns-in-Ok-clause-headline
returns-in-Ok-clause-headline g c =
    output_given (g.F.Files.held c.args.files.now) call.Direct (texts c.args.words.now) _ c.in-Ok.output c.give.result _ _ _ _ c.in-Ok.ensures.made.output c.give.ensures.given c.give.ensures.cases c.give.ensures.write_fault
