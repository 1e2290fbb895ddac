use Rattle.program_words.specs.Words.{texts}
use Rattle.program_words.proofs.GivenLemmas.{required_given}
use Rattle.program_words.proofs.request.request_of.Goals as goal

pub returns-in-Some-command_named-clause-required : goal.returns-in-Some-command_named-clause-required
returns-in-Some-command_named-clause-required c =
    required_given c.args.call c.in-Some-command_named.command (texts c.in-Some.settings.now) c.command_request.result c.command_request.ensures
