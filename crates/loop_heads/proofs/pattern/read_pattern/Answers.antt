use Rattle.loop_heads.proofs.Patterns.{one_spelled}
use Rattle.loop_heads.proofs.pattern.read_pattern.Goals as goal

pub returns-clause-spelled : goal.returns-clause-spelled
returns-clause-spelled c =
    one_spelled c.push.new.self c.new-names.result c.in-Some-eat_name.first.now c.in_ok-name.field-0 c.args.tokens.now c.in-Some-eat_name.rest.now
    c.in_ok-push.ensures.ok c.new-names.ensures c.in_ok-name.ensures c.in-Some-eat_name.ensures
