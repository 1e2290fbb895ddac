-- Loops worked by hand, lowered by computation.
use Rattle.std.proofs.Common.{rules}
use Rattle.loop_data.specs.declared.statement.Statement.{the_lemmas as statement_lemmas}
use Rattle.loop_stages.specs.Worked.{BreaksFirst, EndsLater, HeadStages, IfStages, LineStages}

pub breaks_first : BreaksFirst
breaks_first = (search (rules, statement_lemmas), search (rules, statement_lemmas))

pub ends_later : EndsLater
ends_later = (search (rules, statement_lemmas), search (rules, statement_lemmas), search (rules, statement_lemmas))

pub head_stages : HeadStages
head_stages = (search (rules, statement_lemmas), search (rules, statement_lemmas))

pub line_stages : LineStages
line_stages = (search (rules, statement_lemmas), search (rules, statement_lemmas))

pub if_stages : IfStages
if_stages = (
  search (rules, statement_lemmas),
  search (rules, statement_lemmas),
  search (rules, statement_lemmas),
  search
      (rules, statement_lemmas),
)
