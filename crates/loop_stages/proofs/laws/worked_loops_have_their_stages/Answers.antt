use Rattle.loop_stages.proofs.WorkedLemmas as lemmas
use Rattle.loop_stages.proofs.laws.worked_loops_have_their_stages.Goals as goal

pub returns-clause-first : goal.returns-clause-first
returns-clause-first c = lemmas.breaks_first

pub returns-clause-later : goal.returns-clause-later
returns-clause-later c = lemmas.ends_later

pub returns-clause-heads : goal.returns-clause-heads
returns-clause-heads c = lemmas.head_stages

pub returns-clause-lines : goal.returns-clause-lines
returns-clause-lines c = lemmas.line_stages

pub returns-clause-ifs : goal.returns-clause-ifs
returns-clause-ifs c = lemmas.if_stages
