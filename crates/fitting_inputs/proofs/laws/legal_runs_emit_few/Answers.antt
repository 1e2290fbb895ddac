use Rattle.fitting_inputs.proofs.LegalRuns.{legal_parts_emit_few, legal_runs_emit_few as runs_few, legal_sites_are_few, legal_steps_emit_few}
use Rattle.fitting_inputs.proofs.laws.legal_runs_emit_few.Goals as goal

pub returns-clause-sites : goal.returns-clause-sites
returns-clause-sites c = legal_sites_are_few

pub returns-clause-steps : goal.returns-clause-steps
returns-clause-steps c = legal_steps_emit_few

pub returns-clause-runs : goal.returns-clause-runs
returns-clause-runs c = runs_few

pub returns-clause-parts : goal.returns-clause-parts
returns-clause-parts c = legal_parts_emit_few
