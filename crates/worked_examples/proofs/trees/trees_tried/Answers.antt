use Rattle.worked_examples.proofs.TreesTried.{passes_whole, refuses_names, refuses_literals, refuses_parts, refuses_order, refuses_branches, refuses_depth}
use Rattle.worked_examples.proofs.trees.trees_tried.Goals as goal

pub returns-clause-passes : goal.returns-clause-passes
returns-clause-passes c = passes_whole

pub returns-clause-names : goal.returns-clause-names
returns-clause-names c = refuses_names

pub returns-clause-literals : goal.returns-clause-literals
returns-clause-literals c = refuses_literals

pub returns-clause-parts : goal.returns-clause-parts
returns-clause-parts c = refuses_parts

pub returns-clause-order : goal.returns-clause-order
returns-clause-order c = refuses_order

pub returns-clause-branches : goal.returns-clause-branches
returns-clause-branches c = refuses_branches

pub returns-clause-depth : goal.returns-clause-depth
returns-clause-depth c = refuses_depth
