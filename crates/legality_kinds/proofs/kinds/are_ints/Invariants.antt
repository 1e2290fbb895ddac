use Rattle.std.proofs.Common.{◌≡◌, drop}
use Rattle.std.specs.List.{list_all}
use Rattle.std.specs.FinMap.{get}
use Rattle.loop_values.specs.Kinds.{is_int, kind_of}
use Rattle.legality_rules.specs.Rules.{passes}
use Rattle.legality_kinds.proofs.kinds.are_ints.Given as goal

-- all are Int exactly where those to come are
abbrev pub invariant-loop-expr : goal.invariant-loop-expr
invariant-loop-expr l = list_all (λ x. passes is_int (kind_of x (get l.kinds))) l.exprs ≡ list_all (λ x. passes is_int (kind_of x (get l.kinds))) (drop l.expr-index l.exprs)
