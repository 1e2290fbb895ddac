use Rattle.std.proofs.Common.{◌≡◌, drop}
use Rattle.std.specs.List.{list_all}
use Rattle.legality_lines.specs.Kinds.{is_splittable_in}
use Rattle.legality_lines.proofs.head.are_splittable.Given as goal

-- all are such exactly where those to come are
abbrev pub invariant-loop-expr : goal.invariant-loop-expr
invariant-loop-expr l = list_all (is_splittable_in l.scope) l.exprs ≡ list_all (is_splittable_in l.scope) (drop l.expr-index l.exprs)
