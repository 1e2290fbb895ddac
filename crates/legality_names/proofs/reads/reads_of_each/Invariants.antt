use Rattle.std.proofs.Common.{◌≡◌, ◌++◌, drop}
use Rattle.std.specs.Prelude.{flat_map}
use Rattle.loop_values.specs.NamesIn.{names_read}
use Rattle.legality_names.proofs.reads.reads_of_each.Given as goal

-- with the names in the expressions to come, these are all
abbrev pub invariant-loop-expr : goal.invariant-loop-expr
invariant-loop-expr l = l.names ++ flat_map names_read (drop l.expr-index l.exprs) ≡ flat_map names_read l.exprs
