-- Trees, and what they are made of, may cross threads.
use denote.RattleType.{RattleType}
use denote.Param.Send.{IsSend, IsSync, sendable}
use denote.Param.SendFields.{as_row_send, as_row_sync}
use Rattle.std.proofs.Crossing.{crosses}
use Rattle.loop_data.specs.contracts.many.Many as many
use Rattle.loop_data.specs.contracts.boxed.Boxed as boxed
use Rattle.loop_data.specs.contracts.head.HeadLine as head
use Rattle.loop_data.specs.contracts.value.Value as value
use Rattle.loop_data.specs.contracts.expr.Expr as expr
use Rattle.loop_data.specs.contracts.expr.RangeExpr as range
use Rattle.loop_data.specs.contracts.tower.Kind as kind
use Rattle.loop_data.specs.contracts.tower.TowerExpr as tower
use Rattle.loop_data.specs.contracts.head.Axis as axis
use Rattle.loop_data.specs.contracts.head.Inner as inner
use Rattle.loop_data.specs.contracts.head.Binding as binding
use Rattle.loop_data.specs.contracts.head.PrintLine as print
use Rattle.loop_data.specs.contracts.statement.Statement as statement
use Rattle.loop_data.specs.contracts.text.TextValue as text
use Rattle.loop_data.proofs.expr.Op.TheSendSync as op_shared
use Rattle.loop_data.proofs.expr.Word.TheSendSync as word_shared
use Rattle.loop_data.proofs.text.TextValue.TheSendSync as text_shared
use Rattle.loop_data.proofs.value.Value.TheLaws.TheKnot as value_knot
use Rattle.loop_data.proofs.expr.Expr.TheLaws.TheKnot as expr_knot
use Rattle.loop_data.proofs.tower.Kind.TheLaws.TheKnot as kind_knot
use Rattle.loop_data.proofs.tower.TowerExpr.TheLaws.TheKnot as tower_knot
use Rattle.loop_data.proofs.head.Axis.TheLaws.TheKnot as axis_knot
use Rattle.loop_data.proofs.statement.Statement.TheLaws.TheKnot as statement_knot
use Rattle.loop_grammar.specs.contracts.tree.ProgramTree as tree

many_send : (R : RattleType) → IsSend R → IsSend (many.the_row R)
many_send R h = search (sendable, crosses)

boxed_send : (R : RattleType) → IsSend R → IsSend (boxed.the_row R)
boxed_send R h = search (sendable, crosses)

text_send : IsSend (text.the_field).row
text_send = text_shared.the_send

value_send : IsSend (value.the_field).row
value_send = value_knot.send-Value (search sendable) text_send (search sendable) many_send

expr_send : IsSend (expr.the_field).row
expr_send = expr_knot.send-Expr value_send text_send boxed_send op_shared.the_field_send word_shared.the_field_send (λ h k. search (boxed_send, sendable) depth 20) many_send

range_send : IsSend (range.the_field).row
range_send = search (expr_send, sendable) depth 20

kind_send : IsSend (kind.the_field).row
kind_send = search (kind_knot.send-Kind, boxed_send, sendable) depth 20

tower_send : IsSend (tower.the_field).row
tower_send = search (tower_knot.send-TowerExpr, kind_send, expr_send, boxed_send, sendable) depth 20

axis_send : IsSend (axis.the_field).row
axis_send = search (axis_knot.send-Axis, range_send, text_send, many_send, sendable) depth 20

statement_send : IsSend (statement.the_field).row
statement_send = search (statement_knot.send-Statement, many_send, text_send, expr_send, tower_send, value_send, sendable) depth 20

binding_send : IsSend (binding.the_field).row
binding_send = search (value_send, text_send, sendable) depth 20

print_send : IsSend (print.the_field).row
print_send = search (text_send, sendable) depth 20

inner_send : IsSend (inner.the_field).row
inner_send = search (range_send, text_send, sendable) depth 20

head_send : IsSend (head.the_field).row
head_send = search (inner_send, axis_send, text_send, many_send, sendable) depth 20

pub tree_field_send : IsSend (tree.the_field).row
tree_field_send = search (binding_send, print_send, head_send, statement_send, many_send, sendable) depth 20

pub tree_send : IsSend tree.the_row
tree_send = as_row_send tree.the_field tree_field_send

many_sync : (R : RattleType) → IsSync R → IsSync (many.the_row R)
many_sync R h = search (sendable, crosses)

boxed_sync : (R : RattleType) → IsSync R → IsSync (boxed.the_row R)
boxed_sync R h = search (sendable, crosses)

text_sync : IsSync (text.the_field).row
text_sync = text_shared.the_sync

value_sync : IsSync (value.the_field).row
value_sync = value_knot.sync-Value (search sendable) text_sync (search sendable) many_sync

expr_sync : IsSync (expr.the_field).row
expr_sync = expr_knot.sync-Expr value_sync text_sync boxed_sync op_shared.the_field_sync word_shared.the_field_sync (λ h k. search (boxed_sync, sendable) depth 20) many_sync

range_sync : IsSync (range.the_field).row
range_sync = search (expr_sync, sendable) depth 20

kind_sync : IsSync (kind.the_field).row
kind_sync = search (kind_knot.sync-Kind, boxed_sync, sendable) depth 20

tower_sync : IsSync (tower.the_field).row
tower_sync = search (tower_knot.sync-TowerExpr, kind_sync, expr_sync, boxed_sync, sendable) depth 20

axis_sync : IsSync (axis.the_field).row
axis_sync = search (axis_knot.sync-Axis, range_sync, text_sync, many_sync, sendable) depth 20

statement_sync : IsSync (statement.the_field).row
statement_sync = search (statement_knot.sync-Statement, many_sync, text_sync, expr_sync, tower_sync, value_sync, sendable) depth 20

binding_sync : IsSync (binding.the_field).row
binding_sync = search (value_sync, text_sync, sendable) depth 20

print_sync : IsSync (print.the_field).row
print_sync = search (text_sync, sendable) depth 20

inner_sync : IsSync (inner.the_field).row
inner_sync = search (range_sync, text_sync, sendable) depth 20

head_sync : IsSync (head.the_field).row
head_sync = search (inner_sync, axis_sync, text_sync, many_sync, sendable) depth 20

pub tree_field_sync : IsSync (tree.the_field).row
tree_field_sync = search (binding_sync, print_sync, head_sync, statement_sync, many_sync, sendable) depth 20

pub tree_sync : IsSync tree.the_row
tree_sync = as_row_sync tree.the_field tree_field_sync
