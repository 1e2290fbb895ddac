-- Jobs may cross threads, since what they hold may.
use denote.RattleType.{RattleType}
use denote.Param.Send.{IsSend, IsSync, sendable}
use Rattle.std.proofs.Crossing.{crosses}
use Rattle.loop_data.specs.contracts.many.Many as many
use Rattle.loop_data.specs.contracts.boxed.Boxed as boxed
use Rattle.loop_data.specs.contracts.value.Value as value
use Rattle.loop_data.specs.contracts.expr.Expr as expr
use Rattle.loop_data.specs.contracts.expr.RangeExpr as range
use Rattle.loop_data.specs.contracts.tower.Kind as kind
use Rattle.loop_data.specs.contracts.tower.TowerExpr as tower
use Rattle.loop_data.specs.contracts.statement.Statement as statement
use Rattle.loop_data.specs.contracts.text.TextValue as text
use Rattle.loop_data.proofs.expr.Op.TheSendSync as op_shared
use Rattle.loop_data.proofs.expr.Word.TheSendSync as word_shared
use Rattle.loop_data.proofs.text.TextValue.TheSendSync as text_shared
use Rattle.loop_data.proofs.value.Value.TheLaws.TheKnot as value_knot
use Rattle.loop_data.proofs.expr.Expr.TheLaws.TheKnot as expr_knot
use Rattle.loop_data.proofs.tower.Kind.TheLaws.TheKnot as kind_knot
use Rattle.loop_data.proofs.tower.TowerExpr.TheLaws.TheKnot as tower_knot
use Rattle.loop_data.proofs.statement.Statement.TheLaws.TheKnot as statement_knot
use Rattle.loop_values.specs.contracts.env.Env as env
use Rattle.reducer_tower.specs.contracts.tower.Tower as run_tower
use Rattle.reducer_tower.specs.contracts.named.Named as named
use Rattle.reducer_tower.specs.contracts.row.Row as row
use Rattle.chain_stages.specs.contracts.stages.Doing as doing
use Rattle.chain_stages.specs.contracts.stages.Source as source
use Rattle.chain_stages.specs.contracts.stages.Test as test
use Rattle.chain_stages.specs.contracts.stages.Stage as stage
use Rattle.transducer_kit.specs.contracts.chain.Chain as chain
use Rattle.loop_syntax.proofs.Shared.{program_send, program_sync}
use Rattle.legality_check.specs.contracts.program.LegalProgram as legal

many_send : (R : RattleType) → IsSend R → IsSend (many.the_row R)
many_send R h = search (sendable, crosses)

boxed_send : (R : RattleType) → IsSend R → IsSend (boxed.the_row R)
boxed_send R h = search (sendable, crosses)

text_send : IsSend (text.the_field).row
text_send = text_shared.the_send

value_send : IsSend (value.the_field).row
value_send = value_knot.send-Value (search sendable) text_send (search sendable) many_send

expr_send : IsSend (expr.the_field).row
expr_send = expr_knot.send-Expr value_send text_send boxed_send op_shared.the_field_send word_shared.the_field_send (λ h k. search (boxed_send, sendable) depth 20) many_send

range_send : IsSend (range.the_field).row
range_send = search (expr_send, sendable) depth 20

kind_send : IsSend (kind.the_field).row
kind_send = search (kind_knot.send-Kind, boxed_send, sendable) depth 20

tower_send : IsSend (tower.the_field).row
tower_send = search (tower_knot.send-TowerExpr, kind_send, expr_send, boxed_send, sendable) depth 20

statement_send : IsSend (statement.the_field).row
statement_send = search (statement_knot.send-Statement, many_send, text_send, expr_send, tower_send, value_send, sendable) depth 20

doing_send : IsSend (doing.the_field).row
doing_send = search (text_send, expr_send, range_send, statement_send, many_send, sendable) depth 20

source_send : IsSend (source.the_field).row
source_send = search (expr_send, sendable) depth 20

test_send : IsSend (test.the_field).row
test_send = search (expr_send, sendable) depth 20

stage_send : IsSend (stage.the_field).row
stage_send = search (doing_send, source_send, test_send, text_send, expr_send, many_send, sendable) depth 20

pub chain_send : IsSend (chain.the_field).row
chain_send = search (stage_send, many_send, sendable) depth 20

run_tower_send : IsSend (run_tower.the_field).row
run_tower_send = search (kind_send, sendable) depth 20

named_send : IsSend (named.the_field).row
named_send = search (run_tower_send, text_send, value_send, sendable) depth 20

pub row_send : IsSend (row.the_field).row
row_send = search (named_send, sendable, crosses) depth 20

pub env_send : IsSend (env.the_field).row
env_send = search (text_send, value_send, sendable, crosses) depth 20

pub legal_send : IsSend legal.the_row
legal_send = search (program_send, sendable) depth 20

many_sync : (R : RattleType) → IsSync R → IsSync (many.the_row R)
many_sync R h = search (sendable, crosses)

boxed_sync : (R : RattleType) → IsSync R → IsSync (boxed.the_row R)
boxed_sync R h = search (sendable, crosses)

text_sync : IsSync (text.the_field).row
text_sync = text_shared.the_sync

value_sync : IsSync (value.the_field).row
value_sync = value_knot.sync-Value (search sendable) text_sync (search sendable) many_sync

expr_sync : IsSync (expr.the_field).row
expr_sync = expr_knot.sync-Expr value_sync text_sync boxed_sync op_shared.the_field_sync word_shared.the_field_sync (λ h k. search (boxed_sync, sendable) depth 20) many_sync

range_sync : IsSync (range.the_field).row
range_sync = search (expr_sync, sendable) depth 20

kind_sync : IsSync (kind.the_field).row
kind_sync = search (kind_knot.sync-Kind, boxed_sync, sendable) depth 20

tower_sync : IsSync (tower.the_field).row
tower_sync = search (tower_knot.sync-TowerExpr, kind_sync, expr_sync, boxed_sync, sendable) depth 20

statement_sync : IsSync (statement.the_field).row
statement_sync = search (statement_knot.sync-Statement, many_sync, text_sync, expr_sync, tower_sync, value_sync, sendable) depth 20

doing_sync : IsSync (doing.the_field).row
doing_sync = search (text_sync, expr_sync, range_sync, statement_sync, many_sync, sendable) depth 20

source_sync : IsSync (source.the_field).row
source_sync = search (expr_sync, sendable) depth 20

test_sync : IsSync (test.the_field).row
test_sync = search (expr_sync, sendable) depth 20

stage_sync : IsSync (stage.the_field).row
stage_sync = search (doing_sync, source_sync, test_sync, text_sync, expr_sync, many_sync, sendable) depth 20

pub chain_sync : IsSync (chain.the_field).row
chain_sync = search (stage_sync, many_sync, sendable) depth 20

run_tower_sync : IsSync (run_tower.the_field).row
run_tower_sync = search (kind_sync, sendable) depth 20

named_sync : IsSync (named.the_field).row
named_sync = search (run_tower_sync, text_sync, value_sync, sendable) depth 20

pub row_sync : IsSync (row.the_field).row
row_sync = search (named_sync, sendable, crosses) depth 20

pub env_sync : IsSync (env.the_field).row
env_sync = search (text_sync, value_sync, sendable, crosses) depth 20

pub legal_sync : IsSync legal.the_row
legal_sync = search (program_sync, sendable) depth 20
