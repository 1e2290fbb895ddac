use Rattle.std.proofs.Common.{◌≡◌, ◌+◌, ◌<◌, length, ap, ◌∙◌, arith}
use Rattle.std.specs.FinMap.{get}
use Rattle.loop_meaning.specs.Items.{sources}
use Rattle.loop_items.specs.declared.refusal.HeadRefusal.TheVariants as refused
use Rattle.loop_items.proofs.OpeningLemmas.{handed_on, opened_more, refused_here}
use Rattle.loop_items.proofs.heads.open_axes.Goals as goal

pub returns-in_err-open : goal.returns-in_err-open
returns-in_err-open c =
    let same = handed_on c.from_residual-in_err-open.result c.in_err-open.field-0.0 c.from_residual-in_err-open.ensures.1 in
    let within : c.loop-axis.axis-index < length c.args.axes.now = omega arith in
    rw same
    (λ known.
    refused_here c.args.line c.args.axes.now (sources (get c.args.names.now) c.args.table.now) c.loop-axis.axis-index c.loop-axis.opened.items c.loop-axis.invariant.so_far
    c.axis-item.result c.in_err-open.field-0.0 within c.axis-item.is
    (c.in_err-open.ensures (λ e. known (let q : c.in_err-open.field-0.0 ≡ refused.NoMemory = cc e in q))))

pub loop-axis-preserved : goal.loop-axis-preserved
loop-axis-preserved c =
    let within : c.loop-axis.axis-index < length c.args.axes.now = omega arith in
    record {
      so_far =
          opened_more c.args.line c.args.axes.now (sources (get c.args.names.now) c.args.table.now) c.loop-axis.axis-index c.loop-axis.opened.items c.loop-axis.invariant.so_far
          c.axis-item.result c.in_ok-open.field-0 c.push_reserved.new.self.items within c.axis-item.is (c.in_ok-open.ensures (λ e. cc e)) c.push_reserved.ensures.items;
      len = c.push_reserved.ensures.len ∙ ap (λ n. n + 1) c.loop-axis.invariant.len;
      room = c.push_reserved.ensures.capacity ∙ c.loop-axis.invariant.room;
    }
