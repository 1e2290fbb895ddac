use Rattle.std.proofs.Common.{◌≡◌, ◌<◌, length, map, min, arith}
use Rattle.loop_meaning.specs.Counts.{least_of}
use Rattle.loop_items.proofs.Counted.{least_more}
use Rattle.loop_items.proofs.axes.least_len.Goals as goal

-- one more part
pub loop-part-preserved : goal.loop-part-preserved
loop-part-preserved c =
    let within : c.loop-part.part-index < length c.in-Some.others.now = omega arith in
    let now : c.min-least.result ≡ min c.loop-part.least (length c.part-item.result) = omega (arith, c.min-least.ensures, c.len.ensures.value) in
    record {
      least =
          least_more c.in-Some.others.now c.loop-part.part-index c.part-item.result c.loop-part.least c.min-least.result (least_of c.len-least.result (map length c.in-Some.others.now)) within c.part-item.is
          now c.loop-part.invariant.least;
      few = omega (arith, now);
    }
