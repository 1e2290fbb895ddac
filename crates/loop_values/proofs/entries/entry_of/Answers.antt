use Rattle.std.proofs.Common.{◌≡◌, sym, ◌∙◌, rules, true, false}
use Rattle.std.specs.Str.{bytes_eq}
use Rattle.loop_values.proofs.EntryLemmas.{find-at}
use Rattle.loop_values.proofs.entries.entry_of.Goals as goal

pub returns-then-is_same : goal.returns-then-is_same
returns-then-is_same g c =
    let t : bytes_eq c.args.name.now c.loop-key-item.result.0 ≡ true = search rules in
    sym (c.loop-key.invariant ∙ find-at c.args.name.now c.args.held.now c.loop-key.key-index c.loop-key-item.result true c.loop-key-test.true c.loop-key-item.is t)

pub loop-key-preserved : goal.loop-key-preserved
loop-key-preserved g c =
    let t : bytes_eq c.args.name.now c.loop-key-item.result.0 ≡ false = search rules in
    c.loop-key.invariant ∙ find-at c.args.name.now c.args.held.now c.loop-key.key-index c.loop-key-item.result false c.loop-key-test.true c.loop-key-item.is t
