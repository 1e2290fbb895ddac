use Rattle.std.proofs.Common.{◌≡◌, ◌<◌, length, arith, rules, true, false, sym, ◌∙◌, ap}
use Rattle.std.specs.Prelude.{slice_set}
use Rattle.std.specs.Str.{bytes_eq}
use Rattle.loop_values.specs.Entries.{with_entry}
use Rattle.loop_values.proofs.EntryLemmas.{with_entry-here, with_entry-past, find-at}
use Rattle.loop_values.proofs.entries.set_entry.Goals as goal

pub returns-then-is_same-clause-ok : goal.returns-then-is_same-clause-ok
returns-then-is_same-clause-ok g c =
    let t : bytes_eq c.args.name.now c.index.result.now.0 ≡ true = search rules in
    let u = ap (λ e. bytes_eq c.args.name.now e.0) (sym c.index.ensures) ∙ t in
    let lt : c.loop-i.i < length c.loop-i.held.items = omega (arith, ap length c.loop-i.invariant.same, c.args.held.now.ok.0) in
    ap (λ e. slice_set c.loop-i.held.items c.loop-i.i (e.0, c.args.item)) c.index_mut.ensures.value
    ∙ sym (with_entry-here c.loop-i.held.items c.loop-i.i c.args.name.now c.args.item c.index.result.now c.index_mut.result.now lt u)
    ∙ c.loop-i.invariant.rest
    ∙ ap (λ l. with_entry l c.args.name.now c.args.item) c.loop-i.invariant.same

pub loop-i-preserved : goal.loop-i-preserved
loop-i-preserved g c =
    let t : bytes_eq c.args.name.now c.index.result.now.0 ≡ false = search rules in
    let u = ap (λ e. bytes_eq c.args.name.now e.0) (sym c.index.ensures) ∙ t in
    let lt : c.loop-i.i < length c.loop-i.held.items = omega (arith, ap length c.loop-i.invariant.same, c.args.held.now.ok.0) in
    record {
      same = c.loop-i.invariant.same;
      unknown = c.loop-i.invariant.unknown ∙ find-at c.args.name.now c.loop-i.held.items c.loop-i.i c.index.result.now false lt c.index.ensures t;
      rest = with_entry-past c.loop-i.held.items c.loop-i.i c.args.name.now c.args.item c.index.result.now lt u ∙ c.loop-i.invariant.rest;
    }
