use Rattle.std.proofs.Common.{◌<◌, ◌∙◌, length, sym, ap, arith}
use Rattle.csv.proofs.RecordFacts.{cut-length, field-bounds, field-cut, text-of}
use Rattle.column_input.proofs.ChunkLemmas.{field_at-slice_get}
use Rattle.column_input.proofs.texts.Texts.get.Goals as goal

pub bounds-start-requires : goal.bounds-start-requires
bounds-start-requires c =
    let size = cut-length 0 c.self.inside.ends.items c.self.inside.bytes.items in
    omega (arith, rw (← c.self.view_is) at c.requires)

pub slice_bounds-text-count : goal.slice_bounds-text-count
slice_bounds-text-count c =
    let size = cut-length 0 c.self.inside.ends.items c.self.inside.bytes.items in
    let lt : c.args.place < length c.self.inside.ends.items = omega (arith, rw (← c.self.view_is) at c.requires) in
    let b = c.bounds-start.ensures in
    let f = field-bounds 0 c.self.inside.ends.items (length c.self.inside.bytes.items) c.args.place c.self.invariant.rising lt in
    rw (b.start, b.end) f.0

pub slice_bounds-text-start : goal.slice_bounds-text-start
slice_bounds-text-start c =
    let size = cut-length 0 c.self.inside.ends.items c.self.inside.bytes.items in
    let lt : c.args.place < length c.self.inside.ends.items = omega (arith, rw (← c.self.view_is) at c.requires) in
    let b = c.bounds-start.ensures in
    let f = field-bounds 0 c.self.inside.ends.items (length c.self.inside.bytes.items) c.args.place c.self.invariant.rising lt in
    omega (arith, b.start, b.end, f.0, f.1, ap length c.as_slice.ensures.value)

pub slice_bounds-text-end : goal.slice_bounds-text-end
slice_bounds-text-end c =
    let size = cut-length 0 c.self.inside.ends.items c.self.inside.bytes.items in
    let lt : c.args.place < length c.self.inside.ends.items = omega (arith, rw (← c.self.view_is) at c.requires) in
    let b = c.bounds-start.ensures in
    let f = field-bounds 0 c.self.inside.ends.items (length c.self.inside.bytes.items) c.args.place c.self.invariant.rising lt in
    omega (arith, b.start, b.end, f.0, f.1, ap length c.as_slice.ensures.value)

pub from_utf8_unchecked-requires : goal.from_utf8_unchecked-requires
from_utf8_unchecked-requires c =
    let size = cut-length 0 c.self.inside.ends.items c.self.inside.bytes.items in
    let lt : c.args.place < length c.self.inside.ends.items = omega (arith, rw (← c.self.view_is) at c.requires) in
    let b = c.bounds-start.ensures in
    rw (c.as_slice.ensures.value, b.start, b.end)
    (text-of _ c.args.place _ c.self.invariant.text (field-cut 0 c.self.inside.ends.items c.self.inside.bytes.items c.args.place lt))

pub returns : goal.returns
returns c =
    let size = cut-length 0 c.self.inside.ends.items c.self.inside.bytes.items in
    let lt : c.args.place < length c.self.inside.ends.items = omega (arith, rw (← c.self.view_is) at c.requires) in
    let b = c.bounds-start.ensures in
    rw (← c.self.view_is, c.from_utf8_unchecked.ensures, c.as_slice.ensures.value, b.start, b.end)
    (sym (field_at-slice_get _ c.args.place) ∙ field-cut 0 c.self.inside.ends.items c.self.inside.bytes.items c.args.place lt)
