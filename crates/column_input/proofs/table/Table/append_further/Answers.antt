use Rattle.std.proofs.Common.{◌≡◌, ◌∙◌, ◌<◌, Ok, ap, sym, refl, length}
use Rattle.csv.specs.Records.{fields_of}
use Rattle.column_input.proofs.HeaderLemmas.{further_header_refused, further_held, further_refused}
use Rattle.column_input.proofs.KeptLemmas.{fields_counted, further_is, kept_more}
use Rattle.column_input.proofs.TableLemmas.{handed_on}
use Rattle.column_input.specs.Chunk.{Grid}
use Rattle.column_input.specs.Table.{Contents}
use Rattle.column_input.specs.declared.refusal.TableRefusal.TheVariants as refused
use Rattle.column_input.proofs.table.Table.append_further.Goals as goal

pub returns-in_err-pass_header-clause-refused : goal.returns-in_err-pass_header-clause-refused
returns-in_err-pass_header-clause-refused c =
    let counted = rw (← (c.len.ensures ∙ c.self.inside.chunks.ok.0), ← c.len-width.ensures) at (fields_counted _ _ _ _ c.self.invariant c.self.view_is) in
    rw (handed_on _ _ c.from_residual-in_err-pass_header.ensures.1)
    (λ known. further_header_refused _ _ c.args.self.now _ _ _ counted (ap (λ (table : Contents). table.header) (sym c.self.view_is))
    (rw c.in_ok-records.ensures at (c.in_err-pass_header.ensures.refused known)))

pub returns-in_err-chunk-clause-refused : goal.returns-in_err-chunk-clause-refused
returns-in_err-chunk-clause-refused c =
    let counted = rw (← (c.len.ensures ∙ c.self.inside.chunks.ok.0), ← c.len-width.ensures) at (fields_counted _ _ _ _ c.self.invariant c.self.view_is) in
    let passed = c.in_ok-pass_header.ensures in
    rw (handed_on _ _ c.from_residual-in_err-chunk.ensures.1)
    (λ known.
    let first = c.in_err-chunk.ensures.rows (λ e. known (let q : c.in_err-chunk.field-0.0 ≡ refused.NoMemory = cc e in q)) (fields_of c.self.inside.header) (sym c.len-width.ensures) in
    further_refused _ _ c.args.self.now _ _ _ _ counted (ap (λ (table : Contents). table.header) (sym c.self.view_is))
    (sym c.in_ok-records.ensures ∙ passed.same) passed.text passed.fits first)

pub invariant_of-self-2 : goal.invariant_of-self-2
invariant_of-self-2 c =
    let held = c.in_ok-chunk.ensures.rows (λ e. cc e) (fields_of c.self.inside.header) (sym c.len-width.ensures) in
    let there : 0 < length c.self.inside.chunks.items = rw (← c.self.view_is) at c.requires.read in
    rw (c.in_ok-push.ensures.items, c.rows-rows.ensures)
    (kept_more _ _ _ _ _ _ c.self.invariant (c.self.invariant.some there) (ap (λ (chunk : Grid). chunk.width) held.0 ∙ c.len-width.ensures)
    (rw c.len-width.ensures at c.in_ok-chunk.ensures.even) refl
    (rw (c.len.ensures ∙ c.self.inside.chunks.ok.0, c.len-width.ensures) at c.in_ok-chunk.ensures.bound) c.requires.limit)

pub returns-clause-rows : goal.returns-clause-rows
returns-clause-rows c =
    let counted = rw (← (c.len.ensures ∙ c.self.inside.chunks.ok.0), ← c.len-width.ensures) at (fields_counted _ _ _ _ c.self.invariant c.self.view_is) in
    let passed = c.in_ok-pass_header.ensures in
    let held = c.in_ok-chunk.ensures.rows (λ e. cc e) (fields_of c.self.inside.header) (sym c.len-width.ensures) in
    let records = sym c.in_ok-records.ensures ∙ passed.same in
    further_held _ _ c.args.self.now _ _ _ counted (ap (λ (table : Contents). table.header) (sym c.self.view_is)) records passed.text passed.fits held.1
    ∙ ap Ok (further_is _ _ _ _ _ c.args.self.now _ _ c.self.view_is records held.0 c.in_ok-push.ensures.items)
