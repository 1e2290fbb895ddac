use Rattle.std.proofs.Common.{◌∙◌, arith, ap, sym, refl, below_more}
use Rattle.column_input.specs.Table.{Contents}
use Rattle.column_input.proofs.ColumnLemmas.{column_found, column_missing, name_absent, name_contained, name_test}
use Rattle.column_input.proofs.table.Table.column.Goals as goal

pub loop-place-preserved : goal.loop-place-preserved
loop-place-preserved c =
    below_more _ _ c.loop-place.invariant (sym (name_test c.get.result c.args.name _ _ c.get.ensures.value (omega arith)) ∙ sym c.eq.ensures ∙ c.if-eq.false)

pub returns-then-eq-clause-first : goal.returns-then-eq-clause-first
returns-then-eq-clause-first c =
    rw c.new.ensures (column_found c.args.self.now _ _ _ (ap (λ (table : Contents). table.header) (sym c.self.view_is)) (omega arith) c.loop-place.invariant
    (sym (name_test c.get.result c.args.name _ _ c.get.ensures.value (omega arith)) ∙ sym c.eq.ensures ∙ c.if-eq.true))

pub returns-then-eq-clause-found : goal.returns-then-eq-clause-found
returns-then-eq-clause-found c = (
  λ _. name_contained c.args.self.now _ _ _ (ap (λ (table : Contents). table.header) (sym c.self.view_is)) (omega arith)
      (sym (name_test c.get.result c.args.name _ _ c.get.ensures.value (omega arith)) ∙ sym c.eq.ensures ∙ c.if-eq.true),
  λ _. refl,
)

pub returns-clause-first : goal.returns-clause-first
returns-clause-first c = column_missing c.args.self.now _ _ _ (ap (λ (table : Contents). table.header) (sym c.self.view_is)) (omega arith) c.loop-place.invariant

pub returns-clause-found : goal.returns-clause-found
returns-clause-found c = (
  λ none. cc none,
  λ there. absurd (name_absent c.args.self.now _ _ _ (ap (λ (table : Contents). table.header) (sym c.self.view_is)) (omega arith) c.loop-place.invariant there),
)
