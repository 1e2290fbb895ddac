-- What contracts see of an open head: the lengths of its axes, and its items in order.
-- Source: this project.
use Rattle.std.specs.Prelude.{ℕ, List, Result, refl}
use Rattle.std.specs.Coded.{Coded, code_by, coded×, coded_ℕ, coded_list}
use Rattle.column_input.specs.Table.{Contents}
use Rattle.loop_data.specs.declared.value.Value.{Value}
use Rattle.loop_data.specs.contracts.value.Value as row
use Rattle.loop_grammar.specs.declared.tree.ProgramTree.{ProgramTree}
use Rattle.loop_meaning.specs.Items.{items_of, sources_of}
use Rattle.loop_items.specs.declared.refusal.HeadRefusal.{HeadRefusal}
use Rattle.loop_items.specs.Refusals.{axis_lens, first_head_refusal, unless_refused}

-- the lengths of the axes of a head, and its items
pub record Head : Type 0 where
  pub lens : List ℕ
  pub items : List Value

abbrev pub head_code : Coded Head
head_code =
    code_by (List ℕ × List Value) (coded× (coded_list coded_ℕ) (coded_list row.the_row.coded)) (λ h. (h.lens, h.items))
    (λ p. record { lens = p.0; items = p.1 }) (λ _. refl)

-- a program's first head over a table
abbrev pub head_of : ProgramTree → Contents → Head
head_of program table = record { lens = axis_lens program.head (sources_of program table); items = items_of program table }

-- the head, or its first refusal
abbrev pub opened : ProgramTree → Contents → Result Head HeadRefusal
opened program table = unless_refused (first_head_refusal program table) (head_of program table)
