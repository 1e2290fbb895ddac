-- What is known of the job that a legal program and a table make.
use Rattle.std.proofs.Common.{◌≡◌, Option, Some, None, Ok, ap}
use Rattle.loop_grammar.specs.declared.tree.ProgramTree.{ProgramTree}
use Rattle.column_input.specs.Table.{Contents}
use Rattle.loop_items.specs.Heads.{Head, head_of, opened}
use Rattle.loop_items.specs.Refusals.{first_head_refusal, unless_refused}
use Rattle.loop_items.specs.declared.refusal.HeadRefusal.{HeadRefusal}
use Rattle.loop_lower.specs.Jobs.{AreHeadItems}

-- what wasn't refused is the head
not_refused : (o : Option HeadRefusal) (x head : Head) → Ok head ≡ unless_refused o x → head ≡ x
not_refused None x head e = cc (e)
not_refused (Some r) x head e = absurd (cc (e))

pub of_head : (program : ProgramTree) (table : Contents) (head : Head) → Ok head ≡ opened program table → ∥ AreHeadItems program head.items ∥₁
of_head program table head e = ∣ record { table = table; are = ap (λ (h : Head). h.items) (not_refused (first_head_refusal program table) (head_of program table) head e) } ∣₁
