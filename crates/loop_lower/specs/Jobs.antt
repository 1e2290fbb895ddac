-- What is known of a loop as a job.
-- Source: this project.
use Rattle.std.specs.Prelude.{◌≡◌, List}
use Rattle.column_input.specs.Table.{Contents}
use Rattle.loop_data.specs.declared.value.Value.{Value}
use Rattle.loop_grammar.specs.declared.tree.ProgramTree.{ProgramTree}
use Rattle.loop_meaning.specs.Items.{items_of}

-- these are the items of the program's first head over some table
pub record AreHeadItems (program : ProgramTree) (items : List Value) : Type 0 where
  pub table : Contents
  pub are : items ≡ items_of program table
