-- The store of a loop: the values of its outer variables and scratches, which live on from body run to body run and from item
-- to item. Source: this project, after FLoops.jl, whose scratch values are made once.
use Rattle.std.specs.Prelude.{ℕ, List, [], ◌∷◌, ◌++◌, map, Option, Some, None}
use Rattle.std.specs.FinMap.{empty, get, insert}
use Rattle.loop_data.specs.declared.value.Value.{Value}
use Rattle.loop_data.specs.declared.head.Binding.{Binding}
use Rattle.loop_grammar.specs.declared.tree.ProgramTree.{ProgramTree}
use Rattle.loop_values.specs.Bindings.{Bindings}

-- the names of these lines bound to their literals' values
abbrev pub with_literals : Bindings → List Binding → Bindings
with_literals names [] = names
with_literals names (b ∷ bs) = with_literals (insert names b.name b.value) bs

-- each outer variable has its literal's value
abbrev pub variables : ProgramTree → Bindings
variables program = with_literals empty program.vars

-- the store in which a loop begins: each outer variable and each scratch has its literal's value
abbrev pub start_store : ProgramTree → Bindings
start_store program = with_literals (variables program) program.scratch

abbrev pub names_of : List Binding → List (List ℕ)
names_of lines = map (λ b. b.name) lines

-- the names that live on: those of the outer variables and of the scratches
abbrev pub stored_names : ProgramTree → List (List ℕ)
stored_names program = names_of program.vars ++ names_of program.scratch

-- the name bound to the value, where there is one
abbrev pub with_found : Bindings → List ℕ → Option Value → Bindings
with_found names n (Some v) = insert names n v
with_found names n None = names

-- `before`, where each of these names has the value that it has in `after`, if it has one there
abbrev pub keeping : List (List ℕ) → Bindings → Bindings → Bindings
keeping [] before after = before
keeping (n ∷ ns) before after = keeping ns (with_found before n (get after n)) after
