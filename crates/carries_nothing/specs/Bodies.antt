-- What the body of a legal loop can't tell, and what its inner heads do: unseen names, ranges, and what an item leaves.
-- Source: this project.
use Rattle.std.specs.Prelude.{◌≡◌, ℕ, Bool, not, ◌&&◌, ◌||◌, List, [], ◌∷◌, ℤ}
use Rattle.std.specs.FinMap.{get}
use Rattle.std.specs.Str.{bytes_eq}
use Rattle.loop_data.specs.declared.head.Inner.{Inner}
use Rattle.loop_grammar.specs.declared.tree.ProgramTree.{ProgramTree}
use Rattle.loop_values.specs.Bindings.{Bindings, place_name}
use Rattle.loop_values.specs.InnerItems.{inner_items}
use Rattle.legality_rules.specs.Scopes.{is_in}
use Rattle.legality_rules.specs.Rules.{is_assigned, outline_of}
use Rattle.loop_meaning.specs.Assigned.{assigned_by}
use Rattle.loop_meaning.specs.declared.steps.BodyRun.{BodyRun}
use Rattle.loop_meaning.specs.Steps.{for_item, inner_runs}
use Rattle.loop_meaning.specs.Stores.{stored_names}
use Rattle.carries_nothing.specs.Alike.{is_scratch}
use Rattle.carries_nothing.specs.Blocks.{Agree}

-- whether it is `place`, of the store, bound by a head, `let` or `@keep`, or assigned; an `@reduce` line doesn't count
abbrev pub is_named : ProgramTree → List ℕ → Bool
is_named program n = is_in (assigned_by program) n || is_in (stored_names program) n

-- whether it is a scratch that some line assigns
abbrev pub is_assigned_scratch : ProgramTree → List ℕ → Bool
is_assigned_scratch program n = is_scratch program n && is_assigned (outline_of program) n

-- Whether a body run of a legal loop can't tell what the name has: it is neither `place`, nor of the store, nor bound by a head,
-- `let` or `@keep`, nor assigned (a reducer's is among these), or it is a scratch that some line assigns.
abbrev pub is_unseen : ProgramTree → List ℕ → Bool
is_unseen program n =
    (not (is_named program n) || is_assigned_scratch program n) && not (bytes_eq n place_name)

-- two body runs are the same but for unseen names: they emitted the same, and go on or ended in the same way
pub record SameBody (program : ProgramTree) (run other : BodyRun) : Type 0 where
  pub emitted : run.emitted ≡ other.emitted
  pub flow : run.flow ≡ other.flow
  pub names : Agree (is_unseen program) run.names other.names

-- the ranges of these inner heads have the same items, or the same fault, from names that agree but for unseen ones
abbrev pub SameRanges : ProgramTree → List Inner → Type 0
SameRanges program [] = Unit {0}
SameRanges program (head ∷ heads) =
    ((names other : Bindings) (width : ℕ) → Agree (is_unseen program) names other →
    inner_items head.range (get names) width ≡ inner_items head.range (get other) width)
    × SameRanges program heads

-- what an item of one of these inner heads leaves, with all its body runs, are the names before it, but for unseen ones
abbrev pub KeptUnder : ProgramTree → List Inner → Type 0
KeptUnder program [] = Unit {0}
KeptUnder program (head ∷ heads) =
    ((run : BodyRun) (width : ℕ) (item : ℤ) → Agree (is_unseen program) run.names
    (for_item program head.name (inner_runs program heads width) item run).names)
    × KeptUnder program heads
