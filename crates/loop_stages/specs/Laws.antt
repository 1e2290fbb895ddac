-- What holds of lowered loops. Each is the contract of a function of laws.
-- Source: this project.
use Rattle.std.specs.Prelude.{◌≡◌, ◌≤◌, ◌⊎◌, ℕ, ◌+◌, false, true, List, ◌∷◌, ◌++◌, flat_map, length, map}
use Rattle.std.specs.List.{list_any}
use Rattle.loop_data.specs.declared.value.Value.{Value}
use Rattle.loop_data.specs.declared.statement.Statement.{Statement}
use Rattle.loop_grammar.specs.WellFormed.{is_well_formed}
use Rattle.loop_grammar.specs.declared.tree.ProgramTree.{ProgramTree}
use Rattle.legality_rules.specs.Offences.{IsLegal}
use Rattle.loop_meaning.specs.Runs.{loop_run}
use Rattle.loop_meaning.specs.Steps.{body_step}
use Rattle.loop_meaning.specs.Stores.{start_store}
use Rattle.loop_stages.specs.Agreement.{IsAsRun, IsAsStep}
use Rattle.loop_stages.specs.Breaks.{ends_on, stage_line}
use Rattle.loop_stages.specs.Holding.{any_of, hold_break, holds, is_reduce}
use Rattle.loop_stages.specs.Items.{item_output, items_taken, then_taken}
use Rattle.loop_stages.specs.Lowering.{body_stages, line_of, lowered, most_before_split, rest_stages, statement_stages}

-- Lowering is right, for every legal program that a text spells: of every stretch of items, each taken through the chain alone up
-- to the item where the run ends, the emitted pairs in order, those of items that fault in a program with `on fault skip` left
-- out, are those of the run from the start, where it doesn't end in a fault; as many items are left out as the run skips faults;
-- the ends have the same place, a fault the same line and kind, and a break the line of its stage.
abbrev pub LoweringIsRight : Type 0
LoweringIsRight = (program : ProgramTree) → IsLegal program → is_well_formed program ≡ true →
    (items : List Value) (place : ℕ) →
    IsAsRun program (loop_run program (start_store program) items place) (items_taken program items place)

-- An item alone through the chain is its step from the start: the same pairs, of which at a fault a front alone leaves the chain;
-- the same end, and at a break the line of its stage.
abbrev pub ItemsAreSteps : Type 0
ItemsAreSteps = (program : ProgramTree) → IsLegal program → is_well_formed program ≡ true →
    (item : Value) (place : ℕ) →
    IsAsStep program (body_step program (start_store program) item place) (item_output program item place)

-- the items of two stretches, one after the other, give what the first gives and, where it came to no end, what the second gives
-- from its own first place on
abbrev pub TakenInParts : Type 0
TakenInParts = (program : ProgramTree) (xs ys : List Value) (place : ℕ) →
    items_taken program (xs ++ ys) place
    ≡ then_taken (items_taken program xs place) (items_taken program ys (place + length xs))

-- ---- the split statement

-- Behind at most 64 statements that hold no `@reduce`, the first statement that is or holds one is the split statement, and so is the
-- 65th: each statement before it has stages of its own, and from it on there are the two of the rest.
abbrev pub SplitsThere : Type 0
SplitsThere = (before rest : List Statement) (x : Statement) →
    any_of (map (holds is_reduce) before) ≡ false → length before ≤ most_before_split →
    (holds is_reduce x ≡ true) ⊎ (length before ≡ most_before_split) →
    body_stages most_before_split (before ++ x ∷ rest)
    ≡ flat_map statement_stages before ++ rest_stages (line_of x) (x ∷ rest)

-- where no statement holds an `@reduce` and there are at most 64, there is no split statement
abbrev pub SplitsNowhere : Type 0
SplitsNowhere = (body : List Statement) →
    any_of (map (holds is_reduce) body) ≡ false → length body ≤ most_before_split →
    body_stages most_before_split body ≡ flat_map statement_stages body

-- ---- breaks

-- where a statement of the body is or holds a `break` on this line, the line of its stage is that of a `ReduceIf` of the program
abbrev pub BreaksHaveStages : Type 0
BreaksHaveStages = (program : ProgramTree) (line : ℕ) → hold_break line program.body ≡ true →
    list_any (ends_on (stage_line program line)) (lowered program) ≡ true
