-- The answer of the whole is the end of the run over all items.
use Rattle.std.proofs.Common.{◌≡◌, ℕ, List, length, subst, arith}
use Rattle.std.proofs.lemmas.List.{take_all}
use Rattle.loop_data.specs.declared.value.Value.{Value}
use Rattle.loop_grammar.specs.declared.tree.ProgramTree.{ProgramTree}
use Rattle.loop_meaning.specs.declared.runs.PlainStop.{PlainStop}
use Rattle.loop_meaning.specs.declared.runs.PlainStop.TheVariants as stop
use Rattle.reducer_tower.specs.declared.named.Named.{Named}
use Rattle.fold_seq.specs.declared.answers.Reduced.{Reduced}
use Rattle.loop_standing.specs.declared.state.LoopState.{LoopState}
use Rattle.loop_standing.specs.Standing.{Answers, StretchStands, stretch_of}
use Rattle.loop_lower.specs.Ends.{HasNoFault, run_over}

-- the whole stretch has all items
pub whole_answers : (program : ProgramTree) (row : List Named) (items : List Value) (count : ℕ) (answer : Reduced LoopState) → count ≡ length items →
    StretchStands program row items 1 count answer → Answers program row (run_over program items) answer
whole_answers program row items count answer e stands =
    let all : stretch_of items 1 count ≡ items = take_all count items (omega (arith, e)) in
    subst (λ xs. Answers program row (run_over program xs) answer) all stands

-- a run that ran to its end, or broke, has no fault
pub ran_without_fault : (how : PlainStop) → how ≡ stop.Ran → HasNoFault how
ran_without_fault how e = λ at line kind f. absurd (cc (e, f))

pub broke_without_fault : (how : PlainStop) (at own : ℕ) → how ≡ stop.Break at own → HasNoFault how
broke_without_fault how at own e = λ at' line kind f. absurd (cc (e, f))
