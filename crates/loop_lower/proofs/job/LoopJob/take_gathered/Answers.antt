use Rattle.std.proofs.Common.{◌≡◌, ◌++◌, ◌+◌, List, length, true, refl, sym, ap, subst, ◌∙◌}
use Rattle.loop_meaning.specs.declared.steps.Pair.{Pair}
use Rattle.program_rows.specs.Pairs.{HaveRoom, TakeBehind, numbered, pairs_fit}
use Rattle.chain_stages.specs.Chains.{chain_output}
use Rattle.chain_stages.specs.Elements.{beginning, emitted_by}
use Rattle.chain_stages.specs.Stages.{alone}
use Rattle.loop_lower.specs.declared.part.Walked.{Walked}
use Rattle.loop_lower.proofs.ItemLemmas.{may_emit, may_fold, same_output, skipped_so, taken_so}
use Rattle.loop_lower.proofs.job.LoopJob.take_gathered.Goals as goal

pub emit-requires : goal.emit-requires
emit-requires c = record { cats = may_emit c.args.self.now.program.now c.args.self.now.chain.stages c.args.self.now.stages_are }

-- its fault is skipped
pub returns-then-is_fault : goal.returns-then-is_fault
returns-then-is_fault c =
    let job = c.args.self.now in
    let P = job.program.now in
    let names = c.in_ok-names.names in
    let out = chain_output job.chain.stages (alone (beginning names)) in
    let is = same_output P job.chain.stages names c.args.item c.args.place job.stages_are c.in_ok-names.ensures in
    let before = c.args.walked.now in
    let after : Walked = record { state = record { row = before.state.row; skipped = before.state.skipped + 1 }; emitted = c.drop_pairs.new.pairs } in
    skipped_so P job.known.legal job.known.formed c.args.item c.args.place job.row.towers.items out c.in_ok-end.end before after is c.in_ok-end.ensures.end
    (sym c.is_fault.ensures ∙ c.if-is_fault.true) c.requires.skips refl refl c.drop_pairs.ensures

-- its pairs may go into the states
pub add_pairs-requires-clause-fit : goal.add_pairs-requires-clause-fit
add_pairs-requires-clause-fit c =
    let job = c.args.self.now in
    let P = job.program.now in
    let row = job.row.towers.items in
    let names = c.in_ok-names.names in
    let out = chain_output job.chain.stages (alone (beginning names)) in
    let is = same_output P job.chain.stages names c.args.item c.args.place job.stages_are c.in_ok-names.ensures in
    let pairs = c.in_ok-end.ensures.pairs ∙ ap (λ (xs : List Pair). xs ++ emitted_by out.elements) c.requires.may.emptied in
    let may = may_fold P job.known.legal job.known.formed c.args.item c.args.place row c.args.walked.now.state.row out is c.requires.may.fit c.requires.may.room in
    subst (λ xs. pairs_fit row xs ≡ true) (sym pairs) may.0

pub add_pairs-requires-clause-room : goal.add_pairs-requires-clause-room
add_pairs-requires-clause-room c =
    let job = c.args.self.now in
    let P = job.program.now in
    let row = job.row.towers.items in
    let names = c.in_ok-names.names in
    let out = chain_output job.chain.stages (alone (beginning names)) in
    let is = same_output P job.chain.stages names c.args.item c.args.place job.stages_are c.in_ok-names.ensures in
    let pairs = c.in_ok-end.ensures.pairs ∙ ap (λ (xs : List Pair). xs ++ emitted_by out.elements) c.requires.may.emptied in
    let may = may_fold P job.known.legal job.known.formed c.args.item c.args.place row c.args.walked.now.state.row out is c.requires.may.fit c.requires.may.room in
    subst (λ xs. HaveRoom row c.args.walked.now.state.row (length xs)) (sym pairs) may.1

pub returns : goal.returns
returns c =
    let job = c.args.self.now in
    let P = job.program.now in
    let row = job.row.towers.items in
    let names = c.in_ok-names.names in
    let out = chain_output job.chain.stages (alone (beginning names)) in
    let is = same_output P job.chain.stages names c.args.item c.args.place job.stages_are c.in_ok-names.ensures in
    let before = c.args.walked.now in
    let pairs = c.in_ok-end.ensures.pairs ∙ ap (λ (xs : List Pair). xs ++ emitted_by out.elements) c.requires.may.emptied in
    let states = subst (λ xs. TakeBehind row before.state.row c.add_pairs.new.state (numbered row xs)) pairs c.in_ok-add_pairs.ensures.states in
    let after : Walked = record { state = record { row = c.add_pairs.new.state; skipped = before.state.skipped }; emitted = c.add_pairs.new.pairs } in
    taken_so P job.known.legal job.known.formed c.args.item c.args.place row out c.in_ok-end.end before after is c.in_ok-end.ensures.end
    (λ faults. absurd (cc (faults, sym c.is_fault.ensures, c.if-is_fault.false))) states refl c.in_ok-add_pairs.ensures.emptied
