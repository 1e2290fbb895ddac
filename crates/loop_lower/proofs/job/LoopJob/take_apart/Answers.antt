use Rattle.std.proofs.Common.{◌+◌, [], refl, sym, subst, ◌∙◌, length-append, arith}
use Rattle.reducer_tower.specs.declared.row.RowState.{RowState}
use Rattle.reducer_tower.specs.Rows.{RowStands}
use Rattle.program_rows.specs.Pairs.{numbered}
use Rattle.program_rows.proofs.PairLemmas.{numbered_few}
use Rattle.chain_stages.specs.Chains.{chain_output}
use Rattle.chain_stages.specs.Elements.{beginning, emitted_by}
use Rattle.chain_stages.specs.Stages.{alone}
use Rattle.loop_lower.specs.declared.part.Walked.{Walked}
use Rattle.loop_lower.proofs.ItemLemmas.{may_emit, may_fold, same_output, skipped_so, taken_so}
use Rattle.loop_lower.proofs.job.LoopJob.take_apart.Goals as goal

-- what leaves the chain may go into the unit
pub step-requires : goal.step-requires
step-requires c =
    let job = c.args.self.now in
    let P = job.program.now in
    let row = job.row.towers.items in
    let names = c.in_ok-names.names in
    let out = chain_output job.chain.stages (alone (beginning names)) in
    let is = same_output P job.chain.stages names c.args.item c.args.place job.stages_are c.in_ok-names.ensures in
    let room = c.requires.may.room in
    record {
      cats = may_emit P job.chain.stages job.stages_are;
      fold = may_fold P job.known.legal job.known.formed c.args.item c.args.place row c.in_ok-own.own out is c.requires.may.fit
          ([], c.in_ok-own.ensures.stands, omega (arith, room.2));
    }

-- its fault is skipped
pub returns-then-is_fault : goal.returns-then-is_fault
returns-then-is_fault c =
    let job = c.args.self.now in
    let P = job.program.now in
    let names = c.in_ok-names.names in
    let out = chain_output job.chain.stages (alone (beginning names)) in
    let is = same_output P job.chain.stages names c.args.item c.args.place job.stages_are c.in_ok-names.ensures in
    let before = c.args.walked.now in
    let after : Walked = record { state = record { row = before.state.row; skipped = before.state.skipped + 1 }; emitted = before.emitted } in
    skipped_so P job.known.legal job.known.formed c.args.item c.args.place job.row.towers.items out c.in_ok-end.end before after is c.in_ok-end.ensures.end
    (sym c.is_fault.ensures ∙ c.if-is_fault.true) c.requires.skips refl refl c.requires.may.emptied

-- what the part and the item gave is few enough to be merged
pub merge-requires : goal.merge-requires
merge-requires c =
    let job = c.args.self.now in
    let P = job.program.now in
    let row = job.row.towers.items in
    let names = c.in_ok-names.names in
    let out = chain_output job.chain.stages (alone (beginning names)) in
    let is = same_output P job.chain.stages names c.args.item c.args.place job.stages_are c.in_ok-names.ensures in
    let pairs = emitted_by out.elements in
    let room = c.requires.may.room in
    let may = may_fold P job.known.legal job.known.formed c.args.item c.args.place row c.in_ok-own.own out is c.requires.may.fit
    ([], c.in_ok-own.ensures.stands, omega (arith, room.2)) in
    let own = c.in_ok-end.ensures.states [] c.in_ok-own.ensures.stands in
    record {
      room = (
        room.0,
        numbered row pairs,
        subst (λ (s : RowState). RowStands row s.states.items room.0) (sym c.replace-before.ensures.value) room.1,
        own,
        omega (arith, room.2, may.1.2, numbered_few row pairs, length-append room.0 (numbered row pairs)),
      );
    }

-- merged, they stand for what both gave
pub returns : goal.returns
returns c =
    let job = c.args.self.now in
    let P = job.program.now in
    let row = job.row.towers.items in
    let names = c.in_ok-names.names in
    let out = chain_output job.chain.stages (alone (beginning names)) in
    let is = same_output P job.chain.stages names c.args.item c.args.place job.stages_are c.in_ok-names.ensures in
    let own = c.in_ok-end.ensures.states [] c.in_ok-own.ensures.stands in
    let before = c.args.walked.now in
    let after : Walked = record { state = record { row = c.in_ok-walked.field-0; skipped = before.state.skipped }; emitted = before.emitted } in
    taken_so P job.known.legal job.known.formed c.args.item c.args.place row out c.in_ok-end.end before after is c.in_ok-end.ensures.end
    (λ faults. absurd (cc (faults, sym c.is_fault.ensures, c.if-is_fault.false)))
    (λ earlier stand. c.in_ok-walked.ensures.stands earlier (numbered row (emitted_by out.elements))
    (subst (λ (s : RowState). RowStands row s.states.items earlier) (sym c.replace-before.ensures.value) stand) own)
    refl c.requires.may.emptied
