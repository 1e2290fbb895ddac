use Rattle.std.proofs.Common.{refl}
use Rattle.chain_stages.specs.Chains.{chain_output}
use Rattle.chain_stages.specs.Elements.{beginning}
use Rattle.chain_stages.specs.Stages.{alone}
use Rattle.loop_lower.specs.declared.part.Walked.{Walked}
use Rattle.loop_lower.proofs.ItemLemmas.{may_emit, may_fold, same_output, taken_so}
use Rattle.loop_lower.proofs.job.LoopJob.take_straight.Goals as goal

-- what leaves the chain may go into the states
pub step-requires : goal.step-requires
step-requires c =
    let job = c.args.self.now in
    let P = job.program.now in
    let names = c.in_ok-names.names in
    let out = chain_output job.chain.stages (alone (beginning names)) in
    let is = same_output P job.chain.stages names c.args.item c.args.place job.stages_are c.in_ok-names.ensures in
    record {
      cats = may_emit P job.chain.stages job.stages_are;
      fold = may_fold P job.known.legal job.known.formed c.args.item c.args.place job.row.towers.items c.args.walked.now.state.row out is c.requires.may.fit c.requires.may.room;
    }

pub returns : goal.returns
returns c =
    let job = c.args.self.now in
    let P = job.program.now in
    let names = c.in_ok-names.names in
    let out = chain_output job.chain.stages (alone (beginning names)) in
    let is = same_output P job.chain.stages names c.args.item c.args.place job.stages_are c.in_ok-names.ensures in
    let before = c.args.walked.now in
    let after : Walked = record { state = record { row = c.step.new.state; skipped = before.state.skipped }; emitted = before.emitted } in
    taken_so P job.known.legal job.known.formed c.args.item c.args.place job.row.towers.items out c.in_ok-end.end before after is c.in_ok-end.ensures.end
    (λ _. c.requires.stops) c.in_ok-end.ensures.states refl c.requires.may.emptied
