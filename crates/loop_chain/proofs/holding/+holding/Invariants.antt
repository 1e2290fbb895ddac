use Rattle.std.proofs.Common.{◌≡◌, drop, map}
use Rattle.std.specs.Prelude.{◌||◌}
use Rattle.loop_stages.specs.Holding.{any_of, holds, holds_in_branch, is_break, is_exit, is_reduce}
use Rattle.loop_chain.proofs.holding.+holding.Given as goal

-- what the conditions so far hold, or those that are left
abbrev pub invariant-held_in_branches-loop-branch : goal.invariant-held_in_branches-loop-branch
invariant-held_in_branches-loop-branch l = record {
  reduces : (l.held.reduces || any_of (map (holds_in_branch is_reduce) (drop l.branch-index l.branches))) ≡ any_of (map (holds_in_branch is_reduce) l.branches);
  breaks : (l.held.breaks || any_of (map (holds_in_branch is_break) (drop l.branch-index l.branches))) ≡ any_of (map (holds_in_branch is_break) l.branches);
  exits : (l.held.exits || any_of (map (holds_in_branch is_exit) (drop l.branch-index l.branches))) ≡ any_of (map (holds_in_branch is_exit) l.branches);
}

-- what the statements so far hold, or those that are left
abbrev pub invariant-held_in_block-loop-statement : goal.invariant-held_in_block-loop-statement
invariant-held_in_block-loop-statement l = record {
  reduces : (l.held.reduces || any_of (map (holds is_reduce) (drop l.statement-index l.block))) ≡ any_of (map (holds is_reduce) l.block);
  breaks : (l.held.breaks || any_of (map (holds is_break) (drop l.statement-index l.block))) ≡ any_of (map (holds is_break) l.block);
  exits : (l.held.exits || any_of (map (holds is_exit) (drop l.statement-index l.block))) ≡ any_of (map (holds is_exit) l.block);
}
