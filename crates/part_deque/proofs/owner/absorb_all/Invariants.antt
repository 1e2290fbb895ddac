use Rattle.std.proofs.Common.{◌≡◌, ◌≤◌, ◌-◌, ◌*◌}
use Rattle.std.specs.Vec.{vec_len}
use Rattle.crossbeam_deque.specs.Handles.{worker_deque, worker_view, worker_index, SameWorker}
use Rattle.part_deque.specs.Rights.{AreSpare}
use Rattle.part_deque.specs.Steps.{right_weight, heavier}
use Rattle.part_deque.proofs.owner.absorb_all.Given as goal

abbrev pub invariant-loop-right : goal.invariant-loop-right
invariant-loop-right l =
    SameWorker l.initial.worker l.worker × (worker_index l.worker ≡ worker_index l.initial.worker)
    × (worker_view l.worker ≡ heavier (worker_view l.initial.worker) ((vec_len l.initial.spare - vec_len l.spare) * right_weight))
    × AreSpare (worker_deque l.initial.worker) l.spare.items
    × (vec_len l.spare ≤ vec_len l.initial.spare)

abbrev pub decreases-loop-right : goal.decreases-loop-right
decreases-loop-right l = vec_len l.spare
