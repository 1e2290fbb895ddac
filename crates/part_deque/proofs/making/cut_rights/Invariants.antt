use Rattle.std.proofs.Common.{◌≡◌, ◌+◌, ◌*◌, All}
use Rattle.std.specs.Vec.{vec_len}
use Rattle.crossbeam_deque.specs.Handles.{worker_deque, worker_view, worker_index, SameWorker}
use Rattle.part_deque.specs.Rights.{IsSpare}
use Rattle.part_deque.specs.Steps.{right_weight, heavier}
use Rattle.part_deque.proofs.making.cut_rights.Given as goal

abbrev pub invariant-loop : goal.invariant-loop
invariant-loop l =
    SameWorker l.initial.worker l.worker × (worker_index l.worker ≡ worker_index l.initial.worker)
    × (worker_view l.initial.worker ≡ heavier (worker_view l.worker) (vec_len l.spare * right_weight))
    × All (IsSpare (worker_deque l.initial.worker) (worker_view l.initial.worker).lens (worker_view l.initial.worker).least) l.spare.items
    × (vec_len l.spare + 1 ≡ l.counter)
