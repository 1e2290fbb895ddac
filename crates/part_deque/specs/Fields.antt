-- What the fields of the two ends keep.
-- Source: this project's representation.
use Rattle.std.specs.Prelude.{◌≡◌, ℕ, ◌+◌, ◌*◌, ◌<◌, ◌≤◌, length, All}
use Rattle.std.specs.Vec.{vec_len}
use Rattle.crossbeam_deque.specs.Handles.{worker_deque, worker_flavor, worker_port, worker_view, worker_capacity, worker_index}
use Rattle.crossbeam_deque.specs.Handles.{stealer_deque}
use Rattle.part_deque.specs.declared.owner.PartOwner.TheInside.{Inside as OwnerFields}
use Rattle.part_deque.specs.declared.thief.PartThief.TheInside.{Inside as ThiefFields}
use Rattle.part_deque.specs.Ends.{OwnerEnd, owner_end, ThiefEnd, thief_end, first_capacity}
use Rattle.part_deque.specs.Steps.{right_weight}
use Rattle.part_deque.specs.Rights.{all_rights, IsPowerOfTwo, account_of, IsThiefs, IsSpare}

abbrev pub owner_state : OwnerFields → OwnerEnd
owner_state o =
    let v = worker_view o.worker in
    owner_end (worker_deque o.worker).0 v.lens v.least o.weight v.pushed v.taken v.kept v.stolen o.misses

-- the worker is the last in, first out side of its deque, and has the weight that the rule knows of it; of its pushes at least
-- as many were made as its index says
pub record IsOwner (o : OwnerFields) : Type 0 where
  pub lifo : worker_flavor o.worker ≡ 1
  pub port : worker_port o.worker ≡ 0
  pub weighs : (worker_view o.worker).weight ≡ o.weight
  pub some : 0 < o.weight
  pub index : worker_index o.worker ≤ length (worker_view o.worker).pushed
  pub capacity : first_capacity ≤ worker_capacity o.worker

-- how many rights the end holds
abbrev pub rights_of : ThiefFields → ℕ
rights_of t = vec_len t.spare + 1

abbrev pub thief_state : ThiefFields → ThiefEnd
thief_state t =
    let v = account_of t.right in
    thief_end (stealer_deque t.stealer).0 v.lens v.least (rights_of t * right_weight) v.taken v.stolen t.misses

-- all rights are on the stealer's deque and for one crew, and there are as many as halving leaves of all
pub record IsThief (t : ThiefFields) : Type 0 where
  pub right : IsThiefs (stealer_deque t.stealer) t.right
  pub spare : All (IsSpare (stealer_deque t.stealer) (account_of t.right).lens (account_of t.right).least) t.spare.items
  pub most : rights_of t ≤ all_rights
  pub halved : IsPowerOfTwo (rights_of t)
