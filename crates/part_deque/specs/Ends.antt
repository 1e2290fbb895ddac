-- What contracts see of the ends of a deque, and what each call leaves of them.
-- Source: this project.
use Rattle.std.specs.Prelude.{◌≡◌, ℕ, ◌+◌, ◌-◌, ◌/◌, min, List, [], ◌∷◌, ◌++◌, length}
use Rattle.splittable.specs.Parts.{Stretch}
use Rattle.as_often.specs.AsOften.{AreAsOften}

-- which deque it is
abbrev pub DequeId : Type 0
DequeId = ℕ × ℕ

-- how many parts a new deque takes before a push may be refused: the capacity of the worker that it is made with
abbrev pub first_capacity : ℕ
first_capacity = 64

-- the weight of each end of a new deque
abbrev pub half_weight : ℕ
half_weight = 2147483648

-- a count of misses after one more, which stands still at the end of its type
abbrev pub one_more : ℕ → ℕ
one_more misses = min (misses + 1) 18446744073709551615

-- The owner's end: its deque, the crew's shape and least part size, its weight, the parts that it pushed and took, those that
-- its pushes and pops leave, how many of the taken parts were stolen by ends that it took in, and its misses.
pub record OwnerEnd : Type 0 where
  pub deque : DequeId
  pub lens : List ℕ
  pub least : ℕ
  pub weight : ℕ
  pub pushed : List Stretch
  pub taken : List Stretch
  pub kept : List Stretch
  pub stolen : ℕ
  pub misses : ℕ

-- every part that is kept was stolen
abbrev pub AllStolen : OwnerEnd → Type 0
AllStolen o = o.stolen ≡ length o.kept

-- what was taken is, as often, what was pushed
abbrev pub AllTaken : OwnerEnd → Type 0
AllTaken o = AreAsOften o.taken o.pushed

-- a thief's end: the same, but for what it never does
pub record ThiefEnd : Type 0 where
  pub deque : DequeId
  pub lens : List ℕ
  pub least : ℕ
  pub weight : ℕ
  pub taken : List Stretch
  pub stolen : ℕ
  pub misses : ℕ

abbrev pub owner_end : DequeId → List ℕ → ℕ → ℕ → List Stretch → List Stretch → List Stretch → ℕ → ℕ → OwnerEnd
owner_end deque lens least weight pushed taken kept stolen misses =
    record {
      deque = deque;
      lens = lens;
      least = least;
      weight = weight;
      pushed = pushed;
      taken = taken;
      kept = kept;
      stolen = stolen;
      misses = misses;
    }

abbrev pub thief_end : DequeId → List ℕ → ℕ → ℕ → List Stretch → ℕ → ℕ → ThiefEnd
thief_end deque lens least weight taken stolen misses =
    record { deque = deque; lens = lens; least = least; weight = weight; taken = taken; stolen = stolen; misses = misses }

-- it is the same deque, for the same crew, and the end has the same weight
pub record SameOwner (old new : OwnerEnd) : Type 0 where
  pub deque : new.deque ≡ old.deque
  pub lens : new.lens ≡ old.lens
  pub least : new.least ≡ old.least
  pub weight : new.weight ≡ old.weight

pub record SameThief (old new : ThiefEnd) : Type 0 where
  pub deque : new.deque ≡ old.deque
  pub lens : new.lens ≡ old.lens
  pub least : new.least ≡ old.least
  pub weight : new.weight ≡ old.weight

-- the owner's end after a push
abbrev pub after_push : OwnerEnd → Stretch → OwnerEnd
after_push o part =
    owner_end o.deque o.lens o.least o.weight (o.pushed ++ part ∷ []) o.taken (o.kept ++ part ∷ []) o.stolen o.misses

-- the owner's end after a pop that leaves so much
abbrev pub after_pop : OwnerEnd → Stretch → List Stretch → OwnerEnd
after_pop o part kept = owner_end o.deque o.lens o.least o.weight o.pushed (o.taken ++ part ∷ []) kept o.stolen o.misses

-- the owner's end after a pop that gave nothing
abbrev pub after_missed_pop : OwnerEnd → OwnerEnd
after_missed_pop o = owner_end o.deque o.lens o.least o.weight o.pushed o.taken o.kept o.stolen (one_more o.misses)

-- the owner's end after it took in a thief's
abbrev pub after_join : OwnerEnd → ThiefEnd → OwnerEnd
after_join o t =
    owner_end o.deque o.lens o.least (o.weight + t.weight) o.pushed (o.taken ++ t.taken) o.kept (o.stolen + t.stolen) o.misses

-- a thief's end after it stole a part
abbrev pub after_steal : ThiefEnd → Stretch → ThiefEnd
after_steal t part = thief_end t.deque t.lens t.least t.weight (t.taken ++ part ∷ []) (t.stolen + 1) t.misses

-- a thief's end after a steal that gave nothing
abbrev pub after_missed_steal : ThiefEnd → ThiefEnd
after_missed_steal t = thief_end t.deque t.lens t.least t.weight t.taken t.stolen (one_more t.misses)

-- a thief's end after half of its weight was split off
abbrev pub after_split : ThiefEnd → ThiefEnd
after_split t = thief_end t.deque t.lens t.least (t.weight - t.weight / 2) t.taken t.stolen t.misses

-- the new end, with that half
abbrev pub split_off : ThiefEnd → ThiefEnd
split_off t = thief_end t.deque t.lens t.least (t.weight / 2) [] 0 0

-- the ends of a new deque for this crew, each with half of the weight
pub record AreNew (lens : List ℕ) (least : ℕ) (owner : OwnerEnd) (thief : ThiefEnd) : Type 0 where
  pub one_deque : thief.deque ≡ owner.deque
  pub owner_is : owner ≡ owner_end owner.deque lens least half_weight [] [] [] 0 0
  pub thief_is : thief ≡ thief_end thief.deque lens least half_weight [] 0 0
