-- Rights that are halved, and what the two ends are then.
use Rattle.std.proofs.Common.{◌≡◌, ℕ, zero, suc, ◌+◌, ◌-◌, ◌*◌, ◌/◌, ◌^◌, ◌≤◌, List, [], ◌∷◌, ◌++◌, take, drop, All, sym, ap, ◌∙◌, subst, arith}
use Rattle.std.proofs.lemmas.List.Elements.{All-take, All-drop}
use Rattle.crossbeam_deque.specs.Handles.{Pass}
use Rattle.std.proofs.Math.Nat.{pow-succ'}
use Rattle.splittable.specs.Parts.{Stretch}
use Rattle.part_deque.specs.declared.account.Account.{Account}
use Rattle.part_deque.specs.Ends.{DequeId, ThiefEnd, thief_end, after_split, split_off}
use Rattle.part_deque.specs.Rights.{IsPowerOfTwo, account_of, IsThiefs, IsSpare}
use Rattle.part_deque.specs.Steps.{right_weight, right_of}
use Rattle.part_deque.proofs.Keeps.{all_but_last, the_last}

-- rights in two equal halves, each a power of two
pub record AreHalved (rights left right : ℕ) : Type 0 where
  pub left_power : IsPowerOfTwo left
  pub right_power : IsPowerOfTwo right
  pub left_is : 2 * left ≡ rights
  pub right_is : 2 * right ≡ rights

-- spare rights beside the one in use: half of them stay, and of those that go one is put to use
pub halved : (spare len left given kept : ℕ) → IsPowerOfTwo (spare + 1) → 2 * right_weight ≤ (spare + 1) * right_weight → left ≡ len / 2 → given + len / 2 ≡ spare
    → len ≡ spare → kept + 1 ≡ given → AreHalved (spare + 1) (left + 1) (kept + 1)
halved spare len left given kept (zero, e) many l g same k = absurd (let one : spare + 1 ≡ 1 = e in omega arith)
halved spare len left given kept (suc n, e) many l g same k =
    let double : spare + 1 ≡ 2 * 2 ^ n = e ∙ pow-succ' 2 n in
    record {
      left_power = (n, omega arith);
      right_power = (n, omega arith);
      left_is = omega arith;
      right_is = omega arith;
    }

-- the end that stays
pub stays : (t : ThiefEnd) (deque : DequeId) (v : Account) (rights left misses : ℕ) → 2 * left ≡ rights
    → thief_end deque v.lens v.least (rights * right_weight) v.taken v.stolen misses ≡ t
    → thief_end deque v.lens v.least (left * right_weight) v.taken v.stolen misses ≡ after_split t
stays t deque v rights left misses half view =
    let weight : left * right_weight ≡ rights * right_weight - (rights * right_weight) / 2 = omega arith in
    subst (λ (u : ThiefEnd). thief_end deque v.lens v.least (left * right_weight) v.taken v.stolen misses ≡ after_split u) view
    (λ i. thief_end deque v.lens v.least (weight i) v.taken v.stolen misses)

-- the end that is split off
pub goes : (t : ThiefEnd) (deque deque' : DequeId) (v r : Account) (rights right misses : ℕ) → 2 * right ≡ rights → deque' ≡ deque → r ≡ right_of v.lens v.least
    → thief_end deque v.lens v.least (rights * right_weight) v.taken v.stolen misses ≡ t
    → thief_end deque' r.lens r.least (right * right_weight) r.taken r.stolen 0 ≡ split_off t
goes t deque deque' v r rights right misses half same fresh view =
    let weight : right * right_weight ≡ (rights * right_weight) / 2 = omega arith in
    subst (λ (u : ThiefEnd). thief_end deque' r.lens r.least (right * right_weight) r.taken r.stolen 0 ≡ split_off u) view
    (λ i. thief_end (same i) (fresh i).lens (fresh i).least (weight i) (fresh i).taken (fresh i).stolen 0)

-- the rights that go: one to use, and the spare ones of it
pub record AreGone {A : Type 0} (deque : (ℕ × ℕ) × A) (lens : List ℕ) (least : ℕ) (right : Pass Stretch Account A) (rest : List (Pass Stretch Account A)) : Type 0 where
  pub used : IsThiefs deque right
  pub spare : All (IsSpare deque (account_of right).lens (account_of right).least) rest
  pub fresh : account_of right ≡ right_of lens least

module _ {A : Type 0} (deque : (ℕ × ℕ) × A) (lens : List ℕ) (least : ℕ) (spare : List (Pass Stretch Account A)) (h : All (IsSpare deque lens least) spare) (k : ℕ) where
  pub rights_stay : (left : List (Pass Stretch Account A)) → left ≡ take k spare → All (IsSpare deque lens least) left
  rights_stay left is = subst (All (IsSpare deque lens least)) (sym is) (All-take (IsSpare deque lens least) k spare h)

  pub rights_go : (deque' : (ℕ × ℕ) × A) (tail rest : List (Pass Stretch Account A)) (right : Pass Stretch Account A) → deque' ≡ deque → tail ≡ drop k spare
      → tail ≡ rest ++ right ∷ [] → AreGone deque' lens least right rest
  rights_go deque' tail rest right same is last =
      let P : Pass Stretch Account A → Type 0 = IsSpare deque lens least in
      let all : All P (rest ++ right ∷ []) = subst (All P) (sym is ∙ last) (All-drop P k spare h) in
      let one = the_last P rest right all in
      let others : All P rest = all_but_last P rest right all in
      let crew : All (IsSpare deque (account_of right).lens (account_of right).least) rest =
      subst (λ (v : Account). All (IsSpare deque v.lens v.least) rest) (sym one.1) others in
      subst (λ (d : (ℕ × ℕ) × A). AreGone d lens least right rest) (sym same) record {
        used = record {
          of = one.0;
          weighs = ap (λ (v : Account). v.weight) one.1;
          pushed = ap (λ (v : Account). v.pushed) one.1;
        };
        spare = crew;
        fresh = one.1;
      }
