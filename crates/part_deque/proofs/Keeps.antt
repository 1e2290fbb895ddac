-- Each step of a deque keeps its rule.
use Rattle.std.proofs.Common.{◌≡◌, ◌≢◌, ℕ, zero, suc, ◌+◌, ◌-◌, ◌*◌, ◌<◌, ◌≤◌, List, [], ◌∷◌, ◌++◌, length, take, drop, set, sum_by, All, length-append, length-drop, append-nil, ⊎_elim, sym, refl, ap, ◌∙◌, subst, arith}
use Rattle.std.proofs.lemmas.List.{drop-append-le, drop_all}
use Rattle.std.proofs.lemmas.List.Sums.{sum_by-append, sum_by-cons}
use Rattle.std.proofs.lemmas.List.Elements.{All-append, All-take, All-drop}
use Rattle.std.specs.Prelude.{Option, Some, None, MatchOption, IfSome}
use Rattle.std.specs.List.{flat_map}
use lib.Seq.{take-append_seam, drop-append_seam}
use mathlib.Core.Option.{some, some-ne-none}
use Rattle.crossbeam_deque.proofs.Lists.{at_set}
use lib.ListN.{get_elem?}
use Rattle.crossbeam_deque.specs.Tasks.{Pushes, Takes, Pops, Finds, Forks, Merges}
use Rattle.splittable.specs.Parts.{Stretch}
use Rattle.splittable.specs.Nodes.{IsNode}
use Rattle.part_deque.specs.declared.account.Account.{Account}
use Rattle.as_often.specs.AsOften.{AreAsOften}
use Rattle.part_deque.specs.Rule.{DequeRule, Each, IsSpent, account, fresh, opening, spent, whole_weight, kept_by, all_pushed, all_taken, stolen_by}
use Rattle.part_deque.specs.Steps.{right_weight, right_of, without, lighter, named, together, heavier}
use Rattle.part_deque.specs.Tells.{Pushed, Popped, Stolen, KnowsAllGone}
use Rattle.part_deque.proofs.Views.{total_set, all_is_one, others_weigh_nothing, each_set, each_set_but, each_snoc, kept_own, kept_set_own, kept_set_same, kept_set_other, kept_snoc, front_leaves, back_leaves}

one : (P : Stretch → Type 0) (x : Stretch) → P x → All P (x ∷ [])
one P x h zero d le = h
one P x h (suc k) d le = absurd (omega arith)

none : (P : Stretch → Type 0) → All P []
none P k d le = absurd (omega arith)

left_all : (P : Stretch → Type 0) (xs ys : List Stretch) → All P (xs ++ ys) → All P xs
left_all P xs ys h = subst (All P) (take-append_seam xs ys) (All-take P (length xs) (xs ++ ys) h)

right_all : (P : Stretch → Type 0) (xs ys : List Stretch) → All P (xs ++ ys) → All P ys
right_all P xs ys h = subst (All P) (drop-append_seam xs ys) (All-drop P (length xs) (xs ++ ys) h)

-- what all lists together weigh
sum_flat : (f : Account → List Stretch) (h : Stretch → ℕ) (views : List Account) → sum_by h (flat_map f views) ≡ sum_by (λ (v : Account). sum_by h (f v)) views
sum_flat f h [] = refl
sum_flat f h (v ∷ views) =
    sum_by-append h (f v) (flat_map f views) ∙ ap (λ (n : ℕ). sum_by h (f v) + n) (sum_flat f h views) ∙ sym (sum_by-cons (λ (u : Account). sum_by h (f u)) v views)

abbrev Weighed : List Stretch → List Account → Type 0
Weighed parts views = (h : Stretch → ℕ) → sum_by (λ (v : Account). sum_by h v.pushed) views ≡ sum_by (λ (v : Account). sum_by h v.taken) views + sum_by h parts

-- as often is: of one weight, end by end
pub weighed : (parts : List Stretch) (views : List Account) → AreAsOften (all_pushed views) (all_taken views ++ parts) → Weighed parts views
weighed parts views often h =
    sym (sum_flat (λ (v : Account). v.pushed) h views) ∙ often h ∙ sum_by-append h (all_taken views) parts
    ∙ ap (λ (n : ℕ). n + sum_by h parts) (sum_flat (λ (v : Account). v.taken) h views)

by_weight : (parts : List Stretch) (views : List Account) → Weighed parts views → AreAsOften (all_pushed views) (all_taken views ++ parts)
by_weight parts views even h =
    sum_flat (λ (v : Account). v.pushed) h views ∙ even h ∙ ap (λ (n : ℕ). n + sum_by h parts) (sym (sum_flat (λ (v : Account). v.taken) h views))
    ∙ sym (sum_by-append h (all_taken views) parts)

-- The rule after a step of an end whose weight and crew stay: what is left to show is what the step does to the parts.
record Moves (parts : List Stretch) (views : List Account) (d : DequeRule parts views) (port : ℕ) (v w : Account) (parts' : List Stretch) : Type 0 where
  has : 0 < v.weight
  weight : w.weight ≡ v.weight
  lens : w.lens ≡ v.lens
  least : w.least ≡ v.least
  as_often : (h : Stretch → ℕ) → sum_by h w.pushed + sum_by h v.taken + sum_by h parts ≡ sum_by h v.pushed + sum_by h w.taken + sum_by h parts'
  left : parts' ≡ drop (stolen_by (set views port w)) (kept_by (set views port w))
  within : stolen_by (set views port w) ≤ length (kept_by (set views port w))
  nodes : All (IsNode d.lens d.least) parts'
  pushed : All (IsNode d.lens d.least) w.pushed

moved : (parts : List Stretch) (views : List Account) (d : DequeRule parts views) (port : ℕ) (v w : Account) (parts' : List Stretch) → get_elem? views port ≡ some v →
    Moves parts views d port v w parts' → DequeRule parts' (set views port w)
moved parts views d port v w parts' at m =
    let crew = d.crew port v at m.has in
    record {
      lens = d.lens;
      least = d.least;
      as_often = by_weight parts' (set views port w) (λ h.
          let s = total_set (λ (u : Account). sum_by h u.pushed) views port v w at in
          let t = total_set (λ (u : Account). sum_by h u.taken) views port v w at in
          let o = weighed parts views d.as_often h in
          let n = m.as_often h in
          omega arith);
      left = m.left;
      within = m.within;
      weights = (let s = total_set (λ (u : Account). u.weight) views port v w at in let o = d.weights in let same = m.weight in omega arith);
      idle = each_set (λ u. u.weight ≡ 0 → IsSpent u) views port w (λ none. let same = m.weight in let has = m.has in absurd (omega arith)) d.idle;
      crew = each_set (λ u. 0 < u.weight → (u.lens ≡ d.lens) × (u.least ≡ d.least)) views port w (λ _. (m.lens ∙ crew.0, m.least ∙ crew.1)) d.crew;
      nodes = m.nodes;
      pushed = each_set (λ u. All (IsNode d.lens d.least) u.pushed) views port w m.pushed d.pushed;
    }

-- a fact of nodes, of an end's crew and of the rule's
to_rule : (lens lens' : List ℕ) (least least' : ℕ) (xs : List Stretch) → lens ≡ lens' → least ≡ least' → All (IsNode lens least) xs → All (IsNode lens' least') xs
to_rule lens lens' least least' xs a b h = subst (λ (c : List ℕ × ℕ). All (IsNode c.0 c.1) xs) (λ i. (a i, b i)) h

pub pushes : (v : Account) (port : ℕ) (part : Stretch) → port ≡ 0 → 0 < v.weight → IsNode v.lens v.least part → Pushes DequeRule port v (part ∷ []) (λ w. Pushed v (part ∷ []) w)
pushes v port part here has node items views d at =
    let w : Account = account v.weight v.lens v.least (v.pushed ++ part ∷ []) v.taken (v.kept ++ part ∷ []) v.stolen in
    let at0 : get_elem? views 0 ≡ some v = subst (λ k. get_elem? views k ≡ some v) here at in
    let crew = d.crew port v at has in
    let new : All (IsNode d.lens d.least) (part ∷ []) = to_rule v.lens d.lens v.least d.least (part ∷ []) crew.0 crew.1 (one (IsNode v.lens v.least) part node) in
    let kept : kept_by (set views port w) ≡ v.kept ++ part ∷ [] = subst (λ k. kept_by (set views k w) ≡ v.kept ++ part ∷ []) (sym here) (kept_set_own views v w at0) in
    let was : kept_by views ≡ v.kept = kept_own views v at0 in
    let s = total_set (λ (u : Account). u.stolen) views port v w at in
    let stolen : stolen_by (set views port w) ≡ stolen_by views = omega arith in
    let within : stolen_by views ≤ length v.kept = subst (λ l. stolen_by views ≤ length l) was d.within in
    let left : items ++ part ∷ [] ≡ drop (stolen_by views) (v.kept ++ part ∷ []) =
    ap (λ l. l ++ part ∷ []) (d.left ∙ ap (drop (stolen_by views)) was) ∙ sym (drop-append-le (stolen_by views) v.kept (part ∷ []) within) in (
      w,
      moved items views d port v w (items ++ part ∷ []) at record {
        has = has;
        weight = refl;
        lens = refl;
        least = refl;
        as_often = λ h. omega (arith, sum_by-append h v.pushed (part ∷ []), sum_by-append h items (part ∷ []));
        left = rw (stolen, kept) left;
        within = rw (stolen, kept) (omega (arith, length-append v.kept (part ∷ []), within));
        nodes = All-append (IsNode d.lens d.least) items (part ∷ []) d.nodes new;
        pushed = All-append (IsNode d.lens d.least) v.pushed (part ∷ []) (d.pushed port v at) new;
      },
      refl,
    )

-- an end with the whole weight knows all that was stolen
pub all_stolen : (parts : List Stretch) (views : List Account) → DequeRule parts views → (port : ℕ) (v : Account) → get_elem? views port ≡ some v → v.weight ≡ whole_weight → stolen_by views ≡ v.stolen
all_stolen parts views d port v at whole =
    all_is_one (λ (u : Account). u.weight) (λ (u : Account). u.stolen) views port v at (λ j u a no. (d.idle j u a no).2) (d.weights ∙ sym whole)

pub pops : (v : Account) (port : ℕ) → port ≡ 0 → 0 < v.weight → Pops DequeRule port v (λ xs w. Popped v xs w)
pops v port here has x items views d at =
    let n = stolen_by views in
    let at0 : get_elem? views 0 ≡ some v = subst (λ k. get_elem? views k ≡ some v) here at in
    let was : kept_by views ≡ v.kept = kept_own views v at0 in
    let within : n ≤ length v.kept = subst (λ l. n ≤ length l) was d.within in
    let r = back_leaves n v.kept x items (d.left ∙ ap (drop n) was) within in
    let kept' : List Stretch = take n v.kept ++ items in
    let w : Account = account v.weight v.lens v.least v.pushed (v.taken ++ x ∷ []) kept' v.stolen in
    let kept : kept_by (set views port w) ≡ kept' = subst (λ k. kept_by (set views k w) ≡ kept') (sym here) (kept_set_own views v w at0) in
    let s = total_set (λ (u : Account). u.stolen) views port v w at in
    let stolen : stolen_by (set views port w) ≡ n = omega arith in
    let crew = d.crew port v at has in
    let P : Stretch → Type 0 = IsNode d.lens d.least in
    let len : length v.kept ≡ length kept' + 1 = ap length r.0 ∙ length-append kept' (x ∷ []) in (
      w,
      moved (items ++ x ∷ []) views d port v w items at record {
        has = has;
        weight = refl;
        lens = refl;
        least = refl;
        as_often = λ h. omega (arith, sum_by-append h v.taken (x ∷ []), sum_by-append h items (x ∷ []));
        left = rw (stolen, kept) r.1;
        within = rw (stolen, kept) r.2;
        nodes = left_all P items (x ∷ []) d.nodes;
        pushed = d.pushed port v at;
      },
      record {
        now = refl;
        last = r.0;
        nodes = (to_rule d.lens v.lens d.least v.least (x ∷ []) (sym crew.0) (sym crew.1) (right_all P items (x ∷ []) d.nodes) 0 x (omega arith), tt);
        more = λ whole. let all = all_stolen (items ++ x ∷ []) views d port v at whole in let few = r.2 in omega arith;
      },
    )

-- where nothing is left, all was stolen
nothing_left_of : (n : ℕ) (kept : List Stretch) → [] ≡ drop n kept → n ≤ length kept → n ≡ length kept
nothing_left_of n kept e le = let len : 0 ≡ length kept - n = ap length e ∙ length-drop n kept in omega arith

pub finds : (v : Account) (port : ℕ) → port ≡ 0 → Finds DequeRule port v (KnowsAllGone v)
finds v port here views d at whole =
    let n = stolen_by views in
    let at0 : get_elem? views 0 ≡ some v = subst (λ k. get_elem? views k ≡ some v) here at in
    let was : kept_by views ≡ v.kept = kept_own views v at0 in
    let all = all_stolen [] views d port v at whole in (
      sym all ∙ nothing_left_of n v.kept (d.left ∙ ap (drop n) was) (subst (λ l. n ≤ length l) was d.within),
      λ h.
          let weights : sum_by (λ (u : Account). u.weight) views ≡ v.weight = d.weights ∙ sym whole in
          let p = all_is_one (λ (u : Account). u.weight) (λ (u : Account). sum_by h u.pushed) views port v at (λ j u a no. ap (λ l. sum_by h l) (d.idle j u a no).0) weights in
          let t = all_is_one (λ (u : Account). u.weight) (λ (u : Account). sum_by h u.taken) views port v at (λ j u a no. ap (λ l. sum_by h l) (d.idle j u a no).1) weights in
          let o = weighed [] views d.as_often h in
          omega arith,
    )

pub takes : (v : Account) (port : ℕ) → 0 < v.weight → Takes DequeRule port v 1 (λ xs w. Stolen v xs w)
takes v port has [] items views more few d at = absurd (omega arith)
takes v port has (x ∷ y ∷ xs) items views more few d at = absurd (omega arith)
takes v port has (x ∷ []) items views _ _ d at =
    let n = stolen_by views in
    let w : Account = account v.weight v.lens v.least v.pushed (v.taken ++ x ∷ []) v.kept (v.stolen + 1) in
    let kept : kept_by (set views port w) ≡ kept_by views = kept_set_same views port v w at refl in
    let s = total_set (λ (u : Account). u.stolen) views port v w at in
    let stolen : stolen_by (set views port w) ≡ suc n = omega arith in
    let r = front_leaves n (kept_by views) x items d.left in
    let crew = d.crew port v at has in
    let P : Stretch → Type 0 = IsNode d.lens d.least in (
      w,
      moved (x ∷ items) views d port v w items at record {
        has = has;
        weight = refl;
        lens = refl;
        least = refl;
        as_often = λ h. omega (arith, sum_by-append h v.taken (x ∷ []), sum_by-cons h x items);
        left = rw (stolen, kept) r.0;
        within = rw (stolen, kept) r.1;
        nodes = right_all P (x ∷ []) items d.nodes;
        pushed = d.pushed port v at;
      },
      record {
        now = refl;
        nodes = (to_rule d.lens v.lens d.least v.least (x ∷ []) (sym crew.0) (sym crew.1) (left_all P (x ∷ []) items d.nodes) 0 x (omega arith), tt);
      },
    )

-- A new end with a part of an end's weight, which did nothing yet; all ends with weight are then of this crew.
record Cuts (parts : List Stretch) (views : List Account) (port : ℕ) (v left right : Account) (lens : List ℕ) (least : ℕ) : Type 0 where
  weights : left.weight + right.weight ≡ v.weight
  has_left : 0 < left.weight
  has_right : 0 < right.weight
  done : (left.pushed ≡ v.pushed) × (left.taken ≡ v.taken) × (left.kept ≡ v.kept) × (left.stolen ≡ v.stolen)
  none : IsSpent right
  of_left : (left.lens ≡ lens) × (left.least ≡ least)
  of_right : (right.lens ≡ lens) × (right.least ≡ least)
  others : (j : ℕ) (u : Account) → j ≢ port → get_elem? views j ≡ some u → 0 < u.weight → (u.lens ≡ lens) × (u.least ≡ least)
  others_pushed : (j : ℕ) (u : Account) → j ≢ port → get_elem? views j ≡ some u → All (IsNode lens least) u.pushed
  nodes : All (IsNode lens least) parts
  pushed : All (IsNode lens least) v.pushed

cut : (parts : List Stretch) (views : List Account) → DequeRule parts views → (port : ℕ) (v left right : Account) (lens : List ℕ) (least : ℕ) → get_elem? views port ≡ some v →
    Cuts parts views port v left right lens least → DequeRule parts (set views port left ++ right ∷ [])
cut parts views d port v left right lens least at c =
    let total : (f : Account → ℕ) → f left + f right ≡ f v → sum_by f (set views port left ++ right ∷ []) ≡ sum_by f views = λ f e.
    let s = total_set f views port v left at in omega (arith, sum_by-append f (set views port left) (right ∷ []), sum_by-cons f right []) in
    let stolen : stolen_by (set views port left ++ right ∷ []) ≡ stolen_by views = total (λ (u : Account). u.stolen) (let a = c.done.3 in let b = c.none.2 in omega arith) in
    let kept : kept_by (set views port left ++ right ∷ []) ≡ kept_by views = kept_snoc views port v left right at ∙ kept_set_same views port v left at c.done.2 in
    record {
      lens = lens;
      least = least;
      as_often = by_weight parts (set views port left ++ right ∷ []) (λ h.
          let p = total (λ (u : Account). sum_by h u.pushed) (rw (c.done.0, c.none.0) (omega arith)) in
          let t = total (λ (u : Account). sum_by h u.taken) (rw (c.done.1, c.none.1) (omega arith)) in
          p ∙ weighed parts views d.as_often h ∙ ap (λ (n : ℕ). n + sum_by h parts) (sym t));
      left = rw (stolen, kept) d.left;
      within = rw (stolen, kept) d.within;
      weights = total (λ (u : Account). u.weight) c.weights ∙ d.weights;
      idle = each_snoc (λ u. u.weight ≡ 0 → IsSpent u) (set views port left) right (λ _. c.none)
          (each_set (λ u. u.weight ≡ 0 → IsSpent u) views port left (λ no. let has = c.has_left in absurd (omega arith)) d.idle);
      crew = each_snoc (λ u. 0 < u.weight → (u.lens ≡ lens) × (u.least ≡ least)) (set views port left) right (λ _. c.of_right)
          (each_set_but (λ u. 0 < u.weight → (u.lens ≡ lens) × (u.least ≡ least)) views port left (λ _. c.of_left) c.others);
      nodes = c.nodes;
      pushed = each_snoc (λ u. All (IsNode lens least) u.pushed) (set views port left) right (rw c.none.0 (none (IsNode lens least)))
          (each_set_but (λ u. All (IsNode lens least) u.pushed) views port left (rw c.done.0 c.pushed) c.others_pushed);
    }

pub shares : (v : Account) (port share : ℕ) → 0 < share → share < v.weight → Forks DequeRule port v (without v share) (fresh share v.lens v.least)
shares v port share has more items views d at =
    let crew = d.crew port v at (omega arith) in
    cut items views d port v (without v share) (fresh share v.lens v.least) d.lens d.least at record {
      weights = omega arith;
      has_left = omega arith;
      has_right = omega arith;
      done = (refl, refl, refl, refl);
      none = (refl, refl, refl, refl);
      of_left = crew;
      of_right = crew;
      others = λ j u ne a. d.crew j u a;
      others_pushed = λ j u ne a. d.pushed j u a;
      nodes = d.nodes;
      pushed = d.pushed port v at;
    }

pub cuts : (v : Account) (port : ℕ) → right_weight < v.weight → Forks DequeRule port v (lighter v) (right_of v.lens v.least)
cuts v port more = shares v port right_weight (omega arith) more

pub opens : (lens : List ℕ) (least port : ℕ) → port ≡ 0 → Forks DequeRule port opening (named lens least opening) (right_of lens least)
opens lens least port here items views d at =
    let P : Stretch → Type 0 = IsNode lens least in
    let at0 : get_elem? views 0 ≡ some opening = subst (λ k. get_elem? views k ≡ some opening) here at in
    let empty : items ≡ [] = d.left ∙ ap (drop (stolen_by views)) (kept_own views opening at0) ∙ drop_all (stolen_by views) [] (omega arith) in
    let none_else : (j : ℕ) (u : Account) → j ≢ port → get_elem? views j ≡ some u → u.weight ≡ 0 = λ j u ne a.
    let le = others_weigh_nothing (λ (x : Account). x.weight) views port j opening u at ne a in let all = d.weights in omega arith in
    cut items views d port opening (named lens least opening) (right_of lens least) lens least at record {
      weights = refl;
      has_left = omega arith;
      has_right = omega arith;
      done = (refl, refl, refl, refl);
      none = (refl, refl, refl, refl);
      of_left = (refl, refl);
      of_right = (refl, refl);
      others = λ j u ne a has. let no = none_else j u ne a in absurd (omega arith);
      others_pushed = λ j u ne a. rw (d.idle j u a (none_else j u ne a)).0 (none P);
      nodes = rw empty (none P);
      pushed = none P;
    }

pub merges : (v : Account) (port : ℕ) (u : Account) (other : ℕ) → port ≡ 0 → 0 < v.weight → Merges DequeRule port v other u (together v u) spent
merges v port u other here has items views d at ne at' =
    let both : Account = together v u in
    let vs : List Account = set views port both in
    let ws : List Account = set vs other spent in
    let away : get_elem? views other ≡ some u = ⊎_elim (λ x. absurd (ne x.0)) (λ x. x.1) (at_set views port other both u at') in
    let total : (f : Account → ℕ) → f both ≡ f v + f u → f spent ≡ 0 → sum_by f ws ≡ sum_by f views = λ f e z.
    let a = total_set f views port v both at in let b = total_set f vs other u spent at' in omega arith in
    let stolen : stolen_by ws ≡ stolen_by views = total (λ (x : Account). x.stolen) refl refl in
    let apart : other ≢ 0 = λ e. ne (e ∙ sym here) in
    let kept : kept_by ws ≡ kept_by views = kept_set_other vs other spent apart ∙ kept_set_same views port v both at refl in
    let P : Stretch → Type 0 = IsNode d.lens d.least in
    record {
      lens = d.lens;
      least = d.least;
      as_often = by_weight items ws (λ h.
          let p = total (λ (x : Account). sum_by h x.pushed) (sum_by-append h v.pushed u.pushed) refl in
          let t = total (λ (x : Account). sum_by h x.taken) (sum_by-append h v.taken u.taken) refl in
          p ∙ weighed items views d.as_often h ∙ ap (λ (n : ℕ). n + sum_by h items) (sym t));
      left = rw (stolen, kept) d.left;
      within = rw (stolen, kept) d.within;
      weights = total (λ (x : Account). x.weight) refl refl ∙ d.weights;
      idle = each_set (λ x. x.weight ≡ 0 → IsSpent x) vs other spent (λ _. (refl, refl, refl, refl))
          (each_set (λ x. x.weight ≡ 0 → IsSpent x) views port both (λ no. absurd (omega arith)) d.idle);
      crew = each_set (λ x. 0 < x.weight → (x.lens ≡ d.lens) × (x.least ≡ d.least)) vs other spent (λ no. absurd (omega arith))
          (each_set (λ x. 0 < x.weight → (x.lens ≡ d.lens) × (x.least ≡ d.least)) views port both (λ _. d.crew port v at has) d.crew);
      nodes = d.nodes;
      pushed = each_set (λ x. All P x.pushed) vs other spent (none P)
          (each_set (λ x. All P x.pushed) views port both (All-append P v.pushed u.pushed (d.pushed port v at) (d.pushed other u away)) d.pushed);
    }

pub makes : (lens : List ℕ) (least : ℕ) → DequeRule [] (fresh whole_weight lens least ∷ [])
makes lens least =
    let new : Account = fresh whole_weight lens least in
    let each : (P : Account → Type 0) → P new → Each P (new ∷ []) = λ P h. each_snoc P [] new h (λ j u e. absurd (some-ne-none u (sym e))) in
    record {
      lens = lens;
      least = least;
      as_often = λ h. refl;
      left = refl;
      within = omega arith;
      weights = refl;
      idle = each (λ u. u.weight ≡ 0 → IsSpent u) (λ _. (refl, refl, refl, refl));
      crew = each (λ u. 0 < u.weight → (u.lens ≡ lens) × (u.least ≡ least)) (λ _. (refl, refl));
      nodes = none (IsNode lens least);
      pushed = each (λ u. All (IsNode lens least) u.pushed) (none (IsNode lens least));
    }

pub begins : DequeRule [] (opening ∷ [])
begins = makes [] 0

-- what a pop gave is a node for the end's crew
pub popped_is_node : (given : Option Stretch) (missed : Type 0) (v w : Account) (lens : List ℕ) (least : ℕ) → MatchOption given missed (λ x. Popped v (x ∷ []) w) → v.lens ≡ lens → v.least ≡ least → IfSome given (IsNode lens least)
popped_is_node None missed v w lens least h a b = tt
popped_is_node (Some x) missed v w lens least h a b = subst (λ (c : List ℕ × ℕ). IsNode c.0 c.1 x) (λ i. (a i, b i)) h.nodes.0

-- an end whose rights have weight has weight
pub with_a_right : (v : Account) → v.weight ≡ right_weight → 0 < v.weight
with_a_right v e = omega arith

-- an end with more weight has weight
pub more_weight : (v w : Account) (more : ℕ) → w ≡ heavier v more → 0 < v.weight → 0 < w.weight
more_weight v w more e has = let same : w.weight ≡ v.weight + more = ap (λ (x : Account). x.weight) e in omega arith

-- an end from which rights were cut is heavy enough for one more
pub still_heavy : (v w : Account) (many : ℕ) → v ≡ heavier w (many * right_weight) → v.weight + right_weight ≡ whole_weight → many < 1023 → right_weight < w.weight
still_heavy v w many e whole few = let same : v.weight ≡ w.weight + many * right_weight = ap (λ (x : Account). x.weight) e in omega arith

nothing_more : (n : ℕ) → n + 0 ≡ n
nothing_more n = omega arith

-- the account after one of the rights that are left was taken in
pub absorbs : (v₀ v w r : Account) (many left left' : ℕ) (lens : List ℕ) (least : ℕ) → v ≡ heavier v₀ ((many - left) * right_weight) → r ≡ right_of lens least → w ≡ together v r → left' + 1 ≡ left → left ≤ many →
    w ≡ heavier v₀ ((many - left') * right_weight)
absorbs v₀ v w r many left left' lens least e unit both one le =
    let weight : v₀.weight + (many - left) * right_weight + right_weight ≡ v₀.weight + (many - left') * right_weight = omega arith in
    both ∙ rw (e, unit, append-nil v₀.pushed, append-nil v₀.taken) (ap (λ (n : ℕ). account n v₀.lens v₀.least v₀.pushed v₀.taken v₀.kept (v₀.stolen + 0)) weight)
    ∙ (λ i. account (v₀.weight + (many - left') * right_weight) v₀.lens v₀.least v₀.pushed v₀.taken v₀.kept (nothing_more v₀.stolen i))

module _ {X : Type 0} (P : X → Type 0) where
  -- a fact of all but the last, and of the last
  pub all_but_last : (xs : List X) (x : X) → All P (xs ++ x ∷ []) → All P xs
  all_but_last xs x h = subst (All P) (take-append_seam xs (x ∷ [])) (All-take P (length xs) (xs ++ x ∷ []) h)

  pub the_last : (xs : List X) (x : X) → All P (xs ++ x ∷ []) → P x
  the_last xs x h = let last : All P (x ∷ []) = subst (All P) (drop-append_seam xs (x ∷ [])) (All-drop P (length xs) (xs ++ x ∷ []) h) in last 0 x (omega arith)
