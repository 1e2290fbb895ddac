-- How states by their keys stand for a list of inputs: one more input, and two lists together.
use Rattle.std.proofs.Common.{◌≡◌, ◌≢◌, ℕ, ◌+◌, ◌^◌, ◌≤◌, List, [], ◌∷◌, ◌++◌, length, map, Bool, true, false, cond, Option, Some, None, inl, inr, ◌⊎◌, refl, ap, sym, ◌∙◌, subst, rules, arith, length-append}
use Rattle.std.specs.Prelude.{filter, Result, Ok, Err, OnOk}
use Rattle.std.specs.List.Sorted.{IsStrictlySortedBy}
use Rattle.std.proofs.lemmas.Map.Text.{is_eq-slice_cmp}
use Rattle.std.proofs.lemmas.Slice.Eq.{bytes_eq-Decides}
use Rattle.std.proofs.lemmas.List.{append-nil, map-append, map-id}
use Rattle.std.specs.List.{AllByRecursion}
use Rattle.std.specs.declared.cmp.Ordering.TheVariants.{Less}
use Rattle.std.proofs.lemmas.List.Elements.{filter-append}
use Rattle.std.proofs.lemmas.Map.Keys.{sorted_head, sorted_tail}
use Rattle.std.proofs.lemmas.Map.Iter.{rest_so_far, rest_more}
use Rattle.std.specs.Map.Iter.{TakesFirst}
use Rattle.std.specs.Iterator.{Yields}
use Rattle.std.specs.Ordering.{nat_cmp, is_eq}
use Rattle.std.specs.Cmp.Lexicographic.{slice_cmp}
use Rattle.std.specs.Str.{bytes_eq}
use Rattle.std.specs.BTreeMap.{BTreeMap, Updates, is_at}
use Rattle.std.specs.Map.{lookup, keys_of}
use Rattle.reducer_laws.specs.Standing.{MayTake, MayMerge, TakesNext, TakesTogether}
use Rattle.loop_results.specs.Groups.{inputs_under}
use Rattle.reducer_laws.specs.Groups.{state_at, KeysRise, StandsWhere, GroupsStand, MayMergeInto, TogetherWhere, GroupsTogether}

-- ---- keys
pub same_key : (q k : List ℕ) → bytes_eq q k ≡ true → q ≡ k
same_key q k e = search (rules, bytes_eq-Decides q k)

pub key_itself : (q : List ℕ) → bytes_eq q q ≡ true
key_itself q = search (rules, bytes_eq-Decides q q)

pub flipped : (q k : List ℕ) (b : Bool) → bytes_eq q k ≡ b → bytes_eq k q ≡ b
flipped q k true e = let s = same_key q k e in subst (λ z. bytes_eq k z ≡ true) (sym s) (key_itself k)
flipped q k false e =
    elim (bytes_eq k q) as (λ b. bytes_eq k q ≡ b → b ≡ false) [
      | true ↦ λ t. let s = same_key k q t in sym (subst (λ z. bytes_eq q z ≡ true) (sym s) (key_itself q)) ∙ e
      | false ↦ λ t. refl
    ] refl

below : (x k : List ℕ) → slice_cmp nat_cmp x k ≡ Less → bytes_eq k x ≡ false
below x k e = flipped x k false (sym (is_eq-slice_cmp x k) ∙ ap is_eq e)

module _ {S : Type 0} where
  -- a look-up as the tree makes it
  pub found : (q : List ℕ) (es : List (List ℕ × S)) → state_at q es ≡ lookup (is_at (slice_cmp nat_cmp q)) es
  found q [] = refl
  found q (e ∷ es) = λ i. cond (sym (is_eq-slice_cmp q e.0) i) (Some e.1) (found q es i)

  -- what a write at one key changes
  pub updated : (m n : BTreeMap (List ℕ) S) (k : List ℕ) (w : Option S) → Updates (slice_cmp nat_cmp) m n k w → (q : List ℕ) → state_at q n.entries ≡ cond (bytes_eq k q) w (state_at q m.entries)
  updated m n k w u q = found q n.entries ∙ u.0 q ∙ (λ i. cond (is_eq-slice_cmp k q i) w (sym (found q m.entries) i))

  cond_twice : (b : Bool) (x y z : Option S) → cond b x (cond b y z) ≡ cond b x z
  cond_twice true x y z = refl
  cond_twice false x y z = refl

  -- and what a write changes where the key was taken out before
  pub replaced : (m h n : BTreeMap (List ℕ) S) (k : List ℕ) (w : Option S) → Updates (slice_cmp nat_cmp) m h k None → Updates (slice_cmp nat_cmp) h n k w → (q : List ℕ) → state_at q n.entries ≡ cond (bytes_eq k q) w (state_at q m.entries)
  replaced m h n k w t u q =
      updated h n k w u q ∙ ap (λ o. cond (bytes_eq k q) w o) (updated m h k None t q) ∙ cond_twice (bytes_eq k q) w None (state_at q m.entries)

  -- what a look-up finds in a list of one
  one_found : (q k : List ℕ) (w : S) → state_at q ((k, w) ∷ []) ≡ cond (bytes_eq q k) (Some w) None
  one_found q k w = refl

-- ---- the inputs of a key
module _ {I : Type 0} where
  pub inputs_under-append : (k : List ℕ) (xs ys : List (List ℕ × I)) → inputs_under k (xs ++ ys) ≡ inputs_under k xs ++ inputs_under k ys
  inputs_under-append k xs ys = ap (map (λ i. i.1)) (filter-append (λ i. bytes_eq k i.0) xs ys) ∙ map-append (λ i. i.1) (filter (λ i. bytes_eq k i.0) xs) (filter (λ i. bytes_eq k i.0) ys)

  inputs_under-one : (q k : List ℕ) (input : I) (b : Bool) → bytes_eq q k ≡ b → inputs_under q ((k, input) ∷ []) ≡ cond b (input ∷ []) []
  inputs_under-one q k input true e = ap (λ b. map (λ (i : List ℕ × I). i.1) (cond b ((k, input) ∷ []) [])) e
  inputs_under-one q k input false e = ap (λ b. map (λ (i : List ℕ × I). i.1) (cond b ((k, input) ∷ []) [])) e

  fewer : (b : Bool) (x : List ℕ × I) (xs : List (List ℕ × I)) (n : ℕ) → length (map (λ i. i.1) xs) ≤ n → length (map (λ i. i.1) (cond b (x ∷ xs) xs)) ≤ n + 1
  fewer true x xs n h = omega arith
  fewer false x xs n h = omega arith

  pub length-inputs_under : (k : List ℕ) (xs : List (List ℕ × I)) → length (inputs_under k xs) ≤ length xs
  length-inputs_under k [] = omega arith
  length-inputs_under k (x ∷ xs) = omega (arith, fewer (bytes_eq k x.0) x (filter (λ i. bytes_eq k i.0) xs) (length xs) (length-inputs_under k xs))

  some_right : (xs ys : List I) → ys ≢ [] → xs ++ ys ≢ []
  some_right [] ys ne = ne
  some_right (x ∷ xs) ys ne = λ e. cc

  some_left : (xs ys : List I) → xs ≢ [] → xs ++ ys ≢ []
  some_left [] ys ne = absurd (ne refl)
  some_left (x ∷ xs) ys ne = λ e. cc

  one : (x : I) → x ∷ [] ≢ []
  one x = λ e. cc

module _ {S : Type 0} where
  -- the first that is there
  abbrev pub either : Option S → Option S → Option S
  either None o = o
  either (Some s) o = Some s

  pub either-None : (o : Option S) → either o None ≡ o
  either-None None = refl
  either-None (Some s) = refl

  either-cond : (b : Bool) (s : S) (o p : Option S) → cond b (Some s) (either o p) ≡ either (cond b (Some s) o) p
  either-cond true s o p = refl
  either-cond false s o p = refl

  pub state_at-append : (q : List ℕ) (es fs : List (List ℕ × S)) → state_at q (es ++ fs) ≡ either (state_at q es) (state_at q fs)
  state_at-append q [] fs = refl
  state_at-append q (e ∷ es) fs = ap (cond (bytes_eq q e.0) (Some e.1)) (state_at-append q es fs) ∙ either-cond (bytes_eq q e.0) e.1 (state_at q es) (state_at q fs)

  all_there : (P : List ℕ → Type 0) (es : List (List ℕ × S)) (k : List ℕ) (w : S) (more : List (List ℕ × S)) → AllByRecursion P (keys_of (es ++ (k, w) ∷ more)) → P k
  all_there P [] k w more h = h.0
  all_there P (e ∷ es) k w more h = all_there P es k w more h.1

  -- among rising keys none stands twice
  pub new_key : (es : List (List ℕ × S)) (k : List ℕ) (w : S) (more : List (List ℕ × S)) → KeysRise (es ++ (k, w) ∷ more) → state_at k es ≡ None
  new_key [] k w more h = refl
  new_key (e ∷ es) k w more h =
      let above = sorted_head (slice_cmp nat_cmp) e.0 (keys_of (es ++ (k, w) ∷ more)) h in
      let apart = below e.0 k (all_there (λ y. slice_cmp nat_cmp e.0 y ≡ Less) es k w more above) in
      ap (λ b. cond b (Some e.1) (state_at k es)) apart ∙ new_key es k w more (sorted_tail (slice_cmp nat_cmp) e.0 (keys_of (es ++ (k, w) ∷ more)) h)

  -- where a loop over all groups stands: what it took, this one, and the rest
  pub all_split : (all s t u : List (List ℕ × S)) (es : List (List ℕ × S)) (r : Option (List ℕ × S)) (x : List ℕ × S) → s ≡ all → Yields (TakesFirst (λ p. p)) s es t → r ≡ Some x → TakesFirst (λ p. p) t r u → all ≡ es ++ x ∷ u
  all_split all s t u es r x start y is step =
      sym start ∙ rest_so_far (λ p. p) es s t y ∙ ap (λ l. l ++ t) (map-id es) ∙ ap (λ l. es ++ l) (rest_more (λ p. p) t u r x is step)

  pub there : (es : List (List ℕ × S)) (k : List ℕ) (w : S) (more : List (List ℕ × S)) → state_at k es ≡ None → state_at k (es ++ (k, w) ∷ more) ≡ Some w
  there es k w more none = state_at-append k es ((k, w) ∷ more) ∙ ap (λ o. either o (state_at k ((k, w) ∷ more))) none ∙ ap (λ b. cond b (Some w) (state_at k more)) (key_itself k)

-- what follows from an answer follows where it comes
pub on_ok : {A E P Q : Type 0} (r : Result A E) → (P → Q) → OnOk r P → OnOk r Q
on_ok (Ok x) f h = f h
on_ok (Err e) f h = h

module _ {S I : Type 0} (stands : S → List I → Type 0) where
  -- no groups stand for no inputs
  pub group_none : GroupsStand stands [] []
  unfolding IsStrictlySortedBy
  group_none = record { rising = tt; each = λ k. refl }

  -- ---- one more input
  -- at its key, the state after takes it; where there was none, it stands for it alone
  abbrev pub TakesWhere : Option S → I → S → Type 0
  TakesWhere None input after = stands after (input ∷ [])
  TakesWhere (Some before) input after = TakesNext stands before input after

  next_where : (before : Option S) (input : I) (after : S) (xs : List I) → TakesWhere before input after → StandsWhere stands before xs → StandsWhere stands (Some after) (xs ++ input ∷ [])
  next_where None input after xs t h = (some_right xs (input ∷ []) (one input), subst (λ ys. stands after (ys ++ input ∷ [])) (sym h) t)
  next_where (Some s) input after xs t h = (some_right xs (input ∷ []) (one input), t xs h.1)

  next_each : (m : List (List ℕ × S)) (k q : List ℕ) (input : I) (after : S) (xs : List (List ℕ × I)) → TakesWhere (state_at k m) input after → StandsWhere stands (state_at q m) (inputs_under q xs) → (b : Bool) → bytes_eq k q ≡ b → StandsWhere stands (cond b (Some after) (state_at q m)) (inputs_under q xs ++ cond b (input ∷ []) [])
  next_each m k q input after xs t h true e =
      next_where (state_at q m) input after (inputs_under q xs) (subst (λ z. TakesWhere (state_at z m) input after) (same_key k q e) t) h
  next_each m k q input after xs t h false e = subst (λ ys. StandsWhere stands (state_at q m) ys) (sym (append-nil (inputs_under q xs))) h

  pub group_next : (m n : List (List ℕ × S)) (k : List ℕ) (input : I) (after : S) → KeysRise n → ((q : List ℕ) → state_at q n ≡ cond (bytes_eq k q) (Some after) (state_at q m)) → TakesWhere (state_at k m) input after → TakesNext (GroupsStand stands) m (k, input) n
  group_next m n k input after rising at t = λ xs h. record {
    rising = rising;
    each = λ q.
        let inner = inputs_under-append q xs ((k, input) ∷ []) ∙ ap (λ ys. inputs_under q xs ++ ys) (inputs_under-one q k input (bytes_eq k q) (flipped k q (bytes_eq k q) refl)) in
        subst (λ ys. StandsWhere stands (state_at q n) ys) (sym inner)
        (subst (λ o. StandsWhere stands o (inputs_under q xs ++ cond (bytes_eq k q) (input ∷ []) [])) (sym (at q))
        (next_each m k q input after xs t (h.each q) (bytes_eq k q) refl));
  }

  -- a state that stands for few enough inputs as a whole does so at each key
  pub may_take : (groups : List (List ℕ × S)) (k : List ℕ) (state : S) → lookup (is_at (slice_cmp nat_cmp k)) groups ≡ Some state → MayTake (GroupsStand stands) groups → MayTake stands state
  may_take groups k state e (xs, h, lt) =
      let here : StandsWhere stands (Some state) (inputs_under k xs) = subst (λ o. StandsWhere stands o (inputs_under k xs)) (found k groups ∙ e) (h.each k) in
      let shorter = length-inputs_under k xs in
      (inputs_under k xs, here.1, omega (arith, shorter, lt))

  -- ---- two lists together
  together_where : (before after whole : Option S) (xs ys : List I) → TogetherWhere stands before after whole → StandsWhere stands before xs → StandsWhere stands after ys → StandsWhere stands whole (xs ++ ys)
  together_where None after whole xs ys t g h = subst (λ o. StandsWhere stands o (xs ++ ys)) (sym t) (subst (λ zs. StandsWhere stands after (zs ++ ys)) (sym g) h)
  together_where (Some a) None whole xs ys t g h =
      subst (λ o. StandsWhere stands o (xs ++ ys)) (sym t)
      (subst (λ zs. StandsWhere stands (Some a) (xs ++ zs)) (sym h) (subst (λ zs. StandsWhere stands (Some a) zs) (sym (append-nil xs)) g))
  together_where (Some a) (Some b) whole xs ys t g h =
      subst (λ o. StandsWhere stands o (xs ++ ys)) (sym t.1) (some_left xs ys g.0, t.2 xs ys g.1 h.1)

  pub groups_together : (ls rs ws : List (List ℕ × S)) → GroupsTogether stands ls rs ws → TakesTogether (GroupsStand stands) ls rs ws
  groups_together ls rs ws t = λ xs ys g h. record {
    rising = t.rising;
    each = λ q.
        subst (λ zs. StandsWhere stands (state_at q ws) zs) (sym (inputs_under-append q xs ys))
        (together_where (state_at q ls) (state_at q rs) (state_at q ws) (inputs_under q xs) (inputs_under q ys) (t.each q) (g.each q) (h.each q));
  }

  -- where nothing comes after, all stays
  nothing : (o : Option S) → TogetherWhere stands o None o
  nothing None = refl
  nothing (Some s) = refl

  -- one group put after others: at its key as `t` says, elsewhere as before
  put_each : (m : List (List ℕ × S)) (k q : List ℕ) (w after : S) → TogetherWhere stands (state_at k m) (Some w) (Some after) → (b : Bool) → bytes_eq k q ≡ b → TogetherWhere stands (state_at q m) (cond b (Some w) None) (cond b (Some after) (state_at q m))
  put_each m k q w after t true e = subst (λ z. TogetherWhere stands (state_at z m) (Some w) (Some after)) (same_key k q e) t
  put_each m k q w after t false e = nothing (state_at q m)

  pub put_together : (m n : List (List ℕ × S)) (k : List ℕ) (w after : S) → KeysRise n → ((q : List ℕ) → state_at q n ≡ cond (bytes_eq k q) (Some after) (state_at q m)) → TogetherWhere stands (state_at k m) (Some w) (Some after) → GroupsTogether stands m ((k, w) ∷ []) n
  put_together m n k w after rising at t = record {
    rising = rising;
    each = λ q.
        subst (λ o. TogetherWhere stands (state_at q m) (state_at q ((k, w) ∷ [])) o) (sym (at q))
        (subst (λ b. TogetherWhere stands (state_at q m) (cond b (Some w) None) (cond (bytes_eq k q) (Some after) (state_at q m))) (sym (flipped k q (bytes_eq k q) refl))
        (put_each m k q w after t (bytes_eq k q) refl));
  }

  -- ---- the right's groups in turn
  same_where : (before whole : Option S) → TogetherWhere stands before None whole → whole ≡ before
  same_where None whole t = t
  same_where (Some s) whole t = t

  next_group : (before taken next half whole : Option S) → (taken ≡ None) ⊎ (next ≡ None) → TogetherWhere stands before taken half → TogetherWhere stands half next whole → TogetherWhere stands before (either taken next) whole
  next_group before taken next half whole (inl e) t u =
      subst (λ o. TogetherWhere stands before (either o next) whole) (sym e)
      (subst (λ o. TogetherWhere stands o next whole) (same_where before half (subst (λ o. TogetherWhere stands before o half) e t)) u)
  next_group before taken next half whole (inr e) t u =
      subst (λ o. TogetherWhere stands before (either taken o) whole) (sym e)
      (subst (λ o. TogetherWhere stands before o whole) (sym (either-None taken))
      (subst (λ o. TogetherWhere stands before taken o) (sym (same_where half whole (subst (λ o. TogetherWhere stands half o whole) e u))) t))

  apart_or_new : (es : List (List ℕ × S)) (k q : List ℕ) (w : S) → state_at k es ≡ None → (b : Bool) → bytes_eq q k ≡ b → (state_at q es ≡ None) ⊎ (cond b (Some w) None ≡ None)
  apart_or_new es k q w none true e = inl (subst (λ z. state_at z es ≡ None) (sym (same_key q k e)) none)
  apart_or_new es k q w none false e = inr refl

  pub put_next : (ls es hs ws : List (List ℕ × S)) (k : List ℕ) (w : S) → state_at k es ≡ None → GroupsTogether stands ls es hs → GroupsTogether stands hs ((k, w) ∷ []) ws → GroupsTogether stands ls (es ++ (k, w) ∷ []) ws
  put_next ls es hs ws k w none t u = record {
    rising = u.rising;
    each = λ q.
        subst (λ o. TogetherWhere stands (state_at q ls) o (state_at q ws)) (sym (state_at-append q es ((k, w) ∷ [])))
        (next_group (state_at q ls) (state_at q es) (state_at q ((k, w) ∷ [])) (state_at q hs) (state_at q ws) (apart_or_new es k q w none (bytes_eq q k) refl) (t.each q) (u.each q));
  }

  pub put_none : (ls rs : List (List ℕ × S)) → MayMerge (GroupsStand stands) ls rs → GroupsTogether stands ls [] ls
  put_none ls rs (xs, ys, g, h, le) = record { rising = g.rising; each = λ q. nothing (state_at q ls) }

  -- before no groups all stays
  pub no_left : (ls rs : List (List ℕ × S)) → ls ≡ [] → MayMerge (GroupsStand stands) ls rs → TakesTogether (GroupsStand stands) ls rs rs
  no_left ls rs e (xs, ys, g, h, le) = groups_together ls rs rs (rw e (record { rising = h.rising; each = λ q. refl }))

  into_where : (before : Option S) (after : S) (xs ys : List I) → StandsWhere stands before xs → stands after ys → length xs + length ys ≤ 2 ^ 62 → MayMergeInto stands before after
  into_where None after xs ys g h le = tt
  into_where (Some s) after xs ys g h le = (xs, ys, g.1, h, omega (arith, length-append xs ys, le))

  may_merge_into : (ls rs : List (List ℕ × S)) (k : List ℕ) (after : S) → state_at k rs ≡ Some after → MayMerge (GroupsStand stands) ls rs → MayMergeInto stands (state_at k ls) after
  may_merge_into ls rs k after e (xs, ys, g, h, le) =
      let here : StandsWhere stands (Some after) (inputs_under k ys) = subst (λ o. StandsWhere stands o (inputs_under k ys)) e (h.each k) in
      into_where (state_at k ls) after (inputs_under k xs) (inputs_under k ys) (g.each k) here.1
      (omega (arith, length-inputs_under k xs, length-inputs_under k ys, length-append xs ys, le))

  -- the next of the right's groups may be put
  pub may_put : (ls es hs rs : List (List ℕ × S)) (k : List ℕ) (w : S) → state_at k es ≡ None → state_at k rs ≡ Some w → MayMerge (GroupsStand stands) ls rs → GroupsTogether stands ls es hs → MayMergeInto stands (state_at k hs) w
  may_put ls es hs rs k w none e may t =
      subst (λ o. MayMergeInto stands o w) (sym (same_where (state_at k ls) (state_at k hs) (subst (λ o. TogetherWhere stands (state_at k ls) o (state_at k hs)) none (t.each k))))
      (may_merge_into ls rs k w e may)
