-- Each kind of step keeps the stop word's rule, and what the rule tells of one seat.
use Rattle.std.proofs.Common.{◌≡◌, ◌≢◌, ℕ, ◌<◌, ◌≤◌, ◌⊎◌, min, List, [], ◌∷◌, ◌++◌, set, sym, refl, ap, ◌∙◌, subst, inl, inr, ⊎_elim, arith}
use mathlib.Core.Option.{none, some, some-injective}
use lib.ListN.{get_elem?}
use Rattle.std.specs.List.{All, Contains, flat_map, slice_index, slice_set}
use Rattle.std.specs.List.Sorted.{IsPermutation}
use Rattle.std.proofs.lemmas.List.{append-nil}
use Rattle.std.proofs.lemmas.List.Elements.{All-nil, All-cons, All-append, All-set, All-weaker, Contains-append_left, Contains-push}
use Rattle.std.proofs.lemmas.Bool.{cases_lt}
use Rattle.std.proofs.lemmas.List.Sorted.{All-permutation, Contains-permutation}
use Rattle.std.proofs.lemmas.List.Sums.{sum_by_push}
use Rattle.atomic_table.specs.Table.{State, Me, Act, keeps, Valid, step, homes_after, carried_after, Allows, Splits, Joins}
use Rattle.atomic_table.proofs.Lists.{set_here, set_again, set_else}
use Rattle.stop_word.specs.declared.views.StopView.{StopView}
use Rattle.stop_word.specs.Numbers.{no_stop, whole_weight, least_of, AreAmong, IsAtMost}
use Rattle.stop_word.specs.Rule.{all_reported, all_seen, IsIdleEmpty, StopRule, KeepsRule}
use Rattle.stop_word.specs.Steps.{view_loaded, view_reported, left_view, right_view, both_view, spent_view}
use Rattle.stop_word.specs.Tells.{IsTold, IsFound, loads, reports, looks}
use Rattle.stop_word.proofs.Gathered.{All-front, in_list, All-at, sum_set, sum_at, apart, grown, forked, joined, alone}
use Rattle.stop_word.proofs.Least.{is_least}

abbrev reported_of : StopView → List ℕ
reported_of v = v.reported

abbrev seen_of : StopView → List ℕ
seen_of v = v.seen

abbrev weight_of : StopView → ℕ
weight_of v = v.weight

abbrev Stands : ℕ → List ℕ → Type 0
Stands word places = (word ≡ no_stop) ⊎ Contains places word

stands_in : (word : ℕ) (xs ys : List ℕ) → ((n : ℕ) → Contains xs n → Contains ys n) → Stands word xs → Stands word ys
stands_in word xs ys more = ⊎_elim (λ is. inl is) (λ there. inr (more word there))

among_in : (xs ys numbers : List ℕ) → ((n : ℕ) → Contains xs n → Contains ys n) → AreAmong xs numbers → AreAmong ys numbers
among_in xs ys numbers more = All-weaker (λ n. Stands n xs) (λ n. Stands n ys) (λ n h. stands_in n xs ys more h) numbers

least_stands : (word place : ℕ) (places : List ℕ) → Stands word places → Contains places place → Stands (min word place) places
least_stands word place places old new =
    ⊎_elim (λ (less : place < word). let is : place ≡ min word place = omega arith in inr (subst (λ n. Contains places n) is new))
    (λ (more : word ≤ place). let is : word ≡ min word place = omega arith in subst (λ n. Stands n places) is old) (cases_lt place word)

-- what the rule tells of one view
module _ (word : ℕ) (views : List StopView) (id : ℕ) (v : StopView) (r : StopRule word views) (at : get_elem? views id ≡ some v) where
  idle_reported : All (λ u. weight_of u ≡ 0 → reported_of u ≡ []) views
  idle_reported = All-weaker IsIdleEmpty (λ u. weight_of u ≡ 0 → reported_of u ≡ []) (λ u h none. (h none).0) views r.idle

  idle_seen : All (λ u. weight_of u ≡ 0 → seen_of u ≡ []) views
  idle_seen = All-weaker IsIdleEmpty (λ u. weight_of u ≡ 0 → seen_of u ≡ []) (λ u h none. (h none).1) views r.idle

  pub all_is_own : v.weight ≡ whole_weight → (all_reported views ≡ v.reported) × (all_seen views ≡ v.seen)
  all_is_own whole = (
    alone reported_of weight_of views id v at (r.weights ∙ sym whole) idle_reported,
    alone seen_of weight_of views id v at (r.weights ∙ sym whole) idle_seen,
  )

  pub told : IsTold v
  told = record {
    most = (let most = sum_at weight_of views id v at in let sum = r.weights in omega arith);
    known = λ whole. subst (λ (p : List ℕ × List ℕ). AreAmong p.0 p.1) (λ k. ((all_is_own whole).0 k, (all_is_own whole).1 k)) r.known;
  }

  own : (f : StopView → List ℕ) → f spent_view ≡ [] → (P : ℕ → Type 0) → All P (flat_map f views) → All P (f v)
  own f nothing P a = All-front P (f v) _ (All-permutation P _ _ (apart f views id v spent_view nothing at) a)

  pub found : word ≤ no_stop → IsFound v word
  found most = record {
    least_reported = own reported_of refl (λ n. word ≤ n) r.least_reported;
    least_seen = own seen_of refl (λ n. word ≤ n) r.least_seen;
    exact = λ whole. subst (λ places. word ≡ least_of places) (all_is_own whole).0 (is_least word (all_reported views) most r.stands r.least_reported);
  }

  -- the seat reports the places xs and sees the numbers ys, and the word falls to word'
  pub moved : (word' : ℕ) (w : StopView) (xs ys : List ℕ) → 0 < v.weight → w.weight ≡ v.weight → w.reported ≡ v.reported ++ xs → w.seen ≡ v.seen ++ ys
      → word' ≤ word → IsAtMost word' xs → IsAtMost word' ys → Stands word' (all_reported views ++ xs) → AreAmong (all_reported views ++ xs) ys
      → StopRule word' (set views id w)
  moved word' w xs ys some_weight same more more' less below below' stands among =
      let places : List ℕ = all_reported views ++ xs in
      let p : IsPermutation places (all_reported (set views id w)) = grown reported_of views id v w spent_view xs refl at more in
      let q : IsPermutation (all_seen views ++ ys) (all_seen (set views id w)) = grown seen_of views id v w spent_view ys refl at more' in
      let there : (n : ℕ) → Contains places n → Contains (all_reported (set views id w)) n = λ n c. Contains-permutation _ _ n p c in
      let lower : (l : List ℕ) → IsAtMost word l → IsAtMost word' l = λ l a. All-weaker (λ n. word ≤ n) (λ n. word' ≤ n) (λ n h. omega arith) l a in
      let old : AreAmong places (all_seen views) = among_in _ _ _ (λ n c. Contains-append_left (all_reported views) xs n c) r.known in
      record {
        stands = stands_in word' _ _ there stands;
        least_reported = All-permutation (λ n. word' ≤ n) _ _ p (All-append (λ n. word' ≤ n) (all_reported views) xs (lower _ r.least_reported) below);
        least_seen = All-permutation (λ n. word' ≤ n) _ _ q (All-append (λ n. word' ≤ n) (all_seen views) ys (lower _ r.least_seen) below');
        known = among_in _ _ _ there (All-permutation (λ n. Stands n places) _ _ q (All-append (λ n. Stands n places) (all_seen views) ys old among));
        weights = (let s = sum_set weight_of views id v w at in let all = r.weights in omega arith);
        idle = All-set IsIdleEmpty views id w (λ none. absurd (omega arith)) r.idle;
      }

  one : (n m : ℕ) → m ≤ n → IsAtMost m (n ∷ [])
  one n m le = All-cons (λ k. m ≤ k) n [] le (All-nil (λ k. m ≤ k))

  pub keeps_loaded : 0 < v.weight → StopRule word (set views id (view_loaded v word))
  keeps_loaded some_weight =
      let P : ℕ → Type 0 = λ n. Stands n (all_reported views ++ []) in
      let stands : P word = stands_in word _ _ (λ n c. Contains-append_left (all_reported views) [] n c) r.stands in
      moved word (view_loaded v word) [] (word ∷ []) some_weight refl (sym (append-nil v.reported)) refl (omega arith) (All-nil (λ n. word ≤ n)) (one word word (omega arith)) stands
      (All-cons P word [] stands (All-nil P))

  pub keeps_reported : (place : ℕ) → 0 < v.weight → StopRule (min word place) (set views id (view_reported v place word))
  keeps_reported place some_weight =
      let places : List ℕ = all_reported views ++ place ∷ [] in
      let old : Stands word places = stands_in word _ _ (λ n c. Contains-append_left (all_reported views) (place ∷ []) n c) r.stands in
      let new : Contains places place = Contains-push (all_reported views) place in
      let stands : Stands (min word place) places = least_stands word place places old new in
      moved (min word place) (view_reported v place word) (place ∷ []) (word ∷ []) some_weight refl refl refl (omega arith) (one place (min word place) (omega arith)) (one word (min word place) (omega arith)) stands
      (All-cons (λ n. Stands n places) word [] old (All-nil (λ n. Stands n places)))

  pub keeps_split : StopRule word (set views id (left_view v) ++ right_view v ∷ [])
  keeps_split =
      let p : all_reported (set views id (left_view v) ++ right_view v ∷ []) ≡ all_reported views = forked reported_of views id v (left_view v) (right_view v) at refl refl in
      let q : all_seen (set views id (left_view v) ++ right_view v ∷ []) ≡ all_seen views = forked seen_of views id v (left_view v) (right_view v) at refl refl in
      record {
        stands = rw p r.stands;
        least_reported = rw p r.least_reported;
        least_seen = rw q r.least_seen;
        known = rw (p, q) r.known;
        weights = (let s = sum_set weight_of views id v (left_view v) at in let all = r.weights in
            omega (arith, sum_by_push weight_of (set views id (left_view v)) (right_view v)));
        idle = All-append IsIdleEmpty (set views id (left_view v)) (right_view v ∷ [])
            (All-set IsIdleEmpty views id (left_view v) (λ none. All-at IsIdleEmpty views id v at r.idle (omega arith)) r.idle)
            (All-cons IsIdleEmpty (right_view v) [] (λ _. (refl, refl)) (All-nil IsIdleEmpty));
      }

  pub keeps_joined : (other : ℕ) (w : StopView) → other ≢ id → get_elem? (set views id (both_view v w)) other ≡ some w → StopRule word (set (set views id (both_view v w)) other spent_view)
  keeps_joined other w apart_from at' =
      let both : StopView = both_view v w in
      let p = joined reported_of views id other v w both spent_view refl at apart_from at' refl in
      let q = joined seen_of views id other v w both spent_view refl at apart_from at' refl in
      let there : (n : ℕ) → Contains (all_reported views) n → Contains (all_reported (set (set views id both) other spent_view)) n = λ n c. Contains-permutation _ _ n p c in
      let own_idle : IsIdleEmpty v = All-at IsIdleEmpty views id v at r.idle in
      let other_idle : IsIdleEmpty w = All-at IsIdleEmpty views other w (sym (set_else views id other both apart_from) ∙ at') r.idle in
      let both_idle : IsIdleEmpty both = λ none.
      let a = own_idle (omega arith) in
      let b = other_idle (omega arith) in
      (ap (λ ys. ys ++ w.reported) a.0 ∙ b.0, ap (λ ys. ys ++ w.seen) a.1 ∙ b.1) in
      record {
        stands = stands_in word _ _ there r.stands;
        least_reported = All-permutation (λ n. word ≤ n) _ _ p r.least_reported;
        least_seen = All-permutation (λ n. word ≤ n) _ _ q r.least_seen;
        known = among_in _ _ _ there (All-permutation (λ n. Stands n (all_reported views)) _ _ q r.known);
        weights = (let s = sum_set weight_of views id v both at in
            let t = sum_set weight_of (set views id both) other w spent_view at' in
            let all = r.weights in
            omega arith);
        idle = All-set IsIdleEmpty (set views id both) other spent_view (λ _. (refl, refl)) (All-set IsIdleEmpty views id both both_idle r.idle);
      }

abbrev Sat : Type 0
Sat = Me (Unit {0}) StopView

abbrev St : Type 0
St = State (Unit {0}) StopView

-- what a step on the one word may do, where the words are these
abbrev Goes : (ℕ → ℕ) → (ℕ → Sat → Type 0) → St → ℕ → Sat → List ℕ → Type 0
Goes f then s id me words =
    (w : StopView) × (a : Act (Unit {0})) × Valid s.homes me.1 a
    × KeepsRule (record { words = slice_set words 0 (f (slice_index words 0)); homes = homes_after s.homes me.1 a; views = set s.views id w })
    × then (slice_index words 0) (w, carried_after me.1 a)

-- the view that a step leaves stands at its seat
after : (views : List StopView) (id : ℕ) (v w : StopView) → get_elem? views id ≡ some v → get_elem? (set views id w) id ≡ some w
after views id v w at = set_here views id w (in_list views id v at)

module _ (slots id : ℕ) (me : Sat) where
  pub may_load : 0 < me.0.weight → Allows KeepsRule slots id me 0 (λ n. n) (loads (step slots 0 0 0 none) me)
  may_load some_weight s kept _ at small =
      let word : ℕ = kept.0 in
      let most : word ≤ no_stop = (let fits : word < 18446744073709551616 = subst (λ ws. slice_index ws 0 < 18446744073709551616) kept.1 small in omega arith) in
      let w : StopView = view_loaded me.0 word in
      let rule : StopRule word (set s.views id w) = keeps_loaded word s.views id me.0 kept.2 at some_weight in
      subst (Goes (λ n. n) (loads (step slots 0 0 0 none) me) s id me) (sym kept.1)
      (w, keeps, tt, (word, refl, rule), (refl, found word s.views id me.0 kept.2 at most, told word (set s.views id w) id w rule (after s.views id me.0 w at)))

  pub may_report : (place : ℕ) → 0 < me.0.weight → Allows KeepsRule slots id me 0 (λ n. min n place) (reports (step slots 0 place 0 none) me)
  may_report place some_weight s kept _ at small =
      let word : ℕ = kept.0 in
      let most : word ≤ no_stop = (let fits : word < 18446744073709551616 = subst (λ ws. slice_index ws 0 < 18446744073709551616) kept.1 small in omega arith) in
      let w : StopView = view_reported me.0 place word in
      let rule : StopRule (min word place) (set s.views id w) = keeps_reported word s.views id me.0 kept.2 at place some_weight in
      subst (Goes (λ n. min n place) (reports (step slots 0 place 0 none) me) s id me) (sym kept.1)
      (w, keeps, tt, (min word place, refl, rule), (refl, found word s.views id me.0 kept.2 at most, told (min word place) (set s.views id w) id w rule (after s.views id me.0 w at)))

  pub may_look : Allows KeepsRule slots id me 0 (λ n. n) (looks (step slots 0 0 0 none) me)
  may_look s kept _ at small =
      let word : ℕ = kept.0 in
      let rule : StopRule word (set s.views id me.0) = subst (StopRule word) (sym (set_again s.views id me.0 at)) kept.2 in
      subst (Goes (λ n. n) (looks (step slots 0 0 0 none) me) s id me) (sym kept.1) (me.0, keeps, tt, (word, refl, rule), (refl, told word s.views id me.0 kept.2 at))

pub may_split : (id : ℕ) (v : StopView) → Splits KeepsRule id v (left_view v) (right_view v)
may_split id v s kept at = (kept.0, kept.1, keeps_split kept.0 s.views id v kept.2 at)

pub may_join : (id : ℕ) (v : StopView) (other : ℕ) (w : StopView) → Joins KeepsRule id v other w (both_view v w) spent_view
may_join id v other w s kept at apart_from at' = (kept.0, kept.1, keeps_joined kept.0 s.views id v kept.2 at other w apart_from at')

-- the word at the end, where the seat has the whole weight
pub closes : (s : St) (id : ℕ) (v : StopView) (words : List ℕ) (n : ℕ) → KeepsRule s → get_elem? s.views id ≡ some v → s.words ≡ words → get_elem? words 0 ≡ some n
    → n ≤ no_stop → v.weight ≡ whole_weight → n ≡ least_of v.reported
closes s id v words n kept at same here most whole =
    let is : kept.0 ≡ n = some-injective kept.0 n (ap (λ ws. get_elem? ws 0) (sym kept.1 ∙ same) ∙ here) in
    (found n s.views id v (subst (λ k. StopRule k s.views) is kept.2) at most).exact whole
