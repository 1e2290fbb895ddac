-- One step of a legal loop from two stores that agree but for the scratches that lines assign: it does the same.
use Rattle.std.proofs.Common.{◌≡◌, ℕ, ◌*◌, Bool, true, false, cond, List, [], ◌∷◌, ◌++◌, length, map, Option, Some, None, Result, Ok, Err, refl, ap, sym, ◌∙◌, subst, ℤ, pos}
use Rattle.std.specs.Prelude.{not, ◌&&◌, ◌||◌, flat_map}
use Rattle.std.specs.Str.{bytes_eq}
use Rattle.std.specs.FinMap.{get, insert}
use Rattle.std.proofs.lemmas.List.Folds.{list_any-append}
use Rattle.loop_data.specs.declared.value.Value.{Value}
use Rattle.loop_data.specs.declared.value.Value.TheVariants.{Int}
use Rattle.loop_data.specs.declared.expr.Expr.{Expr}
use Rattle.loop_data.specs.declared.expr.RangeExpr.{RangeExpr}
use Rattle.loop_data.specs.declared.head.Inner.{Inner}
use Rattle.loop_grammar.specs.declared.tree.ProgramTree.{ProgramTree}
use Rattle.loop_values.specs.declared.stop.EvalStop.{EvalStop}
use Rattle.loop_values.specs.Bindings.{Bindings, Names, place_name}
use Rattle.loop_values.specs.InnerItems.{inner_items, items_or_fault}
use Rattle.loop_values.specs.NamesIn.{SameAt, names_in, names_in_step, names_read}
use Rattle.loop_values.specs.Stops.{fault_number}
use Rattle.loop_values.proofs.EntryLemmas.{same_self, same_text}
use Rattle.loop_values.proofs.RangeLemmas.{range_items_of, range_settled}
use Rattle.legality_rules.specs.Lines.{range_bounds, range_bounds_with}
use Rattle.legality_rules.specs.Offences.{IsLegal}
use Rattle.legality_rules.specs.Paths.{paths_of}
use Rattle.legality_rules.specs.Rules.{is_assigned, outline_of}
use Rattle.legality_rules.specs.Scopes.{is_in}
use Rattle.loop_meaning.specs.declared.steps.BodyRun.{BodyRun}
use Rattle.loop_meaning.specs.declared.steps.Flow.TheVariants.{Going, Faulted}
use Rattle.loop_meaning.specs.Statements.{Action, in_turn, naming, while_going}
use Rattle.loop_meaning.specs.Steps.{body_run, body_step, end_of, first_run, for_each, for_item, inner_runs, keeping_the_store, names_for, next_run, with_items}
use Rattle.loop_meaning.specs.Stores.{keeping, stored_names, with_found}
use Rattle.carries_nothing.specs.Alike.{is_scratch}
use Rattle.carries_nothing.specs.Bodies.{SameRanges, is_named, is_unseen}
use Rattle.carries_nothing.specs.Laws.{BodiesAreSame, RangesAreSame}
use Rattle.carries_nothing.proofs.LegalLemmas.{NoneRead, heads_unread, never_reached, unnamed_heads, unnamed_unread}
use Rattle.carries_nothing.proofs.ReadNames.{asked}
use Rattle.carries_nothing.specs.Blocks.{Agree, Doubt, IsClear, IsDoubt, StandAlike}
use Rattle.carries_nothing.proofs.SameBlocks.{all_statements_fit, ends_same, while_same}
use Rattle.carries_nothing.proofs.SameNames.{IsSure, first_false, get_inserted, insert_agrees, pattern_agrees, same_at, second_false}

-- ---- the names of the store alone

abbrev pub or_kept : Option Value → Option Value → Option Value
or_kept (Some v) y = Some v
or_kept None y = y

cond_self : (b : Bool) (y : Option Value) → y ≡ cond b y y
cond_self true y = refl
cond_self false y = refl

pub found_gives : (m n : List ℕ) (x : Option Value) (env : Bindings) → get (with_found env m x) n ≡ cond (bytes_eq n m) (or_kept x (get env n)) (get env n)
found_gives m n (Some v) env = get_inserted env m n v
found_gives m n None env = cond_self (bytes_eq n m) (get env n)

cond_alike : (b : Bool) (x y p q : Option Value) → p ≡ q → (b ≡ true → x ≡ y) → cond b (or_kept x p) p ≡ cond b (or_kept y q) q
cond_alike true x y p q same h = ap (λ z. or_kept z p) (h refl) ∙ ap (or_kept y) same
cond_alike false x y p q same h = same

found_agree : (may : Doubt) (m : List ℕ) (e f a d : Bindings) → Agree may e f → Agree may a d → Agree may (with_found e m (get a m)) (with_found f m (get d m))
found_agree may m e f a d before after n sure =
    found_gives m n (get a m) e
    ∙ cond_alike (bytes_eq n m) (get a m) (get d m) (get e n) (get f n) (before n sure) (λ same. after m (ap may (sym (same_text n m same)) ∙ sure))
    ∙ sym (found_gives m n (get d m) f)

pub keeping_agrees : (may : Doubt) (ns : List (List ℕ)) (e f a d : Bindings) → Agree may e f → Agree may a d → Agree may (keeping ns e a) (keeping ns f d)
keeping_agrees may [] e f a d before after = before
keeping_agrees may (m ∷ ms) e f a d before after =
    keeping_agrees may ms (with_found e m (get a m)) (with_found f m (get d m)) a d (found_agree may m e f a d before after) after

-- other names are as before
pub keeping_others : (ns : List (List ℕ)) (n : List ℕ) (e a : Bindings) → is_in ns n ≡ false → get (keeping ns e a) n ≡ get e n
keeping_others [] n e a isnt = refl
keeping_others (m ∷ ms) n e a isnt =
    keeping_others ms n (with_found e m (get a m)) a (second_false (bytes_eq n m) (is_in ms n) isnt)
    ∙ found_gives m n (get a m) e
    ∙ ap (λ b. cond b (or_kept (get a m) (get e n)) (get e n)) (first_false (bytes_eq n m) (is_in ms n) isnt)

-- ---- an action that keeps two body runs alike

-- where the body runs go on, but for names that may differ at all
pub record Stays (may : Doubt) (action : Action) : Type 0 where
  pub same : (a b : BodyRun) → StandAlike may may a b → a.flow ≡ Going → StandAlike may may (action a) (action b)

-- several, one after another
each_stays : {X : Type 0} (may : Doubt) (one : X → Action) → ((x : X) → Stays may (one x)) → (xs : List X) (a b : BodyRun) → StandAlike may may a b → StandAlike may may (in_turn (map one xs) a) (in_turn (map one xs) b)
each_stays may one h [] a b s = s
each_stays may one h (x ∷ xs) a b s =
    each_stays may one h xs (while_going (one x) a) (while_going (one x) b) (while_same may may may (one x) a b s.doubt s (λ on. (h x).same a b s on))

-- ---- inner heads

front : (may : Doubt) (xs ys : List (List ℕ)) → IsSure may (xs ++ ys) → IsSure may xs
front may xs ys sure n h = first_false (is_in xs n) (is_in ys n) (sym (list_any-append (bytes_eq n) xs ys) ∙ sure n h)

back : (may : Doubt) (xs ys : List (List ℕ)) → IsSure may (xs ++ ys) → IsSure may ys
back may xs ys sure n h = second_false (is_in xs n) (is_in ys n) (sym (list_any-append (bytes_eq n) xs ys) ∙ sure n h)

both : (f g : Names) (xs ys : List (List ℕ)) → SameAt f g xs → SameAt f g ys → SameAt f g (xs ++ ys)
both f g [] ys h k = k
both f g (x ∷ xs) ys h k = (h.0, both f g xs ys h.1 k)

expr_same : (may : Doubt) (x : Expr) (e f : Bindings) → may place_name ≡ false → Agree may e f → IsSure may (names_read x) → SameAt (get e) (get f) (names_in x)
expr_same may x e f placed agree sure = asked x (get e) (get f) (agree place_name placed) (same_at may (names_read x) e f agree sure)

bounds_same : (may : Doubt) (first : Expr) (step : Option Expr) (last : Expr) (e f : Bindings) → may place_name ≡ false → Agree may e f → IsSure may (flat_map names_read (range_bounds_with first step last)) →
    SameAt (get e) (get f) (names_in first ++ names_in_step step ++ names_in last)
bounds_same may first (Some step) last e f placed agree sure =
    let rest = back may (names_read first) _ sure in
    both (get e) (get f) (names_in first ++ names_in step) (names_in last)
    (both (get e) (get f) (names_in first) (names_in step) (expr_same may first e f placed agree (front may (names_read first) _ sure)) (expr_same may step e f placed agree (front may (names_read step) _ rest)))
    (expr_same may last e f placed agree (front may (names_read last) [] (back may (names_read step) _ rest)))
bounds_same may first None last e f placed agree sure =
    both (get e) (get f) (names_in first ++ []) (names_in last) (both (get e) (get f) (names_in first) [] (expr_same may first e f placed agree (front may (names_read first) _ sure)) tt)
    (expr_same may last e f placed agree (front may (names_read last) [] (back may (names_read first) _ sure)))

items_same : (may : Doubt) (r : RangeExpr) (e f : Bindings) (width : ℕ) → may place_name ≡ false → Agree may e f → IsSure may (flat_map names_read (range_bounds r)) →
    inner_items r (get e) width ≡ inner_items r (get f) width
items_same may r e f width placed agree sure =
    sym (range_items_of r (get e) width)
    ∙ ap items_or_fault (range_settled r (get e) (get f) width (bounds_same may r.first r.step r.last e f placed agree sure))
    ∙ range_items_of r (get f) width

faulted_isnt : (line kind : ℕ) → Faulted line kind ≡ Going → ⊥
faulted_isnt line kind e = absurd (cc)

with_items_same : (may : Doubt) (line : ℕ) (r q : Result (List ℤ) EvalStop) (next : List ℤ → Action) (a b : BodyRun) → r ≡ q → StandAlike may may a b →
    ((xs : List ℤ) → StandAlike may may (next xs a) (next xs b)) → StandAlike may may (with_items line r next a) (with_items line q next b)
with_items_same may line r q next a b is s h = subst (λ z. StandAlike may may (with_items line r next a) (with_items line z next b)) is (from r)
  where
    from : (z : Result (List ℤ) EvalStop) → StandAlike may may (with_items line z next a) (with_items line z next b)
    from (Ok xs) = h xs
    from (Err stop) = ends_same may may may a b (Faulted line (fault_number stop)) s.doubt (faulted_isnt line (fault_number stop)) s

-- the body runs under an inner head keep of their names those of the store
kept_stays : (program : ProgramTree) (may : Doubt) (action : Action) → Stays may action → Stays may (keeping_the_store program action)
kept_stays program may action stays = record {
  same = λ a b s on.
      let t = stays.same a b s on in
      let names : Agree may (keeping (stored_names program) a.names (action a).names) (keeping (stored_names program) b.names (action b).names) =
      keeping_agrees may (stored_names program) a.names b.names (action a).names (action b).names s.names t.names in
      record { doubt = t.doubt; emitted = t.emitted; flow = t.flow; names = names; surely = λ _. names };
}

named_stays : (may : Doubt) (name : List ℕ) (v : Value) (action : Action) → Stays may action → Stays may (λ run. action (naming name v run))
named_stays may name v action stays = record {
  same = λ a b s on.
      let names : Agree may (insert a.names name v) (insert b.names name v) = insert_agrees may a.names b.names name v s.names in
      let t : StandAlike may may (naming name v a) (naming name v b) = record { doubt = s.doubt; emitted = s.emitted; flow = s.flow; names = names; surely = λ _. names } in
      stays.same (naming name v a) (naming name v b) t on;
}

-- ---- the body

and_not : (a b : Bool) → b ≡ true → (a && not b) ≡ false
and_not true true e = refl
and_not true false e = absurd (cc)
and_not false b e = refl

module _ (program : ProgramTree) (legal : IsLegal program) where
  abbrev may : Doubt
  may = is_unseen program

  pub placed : may place_name ≡ false
  placed = and_not (not (is_named program place_name) || (is_scratch program place_name && is_assigned (outline_of program) place_name)) (bytes_eq place_name place_name) (same_self place_name)

  pub doubt : IsDoubt may may
  doubt = record { less = λ n sure. sure; placed = placed }

  -- a name that isn't named, or a scratch that some line assigns
  unseen : {P : Type 0} (n : List ℕ) → may n ≡ true → (is_named program n ≡ false → P) → (is_scratch program n ≡ true → is_assigned (outline_of program) n ≡ true → P) → P
  unseen {P = P} n h unnamed scratch = at (is_named program n) (is_scratch program n) (is_assigned (outline_of program) n) (not (bytes_eq n place_name)) refl refl refl h
    where
      at : (a b c d : Bool) → is_named program n ≡ a → is_scratch program n ≡ b → is_assigned (outline_of program) n ≡ c → ((not a || (b && c)) && d) ≡ true → P
      at false b c d x y z e = unnamed x
      at true true true d x y z e = scratch y z
      at true true false d x y z e = absurd (cc)
      at true false c d x y z e = absurd (cc)

  body_clear : IsClear may (paths_of program)
  body_clear n h line = unseen n h (λ x. unnamed_unread program legal n x line) (λ y z. never_reached program legal n y z line)

  heads_clear : (n : List ℕ) → may n ≡ true → NoneRead program legal n program.head.inner
  heads_clear n h = unseen n h (λ x. unnamed_heads program legal n x) (λ y z. heads_unread program legal n y)

  pub body_alike : (a b : BodyRun) → StandAlike may may a b → StandAlike may may (body_run program a) (body_run program b)
  body_alike a b s =
      let t = (all_statements_fit program.body).same may may a b s body_clear in
      record { doubt = doubt; emitted = t.emitted; flow = ap next_run t.flow; names = t.names; surely = λ _. t.names }

  body_stays : Stays may (body_run program)
  body_stays = record { same = λ a b s on. body_alike a b s }

  head_sure : (inner : List Inner) (i : Inner) → ((n : List ℕ) → may n ≡ true → NoneRead program legal n (i ∷ inner)) → IsSure may (flat_map names_read (range_bounds i.range))
  head_sure inner i unread n h = (unread n h).0

  runs_stay : (inner : List Inner) → ((n : List ℕ) → may n ≡ true → NoneRead program legal n inner) → (width : ℕ) → Stays may (inner_runs program inner width)
  runs_stay [] unread width = record { same = λ a b s on. body_stays.same a b s on }
  runs_stay (i ∷ inner) unread width = record {
    same = λ a b s on.
        with_items_same may program.head.line (inner_items i.range (get a.names) width) (inner_items i.range (get b.names) width)
        (λ items. for_each program i.name items (inner_runs program inner (width * length items))) a b
        (items_same may i.range a.names b.names width placed s.names (head_sure inner i unread)) s
        (λ items. each_stays may (for_item program i.name (inner_runs program inner (width * length items)))
        (λ x. kept_stays program may (λ run. inner_runs program inner (width * length items) (naming i.name (Int x) run))
        (named_stays may i.name (Int x) (inner_runs program inner (width * length items)) (runs_stay inner (λ n h. (unread n h).1) (width * length items)))) items a b s);
  }

  -- ---- the step

  -- the stores agree but for what a step can't tell: the scratches that lines assign, and the name of its place
  abbrev pub hidden : Doubt
  hidden n = may n || bytes_eq n place_name

  or_hidden : (a b : Bool) → b ≡ false → a ≡ false → (a || b) ≡ false
  or_hidden true b e h = h
  or_hidden false b e h = e

  names_agree : (e f : Bindings) (item : Value) (place : ℕ) → Agree hidden e f → Agree may (names_for program e item place) (names_for program f item place)
  names_agree e f item place agree =
      pattern_agrees may program.head.names item (insert e place_name (Int (pos place))) (insert f place_name (Int (pos place)))
      (λ n sure. set_place n sure)
    where
      same_cond : (b : Bool) (v : Value) (x y : Option Value) → (b ≡ false → x ≡ y) → cond b (Some v) x ≡ cond b (Some v) y
      same_cond true v x y h = refl
      same_cond false v x y h = h refl

      set_place : (n : List ℕ) → may n ≡ false → get (insert e place_name (Int (pos place))) n ≡ get (insert f place_name (Int (pos place))) n
      set_place n sure =
          get_inserted e place_name n (Int (pos place))
          ∙ same_cond (bytes_eq n place_name) (Int (pos place)) (get e n) (get f n) (λ isnt. agree n (or_hidden (may n) (bytes_eq n place_name) isnt sure))
          ∙ sym (get_inserted f place_name n (Int (pos place)))

  -- what two steps did alike
  pub record SameDone (e f : Bindings) (item : Value) (place : ℕ) : Type 0 where
    pub emitted : (body_step program e item place).emitted ≡ (body_step program f item place).emitted
    pub end : (body_step program e item place).end ≡ (body_step program f item place).end
    pub store : Agree hidden (body_step program e item place).store (body_step program f item place).store

  pub step_same : (e f : Bindings) (item : Value) (place : ℕ) → Agree hidden e f → SameDone e f item place
  step_same e f item place agree =
      let a : BodyRun = first_run (names_for program e item place) in
      let b : BodyRun = first_run (names_for program f item place) in
      let names : Agree may (names_for program e item place) (names_for program f item place) = names_agree e f item place agree in
      let start : StandAlike may may a b = record { doubt = doubt; emitted = refl; flow = refl; names = names; surely = λ _. names } in
      let done = (runs_stay program.head.inner heads_clear 1).same a b start refl in
      record {
        emitted = done.emitted;
        end = ap end_of done.flow;
        store = keeping_agrees hidden (stored_names program) e f (inner_runs program program.head.inner 1 a).names (inner_runs program program.head.inner 1 b).names agree
            (λ n sure. done.names n (first_false (may n) (bytes_eq n place_name) sure));
      }

-- ---- the laws on bodies and inner heads

pub bodies_are_same : BodiesAreSame
bodies_are_same program legal run other same =
    let start : StandAlike (is_unseen program) (is_unseen program) run other = record { doubt = doubt program legal; emitted = same.emitted; flow = same.flow; names = same.names; surely = λ _. same.names } in
    let done = body_alike program legal run other start in
    record { emitted = done.emitted; flow = done.flow; names = done.names }

ranges_from : (program : ProgramTree) (legal : IsLegal program) (inner : List Inner) → ((n : List ℕ) → is_unseen program n ≡ true → NoneRead program legal n inner) → SameRanges program inner
ranges_from program legal [] unread = tt
ranges_from program legal (i ∷ inner) unread =
    ((λ names other width agree. items_same (is_unseen program) i.range names other width (placed program legal) agree (λ n h. (unread n h).0)), ranges_from program legal inner (λ n h. (unread n h).1))

pub ranges_are_same : RangesAreSame
ranges_are_same program legal = ranges_from program legal program.head.inner (heads_clear program legal)
