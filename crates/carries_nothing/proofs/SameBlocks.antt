-- The invariant: from body runs that agree but for names that may differ, a block whose paths reach no read of these does the
-- same, and those of the names that each path which goes on assigns agree after it.
use Rattle.std.proofs.Common.{◌≡◌, ℕ, Bool, true, false, List, [], ◌∷◌, ◌++◌, map, Option, Ok, Err, refl, ap, sym, ◌∙◌, subst, rules}
use Rattle.std.specs.Prelude.{not, ◌&&◌, ◌||◌, ◌==◌, if◌then◌else◌, flat_map}
use Rattle.std.specs.Str.{bytes_eq}
use Rattle.std.specs.FinMap.{get}
use Rattle.loop_data.specs.ValueParts.{as_bool}
use Rattle.loop_data.specs.declared.value.Value.{Value}
use Rattle.loop_data.specs.declared.value.Value.TheVariants.{Nothing}
use Rattle.loop_data.specs.declared.expr.Expr.{Expr}
use Rattle.loop_data.specs.declared.tower.TowerExpr.{TowerExpr}
use Rattle.loop_data.specs.declared.statement.Statement.{Statement, fold-roll-Statement, ind-Statement, map-Statement, roll-Statement}
use Rattle.loop_data.specs.declared.statement.Branch.{Branch, fold-roll-Branch, roll-Branch}
use Rattle.loop_data.specs.declared.statement.Statement.TheOpen.{Statement-F, Statement-F as s, Branch-F}
use Rattle.loop_data.specs.declared.statement.Statement.TheFolds as folds
use Rattle.loop_values.specs.Bindings.{place_name}
use Rattle.loop_values.specs.NamesIn.{names_read}
use Rattle.loop_values.specs.Operations.{Outcome}
use Rattle.loop_values.specs.Stops.{fault_number}
use Rattle.loop_values.specs.Values.{Meaning, value_of}
use Rattle.tower_inputs.specs.Inputs.{input_of}
use Rattle.tower_inputs.specs.Towers.{names_read_in_tower}
use Rattle.legality_rules.specs.Scopes.{is_in}
use Rattle.legality_rules.specs.Paths as paths
use Rattle.legality_rules.specs.Paths.{Event, Path, Branching, after, assigned_on, assigns, followed_by, is_reached, line_reads, misses, paths_in_turn, paths_of_one, paths_step, reads_first, statement_paths, branch_paths}
use Rattle.loop_meaning.specs.declared.steps.BodyRun.{BodyRun}
use Rattle.loop_meaning.specs.declared.steps.Flow.{Flow}
use Rattle.loop_meaning.specs.declared.steps.Flow.TheVariants.{Going, Continued, Broke, Faulted}
use Rattle.loop_meaning.specs.Statements.{Action, Choice, branch_run, branch_step, emitting, ending, evaluating, first_true, in_turn, is_going, keeping_something, matching, naming, statement_run, statement_step, while_going, with_value}
use Rattle.carries_nothing.specs.Blocks.{BlocksKeepAlike, Doubt, IsClear, IsDoubt, StandAlike, block_paths, left_in_doubt}
use Rattle.legality_rules.proofs.OpenPaths.{IsSome, and_assoc, assigned_joined, first_joined, line_reaches, missed_after, missed_either, missed_in_turn, reached_after, reached_either, reached_in_turn, reads_assign_none, some_after, some_either, some_in_turn}
use Rattle.carries_nothing.proofs.SameNames.{IsSure, first_false, input_same, insert_agrees, pattern_agrees, second_false, set_same, value_same}

-- what an action does, where the body run goes on, fits its paths
pub record Fits (action : Action) (ps : List Path) : Type 0 where
  pub some : IsSome ps
  pub same : (may now : Doubt) (a b : BodyRun) → StandAlike may now a b → a.flow ≡ Going → IsClear now ps → StandAlike may (left_in_doubt now ps) (action a) (action b)

-- ---- truth values

and_left : (a b : Bool) → a ≡ false → (a && b) ≡ false
and_left true b e = absurd (cc)
and_left false b e = refl

and_both : (a b : Bool) → (a && b) ≡ true → (a ≡ true) × (b ≡ true)
and_both true b e = (refl, e)
and_both false b e = absurd (cc)

and_of_or : (m x y : Bool) → (m && (x || y)) ≡ false → ((m && x) ≡ false) × ((m && y) ≡ false)
and_of_or true true y e = absurd (cc)
and_of_or true false y e = (refl, e)
and_of_or false x y e = (refl, refl)

and_true : (a b : Bool) → a ≡ true → (a && b) ≡ false → b ≡ false
and_true true b t e = e
and_true false b t e = absurd (cc)

-- ---- doubts

pub fewer : (may now : Doubt) (ps : List Path) → IsDoubt may now → IsDoubt may (left_in_doubt now ps)
fewer may now ps d = record { less = λ n sure. and_left (now n) (misses n ps) (d.less n sure); placed = and_left (now place_name) (misses place_name ps) d.placed }

-- more names may differ
pub widen : (may now more : Doubt) (a b : BodyRun) → IsDoubt may more → ((n : List ℕ) → more n ≡ false → now n ≡ false) → StandAlike may now a b → StandAlike may more a b
widen may now more a b d wider s = record { doubt = d; emitted = s.emitted; flow = s.flow; names = s.names; surely = λ on n sure. s.surely on n (wider n sure) }

-- ---- body runs that don't go on

over : (may now later : Doubt) (a b : BodyRun) → IsDoubt may later → (a.flow ≡ Going → ⊥) → StandAlike may now a b → StandAlike may later a b
over may now later a b d isnt s = record { doubt = d; emitted = s.emitted; flow = s.flow; names = s.names; surely = λ on. absurd (isnt on) }

pub ends_same : (may now later : Doubt) (a b : BodyRun) (x : Flow) → IsDoubt may later → (x ≡ Going → ⊥) → StandAlike may now a b → StandAlike may later (ending x a) (ending x b)
ends_same may now later a b x d isnt s = record { doubt = d; emitted = s.emitted; flow = refl; names = s.names; surely = λ on. absurd (isnt on) }

continued_isnt : Continued ≡ Going → ⊥
continued_isnt e = absurd (cc)

broke_isnt : (line : ℕ) → Broke line ≡ Going → ⊥
broke_isnt line e = absurd (cc)

faulted_isnt : (line kind : ℕ) → Faulted line kind ≡ Going → ⊥
faulted_isnt line kind e = absurd (cc)

is_going_so : (x : Flow) → is_going x ≡ true → x ≡ Going
is_going_so Going e = refl
is_going_so Continued e = absurd (cc)
is_going_so (Broke line) e = absurd (cc)
is_going_so (Faulted line kind) e = absurd (cc)

not_going_so : (x : Flow) → is_going x ≡ false → x ≡ Going → ⊥
not_going_so x e h = absurd (let g = ap is_going h in cc)

-- ---- one action after another

-- where the body runs have ended nothing is done
pub while_same : (may now later : Doubt) (action : Action) (a b : BodyRun) → IsDoubt may later → StandAlike may now a b →
    (a.flow ≡ Going → StandAlike may later (action a) (action b)) → StandAlike may later (while_going action a) (while_going action b)
while_same may now later action a b d s next =
    subst (λ g. StandAlike may later (if is_going a.flow then action a else a) (if g then action b else b)) (ap is_going s.flow) (at (is_going a.flow) refl)
  where
    at : (g : Bool) → is_going a.flow ≡ g → StandAlike may later (if g then action a else a) (if g then action b else b)
    at true e = next (is_going_so a.flow e)
    at false e = over may now later a b d (not_going_so a.flow e) s

-- what several things do, one after another, fits their paths
pub record AllFit (actions : List Action) (ps : List Path) : Type 0 where
  pub some : IsSome ps
  pub same : (may now : Doubt) (a b : BodyRun) → StandAlike may now a b → IsClear now ps → StandAlike may (left_in_doubt now ps) (in_turn actions a) (in_turn actions b)

abbrev each_followed : List Path → List Path → List Path
each_followed ps rest = flat_map (followed_by rest) ps

and_one : (a : Bool) → (a && (true || false)) ≡ false → a ≡ false
and_one true e = absurd (cc)
and_one false e = refl

none_fit : AllFit [] (paths_in_turn [])
none_fit = record {
  some = tt;
  same = λ may now a b s clear. widen may now (left_in_doubt now (paths_in_turn [])) a b (fewer may now (paths_in_turn []) s.doubt) (λ n sure. and_one (now n) sure) s;
}

more_fit : (action : Action) (actions : List Action) (ps qs : List Path) → Fits action ps → AllFit actions qs → AllFit (action ∷ actions) (each_followed ps qs)
more_fit action actions ps qs first rest = record {
  some = some_in_turn ps qs first.some rest.some;
  same = λ may now a b s clear.
      let mid : Doubt = left_in_doubt now ps in
      let all : Doubt = left_in_doubt now (each_followed ps qs) in
      let here : IsClear now ps = λ n h line. first_false (is_reached ps line n) (misses n ps && is_reached qs line n) (sym (reached_in_turn ps qs line n rest.some) ∙ clear n h line) in
      let there : IsClear mid qs = λ n h line. in_rest now n line (clear n (and_both (now n) (misses n ps) h).0 line) (and_both (now n) (misses n ps) h).1 in
      let one : StandAlike may mid (while_going action a) (while_going action b) = while_same may now mid action a b (fewer may now ps s.doubt) s (λ on. first.same may now a b s on here) in
      widen may (left_in_doubt mid qs) all (in_turn actions (while_going action a)) (in_turn actions (while_going action b)) (fewer may now (each_followed ps qs) s.doubt)
      (λ n sure. sym (and_assoc (now n) (misses n ps) (misses n qs)) ∙ ap (λ b. now n && b) (sym (missed_in_turn ps qs n)) ∙ sure)
      (rest.same may mid (while_going action a) (while_going action b) one there);
}
  where
    in_rest : (now : Doubt) (n : List ℕ) (line : ℕ) → is_reached (each_followed ps qs) line n ≡ false → misses n ps ≡ true → is_reached qs line n ≡ false
    in_rest now n line e m =
        and_true (misses n ps) (is_reached qs line n) m (second_false (is_reached ps line n) (misses n ps && is_reached qs line n) (sym (reached_in_turn ps qs line n rest.some) ∙ e))

-- ---- the value of what stands on a line

value_first : (may now later : Doubt) (line : ℕ) (o : Outcome) (a b : BodyRun) (k : Value → Action) → IsDoubt may later → StandAlike may now a b → ((v : Value) → StandAlike may later (k v a) (k v b)) →
    StandAlike may later (with_value line o k a) (with_value line o k b)
value_first may now later line (Ok v) a b k d s h = h v
value_first may now later line (Err stop) a b k d s h = ends_same may now later a b (Faulted line (fault_number stop)) d (faulted_isnt line (fault_number stop)) s

pub evaluated : (may now later : Doubt) (line : ℕ) (m : Meaning) (a b : BodyRun) (k : Value → Action) → IsDoubt may later → StandAlike may now a b → m (get a.names) ≡ m (get b.names) →
    ((v : Value) → StandAlike may later (k v a) (k v b)) → StandAlike may later (evaluating line m k a) (evaluating line m k b)
evaluated may now later line m a b k d s is h =
    subst (λ z. StandAlike may later (with_value line (m (get a.names)) k a) (with_value line z k b)) is (value_first may now later line (m (get a.names)) a b k d s h)

-- ---- what a line reads

same_number : (k : ℕ) → (k == k) ≡ true
same_number k = search rules

sure_first : (now : Doubt) (line : ℕ) (names : List (List ℕ)) (more : List Event) (g : Bool) (ps : List Path) →
    IsClear now (record { events = line_reads line names ++ more; goes_on = g } ∷ ps) → IsSure now names
sure_first now line names more g ps clear n h =
    let here = first_false (reads_first line n (line_reads line names ++ more)) (is_reached ps line n) (clear n h line) in
    let reads = first_false (reads_first line n (line_reads line names)) (not (assigned_on n (line_reads line names)) && reads_first line n more) (sym (first_joined line n (line_reads line names) more) ∙ here) in
    and_true (line == line) (is_in names n) (same_number line) (sym (line_reaches line n line names) ∙ reads)

sure_alone : (now : Doubt) (line : ℕ) (names : List (List ℕ)) (g : Bool) (ps : List Path) → IsClear now (record { events = line_reads line names; goes_on = g } ∷ ps) → IsSure now names
sure_alone now line names g ps clear n h =
    and_true (line == line) (is_in names n) (same_number line)
    (sym (line_reaches line n line names) ∙ first_false (reads_first line n (line_reads line names)) (is_reached ps line n) (clear n h line))

-- a line that goes on and assigns nothing leaves all names in doubt that were
doubt_stays : (m a b : Bool) → a ≡ false → (m && ((true && not a) || b)) ≡ false → m ≡ false
doubt_stays true true b e h = absurd (cc)
doubt_stays true false b e h = absurd (cc)
doubt_stays false a b e h = refl

still : (now : Doubt) (line : ℕ) (names : List (List ℕ)) (ps : List Path) (n : List ℕ) → left_in_doubt now (paths.going (line_reads line names) ∷ ps) n ≡ false → now n ≡ false
still now line names ps n h = doubt_stays (now n) (assigned_on n (line_reads line names)) (misses n ps) (reads_assign_none n line names) h

-- and one that assigns a name leaves the others
doubt_or_set : (m a b : Bool) → a ≡ (false || (b || false)) → (m && ((true && not a) || false)) ≡ false → b ≡ false → m ≡ false
doubt_or_set true true b e h f = absurd (cc)
doubt_or_set true false b e h f = absurd (cc)
doubt_or_set false a b e h f = refl

set_leaves : (now : Doubt) (line : ℕ) (names : List (List ℕ)) (name n : List ℕ) → left_in_doubt now (paths.going (line_reads line names ++ assigns name ∷ []) ∷ []) n ≡ false →
    bytes_eq n name ≡ false → now n ≡ false
set_leaves now line names name n h isnt =
    doubt_or_set (now n) (assigned_on n (line_reads line names ++ assigns name ∷ [])) (bytes_eq n name)
    (assigned_joined n (line_reads line names) (assigns name ∷ []) ∙ ap (λ b. b || (bytes_eq n name || false)) (reads_assign_none n line names)) h isnt

-- ---- names that are bound or assigned on a line

named_same : (may now later : Doubt) (a b : BodyRun) (name : List ℕ) (v : Value) → IsDoubt may later → StandAlike may now a b → a.flow ≡ Going →
    ((n : List ℕ) → later n ≡ false → bytes_eq n name ≡ false → now n ≡ false) → StandAlike may later (naming name v a) (naming name v b)
named_same may now later a b name v d s on less = record {
  doubt = d;
  emitted = s.emitted;
  flow = s.flow;
  names = insert_agrees may a.names b.names name v s.names;
  surely = λ _ n sure. set_same a.names b.names name n v (λ isnt. s.surely on n (less n sure isnt));
}

matched_same : (may now later : Doubt) (a b : BodyRun) (pattern : List (List ℕ)) (v : Value) → IsDoubt may later → StandAlike may now a b → a.flow ≡ Going →
    ((n : List ℕ) → later n ≡ false → now n ≡ false) → StandAlike may later (matching pattern v a) (matching pattern v b)
matched_same may now later a b pattern v d s on less = record {
  doubt = d;
  emitted = s.emitted;
  flow = s.flow;
  names = pattern_agrees may pattern v a.names b.names s.names;
  surely = λ _ n sure. pattern_agrees now pattern v a.names b.names (s.surely on) n (less n sure);
}

kept_same : (may now later : Doubt) (a b : BodyRun) (name : List ℕ) (v : Value) → IsDoubt may later → StandAlike may now a b → a.flow ≡ Going →
    ((n : List ℕ) → later n ≡ false → now n ≡ false) → StandAlike may later (keeping_something name v a) (keeping_something name v b)
kept_same may now later a b name Nothing d s on less = ends_same may now later a b Continued d continued_isnt s
kept_same may now later a b name v d s on less = named_same may now later a b name v d s on (λ n sure isnt. less n sure)

emitted_same : (may now later : Doubt) (a b : BodyRun) (name : List ℕ) (v : Value) → IsDoubt may later → StandAlike may now a b → a.flow ≡ Going →
    ((n : List ℕ) → later n ≡ false → now n ≡ false) → StandAlike may later (emitting name v a) (emitting name v b)
emitted_same may now later a b name v d s on less = record {
  doubt = d;
  emitted = ap (λ l. l ++ record { name = name; input = v } ∷ []) s.emitted;
  flow = s.flow;
  names = s.names;
  surely = λ _ n sure. s.surely on n (less n sure);
}

-- ---- conditions

-- what a condition with its block does, and its paths, where what is done otherwise fits the other paths
abbrev BranchFits : Choice → Branching → Type 0
BranchFits choice branching = (other : Action) (ps : List Path) → Fits other ps → Fits (choice other) (branching ps)

all_fits : (actions : List Action) (ps : List Path) → AllFit actions ps → Fits (in_turn actions) ps
all_fits actions ps h = record { some = h.some; same = λ may now a b s on clear. h.same may now a b s clear }

chosen_same : (may later : Doubt) (a b : BodyRun) (block other : Action) (c : Bool) → StandAlike may later (block a) (block b) → StandAlike may later (other a) (other b) →
    StandAlike may later ((if c then block else other) a) ((if c then block else other) b)
chosen_same may later a b block other true here there = here
chosen_same may later a b block other false here there = there

abbrev tested : ℕ → Expr → Action → Choice
tested line test block other = evaluating line (value_of test) (λ v. if as_bool v then block else other)

abbrev after_reads : ℕ → List (List ℕ) → List Path → List Path
after_reads line names ps = map (after (line_reads line names)) ps

past_reads : (line : ℕ) (names : List (List ℕ)) (ps : List Path) (l : ℕ) (n : List ℕ) → IsSome ps → is_reached (after_reads line names ps) l n ≡ false → is_reached ps l n ≡ false
past_reads line names ps l n some e =
    let both = sym (reached_after (line_reads line names) ps l n some) ∙ e in
    let rest = second_false (reads_first l n (line_reads line names)) (not (assigned_on n (line_reads line names)) && is_reached ps l n) both in
    subst (λ z. (not z && is_reached ps l n) ≡ false) (reads_assign_none n line names) rest

read_sure : (now : Doubt) (line : ℕ) (names : List (List ℕ)) (ps : List Path) → IsSome ps → IsClear now (after_reads line names ps) → IsSure now names
read_sure now line names ps some clear n h =
    let both = sym (reached_after (line_reads line names) ps line n some) ∙ clear n h line in
    and_true (line == line) (is_in names n) (same_number line)
    (sym (line_reaches line n line names) ∙ first_false (reads_first line n (line_reads line names)) (not (assigned_on n (line_reads line names)) && is_reached ps line n) both)

missed_past : (line : ℕ) (names : List (List ℕ)) (ps : List Path) (n : List ℕ) → misses n (after_reads line names ps) ≡ misses n ps
missed_past line names ps n = missed_after (line_reads line names) ps n ∙ ap (λ b. not b && misses n ps) (reads_assign_none n line names)

branch_fits : (line : ℕ) (test : Expr) (block other : Action) (ps qs : List Path) → Fits block ps → Fits other qs → Fits (tested line test block other) (after_reads line (names_read test) (ps ++ qs))
branch_fits line test block other ps qs here there = record {
  some = some_after (line_reads line (names_read test)) (ps ++ qs) (some_either ps qs here.some);
  same = λ may now a b s on clear.
      let some : IsSome (ps ++ qs) = some_either ps qs here.some in
      let all : List Path = after_reads line (names_read test) (ps ++ qs) in
      let later : Doubt = left_in_doubt now all in
      let d : IsDoubt may later = fewer may now all s.doubt in
      let sure : IsSure now (names_read test) = read_sure now line (names_read test) (ps ++ qs) some clear in
      let clear_both : IsClear now (ps ++ qs) = λ n h l. past_reads line (names_read test) (ps ++ qs) l n some (clear n h l) in
      let one : StandAlike may later (block a) (block b) =
      widen may (left_in_doubt now ps) later (block a) (block b) d (λ n h. (left now n h).0)
      (here.same may now a b s on (λ n h l. first_false (is_reached ps l n) (is_reached qs l n) (sym (reached_either ps qs l n) ∙ clear_both n h l))) in
      let two : StandAlike may later (other a) (other b) =
      widen may (left_in_doubt now qs) later (other a) (other b) d (λ n h. (left now n h).1)
      (there.same may now a b s on (λ n h l. second_false (is_reached ps l n) (is_reached qs l n) (sym (reached_either ps qs l n) ∙ clear_both n h l))) in
      evaluated may now later line (value_of test) a b (λ v. if as_bool v then block else other) d s (value_same now test a.names b.names s.doubt.placed (s.surely on) sure)
      (λ v. chosen_same may later a b block other (as_bool v) one two);
}
  where
    left : (now : Doubt) (n : List ℕ) → left_in_doubt now (after_reads line (names_read test) (ps ++ qs)) n ≡ false → ((now n && misses n ps) ≡ false) × ((now n && misses n qs) ≡ false)
    left now n h = and_of_or (now n) (misses n ps) (misses n qs) (ap (λ b. now n && b) (sym (missed_past line (names_read test) (ps ++ qs) n ∙ missed_either ps qs n)) ∙ h)

-- ---- statements

let_fits : (line : ℕ) (pattern : List (List ℕ)) (x : Expr) → Fits (statement_step (s.Let line pattern x)) (paths_step (s.Let line pattern x))
let_fits line pattern x = record {
  some = tt;
  same = λ may now a b s on clear.
      let ps : List Path = paths.going (line_reads line (names_read x)) ∷ [] in
      let later : Doubt = left_in_doubt now ps in
      let d : IsDoubt may later = fewer may now ps s.doubt in
      let sure : IsSure now (names_read x) = sure_alone now line (names_read x) true [] clear in
      evaluated may now later line (value_of x) a b (matching pattern) d s (value_same now x a.names b.names s.doubt.placed (s.surely on) sure)
      (λ v. matched_same may now later a b pattern v d s on (λ n h. still now line (names_read x) [] n h));
}

set_fits : (line : ℕ) (name : List ℕ) (x : Expr) → Fits (statement_step (s.Set line name x)) (paths_step (s.Set line name x))
set_fits line name x = record {
  some = tt;
  same = λ may now a b s on clear.
      let ps : List Path = paths.going (line_reads line (names_read x) ++ assigns name ∷ []) ∷ [] in
      let later : Doubt = left_in_doubt now ps in
      let d : IsDoubt may later = fewer may now ps s.doubt in
      let sure : IsSure now (names_read x) = sure_first now line (names_read x) (assigns name ∷ []) true [] clear in
      evaluated may now later line (value_of x) a b (naming name) d s (value_same now x a.names b.names s.doubt.placed (s.surely on) sure)
      (λ v. named_same may now later a b name v d s on (λ n h isnt. set_leaves now line (names_read x) name n h isnt));
}

keep_fits : (line : ℕ) (name : List ℕ) (x : Expr) → Fits (statement_step (s.Keep line name x)) (paths_step (s.Keep line name x))
keep_fits line name x = record {
  some = tt;
  same = λ may now a b s on clear.
      let ended : Path = paths.ending (line_reads line (names_read x)) in
      let ps : List Path = paths.going (line_reads line (names_read x)) ∷ ended ∷ [] in
      let later : Doubt = left_in_doubt now ps in
      let d : IsDoubt may later = fewer may now ps s.doubt in
      let sure : IsSure now (names_read x) = sure_alone now line (names_read x) true (ended ∷ []) clear in
      evaluated may now later line (value_of x) a b (keeping_something name) d s (value_same now x a.names b.names s.doubt.placed (s.surely on) sure)
      (λ v. kept_same may now later a b name v d s on (λ n h. still now line (names_read x) (ended ∷ []) n h));
}

reduce_fits : (line : ℕ) (name : List ℕ) (tower : TowerExpr) (start : Option Value) → Fits (statement_step (s.Reduce line name tower start)) (paths_step (s.Reduce line name tower start))
reduce_fits line name tower start = record {
  some = tt;
  same = λ may now a b s on clear.
      let ps : List Path = paths.going (line_reads line (names_read_in_tower tower)) ∷ [] in
      let later : Doubt = left_in_doubt now ps in
      let d : IsDoubt may later = fewer may now ps s.doubt in
      let sure : IsSure now (names_read_in_tower tower) = sure_alone now line (names_read_in_tower tower) true [] clear in
      evaluated may now later line (input_of tower) a b (emitting name) d s (input_same now tower a.names b.names s.doubt.placed (s.surely on) sure)
      (λ v. emitted_same may now later a b name v d s on (λ n h. still now line (names_read_in_tower tower) [] n h));
}

end_fits : (x : Flow) → (x ≡ Going → ⊥) → Fits (ending x) (paths.ending [] ∷ [])
end_fits x isnt = record {
  some = tt;
  same = λ may now a b s on clear. ends_same may now (left_in_doubt now (paths.ending [] ∷ [])) a b x (fewer may now (paths.ending [] ∷ []) s.doubt) isnt s;
}

-- ---- trees of statements

abbrev IsFit : Statement → Type 0
IsFit x = Fits (statement_run x) (statement_paths x)

abbrev IsFitBranch : Branch → Type 0
IsFitBranch b = BranchFits (branch_run b) (branch_paths b)

abbrev Such : Type 0
Such = (x : Statement) × IsFit x

abbrev SuchBranch : Type 0
SuchBranch = (b : Branch) × IsFitBranch b

abbrev bare : Such → Statement
bare e = e.0

abbrev bare_branch : SuchBranch → Branch
bare_branch e = e.0

block_fits : (xs : List Such) → AllFit (map statement_run (map bare xs)) (block_paths (map bare xs))
block_fits [] = none_fit
block_fits (x ∷ xs) = more_fit (statement_run x.0) (map statement_run (map bare xs)) (statement_paths x.0) (block_paths (map bare xs)) x.1 (block_fits xs)

branches_fit : (bs : List SuchBranch) (other : Action) (ps : List Path) → Fits other ps →
    Fits (first_true (map branch_run (map bare_branch bs)) other) (paths_of_one (map branch_paths (map bare_branch bs)) ps)
branches_fit [] other ps h = h
branches_fit (b ∷ bs) other ps h =
    b.1 (first_true (map branch_run (map bare_branch bs)) other) (paths_of_one (map branch_paths (map bare_branch bs)) ps) (branches_fit bs other ps h)

abbrev RunOf : Statement-F Statement Branch → Action
RunOf w = statement_step (map-Statement Statement Branch Action Choice statement_run branch_run w)

abbrev PathsOf : Statement-F Statement Branch → List Path
PathsOf w = paths_step (map-Statement Statement Branch (List Path) Branching statement_paths branch_paths w)

abbrev BranchRunOf : Branch-F Statement Branch → Choice
BranchRunOf w = branch_step (folds.map-Branch Statement Branch Action Choice statement_run branch_run w)

abbrev BranchPathsOf : Branch-F Statement Branch → Branching
BranchPathsOf w = paths.branch_step (folds.map-Branch Statement Branch (List Path) Branching statement_paths branch_paths w)

abbrev bared : Statement-F Such SuchBranch → Statement-F Statement Branch
bared y = map-Statement Such SuchBranch Statement Branch bare bare_branch y

abbrev bared_branch : Branch-F Such SuchBranch → Branch-F Statement Branch
bared_branch y = folds.map-Branch Such SuchBranch Statement Branch bare bare_branch y

layer_fits : (y : Statement-F Such SuchBranch) → Fits (RunOf (bared y)) (PathsOf (bared y))
layer_fits (s.Let line pattern x) = let_fits line pattern x
layer_fits (s.Set line name x) = set_fits line name x
layer_fits (s.If line branches else_line other end_line) =
    branches_fit branches (in_turn (map statement_run (map bare other))) (block_paths (map bare other)) (all_fits _ _ (block_fits other))
layer_fits (s.Keep line name x) = keep_fits line name x
layer_fits (s.Reduce line name tower start) = reduce_fits line name tower start
layer_fits (s.Continue line) = end_fits Continued continued_isnt
layer_fits (s.Break line) = end_fits (Broke line) (broke_isnt line)

branch_layer_fits : (y : Branch-F Such SuchBranch) → BranchFits (BranchRunOf (bared_branch y)) (BranchPathsOf (bared_branch y))
branch_layer_fits y other ps h =
    branch_fits y.line y.test (in_turn (map statement_run (map bare y.block))) other (block_paths (map bare y.block)) ps (all_fits _ _ (block_fits y.block)) h

rolled : (x : Statement-F Statement Branch) → Fits (RunOf x) (PathsOf x) → IsFit (roll-Statement x)
rolled x h =
    subst (λ z. Fits z (statement_paths (roll-Statement x))) (sym (fold-roll-Statement Action Choice statement_step branch_step x))
    (subst (Fits (RunOf x)) (sym (fold-roll-Statement (List Path) Branching paths_step paths.branch_step x)) h)

rolled_branch : (x : Branch-F Statement Branch) → BranchFits (BranchRunOf x) (BranchPathsOf x) → IsFitBranch (roll-Branch x)
rolled_branch x h =
    subst (λ z. BranchFits z (branch_paths (roll-Branch x))) (sym (fold-roll-Branch Action Choice statement_step branch_step x))
    (subst (BranchFits (BranchRunOf x)) (sym (fold-roll-Branch (List Path) Branching paths_step paths.branch_step x)) h)

pub statement_fits : (x : Statement) → IsFit x
statement_fits = ind-Statement IsFit IsFitBranch
    (λ x y is. rolled x (subst (λ w. Fits (RunOf w) (PathsOf w)) is (layer_fits y)))
    (λ x y is. rolled_branch x (subst (λ w. BranchFits (BranchRunOf w) (BranchPathsOf w)) is (branch_layer_fits y)))

-- what a block does fits its paths
pub all_statements_fit : (xs : List Statement) → AllFit (map statement_run xs) (block_paths xs)
all_statements_fit [] = none_fit
all_statements_fit (x ∷ xs) = more_fit (statement_run x) (map statement_run xs) (statement_paths x) (block_paths xs) (statement_fits x) (all_statements_fit xs)

pub blocks_keep_alike : BlocksKeepAlike
blocks_keep_alike block may now run other alike clear = (all_statements_fit block).same may now run other alike clear
