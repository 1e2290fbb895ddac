-- The pass for carried scratches finds the first offence against the fourth rule.
use Rattle.std.proofs.Common.{◌≡◌, ℕ, ◌<◌, ◌≤◌, ◌+◌, Bool, true, false, List, [], ◌∷◌, ◌++◌, Option, Some, None, Ok, Err, map, refl, sym, ap, subst, ◌∙◌, arith, codes, append_assoc, append-nil, length, replicate}
use Rattle.std.specs.Prelude.{◌==◌, not, ◌&&◌, ◌||◌, if◌then◌else◌, filter, flat_map}
use Rattle.std.specs.Str.{bytes_eq}
use Rattle.std.proofs.lemmas.Bool.{eq-eqb, ne_eqb}
use Rattle.loop_data.specs.declared.value.ValueKind.{ValueKind}
use Rattle.loop_data.specs.declared.statement.Statement.{Statement}
use Rattle.loop_data.specs.declared.statement.Statement.TheVariants as stm
use Rattle.loop_data.specs.declared.statement.Branch.{Branch}
use Rattle.std.specs.Option.{option_and_then}
use Rattle.loop_values.specs.Kinds.{kind_of}
use Rattle.loop_grammar.specs.declared.line.NumberedLine.{NumberedLine}
use Rattle.loop_grammar.specs.Nesting.{NestsStatement, NestsBlock, NestsParts}
use Rattle.loop_values.specs.NamesIn.{names_read}
use Rattle.loop_values.proofs.EntryLemmas.{same_self, same_text}
use Rattle.tower_inputs.specs.Towers.{names_read_in_tower}
use Rattle.legality_rules.specs.declared.refusal.Offence.{Offence}
use Rattle.legality_rules.specs.declared.refusal.LegalRefusal.TheVariants.{Illegal}
use Rattle.legality_rules.specs.declared.scope.Sort.TheVariants.{Local}
use Rattle.legality_rules.specs.declared.scope.Known.{Known}
use Rattle.legality_rules.specs.Scopes.{Scope, is_in, is_scratch, sort_in, sort_of, look_up, known_as, one_by_one, pattern_kinds, found, kinds_in, unwrapped}
use Rattle.legality_rules.specs.Lines.{Entry, Form, Listed, in_turn, branches_in_turn, condition, first_name, let_line, set_line, keep_line, reduce_line, read, statement_listing, branch_listing}
use Rattle.legality_rules.specs.Paths.{Path, assigns, going, ending, after, assigned_on, followed_by, misses, paths_in_turn, line_reads, reads_first, is_reached, paths_of_one, statement_paths, branch_paths}
use Rattle.legality_rules.specs.Rules.{Outline, Spot, carried_scratches, is_assigned}
use Rattle.legality_rules.specs.Rising.{Rises}
use Rattle.legality_rules.specs.Cuts.{or_else, first_named}
use Rattle.legality_rules.proofs.Layers.{listing-Let, listing-Set, listing-Keep, listing-Reduce, listing-Continue, listing-Break, listing-If, listing-branch, paths-Let, paths-Set, paths-Keep, paths-Reduce, paths-Continue, paths-Break, paths-If, paths-branch}
use Rattle.legality_names.specs.Answers.{answer, leftmost, named, and_then}
use Rattle.legality_scratches.specs.Scans.{Scan, Scanned, block_scanned, branch_scanned, branches_scanned, close, is_open, none_open, reads_scanned, statement_scanned, where_either}
use Rattle.legality_names.proofs.FirstMet.{Climbs, first_met, by_fourth, climbs_joined, climbs_to, met_joined, or_none}
use Rattle.legality_rules.proofs.OpenPaths.{and_assoc, or_false, and_true, and_false, assigned_joined, first_joined, reads_assign_none, line_reaches, IsSome, reached_either, missed_either, some_either, reached_after, missed_after, some_after, reached_in_turn, missed_in_turn, some_in_turn}
use Rattle.legality_scratches.proofs.ScanLayers.{scanned-Let, scanned-Set, scanned-Keep, scanned-Reduce, scanned-Continue, scanned-Break, scanned-If, scanned-branch}

-- ---- what a pass finds

-- the first offence that is met is refused, and where none is met these scratches are open
abbrev pub Found : Option Offence → Scanned → List Bool → Type 0
Found None r out = r ≡ Ok out
Found (Some o) r out = r ≡ Err (Illegal o)

found_then : (x y : Option Offence) (r : Scanned) (mid out : List Bool) (k : Scan) → Found x r mid → Found y (k mid) out → Found (or_else x y) (and_then r k) out
found_then None y r mid out k a b = let P : Scanned → Type 0 = λ s. Found y (and_then s k) out in subst P (sym a) b
found_then (Some o) y r mid out k a b = ap (λ s. and_then s k) a

found_line : (x o : Option Offence) (y : Option Offence) (k : Scanned) (out : List Bool) → o ≡ x → Found y k out → Found (or_else x y) (and_then (answer o) (λ _. k)) out
found_line x o y k out e f = let P : Option Offence → Type 0 = λ z. Found (or_else x y) (and_then (answer z) (λ _. k)) out in subst P (sym e) (at x)
  where
    at : (x : Option Offence) → Found (or_else x y) (and_then (answer x) (λ _. k)) out
    at None = f
    at (Some p) = refl

found_is : (x y : Option Offence) (r s : Scanned) (out end : List Bool) → x ≡ y → r ≡ s → out ≡ end → Found y s end → Found x r out
found_is x y r s out end e f g h =
    let P : Option Offence → Type 0 = λ z. Found z r out in
    let Q : Scanned → Type 0 = λ z. Found y z out in
    let R : List Bool → Type 0 = λ z. Found y s z in
    subst P (sym e) (subst Q (sym f) (subst R (sym g) h))

then_assoc : (r : Scanned) (f g : Scan) → and_then (and_then r f) g ≡ and_then r (λ x. and_then (f x) g)
then_assoc (Ok x) f g = refl
then_assoc (Err e) f g = refl

answer_assoc : (o : Option Offence) (f : Scanned) (g : Scan) → and_then (and_then (answer o) (λ _. f)) g ≡ and_then (answer o) (λ _. and_then f g)
answer_assoc None f g = refl
answer_assoc (Some o) f g = refl

-- ---- lists

map_same : {X Y : Type 0} (f g : X → Y) → ((x : X) → f x ≡ g x) → (xs : List X) → map f xs ≡ map g xs
map_same f g h [] = refl
map_same f g h (x ∷ xs) = ap (λ y. y ∷ map f xs) (h x) ∙ ap (λ ys. g x ∷ ys) (map_same f g h xs)

or_right : (a b : Bool) → b ≡ true → (a || b) ≡ true
or_right true b e = refl
or_right false b e = e

or_left : (a b : Bool) → a ≡ true → (a || b) ≡ true
or_left true b e = refl
or_left false b e = absurd (cc)

kept_same : (t : Bool) (n : List ℕ) (xs ys : List (List ℕ)) → xs ≡ ys → (if t then n ∷ xs else xs) ≡ (if t then n ∷ ys else ys)
kept_same true n xs ys e = ap (λ zs. n ∷ zs) e
kept_same false n xs ys e = e

filter_same : (p q : List ℕ → Bool) (ns : List (List ℕ)) → ((n : List ℕ) → is_in ns n ≡ true → p n ≡ q n) → filter p ns ≡ filter q ns
filter_same p q [] h = refl
filter_same p q (n ∷ ns) h =
    ap (λ b. if b then n ∷ filter p ns else filter p ns) (h n (or_left (bytes_eq n n) (is_in ns n) (same_self n)))
    ∙ kept_same (q n) n (filter p ns) (filter q ns) (filter_same p q ns (λ m i. h m (or_right (bytes_eq m n) (is_in ns m) i)))

-- ---- which scratches are open

open_step : (u : List ℕ → Bool) (n m : List ℕ) (r s : Bool) (t : Bool) → bytes_eq n m ≡ t → r ≡ (s && u n) → (if t then u m else r) ≡ ((t || s) && u n)
open_step u n m r s true e h = ap u (sym (same_text n m e))
open_step u n m r s false e h = h

open_at : (u : List ℕ → Bool) (ms : List (List ℕ)) (n : List ℕ) → is_open ms (map u ms) n ≡ (is_in ms n && u n)
open_at u [] n = refl
open_at u (m ∷ ms) n = open_step u n m (is_open ms (map u ms) n) (is_in ms n) (bytes_eq n m) refl (open_at u ms n)

closed : (u : List ℕ → Bool) (ms : List (List ℕ)) (n : List ℕ) → close ms (map u ms) n ≡ map (λ m. u m && not (bytes_eq m n)) ms
closed u [] n = refl
closed u (m ∷ ms) n = ap (λ bs. (u m && not (bytes_eq m n)) ∷ bs) (closed u ms n)

pub none_left : (u v : List ℕ → Bool) → ((n : List ℕ) → v n ≡ false) → (ms : List (List ℕ)) → none_open (map u ms) ≡ map v ms
none_left u v h [] = refl
none_left u v h (m ∷ ms) = ap (λ b. b ∷ none_open (map u ms)) (sym (h m)) ∙ ap (λ bs. v m ∷ bs) (none_left u v h ms)

-- all are open before the body
pub all_left : (ms : List (List ℕ)) → replicate (length ms) true ≡ map (λ (m : List ℕ). true) ms
all_left [] = refl
all_left (m ∷ ms) = ap (λ bs. true ∷ bs) (all_left ms)

met_either : (u v : List ℕ → Bool) (ms : List (List ℕ)) → where_either (map u ms) (map v ms) ≡ map (λ m. u m || v m) ms
met_either u v [] = refl
met_either u v (m ∷ ms) = ap (λ bs. (u m || v m) ∷ bs) (met_either u v ms)

-- ---- the pass over a body

module _ (outline : Outline) (names : List (List ℕ)) where
  -- of the names in scope, those that may be carried are these
  abbrev pub Scoped : Scope → Type 0
  Scoped scope = (n : List ℕ) → (is_scratch (sort_in scope n) && is_assigned outline n) ≡ is_in names n

  local_step : (a : Bool) (t r s : Option Known) (n : List ℕ) → is_scratch (sort_of r) ≡ is_scratch (sort_of s) →
      is_scratch (sort_of (if a then t else r)) ≡ is_scratch (sort_of (if a then t else s))
  local_step true t r s n e = refl
  local_step false t r s n e = e

  local_last : (a : Bool) (m : List ℕ) (k : Option ValueKind) → is_scratch (sort_of (if a then Some (known_as Local m k) else None)) ≡ false
  local_last true m k = refl
  local_last false m k = refl

  after_local : (scope : Scope) (m : List ℕ) (k : Option ValueKind) (n : List ℕ) →
      is_scratch (sort_in (scope ++ known_as Local m k ∷ []) n) ≡ is_scratch (sort_in scope n)
  after_local [] m k n = local_last (bytes_eq n m) m k
  after_local (x ∷ scope) m k n = local_step (bytes_eq n x.name) (Some x) (look_up (scope ++ known_as Local m k ∷ []) n) (look_up scope n) n (after_local scope m k n)

  scoped_one : (scope : Scope) (m : List ℕ) (k : Option ValueKind) → Scoped scope → Scoped (scope ++ known_as Local m k ∷ [])
  scoped_one scope m k s n = ap (λ b. b && is_assigned outline n) (after_local scope m k n) ∙ s n

  scoped_each : (ns : List (List ℕ)) (ks : List ValueKind) (scope : Scope) → Scoped scope → Scoped (scope ++ one_by_one Local ns ks)
  scoped_each [] ks scope s = subst Scoped (ap (λ z. scope ++ z) (none ks)) (subst Scoped (sym (append-nil scope)) s)
    where
      none : (ks : List ValueKind) → [] ≡ one_by_one Local [] ks
      none [] = refl
      none (k ∷ ks) = refl
  scoped_each (n ∷ ns) (k ∷ ks) scope s =
      subst Scoped (append_assoc scope (known_as Local n (Some k) ∷ []) (one_by_one Local ns ks)) (scoped_each ns ks (scope ++ known_as Local n (Some k) ∷ []) (scoped_one scope n (Some k) s))
  scoped_each (n ∷ ns) [] scope s =
      subst Scoped (ap (λ z. scope ++ known_as Local n None ∷ z) (no_kinds ns))
      (subst Scoped (append_assoc scope (known_as Local n None ∷ []) (one_by_one Local ns [])) (scoped_each ns [] (scope ++ known_as Local n None ∷ []) (scoped_one scope n None s)))
    where
      no_kinds : (ns : List (List ℕ)) → one_by_one Local ns [] ≡ map (λ n. known_as Local n None) ns
      no_kinds [] = refl
      no_kinds (n ∷ ns) = refl

  -- ---- a line that reads names

  named_is : (spot : Spot) (ns : List (List ℕ)) → named 4 spot.here.line (leftmost ns) ≡ first_named 4 spot ns
  named_is spot [] = refl
  named_is spot (n ∷ ns) = refl

  reads_are : (u : List ℕ → Bool) (spot : Spot) → Scoped spot.here.scope →
      ((n : List ℕ) → is_in (read spot.here.says) n ≡ true → is_reached outline.paths spot.here.line n ≡ u n) →
      named 4 spot.here.line (leftmost (filter (is_open names (map u names)) (read spot.here.says))) ≡ by_fourth outline spot
  reads_are u spot s h =
      ap (λ ns. named 4 spot.here.line (leftmost ns))
      (filter_same (is_open names (map u names)) (λ n. is_scratch (sort_in spot.here.scope n) && is_assigned outline n && is_reached outline.paths spot.here.line n) (read spot.here.says)
      (λ n i.
      open_at u names n
      ∙ ap (λ b. b && u n) (sym (s n))
      ∙ ap (λ b. (is_scratch (sort_in spot.here.scope n) && is_assigned outline n) && b) (sym (h n i))))
      ∙ named_is spot (carried_scratches outline spot)

  -- ---- a part of a body

  -- what a pass over lines from n on, before the lines of `rest`, finds, where these are their paths and entries
  pub record ScanOf (n : ℕ) (rest : List NumberedLine) (ps : List Path) (entries : Scope → List Entry) (scan : Scan) : Type 0 where
    pub end : ℕ
    pub ordered : n ≤ end
    pub rises : Rises end rest
    pub some : IsSome ps
    pub below : (l : ℕ) (m : List ℕ) → l < n → is_reached ps l m ≡ false
    pub above : (l : ℕ) (m : List ℕ) → end ≤ l → is_reached ps l m ≡ false
    pub climbs : (scope : Scope) → Climbs n end (entries scope)
    pub finds : (u : List ℕ → Bool) → ((l : ℕ) (m : List ℕ) → n ≤ l → l < end → is_reached outline.paths l m ≡ (u m && is_reached ps l m)) →
        (scope : Scope) (before : List Entry) → Scoped scope →
        Found (first_met (by_fourth outline) before (entries scope)) (scan (map u names)) (map (λ m. u m && misses m ps) names)

  off_line : (k l : ℕ) (b : Bool) → (k ≡ l → ⊥) → (k == l && b) ≡ false
  off_line k l b h = ap (λ t. t && b) (ne_eqb k l h)

  on_line : (k : ℕ) (b : Bool) → b ≡ true → (k == k && b) ≡ true
  on_line k b h = ap (λ t. t && b) (eq-eqb k k refl) ∙ h

  -- a statement on one line that reads names, has these paths, and may close a scratch
  alone : (n k : ℕ) (rest : List NumberedLine) (ps : List Path) (called : List ℕ) (form : Form) (entries : Scope → List Entry) (scan : Scan)
      (new : List Bool → List Bool) → n ≤ k → Rises (k + 1) rest → IsSome ps →
      ((l : ℕ) (m : List ℕ) → is_reached ps l m ≡ (k == l && is_in (read form) m)) →
      ((scope : Scope) → entries scope ≡ record { line = k; called = called; scope = scope; says = form } ∷ []) →
      ((marks : List Bool) → scan marks ≡ and_then (reads_scanned names k (read form) marks) (λ _. Ok (new marks))) →
      ((u : List ℕ → Bool) → new (map u names) ≡ map (λ m. u m && misses m ps) names) →
      ScanOf n rest ps entries scan
  alone n k rest ps called form entries scan new h r s reach es sc nw =
      record {
        end = k + 1;
        ordered = omega arith;
        rises = r;
        some = s;
        below = λ l m g. reach l m ∙ off_line k l (is_in (read form) m) (λ e. omega arith);
        above = λ l m g. reach l m ∙ off_line k l (is_in (read form) m) (λ e. omega arith);
        climbs = λ scope. subst (Climbs n (k + 1)) (sym (es scope)) (h, omega arith);
        finds = λ u ctx scope before scoped.
            let spot : Spot = record { earlier = before; here = record { line = k; called = called; scope = scope; says = form } } in
            found_is (first_met (by_fourth outline) before (entries scope)) (or_else (by_fourth outline spot) None) (scan (map u names)) (and_then (reads_scanned names k (read form) (map u names)) (λ _. Ok (new (map u names))))
            (map (λ m. u m && misses m ps) names) (map (λ m. u m && misses m ps) names)
            (ap (first_met (by_fourth outline) before) (es scope)) (sc (map u names)) refl
            (found_line (by_fourth outline spot) (named 4 k (leftmost (filter (is_open names (map u names)) (read form)))) None (Ok (new (map u names))) (map (λ m. u m && misses m ps) names)
            (reads_are u spot scoped (λ m i. ctx k m h (omega arith) ∙ ap (λ b. u m && b) (reach k m ∙ on_line k (is_in (read form) m) i) ∙ and_true (u m)))
            (ap Ok (nw u)));
      }

  -- a statement that ends the body run
  ends : (n k : ℕ) (rest : List NumberedLine) (ps : List Path) (entries : Scope → List Entry) (scan : Scan) → n ≤ k → Rises (k + 1) rest → ps ≡ ending [] ∷ [] →
      ((scope : Scope) → entries scope ≡ []) → ((marks : List Bool) → scan marks ≡ Ok (none_open marks)) → ScanOf n rest ps entries scan
  ends n k rest ps entries scan h r e es sc =
      let none : (l : ℕ) (m : List ℕ) → is_reached ps l m ≡ false = λ l m. ap (λ qs. is_reached qs l m) e in
      record {
        end = k + 1;
        ordered = omega arith;
        rises = r;
        some = subst IsSome (sym e) tt;
        below = λ l m g. none l m;
        above = λ l m g. none l m;
        climbs = λ scope. subst (Climbs n (k + 1)) (sym (es scope)) (omega arith);
        finds = λ u ctx scope before scoped.
            found_is (first_met (by_fourth outline) before (entries scope)) None (scan (map u names)) (Ok (none_open (map u names)))
            (map (λ m. u m && misses m ps) names) (map (λ m. u m && misses m ps) names)
            (ap (first_met (by_fourth outline) before) (es scope)) (sc (map u names)) refl
            (ap Ok (none_left u (λ m. u m && misses m ps) (λ m. ap (λ qs. u m && misses m qs) e ∙ and_false (u m)) names));
      }

  -- ---- one thing after another

  both_off : (a m q : Bool) → a ≡ false → q ≡ false → (a || (m && q)) ≡ false
  both_off a m q e f = ap (λ b. b || (m && q)) e ∙ ap (λ b. m && b) f ∙ and_false m

  left_on : (a m q : Bool) → q ≡ false → (a || (m && q)) ≡ a
  left_on a m q e = ap (λ b. a || (m && b)) e ∙ ap (λ b. a || b) (and_false m) ∙ or_false a

  right_on : (a m q : Bool) → a ≡ false → (a || (m && q)) ≡ (m && q)
  right_on a m q e = ap (λ b. b || (m && q)) e

  one_then : (n : ℕ) (us rest : List NumberedLine) (ps qs : List Path) (here : Scope → Listed) (entries : Scope → List Entry) (scan : Scan) (scans : Scan) →
      (first : ScanOf n us ps (λ scope. let z : Listed = here scope in z.entries) scan) → (others : ScanOf first.end rest qs entries scans) →
      ((scope : Scope) → Scoped scope → let z : Listed = here scope in Scoped z.scope) →
      ScanOf n rest (flat_map (followed_by qs) ps) (λ scope. let z : Listed = here scope in z.entries ++ entries z.scope) (λ marks. and_then (scan marks) scans)
  one_then n us rest ps qs here entries scan scans first others keeps =
      let a : n ≤ first.end = first.ordered in
      let b : first.end ≤ others.end = others.ordered in
      record {
        end = others.end;
        ordered = omega arith;
        rises = others.rises;
        some = some_in_turn ps qs first.some others.some;
        below = λ l m g.
            reached_in_turn ps qs l m others.some
            ∙ both_off (is_reached ps l m) (misses m ps) (is_reached qs l m) (first.below l m g) (others.below l m (omega arith));
        above = λ l m g.
            reached_in_turn ps qs l m others.some
            ∙ both_off (is_reached ps l m) (misses m ps) (is_reached qs l m) (first.above l m (omega arith)) (others.above l m g);
        climbs = λ scope. let z : Listed = here scope in climbs_joined n first.end others.end z.entries (entries z.scope) (first.climbs scope) (others.climbs z.scope);
        finds = λ u ctx scope before scoped.
            let z : Listed = here scope in
            found_is (first_met (by_fourth outline) before (z.entries ++ entries z.scope))
            (or_else (first_met (by_fourth outline) before z.entries) (first_met (by_fourth outline) (before ++ z.entries) (entries z.scope)))
            (and_then (scan (map u names)) scans) (and_then (scan (map u names)) scans)
            (map (λ m. u m && misses m (flat_map (followed_by qs) ps)) names) (map (λ m. (u m && misses m ps) && misses m qs) names)
            (met_joined (by_fourth outline) before z.entries (entries z.scope)) refl
            (map_same (λ m. u m && misses m (flat_map (followed_by qs) ps)) (λ m. (u m && misses m ps) && misses m qs)
            (λ m. ap (λ c. u m && c) (missed_in_turn ps qs m) ∙ and_assoc (u m) (misses m ps) (misses m qs)) names)
            (found_then (first_met (by_fourth outline) before z.entries) (first_met (by_fourth outline) (before ++ z.entries) (entries z.scope))
            (scan (map u names)) (map (λ m. u m && misses m ps) names) (map (λ m. (u m && misses m ps) && misses m qs) names) scans
            (first.finds u (λ l m g h.
            ctx l m g (omega arith)
            ∙ ap (λ c. u m && c) (reached_in_turn ps qs l m others.some ∙ left_on (is_reached ps l m) (misses m ps) (is_reached qs l m) (others.below l m h)))
            scope before scoped)
            (others.finds (λ m. u m && misses m ps) (λ l m g h.
            ctx l m (omega arith) h
            ∙ ap (λ c. u m && c) (reached_in_turn ps qs l m others.some ∙ right_on (is_reached ps l m) (misses m ps) (is_reached qs l m) (first.above l m g))
            ∙ and_assoc (u m) (misses m ps) (is_reached qs l m))
            z.scope (before ++ z.entries) (keeps scope scoped)));
      }

  -- ---- branches

  abbrev pub of_block : List Statement → Scope → List Entry
  of_block xs = in_turn (map statement_listing xs)

  abbrev pub of_parts : List Branch → List Statement → Scope → List Entry
  of_parts branches other scope = branches_in_turn (codes "elseif") (map branch_listing branches) scope ++ in_turn (map statement_listing other) scope

  abbrev pub paths_of_block : List Statement → List Path
  paths_of_block xs = paths_in_turn (map statement_paths xs)

  abbrev pub paths_of_parts : List Branch → List Statement → List Path
  paths_of_parts branches other = paths_of_one (map branch_paths branches) (paths_of_block other)

  abbrev pub block_scan : List Statement → Scan
  block_scan xs = block_scanned (map (statement_scanned names) xs)

  -- the pass over branches, told what is open before them and after those that are done
  abbrev pub parts_scan : List Branch → List Statement → List Bool → Scan
  parts_scan branches other marks out =
      and_then (branches_scanned (map (branch_scanned names) branches) marks out) (λ done. and_then (block_scan other marks) (λ after. Ok (where_either done after)))

  record PartsOf (n : ℕ) (rest : List NumberedLine) (ps : List Path) (entries : Scope → List Entry) (scan : List Bool → Scan) : Type 0 where
    pub end : ℕ
    pub ordered : n ≤ end
    pub rises : Rises end rest
    pub some : IsSome ps
    pub below : (l : ℕ) (m : List ℕ) → l < n → is_reached ps l m ≡ false
    pub above : (l : ℕ) (m : List ℕ) → end ≤ l → is_reached ps l m ≡ false
    pub climbs : (scope : Scope) → Climbs n end (entries scope)
    pub finds : (u v : List ℕ → Bool) → ((l : ℕ) (m : List ℕ) → n ≤ l → l < end → is_reached outline.paths l m ≡ (u m && is_reached ps l m)) →
        (scope : Scope) (before : List Entry) → Scoped scope →
        Found (first_met (by_fourth outline) before (entries scope)) (scan (map u names) (map v names)) (map (λ m. v m || (u m && misses m ps)) names)

  -- the paths of a condition with its block, and of what follows where it doesn't hold
  branch_reached : (b : Branch) (ps qs : List Path) (l : ℕ) (m : List ℕ) → IsSome ps →
      is_reached (map (after (line_reads b.line (names_read b.test))) (ps ++ qs)) l m ≡ ((b.line == l && is_in (names_read b.test) m) || (is_reached ps l m || is_reached qs l m))
  branch_reached b ps qs l m s =
      let es = line_reads b.line (names_read b.test) in
      reached_after es (ps ++ qs) l m (some_either ps qs s)
      ∙ ap (λ c. c || (not (assigned_on m es) && is_reached (ps ++ qs) l m)) (line_reaches l m b.line (names_read b.test))
      ∙ ap (λ c. (b.line == l && is_in (names_read b.test) m) || (not c && is_reached (ps ++ qs) l m)) (reads_assign_none m b.line (names_read b.test))
      ∙ ap (λ c. (b.line == l && is_in (names_read b.test) m) || c) (reached_either ps qs l m)

  branch_missed : (b : Branch) (ps qs : List Path) (m : List ℕ) → misses m (map (after (line_reads b.line (names_read b.test))) (ps ++ qs)) ≡ (misses m ps || misses m qs)
  branch_missed b ps qs m =
      let es = line_reads b.line (names_read b.test) in
      missed_after es (ps ++ qs) m ∙ ap (λ c. not c && misses m (ps ++ qs)) (reads_assign_none m b.line (names_read b.test)) ∙ missed_either ps qs m

  three_off : (a b c : Bool) → a ≡ false → b ≡ false → c ≡ false → (a || (b || c)) ≡ false
  three_off a b c e f g = ap (λ x. x || (b || c)) e ∙ ap (λ x. x || c) f ∙ g

  middle_on : (a b c : Bool) → a ≡ false → c ≡ false → (a || (b || c)) ≡ b
  middle_on a b c e g = ap (λ x. x || (b || c)) e ∙ ap (λ x. b || x) g ∙ or_false b

  last_on : (a b c : Bool) → a ≡ false → b ≡ false → (a || (b || c)) ≡ c
  last_on a b c e f = ap (λ x. x || (b || c)) e ∙ ap (λ x. x || c) f

  gathered : (v u a c : Bool) → (v || (u && (a || c))) ≡ ((v || (u && a)) || (u && c))
  gathered true u a c = refl
  gathered false true a c = refl
  gathered false false a c = refl

  with_branch : (n : ℕ) (word : List ℕ) (b : Branch) (us rest : List NumberedLine) (branches : List Branch) (other : List Statement) → n ≤ b.line →
      (block : ScanOf (b.line + 1) us (paths_of_block b.block) (of_block b.block) (block_scan b.block)) →
      (parts : PartsOf block.end rest (paths_of_parts branches other) (of_parts branches other) (parts_scan branches other)) →
      PartsOf n rest (paths_of_parts (b ∷ branches) other) (λ scope. branch_listing b word scope ++ of_parts branches other scope) (parts_scan (b ∷ branches) other)
  with_branch n word b us rest branches other h block parts =
      let ps = paths_of_block b.block in
      let qs = paths_of_parts branches other in
      let whole = paths_of_parts (b ∷ branches) other in
      let k : b.line + 1 ≤ block.end = block.ordered in
      let j : block.end ≤ parts.end = parts.ordered in
      let layer : whole ≡ map (after (line_reads b.line (names_read b.test))) (ps ++ qs) = paths-branch b qs in
      let reached : (l : ℕ) (m : List ℕ) → is_reached whole l m ≡ ((b.line == l && is_in (names_read b.test) m) || (is_reached ps l m || is_reached qs l m)) =
      λ l m. ap (λ z. is_reached z l m) layer ∙ branch_reached b ps qs l m block.some in
      let missed : (m : List ℕ) → misses m whole ≡ (misses m ps || misses m qs) = λ m. ap (misses m) layer ∙ branch_missed b ps qs m in
      record {
        end = parts.end;
        ordered = omega arith;
        rises = parts.rises;
        some = subst IsSome (sym layer) (some_after (line_reads b.line (names_read b.test)) (ps ++ qs) (some_either ps qs block.some));
        below = λ l m g.
            reached l m
            ∙ three_off (b.line == l && is_in (names_read b.test) m) (is_reached ps l m) (is_reached qs l m) (off_line b.line l (is_in (names_read b.test) m) (λ e. omega arith)) (block.below l m (omega arith)) (parts.below l m (omega arith));
        above = λ l m g.
            reached l m
            ∙ three_off (b.line == l && is_in (names_read b.test) m) (is_reached ps l m) (is_reached qs l m) (off_line b.line l (is_in (names_read b.test) m) (λ e. omega arith)) (block.above l m (omega arith)) (parts.above l m g);
        climbs = λ scope.
            let test : Entry = record { line = b.line; called = word; scope = scope; says = condition b.test } in
            climbs_joined n block.end parts.end (branch_listing b word scope) (of_parts branches other scope)
            (subst (Climbs n block.end) (sym (listing-branch b word scope)) (h, block.climbs scope)) (parts.climbs scope);
        finds = λ u v ctx scope before scoped.
            let f = by_fourth outline in
            let test : Entry = record { line = b.line; called = word; scope = scope; says = condition b.test } in
            let spot : Spot = record { earlier = before; here = test } in
            let x = f spot in
            let y = first_met f (before ++ test ∷ []) (of_block b.block scope) in
            let z = first_met f ((before ++ test ∷ []) ++ of_block b.block scope) (of_parts branches other scope) in
            let o = named 4 b.line (leftmost (filter (is_open names (map u names)) (names_read b.test))) in
            let w : List ℕ → Bool = λ m. v m || (u m && misses m ps) in
            let end : List Bool = map (λ m. w m || (u m && misses m qs)) names in
            let rest_of : Scan = λ done. parts_scan branches other (map u names) (where_either (map v names) done) in
            found_is (first_met f before (branch_listing b word scope ++ of_parts branches other scope)) (or_else x (or_else y z))
            (parts_scan (b ∷ branches) other (map u names) (map v names)) (and_then (answer o) (λ _. and_then (block_scan b.block (map u names)) rest_of))
            (map (λ m. v m || (u m && misses m whole)) names) end
            (ap (λ es. first_met f before (es ++ of_parts branches other scope)) (listing-branch b word scope)
            ∙ ap (or_else x) (met_joined f (before ++ test ∷ []) (of_block b.block scope) (of_parts branches other scope)))
            (then_assoc (branch_scanned names b (map u names)) (λ after. branches_scanned (map (branch_scanned names) branches) (map u names) (where_either (map v names) after)) (λ done. and_then (block_scan other (map u names)) (λ after. Ok (where_either done after)))
            ∙ ap (λ r. and_then r rest_of) (scanned-branch names b (map u names))
            ∙ answer_assoc o (block_scan b.block (map u names)) rest_of)
            (map_same (λ m. v m || (u m && misses m whole)) (λ m. w m || (u m && misses m qs))
            (λ m. ap (λ c. v m || (u m && c)) (missed m) ∙ gathered (v m) (u m) (misses m ps) (misses m qs)) names)
            (found_line x o (or_else y z) (and_then (block_scan b.block (map u names)) rest_of) end
            (reads_are u spot scoped (λ m i.
            ctx b.line m h (omega arith)
            ∙ ap (λ c. u m && c)
            (reached b.line m
            ∙ ap (λ c. c || (is_reached ps b.line m || is_reached qs b.line m)) (on_line b.line (is_in (names_read b.test) m) i))
            ∙ and_true (u m)))
            (found_then y z (block_scan b.block (map u names)) (map (λ m. u m && misses m ps) names) end rest_of
            (block.finds u (λ l m g i.
            ctx l m (omega arith) (omega arith)
            ∙ ap (λ c. u m && c)
            (reached l m
            ∙ middle_on (b.line == l && is_in (names_read b.test) m) (is_reached ps l m) (is_reached qs l m) (off_line b.line l (is_in (names_read b.test) m) (λ e. omega arith)) (parts.below l m i)))
            scope (before ++ test ∷ []) scoped)
            (let Q : List Bool → Type 0 = λ out. Found z (parts_scan branches other (map u names) out) end in
            subst Q (sym (met_either v (λ m. u m && misses m ps) names))
            (parts.finds u w (λ l m g i.
            ctx l m (omega arith) i
            ∙ ap (λ c. u m && c)
            (reached l m
            ∙ last_on (b.line == l && is_in (names_read b.test) m) (is_reached ps l m) (is_reached qs l m) (off_line b.line l (is_in (names_read b.test) m) (λ e. omega arith)) (block.above l m g)))
            scope ((before ++ test ∷ []) ++ of_block b.block scope) scoped))));
      }

  -- with no condition left
  with_other : (n k : ℕ) (rest : List NumberedLine) (other : List Statement) (us : List NumberedLine) → n ≤ k → (block : ScanOf (k + 1) us (paths_of_block other) (of_block other) (block_scan other)) →
      (m : ℕ) → block.end ≤ m → Rises (m + 1) rest → PartsOf n rest (paths_of_parts [] other) (of_parts [] other) (parts_scan [] other)
  with_other n k rest other us h block m j r =
      let a : k + 1 ≤ block.end = block.ordered in
      let ps = paths_of_block other in
      record {
        end = m + 1;
        ordered = omega arith;
        rises = r;
        some = block.some;
        below = λ l q g. block.below l q (omega arith);
        above = λ l q g. block.above l q (omega arith);
        climbs = λ scope. climbs_to n (k + 1) block.end (m + 1) (of_block other scope) (omega arith) (omega arith) (block.climbs scope);
        finds = λ u v ctx scope before scoped.
            let f = by_fourth outline in
            let x = first_met f before (of_block other scope) in
            found_is x (or_else x None) (and_then (block_scan other (map u names)) (λ after. Ok (where_either (map v names) after))) (and_then (block_scan other (map u names)) (λ after. Ok (where_either (map v names) after)))
            (map (λ q. v q || (u q && misses q ps)) names) (map (λ q. v q || (u q && misses q ps)) names) (sym (or_none x)) refl refl
            (found_then x None (block_scan other (map u names)) (map (λ q. u q && misses q ps) names) (map (λ q. v q || (u q && misses q ps)) names)
            (λ after. Ok (where_either (map v names) after))
            (block.finds u (λ l q g i. ctx l q (omega arith) (omega arith)) scope before scoped)
            (ap Ok (met_either v (λ q. u q && misses q ps) names)));
      }

  as_statement : (n : ℕ) (rest : List NumberedLine) (ps qs : List Path) (entries others : Scope → List Entry) (scan : List Bool → Scan) (whole : Scan) →
      ps ≡ qs → ((scope : Scope) → others scope ≡ entries scope) → ((marks : List Bool) → whole marks ≡ scan marks (none_open marks)) → PartsOf n rest qs entries scan → ScanOf n rest ps others whole
  as_statement n rest ps qs entries others scan whole e es sc parts =
      record {
        end = parts.end;
        ordered = parts.ordered;
        rises = parts.rises;
        some = subst IsSome (sym e) parts.some;
        below = λ l m g. ap (λ z. is_reached z l m) e ∙ parts.below l m g;
        above = λ l m g. ap (λ z. is_reached z l m) e ∙ parts.above l m g;
        climbs = λ scope. subst (Climbs n parts.end) (sym (es scope)) (parts.climbs scope);
        finds = λ u ctx scope before scoped.
            found_is (first_met (by_fourth outline) before (others scope)) (first_met (by_fourth outline) before (entries scope)) (whole (map u names)) (scan (map u names) (map (λ m. false) names))
            (map (λ m. u m && misses m ps) names) (map (λ m. false || (u m && misses m qs)) names)
            (ap (first_met (by_fourth outline) before) (es scope))
            (sc (map u names) ∙ ap (scan (map u names)) (none_left u (λ m. false) (λ m. refl) names))
            (map_same (λ m. u m && misses m ps) (λ m. false || (u m && misses m qs)) (λ m. ap (λ z. u m && misses m z) e) names)
            (parts.finds u (λ m. false) (λ l m g h. ctx l m g h ∙ ap (λ z. u m && is_reached z l m) e) scope before scoped);
      }

  -- ---- statements

  reads_only : (k : ℕ) (ns : List (List ℕ)) (l : ℕ) (m : List ℕ) → is_reached (going (line_reads k ns) ∷ []) l m ≡ (k == l && is_in ns m)
  reads_only k ns l m = or_false _ ∙ line_reaches l m k ns

  stays : (k : ℕ) (ns : List (List ℕ)) (m : List ℕ) → misses m (going (line_reads k ns) ∷ []) ≡ true
  stays k ns m = ap (λ b. not b || false) (reads_assign_none m k ns)

  kept_open : (u : List ℕ → Bool) (ps : List Path) → ((m : List ℕ) → misses m ps ≡ true) → map u names ≡ map (λ m. u m && misses m ps) names
  kept_open u ps h = map_same u (λ m. u m && misses m ps) (λ m. sym (ap (λ b. u m && b) (h m) ∙ and_true (u m))) names

  keeps_scope : (x y : Listed) → x ≡ y → Scoped y.scope → Scoped x.scope
  keeps_scope x y e s = let P : Listed → Type 0 = λ z. Scoped z.scope in subst P (sym e) s

  as_listed : (x y : Listed) → x ≡ y → x.entries ≡ y.entries
  as_listed x y e = ap (λ (z : Listed). z.entries) e

  abbrev pub of_statement : Statement → Scope → List Entry
  of_statement x scope = let here : Listed = statement_listing x scope in here.entries

  set_reads : (k : ℕ) (ns : List (List ℕ)) (a : List ℕ) (l : ℕ) (m : List ℕ) → is_reached (going (line_reads k ns ++ assigns a ∷ []) ∷ []) l m ≡ (k == l && is_in ns m)
  set_reads k ns a l m =
      or_false _
      ∙ first_joined l m (line_reads k ns) (assigns a ∷ [])
      ∙ ap (λ b. reads_first l m (line_reads k ns) || (not (assigned_on m (line_reads k ns)) && b)) (and_false (not (bytes_eq m a)))
      ∙ ap (λ b. reads_first l m (line_reads k ns) || b) (and_false (not (assigned_on m (line_reads k ns))))
      ∙ or_false (reads_first l m (line_reads k ns))
      ∙ line_reaches l m k ns

  set_misses : (k : ℕ) (ns : List (List ℕ)) (a m : List ℕ) → misses m (going (line_reads k ns ++ assigns a ∷ []) ∷ []) ≡ not (bytes_eq m a)
  set_misses k ns a m =
      or_false _
      ∙ ap not (assigned_joined m (line_reads k ns) (assigns a ∷ []) ∙ ap (λ b. b || (bytes_eq m a || false)) (reads_assign_none m k ns) ∙ or_false (bytes_eq m a))

  twice : (a : Bool) → (a || (a || false)) ≡ a
  twice true = refl
  twice false = refl

  keep_reads : (k : ℕ) (ns : List (List ℕ)) (l : ℕ) (m : List ℕ) → is_reached (going (line_reads k ns) ∷ ending (line_reads k ns) ∷ []) l m ≡ (k == l && is_in ns m)
  keep_reads k ns l m = twice (reads_first l m (line_reads k ns)) ∙ line_reaches l m k ns

  keep_misses : (k : ℕ) (ns : List (List ℕ)) (m : List ℕ) → misses m (going (line_reads k ns) ∷ ending (line_reads k ns) ∷ []) ≡ true
  keep_misses k ns m = ap (λ b. not b || false) (reads_assign_none m k ns)

  statement_keeps : {r : ℕ} {x : Statement} {from rest : List NumberedLine} → NestsStatement r x from rest → (scope : Scope) → Scoped scope →
      let here : Listed = statement_listing x scope in Scoped here.scope
  statement_keeps (NestsStatement.let_ {n = k} {names = ns} {x = x}) scope s =
      keeps_scope _ _ (listing-Let scope k ns x) (scoped_each ns (pattern_kinds ns (found (kind_of x (kinds_in scope)))) scope s)
  statement_keeps (NestsStatement.set {n = k} {name = m} {x = x}) scope s = keeps_scope _ _ (listing-Set scope k m x) (subst Scoped (sym (append-nil scope)) s)
  statement_keeps (NestsStatement.keep {n = k} {name = m} {x = x}) scope s =
      keeps_scope _ _ (listing-Keep scope k m x) (scoped_one scope m (option_and_then unwrapped (found (kind_of x (kinds_in scope)))) s)
  statement_keeps (NestsStatement.reduce {n = k} {name = m} {x = x} {start = start}) scope s =
      keeps_scope _ _ (listing-Reduce scope k m x start) (subst Scoped (sym (append-nil scope)) s)
  statement_keeps (NestsStatement.continue {n = k}) scope s = keeps_scope _ _ (listing-Continue scope k) s
  statement_keeps (NestsStatement.break {n = k}) scope s = keeps_scope _ _ (listing-Break scope k) s
  statement_keeps (NestsStatement.if_ {n = k} {m = m} {x = x} {block = block} {branches = branches} {else_line = el} {other = other} b p) scope s =
      keeps_scope _ _ (listing-If scope k (record { line = k; test = x; block = block } ∷ branches) el other m) s

  reformed : (n : ℕ) (rest : List NumberedLine) (ps : List Path) (entries others : Scope → List Entry) (scan : List Bool → Scan) →
      ((scope : Scope) → others scope ≡ entries scope) → PartsOf n rest ps entries scan → PartsOf n rest ps others scan
  reformed n rest ps entries others scan es parts =
      record {
        end = parts.end;
        ordered = parts.ordered;
        rises = parts.rises;
        some = parts.some;
        below = parts.below;
        above = parts.above;
        climbs = λ scope. subst (Climbs n parts.end) (sym (es scope)) (parts.climbs scope);
        finds = λ u v ctx scope before scoped.
            found_is (first_met (by_fourth outline) before (others scope)) (first_met (by_fourth outline) before (entries scope)) (scan (map u names) (map v names)) (scan (map u names) (map v names))
            (map (λ m. v m || (u m && misses m ps)) names) (map (λ m. v m || (u m && misses m ps)) names)
            (ap (first_met (by_fourth outline) before) (es scope)) refl refl (parts.finds u v ctx scope before scoped);
      }

  no_other : (n m : ℕ) (rest : List NumberedLine) → n ≤ m → Rises (m + 1) rest → PartsOf n rest (paths_of_parts [] []) (of_parts [] []) (parts_scan [] [])
  no_other n m rest h r =
      record {
        end = m + 1;
        ordered = omega arith;
        rises = r;
        some = tt;
        below = λ l q g. refl;
        above = λ l q g. refl;
        climbs = λ scope. omega arith;
        finds = λ u v ctx scope before scoped.
            ap Ok (met_either v u names ∙ map_same (λ q. v q || u q) (λ q. v q || (u q && true)) (λ q. ap (λ b. v q || b) (sym (and_true (u q)))) names);
      }

  mutual
    pub statement_scans : {r : ℕ} {x : Statement} {from rest : List NumberedLine} → NestsStatement r x from rest → (n : ℕ) → Rises n from →
        ScanOf n rest (statement_paths x) (of_statement x) (statement_scanned names x)
    statement_scans (NestsStatement.let_ {n = k} {names = ns} {x = x} {rest = rest}) n r =
        let ps = statement_paths (stm.Let k ns x) in
        alone n k rest ps (first_name ns) (let_line ns x) (of_statement (stm.Let k ns x)) (statement_scanned names (stm.Let k ns x)) (λ marks. marks) r.0 r.1
        (subst IsSome (sym (paths-Let k ns x)) tt)
        (λ l m. ap (λ z. is_reached z l m) (paths-Let k ns x) ∙ reads_only k (names_read x) l m)
        (λ scope. as_listed _ _ (listing-Let scope k ns x))
        (λ marks. scanned-Let names marks k ns x)
        (λ u. kept_open u ps (λ m. ap (misses m) (paths-Let k ns x) ∙ stays k (names_read x) m))
    statement_scans (NestsStatement.set {n = k} {name = a} {x = x} {rest = rest}) n r =
        let ps = statement_paths (stm.Set k a x) in
        alone n k rest ps a (set_line a x) (of_statement (stm.Set k a x)) (statement_scanned names (stm.Set k a x)) (λ marks. close names marks a) r.0 r.1
        (subst IsSome (sym (paths-Set k a x)) tt)
        (λ l m. ap (λ z. is_reached z l m) (paths-Set k a x) ∙ set_reads k (names_read x) a l m)
        (λ scope. as_listed _ _ (listing-Set scope k a x))
        (λ marks. scanned-Set names marks k a x)
        (λ u. closed u names a
        ∙ map_same (λ m. u m && not (bytes_eq m a)) (λ m. u m && misses m ps)
        (λ m. ap (λ b. u m && b) (sym (ap (misses m) (paths-Set k a x) ∙ set_misses k (names_read x) a m))) names)
    statement_scans (NestsStatement.keep {n = k} {name = a} {x = x} {rest = rest}) n r =
        let ps = statement_paths (stm.Keep k a x) in
        alone n k rest ps a (keep_line a x) (of_statement (stm.Keep k a x)) (statement_scanned names (stm.Keep k a x)) (λ marks. marks) r.0 r.1
        (subst IsSome (sym (paths-Keep k a x)) tt)
        (λ l m. ap (λ z. is_reached z l m) (paths-Keep k a x) ∙ keep_reads k (names_read x) l m)
        (λ scope. as_listed _ _ (listing-Keep scope k a x))
        (λ marks. scanned-Keep names marks k a x)
        (λ u. kept_open u ps (λ m. ap (misses m) (paths-Keep k a x) ∙ keep_misses k (names_read x) m))
    statement_scans (NestsStatement.reduce {n = k} {name = a} {x = x} {start = start} {rest = rest}) n r =
        let ps = statement_paths (stm.Reduce k a x start) in
        alone n k rest ps a (reduce_line a x start) (of_statement (stm.Reduce k a x start)) (statement_scanned names (stm.Reduce k a x start)) (λ marks. marks) r.0 r.1
        (subst IsSome (sym (paths-Reduce k a x start)) tt)
        (λ l m. ap (λ z. is_reached z l m) (paths-Reduce k a x start) ∙ reads_only k (names_read_in_tower x) l m)
        (λ scope. as_listed _ _ (listing-Reduce scope k a x start))
        (λ marks. scanned-Reduce names marks k a x start)
        (λ u. kept_open u ps (λ m. ap (misses m) (paths-Reduce k a x start) ∙ stays k (names_read_in_tower x) m))
    statement_scans (NestsStatement.continue {n = k} {rest = rest}) n r =
        ends n k rest (statement_paths (stm.Continue k)) (of_statement (stm.Continue k)) (statement_scanned names (stm.Continue k)) r.0 r.1 (paths-Continue k)
        (λ scope. as_listed _ _ (listing-Continue scope k)) (λ marks. scanned-Continue names marks k)
    statement_scans (NestsStatement.break {n = k} {rest = rest}) n r =
        ends n k rest (statement_paths (stm.Break k)) (of_statement (stm.Break k)) (statement_scanned names (stm.Break k)) r.0 r.1 (paths-Break k)
        (λ scope. as_listed _ _ (listing-Break scope k)) (λ marks. scanned-Break names marks k)
    statement_scans (NestsStatement.if_ {n = k} {m = m} {x = x} {block = block} {branches = branches} {else_line = el} {other = other} b p) n r =
        let first = block_scans b (k + 1) r.1 in
        let branch : Branch = record { line = k; test = x; block = block } in
        as_statement n _ (statement_paths (stm.If k (branch ∷ branches) el other m)) (paths_of_parts (branch ∷ branches) other)
        (λ scope. branch_listing branch (codes "if") scope ++ of_parts branches other scope) (of_statement (stm.If k (branch ∷ branches) el other m))
        (parts_scan (branch ∷ branches) other) (statement_scanned names (stm.If k (branch ∷ branches) el other m))
        (paths-If k (branch ∷ branches) el other m)
        (λ scope.
        as_listed _ _ (listing-If scope k (branch ∷ branches) el other m)
        ∙ append_assoc (branch_listing branch (codes "if") scope) (branches_in_turn (codes "elseif") (map branch_listing branches) scope) (in_turn (map statement_listing other) scope))
        (λ marks. scanned-If names marks k (branch ∷ branches) el other m)
        (with_branch n (codes "if") branch _ _ branches other r.0 first (parts_scans p first.end first.rises))

    pub block_scans : {r : ℕ} {xs : List Statement} {from rest : List NumberedLine} → NestsBlock r xs from rest → (n : ℕ) → Rises n from →
        ScanOf n rest (paths_of_block xs) (of_block xs) (block_scan xs)
    block_scans NestsBlock.none n r =
        record {
          end = n;
          ordered = omega arith;
          rises = r;
          some = tt;
          below = λ l m g. refl;
          above = λ l m g. refl;
          climbs = λ scope. omega arith;
          finds = λ u ctx scope before scoped. ap Ok (kept_open u (paths_of_block []) (λ m. refl));
        }
    block_scans (NestsBlock.more {x = x} {xs = xs} h b) n r =
        let first = statement_scans h n r in
        one_then n _ _ (statement_paths x) (paths_of_block xs) (statement_listing x) (of_block xs) (statement_scanned names x) (block_scan xs) first (block_scans b first.end first.rises)
        (statement_keeps h)

    parts_scans : {r m el : ℕ} {branches : List Branch} {other : List Statement} {from rest : List NumberedLine} → NestsParts r branches el other m from rest → (n : ℕ) → Rises n from →
        PartsOf n rest (paths_of_parts branches other) (of_parts branches other) (parts_scan branches other)
    parts_scans (NestsParts.elseif {n = k} {x = x} {block = block} {branches = branches} {other = other} b p) n r =
        let first = block_scans b (k + 1) r.1 in
        let branch : Branch = record { line = k; test = x; block = block } in
        reformed n _ (paths_of_parts (branch ∷ branches) other) (λ scope. branch_listing branch (codes "elseif") scope ++ of_parts branches other scope) (of_parts (branch ∷ branches) other)
        (parts_scan (branch ∷ branches) other)
        (λ scope. append_assoc (branch_listing branch (codes "elseif") scope) (branches_in_turn (codes "elseif") (map branch_listing branches) scope) (in_turn (map statement_listing other) scope))
        (with_branch n (codes "elseif") branch _ _ branches other r.0 first (parts_scans p first.end first.rises))
    parts_scans (NestsParts.else_ {n = k} {m = m} {other = other} b) n r =
        let block = block_scans b (k + 1) r.1 in
        with_other n k _ other _ r.0 block m block.rises.0 block.rises.1
    parts_scans (NestsParts.end {m = m}) n r = no_other n m _ r.0 r.1
