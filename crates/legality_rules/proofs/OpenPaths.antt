-- Paths one after another and side by side: which reads they reach, and whether one goes on without assigning a name.
use Rattle.std.proofs.Common.{◌≡◌, ℕ, Bool, true, false, List, [], ◌∷◌, ◌++◌, map, refl, sym, ◌∙◌, ap}
use Rattle.std.specs.Prelude.{◌==◌, not, ◌&&◌, ◌||◌, if◌then◌else◌, flat_map}
use Rattle.std.specs.List.{list_any}
use Rattle.std.specs.Str.{bytes_eq}
use Rattle.legality_rules.specs.Scopes.{is_in}
use Rattle.legality_rules.specs.Paths.{Event, reads, assigns, Path, after, followed_by, line_reads, reads_first, is_reached, assigned_on, misses, misses_on}

-- ---- truth values

pub or_assoc : (a b c : Bool) → (a || (b || c)) ≡ ((a || b) || c)
or_assoc true b c = refl
or_assoc false b c = refl

pub and_assoc : (a b c : Bool) → (a && (b && c)) ≡ ((a && b) && c)
and_assoc true b c = refl
and_assoc false b c = refl

pub or_false : (a : Bool) → (a || false) ≡ a
or_false true = refl
or_false false = refl

pub and_true : (a : Bool) → (a && true) ≡ a
and_true true = refl
and_true false = refl

pub and_false : (a : Bool) → (a && false) ≡ false
and_false true = refl
and_false false = refl

-- ---- events

guarded : (b r a q : Bool) → (not b && (r || (not a && q))) ≡ ((not b && r) || (not (b || a) && q))
guarded true r a q = refl
guarded false r a q = refl

pub first_joined : (l : ℕ) (n : List ℕ) (es fs : List Event) → reads_first l n (es ++ fs) ≡ (reads_first l n es || (not (assigned_on n es) && reads_first l n fs))
first_joined l n [] fs = refl
first_joined l n (reads k m ∷ es) fs =
    ap (λ b. (k == l && bytes_eq n m) || b) (first_joined l n es fs)
    ∙ or_assoc (k == l && bytes_eq n m) (reads_first l n es) (not (assigned_on n es) && reads_first l n fs)
first_joined l n (assigns m ∷ es) fs =
    ap (λ b. not (bytes_eq n m) && b) (first_joined l n es fs)
    ∙ guarded (bytes_eq n m) (reads_first l n es) (assigned_on n es) (reads_first l n fs)

pub assigned_joined : (n : List ℕ) (es fs : List Event) → assigned_on n (es ++ fs) ≡ (assigned_on n es || assigned_on n fs)
assigned_joined n [] fs = refl
assigned_joined n (reads k m ∷ es) fs = assigned_joined n es fs
assigned_joined n (assigns m ∷ es) fs = ap (λ b. bytes_eq n m || b) (assigned_joined n es fs) ∙ or_assoc (bytes_eq n m) (assigned_on n es) (assigned_on n fs)

pub reads_assign_none : (n : List ℕ) (k : ℕ) (ns : List (List ℕ)) → assigned_on n (line_reads k ns) ≡ false
reads_assign_none n k [] = refl
reads_assign_none n k (m ∷ ns) = reads_assign_none n k ns

one_or_rest : (a b c : Bool) → ((a && b) || (a && c)) ≡ (a && (b || c))
one_or_rest true b c = refl
one_or_rest false b c = refl

-- a line's reads reach exactly those of its names
pub line_reaches : (l : ℕ) (n : List ℕ) (k : ℕ) (ns : List (List ℕ)) → reads_first l n (line_reads k ns) ≡ (k == l && is_in ns n)
line_reaches l n k [] = sym (and_false (k == l))
line_reaches l n k (m ∷ ns) =
    ap (λ b. (k == l && bytes_eq n m) || b) (line_reaches l n k ns) ∙ one_or_rest (k == l) (bytes_eq n m) (is_in ns n)

-- ---- paths

abbrev pub IsSome : List Path → Type 0
IsSome [] = ⊥
IsSome (p ∷ ps) = Unit {0}

any_joined : (f : Path → Bool) (ps qs : List Path) → list_any f (ps ++ qs) ≡ (list_any f ps || list_any f qs)
any_joined f [] qs = refl
any_joined f (p ∷ ps) qs = ap (λ b. f p || b) (any_joined f ps qs) ∙ or_assoc (f p) (list_any f ps) (list_any f qs)

pub reached_either : (ps qs : List Path) (l : ℕ) (n : List ℕ) → is_reached (ps ++ qs) l n ≡ (is_reached ps l n || is_reached qs l n)
reached_either ps qs l n = any_joined (λ path. reads_first l n path.events) ps qs

pub missed_either : (ps qs : List Path) (n : List ℕ) → misses n (ps ++ qs) ≡ (misses n ps || misses n qs)
missed_either ps qs n = any_joined (misses_on n) ps qs

pub some_either : (ps qs : List Path) → IsSome ps → IsSome (ps ++ qs)
some_either [] qs s = absurd s
some_either (p ∷ ps) qs s = tt

-- ---- events, and then paths

spread : (a x r s : Bool) → ((a || (x && r)) || (a || (x && s))) ≡ (a || (x && (r || s)))
spread true x r s = refl
spread false true r s = refl
spread false false r s = refl

spread_one : (a x r : Bool) → ((a || (x && r)) || false) ≡ (a || (x && (r || false)))
spread_one true x r = refl
spread_one false true r = refl
spread_one false false r = refl

pub reached_after : (es : List Event) (ps : List Path) (l : ℕ) (n : List ℕ) → IsSome ps →
    is_reached (map (after es) ps) l n ≡ (reads_first l n es || (not (assigned_on n es) && is_reached ps l n))
reached_after es [] l n s = absurd s
reached_after es (p ∷ []) l n s =
    ap (λ b. b || false) (first_joined l n es p.events) ∙ spread_one (reads_first l n es) (not (assigned_on n es)) (reads_first l n p.events)
reached_after es (p ∷ q ∷ ps) l n s =
    ap (λ b. b || is_reached (map (after es) (q ∷ ps)) l n) (first_joined l n es p.events)
    ∙ ap (λ b. (reads_first l n es || (not (assigned_on n es) && reads_first l n p.events)) || b) (reached_after es (q ∷ ps) l n tt)
    ∙ spread (reads_first l n es) (not (assigned_on n es)) (reads_first l n p.events) (is_reached (q ∷ ps) l n)

goes_without : (g a b : Bool) → (g && not (a || b)) ≡ (not a && (g && not b))
goes_without true true b = refl
goes_without true false b = refl
goes_without false true b = refl
goes_without false false b = refl

both_without : (x r s : Bool) → ((x && r) || (x && s)) ≡ (x && (r || s))
both_without true r s = refl
both_without false r s = refl

pub missed_after : (es : List Event) (ps : List Path) (n : List ℕ) → misses n (map (after es) ps) ≡ (not (assigned_on n es) && misses n ps)
missed_after es [] n = sym (and_false (not (assigned_on n es)))
missed_after es (p ∷ ps) n =
    ap (λ b. (p.goes_on && not b) || misses n (map (after es) ps)) (assigned_joined n es p.events)
    ∙ ap (λ b. b || misses n (map (after es) ps)) (goes_without p.goes_on (assigned_on n es) (assigned_on n p.events))
    ∙ ap (λ b. (not (assigned_on n es) && misses_on n p) || b) (missed_after es ps n)
    ∙ both_without (not (assigned_on n es)) (misses_on n p) (misses n ps)

pub some_after : (es : List Event) (ps : List Path) → IsSome ps → IsSome (map (after es) ps)
some_after es [] s = absurd s
some_after es (p ∷ ps) s = tt

-- ---- paths one after another

reach_step : (a m q r s : Bool) → ((a || (m && q)) || (r || (s && q))) ≡ ((a || r) || ((m || s) && q))
reach_step true m q r s = refl
reach_step false m q true s = or_true (m && q)
  where
    or_true : (a : Bool) → (a || true) ≡ true
    or_true true = refl
    or_true false = refl
reach_step false true true false s = refl
reach_step false true false false s = and_false s
reach_step false false q false s = refl

one_followed : (p : Path) (qs : List Path) (l : ℕ) (n : List ℕ) → IsSome qs → (t : Bool) → p.goes_on ≡ t →
    is_reached (if t then map (after p.events) qs else p ∷ []) l n ≡ (reads_first l n p.events || ((t && not (assigned_on n p.events)) && is_reached qs l n))
one_followed p qs l n s true e = reached_after p.events qs l n s
one_followed p qs l n s false e = refl

pub reached_in_turn : (ps qs : List Path) (l : ℕ) (n : List ℕ) → IsSome qs →
    is_reached (flat_map (followed_by qs) ps) l n ≡ (is_reached ps l n || (misses n ps && is_reached qs l n))
reached_in_turn [] qs l n s = refl
reached_in_turn (p ∷ ps) qs l n s =
    reached_either (followed_by qs p) (flat_map (followed_by qs) ps) l n
    ∙ ap (λ b. b || is_reached (flat_map (followed_by qs) ps) l n) (one_followed p qs l n s p.goes_on refl)
    ∙ ap (λ b. (reads_first l n p.events || (misses_on n p && is_reached qs l n)) || b) (reached_in_turn ps qs l n s)
    ∙ reach_step (reads_first l n p.events) (misses_on n p) (is_reached qs l n) (is_reached ps l n) (misses n ps)

one_missed : (p : Path) (qs : List Path) (n : List ℕ) (t : Bool) → p.goes_on ≡ t →
    misses n (if t then map (after p.events) qs else p ∷ []) ≡ ((t && not (assigned_on n p.events)) && misses n qs)
one_missed p qs n true e = missed_after p.events qs n
one_missed p qs n false e = ap (λ b. (b && not (assigned_on n p.events)) || false) e

pub missed_in_turn : (ps qs : List Path) (n : List ℕ) → misses n (flat_map (followed_by qs) ps) ≡ (misses n ps && misses n qs)
missed_in_turn [] qs n = refl
missed_in_turn (p ∷ ps) qs n =
    missed_either (followed_by qs p) (flat_map (followed_by qs) ps) n
    ∙ ap (λ b. b || misses n (flat_map (followed_by qs) ps)) (one_missed p qs n p.goes_on refl)
    ∙ ap (λ b. (misses_on n p && misses n qs) || b) (missed_in_turn ps qs n)
    ∙ or_and (misses_on n p) (misses n ps) (misses n qs)
  where
    or_and : (a b c : Bool) → ((a && c) || (b && c)) ≡ ((a || b) && c)
    or_and true true true = refl
    or_and true false true = refl
    or_and true true false = refl
    or_and true false false = refl
    or_and false b c = refl

pub some_in_turn : (ps qs : List Path) → IsSome ps → IsSome qs → IsSome (flat_map (followed_by qs) ps)
some_in_turn [] qs s q = absurd s
some_in_turn (p ∷ ps) qs s q = some_either (followed_by qs p) (flat_map (followed_by qs) ps) (one_some p.goes_on)
  where
    one_some : (t : Bool) → IsSome (if t then map (after p.events) qs else p ∷ [])
    one_some true = some_after p.events qs q
    one_some false = tt
