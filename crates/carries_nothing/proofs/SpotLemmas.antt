-- What the rules say of entries that keep them, told what is bound before the entries.
use Rattle.std.proofs.Common.{◌≡◌, ℕ, Bool, true, false, List, [], ◌∷◌, ◌++◌, Option, Some, None, refl, ap, sym, ◌∙◌, subst, append_assoc, append-nil}
use Rattle.std.specs.Prelude.{not, ◌&&◌, ◌||◌, ◌==◌, filter, flat_map, if◌then◌else◌, is_some}
use Rattle.std.specs.List.{list_any, AllByRecursion}
use Rattle.std.specs.Str.{bytes_eq}
use Rattle.std.proofs.lemmas.Bool.{eqb-true}
use Rattle.std.proofs.lemmas.List.Folds.{list_any-append}
use Rattle.loop_values.proofs.EntryLemmas.{same_text}
use Rattle.legality_rules.specs.declared.scope.Known.{Known}
use Rattle.legality_rules.specs.declared.scope.Sort.TheVariants.{Variable, Scratch}
use Rattle.legality_rules.specs.Laws.{KeepsRules}
use Rattle.legality_rules.specs.Lines.{Entry, assigned, bound, read}
use Rattle.legality_rules.specs.Offences.{spots_after}
use Rattle.legality_rules.specs.Paths.{is_reached}
use Rattle.legality_rules.specs.Rules.{Outline, Spot, bound_by, carried_scratches, carried_variables, is_assigned, is_reducer, names_bound_twice, reduced_by, reducers_used, repeated, rules, unknown_names, used}
use Rattle.legality_rules.specs.Scopes.{is_in, is_known, is_scratch, is_variable, look_up, sort_in, sort_of}
use Rattle.carries_nothing.proofs.EntryNames.{KnownAt, UnknownAt, names_at, reads_at}
use Rattle.carries_nothing.proofs.SameNames.{first_false, second_false}

-- ---- lists

left_empty : {X : Type 0} (xs ys : List X) → xs ++ ys ≡ [] → xs ≡ []
left_empty [] ys e = refl
left_empty (x ∷ xs) ys e = absurd (cc)

right_empty : {X : Type 0} (xs ys : List X) → xs ++ ys ≡ [] → ys ≡ []
right_empty [] ys e = e
right_empty (x ∷ xs) ys e = absurd (cc)

-- a name of a list that no name passes doesn't pass
none_passes : (test : List ℕ → Bool) (ns : List (List ℕ)) (n : List ℕ) → filter test ns ≡ [] → is_in ns n ≡ true → test n ≡ false
none_passes test [] n e h = absurd (cc)
none_passes test (m ∷ ms) n e h = first (test m) refl (bytes_eq n m) refl (λ k g. none_passes test ms n k g)
  where
    first : (b : Bool) → test m ≡ b → (c : Bool) → bytes_eq n m ≡ c → (filter test ms ≡ [] → is_in ms n ≡ true → test n ≡ false) → test n ≡ false
    first true t c is rest = absurd (let k : (if true then m ∷ filter test ms else filter test ms) ≡ [] = sym (ap (λ z. if z then m ∷ filter test ms else filter test ms) t) ∙ e in cc)
    first false t true is rest = ap test (same_text n m is) ∙ t
    first false t false is rest = rest (sym (ap (λ z. if z then m ∷ filter test ms else filter test ms) t) ∙ e) (sym (ap (λ z. z || is_in ms n) is) ∙ h)

-- the names of each element, one after another
pub gathered : {X : Type 0} (f : X → List (List ℕ)) (xs : List X) (n : List ℕ) → is_in (flat_map f xs) n ≡ list_any (λ x. is_in (f x) n) xs
gathered f [] n = refl
gathered f (x ∷ xs) n = list_any-append (bytes_eq n) (f x) (flat_map f xs) ∙ ap (λ b. is_in (f x) n || b) (gathered f xs n)

pub flat_joined : {X Y : Type 0} (f : X → List Y) (xs ys : List X) → flat_map f (xs ++ ys) ≡ flat_map f xs ++ flat_map f ys
flat_joined f [] ys = refl
flat_joined f (x ∷ xs) ys = ap (λ zs. f x ++ zs) (flat_joined f xs ys) ∙ sym (append_assoc (f x) (flat_map f xs) (flat_map f ys))

-- ---- spots

-- the rules that an entry keeps, those that decide what a loop carries
pub record Keeps (outline : Outline) (spot : Spot) : Type 0 where
  pub known : unknown_names outline spot ≡ []
  pub once : names_bound_twice outline spot ≡ []
  pub variables : carried_variables outline spot ≡ []
  pub scratches : carried_scratches outline spot ≡ []
  pub reducers : reducers_used outline spot ≡ []

pub keeps_all : (outline : Outline) (spots : List Spot) → AllByRecursion (KeepsRules outline rules) spots → AllByRecursion (Keeps outline) spots
keeps_all outline [] k = tt
keeps_all outline (spot ∷ spots) k = (record { known = k.0.0; once = k.0.1.0; variables = k.0.1.1.0; scratches = k.0.1.1.1.0; reducers = k.0.1.1.1.1.0 }, keeps_all outline spots k.1)

module _ (outline : Outline) where
  abbrev All : List Entry → List Entry → Type 0
  All before entries = AllByRecursion (Keeps outline) (spots_after before entries)

  pub left_spots : (before entries more : List Entry) → All before (entries ++ more) → All before entries
  left_spots before [] more k = tt
  left_spots before (e ∷ es) more k = (k.0, left_spots (before ++ e ∷ []) es more k.1)

  pub right_spots : (before entries more : List Entry) → All before (entries ++ more) → All (before ++ entries) more
  right_spots before [] more k = subst (λ b. All b more) (sym (append-nil before)) k
  right_spots before (e ∷ es) more k = subst (λ b. All b more) (append_assoc before (e ∷ []) es) (right_spots (before ++ e ∷ []) es more k.1)

  -- ---- a name that is bound before is bound by none of the entries

  met : (before ns : List (List ℕ)) (n : List ℕ) → repeated before ns ≡ [] → is_in before n ≡ true → is_in ns n ≡ false
  met before [] n e h = refl
  met before (m ∷ ms) n e h =
      ap (λ z. z || is_in ms n) (apart (bytes_eq n m) refl)
      ∙ met (before ++ m ∷ []) ms n (right_empty (if is_in before m then m ∷ [] else []) (repeated (before ++ m ∷ []) ms) e)
      (list_any-append (bytes_eq n) before (m ∷ []) ∙ ap (λ z. z || is_in (m ∷ []) n) h)
    where
      apart : (b : Bool) → bytes_eq n m ≡ b → b ≡ false
      apart false is = refl
      apart true is =
          let same : is_in before m ≡ true = subst (λ z. is_in before z ≡ true) (same_text n m is) h in
          let one : (if is_in before m then m ∷ [] else []) ≡ [] = left_empty (if is_in before m then m ∷ [] else []) (repeated (before ++ m ∷ []) ms) e in
          absurd (let two : (if true then m ∷ [] else []) ≡ [] = sym (ap (λ z. if z then m ∷ [] else []) same) ∙ one in cc)

  pub bound_once : (before entries : List Entry) (n : List ℕ) → All before entries → is_in (bound_by before) n ≡ true → is_in (bound_by entries) n ≡ false
  bound_once before [] n k h = refl
  bound_once before (e ∷ es) n k h =
      let here : is_in (bound e.says) n ≡ false =
      met (bound_by before ++ reduced_by before) (bound e.says) n (left_empty _ _ (left_empty _ _ k.0.once))
      (list_any-append (bytes_eq n) (bound_by before) (reduced_by before) ∙ ap (λ z. z || is_in (reduced_by before) n) h) in
      let there : is_in (bound_by es) n ≡ false =
      bound_once (before ++ e ∷ []) es n k.1
      (ap (λ ns. is_in ns n) (flat_joined (λ (entry : Entry). bound entry.says) before (e ∷ []))
      ∙ list_any-append (bytes_eq n) (bound_by before) (bound_by (e ∷ []))
      ∙ ap (λ z. z || is_in (bound_by (e ∷ [])) n) h) in
      list_any-append (bytes_eq n) (bound e.says) (bound_by es) ∙ ap (λ z. z || is_in (bound_by es) n) here ∙ there

  -- ---- no outer variable is assigned

  pub variable_stays : (before entries : List Entry) (n : List ℕ) → All before entries → AllByRecursion (KnownAt n Variable) entries → list_any (λ (e : Entry). is_in (assigned e.says) n) entries ≡ false
  variable_stays before [] n k known = refl
  variable_stays before (e ∷ es) n k known =
      ap (λ z. z || list_any (λ (e : Entry). is_in (assigned e.says) n) es) (apart (is_in (assigned e.says) n) refl) ∙ variable_stays (before ++ e ∷ []) es n k.1 known.1
    where
      apart : (b : Bool) → is_in (assigned e.says) n ≡ b → b ≡ false
      apart false is = refl
      apart true is =
          absurd (let no = none_passes (λ m. is_variable (sort_in e.scope m)) (assigned e.says) n k.0.variables is in
          let yes : is_variable (sort_in e.scope n) ≡ true = ap is_variable known.0 in
          cc)

  -- ---- no path reaches a read of a scratch that some line assigns

  pub scratch_unread : (before entries : List Entry) (n : List ℕ) (line : ℕ) → All before entries → AllByRecursion (KnownAt n Scratch) entries → is_assigned outline n ≡ true →
      is_reached outline.paths line n ≡ true → list_any (reads_at line n) entries ≡ false
  scratch_unread before [] n line k known assigned reached = refl
  scratch_unread before (e ∷ es) n line k known assigned reached =
      ap (λ z. z || list_any (reads_at line n) es) (apart (e.line == line) refl (is_in (read e.says) n) refl) ∙ scratch_unread (before ++ e ∷ []) es n line k.1 known.1 assigned reached
    where
      apart : (b : Bool) → (e.line == line) ≡ b → (c : Bool) → is_in (read e.says) n ≡ c → (b && c) ≡ false
      apart false here c is = refl
      apart true here false is = refl
      apart true here true is =
          absurd (let no = none_passes (λ m. is_scratch (sort_in e.scope m) && is_assigned outline m && is_reached outline.paths e.line m) (read e.says) n k.0.scratches is in
          let yes : is_scratch (sort_in e.scope n) ≡ true = ap is_scratch known.0 in
          let there : is_reached outline.paths e.line n ≡ true = subst (λ l. is_reached outline.paths l n ≡ true) (sym (eqb-true e.line line here)) reached in
          let all : (is_scratch (sort_in e.scope n) && is_assigned outline n && is_reached outline.paths e.line n) ≡ true =
          ap (λ z. z && is_assigned outline n && is_reached outline.paths e.line n) yes ∙ ap (λ z. z && is_reached outline.paths e.line n) assigned ∙ there in
          cc)

  -- ---- a name that isn't in scope isn't read

  unsorted : (known : Option Known) → sort_of known ≡ None → is_some known ≡ false
  unsorted (Some known) e = absurd (cc)
  unsorted None e = refl

  pub unknown_unread : (spot : Spot) (n : List ℕ) → Keeps outline spot → sort_in spot.here.scope n ≡ None → is_in (read spot.here.says) n ≡ false
  unknown_unread spot n k none = apart (is_in (read spot.here.says) n) refl
    where
      apart : (b : Bool) → is_in (read spot.here.says) n ≡ b → b ≡ false
      apart false is = refl
      apart true is =
          let inside : is_in (used spot.here.says) n ≡ true = list_any-append (bytes_eq n) (assigned spot.here.says) (read spot.here.says) ∙ or_right (is_in (assigned spot.here.says) n) (is_in (read spot.here.says) n) is in
          absurd (let plain = none_passes (is_reducer outline) (used spot.here.says) n k.reducers inside in
          let shown = none_passes (λ m. not (is_reducer outline m) && not (is_known spot.here.scope m)) (used spot.here.says) n (left_empty _ _ k.known) inside in
          let hidden : is_known spot.here.scope n ≡ false = unsorted (look_up spot.here.scope n) none in
          let all : (not (is_reducer outline n) && not (is_known spot.here.scope n)) ≡ true = ap (λ z. not z && not (is_known spot.here.scope n)) plain ∙ ap not hidden in
          cc)
        where
          or_right : (a b : Bool) → b ≡ true → (a || b) ≡ true
          or_right true b e = refl
          or_right false b e = e

  pub none_unread : (before entries : List Entry) (n : List ℕ) (line : ℕ) → All before entries → AllByRecursion (UnknownAt n) entries → list_any (reads_at line n) entries ≡ false
  none_unread before [] n line k unknown = refl
  none_unread before (e ∷ es) n line k unknown =
      ap (λ b. (e.line == line && b) || list_any (reads_at line n) es) (unknown_unread (record { earlier = before; here = e }) n k.0 unknown.0)
      ∙ ap (λ b. b || list_any (reads_at line n) es) (and_none (e.line == line))
      ∙ none_unread (before ++ e ∷ []) es n line k.1 unknown.1
    where
      and_none : (b : Bool) → (b && false) ≡ false
      and_none true = refl
      and_none false = refl

-- bound by none and assigned by none
pub unnamed : (entries : List Entry) (n : List ℕ) → list_any (λ (e : Entry). is_in (bound e.says) n) entries ≡ false → list_any (λ (e : Entry). is_in (assigned e.says) n) entries ≡ false →
    list_any (names_at n) entries ≡ false
unnamed [] n b a = refl
unnamed (e ∷ es) n b a =
    ap (λ z. (z || is_in (assigned e.says) n) || list_any (names_at n) es) (first_false (is_in (bound e.says) n) _ b)
    ∙ ap (λ z. z || list_any (names_at n) es) (first_false (is_in (assigned e.says) n) _ a)
    ∙ unnamed es n (second_false (is_in (bound e.says) n) _ b) (second_false (is_in (assigned e.says) n) _ a)
