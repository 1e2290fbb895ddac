-- What the walk knows of the lines so far, and how binding names keeps it.
use Rattle.std.proofs.Common.{◌≡◌, ℕ, Bool, true, false, cond, List, [], ◌∷◌, ◌++◌, Option, Some, None, refl, sym, ◌∙◌, ap, subst, append_assoc, append-nil, map}
use Rattle.std.specs.Prelude.{◌||◌, if◌then◌else◌, is_some, flat_map}
use Rattle.std.specs.Option.{option_and_then}
use Rattle.std.specs.Str.{bytes_eq}
use Rattle.std.specs.FinMap.{FinMap, empty, get, get-empty, get-insert}
use Rattle.std.specs.Ordering.{nat_cmp}
use Rattle.std.specs.Cmp.Lexicographic.{slice_cmp}
use Rattle.std.proofs.lemmas.Cmp.{nat_list_cmp_total}
use Rattle.loop_data.specs.declared.value.ValueKind.{ValueKind}
use Rattle.loop_values.proofs.EntryLemmas.{at_text, same_text}
use Rattle.legality_rules.specs.declared.scope.Sort.{Sort}
use Rattle.legality_rules.specs.declared.scope.Site.{Site}
use Rattle.legality_rules.specs.declared.scope.Known.{Known}
use Rattle.legality_rules.specs.Scopes.{Scope, is_in, is_known, known_as, kinds_in, look_up, one_by_one}
use Rattle.legality_rules.specs.Lines.{Entry, bound}
use Rattle.legality_rules.specs.Rules.{bound_by, repeated, site_at, sites_in}
use Rattle.legality_lines.specs.declared.state.State.{State}
use Rattle.legality_lines.specs.States.{set_kind, with_each}
use Rattle.legality_names.proofs.NameLemmas.{found_or, look_joined, one_of_both}

-- ---- the state

abbrev pub KindMap : Type 0
KindMap = FinMap (slice_cmp nat_cmp) ValueKind

abbrev pub made : List (List ℕ) → List Site → Scope → KindMap → State
made bs sites scope kinds = record { bound = bs; sites = sites; scope = scope; kinds = kinds }

-- the kinds are right for the names in scope, all of which were bound, and say nothing of others
pub record Knows (kinds : KindMap) (bs : List (List ℕ)) (scope : Scope) : Type 0 where
  pub agree : (n : List ℕ) → is_known scope n ≡ true → get kinds n ≡ kinds_in scope n
  pub inside : (n : List ℕ) → is_known scope n ≡ true → is_in bs n ≡ true
  pub fresh : (n : List ℕ) → is_in bs n ≡ false → get kinds n ≡ None

-- the state is of these entries and this scope
abbrev pub Kept : State → List Entry → Scope → Type 0
Kept state earlier scope = (kinds : KindMap) × (state ≡ made (bound_by earlier) (sites_in earlier) scope kinds) × Knows kinds (bound_by earlier) scope

pub kept_as : (state : State) (bs : List (List ℕ)) (sites : List Site) (scope : Scope) (kinds : KindMap) (earlier : List Entry) →
    bs ≡ bound_by earlier → sites ≡ sites_in earlier → state ≡ made bs sites scope kinds → Knows kinds bs scope → Kept state earlier scope
kept_as state bs sites scope kinds earlier e f g k =
    let P : List (List ℕ) → Type 0 = λ z. Knows kinds z scope in
    (kinds, g ∙ ap (λ z. made z sites scope kinds) e ∙ ap (λ z. made (bound_by earlier) z scope kinds) f, subst P e k)

-- ---- names in scope after one more is bound

-- a name that isn't bound isn't in scope
unknown_if : (t b : Bool) → (t ≡ true → b ≡ true) → b ≡ false → t ≡ false
unknown_if true b h e = absurd (let x : b ≡ true = h refl in cc)
unknown_if false b h e = refl

pub new_name : (kinds : KindMap) (bs : List (List ℕ)) (scope : Scope) (n : List ℕ) → Knows kinds bs scope → is_in bs n ≡ false → is_known scope n ≡ false
new_name kinds bs scope n k e = unknown_if (is_known scope n) (is_in bs n) (k.inside n) e

-- the kind found in the scope before, or that of the name that is bound
agree_cases : (k : Option ValueKind) (sort : Sort) (n m : List ℕ) (f : Option Known) (g : Option ValueKind) (t : Bool) →
    (is_some f ≡ true → g ≡ option_and_then (λ known. known.kind) f) → (is_some f ≡ true → t ≡ false) → (t ≡ true → f ≡ None → k ≡ None → g ≡ None) →
    is_some (found_or f (if t then Some (known_as sort n k) else None)) ≡ true →
    (is_some k ≡ true → cond t k g ≡ option_and_then (λ known. known.kind) (found_or f (if t then Some (known_as sort n k) else None)))
agree_cases k sort n m (Some x) g true a b c q h = absurd (let z : true ≡ false = b refl in cc)
agree_cases k sort n m (Some x) g false a b c q h = a refl
agree_cases k sort n m None g true a b c q h = refl
agree_cases k sort n m None g false a b c q h = absurd (cc)

none_cases : (sort : Sort) (n m : List ℕ) (f : Option Known) (g : Option ValueKind) (t : Bool) →
    (is_some f ≡ true → g ≡ option_and_then (λ known. known.kind) f) → (t ≡ true → g ≡ None) →
    is_some (found_or f (if t then Some (known_as sort n None) else None)) ≡ true →
    g ≡ option_and_then (λ known. known.kind) (found_or f (if t then Some (known_as sort n None) else None))
none_cases sort n m (Some x) g t a b q = a refl
none_cases sort n m None g true a b q = b refl
none_cases sort n m None g false a b q = absurd (cc)

apart : (scope : Scope) (n m : List ℕ) (t : Bool) → bytes_eq m n ≡ t → is_known scope n ≡ false → is_known scope m ≡ true → t ≡ false
apart scope n m false e a b = refl
apart scope n m true e a b = absurd (let z : is_known scope m ≡ false = ap (is_known scope) (same_text m n e) ∙ a in cc)

look_last : (scope : Scope) (sort : Sort) (n : List ℕ) (k : Option ValueKind) (m : List ℕ) →
    look_up (scope ++ known_as sort n k ∷ []) m ≡ found_or (look_up scope m) (if bytes_eq m n then Some (known_as sort n k) else None)
look_last scope sort n k m = look_joined scope (known_as sort n k ∷ []) m

agree_with : (kinds : KindMap) (bs : List (List ℕ)) (scope : Scope) (sort : Sort) (n : List ℕ) (k : Option ValueKind) → Knows kinds bs scope → is_in bs n ≡ false →
    (m : List ℕ) → is_known (scope ++ known_as sort n k ∷ []) m ≡ true → get (set_kind n k kinds) m ≡ kinds_in (scope ++ known_as sort n k ∷ []) m
agree_with kinds bs scope sort n (Some k) knows new m known =
    get-insert nat_list_cmp_total kinds n k m
    ∙ ap (λ b. cond b (Some k) (get kinds m)) (at_text m n)
    ∙ agree_cases (Some k) sort n m (look_up scope m) (get kinds m) (bytes_eq m n) (knows.agree m) (apart scope n m (bytes_eq m n) refl (new_name kinds bs scope n knows new))
    (λ a b c. absurd (cc)) (sym (ap is_some (look_last scope sort n (Some k) m)) ∙ known) refl
    ∙ sym (ap (λ o. option_and_then (λ x. x.kind) o) (look_last scope sort n (Some k) m))
agree_with kinds bs scope sort n None knows new m known =
    none_cases sort n m (look_up scope m) (get kinds m) (bytes_eq m n) (knows.agree m)
    (λ e. ap (get kinds) (same_text m n e) ∙ knows.fresh n new) (sym (ap is_some (look_last scope sort n None m)) ∙ known)
    ∙ sym (ap (λ o. option_and_then (λ x. x.kind) o) (look_last scope sort n None m))

inside_cases : (k : Known) (f : Option Known) (b t : Bool) → (is_some f ≡ true → b ≡ true) → is_some (found_or f (if t then Some k else None)) ≡ true → (b || (t || false)) ≡ true
inside_cases k (Some x) b t h e = ap (λ c. c || (t || false)) (h refl)
inside_cases k None true t h e = refl
inside_cases k None false true h e = refl
inside_cases k None false false h e = absurd (cc)

first_off : (a b : Bool) → (a || b) ≡ false → a ≡ false
first_off true b e = absurd (cc)
first_off false b e = refl

last_off : (a b : Bool) → (a || (b || false)) ≡ false → b ≡ false
last_off true b e = absurd (cc)
last_off false true e = absurd (cc)
last_off false false e = refl

fresh_with : (kinds : KindMap) (n m : List ℕ) (k : Option ValueKind) → bytes_eq m n ≡ false → get kinds m ≡ None → get (set_kind n k kinds) m ≡ None
fresh_with kinds n m (Some k) e h = get-insert nat_list_cmp_total kinds n k m ∙ ap (λ b. cond b (Some k) (get kinds m)) (at_text m n ∙ e) ∙ h
fresh_with kinds n m None e h = h

pub knows_with : (kinds : KindMap) (bs : List (List ℕ)) (scope : Scope) (sort : Sort) (n : List ℕ) (k : Option ValueKind) → Knows kinds bs scope → is_in bs n ≡ false →
    Knows (set_kind n k kinds) (bs ++ n ∷ []) (scope ++ known_as sort n k ∷ [])
knows_with kinds bs scope sort n k knows new =
    record {
      agree = agree_with kinds bs scope sort n k knows new;
      inside = λ m h.
          one_of_both bs (n ∷ []) m
          ∙ inside_cases (known_as sort n k) (look_up scope m) (is_in bs m) (bytes_eq m n) (knows.inside m) (sym (ap is_some (look_last scope sort n k m)) ∙ h);
      fresh = λ m h.
          let both : (is_in bs m || (bytes_eq m n || false)) ≡ false = sym (one_of_both bs (n ∷ []) m) ∙ h in
          fresh_with kinds n m k (last_off (is_in bs m) (bytes_eq m n) both) (knows.fresh m (first_off (is_in bs m) (bytes_eq m n || false) both));
    }

pub knows_none : Knows empty [] []
knows_none = record { agree = λ n h. absurd (cc); inside = λ n h. absurd (cc); fresh = λ n h. get-empty (slice_cmp nat_cmp) n }

-- ---- fewer names in scope

kept_found : (f g : Option Known) → is_some f ≡ true → found_or f g ≡ f
kept_found (Some x) g e = refl
kept_found None g e = absurd (cc)

pub knows_front : (kinds : KindMap) (bs : List (List ℕ)) (scope more : Scope) → Knows kinds bs (scope ++ more) → Knows kinds bs scope
knows_front kinds bs scope more k =
    let same : (n : List ℕ) → is_known scope n ≡ true → look_up (scope ++ more) n ≡ look_up scope n = λ n h. look_joined scope more n ∙ kept_found (look_up scope n) (look_up more n) h in
    record {
      agree = λ n h. k.agree n (ap is_some (same n h) ∙ h) ∙ ap (λ o. option_and_then (λ x. x.kind) o) (same n h);
      inside = λ n h. k.inside n (ap is_some (same n h) ∙ h);
      fresh = k.fresh;
    }

-- ---- several names

-- the kinds of names that are bound after them don't matter
pub no_names : (sort : Sort) (ks : List ValueKind) → [] ≡ one_by_one sort [] ks
no_names sort [] = refl
no_names sort (k ∷ ks) = refl

pub no_kinds : (sort : Sort) (ns : List (List ℕ)) → one_by_one sort ns [] ≡ map (λ n. known_as sort n None) ns
no_kinds sort [] = refl
no_kinds sort (n ∷ ns) = refl

-- names that aren't among these aren't bound
abbrev pub Covers : List (List ℕ) → List (List ℕ) → Type 0
Covers before bs = (m : List ℕ) → is_in before m ≡ false → is_in bs m ≡ false

both_off : (a b c : Bool) → (a ≡ false → b ≡ false) → (a || c) ≡ false → (b || c) ≡ false
both_off true b c h e = absurd (cc)
both_off false b c h e = ap (λ x. x || c) (h refl) ∙ e

covers_more : (before bs : List (List ℕ)) (n : List ℕ) → Covers before bs → Covers (before ++ n ∷ []) (bs ++ n ∷ [])
covers_more before bs n c m h =
    one_of_both bs (n ∷ []) m ∙ both_off (is_in before m) (is_in bs m) (bytes_eq m n || false) (c m) (sym (one_of_both before (n ∷ []) m) ∙ h)

not_repeated : (t : Bool) (n : List ℕ) (ns : List (List ℕ)) → (if t then n ∷ [] else []) ++ ns ≡ [] → (t ≡ false) × (ns ≡ [])
not_repeated true n ns e = absurd (cc)
not_repeated false n ns e = (refl, e)

abbrev pub BoundEach : Sort → List (List ℕ) → List ValueKind → List (List ℕ) → List Site → Scope → KindMap → Type 0
BoundEach sort ns ks bs sites scope kinds =
    (after : KindMap) × (with_each sort ns ks (made bs sites scope kinds) ≡ made (bs ++ ns) sites (scope ++ one_by_one sort ns ks) after)
    × Knows after (bs ++ ns) (scope ++ one_by_one sort ns ks)

-- one name, and then others
after_one : (sort : Sort) (n : List ℕ) (k : Option ValueKind) (ns : List (List ℕ)) (more : Scope) (bs : List (List ℕ)) (sites : List Site) (scope : Scope) (kinds : KindMap) (state : State) →
    state ≡ made ((bs ++ n ∷ []) ++ ns) sites ((scope ++ known_as sort n k ∷ []) ++ more) kinds → Knows kinds ((bs ++ n ∷ []) ++ ns) ((scope ++ known_as sort n k ∷ []) ++ more) →
    (state ≡ made (bs ++ n ∷ ns) sites (scope ++ known_as sort n k ∷ more) kinds) × Knows kinds (bs ++ n ∷ ns) (scope ++ known_as sort n k ∷ more)
after_one sort n k ns more bs sites scope kinds state e h =
    let f = append_assoc bs (n ∷ []) ns in
    let g = append_assoc scope (known_as sort n k ∷ []) more in
    let P : List (List ℕ) → Type 0 = λ z. Knows kinds z (scope ++ known_as sort n k ∷ more) in
    let Q : Scope → Type 0 = λ z. Knows kinds ((bs ++ n ∷ []) ++ ns) z in
    (e ∙ ap (λ z. made z sites ((scope ++ known_as sort n k ∷ []) ++ more) kinds) f ∙ ap (λ z. made (bs ++ n ∷ ns) sites z kinds) g, subst P f (subst Q g h))

pub bound_each : (sort : Sort) (ns : List (List ℕ)) (ks : List ValueKind) (before bs : List (List ℕ)) (sites : List Site) (scope : Scope) (kinds : KindMap) →
    Knows kinds bs scope → Covers before bs → repeated before ns ≡ [] → BoundEach sort ns ks bs sites scope kinds
bound_each sort [] ks before bs sites scope kinds knows covers e =
    let f : scope ≡ scope ++ one_by_one sort [] ks = sym (append-nil scope) ∙ ap (λ z. scope ++ z) (no_names sort ks) in
    let g : bs ≡ bs ++ [] = sym (append-nil bs) in
    let P : List (List ℕ) → Type 0 = λ z. Knows kinds z (scope ++ one_by_one sort [] ks) in
    let Q : Scope → Type 0 = λ z. Knows kinds bs z in
    (kinds, ap (λ z. made z sites scope kinds) g ∙ ap (λ z. made (bs ++ []) sites z kinds) f, subst P g (subst Q f knows))
bound_each sort (n ∷ ns) (k ∷ ks) before bs sites scope kinds knows covers e =
    let new = not_repeated (is_in before n) n (repeated (before ++ n ∷ []) ns) e in
    let more = bound_each sort ns ks (before ++ n ∷ []) (bs ++ n ∷ []) sites (scope ++ known_as sort n (Some k) ∷ []) (set_kind n (Some k) kinds)
    (knows_with kinds bs scope sort n (Some k) knows (covers n new.0)) (covers_more before bs n covers) new.1 in
    let both = after_one sort n (Some k) ns (one_by_one sort ns ks) bs sites scope more.0 (with_each sort (n ∷ ns) (k ∷ ks) (made bs sites scope kinds)) more.1 more.2 in
    (more.0, both.0, both.1)
bound_each sort (n ∷ ns) [] before bs sites scope kinds knows covers e =
    let new = not_repeated (is_in before n) n (repeated (before ++ n ∷ []) ns) e in
    let more = bound_each sort ns [] (before ++ n ∷ []) (bs ++ n ∷ []) sites (scope ++ known_as sort n None ∷ []) (set_kind n None kinds)
    (knows_with kinds bs scope sort n None knows (covers n new.0)) (covers_more before bs n covers) new.1 in
    let f : scope ++ known_as sort n None ∷ one_by_one sort ns [] ≡ scope ++ one_by_one sort (n ∷ ns) [] = ap (λ z. scope ++ known_as sort n None ∷ z) (no_kinds sort ns) in
    let both = after_one sort n None ns (one_by_one sort ns []) bs sites scope more.0 (with_each sort (n ∷ ns) [] (made bs sites scope kinds)) more.1 more.2 in
    let Q : Scope → Type 0 = λ z. Knows more.0 (bs ++ n ∷ ns) z in
    (more.0, both.0 ∙ ap (λ z. made (bs ++ n ∷ ns) sites z more.0) f, subst Q f both.1)

-- ---- entries and what is kept of them

flat_joined : {X Y : Type 0} (f : X → List Y) (xs ys : List X) → flat_map f (xs ++ ys) ≡ flat_map f xs ++ flat_map f ys
flat_joined f [] ys = refl
flat_joined f (x ∷ xs) ys = ap (λ s. f x ++ s) (flat_joined f xs ys) ∙ sym (append_assoc (f x) (flat_map f xs) (flat_map f ys))

pub bound_added : (before : List Entry) (e : Entry) → bound_by (before ++ e ∷ []) ≡ bound_by before ++ bound e.says
bound_added before e = flat_joined (λ entry. bound entry.says) before (e ∷ []) ∙ ap (λ z. bound_by before ++ z) (append-nil (bound e.says))

pub sites_added : (before : List Entry) (e : Entry) → sites_in (before ++ e ∷ []) ≡ sites_in before ++ site_at e.scope e.says
sites_added before e = flat_joined (λ entry. site_at entry.scope entry.says) before (e ∷ []) ∙ ap (λ z. sites_in before ++ z) (append-nil (site_at e.scope e.says))
