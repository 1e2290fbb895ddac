-- The names in scope before the body: which of them are scratches.
use Rattle.std.proofs.Common.{◌≡◌, ℕ, Bool, true, false, List, [], ◌∷◌, ◌++◌, Option, Some, None, refl, sym, ◌∙◌, ap, append_assoc, append-nil, map}
use Rattle.std.specs.Prelude.{not, ◌&&◌, ◌||◌, if◌then◌else◌, filter, is_some}
use Rattle.std.specs.Str.{bytes_eq}
use Rattle.loop_data.specs.declared.value.ValueKind.{ValueKind}
use Rattle.loop_data.specs.declared.value.ValueKind.TheVariants as kind
use Rattle.loop_data.specs.declared.head.Binding.{Binding}
use Rattle.loop_data.specs.declared.head.HeadLine.{HeadLine}
use Rattle.loop_data.specs.declared.head.Inner.{Inner}
use Rattle.loop_values.specs.Kinds.{literal_kind}
use Rattle.loop_values.proofs.EntryLemmas.{same_text}
use Rattle.legality_rules.specs.declared.scope.Known.{Known}
use Rattle.legality_rules.specs.declared.scope.Sort.{Sort}
use Rattle.legality_rules.specs.declared.scope.Sort.TheVariants.{LoopVariable, Scratch, Variable}
use Rattle.legality_rules.specs.Scopes.{Scope, found, is_in, is_known, is_scratch, known_as, look_up, one_by_one, sort_in, sort_of}
use Rattle.legality_rules.specs.Lines.{init_listing, inner_listing, var_listing}
use Rattle.legality_rules.specs.Cuts.{scope_after}
use Rattle.legality_names.proofs.NameLemmas.{found_or, look_joined, one_of_both}

abbrev pub names_of : List Binding → List (List ℕ)
names_of bs = map (λ (b : Binding). b.name) bs

abbrev pub known_of : Sort → List Binding → Scope
known_of sort bs = map (λ (b : Binding). known_as sort b.name (found (literal_kind b.value))) bs

pub after_vars : (bs : List Binding) (scope : Scope) → scope_after (map var_listing bs) scope ≡ scope ++ known_of Variable bs
after_vars [] scope = sym (append-nil scope)
after_vars (b ∷ bs) scope =
    let one = known_as Variable b.name (found (literal_kind b.value)) in
    after_vars bs (scope ++ one ∷ []) ∙ append_assoc scope (one ∷ []) (known_of Variable bs)

pub after_inits : (bs : List Binding) (scope : Scope) → scope_after (map init_listing bs) scope ≡ scope ++ known_of Scratch bs
after_inits [] scope = sym (append-nil scope)
after_inits (b ∷ bs) scope =
    let one = known_as Scratch b.name (found (literal_kind b.value)) in
    after_inits bs (scope ++ one ∷ []) ∙ append_assoc scope (one ∷ []) (known_of Scratch bs)

-- ---- inner heads

abbrev pub inner_names : List Inner → List (List ℕ)
inner_names is = map (λ (i : Inner). i.name) is

abbrev pub ints : List Inner → List ValueKind
ints is = map (λ (i : Inner). kind.Int) is

pub scope_inner : (h : HeadLine) (is : List Inner) (sc : Scope) → scope_after (map (inner_listing h) is) sc ≡ sc ++ one_by_one LoopVariable (inner_names is) (ints is)
scope_inner h [] sc = sym (append-nil sc)
scope_inner h (i ∷ is) sc =
    scope_inner h is (sc ++ known_as LoopVariable i.name (Some kind.Int) ∷ []) ∙ append_assoc sc (known_as LoopVariable i.name (Some kind.Int) ∷ []) (one_by_one LoopVariable (inner_names is) (ints is))

-- ---- names that are no scratches

-- these names are in scope, and none of them is a scratch
pub record Plain (scope : Scope) (ns : List (List ℕ)) : Type 0 where
  pub none : (n : List ℕ) → is_scratch (sort_in scope n) ≡ false
  pub knows : (n : List ℕ) → is_known scope n ≡ is_in ns n

plain_none : (f g : Option Known) → is_scratch (sort_of f) ≡ false → is_scratch (sort_of g) ≡ false → is_scratch (sort_of (found_or f g)) ≡ false
plain_none (Some x) g a b = a
plain_none None g a b = b

plain_knows : (f g : Option Known) → is_some (found_or f g) ≡ (is_some f || is_some g)
plain_knows (Some x) g = refl
plain_knows None g = refl

pub plain_joined : (scope more : Scope) (ns ms : List (List ℕ)) → Plain scope ns → Plain more ms → Plain (scope ++ more) (ns ++ ms)
plain_joined scope more ns ms a b =
    record {
      none = λ n. ap (λ o. is_scratch (sort_of o)) (look_joined scope more n) ∙ plain_none (look_up scope n) (look_up more n) (a.none n) (b.none n);
      knows = λ n.
          ap is_some (look_joined scope more n) ∙ plain_knows (look_up scope n) (look_up more n) ∙ ap (λ z. z || is_known more n) (a.knows n) ∙ ap (λ z. is_in ns n || z) (b.knows n) ∙ sym (one_of_both ns ms n);
    }

pub plain_nothing : Plain [] []
plain_nothing = record { none = λ n. refl; knows = λ n. refl }

one_none : (t : Bool) (x : Known) → is_scratch (sort_of (Some x)) ≡ false → is_scratch (sort_of (if t then Some x else None)) ≡ false
one_none true x e = e
one_none false x e = refl

one_knows : (t : Bool) (x : Known) → is_some (if t then Some x else None) ≡ (t || false)
one_knows true x = refl
one_knows false x = refl

pub plain_one : (x : Known) → is_scratch (sort_of (Some x)) ≡ false → Plain (x ∷ []) (x.name ∷ [])
plain_one x e = record { none = λ n. one_none (bytes_eq n x.name) x e; knows = λ n. one_knows (bytes_eq n x.name) x }

pub plain_vars : (bs : List Binding) → Plain (known_of Variable bs) (names_of bs)
plain_vars [] = plain_nothing
plain_vars (b ∷ bs) = plain_joined (known_as Variable b.name (found (literal_kind b.value)) ∷ []) (known_of Variable bs) (b.name ∷ []) (names_of bs) (plain_one (known_as Variable b.name (found (literal_kind b.value))) refl) (plain_vars bs)

pub plain_each : (ns : List (List ℕ)) (ks : List ValueKind) → Plain (one_by_one LoopVariable ns ks) ns
plain_each [] [] = plain_nothing
plain_each [] (k ∷ ks) = plain_nothing
plain_each (n ∷ ns) (k ∷ ks) = plain_joined (known_as LoopVariable n (Some k) ∷ []) (one_by_one LoopVariable ns ks) (n ∷ []) ns (plain_one (known_as LoopVariable n (Some k)) refl) (plain_each ns ks)
plain_each (n ∷ ns) [] = plain_joined (known_as LoopVariable n None ∷ []) (map (λ m. known_as LoopVariable m None) ns) (n ∷ []) ns (plain_one (known_as LoopVariable n None) refl) (none_each ns)
  where
    none_each : (ns : List (List ℕ)) → Plain (map (λ m. known_as LoopVariable m None) ns) ns
    none_each [] = plain_nothing
    none_each (m ∷ ms) = plain_joined (known_as LoopVariable m None ∷ []) (map (λ m. known_as LoopVariable m None) ms) (m ∷ []) ms (plain_one (known_as LoopVariable m None) refl) (none_each ms)

-- ---- scratches

scratch_step : (t : Bool) (x : Known) (f : Option Known) (b : Bool) → is_scratch (sort_of (Some x)) ≡ true → is_scratch (sort_of f) ≡ b → is_scratch (sort_of (if t then Some x else f)) ≡ (t || b)
scratch_step true x f b e h = e
scratch_step false x f b e h = h

scratches : (bs : List Binding) (n : List ℕ) → is_scratch (sort_in (known_of Scratch bs) n) ≡ is_in (names_of bs) n
scratches [] n = refl
scratches (b ∷ bs) n =
    scratch_step (bytes_eq n b.name) (known_as Scratch b.name (found (literal_kind b.value))) (look_up (known_of Scratch bs) n) (is_in (names_of bs) n) refl (scratches bs n)

behind : (f g : Option Known) → is_scratch (sort_of f) ≡ false → is_scratch (sort_of (found_or f g)) ≡ (not (is_some f) && is_scratch (sort_of g))
behind (Some x) g e = e
behind None g e = refl

kept_one : (t : Bool) (n : List ℕ) (p : List ℕ → Bool) (m : List ℕ) (rest : List (List ℕ)) (r : Bool) → bytes_eq n m ≡ t → is_in rest n ≡ (r && p n) →
    is_in (if p m then m ∷ rest else rest) n ≡ ((t || r) && p n)
kept_one true n p m rest r e h = at (p m) (p n) refl (ap p (sym (same_text n m e)))
  where
    at : (a b : Bool) → p n ≡ b → a ≡ b → is_in (if a then m ∷ rest else rest) n ≡ b
    at true b q g = ap (λ z. z || is_in rest n) e ∙ g
    at false b q g = h ∙ ap (λ z. r && z) (q ∙ sym g) ∙ off r ∙ g
      where
        off : (r : Bool) → (r && false) ≡ false
        off true = refl
        off false = refl
kept_one false n p m rest r e h = at (p m)
  where
    at : (a : Bool) → is_in (if a then m ∷ rest else rest) n ≡ (r && p n)
    at true = ap (λ z. z || is_in rest n) e ∙ h
    at false = h

kept_in : (p : List ℕ → Bool) (ns : List (List ℕ)) (n : List ℕ) → is_in (filter p ns) n ≡ (is_in ns n && p n)
kept_in p [] n = refl
kept_in p (m ∷ ns) n = kept_one (bytes_eq n m) n p m (filter p ns) (is_in ns n) refl (kept_in p ns n)

ordered : (o s a : Bool) → ((not o && s) && a) ≡ (s && (a && not o))
ordered true true true = refl
ordered true true false = refl
ordered true false a = refl
ordered false true true = refl
ordered false true false = refl
ordered false false a = refl

-- behind names that are no scratches, those that may be carried are the scratches that are assigned and have none of these names
pub base_scoped : (scope : Scope) (ns : List (List ℕ)) (bs : List Binding) (assigned : List (List ℕ)) → Plain scope ns → (outer : List (List ℕ)) → ((n : List ℕ) → is_in ns n ≡ is_in outer n) → (n : List ℕ) →
    (is_scratch (sort_in (scope ++ known_of Scratch bs) n) && is_in assigned n) ≡ is_in (filter (λ n. is_in assigned n && not (is_in outer n)) (names_of bs)) n
base_scoped scope ns bs assigned plain outer same n =
    ap (λ o. is_scratch (sort_of o) && is_in assigned n) (look_joined scope (known_of Scratch bs) n)
    ∙ ap (λ b. b && is_in assigned n) (behind (look_up scope n) (look_up (known_of Scratch bs) n) (plain.none n))
    ∙ ap (λ b. (not b && is_scratch (sort_in (known_of Scratch bs) n)) && is_in assigned n) (plain.knows n ∙ same n)
    ∙ ap (λ b. (not (is_in outer n) && b) && is_in assigned n) (scratches bs n)
    ∙ ordered (is_in outer n) (is_in (names_of bs) n) (is_in assigned n)
    ∙ sym (kept_in (λ n. is_in assigned n && not (is_in outer n)) (names_of bs) n)
