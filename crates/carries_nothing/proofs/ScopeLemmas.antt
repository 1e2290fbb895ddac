-- What names are in scope as, behind each part of a program's head.
use Rattle.std.proofs.Common.{◌≡◌, ℕ, Bool, true, false, cond, List, [], ◌∷◌, ◌++◌, map, Option, Some, None, refl, ap, sym, ◌∙◌}
use Rattle.std.specs.Prelude.{◌||◌}
use Rattle.std.specs.List.{find}
use Rattle.std.specs.Str.{bytes_eq}
use Rattle.std.proofs.lemmas.List.Folds.{list_any-append}
use Rattle.loop_data.specs.declared.value.ValueKind.{ValueKind}
use Rattle.loop_data.specs.declared.value.ValueKind.TheVariants as kind
use Rattle.loop_data.specs.declared.head.Binding.{Binding}
use Rattle.loop_data.specs.declared.head.HeadLine.{HeadLine}
use Rattle.loop_data.specs.declared.head.Inner.{Inner}
use Rattle.loop_values.specs.Kinds.{literal_kind}
use Rattle.legality_rules.specs.declared.scope.Known.{Known}
use Rattle.legality_rules.specs.declared.scope.Sort.{Sort}
use Rattle.legality_rules.specs.declared.scope.Sort.TheVariants.{Variable, LoopVariable, Scratch}
use Rattle.legality_rules.specs.Cuts.{scope_after}
use Rattle.legality_rules.specs.Lines.{Listing, head_listing, init_listing, inner_listing, var_listing}
use Rattle.legality_rules.specs.Scopes.{Scope, found, is_in, item_kind, known_as, one_by_one, pattern_kinds, pattern_known, sort_in, sort_of}
use Rattle.loop_meaning.specs.Stores.{names_of}

-- the first of two
abbrev pub or_later : Option Sort → Option Sort → Option Sort
or_later (Some sort) later = Some sort
or_later None later = later

-- the sort where the test holds
abbrev pub where_so : Bool → Sort → Option Sort
where_so b sort = cond b (Some sort) None

or_none : (a : Option Sort) → a ≡ or_later a None
or_none (Some sort) = refl
or_none None = refl

or_twice : (a : Option Sort) (b c : Bool) (sort : Sort) → or_later (or_later a (where_so b sort)) (where_so c sort) ≡ or_later a (where_so (b || c) sort)
or_twice (Some sort) b c t = refl
or_twice None true c t = refl
or_twice None false c t = refl

found_first : (b : Bool) (known : Known) (x y : Option Known) (later : Option Sort) → sort_of x ≡ or_later (sort_of y) later → sort_of (cond b (Some known) x) ≡ or_later (sort_of (cond b (Some known) y)) later
found_first true known x y later e = refl
found_first false known x y later e = e

-- names in scope, and then others
pub sort_joined : (scope more : Scope) (n : List ℕ) → sort_in (scope ++ more) n ≡ or_later (sort_in scope n) (sort_in more n)
sort_joined [] more n = refl
sort_joined (known ∷ scope) more n =
    found_first (bytes_eq n known.name) known (find (λ (k : Known). bytes_eq n k.name) (scope ++ more)) (find (λ (k : Known). bytes_eq n k.name) scope) (sort_in more n) (sort_joined scope more n)

-- a name that is in scope stays what it is
pub sort_stays : (scope more : Scope) (n : List ℕ) (sort : Sort) → sort_in scope n ≡ Some sort → sort_in (scope ++ more) n ≡ Some sort
sort_stays scope more n sort is = sort_joined scope more n ∙ ap (λ z. or_later z (sort_in more n)) is

-- and one that isn't in scope isn't behind names that aren't it
pub sort_none : (scope more : Scope) (n : List ℕ) → sort_in scope n ≡ None → sort_in more n ≡ None → sort_in (scope ++ more) n ≡ None
sort_none scope more n none others = sort_joined scope more n ∙ ap (λ z. or_later z (sort_in more n)) none ∙ others

-- ---- what one line brings into scope

one_sort : (b : Bool) (known : Known) (x : Option Known) (c : Bool) → sort_of x ≡ where_so c known.sort → sort_of (cond b (Some known) x) ≡ where_so (b || c) known.sort
one_sort true known x c e = refl
one_sort false known x c e = e

same_sorts : (sort : Sort) (ns : List (List ℕ)) (n : List ℕ) → sort_in (map (λ m. known_as sort m None) ns) n ≡ where_so (is_in ns n) sort
same_sorts sort [] n = refl
same_sorts sort (m ∷ ms) n = one_sort (bytes_eq n m) (known_as sort m None) _ (is_in ms n) (same_sorts sort ms n)

by_one_sorts : (sort : Sort) (ns : List (List ℕ)) (xs : List ValueKind) (n : List ℕ) → sort_in (one_by_one sort ns xs) n ≡ where_so (is_in ns n) sort
by_one_sorts sort [] [] n = refl
by_one_sorts sort [] (x ∷ xs) n = refl
by_one_sorts sort (m ∷ ms) [] n = same_sorts sort (m ∷ ms) n
by_one_sorts sort (m ∷ ms) (x ∷ xs) n = one_sort (bytes_eq n m) (known_as sort m (Some x)) _ (is_in ms n) (by_one_sorts sort ms xs n)

-- ---- what several lines bring into scope

lone : (b : Bool) (known : Known) → sort_of (cond b (Some known) None) ≡ where_so b known.sort
lone true known = refl
lone false known = refl

pub pattern_none : (sort : Sort) (ns : List (List ℕ)) (kind : Option ValueKind) (n : List ℕ) → is_in ns n ≡ false → sort_in (pattern_known sort ns kind) n ≡ None
pattern_none sort ns kind n isnt = by_one_sorts sort ns (pattern_kinds ns kind) n ∙ ap (λ b. where_so b sort) isnt

pub one_none : (sort : Sort) (m : List ℕ) (kind : Option ValueKind) (n : List ℕ) → is_in (m ∷ []) n ≡ false → sort_in (known_as sort m kind ∷ []) n ≡ None
one_none sort m kind n isnt = lone (bytes_eq n m) (known_as sort m kind) ∙ ap (λ b. where_so b sort) (alone (bytes_eq n m) isnt)
  where
    alone : (b : Bool) → (b || false) ≡ false → b ≡ false
    alone true e = e
    alone false e = refl

module _ (n : List ℕ) where
  -- after these parts of a program the name is what it was before, or else this where it is one of these names
  abbrev Grows : Sort → List (List ℕ) → List Listing → Type 0
  Grows sort names listings = (scope : Scope) → sort_in (scope_after listings scope) n ≡ or_later (sort_in scope n) (where_so (is_in names n) sort)

  -- lines each of which brings one name into scope
  many_grow : {X : Type 0} (sort : Sort) (name : X → List ℕ) (kind : X → Option ValueKind) (listing : X → Listing) →
      ((x : X) (scope : Scope) → scope_after (listing x ∷ []) scope ≡ scope ++ known_as sort (name x) (kind x) ∷ []) → (xs : List X) → Grows sort (map name xs) (map listing xs)
  many_grow sort name kind listing is [] scope = or_none (sort_in scope n)
  many_grow sort name kind listing is (x ∷ xs) scope =
      let known : Known = known_as sort (name x) (kind x) in
      many_grow sort name kind listing is xs (scope_after (listing x ∷ []) scope)
      ∙ ap (λ s. or_later (sort_in s n) (where_so (is_in (map name xs) n) sort)) (is x scope)
      ∙ ap (λ z. or_later z (where_so (is_in (map name xs) n) sort)) (sort_joined scope (known ∷ []) n ∙ ap (or_later (sort_in scope n)) (lone (bytes_eq n (name x)) known))
      ∙ or_twice (sort_in scope n) (bytes_eq n (name x)) (is_in (map name xs) n) sort

  pub vars_grow : (vs : List Binding) → Grows Variable (names_of vs) (map var_listing vs)
  vars_grow vs = many_grow Variable (λ (b : Binding). b.name) (λ b. found (literal_kind b.value)) var_listing (λ b scope. refl) vs

  pub inits_grow : (bs : List Binding) → Grows Scratch (names_of bs) (map init_listing bs)
  inits_grow bs = many_grow Scratch (λ (b : Binding). b.name) (λ b. found (literal_kind b.value)) init_listing (λ b scope. refl) bs

  -- one inner head, and the pattern of the first
  pub inner_grows : (h : HeadLine) (i : Inner) (scope : Scope) → sort_in (scope_after (inner_listing h i ∷ []) scope) n ≡ or_later (sort_in scope n) (where_so (bytes_eq n i.name) LoopVariable)
  inner_grows h i scope =
      let known : Known = known_as LoopVariable i.name (Some kind.Int) in
      sort_joined scope (known ∷ []) n ∙ ap (or_later (sort_in scope n)) (lone (bytes_eq n i.name) known)

  pub pattern_grows : (h : HeadLine) (scope : Scope) → sort_in (scope_after (head_listing h ∷ []) scope) n ≡ or_later (sort_in scope n) (where_so (is_in h.names n) LoopVariable)
  pattern_grows h scope =
      sort_joined scope (pattern_known LoopVariable h.names (item_kind h.product h.axes)) n
      ∙ ap (or_later (sort_in scope n)) (by_one_sorts LoopVariable h.names (pattern_kinds h.names (item_kind h.product h.axes)) n)

  pub heads_grow : (h : HeadLine) (inner : List Inner) → Grows LoopVariable (h.names ++ map (λ (i : Inner). i.name) inner) (head_listing h ∷ map (inner_listing h) inner)
  heads_grow h inner scope =
      let names : List (List ℕ) = map (λ (i : Inner). i.name) inner in
      many_grow LoopVariable (λ (i : Inner). i.name) (λ i. Some kind.Int) (inner_listing h) (λ i scope. refl) inner (scope_after (head_listing h ∷ []) scope)
      ∙ ap (λ z. or_later z (where_so (is_in names n) LoopVariable)) (pattern_grows h scope)
      ∙ or_twice (sort_in scope n) (is_in h.names n) (is_in names n) LoopVariable
      ∙ ap (λ b. or_later (sort_in scope n) (where_so b LoopVariable)) (sym (list_any-append (bytes_eq n) h.names names))
