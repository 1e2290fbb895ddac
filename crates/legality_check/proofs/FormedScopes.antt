-- The kinds of the names in scope are well formed on every line of a program that some text spells.
use Rattle.std.proofs.Common.{◌≡◌, ℕ, Bool, true, false, List, [], ◌∷◌, ◌++◌, map, length, Option, Some, None, Ok, Err, refl, sym, ap, subst, ◌∙◌, rules, codes}
use Rattle.std.specs.Prelude.{◌&&◌, if◌then◌else◌}
use Rattle.std.specs.List.{list_all, AllByRecursion}
use Rattle.std.specs.Option.{option_and_then}
use Rattle.std.specs.Str.{bytes_eq}
use Rattle.std.proofs.lemmas.Bool.{and_parts, and_from}
use Rattle.std.proofs.lemmas.List.{length-map}
use Rattle.loop_data.specs.declared.value.Value.{Value}
use Rattle.loop_data.specs.declared.value.Value.TheVariants as value
use Rattle.loop_data.specs.declared.value.ValueKind.{ValueKind, out-ValueKind, roll-ValueKind, the_lemmas as kind_lemmas}
use Rattle.loop_data.specs.declared.value.ValueKind.TheVariants as kind
use Rattle.loop_data.specs.declared.value.ValueKind.TheOpen.{ValueKind-F, ValueKind-F as k}
use Rattle.loop_data.specs.declared.expr.Expr.{Expr}
use Rattle.loop_data.specs.declared.head.Axis.{Axis, out-Axis, map-Axis, the_lemmas as axis_lemmas}
use Rattle.loop_data.specs.declared.head.Axis.TheOpen.{Axis-F, Axis-F as a}
use Rattle.loop_data.specs.declared.head.Binding.{Binding}
use Rattle.loop_data.specs.declared.head.HeadLine.{HeadLine}
use Rattle.loop_data.specs.declared.head.Inner.{Inner}
use Rattle.loop_data.specs.declared.head.PrintLine.{PrintLine}
use Rattle.loop_data.specs.declared.statement.Statement.{Statement}
use Rattle.loop_data.specs.declared.statement.Branch.{Branch}
use Rattle.loop_grammar.specs.declared.line.Line.TheVariants as l
use Rattle.loop_grammar.specs.declared.line.NumberedLine.{NumberedLine}
use Rattle.loop_grammar.specs.declared.tree.ProgramTree.{ProgramTree}
use Rattle.loop_grammar.specs.Nesting.{Nests, NestsStatement, NestsBlock, NestsParts, head_line, on}
use Rattle.loop_grammar.specs.WellFormed.{are_heads, are_lines, are_several, is_factor, is_head, is_pattern, is_plain, is_well_formed as is_formed_tree, is_within, factor_at, plain_at}
use Rattle.loop_grammar.specs.TreeLines.{tree_lines, skip_before, vars_before, heads_of}
use Rattle.loop_values.specs.Kinds.{Kinded, AreWellFormed, inside_maybe_at, is_plain_kind, is_tuple_length, is_well_formed, kind_of, literal_kind, plain_kind_step}
use Rattle.loop_values.proofs.FormedLemmas.{kinds_formed}
use Rattle.legality_rules.specs.declared.scope.Known.{Known}
use Rattle.legality_rules.specs.declared.scope.Sort.{Sort}
use Rattle.legality_rules.specs.declared.scope.Sort.TheVariants.{Local, LoopVariable, Scratch, Variable}
use Rattle.legality_rules.specs.Scopes.{Scope, axis_kind, axis_step, fits_pattern, found, item_kind, kinds_in, known_as, look_up, one_by_one, parts_at, parts_of, pattern_kinds, pattern_parts, unwrapped, unwrapped_at}
use Rattle.legality_rules.specs.Lines.{Entry, Listed, Listing, branches_in_turn, entries_of, head_listing, in_turn, init_listing, inner_listing, print_listing, statement_listing, branch_listing, var_listing, listings}
use Rattle.legality_rules.proofs.Layers.{listing-Let, listing-Set, listing-Keep, listing-Reduce, listing-Continue, listing-Break, listing-If, listing-branch}

-- ---- kinds

-- each kind that is given is well formed
abbrev pub GivesFormed : Option ValueKind → Type 0
GivesFormed x = (y : ValueKind) → x ≡ Some y → is_well_formed y ≡ true

abbrev pub AllFormed : List ValueKind → Type 0
AllFormed xs = AllByRecursion (λ x. is_well_formed x ≡ true) xs

some_is : (x y : ValueKind) → Some x ≡ Some y → x ≡ y
some_is x y e = cc

gives : (x : ValueKind) → is_well_formed x ≡ true → GivesFormed (Some x)
gives x f y e = subst (λ z. is_well_formed z ≡ true) (some_is x y e) f

gives_none : GivesFormed None
gives_none y e = absurd (cc)

formed-Int : is_well_formed kind.Int ≡ true
formed-Int = search (rules, kind_lemmas)

formed-Bool : is_well_formed kind.Bool ≡ true
formed-Bool = search (rules, kind_lemmas)

formed-Text : is_well_formed kind.Text ≡ true
formed-Text = search (rules, kind_lemmas)

formed-Tuple : (xs : List ValueKind) → is_well_formed (kind.Tuple xs) ≡ is_plain_kind (kind.Tuple xs)
formed-Tuple xs = search (rules, kind_lemmas)

formed-Maybe : (x : ValueKind) → is_well_formed (kind.Maybe x) ≡ is_plain_kind x
formed-Maybe x = search (rules, kind_lemmas)

plain-Int : is_plain_kind kind.Int ≡ true
plain-Int = search (rules, kind_lemmas)

plain-Text : is_plain_kind kind.Text ≡ true
plain-Text = search (rules, kind_lemmas)

plain-Maybe : (x : ValueKind) → is_plain_kind (kind.Maybe x) ≡ false
plain-Maybe x = search (rules, kind_lemmas)

plain-Tuple : (xs : List ValueKind) → is_plain_kind (kind.Tuple xs) ≡ plain_kind_step (k.Tuple (map is_plain_kind xs))
plain-Tuple xs = search (rules, kind_lemmas)

rolled_kind : (x : ValueKind) → roll-ValueKind (out-ValueKind x) ≡ x
rolled_kind x = search (rules, kind_lemmas)

rolled_as : (x : ValueKind) (z : ValueKind-F ValueKind) → out-ValueKind x ≡ z → x ≡ roll-ValueKind z
rolled_as x z is = sym (rolled_kind x) ∙ ap roll-ValueKind is

roll-Tuple : (xs : List ValueKind) → roll-ValueKind (k.Tuple xs) ≡ kind.Tuple xs
roll-Tuple xs = search (rules, kind_lemmas)

roll-Maybe : (x : ValueKind) → roll-ValueKind (k.Maybe x) ≡ kind.Maybe x
roll-Maybe x = search (rules, kind_lemmas)

-- a kind with no Maybe in it is well formed
plain_at_out : (z : ValueKind-F ValueKind) (x : ValueKind) → out-ValueKind x ≡ z → is_plain_kind x ≡ true → is_plain_kind (inside_maybe_at z x) ≡ true
plain_at_out k.Int x is p = p
plain_at_out k.Bool x is p = p
plain_at_out k.Text x is p = p
plain_at_out (k.Tuple xs) x is p = p
plain_at_out (k.Maybe y) x is p =
    let never : is_plain_kind x ≡ false = ap is_plain_kind (rolled_as x (k.Maybe y) is ∙ roll-Maybe y) ∙ plain-Maybe y in absurd (cc)

plain_formed : (x : ValueKind) → is_plain_kind x ≡ true → is_well_formed x ≡ true
plain_formed x p = plain_at_out (out-ValueKind x) x refl p

all_plain : (xs : List ValueKind) → list_all (λ p. p) (map is_plain_kind xs) ≡ true → AllFormed xs
all_plain [] e = tt
all_plain (x ∷ xs) e = let p = and_parts (is_plain_kind x) (list_all (λ p. p) (map is_plain_kind xs)) e in (plain_formed x p.0, all_plain xs p.1)

parts_formed_at : (z : ValueKind-F ValueKind) (x : ValueKind) → out-ValueKind x ≡ z → is_well_formed x ≡ true → AllFormed (parts_at z)
parts_formed_at k.Int x is f = tt
parts_formed_at k.Bool x is f = tt
parts_formed_at k.Text x is f = tt
parts_formed_at (k.Maybe y) x is f = tt
parts_formed_at (k.Tuple xs) x is f =
    let same : x ≡ kind.Tuple xs = rolled_as x (k.Tuple xs) is ∙ roll-Tuple xs in
    let plain : plain_kind_step (k.Tuple (map is_plain_kind xs)) ≡ true = sym (plain-Tuple xs) ∙ sym (formed-Tuple xs) ∙ ap is_well_formed (sym same) ∙ f in
    all_plain xs (and_parts (is_tuple_length (length (map is_plain_kind xs))) (list_all (λ p. p) (map is_plain_kind xs)) plain).1

-- the parts of a well-formed kind
parts_formed : (x : ValueKind) → is_well_formed x ≡ true → AllFormed (parts_of x)
parts_formed x f = parts_formed_at (out-ValueKind x) x refl f

pattern_parts_formed : (ns : List (List ℕ)) (x : ValueKind) → is_well_formed x ≡ true → AllFormed (pattern_parts ns x)
pattern_parts_formed [] x f = parts_formed x f
pattern_parts_formed (n ∷ []) x f = (f, tt)
pattern_parts_formed (n ∷ m ∷ ns) x f = parts_formed x f

where_fits : (t : Bool) (xs : List ValueKind) → AllFormed xs → AllFormed (if t then xs else [])
where_fits true xs f = f
where_fits false xs f = tt

pattern_formed : (ns : List (List ℕ)) (x : Option ValueKind) → GivesFormed x → AllFormed (pattern_kinds ns x)
pattern_formed ns (Some x) f = where_fits (fits_pattern ns x) (pattern_parts ns x) (pattern_parts_formed ns x (f x refl))
pattern_formed ns None f = tt

unwrapped_formed_at : (z : ValueKind-F ValueKind) (x : ValueKind) → out-ValueKind x ≡ z → is_well_formed x ≡ true → GivesFormed (unwrapped_at z)
unwrapped_formed_at (k.Maybe y) x is f =
    let plain : is_plain_kind y ≡ true = sym (formed-Maybe y) ∙ ap is_well_formed (sym (rolled_as x (k.Maybe y) is ∙ roll-Maybe y)) ∙ f in
    gives y (plain_formed y plain)
unwrapped_formed_at k.Int x is f = gives_none
unwrapped_formed_at k.Bool x is f = gives_none
unwrapped_formed_at k.Text x is f = gives_none
unwrapped_formed_at (k.Tuple xs) x is f = gives_none

kept_formed : (x : Option ValueKind) → GivesFormed x → GivesFormed (option_and_then unwrapped x)
kept_formed (Some x) f = unwrapped_formed_at (out-ValueKind x) x refl (f x refl)
kept_formed None f = gives_none

found_formed : (r : Kinded) → ((x : ValueKind) → r ≡ Ok x → is_well_formed x ≡ true) → GivesFormed (found r)
found_formed (Ok x) f = gives x (f x refl)
found_formed (Err s) f = gives_none

literal_formed : (v : Value) → GivesFormed (found (literal_kind v))
literal_formed (value.Int n) = gives kind.Int formed-Int
literal_formed (value.Bool b) = gives kind.Bool formed-Bool
literal_formed (value.Text t) = gives kind.Text formed-Text
literal_formed _ = gives_none

-- ---- scopes

-- the kind of each name in scope is well formed
abbrev pub AreFormed : Scope → Type 0
AreFormed scope = AllByRecursion (λ (known : Known). GivesFormed known.kind) scope

looked_up : (b : Bool) (known : Known) (rest : Option Known) → GivesFormed known.kind → GivesFormed (option_and_then (λ (x : Known). x.kind) rest) →
    GivesFormed (option_and_then (λ (x : Known). x.kind) (if b then Some known else rest))
looked_up true known rest f g = f
looked_up false known rest f g = g

pub formed_kinds : (scope : Scope) → AreFormed scope → AreWellFormed (kinds_in scope)
formed_kinds [] f n x e = absurd (cc)
formed_kinds (known ∷ scope) f n x e = looked_up (bytes_eq n known.name) known (look_up scope n) f.0 (formed_kinds scope f.1 n) x e

joined : (s t : Scope) → AreFormed s → AreFormed t → AreFormed (s ++ t)
joined [] t f g = g
joined (x ∷ s) t f g = (f.0, joined s t f.1 g)

with_one : (scope : Scope) (sort : Sort) (n : List ℕ) (x : Option ValueKind) → AreFormed scope → GivesFormed x → AreFormed (scope ++ known_as sort n x ∷ [])
with_one scope sort n x f g = joined scope (known_as sort n x ∷ []) f (g, tt)

none_known : (sort : Sort) (ns : List (List ℕ)) → AreFormed (map (λ n. known_as sort n None) ns)
none_known sort [] = tt
none_known sort (n ∷ ns) = (gives_none, none_known sort ns)

each_formed : (sort : Sort) (ns : List (List ℕ)) (xs : List ValueKind) → AllFormed xs → AreFormed (one_by_one sort ns xs)
each_formed sort [] [] f = tt
each_formed sort (n ∷ ns) [] f = (gives_none, none_known sort ns)
each_formed sort [] (x ∷ xs) f = tt
each_formed sort (n ∷ ns) (x ∷ xs) f = (gives x f.0, each_formed sort ns xs f.1)

-- ---- entries

abbrev pub EntriesFormed : List Entry → Type 0
EntriesFormed entries = AllByRecursion (λ (e : Entry). AreFormed e.scope) entries

-- a part of a program whose entries, and what follows it, have well-formed scopes where it stands in one
abbrev pub Keeps : Listing → Type 0
Keeps listing = (scope : Scope) → AreFormed scope → let here : Listed = listing scope in EntriesFormed here.entries × AreFormed here.scope

abbrev pub AllKeep : List Listing → Type 0
AllKeep some = AllByRecursion Keeps some

both_entries : (es fs : List Entry) → EntriesFormed es → EntriesFormed fs → EntriesFormed (es ++ fs)
both_entries [] fs w v = v
both_entries (e ∷ es) fs w v = (w.0, both_entries es fs w.1 v)

pub in_turn_formed : (some : List Listing) → AllKeep some → (scope : Scope) → AreFormed scope → EntriesFormed (in_turn some scope)
in_turn_formed [] keep scope f = tt
in_turn_formed (listing ∷ more) keep scope f =
    let here : Listed = listing scope in
    let h : EntriesFormed here.entries × AreFormed here.scope = keep.0 scope f in
    both_entries here.entries (in_turn more here.scope) h.0 (in_turn_formed more keep.1 here.scope h.1)

both_keep : (some more : List Listing) → AllKeep some → AllKeep more → AllKeep (some ++ more)
both_keep [] more a b = b
both_keep (x ∷ some) more a b = (a.0, both_keep some more a.1 b)

-- the same part in another form
listed_as : (x y : Listed) → x ≡ y → EntriesFormed y.entries × AreFormed y.scope → EntriesFormed x.entries × AreFormed x.scope
listed_as x y e h = let P : Listed → Type 0 = λ z. EntriesFormed z.entries × AreFormed z.scope in subst P (sym e) h

entries_as : (es fs : List Entry) → es ≡ fs → EntriesFormed fs → EntriesFormed es
entries_as es fs e h = subst EntriesFormed (sym e) h

-- ---- statements

kind_given : (x : Expr) (scope : Scope) → AreFormed scope → GivesFormed (found (kind_of x (kinds_in scope)))
kind_given x scope f = found_formed (kind_of x (kinds_in scope)) (λ y e. kinds_formed x (kinds_in scope) y (formed_kinds scope f) e)

mutual
  statement_keeps : {r : ℕ} {x : Statement} {from rest : List NumberedLine} → NestsStatement r x from rest → Keeps (statement_listing x)
  statement_keeps (NestsStatement.let_ {n = n} {names = ns} {x = x}) scope f =
      listed_as _ _ (listing-Let scope n ns x) (
        (f, tt),
        joined scope (one_by_one Local ns (pattern_kinds ns (found (kind_of x (kinds_in scope))))) f
            (each_formed Local ns _ (pattern_formed ns _ (kind_given x scope f))),
      )
  statement_keeps (NestsStatement.set {n = n} {name = m} {x = x}) scope f =
      listed_as _ _ (listing-Set scope n m x) ((f, tt), joined scope [] f tt)
  statement_keeps (NestsStatement.keep {n = n} {name = m} {x = x}) scope f =
      listed_as _ _ (listing-Keep scope n m x)
      ((f, tt), with_one scope Local m (option_and_then unwrapped (found (kind_of x (kinds_in scope)))) f (kept_formed _ (kind_given x scope f)))
  statement_keeps (NestsStatement.reduce {n = n} {name = m} {x = x} {start = start}) scope f =
      listed_as _ _ (listing-Reduce scope n m x start) ((f, tt), joined scope [] f tt)
  statement_keeps (NestsStatement.continue {n = n}) scope f = listed_as _ _ (listing-Continue scope n) (tt, f)
  statement_keeps (NestsStatement.break {n = n}) scope f = listed_as _ _ (listing-Break scope n) (tt, f)
  statement_keeps (NestsStatement.if_ {n = n} {m = m} {x = x} {block = block} {branches = branches} {else_line = el} {other = other} b p) scope f =
      let branch : Branch = record { line = n; test = x; block = block } in
      let others = parts_formed_in p scope f in
      listed_as _ _ (listing-If scope n (branch ∷ branches) el other m) (
        both_entries (branches_in_turn (codes "if") (map branch_listing (branch ∷ branches)) scope) (in_turn (map statement_listing other) scope)
            (both_entries (branch_listing branch (codes "if") scope) (branches_in_turn (codes "elseif") (map branch_listing branches) scope)
            (entries_as _ _ (listing-branch branch (codes "if") scope) (f, in_turn_formed (map statement_listing block) (block_keeps b) scope f)) others.0)
            others.1,
        f,
      )

  pub block_keeps : {r : ℕ} {xs : List Statement} {from rest : List NumberedLine} → NestsBlock r xs from rest → AllKeep (map statement_listing xs)
  block_keeps NestsBlock.none = tt
  block_keeps (NestsBlock.more h b) = (statement_keeps h, block_keeps b)

  parts_formed_in : {r m el : ℕ} {branches : List Branch} {other : List Statement} {from rest : List NumberedLine} → NestsParts r branches el other m from rest → (scope : Scope) → AreFormed scope →
      EntriesFormed (branches_in_turn (codes "elseif") (map branch_listing branches) scope) × EntriesFormed (in_turn (map statement_listing other) scope)
  parts_formed_in (NestsParts.elseif {n = n} {x = x} {block = block} {branches = branches} {other = other} b p) scope f =
      let branch : Branch = record { line = n; test = x; block = block } in
      let others = parts_formed_in p scope f in (
        both_entries (branch_listing branch (codes "elseif") scope) (branches_in_turn (codes "elseif") (map branch_listing branches) scope)
            (entries_as _ _ (listing-branch branch (codes "elseif") scope) (f, in_turn_formed (map statement_listing block) (block_keeps b) scope f)) others.0,
        others.1,
      )
  parts_formed_in (NestsParts.else_ {other = other} b) scope f = (tt, in_turn_formed (map statement_listing other) (block_keeps b) scope f)
  parts_formed_in NestsParts.end scope f = (tt, tt)

-- ---- the other lines

vars_keep : (bs : List Binding) → AllKeep (map var_listing bs)
vars_keep [] = tt
vars_keep (b ∷ bs) = (λ scope f. ((f, tt), with_one scope Variable b.name _ f (literal_formed b.value)), vars_keep bs)

inits_keep : (bs : List Binding) → AllKeep (map init_listing bs)
inits_keep [] = tt
inits_keep (b ∷ bs) = (λ scope f. ((f, tt), with_one scope Scratch b.name _ f (literal_formed b.value)), inits_keep bs)

inners_keep : (h : HeadLine) (is : List Inner) → AllKeep (map (inner_listing h) is)
inners_keep h [] = tt
inners_keep h (i ∷ is) = (λ scope f. ((f, tt), with_one scope LoopVariable i.name (Some kind.Int) f (gives kind.Int formed-Int)), inners_keep h is)

prints_keep : (ps : List PrintLine) → AllKeep (map print_listing ps)
prints_keep [] = tt
prints_keep (p ∷ ps) = (λ scope f. ((f, tt), joined scope [] f tt), prints_keep ps)

-- ---- the first head

axis_at : (x : Axis) → axis_kind x ≡ axis_step (map-Axis Axis ValueKind axis_kind (out-Axis x))
axis_at x = search (rules, axis_lemmas)

plain_axis_at : (z : Axis-F Axis) → plain_at z ≡ true → is_plain_kind (axis_step (map-Axis Axis ValueKind axis_kind z)) ≡ true
plain_axis_at (a.Steps r) e = plain-Int
plain_axis_at (a.Col n) e = plain-Text
plain_axis_at (a.Zip ps) e = absurd (cc)

plain_axis : (x : Axis) → is_plain x ≡ true → is_plain_kind (axis_kind x) ≡ true
plain_axis x e = ap is_plain_kind (axis_at x) ∙ plain_axis_at (out-Axis x) e

-- the tuple of some axes' kinds
tuple_plain : (test : Axis → Bool) → ((x : Axis) → test x ≡ true → is_plain_kind (axis_kind x) ≡ true) → (ps : List Axis) → are_several ps ≡ true → list_all test ps ≡ true →
    is_plain_kind (kind.Tuple (map axis_kind ps)) ≡ true
tuple_plain test h ps several all =
    let n : length (map is_plain_kind (map axis_kind ps)) ≡ length ps = length-map (map axis_kind ps) is_plain_kind ∙ length-map ps axis_kind in
    plain-Tuple (map axis_kind ps)
    ∙ and_from (is_tuple_length (length (map is_plain_kind (map axis_kind ps)))) (list_all (λ p. p) (map is_plain_kind (map axis_kind ps)))
    (ap is_tuple_length n ∙ several) (each ps all)
  where
    each : (qs : List Axis) → list_all test qs ≡ true → list_all (λ p. p) (map is_plain_kind (map axis_kind qs)) ≡ true
    each [] e = refl
    each (q ∷ qs) e =
        let p = and_parts (test q) (list_all test qs) e in
        and_from (is_plain_kind (axis_kind q)) (list_all (λ p. p) (map is_plain_kind (map axis_kind qs))) (h q p.0) (each qs p.1)

factor_axis_at : (z : Axis-F Axis) → factor_at z ≡ true → is_plain_kind (axis_step (map-Axis Axis ValueKind axis_kind z)) ≡ true
factor_axis_at (a.Steps r) e = plain-Int
factor_axis_at (a.Col n) e = plain-Text
factor_axis_at (a.Zip ps) e = let p = and_parts (are_several ps) (list_all is_plain ps) e in tuple_plain is_plain plain_axis ps p.0 p.1

factor_axis : (x : Axis) → is_factor x ≡ true → is_plain_kind (axis_kind x) ≡ true
factor_axis x e = ap is_plain_kind (axis_at x) ∙ factor_axis_at (out-Axis x) e

item_formed : (product : Bool) (axes : List Axis) → is_head product axes ≡ true → GivesFormed (item_kind product axes)
item_formed true axes e =
    let p = and_parts (are_several axes) (list_all is_factor axes) e in
    gives (kind.Tuple (map axis_kind axes)) (plain_formed _ (tuple_plain is_factor factor_axis axes p.0 p.1))
item_formed false [] e = absurd (cc)
item_formed false (x ∷ []) e = gives (axis_kind x) (plain_formed _ (factor_axis x e))
item_formed false (x ∷ y ∷ axes) e = absurd (cc)

head_keeps : (h : HeadLine) → is_head h.product h.axes ≡ true → Keeps (head_listing h)
head_keeps h e scope f = (
  (f, tt),
  joined scope (one_by_one LoopVariable h.names (pattern_kinds h.names (item_kind h.product h.axes))) f
      (each_formed LoopVariable h.names _ (pattern_formed h.names _ (item_formed h.product h.axes e))),
)

-- ---- the `for` line passes the test of trees

after_line : (n : ℕ) (x : NumberedLine) (xs : List NumberedLine) → are_lines n (x ∷ xs) ≡ true → (is_within x.form ≡ true) × (are_lines x.line xs ≡ true)
after_line n x xs e =
    let p = and_parts _ (is_within x.form && are_lines x.line xs) e in and_parts (is_within x.form) (are_lines x.line xs) p.1

after_vars : (bs : List Binding) (n : ℕ) (rest : List NumberedLine) → are_lines n (vars_before bs rest) ≡ true → (m : ℕ) × (are_lines m rest ≡ true)
after_vars [] n rest e = (n, e)
after_vars (b ∷ bs) n rest e = after_vars bs b.line rest (after_line n (on b.line (l.Var b.name b.value)) (vars_before bs rest) e).1

after_skip : (skip : Option ℕ) (n : ℕ) (rest : List NumberedLine) → are_lines n (skip_before skip rest) ≡ true → (m : ℕ) × (are_lines m rest ≡ true)
after_skip None n rest e = (n, e)
after_skip (Some k) n rest e = (k, (after_line n (on k l.SkipFaults) rest e).1)

head_formed : (p : ProgramTree) → is_formed_tree p ≡ true → is_head p.head.product p.head.axes ≡ true
head_formed p e =
    let lines = (and_parts (are_lines 0 (tree_lines p)) _ e).0 in
    let vars = after_skip p.skip_line 0 _ lines in
    let line = after_vars p.vars vars.0 _ vars.1 in
    let within = (after_line line.0 (on p.head.line (l.For (heads_of p.head))) _ line.1).0 in
    let form = (and_parts (are_heads (heads_of p.head)) _ within).0 in
    let heads = (and_parts (is_pattern p.head.names) _ form).1 in
    (and_parts (is_head p.head.product p.head.axes) _ heads).0

-- ---- the whole program

program_keeps : {r : ℕ} {p : ProgramTree} {forms : List NumberedLine} → Nests r p forms → is_head p.head.product p.head.axes ≡ true → AllKeep (listings p)
program_keeps (Nests.program {n = n} {m = m} {vars = vars} {scratch = scratch} {h = h} {body = body} {prints = prints} z u v c w) e =
    let head : HeadLine = head_line n h m in
    let one = map var_listing vars in
    let two = head_listing head ∷ map (inner_listing head) head.inner in
    let three = map init_listing scratch in
    let four = map statement_listing body in
    let five = map print_listing prints in
    both_keep (one ++ two ++ three ++ four) five
    (both_keep (one ++ two ++ three) four
    (both_keep (one ++ two) three (both_keep one two (vars_keep vars) (head_keeps head e, inners_keep head head.inner)) (inits_keep scratch)) (block_keeps c))
    (prints_keep prints)

-- on every line the kinds of the names in scope are well formed
pub scopes_formed : {r : ℕ} {p : ProgramTree} {forms : List NumberedLine} → Nests r p forms → is_formed_tree p ≡ true → EntriesFormed (entries_of p)
scopes_formed {p = p} nests e = in_turn_formed (listings p) (program_keeps nests (head_formed p e)) [] tt
