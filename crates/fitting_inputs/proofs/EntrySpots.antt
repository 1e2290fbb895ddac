-- In a program that a text spells only names that earlier entries bind are in scope at an entry, and what it binds or assigns are names.
use Rattle.std.proofs.Common.{◌≡◌, ℕ, Bool, true, false, List, [], ◌∷◌, ◌++◌, map, None, refl, ap, sym, ◌∙◌, subst, append_assoc, append-nil, codes, arith}
use Rattle.std.specs.Prelude.{nat_lt, nat_le, ◌≤◌, ◌&&◌, ◌||◌, Option, Some, length}
use Rattle.std.specs.List.{list_all, AllByRecursion}
use Rattle.std.specs.Option.{option_and_then}
use Rattle.std.specs.Str.{bytes_eq}
use Rattle.std.proofs.lemmas.List.Folds.{list_any-append}
use Rattle.loop_data.specs.declared.value.ValueKind.TheVariants as kind
use Rattle.loop_data.specs.declared.head.Binding.{Binding}
use Rattle.loop_data.specs.declared.head.HeadLine.{HeadLine}
use Rattle.loop_data.specs.declared.head.Inner.{Inner}
use Rattle.loop_data.specs.declared.head.PrintLine.{PrintLine}
use Rattle.loop_data.specs.declared.statement.Statement.{Statement}
use Rattle.loop_data.specs.declared.statement.Branch.{Branch}
use Rattle.loop_grammar.specs.declared.line.NumberedLine.{NumberedLine}
use Rattle.loop_grammar.specs.declared.tree.ProgramTree.{ProgramTree}
use Rattle.loop_grammar.specs.Nesting.{Nests, NestsBlock, NestsInits, NestsParts, NestsSkip, NestsStatement, NestsVars, head_line}
use Rattle.loop_grammar.specs.Texts.{AllSay, SpellsProgram}
use Rattle.loop_grammar.specs.TreeLines.{tree_lines}
use Rattle.loop_grammar.specs.WellFormed.{all_fit, are_heads, are_lines, is_expr, is_form, is_head, is_inner, is_literal, is_name, is_pattern, is_range, is_within, most_inside, statement_fits}
use Rattle.loop_writer.proofs.Placing.{AllNumbered}
use Rattle.loop_syntax.proofs.TreeLemmas.{tree_stands}
use Rattle.loop_syntax.proofs.WellFormedTexts.{programs_are_well_formed}
use Rattle.loop_values.specs.Kinds.{kind_of, literal_kind}
use Rattle.legality_rules.specs.declared.scope.Sort.TheVariants.{Local, LoopVariable, Scratch, Variable}
use Rattle.legality_rules.specs.Lines.{Entry, Form, Listed, Listing, assigned, bound, branch_listing, branches_in_turn, condition, first_head, first_name, head_listing, in_turn, init_line, init_listing, inner_head, inner_listing, keep_line, let_line, listings, one_entry, print_line, print_listing, reduce_line, set_line, statement_listing, var_line, var_listing}
use Rattle.legality_rules.specs.Offences.{spots_after, spots_of}
use Rattle.legality_rules.specs.Rules.{Spot, bound_by}
use Rattle.legality_rules.specs.Scopes.{Scope, found, is_in, item_kind, kinds_in, known_as, pattern_known, sort_in, unwrapped}
use Rattle.legality_rules.proofs.FirstLemmas.{left_true, right_true}
use Rattle.legality_rules.proofs.Layers.{listing-Break, listing-Continue, listing-If, listing-Keep, listing-Let, listing-Reduce, listing-Set, listing-branch}
use Rattle.carries_nothing.proofs.EntryNames.{entries_in, scope_in}
use Rattle.carries_nothing.proofs.SameNames.{first_false, second_false}
use Rattle.carries_nothing.proofs.ScopeLemmas.{one_none, pattern_none, sort_none}
use Rattle.carries_nothing.proofs.SpotLemmas.{flat_joined}

-- ---- what holds at an entry

-- a name that none of these entries binds isn't in scope
abbrev pub OnlyBound : List Entry → Scope → Type 0
OnlyBound before scope = (n : List ℕ) → is_in (bound_by before) n ≡ false → sort_in scope n ≡ None

-- only names that earlier entries bind are in scope, and what the entry binds or assigns are names
pub record IsSound (spot : Spot) : Type 0 where
  pub only : OnlyBound spot.earlier spot.here.scope
  pub binds : list_all is_name (bound spot.here.says) ≡ true
  pub assigns : list_all is_name (assigned spot.here.says) ≡ true

abbrev pub AllSound : List Entry → List Entry → Type 0
AllSound before entries = AllByRecursion IsSound (spots_after before entries)

sound_joined : (before xs ys : List Entry) → AllSound before xs → AllSound (before ++ xs) ys → AllSound before (xs ++ ys)
sound_joined before [] ys h k = subst (λ z. AllSound z ys) (append-nil before) k
sound_joined before (x ∷ xs) ys h k =
    (h.0, sound_joined (before ++ x ∷ []) xs ys h.1 (subst (λ z. AllSound z ys) (sym (append_assoc before (x ∷ []) xs)) k))

bound_joined : (xs ys : List Entry) (n : List ℕ) → is_in (bound_by (xs ++ ys)) n ≡ (is_in (bound_by xs) n || is_in (bound_by ys) n)
bound_joined xs ys n = ap (λ ns. is_in ns n) (flat_joined (λ (e : Entry). bound e.says) xs ys) ∙ list_any-append (bytes_eq n) (bound_by xs) (bound_by ys)

-- behind more entries still only bound names are in scope
still : (before more : List Entry) (scope : Scope) → OnlyBound before scope → OnlyBound (before ++ more) scope
still before more scope only n h = only n (first_false (is_in (bound_by before) n) (is_in (bound_by more) n) (sym (bound_joined before more n) ∙ h))

-- ---- parts of a program

-- where only bound names are in scope, the entries are sound
abbrev SoundEntries : (Scope → List Entry) → Type 0
SoundEntries entries = (before : List Entry) (scope : Scope) → OnlyBound before scope → AllSound before (entries scope)

-- the same of a part of a program, behind which only bound names are in scope
abbrev Sound : Listing → Type 0
Sound listing = (before : List Entry) (scope : Scope) → OnlyBound before scope →
    AllSound before (entries_in listing scope) × OnlyBound (before ++ entries_in listing scope) (scope_in listing scope)

abbrev EachSound : List Listing → Type 0
EachSound listings = AllByRecursion Sound listings

each_joined : (xs ys : List Listing) → EachSound xs → EachSound ys → EachSound (xs ++ ys)
each_joined [] ys h k = k
each_joined (x ∷ xs) ys h k = (h.0, each_joined xs ys h.1 k)

turn_sound : (listings : List Listing) → EachSound listings → SoundEntries (in_turn listings)
turn_sound [] each before scope only = tt
turn_sound (x ∷ xs) each before scope only =
    let here : AllSound before (entries_in x scope) × OnlyBound (before ++ entries_in x scope) (scope_in x scope) = each.0 before scope only in
    sound_joined before (entries_in x scope) (in_turn xs (scope_in x scope)) here.0 (turn_sound xs each.1 (before ++ entries_in x scope) (scope_in x scope) here.1)

one_sound : (line : ℕ) (called : List ℕ) (says : Form) (binds : Scope → Scope) → list_all is_name (bound says) ≡ true → list_all is_name (assigned says) ≡ true →
    ((scope : Scope) (n : List ℕ) → is_in (bound says) n ≡ false → sort_in (binds scope) n ≡ None) → Sound (λ scope. one_entry line called says (binds scope) scope)
one_sound line called says binds own sets hidden before scope only =
    let here : Entry = record { line = line; called = called; scope = scope; says = says } in (
      (record { only = only; binds = own; assigns = sets }, tt),
      λ n h.
          let both : (is_in (bound_by before) n || is_in (bound_by (here ∷ [])) n) ≡ false = sym (bound_joined before (here ∷ []) n) ∙ h in
          let last : is_in (bound_by (here ∷ [])) n ≡ false = second_false (is_in (bound_by before) n) (is_in (bound_by (here ∷ [])) n) both in
          sort_none scope (binds scope) n (only n (first_false (is_in (bound_by before) n) (is_in (bound_by (here ∷ [])) n) both))
          (hidden scope n (ap (λ ns. is_in ns n) (sym (append-nil (bound says))) ∙ last)),
    )

-- entries after which the same names are in scope as before
plain_sound : (entries : Scope → List Entry) → SoundEntries entries → Sound (λ scope. record { entries = entries scope; scope = scope })
plain_sound entries h before scope only = (h before scope only, still before (entries scope) scope only)

two_sound : (xs ys : Scope → List Entry) → SoundEntries xs → SoundEntries ys → SoundEntries (λ scope. xs scope ++ ys scope)
two_sound xs ys h k before scope only = sound_joined before (xs scope) (ys scope) (h before scope only) (k (before ++ xs scope) scope (still before (xs scope) scope only))

sound_as : (listing other : Listing) → ((scope : Scope) → listing scope ≡ other scope) → Sound other → Sound listing
sound_as listing other same h before scope only =
    subst (λ (z : Listed). AllSound before z.entries × OnlyBound (before ++ z.entries) z.scope) (sym (same scope)) (h before scope only)

-- a condition with its block
branch_sound : (b : Branch) (word : List ℕ) → EachSound (map statement_listing b.block) → SoundEntries (branch_listing b word)
branch_sound b word each before scope only =
    let here : Entry = record { line = b.line; called = word; scope = scope; says = condition b.test } in
    subst (AllSound before) (sym (listing-branch b word scope)) (
      record { only = only; binds = refl; assigns = refl },
      turn_sound (map statement_listing b.block) each (before ++ here ∷ []) scope (still before (here ∷ []) scope only),
    )

-- ---- names of lines

-- each line is what it may be
abbrev AllForms : List NumberedLine → Type 0
AllForms lines = AllByRecursion (λ (p : NumberedLine). is_form p.form ≡ true) lines

lone : (b : Bool) → b ≡ true → (b && true) ≡ true
lone true e = refl
lone false e = e

-- the name of a line that begins with one
one_name : (m : List ℕ) (b : Bool) → (is_name m && b) ≡ true → list_all is_name (m ∷ []) ≡ true
one_name m b e = lone (is_name m) (left_true (is_name m) b e)

pattern_names : (ns : List (List ℕ)) → is_pattern ns ≡ true → list_all is_name ns ≡ true
pattern_names ns e = right_true (nat_le (length ns) 4) (list_all is_name ns) (right_true (nat_le 1 (length ns)) (nat_le (length ns) 4 && list_all is_name ns) e)

-- ---- statements

record StatementSound (listing : Listing) (rest : List NumberedLine) : Type 0 where
  pub sound : Sound listing
  pub later : AllForms rest

record EachOf (listings : List Listing) (rest : List NumberedLine) : Type 0 where
  pub each : EachSound listings
  pub later : AllForms rest

-- what stands behind the block of an `if` or `elseif`
record PartsSound (branches : List Branch) (other : List Statement) (rest : List NumberedLine) : Type 0 where
  pub more : SoundEntries (branches_in_turn (codes "elseif") (map branch_listing branches))
  pub last : SoundEntries (in_turn (map statement_listing other))
  pub later : AllForms rest

if_sound : (k : ℕ) (branch : Branch) (branches : List Branch) (else_line : ℕ) (other : List Statement) (m : ℕ) → SoundEntries (branch_listing branch (codes "if")) →
    SoundEntries (branches_in_turn (codes "elseif") (map branch_listing branches)) → SoundEntries (in_turn (map statement_listing other)) →
    Sound (λ scope. record { entries = branches_in_turn (codes "if") (map branch_listing (branch ∷ branches)) scope ++ in_turn (map statement_listing other) scope; scope = scope })
if_sound k branch branches else_line other m first more last =
    plain_sound (λ scope. branches_in_turn (codes "if") (map branch_listing (branch ∷ branches)) scope ++ in_turn (map statement_listing other) scope)
    (two_sound (λ scope. branches_in_turn (codes "if") (map branch_listing (branch ∷ branches)) scope) (in_turn (map statement_listing other))
    (two_sound (branch_listing branch (codes "if")) (branches_in_turn (codes "elseif") (map branch_listing branches)) first more) last)

mutual
  statement_sound : {r : ℕ} {x : Statement} {from rest : List NumberedLine} → NestsStatement r x from rest → AllForms from → StatementSound (statement_listing x) rest
  statement_sound (NestsStatement.let_ {n = k} {names = ns} {x = x}) f = record {
    sound = sound_as _ _ (λ scope. listing-Let scope k ns x)
        (one_sound k (first_name ns) (let_line ns x) (λ scope. pattern_known Local ns (found (kind_of x (kinds_in scope)))) (pattern_names ns (left_true (is_pattern ns) (is_expr x) f.0)) refl
        (λ scope n h. pattern_none Local ns (found (kind_of x (kinds_in scope))) n h));
    later = f.1;
  }
  statement_sound (NestsStatement.set {n = k} {name = m} {x = x}) f = record {
    sound = sound_as _ _ (λ scope. listing-Set scope k m x) (one_sound k m (set_line m x) (λ scope. []) refl (one_name m (is_expr x) f.0) (λ scope n h. refl));
    later = f.1;
  }
  statement_sound (NestsStatement.keep {n = k} {name = m} {x = x}) f = record {
    sound = sound_as _ _ (λ scope. listing-Keep scope k m x)
        (one_sound k m (keep_line m x) (λ scope. known_as Local m (option_and_then unwrapped (found (kind_of x (kinds_in scope)))) ∷ []) (one_name m (is_expr x) f.0) refl
        (λ scope n h. one_none Local m (option_and_then unwrapped (found (kind_of x (kinds_in scope)))) n h));
    later = f.1;
  }
  statement_sound (NestsStatement.reduce {n = k} {name = m} {x = x} {start = start}) f = record {
    sound = sound_as _ _ (λ scope. listing-Reduce scope k m x start) (one_sound k m (reduce_line m x start) (λ scope. []) refl refl (λ scope n h. refl));
    later = f.1;
  }
  statement_sound (NestsStatement.continue {n = k}) f = record {
    sound = sound_as _ _ (λ scope. listing-Continue scope k) (plain_sound (λ scope. []) (λ before scope only. tt));
    later = f.1;
  }
  statement_sound (NestsStatement.break {n = k}) f = record {
    sound = sound_as _ _ (λ scope. listing-Break scope k) (plain_sound (λ scope. []) (λ before scope only. tt));
    later = f.1;
  }
  statement_sound (NestsStatement.if_ {n = k} {m = m} {x = x} {block = block} {branches = branches} {else_line = el} {other = other} b p) f =
      let branch : Branch = record { line = k; test = x; block = block } in
      let first = block_sound b f.1 in
      let parts = parts_sound p first.later in
      record {
        sound = sound_as _ _ (λ scope. listing-If scope k (branch ∷ branches) el other m)
            (if_sound k branch branches el other m (branch_sound branch (codes "if") first.each) parts.more parts.last);
        later = parts.later;
      }

  block_sound : {r : ℕ} {xs : List Statement} {from rest : List NumberedLine} → NestsBlock r xs from rest → AllForms from → EachOf (map statement_listing xs) rest
  block_sound NestsBlock.none f = record { each = tt; later = f }
  block_sound (NestsBlock.more h b) f =
      let first = statement_sound h f in
      let more = block_sound b first.later in
      record { each = (first.sound, more.each); later = more.later }

  parts_sound : {r m el : ℕ} {branches : List Branch} {other : List Statement} {from rest : List NumberedLine} → NestsParts r branches el other m from rest → AllForms from → PartsSound branches other rest
  parts_sound (NestsParts.elseif {n = k} {x = x} {block = block} {branches = branches} b p) f =
      let branch : Branch = record { line = k; test = x; block = block } in
      let first = block_sound b f.1 in
      let parts = parts_sound p first.later in
      record {
        more = two_sound (branch_listing branch (codes "elseif")) (branches_in_turn (codes "elseif") (map branch_listing branches)) (branch_sound branch (codes "elseif") first.each) parts.more;
        last = parts.last;
        later = parts.later;
      }
  parts_sound (NestsParts.else_ {other = other} b) f =
      let block = block_sound b f.1 in
      record { more = λ before scope only. tt; last = turn_sound (map statement_listing other) block.each; later = block.later.1 }
  parts_sound NestsParts.end f = record { more = λ before scope only. tt; last = λ before scope only. tt; later = f.1 }

-- ---- the other lines

var_sound : (b : Binding) → (is_name b.name && is_literal b.value) ≡ true → Sound (var_listing b)
var_sound b e =
    one_sound b.line b.name (var_line b.name b.value) (λ scope. known_as Variable b.name (found (literal_kind b.value)) ∷ []) (one_name b.name (is_literal b.value) e) refl
    (λ scope n h. one_none Variable b.name (found (literal_kind b.value)) n h)

init_sound : (b : Binding) → (is_name b.name && is_literal b.value) ≡ true → Sound (init_listing b)
init_sound b e =
    one_sound b.line b.name (init_line b.name b.value) (λ scope. known_as Scratch b.name (found (literal_kind b.value)) ∷ []) (one_name b.name (is_literal b.value) e) refl
    (λ scope n h. one_none Scratch b.name (found (literal_kind b.value)) n h)

head_sound : (h : HeadLine) → is_pattern h.names ≡ true → Sound (head_listing h)
head_sound h e =
    one_sound h.line (first_name h.names) (first_head h.names h.axes h.product) (λ scope. pattern_known LoopVariable h.names (item_kind h.product h.axes)) (pattern_names h.names e) refl
    (λ scope n k. pattern_none LoopVariable h.names (item_kind h.product h.axes) n k)

inners_sound : (h : HeadLine) (inner : List Inner) → list_all is_inner inner ≡ true → EachSound (map (inner_listing h) inner)
inners_sound h [] e = tt
inners_sound h (i ∷ inner) e = (
  one_sound h.line (first_name h.names) (inner_head i.name i.range) (λ scope. known_as LoopVariable i.name (Some kind.Int) ∷ [])
      (one_name i.name (is_range i.range) (left_true (is_inner i) (list_all is_inner inner) e)) refl (λ scope n k. one_none LoopVariable i.name (Some kind.Int) n k),
  inners_sound h inner (right_true (is_inner i) (list_all is_inner inner) e),
)

prints_sound : (ps : List PrintLine) → EachSound (map print_listing ps)
prints_sound [] = tt
prints_sound (p ∷ ps) = (one_sound p.line (codes "print") (print_line p.name) (λ scope. []) refl refl (λ scope n h. refl), prints_sound ps)

skip_later : {skip : Option ℕ} {from rest : List NumberedLine} → NestsSkip skip from rest → AllForms from → AllForms rest
skip_later NestsSkip.none f = f
skip_later NestsSkip.one f = f.1

vars_sound : {bs : List Binding} {from rest : List NumberedLine} → NestsVars bs from rest → AllForms from → EachOf (map var_listing bs) rest
vars_sound NestsVars.none f = record { each = tt; later = f }
vars_sound (NestsVars.more {n = k} {name = m} {v = v} b) f =
    let more = vars_sound b f.1 in
    record { each = (var_sound (record { line = k; name = m; value = v }) f.0, more.each); later = more.later }

inits_sound : {bs : List Binding} {from rest : List NumberedLine} → NestsInits bs from rest → AllForms from → EachOf (map init_listing bs) rest
inits_sound NestsInits.none f = record { each = tt; later = f }
inits_sound (NestsInits.more {n = k} {name = m} {v = v} b) f =
    let more = inits_sound b f.1 in
    record { each = (init_sound (record { line = k; name = m; value = v }) f.0, more.each); later = more.later }

-- ---- the whole program

program_sound : {r : ℕ} {p : ProgramTree} {forms : List NumberedLine} → Nests r p forms → AllForms forms → EachSound (listings p)
program_sound (Nests.program {n = n} {m = m} {vars = vars} {scratch = scratch} {h = h} {body = body} {prints = prints} z a b c e) f =
    let head : HeadLine = head_line n h m in
    let of_vars = vars_sound a (skip_later z f) in
    let line : are_heads h ≡ true = of_vars.later.0 in
    let of_inits = inits_sound b of_vars.later.1 in
    let of_body = block_sound c of_inits.later in
    let names : is_pattern h.names ≡ true = left_true (is_pattern h.names) _ line in
    let inner : list_all is_inner h.inner ≡ true =
    right_true (nat_le (length h.inner) 3) (list_all is_inner h.inner) (right_true (is_head h.product h.axes) _ (right_true (is_pattern h.names) _ line)) in
    let one : List Listing = map var_listing vars in
    let two : List Listing = head_listing head ∷ map (inner_listing head) head.inner in
    let three : List Listing = map init_listing scratch in
    let four : List Listing = map statement_listing body in
    each_joined (((one ++ two) ++ three) ++ four) (map print_listing prints)
    (each_joined ((one ++ two) ++ three) four
    (each_joined (one ++ two) three (each_joined one two of_vars.each (head_sound head names, inners_sound head head.inner inner)) of_inits.each) of_body.each)
    (prints_sound prints)

-- lines that stand one below another are what they may be
forms_hold : (n : ℕ) (lines : List NumberedLine) → are_lines n lines ≡ true → AllForms lines
forms_hold n [] e = tt
forms_hold n (p ∷ ps) e =
    let rest : (is_within p.form && are_lines p.line ps) ≡ true = right_true (nat_lt n p.line) (is_within p.form && are_lines p.line ps) e in
    (left_true (is_form p.form) _ (left_true (is_within p.form) (are_lines p.line ps) rest), forms_hold p.line ps (right_true (is_within p.form) (are_lines p.line ps) rest))

-- the entries of a program whose lines stand one below another are sound
nested_sound : {r : ℕ} {p : ProgramTree} {forms : List NumberedLine} → Nests r p forms → are_lines 0 forms ≡ true → AllByRecursion IsSound (spots_of p)
nested_sound {p = p} {forms = forms} nests e = turn_sound (listings p) (program_sound nests (forms_hold 0 forms e)) [] [] (λ n h. refl)

numbered_from : {n : ℕ} {lines : List (List ℕ)} {forms : List NumberedLine} → AllSay n lines forms → 1 ≤ n → AllNumbered forms
numbered_from AllSay.none le = tt
numbered_from (AllSay.blank_line {n = n} b h) le = numbered_from h (omega arith)
numbered_from (AllSay.line {n = n} b h) le = ((λ (e : n ≡ 0). omega arith), numbered_from h (omega arith))

-- the entries of a program that a text spells are sound
pub entries_sound : (text : List ℕ) (program : ProgramTree) → SpellsProgram text program → AllByRecursion IsSound (spots_of program)
entries_sound text program spelled =
    let stands = tree_stands spelled.nests (numbered_from spelled.lines (omega arith)) in
    let lines : are_lines 0 (tree_lines program) ≡ true =
    left_true (are_lines 0 (tree_lines program)) (all_fit (map statement_fits program.body) most_inside) (programs_are_well_formed text program spelled) in
    nested_sound spelled.nests (subst (λ (forms : List NumberedLine). are_lines 0 forms ≡ true) (sym stands.same) lines)
