-- In a program that a text spells what lines bind or assign are names: so neither `place` nor any text that is no name.
use Rattle.std.proofs.Common.{◌≡◌, ℕ, zero, suc, Bool, true, false, List, [], ◌∷◌, ◌++◌, refl, ap, sym, ◌∙◌, subst}
use Rattle.std.proofs.Math.Dec.{eqb-suc-zero}
use Rattle.std.specs.Prelude.{if◌then◌else◌, nat_lt, nat_le, not, ◌&&◌, ◌||◌, Option, Some, None, map, length}
use Rattle.std.specs.List.{list_all}
use Rattle.std.specs.Str.{bytes_eq}
use Rattle.std.proofs.lemmas.List.Folds.{list_any-append}
use Rattle.loop_data.specs.declared.head.Binding.{Binding}
use Rattle.loop_data.specs.declared.head.Inner.{Inner}
use Rattle.loop_data.specs.declared.statement.Statement.{Statement, fold-roll-Statement, ind-Statement, map-Statement, roll-Statement}
use Rattle.loop_data.specs.declared.statement.Branch.{Branch, fold-roll-Branch, roll-Branch}
use Rattle.loop_data.specs.declared.statement.Statement.TheOpen.{Statement-F, Statement-F as s, Branch-F}
use Rattle.loop_data.specs.declared.statement.Statement.TheFolds as folds
use Rattle.loop_grammar.specs.declared.line.Line.TheVariants as l
use Rattle.loop_grammar.specs.declared.line.NumberedLine.{NumberedLine}
use Rattle.loop_grammar.specs.declared.tree.ProgramTree.{ProgramTree}
use Rattle.loop_grammar.specs.Nesting.{on}
use Rattle.loop_grammar.specs.TreeLines.{Before, all_before, branch_before, branch_layer, branches_before, else_before, heads_of, inits_before, more_before, skip_before, statement_before, statement_layer, test_line, tree_lines, vars_before}
use Rattle.loop_grammar.specs.WellFormed.{BranchFits, Fits, all_fit, are_lines, branch_fits, branch_fits_layer, branches_fit, fits_layer, if_fits, is_expr, is_form, is_head, is_inner, is_literal, is_name, is_pattern, is_range, is_well_formed, is_within, most_inside, other_fits, starts_at, statement_fits}
use Rattle.loop_values.specs.Bindings.{place_name}
use Rattle.loop_values.proofs.EntryLemmas.{same_text}
use Rattle.legality_rules.specs.Rules.{is_assigned, outline_of}
use Rattle.legality_rules.specs.Scopes.{is_in}
use Rattle.loop_meaning.specs.Assigned.{all_assigned, assigned_by, assigned_in, assigned_in_branch, assigned_in_branch_step, assigned_step}
use Rattle.loop_meaning.specs.Stores.{names_of, stored_names}
use Rattle.carries_nothing.specs.Alike.{is_lasting, is_scratch, is_variable}
use Rattle.carries_nothing.specs.Bodies.{is_assigned_scratch, is_named}
use Rattle.carries_nothing.specs.Laws.{OthersAreUnseen, SpelledNamesLast}

left_true : (a b : Bool) → (a && b) ≡ true → a ≡ true
left_true true b e = refl
left_true false b e = absurd (cc)

right_true : (a b : Bool) → (a && b) ≡ true → b ≡ true
right_true true b e = e
right_true false b e = absurd (cc)

-- lines that stand one below another are so behind the first of them
behind : (k : ℕ) (p : NumberedLine) (ps : List NumberedLine) → are_lines k (p ∷ ps) ≡ true → (is_form p.form ≡ true) × (are_lines p.line ps ≡ true)
behind k p ps e =
    let rest = right_true (nat_lt k p.line) (is_within p.form && are_lines p.line ps) e in
    (left_true (is_form p.form) _ (left_true (is_within p.form) (are_lines p.line ps) rest), right_true (is_within p.form) (are_lines p.line ps) rest)

abbrev Names : Type 0
Names = List (List ℕ)

-- a text that is no name
module _ (n : List ℕ) (other : is_name n ≡ false) where
  name_isnt : (m : List ℕ) → is_name m ≡ true → (b : Bool) → bytes_eq n m ≡ b → b ≡ false
  name_isnt m e false is = refl
  name_isnt m e true is = absurd (let yes : is_name n ≡ true = ap is_name (same_text n m is) ∙ e in let no = other in cc)

  one_isnt : (m : List ℕ) → is_name m ≡ true → bytes_eq n m ≡ false
  one_isnt m e = name_isnt m e (bytes_eq n m) refl

  all_arent : (ms : Names) → list_all is_name ms ≡ true → is_in ms n ≡ false
  all_arent [] e = refl
  all_arent (m ∷ ms) e = ap (λ b. b || is_in ms n) (one_isnt m (left_true (is_name m) (list_all is_name ms) e)) ∙ all_arent ms (right_true (is_name m) (list_all is_name ms) e)

  both_arent : (ms ks : Names) → is_in ms n ≡ false → is_in ks n ≡ false → is_in (ms ++ ks) n ≡ false
  both_arent ms ks e h = list_any-append (bytes_eq n) ms ks ∙ ap (λ b. b || is_in ks n) e ∙ h

  -- the text is none of these names, and lines stand one below another behind those that name them
  record Clean (names : Names) (rest : List NumberedLine) : Type 0 where
    pub apart : is_in names n ≡ false
    pub line : ℕ
    pub lines : are_lines line rest ≡ true

  then_clean : (names more : Names) (rest : List NumberedLine) → is_in names n ≡ false → Clean more rest → Clean (names ++ more) rest
  then_clean names more rest e c = record { apart = both_arent names more e c.apart; line = c.line; lines = c.lines }

  -- ---- `var` and `@init` lines, patterns and inner heads

  one_clean : (b : Binding) (bs : List Binding) (rest : List NumberedLine) → (is_name b.name && is_literal b.value) ≡ true → Clean (names_of bs) rest → Clean (names_of (b ∷ bs)) rest
  one_clean b bs rest e c = record {
    apart = ap (λ z. z || is_in (names_of bs) n) (one_isnt b.name (left_true (is_name b.name) (is_literal b.value) e)) ∙ c.apart;
    line = c.line;
    lines = c.lines;
  }

  vars_clean : (k : ℕ) (bs : List Binding) (rest : List NumberedLine) → are_lines k (vars_before bs rest) ≡ true → Clean (names_of bs) rest
  vars_clean k [] rest e = record { apart = refl; line = k; lines = e }
  vars_clean k (b ∷ bs) rest e = let here = behind k (on b.line (l.Var b.name b.value)) (vars_before bs rest) e in one_clean b bs rest here.0 (vars_clean b.line bs rest here.1)

  inits_clean : (k : ℕ) (bs : List Binding) (rest : List NumberedLine) → are_lines k (inits_before bs rest) ≡ true → Clean (names_of bs) rest
  inits_clean k [] rest e = record { apart = refl; line = k; lines = e }
  inits_clean k (b ∷ bs) rest e = let here = behind k (on b.line (l.Init b.name b.value)) (inits_before bs rest) e in one_clean b bs rest here.0 (inits_clean b.line bs rest here.1)

  skip_clean : (o : Option ℕ) (rest : List NumberedLine) → are_lines 0 (skip_before o rest) ≡ true → Clean [] rest
  skip_clean None rest e = record { apart = refl; line = 0; lines = e }
  skip_clean (Some k) rest e = record { apart = refl; line = k; lines = (behind 0 (on k l.SkipFaults) rest e).1 }

  pattern_clean : (ns : Names) → is_pattern ns ≡ true → is_in ns n ≡ false
  pattern_clean ns e = all_arent ns (right_true (nat_le (length ns) 4) (list_all is_name ns) (right_true (nat_le 1 (length ns)) (nat_le (length ns) 4 && list_all is_name ns) e))

  inner_clean : (hs : List Inner) → list_all is_inner hs ≡ true → is_in (map (λ (h : Inner). h.name) hs) n ≡ false
  inner_clean [] e = refl
  inner_clean (h ∷ hs) e =
      ap (λ b. b || is_in (map (λ (i : Inner). i.name) hs) n) (one_isnt h.name (left_true (is_name h.name) (is_range h.range) (left_true (is_inner h) (list_all is_inner hs) e)))
      ∙ inner_clean hs (right_true (is_inner h) (list_all is_inner hs) e)

  -- ---- statements

  abbrev IsClean : Before → Fits → Names → Type 0
  IsClean before fits names = (k room : ℕ) (rest : List NumberedLine) → are_lines k (before rest) ≡ true → fits room ≡ true → Clean names rest

  abbrev IsCleanBranch : (Bool → Before) → BranchFits → Names → Type 0
  IsCleanBranch before fits names = (first : Bool) → IsClean (before first) fits.block names

  abbrev StatementClean : Statement → Type 0
  StatementClean x = IsClean (statement_before x) (statement_fits x) (assigned_in x)

  abbrev BranchClean : Branch → Type 0
  BranchClean b = IsCleanBranch (branch_before b) (branch_fits b) (assigned_in_branch b)

  abbrev Such : Type 0
  Such = (x : Statement) × StatementClean x

  abbrev SuchBranch : Type 0
  SuchBranch = (b : Branch) × BranchClean b

  abbrev bare : Such → Statement
  bare e = e.0

  abbrev bare_branch : SuchBranch → Branch
  bare_branch e = e.0

  block_clean : (xs : List Such) → IsClean (all_before (map statement_before (map bare xs))) (all_fit (map statement_fits (map bare xs))) (all_assigned (map assigned_in (map bare xs)))
  block_clean [] k room rest e f = record { apart = refl; line = k; lines = e }
  block_clean (x ∷ xs) k room rest e f =
      let here = x.1 k room (all_before (map statement_before (map bare xs)) rest) e (left_true (statement_fits x.0 room) _ f) in
      then_clean (assigned_in x.0) _ rest here.apart (block_clean xs here.line room rest here.lines (right_true (statement_fits x.0 room) _ f))

  more_clean : (bs : List SuchBranch) → IsClean (more_before (map branch_before (map bare_branch bs))) (branches_fit (map branch_fits (map bare_branch bs))) (all_assigned (map assigned_in_branch (map bare_branch bs)))
  more_clean [] k room rest e f = record { apart = refl; line = k; lines = e }
  more_clean (b ∷ bs) k room rest e f =
      let fits : BranchFits = branch_fits b.0 in
      let here = b.1 false k room (more_before (map branch_before (map bare_branch bs)) rest) e (left_true (fits.block room) _ f) in
      then_clean (assigned_in_branch b.0) _ rest here.apart (more_clean bs here.line room rest here.lines (right_true (fits.block room) _ f))

  branches_clean : (bs : List SuchBranch) → IsClean (branches_before (map branch_before (map bare_branch bs))) (branches_fit (map branch_fits (map bare_branch bs))) (all_assigned (map assigned_in_branch (map bare_branch bs)))
  branches_clean [] k room rest e f = record { apart = refl; line = k; lines = e }
  branches_clean (b ∷ bs) k room rest e f =
      let fits : BranchFits = branch_fits b.0 in
      let here = b.1 true k room (more_before (map branch_before (map bare_branch bs)) rest) e (left_true (fits.block room) _ f) in
      then_clean (assigned_in_branch b.0) _ rest here.apart (more_clean bs here.line room rest here.lines (right_true (fits.block room) _ f))

  else_clean : (else_line : ℕ) (xs : List Such) → IsClean (else_before else_line (map statement_before (map bare xs))) (other_fits else_line (map statement_fits (map bare xs))) (all_assigned (map assigned_in (map bare xs)))
  else_clean zero [] k room rest e f = record { apart = refl; line = k; lines = e }
  else_clean zero (x ∷ xs) k room rest e f = absurd (cc)
  else_clean (suc line) xs k room rest e f =
      let inside : List NumberedLine = all_before (map statement_before (map bare xs)) rest in
      let lines = subst (λ b. are_lines k (if b then rest else on (suc line) l.Else ∷ inside) ≡ true) (eqb-suc-zero line) e in
      block_clean xs (suc line) room rest (behind k (on (suc line) l.Else) inside lines).1 f

  if_clean : (line : ℕ) (bs : List SuchBranch) (else_line : ℕ) (xs : List Such) (end_line k room : ℕ) (rest : List NumberedLine) →
      are_lines k (branches_before (map branch_before (map bare_branch bs)) (else_before else_line (map statement_before (map bare xs)) (on end_line l.End ∷ rest))) ≡ true →
      if_fits line (map branch_fits (map bare_branch bs)) else_line (map statement_fits (map bare xs)) room ≡ true →
      Clean (all_assigned (map assigned_in_branch (map bare_branch bs)) ++ all_assigned (map assigned_in (map bare xs))) rest
  if_clean line bs else_line xs end_line k zero rest e f = absurd (cc)
  if_clean line bs else_line xs end_line k (suc room) rest e f =
      let fits = right_true (starts_at line (map branch_fits (map bare_branch bs))) _ f in
      let first = branches_clean bs k room _ e (left_true (branches_fit (map branch_fits (map bare_branch bs)) room) _ fits) in
      let last = else_clean else_line xs first.line room (on end_line l.End ∷ rest) first.lines (right_true (branches_fit (map branch_fits (map bare_branch bs)) room) _ fits) in
      then_clean (all_assigned (map assigned_in_branch (map bare_branch bs))) _ rest first.apart
      (record { apart = last.apart; line = end_line; lines = (behind last.line (on end_line l.End) rest last.lines).1 })

  line_clean : (form : l.the_data) (names : Names) (line k : ℕ) (rest : List NumberedLine) → are_lines k (on line form ∷ rest) ≡ true → (is_form form ≡ true → is_in names n ≡ false) → Clean names rest
  line_clean form names line k rest e h = let here = behind k (on line form) rest e in record { apart = h here.0; line = line; lines = here.1 }

  one_name : (m : List ℕ) (b : Bool) → (is_name m && b) ≡ true → is_in (m ∷ []) n ≡ false
  one_name m b e = ap (λ z. z || false) (one_isnt m (left_true (is_name m) b e))

  abbrev BeforeOf : Statement-F Statement Branch → Before
  BeforeOf w = statement_layer (map-Statement Statement Branch Before (Bool → Before) statement_before branch_before w)

  abbrev FitsOf : Statement-F Statement Branch → Fits
  FitsOf w = fits_layer (map-Statement Statement Branch Fits BranchFits statement_fits branch_fits w)

  abbrev NamesOf : Statement-F Statement Branch → Names
  NamesOf w = assigned_step (map-Statement Statement Branch Names Names assigned_in assigned_in_branch w)

  abbrev BranchBeforeOf : Branch-F Statement Branch → Bool → Before
  BranchBeforeOf w = branch_layer (folds.map-Branch Statement Branch Before (Bool → Before) statement_before branch_before w)

  abbrev BranchFitsOf : Branch-F Statement Branch → BranchFits
  BranchFitsOf w = branch_fits_layer (folds.map-Branch Statement Branch Fits BranchFits statement_fits branch_fits w)

  abbrev BranchNamesOf : Branch-F Statement Branch → Names
  BranchNamesOf w = assigned_in_branch_step (folds.map-Branch Statement Branch Names Names assigned_in assigned_in_branch w)

  abbrev bared : Statement-F Such SuchBranch → Statement-F Statement Branch
  bared y = map-Statement Such SuchBranch Statement Branch bare bare_branch y

  abbrev bared_branch : Branch-F Such SuchBranch → Branch-F Statement Branch
  bared_branch y = folds.map-Branch Such SuchBranch Statement Branch bare bare_branch y

  layer_clean : (y : Statement-F Such SuchBranch) → IsClean (BeforeOf (bared y)) (FitsOf (bared y)) (NamesOf (bared y))
  layer_clean (s.Let line ns x) k room rest e f = line_clean (l.Let ns x) ns line k rest e (λ h. pattern_clean ns (left_true (is_pattern ns) (is_expr x) h))
  layer_clean (s.Set line m x) k room rest e f = line_clean (l.Set m x) (m ∷ []) line k rest e (one_name m (is_expr x))
  layer_clean (s.If line branches else_line other end_line) k room rest e f = if_clean line branches else_line other end_line k room rest e f
  layer_clean (s.Keep line m x) k room rest e f = line_clean (l.Keep m x) (m ∷ []) line k rest e (one_name m (is_expr x))
  layer_clean (s.Reduce line m tower start) k room rest e f = line_clean (l.Reduce m tower start) [] line k rest e (λ h. refl)
  layer_clean (s.Continue line) k room rest e f = line_clean l.Continue [] line k rest e (λ h. refl)
  layer_clean (s.Break line) k room rest e f = line_clean l.Break [] line k rest e (λ h. refl)

  branch_layer_clean : (y : Branch-F Such SuchBranch) → IsCleanBranch (BranchBeforeOf (bared_branch y)) (BranchFitsOf (bared_branch y)) (BranchNamesOf (bared_branch y))
  branch_layer_clean y first k room rest e f =
      block_clean y.block y.line room rest (behind k (on y.line (test_line first y.test)) (all_before (map statement_before (map bare y.block)) rest) e).1 f

  rolled : (x : Statement-F Statement Branch) → IsClean (BeforeOf x) (FitsOf x) (NamesOf x) → StatementClean (roll-Statement x)
  rolled x h =
      subst (λ z. IsClean z (statement_fits (roll-Statement x)) (assigned_in (roll-Statement x))) (sym (fold-roll-Statement Before (Bool → Before) statement_layer branch_layer x))
      (subst (λ z. IsClean (BeforeOf x) z (assigned_in (roll-Statement x))) (sym (fold-roll-Statement Fits BranchFits fits_layer branch_fits_layer x))
      (subst (IsClean (BeforeOf x) (FitsOf x)) (sym (fold-roll-Statement Names Names assigned_step assigned_in_branch_step x)) h))

  rolled_branch : (x : Branch-F Statement Branch) → IsCleanBranch (BranchBeforeOf x) (BranchFitsOf x) (BranchNamesOf x) → BranchClean (roll-Branch x)
  rolled_branch x h =
      subst (λ z. IsCleanBranch z (branch_fits (roll-Branch x)) (assigned_in_branch (roll-Branch x))) (sym (fold-roll-Branch Before (Bool → Before) statement_layer branch_layer x))
      (subst (λ z. IsCleanBranch (BranchBeforeOf x) z (assigned_in_branch (roll-Branch x))) (sym (fold-roll-Branch Fits BranchFits fits_layer branch_fits_layer x))
      (subst (IsCleanBranch (BranchBeforeOf x) (BranchFitsOf x)) (sym (fold-roll-Branch Names Names assigned_step assigned_in_branch_step x)) h))

  statement_clean : (x : Statement) → StatementClean x
  statement_clean = ind-Statement StatementClean BranchClean
      (λ x y is. rolled x (subst (λ w. IsClean (BeforeOf w) (FitsOf w) (NamesOf w)) is (layer_clean y)))
      (λ x y is. rolled_branch x (subst (λ w. IsCleanBranch (BranchBeforeOf w) (BranchFitsOf w) (BranchNamesOf w)) is (branch_layer_clean y)))

  body_clean : (xs : List Statement) → IsClean (all_before (map statement_before xs)) (all_fit (map statement_fits xs)) (all_assigned (map assigned_in xs))
  body_clean [] k room rest e f = record { apart = refl; line = k; lines = e }
  body_clean (x ∷ xs) k room rest e f =
      let here = statement_clean x k room (all_before (map statement_before xs) rest) e (left_true (statement_fits x room) _ f) in
      then_clean (assigned_in x) _ rest here.apart (body_clean xs here.line room rest here.lines (right_true (statement_fits x room) _ f))

  -- ---- the program

  record Apart (program : ProgramTree) : Type 0 where
    pub vars : is_variable program n ≡ false
    pub scratch : is_scratch program n ≡ false
    pub heads : is_in (program.head.names ++ map (λ (h : Inner). h.name) program.head.inner) n ≡ false
    pub body : is_in (all_assigned (map assigned_in program.body)) n ≡ false

  apart : (program : ProgramTree) → is_well_formed program ≡ true → Apart program
  apart program e =
      let lines = left_true (are_lines 0 (tree_lines program)) (all_fit (map statement_fits program.body) most_inside) e in
      let fits = right_true (are_lines 0 (tree_lines program)) (all_fit (map statement_fits program.body) most_inside) e in
      let first = skip_clean program.skip_line _ lines in
      let vars = vars_clean first.line program.vars _ first.lines in
      let head = behind vars.line (on program.head.line (l.For (heads_of program.head))) _ vars.lines in
      let inits = inits_clean program.head.line program.scratch _ head.1 in
      let body = body_clean program.body inits.line most_inside _ inits.lines fits in
      let pattern = left_true (is_pattern program.head.names) _ head.0 in
      let axes = right_true (is_pattern program.head.names) _ head.0 in
      let inner = right_true (nat_le (length program.head.inner) 3) (list_all is_inner program.head.inner) (right_true (is_head program.head.product program.head.axes) _ axes) in
      record {
        vars = vars.apart;
        scratch = inits.apart;
        heads = both_arent program.head.names (map (λ (h : Inner). h.name) program.head.inner) (pattern_clean program.head.names pattern) (inner_clean program.head.inner inner);
        body = body.apart;
      }

-- ---- the laws

and_true : (a : Bool) → (a && not false) ≡ a
and_true true = refl
and_true false = refl

-- `place` is no name of the store
pub place_not_stored : (program : ProgramTree) → is_well_formed program ≡ true → is_in (stored_names program) place_name ≡ false
place_not_stored program e =
    let names = apart place_name refl program e in
    list_any-append (bytes_eq place_name) (names_of program.vars) (names_of program.scratch) ∙ ap (λ b. b || is_in (names_of program.scratch) place_name) names.vars ∙ names.scratch

pub spelled_names_last : SpelledNamesLast
spelled_names_last program e n = at (bytes_eq n place_name) refl
  where
    at : (b : Bool) → bytes_eq n place_name ≡ b → is_lasting program n ≡ (is_variable program n || (is_scratch program n && not (is_assigned (outline_of program) n)))
    at false is =
        ap (λ b. (is_variable program n || (is_scratch program n && not (is_assigned (outline_of program) n))) && not b) is
        ∙ and_true (is_variable program n || (is_scratch program n && not (is_assigned (outline_of program) n)))
    at true is =
        let names = apart place_name refl program e in
        let variable : is_variable program n ≡ false = ap (is_variable program) (same_text n place_name is) ∙ names.vars in
        let scratch : is_scratch program n ≡ false = ap (is_scratch program) (same_text n place_name is) ∙ names.scratch in
        ap (λ b. (b || (is_scratch program n && not (is_assigned (outline_of program) n))) && not (bytes_eq n place_name)) variable
        ∙ ap (λ b. (b && not (is_assigned (outline_of program) n)) && not (bytes_eq n place_name)) scratch
        ∙ sym (ap (λ b. b || (is_scratch program n && not (is_assigned (outline_of program) n))) variable ∙ ap (λ b. b && not (is_assigned (outline_of program) n)) scratch)

pub others_are_unseen : OthersAreUnseen
others_are_unseen program e n other place =
    let names = apart n other program e in
    let body : List (List ℕ) = all_assigned (map assigned_in program.body) in
    let heads : List (List ℕ) = program.head.names ++ map (λ (h : Inner). h.name) program.head.inner in
    let by : is_in (assigned_by program) n ≡ false = ap (λ b. b || is_in (heads ++ body) n) place ∙ list_any-append (bytes_eq n) heads body ∙ ap (λ b. b || is_in body n) names.heads ∙ names.body in
    let stored : is_in (stored_names program) n ≡ false =
    list_any-append (bytes_eq n) (names_of program.vars) (names_of program.scratch) ∙ ap (λ b. b || is_in (names_of program.scratch) n) names.vars ∙ names.scratch in
    let named : is_named program n ≡ false = ap (λ b. b || is_in (stored_names program) n) by ∙ stored in
    ap (λ b. (not b || is_assigned_scratch program n) && not (bytes_eq n place_name)) named ∙ ap not place
