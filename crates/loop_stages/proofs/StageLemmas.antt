-- A `break` has its stage: a `ReduceIf` on the line that `stage_line` says.
use Rattle.std.proofs.Common.{◌≡◌, ℕ, zero, suc, Bool, true, false, List, [], ◌∷◌, ◌++◌, map, refl, sym, ap, ◌∙◌, subst, rules}
use Rattle.std.specs.Prelude.{if◌then◌else◌, ◌||◌}
use Rattle.std.specs.List.{list_any}
use Rattle.std.proofs.lemmas.List.Folds.{list_any-append}
use Rattle.loop_data.specs.declared.expr.Expr.{Expr}
use Rattle.loop_data.specs.declared.statement.Statement.{Statement, ind-Statement, fold-roll-Statement, map-Statement, roll-Statement, out-Statement, out-roll-Statement, the_lemmas as statement_lemmas}
use Rattle.loop_data.specs.declared.statement.Branch.{Branch, fold-roll-Branch, roll-Branch}
use Rattle.loop_data.specs.declared.statement.Statement.TheOpen.{Statement-F, Statement-F as s, Branch-F}
use Rattle.loop_data.specs.declared.statement.Statement.TheFolds as folds
use Rattle.chain_stages.specs.declared.stages.Stage.{Stage}
use Rattle.chain_stages.specs.declared.stages.Stage.TheVariants.{Filter, ReduceIf}
use Rattle.chain_stages.specs.declared.stages.Test.TheVariants as test
use Rattle.loop_stages.specs.Breaks.{ends_on, stage_line_in}
use Rattle.loop_stages.specs.Holding.{any_of, hold_break, holds, holds_in_branch, in_branch, in_parts, is_break, is_break_on, is_exit, is_reduce}
use Rattle.loop_stages.specs.Laws.{BreaksHaveStages}
use Rattle.loop_stages.specs.Lowering.{IfForm, any_other, block_form, body_stages, breaks, continues, if_form, if_line, if_stages, inner_stages, is_continue, is_one_break, layer_stages, line_at, line_of, most_before_split, pattern_stages, rest_stages, statement_stages, where_holds}
use Rattle.loop_stages.proofs.BreakLemmas.{or_true, same_number}
use Rattle.loop_stages.proofs.HoldLemmas.{or_false}
use Rattle.loop_stages.proofs.StatementLemmas.{by_layer}

-- ---- lists of stages

abbrev Ends : ℕ → List Stage → Type 0
Ends line stages = list_any (ends_on line) stages ≡ true

or_right : (a b : Bool) → b ≡ true → (a || b) ≡ true
or_right true b h = refl
or_right false b h = h

or_left : (a b : Bool) → a ≡ true → (a || b) ≡ true
or_left true b h = refl
or_left false b h = absurd (cc (h))

behind : (line : ℕ) (xs ys : List Stage) → Ends line ys → Ends line (xs ++ ys)
behind line xs ys h = list_any-append (ends_on line) xs ys ∙ or_right (list_any (ends_on line) xs) (list_any (ends_on line) ys) h

before : (line : ℕ) (xs ys : List Stage) → Ends line xs → Ends line (xs ++ ys)
before line xs ys h = list_any-append (ends_on line) xs ys ∙ or_left (list_any (ends_on line) xs) (list_any (ends_on line) ys) h

-- a list that begins with the stage
begins : (line : ℕ) (t : _) (stages : List Stage) → Ends line (ReduceIf line t ∷ stages)
begins line t stages = or_left (ends_on line (ReduceIf line t)) (list_any (ends_on line) stages) (same_number line)

rest_ends : (line : ℕ) (statements : List Statement) → Ends line (rest_stages line statements)
rest_ends line statements = begins line test.Broke []

-- ---- a statement that holds no `break` holds none on a line

abbrev holding : (Statement-F Bool Bool → Bool) → Statement-F Bool Bool → Bool
holding is layer = is layer || in_parts layer

holds_rolled : (is : Statement-F Bool Bool → Bool) (w : Statement-F Statement Branch) →
    holds is (roll-Statement w) ≡ holding is (map-Statement Statement Branch Bool Bool (holds is) (holds_in_branch is) w)
holds_rolled is w = fold-roll-Statement Bool Bool (holding is) in_branch w

holds_rolled_branch : (is : Statement-F Bool Bool → Bool) (w : Branch-F Statement Branch) →
    holds_in_branch is (roll-Branch w) ≡ in_branch (folds.map-Branch Statement Branch Bool Bool (holds is) (holds_in_branch is) w)
holds_rolled_branch is w = fold-roll-Branch Bool Bool (holding is) in_branch w

module _ (line : ℕ) where
  abbrev NoneOn : Statement → Type 0
  NoneOn x = holds is_break x ≡ false → holds (is_break_on line) x ≡ false

  abbrev NoneInBranch : Branch → Type 0
  NoneInBranch b = holds_in_branch is_break b ≡ false → holds_in_branch (is_break_on line) b ≡ false

  abbrev Such : Type 0
  Such = (x : Statement) × NoneOn x

  abbrev SuchBranch : Type 0
  SuchBranch = (b : Branch) × NoneInBranch b

  abbrev bare : Such → Statement
  bare e = e.0

  abbrev bare_branch : SuchBranch → Branch
  bare_branch e = e.0

  neither : (a b : Bool) → a ≡ false → b ≡ false → (a || b) ≡ false
  neither true b h k = absurd (cc (h))
  neither false b h k = k

  block_none : (block : List Such) → any_of (map (holds is_break) (map bare block)) ≡ false →
      any_of (map (holds (is_break_on line)) (map bare block)) ≡ false
  block_none [] h = refl
  block_none (x ∷ xs) h =
      let parts = or_false (holds is_break x.0) (any_of (map (holds is_break) (map bare xs))) h in
      neither _ _ (x.1 parts.0) (block_none xs parts.1)

  branches_none : (branches : List SuchBranch) → any_of (map (holds_in_branch is_break) (map bare_branch branches)) ≡ false →
      any_of (map (holds_in_branch (is_break_on line)) (map bare_branch branches)) ≡ false
  branches_none [] h = refl
  branches_none (b ∷ bs) h =
      let parts = or_false (holds_in_branch is_break b.0) (any_of (map (holds_in_branch is_break) (map bare_branch bs))) h in
      neither _ _ (b.1 parts.0) (branches_none bs parts.1)

  abbrev bared : Statement-F Such SuchBranch → Statement-F Statement Branch
  bared y = map-Statement Such SuchBranch Statement Branch bare bare_branch y

  abbrev bared_branch : Branch-F Such SuchBranch → Branch-F Statement Branch
  bared_branch y = folds.map-Branch Such SuchBranch Statement Branch bare bare_branch y

  abbrev LayerNone : Statement-F Statement Branch → Type 0
  LayerNone w = holding is_break (map-Statement Statement Branch Bool Bool (holds is_break) (holds_in_branch is_break) w)
      ≡ false →
      holding (is_break_on line) (map-Statement Statement Branch Bool Bool (holds (is_break_on line))
      (holds_in_branch (is_break_on line)) w) ≡ false

  abbrev BranchLayerNone : Branch-F Statement Branch → Type 0
  BranchLayerNone w = in_branch (folds.map-Branch Statement Branch Bool Bool (holds is_break) (holds_in_branch is_break) w)
      ≡ false →
      in_branch (folds.map-Branch Statement Branch Bool Bool (holds (is_break_on line)) (holds_in_branch (is_break_on line)) w)
      ≡ false

  layer_none : (y : Statement-F Such SuchBranch) → LayerNone (bared y)
  layer_none (s.Let l pattern x) h = refl
  layer_none (s.Set l name x) h = refl
  layer_none (s.If l branches else_line other end_line) h =
      let parts = or_false (any_of (map (holds_in_branch is_break) (map bare_branch branches)))
      (any_of (map (holds is_break) (map bare other))) h in
      neither _ _ (branches_none branches parts.0) (block_none other parts.1)
  layer_none (s.Keep l name x) h = refl
  layer_none (s.Reduce l name tower start) h = refl
  layer_none (s.Continue l) h = refl
  layer_none (s.Break l) h = absurd (cc (h))

  rolled : (w : Statement-F Statement Branch) → LayerNone w → NoneOn (roll-Statement w)
  rolled w e h = holds_rolled (is_break_on line) w ∙ e (sym (holds_rolled is_break w) ∙ h)

  rolled_branch : (w : Branch-F Statement Branch) → BranchLayerNone w → NoneInBranch (roll-Branch w)
  rolled_branch w e h = holds_rolled_branch (is_break_on line) w ∙ e (sym (holds_rolled_branch is_break w) ∙ h)

  none_on : (x : Statement) → NoneOn x
  none_on = ind-Statement NoneOn NoneInBranch
      (λ x y is. rolled x (subst LayerNone is (layer_none y)))
      (λ x y is. rolled_branch x (subst BranchLayerNone is (λ h. block_none y.block h)))

  some_break : (x : Statement) → holds (is_break_on line) x ≡ true → holds is_break x ≡ true
  some_break x h = or_true (holds is_break x) (λ none. absurd (cc (none_on x none, h)))

  -- ---- an `if`

  -- an `if` over one `continue` holds no `break`
  abbrev Told : IfForm → Statement → Type 0
  Told (continues c) x = holds (is_break_on line) x ≡ false
  Told _ x = Unit {0}

  no_break : (y : Statement) → is_continue (out-Statement y) ≡ true → holds (is_break_on line) y ≡ false
  no_break = by_layer (λ y. is_continue (out-Statement y) ≡ true → holds (is_break_on line) y ≡ false)
      (λ w h. holds_rolled (is_break_on line) w ∙ at_layer w (subst (λ w. is_continue w ≡ true) (out-roll-Statement w) h))
    where
      at_layer : (w : Statement-F Statement Branch) → is_continue w ≡ true →
          holding (is_break_on line) (map-Statement Statement Branch Bool Bool (holds (is_break_on line))
          (holds_in_branch (is_break_on line)) w) ≡ false
      at_layer (s.Continue l) h = refl
      at_layer (s.Let l ns x) h = absurd (cc (h))
      at_layer (s.Set l n x) h = absurd (cc (h))
      at_layer (s.If l bs el other end_line) h = absurd (cc (h))
      at_layer (s.Keep l n x) h = absurd (cc (h))
      at_layer (s.Reduce l n t st) h = absurd (cc (h))
      at_layer (s.Break l) h = absurd (cc (h))

  in_block : (b : Branch) → holds_in_branch (is_break_on line) b ≡ any_of (map (holds (is_break_on line)) b.block)
  in_block b = search (rules, statement_lemmas)

  one_told : (x : Statement) (c : Expr) (y : Statement) (p q : Bool) → is_continue (out-Statement y) ≡ p →
      (holds (is_break_on line) y ≡ false → holds (is_break_on line) x ≡ false) →
      Told (if p then continues c else (if q then breaks c else any_other)) x
  one_told x c y true q is less = less (no_break y is)
  one_told x c y false true is less = tt
  one_told x c y false false is less = tt

  block_told : (x : Statement) (c : Expr) (block : List Statement) →
      (any_of (map (holds (is_break_on line)) block) ≡ false → holds (is_break_on line) x ≡ false) → Told (block_form c block) x
  block_told x c [] less = tt
  block_told x c (y ∷ []) less =
      one_told x c y (is_continue (out-Statement y)) (is_one_break (out-Statement y)) refl (λ h. less (neither _ _ h refl))
  block_told x c (y ∷ z ∷ zs) less = tt

  if_told : (l : ℕ) (branches : List Branch) (else_line : ℕ) (other : List Statement) (end_line : ℕ) →
      Told (if_form branches else_line other) (roll-Statement (s.If l branches else_line other end_line))
  if_told l [] else_line other end_line = tt
  if_told l (b ∷ c ∷ bs) else_line other end_line = tt
  if_told l (b ∷ []) (suc n) other end_line = tt
  if_told l (b ∷ []) zero (y ∷ ys) end_line = tt
  if_told l (b ∷ []) zero [] end_line =
      block_told (roll-Statement (s.If l (b ∷ []) zero [] end_line)) b.test b.block
      (λ h. holds_rolled (is_break_on line) (s.If l (b ∷ []) zero [] end_line)
      ∙ neither _ _ (neither _ _ (in_block b ∙ h) refl) refl)

  form_ends : (l : ℕ) (form : IfForm) (x : Statement) → Told form x → holds (is_break_on line) x ≡ true →
      Ends l (if_stages l form x)
  form_ends l (continues c) x told h = absurd (cc (told, h))
  form_ends l (breaks c) x told h = begins l (test.If c) (Filter l (test.IfNot c) ∷ [])
  form_ends l any_other x told h =
      let tail = where_holds (holds is_exit x) (Filter l test.Going) in
      subst (λ b. Ends l (where_holds b (ReduceIf l test.Broke) ++ tail)) (sym (some_break x h)) (begins l test.Broke tail)

  -- ---- any statement

  layer_ends : (w : Statement-F Statement Branch) → holds (is_break_on line) (roll-Statement w) ≡ true →
      Ends (line_at w) (layer_stages w (roll-Statement w))
  layer_ends (s.Let l ns x) h = absurd (cc (h, holds_rolled (is_break_on line) (s.Let l ns x)))
  layer_ends (s.Set l n x) h = absurd (cc (h, holds_rolled (is_break_on line) (s.Set l n x)))
  layer_ends (s.Keep l n x) h = absurd (cc (h, holds_rolled (is_break_on line) (s.Keep l n x)))
  layer_ends (s.Reduce l n t st) h = absurd (cc (h, holds_rolled (is_break_on line) (s.Reduce l n t st)))
  layer_ends (s.Continue l) h = absurd (cc (h, holds_rolled (is_break_on line) (s.Continue l)))
  layer_ends (s.Break l) h = begins l test.Always (Filter l test.Never ∷ [])
  layer_ends (s.If l bs el other end_line) h =
      form_ends (if_line l bs) (if_form bs el other) (roll-Statement (s.If l bs el other end_line))
      (if_told l bs el other end_line) h

  statement_ends : (x : Statement) → holds (is_break_on line) x ≡ true → Ends (line_of x) (statement_stages x)
  statement_ends = by_layer (λ x. holds (is_break_on line) x ≡ true → Ends (line_of x) (statement_stages x))
      (λ w h. subst (λ layer. Ends (line_at layer) (layer_stages layer (roll-Statement w))) (sym (out-roll-Statement w))
      (layer_ends w h))

  -- ---- a body

  -- told whether the first statement is the split statement, and whether it holds the `break`
  first_ends : (room : ℕ) (x : Statement) (xs : List Statement) (b c : Bool) → holds (is_break_on line) x ≡ c →
      hold_break line (x ∷ xs) ≡ true →
      (hold_break line xs ≡ true → Ends (stage_line_in room xs line) (body_stages room xs)) →
      Ends (if b then line_of x else (if c then line_of x else stage_line_in room xs line))
      (if b then rest_stages (line_of x) (x ∷ xs) else statement_stages x ++ body_stages room xs)
  first_ends room x xs true c is h later = rest_ends (line_of x) (x ∷ xs)
  first_ends room x xs false true is h later = before (line_of x) (statement_stages x) (body_stages room xs) (statement_ends x is)
  first_ends room x xs false false is h later =
      let there : hold_break line xs ≡ true = sym (ap (λ c. c || hold_break line xs) is) ∙ h in
      behind (stage_line_in room xs line) (statement_stages x) (body_stages room xs) (later there)

  body_ends : (room : ℕ) (body : List Statement) → hold_break line body ≡ true →
      Ends (stage_line_in room body line) (body_stages room body)
  body_ends room [] h = absurd (cc (h))
  body_ends zero (x ∷ xs) h = rest_ends (line_of x) (x ∷ xs)
  body_ends (suc room) (x ∷ xs) h =
      first_ends room x xs (holds is_reduce x) (holds (is_break_on line) x) refl h (body_ends room xs)

pub breaks_have_stages : BreaksHaveStages
breaks_have_stages program line h =
    let own = stage_line_in most_before_split program.body line in
    behind own (pattern_stages program.head.line program.head.names) _
    (behind own (inner_stages program.head.line program.head.inner) (body_stages most_before_split program.body)
    (body_ends line most_before_split program.body h))
