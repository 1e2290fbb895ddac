-- What is told of `@reduce` lines may be told further: a function of all that was told is told at once.
use Rattle.std.proofs.Common.{◌≡◌, List, [], ◌∷◌, ◌++◌, map, refl, ap, ap₂, sym, subst, ◌∙◌}
use Rattle.std.proofs.lemmas.List.{map-append}
use Rattle.loop_data.specs.declared.statement.Statement.{Statement, fold-roll-Statement, ind-Statement, map-Statement, roll-Statement}
use Rattle.loop_data.specs.declared.statement.Branch.{Branch, fold-roll-Branch, roll-Branch}
use Rattle.loop_data.specs.declared.statement.Statement.TheOpen.{Statement-F, Statement-F as s, Branch-F}
use Rattle.loop_data.specs.declared.statement.Statement.TheFolds as folds
use Rattle.loop_grammar.specs.declared.tree.ProgramTree.{ProgramTree}
use Rattle.loop_meaning.specs.Reducers.{Telling, all_told, branch_told, told_in, told_in_branch, told_of, told_step}

module _ (A B : Type 0) (f : A → B) (tell : Telling A) where
  abbrev further : Telling B
  further name tower start = f (tell name tower start)

  abbrev IsFurther : Statement → Type 0
  IsFurther x = told_in further x ≡ map f (told_in tell x)

  abbrev IsFurtherBranch : Branch → Type 0
  IsFurtherBranch b = told_in_branch further b ≡ map f (told_in_branch tell b)

  abbrev Such : Type 0
  Such = (x : Statement) × IsFurther x

  abbrev SuchBranch : Type 0
  SuchBranch = (b : Branch) × IsFurtherBranch b

  abbrev bare : Such → Statement
  bare e = e.0

  abbrev bare_branch : SuchBranch → Branch
  bare_branch e = e.0

  together : (first more : List B) (told others : List A) → first ≡ map f told → more ≡ map f others → first ++ more ≡ map f (told ++ others)
  together first more told others e h = ap₂ (λ xs ys. xs ++ ys) e h ∙ sym (map-append f told others)

  block_further : (xs : List Such) → all_told (map (told_in further) (map bare xs)) ≡ map f (all_told (map (told_in tell) (map bare xs)))
  block_further [] = refl
  block_further (x ∷ xs) =
      together (told_in further x.0) (all_told (map (told_in further) (map bare xs))) (told_in tell x.0) (all_told (map (told_in tell) (map bare xs))) x.1 (block_further xs)

  branches_further : (bs : List SuchBranch) → all_told (map (told_in_branch further) (map bare_branch bs)) ≡ map f (all_told (map (told_in_branch tell) (map bare_branch bs)))
  branches_further [] = refl
  branches_further (b ∷ bs) =
      together (told_in_branch further b.0) (all_told (map (told_in_branch further) (map bare_branch bs)))
      (told_in_branch tell b.0) (all_told (map (told_in_branch tell) (map bare_branch bs))) b.1 (branches_further bs)

  abbrev FurtherOf : Statement-F Statement Branch → List B
  FurtherOf w = told_step further (map-Statement Statement Branch (List B) (List B) (told_in further) (told_in_branch further) w)

  abbrev ToldOf : Statement-F Statement Branch → List A
  ToldOf w = told_step tell (map-Statement Statement Branch (List A) (List A) (told_in tell) (told_in_branch tell) w)

  abbrev BranchFurtherOf : Branch-F Statement Branch → List B
  BranchFurtherOf w = branch_told (folds.map-Branch Statement Branch (List B) (List B) (told_in further) (told_in_branch further) w)

  abbrev BranchToldOf : Branch-F Statement Branch → List A
  BranchToldOf w = branch_told (folds.map-Branch Statement Branch (List A) (List A) (told_in tell) (told_in_branch tell) w)

  layer_further : (y : Statement-F Such SuchBranch) →
      FurtherOf (map-Statement Such SuchBranch Statement Branch bare bare_branch y) ≡ map f (ToldOf (map-Statement Such SuchBranch Statement Branch bare bare_branch y))
  layer_further (s.Let line pattern x) = refl
  layer_further (s.Set line name x) = refl
  layer_further (s.If line branches else_line other end_line) =
      together (all_told (map (told_in_branch further) (map bare_branch branches))) (all_told (map (told_in further) (map bare other)))
      (all_told (map (told_in_branch tell) (map bare_branch branches))) (all_told (map (told_in tell) (map bare other))) (branches_further branches) (block_further other)
  layer_further (s.Keep line name x) = refl
  layer_further (s.Reduce line name tower start) = refl
  layer_further (s.Continue line) = refl
  layer_further (s.Break line) = refl

  branch_layer_further : (y : Branch-F Such SuchBranch) →
      BranchFurtherOf (folds.map-Branch Such SuchBranch Statement Branch bare bare_branch y) ≡ map f (BranchToldOf (folds.map-Branch Such SuchBranch Statement Branch bare bare_branch y))
  branch_layer_further y = block_further y.block

  rolled : (x : Statement-F Statement Branch) → FurtherOf x ≡ map f (ToldOf x) → IsFurther (roll-Statement x)
  rolled x e =
      fold-roll-Statement (List B) (List B) (told_step further) branch_told x ∙ e
      ∙ sym (ap (map f) (fold-roll-Statement (List A) (List A) (told_step tell) branch_told x))

  rolled_branch : (x : Branch-F Statement Branch) → BranchFurtherOf x ≡ map f (BranchToldOf x) → IsFurtherBranch (roll-Branch x)
  rolled_branch x e =
      fold-roll-Branch (List B) (List B) (told_step further) branch_told x ∙ e
      ∙ sym (ap (map f) (fold-roll-Branch (List A) (List A) (told_step tell) branch_told x))

  statement_further : (x : Statement) → IsFurther x
  statement_further = ind-Statement IsFurther IsFurtherBranch
      (λ x y is. rolled x (subst (λ w. FurtherOf w ≡ map f (ToldOf w)) is (layer_further y)))
      (λ x y is. rolled_branch x (subst (λ w. BranchFurtherOf w ≡ map f (BranchToldOf w)) is (branch_layer_further y)))

  body_further : (body : List Statement) → all_told (map (told_in further) body) ≡ map f (all_told (map (told_in tell) body))
  body_further [] = refl
  body_further (x ∷ xs) =
      together (told_in further x) (all_told (map (told_in further) xs)) (told_in tell x) (all_told (map (told_in tell) xs)) (statement_further x) (body_further xs)

pub told_further : {A B : Type 0} (f : A → B) (tell : Telling A) (program : ProgramTree) →
    told_of (λ name tower start. f (tell name tower start)) program ≡ map f (told_of tell program)
told_further {A} {B} f tell program = body_further A B f tell program.body
