-- Chains in which each `Cat` comes right after the stage that sets its inner range.
-- Source: this project.
use Rattle.std.specs.Prelude.{◌≡◌, ℕ, Bool, true, false, ◌&&◌, List, [], ◌∷◌, Option, Some, None}
use Rattle.chain_stages.specs.declared.stages.Doing.{Doing}
use Rattle.chain_stages.specs.declared.stages.Doing.TheVariants.{Inner}
use Rattle.chain_stages.specs.declared.stages.Stage.{Stage}
use Rattle.chain_stages.specs.declared.stages.Stage.TheVariants.{Cat, Map}

abbrev pub sets_range : Doing → Bool
sets_range (Inner name range) = true
sets_range _ = false

-- whether the stage sets the inner range
abbrev pub is_inner : Stage → Bool
is_inner (Map line action) = sets_range action
is_inner _ = false

-- the name of a `Cat`
abbrev pub cat_name : Stage → Option (List ℕ)
cat_name (Cat line name) = Some name
cat_name _ = None

-- whether the stage may come after one that sets the inner range, or after another
abbrev pub may_follow : Bool → Stage → Bool
may_follow after_inner (Cat line name) = after_inner
may_follow after_inner _ = true

-- whether each `Cat` comes right after a stage that sets the inner range; told whether the first stage comes after such a one
abbrev pub cats_follow : Bool → List Stage → Bool
cats_follow after_inner [] = true
cats_follow after_inner (stage ∷ stages) = may_follow after_inner stage && cats_follow (is_inner stage) stages

-- ---- by their names

-- the name of the inner range that a stage sets
abbrev pub range_name : Doing → Option (List ℕ)
range_name (Inner name range) = Some name
range_name _ = None

abbrev pub inner_name : Stage → Option (List ℕ)
inner_name (Map line action) = range_name action
inner_name _ = None

-- a `Cat` has the name of the inner range that the stage before it sets
abbrev pub CatHasName : Option (List ℕ) → Stage → Type 0
CatHasName before (Cat line name) = before ≡ Some name
CatHasName before _ = Unit {0}

-- each `Cat` comes right after the stage that sets the inner range of its name; told the name that the stage before these sets
abbrev pub CatsFollowNames : Option (List ℕ) → List Stage → Type 0
CatsFollowNames before [] = Unit {0}
CatsFollowNames before (stage ∷ stages) = CatHasName before stage × CatsFollowNames (inner_name stage) stages
