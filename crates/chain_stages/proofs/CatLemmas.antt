-- Chains whose `Cat`s come after the ranges of their names.
use Rattle.std.proofs.Common.{◌≡◌, ℕ, Bool, true, false, List, [], ◌∷◌, Option, Some, None, refl, ap, ◌∙◌}
use Rattle.std.specs.Prelude.{◌&&◌}
use Rattle.chain_stages.specs.declared.stages.Doing.{Doing}
use Rattle.chain_stages.specs.declared.stages.Doing.TheVariants.{Bind, Inner, Block, Rest}
use Rattle.chain_stages.specs.declared.stages.Stage.{Stage}
use Rattle.chain_stages.specs.declared.stages.Stage.TheVariants.{Map, MapSplat, Filter, KeepSomething, Cat, ReduceIf}
use Rattle.chain_stages.specs.Cats.{CatHasName, CatsFollowNames, cats_follow, inner_name, is_inner, may_follow, range_name, sets_range}
use Rattle.chain_stages.specs.Laws.{NamesFollow}

-- whether there is a name
abbrev is_some : Option (List ℕ) → Bool
is_some (Some name) = true
is_some None = false

some_sets : (action : Doing) → is_some (range_name action) ≡ sets_range action
some_sets (Bind name x) = refl
some_sets (Inner name range) = refl
some_sets (Block statement) = refl
some_sets (Rest statements) = refl

some_inner : (stage : Stage) → is_some (inner_name stage) ≡ is_inner stage
some_inner (Map line action) = some_sets action
some_inner (MapSplat line names source) = refl
some_inner (Filter line test) = refl
some_inner (KeepSomething line name x) = refl
some_inner (Cat line name) = refl
some_inner (ReduceIf line test) = refl

may : (before : Option (List ℕ)) (stage : Stage) → CatHasName before stage → may_follow (is_some before) stage ≡ true
may before (Cat line name) h = ap is_some h
may before (Map line action) h = refl
may before (MapSplat line names source) h = refl
may before (Filter line test) h = refl
may before (KeepSomething line name x) h = refl
may before (ReduceIf line test) h = refl

follow : (before : Option (List ℕ)) (stages : List Stage) → CatsFollowNames before stages → cats_follow (is_some before) stages ≡ true
follow before [] h = refl
follow before (stage ∷ stages) (here, rest) =
    ap (λ b. b && cats_follow (is_inner stage) stages) (may before stage here)
    ∙ ap (λ b. cats_follow b stages) (sym_of (some_inner stage)) ∙ follow (inner_name stage) stages rest
  where
    sym_of : {a b : Bool} → a ≡ b → b ≡ a
    sym_of e = cc

pub names_follow : NamesFollow
names_follow stages h = follow None stages h
