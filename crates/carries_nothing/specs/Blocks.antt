-- What a block does from two body runs between which names may differ: the names that may still differ behind it are those that
-- aren't surely written. Source: this project.
use Rattle.std.specs.Prelude.{◌≡◌, ℕ, Bool, true, false, ◌&&◌, List, map}
use Rattle.std.specs.FinMap.{get}
use Rattle.loop_data.specs.declared.statement.Statement.{Statement}
use Rattle.loop_values.specs.Bindings.{Bindings, place_name}
use Rattle.legality_rules.specs.Paths.{Path, is_reached, misses, paths_in_turn, statement_paths}
use Rattle.loop_meaning.specs.declared.steps.BodyRun.{BodyRun}
use Rattle.loop_meaning.specs.declared.steps.Flow.TheVariants.{Going}
use Rattle.loop_meaning.specs.Statements.{block_run}

-- ---- names that may differ

-- which names may differ
abbrev pub Doubt : Type 0
Doubt = List ℕ → Bool

-- all names but those that may differ have the same values in both
abbrev pub Agree : Doubt → Bindings → Bindings → Type 0
Agree may names others = (n : List ℕ) → may n ≡ false → get names n ≡ get others n

-- these names, which are among those that may differ at all, and `place` isn't one of them
pub record IsDoubt (may now : Doubt) : Type 0 where
  pub less : (n : List ℕ) → may n ≡ false → now n ≡ false
  pub placed : now place_name ≡ false

-- Two body runs stand alike: they emitted the same, go on or ended in the same way, and their names agree but for those that may
-- differ at all, and where they go on, but for those that may differ now.
pub record StandAlike (may now : Doubt) (run other : BodyRun) : Type 0 where
  pub doubt : IsDoubt may now
  pub emitted : run.emitted ≡ other.emitted
  pub flow : run.flow ≡ other.flow
  pub names : Agree may run.names other.names
  pub surely : run.flow ≡ Going → Agree now run.names other.names

-- ---- paths

abbrev pub block_paths : List Statement → List Path
block_paths block = paths_in_turn (map statement_paths block)

-- no path reaches a read of a name that may differ
abbrev pub IsClear : Doubt → List Path → Type 0
IsClear now paths = (n : List ℕ) → now n ≡ true → (line : ℕ) → is_reached paths line n ≡ false

-- of the names that may differ those that may still do so where the paths go on: the others are surely written
abbrev pub left_in_doubt : Doubt → List Path → Doubt
left_in_doubt now paths n = now n && misses n paths

-- From body runs that stand alike a block none of whose paths reaches a read of a name that may differ does the same, and leaves
-- body runs that stand alike, where the names that are surely written agree.
abbrev pub BlocksKeepAlike : Type 0
BlocksKeepAlike = (block : List Statement) (may now : Doubt) (run other : BodyRun) →
    StandAlike may now run other → IsClear now (block_paths block) →
    let later = left_in_doubt now (block_paths block) in
    StandAlike may later (block_run block run) (block_run block other)
