-- The names that the lines of a body reduce into, and those that they assign. Internal.
-- Source: this project's language.
use Rattle.std.specs.Prelude.{ℕ, Bool, true, false, not, if◌then◌else◌, List, [], ◌∷◌, ◌++◌, map}
use Rattle.loop_data.specs.declared.statement.Statement.{Statement}
use Rattle.loop_data.specs.declared.statement.Branch.{Branch}
use Rattle.loop_data.specs.declared.statement.Statement.TheOpen.{Statement-F, Statement-F as s, Branch-F}
use Rattle.loop_data.specs.declared.statement.Statement.TheFolds.{fold-Statement, fold-Branch}
use Rattle.loop_values.specs.NamesIn.{all_names}
use Rattle.legality_names.specs.declared.deeds.Deed.{Deed}
use Rattle.legality_names.specs.declared.deeds.Deed.TheVariants.{Assigns, Reduces}

abbrev pub is_assigning : Deed → Bool
is_assigning Assigns = true
is_assigning Reduces = false

abbrev pub name_if : Bool → List ℕ → List (List ℕ)
name_if holds n = if holds then n ∷ [] else []

abbrev pub branch_step : Branch-F (List (List ℕ)) (List (List ℕ)) → List (List ℕ)
branch_step b = all_names b.block

abbrev pub statement_step : Deed → Statement-F (List (List ℕ)) (List (List ℕ)) → List (List ℕ)
statement_step deed (s.Set line n x) = name_if (is_assigning deed) n
statement_step deed (s.If line branches else_line other end_line) = all_names branches ++ all_names other
statement_step deed (s.Reduce line n tower start) = name_if (not (is_assigning deed)) n
statement_step deed _ = []

-- the names to which a statement does this, from top to bottom
abbrev pub done_by : Deed → Statement → List (List ℕ)
done_by deed = fold-Statement (List (List ℕ)) (List (List ℕ)) (statement_step deed) branch_step

abbrev pub done_in_branch : Deed → Branch → List (List ℕ)
done_in_branch deed = fold-Branch (List (List ℕ)) (List (List ℕ)) (statement_step deed) branch_step

abbrev pub done_in : Deed → List Statement → List (List ℕ)
done_in deed body = all_names (map (done_by deed) body)
