-- Up to which length each executor halves no part, and which reports of its folds are lawful.
-- Source: this project.
use Rattle.std.specs.Prelude.{ℕ, max, List}
use Rattle.program_words.specs.declared.executor.Executor.{Executor}
use Rattle.program_words.specs.declared.executor.Executor.TheVariants as executor
use Rattle.splittable.specs.Places.{item_count}
use Rattle.fold_seq.specs.declared.answers.Reduced.{Reduced}
use Rattle.fold_seq.specs.Answers.{stop_place_of}
use Rattle.piece_ledger.specs.declared.tallies.Tally.{Tally}
use Rattle.piece_ledger.specs.Folded.{IsReported, least_for}

-- Up to which length an executor halves no part of a shape, given the base. The whole is the one leaf of `seq`.
abbrev pub least_of : Executor → ℕ → List ℕ → ℕ
least_of executor.Seq base lens = max 1 (item_count lens)
least_of executor.Halves base lens = least_for base lens
least_of executor.Steal base lens = least_for base lens

-- the report of a fold by an executor with so many workers is lawful for its answer
abbrev pub IsReportedBy : {S : Type 0} → Executor → ℕ → List ℕ → ℕ → Reduced S × Tally → Type 0
IsReportedBy executor base lens workers r = IsReported lens (least_of executor base lens) workers (stop_place_of r.0) r.1
