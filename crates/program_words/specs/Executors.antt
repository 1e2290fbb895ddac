-- The executors, which are the ways in which `run` folds a loop: one row for an executor.
-- Source: this project, after FoldsThreads.jl, where the way in which a fold is run is chosen apart from the loop.
use Rattle.std.specs.Prelude.{ℕ, List, [], ◌∷◌, codes, bytes_eq, find, Option}
use Rattle.program_words.specs.declared.executor.Executor.{Executor}
use Rattle.program_words.specs.declared.executor.Executor.TheVariants as executor

abbrev pub executors : List Executor
executors = executor.Seq ∷ executor.Halves ∷ executor.Steal ∷ []

-- the word by which an executor is given
abbrev pub executor_word : Executor → List ℕ
executor_word executor.Seq = codes "seq"
executor_word executor.Halves = codes "halves"
executor_word executor.Steal = codes "steal"

-- the executor that a word is, if it is one
abbrev pub executor_named : List ℕ → Option Executor
executor_named word = find (λ e. bytes_eq (executor_word e) word) executors
