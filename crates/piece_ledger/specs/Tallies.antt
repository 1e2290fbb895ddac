-- The tally of outcomes: how many parts were run, and how many items were skipped.
-- Source: this project.
use Rattle.std.specs.Prelude.{ℕ, if◌then◌else◌, List}
use Rattle.std.specs.List.{count_by, sum_by}
use Rattle.piece_ledger.specs.declared.outcomes.Outcome.{Outcome}
use Rattle.piece_ledger.specs.declared.tallies.Tally.{Tally}
use Rattle.piece_ledger.specs.Outcomes.{has_run}

module _ {S : Type 0} where
  -- how many items of the outcome were skipped: all of its part's, or none
  abbrev pub skipped_items : Outcome S → ℕ
  skipped_items o = if has_run o.kind then 0 else o.part.len

  -- how many parts were run, and how many items were skipped
  abbrev pub tally_of : List (Outcome S) → Tally
  tally_of outcomes = record { ran = count_by (λ o. has_run o.kind) outcomes; items_skipped = sum_by skipped_items outcomes }
