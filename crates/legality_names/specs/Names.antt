-- What a `for` line binds, and what the rules ask of the names of a line, told what stands before it. Internal: the rules are
-- defined in the crate legality_rules.
-- Source: this project's language.
use Rattle.std.specs.Prelude.{ℕ, Bool, not, ◌&&◌, List, ◌++◌, map, filter, Option}
use Rattle.loop_data.specs.declared.head.HeadLine.{HeadLine}
use Rattle.loop_data.specs.declared.head.Inner.{Inner}
use Rattle.legality_rules.specs.declared.refusal.Offence.{Offence}
use Rattle.legality_rules.specs.declared.scope.Sort.{Sort}
use Rattle.legality_rules.specs.Scopes.{Scope, is_in, is_known, sort_in}
use Rattle.legality_rules.specs.Cuts.{or_else}
use Rattle.legality_rules.specs.declared.scope.Site.{Site}
use Rattle.legality_names.specs.Answers.{leftmost, named}

-- the names that the `for` line binds, from left to right
abbrev pub head_names : HeadLine → List (List ℕ)
head_names h = h.names ++ map (λ (i : Inner). i.name) h.inner

-- the names that are no reducers and aren't in scope
abbrev pub unknown : List (List ℕ) → Scope → List (List ℕ) → List (List ℕ)
unknown reducers scope names = filter (λ n. not (is_in reducers n) && not (is_known scope n)) names

-- those of the names that are in scope as such
abbrev pub of_sort : (Option Sort → Bool) → Scope → List (List ℕ) → List (List ℕ)
of_sort test scope names = filter (λ n. test (sort_in scope n)) names

abbrev pub site_names : List Site → List (List ℕ)
site_names sites = map (λ (site : Site). site.name) sites

-- the names that the lines before bind or reduce into
abbrev pub taken : List (List ℕ) → List Site → List (List ℕ)
taken bound sites = bound ++ site_names sites

-- the first offence against the rules 1, 2, 3 and 5, told the leftmost name that is bound twice and the outer variable that is
-- assigned
abbrev pub names_offence : List (List ℕ) → Scope → ℕ → List (List ℕ) → Option (List ℕ) → Option (List ℕ) → Option Offence
names_offence reducers scope line used twice variable =
    or_else (named 1 line (leftmost (unknown reducers scope used)))
    (or_else (named 2 line twice)
    (or_else (named 3 line variable) (named 5 line (leftmost (filter (is_in reducers) used)))))
