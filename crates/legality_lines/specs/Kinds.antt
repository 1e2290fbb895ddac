-- What the check asks of kinds, told those of the names in scope. Internal.
-- Source: this project's language.
use Rattle.std.specs.Prelude.{ℕ, Bool, true, false, if◌then◌else◌, List, Option, Some, None, Result, Ok, Err}
use Rattle.loop_data.specs.declared.value.ValueKind.{ValueKind}
use Rattle.loop_data.specs.declared.expr.Expr.{Expr, out-Expr}
use Rattle.loop_data.specs.declared.expr.Expr.TheOpen.{Expr-F, Expr-F as e}
use Rattle.legality_rules.specs.declared.refusal.LegalRefusal.{LegalRefusal}
use Rattle.legality_rules.specs.Scopes.{Scope, fits_pattern, is_variable, pattern_parts, sort_in, unwrapped}
use Rattle.legality_rules.specs.Lines.{first_name}
use Rattle.legality_names.specs.Answers.{illegal}

-- the kinds of the names that a `let` line binds, told the kind of the expression
abbrev pub typed_pattern : ℕ → List (List ℕ) → Option ValueKind → Result (List ValueKind) LegalRefusal
typed_pattern line names (Some x) =
    if fits_pattern names x then Ok (pattern_parts names x) else Err (illegal 7 line (first_name names))
typed_pattern line names None = Err (illegal 7 line (first_name names))

abbrev pub kept_or : ℕ → List ℕ → Option ValueKind → Result ValueKind LegalRefusal
kept_or line n (Some x) = Ok x
kept_or line n None = Err (illegal 7 line n)

abbrev pub unwrapped_or_none : Option ValueKind → Option ValueKind
unwrapped_or_none (Some x) = unwrapped x
unwrapped_or_none None = None

-- the kind that an `@keep` line gives its name, told the kind of the expression
abbrev pub kept_kind : ℕ → List ℕ → Option ValueKind → Result ValueKind LegalRefusal
kept_kind line n x = kept_or line n (unwrapped_or_none x)

abbrev pub is_splittable_at : Scope → Expr-F Expr → Bool
is_splittable_at scope (e.Lit v) = true
is_splittable_at scope (e.Name n) = is_variable (sort_in scope n)
is_splittable_at scope _ = false

-- whether a bound is a literal or an outer variable
abbrev pub is_splittable_in : Scope → Expr → Bool
is_splittable_in scope x = is_splittable_at scope (out-Expr x)
