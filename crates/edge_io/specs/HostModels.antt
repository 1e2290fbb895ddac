-- What contracts see of the system's files and of its standard output.
-- Source: this project.
use Rattle.std.specs.Prelude.{◌≡◌, ℕ, refl}
use Rattle.std.specs.Coded.{Coded, code_by, coded×, coded_ℕ}

-- how many calls were made and how many of them failed; both counts stand still at the last value of a counter
pub record CallCounts : Type 0 where
  pub calls : ℕ
  pub faults : ℕ

abbrev pub counts_code : Coded CallCounts
counts_code =
    code_by (ℕ × ℕ) (coded× coded_ℕ coded_ℕ) (λ m. (m.calls, m.faults)) (λ p. record { calls = p.0; faults = p.1 }) (λ _. refl)

-- no call was made
abbrev pub no_calls : CallCounts
no_calls = record { calls = 0; faults = 0 }
