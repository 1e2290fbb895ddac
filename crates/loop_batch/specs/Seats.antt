-- What contracts see of a seat of a claim.
-- Source: this project.
use Rattle.std.specs.Prelude.{ℕ, List, refl}
use Rattle.std.specs.Coded.{Coded, code_by, coded×, coded_ℕ, coded_list}
use Rattle.atomic_table.specs.Seated.{TableId, table_id_coded}

-- which claim the seat is of, its weight, and the numbers that it has drawn
pub record SeatState : Type 0 where
  pub claim : TableId
  pub weight : ℕ
  pub drawn : List ℕ

abbrev pub seat_state_coded : Coded SeatState
seat_state_coded =
    code_by (TableId × (ℕ × List ℕ))
    (coded× table_id_coded (coded× coded_ℕ (coded_list coded_ℕ)))
    (λ s. (s.claim, (s.weight, s.drawn)))
    (λ p. record { claim = p.0; weight = p.1.0; drawn = p.1.1 }) (λ _. refl)
