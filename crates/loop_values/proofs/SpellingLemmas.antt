-- A number that is too large stays so, whatever digits follow.
use Rattle.std.proofs.Common.{◌≡◌, ℕ, ◌+◌, ◌-◌, ◌*◌, ◌<◌, true, false, List, [], ◌∷◌, None, refl, arith}
use Rattle.std.proofs.lemmas.Grind.{common_steps}
use Rattle.std.specs.Char.{is_ascii_digit}
use Rattle.std.specs.Prelude.{if◌then◌else◌}
use Rattle.loop_values.specs.Spelling.{natural_after, up_to}

pub natural_after-over : (n : ℕ) (ds : List ℕ) → 9223372036854775808 < n → up_to 9223372036854775808 (natural_after n ds) ≡ None
natural_after-over n [] h = grind (arith, common_steps)
natural_after-over n (c ∷ cs) h =
    elim (is_ascii_digit c) as (λ b. up_to 9223372036854775808 (if b then natural_after (10 * n + (c - 48)) cs else None) ≡ None) [
      | true ↦ natural_after-over (10 * n + (c - 48)) cs (omega arith)
      | false ↦ refl
    ]
