-- The test of two kinds at a tuple.
use Rattle.std.proofs.Common.{◌≡◌, ◌≢◌, true, false, List, [], ◌∷◌, length, map, refl, rules, arith}
use Rattle.std.specs.Prelude.{◌&&◌}
use Rattle.loop_data.specs.declared.value.ValueKind.{ValueKind, the_lemmas}
use Rattle.loop_data.specs.declared.value.ValueKind.TheVariants.{Tuple}
use Rattle.loop_values.specs.Kinds.{same_kind, same_all}

pub same_kind-Tuple : (a b : List ValueKind) → same_kind (Tuple a) (Tuple b) ≡ same_all (map same_kind a) b
same_kind-Tuple a b = search (rules, the_lemmas)

pub same_all-lengths : (a b : List ValueKind) → length a ≢ length b → same_all (map same_kind a) b ≡ false
same_all-lengths [] [] ne = absurd (ne refl)
same_all-lengths [] (k ∷ ks) ne = refl
same_all-lengths (x ∷ xs) [] ne = refl
same_all-lengths (x ∷ xs) (k ∷ ks) ne =
    elim (same_kind x k) as (λ b. (b && same_all (map same_kind xs) ks) ≡ false) [ true ↦ same_all-lengths xs ks (λ e. ne (omega arith)) | false ↦ refl ]
