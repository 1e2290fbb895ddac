-- Two lists of kinds that the test finds the same are equal, and a list of kinds is the same as itself.
use Rattle.std.proofs.Common.{◌≡◌, ◌≢◌, Bool, true, false, List, [], ◌∷◌, length, map, refl, subst}
use Rattle.std.specs.Prelude.{◌&&◌}
use Rattle.loop_data.specs.declared.value.ValueKind.{ValueKind}
use Rattle.loop_values.specs.Kinds.{same_all, same_kind}
use Rattle.loop_values.proofs.KindLemmas.{same_all-lengths}
use Rattle.loop_values.proofs.SameLemmas.{same_kind-sound, same_kind-along}
use Rattle.loop_values.proofs.SoundLemmas.{both-true}
use Rattle.tower_inputs.specs.InputKinds.{same_kinds}

pub same_kinds-sound : (xs ys : List ValueKind) → same_kinds xs ys ≡ true → xs ≡ ys
same_kinds-sound [] [] e = refl
same_kinds-sound [] (y ∷ ys) e = absurd (cc)
same_kinds-sound (x ∷ xs) [] e = absurd (cc)
same_kinds-sound (x ∷ xs) (y ∷ ys) e =
    let p = both-true (same_kind x y) (same_kinds xs ys) e in
    let first = same_kind-sound x y p.0 in
    let rest = same_kinds-sound xs ys p.1 in
    cc

both-hold : (a b : Bool) → a ≡ true → b ≡ true → (a && b) ≡ true
both-hold true b e h = h
both-hold false b e h = e

same_kinds-own : (xs : List ValueKind) → same_kinds xs xs ≡ true
same_kinds-own [] = refl
same_kinds-own (x ∷ xs) = both-hold (same_kind x x) (same_kinds xs xs) (same_kind-along x x refl) (same_kinds-own xs)

pub same_kinds-along : (xs ys : List ValueKind) → xs ≡ ys → same_kinds xs ys ≡ true
same_kinds-along xs ys e = subst (λ z. same_kinds xs z ≡ true) e (same_kinds-own xs)

pub same_kinds-lengths : (xs ys : List ValueKind) → length xs ≢ length ys → same_kinds xs ys ≡ false
same_kinds-lengths xs ys ne = same_all-lengths xs ys ne
