-- The fields of a shape are given back by its lengths.
-- Source: this project's representation.
use Rattle.std.specs.Prelude.{◌≡◌, ℕ, ◌-◌, ◌≤◌, List, ◌++◌, length, take, replicate}
use Rattle.std.proofs.Common.{sym, ap, ◌∙◌, arith, length-take-le, take-append-drop}
use Rattle.splittable.specs.Fields.{IsFourAxes, padded}
use Rattle.splittable.specs.declared.shapes.Shape.TheInside.{Inside}

-- padding the first lengths gives the four again
pub padded-take : (lens : List ℕ) (axes : ℕ) → IsFourAxes lens axes → padded (take axes lens) ≡ lens
padded-take lens axes h =
    let le : axes ≤ length lens = omega (arith, h.four, h.most) in
    let back : take axes lens ++ replicate (4 - axes) 1 ≡ lens =
    ap (λ ys. take axes lens ++ ys) (sym h.padding) ∙ take-append-drop axes lens in
    rw (length-take-le axes lens le) back

pub fields_back : (s : Inside) → IsFourAxes s.lens s.axes →
    (record { lens = padded (take s.axes s.lens); axes = length (take s.axes s.lens) }) ≡ s
fields_back s h =
    let le : s.axes ≤ length s.lens = omega (arith, h.four, h.most) in
    rw (padded-take s.lens s.axes h, length-take-le s.axes s.lens le)
