-- The lines of a text that is UTF-8 are UTF-8.
use Rattle.std.proofs.Common.{◌≡◌, ℕ, ◌-◌, ◌<◌, Bool, true, false, cond, List, [], ◌∷◌, ◌++◌, length, length-append, take, get_or, eqb, IsUtf8, IsCharBoundary, refl, sym, subst, arith, lit<}
use Rattle.std.specs.List.{slice_split, join_with_byte}
use Rattle.std.specs.Str.Lines.{lines_of_parts}
use Rattle.std.proofs.lemmas.List.{take_at, drop_at, get_or_at}
use Rattle.std.proofs.lemmas.List.Splits.{join_with_byte-slice_split}
use Rattle.std.proofs.lemmas.Bool.Decides.{nat_tests}
use Rattle.std.proofs.lemmas.Str.{IsUtf8-take, IsUtf8-drop, IsCharBoundary-before_ascii, IsCharBoundary-after_ascii}
use Rattle.loop_tokens.specs.Lines.{lines_of}

abbrev pub AllTexts : List (List ℕ) → Type 0
AllTexts [] = Unit {0}
AllTexts (x ∷ xs) = IsUtf8 x × AllTexts xs

-- what stands round an LF
cut_at : (x ys : List ℕ) → IsUtf8 (x ++ 10 ∷ ys) → IsUtf8 x × IsUtf8 ys
cut_at x ys u =
    let whole : List ℕ = x ++ 10 ∷ ys in
    let size : length x < length whole = simp length-append (omega arith) in
    let at : get_or whole (length x) 0 ≡ 10 = get_or_at x 10 ys 0 (length x) refl in
    let low : get_or whole (length x) 0 < 128 = omega (arith, at) in
    let before : IsCharBoundary whole (length x) = IsCharBoundary-before_ascii whole (length x) size low in
    let rest : IsUtf8 (10 ∷ ys) = subst IsUtf8 (drop_at x (10 ∷ ys) (length x) refl) (IsUtf8-drop whole (length x) u before) in (
      subst IsUtf8 (take_at x (10 ∷ ys) (length x) refl) (IsUtf8-take whole (length x) u before),
      IsUtf8-drop (10 ∷ ys) 1 rest (IsCharBoundary-after_ascii (10 ∷ ys) 0 rest (omega arith) (lit< tt)),
    )

parts_utf8 : (xs : List (List ℕ)) → IsUtf8 (join_with_byte 10 xs) → AllTexts xs
parts_utf8 [] u = tt
parts_utf8 (x ∷ []) u = (u, tt)
parts_utf8 (x ∷ y ∷ xs) u = let both = cut_at x (join_with_byte 10 (y ∷ xs)) u in (both.0, parts_utf8 (y ∷ xs) both.1)

stripped : (x : List ℕ) (t : Bool) → eqb (get_or x (length x - 1) 0) 13 ≡ t → IsUtf8 x → IsUtf8 (cond t (take (length x - 1) x) x)
stripped x false is u = u
stripped [] true is u = u
stripped (b ∷ bs) true is u =
    let cr : get_or (b ∷ bs) (length (b ∷ bs) - 1) 0 ≡ 13 = grind (arith, nat_tests) in
    IsUtf8-take (b ∷ bs) (length (b ∷ bs) - 1) u (IsCharBoundary-before_ascii (b ∷ bs) (length (b ∷ bs) - 1) (omega arith) (omega (arith, cr)))

last_line : (x : List ℕ) (t : Bool) → IsUtf8 x → AllTexts (cond t [] (x ∷ []))
last_line x true u = tt
last_line x false u = (u, tt)

lines_kept : (xs : List (List ℕ)) → AllTexts xs → AllTexts (lines_of_parts xs)
lines_kept [] u = tt
lines_kept (x ∷ []) u = last_line x (eqb (length x) 0) u.0
lines_kept (x ∷ y ∷ xs) u = (stripped x (eqb (get_or x (length x - 1) 0) 13) refl u.0, lines_kept (y ∷ xs) u.1)

pub lines_utf8 : (text : List ℕ) → IsUtf8 text → AllTexts (lines_of text)
lines_utf8 text u = lines_kept (slice_split (λ b. eqb b 10) text) (parts_utf8 (slice_split (λ b. eqb b 10) text) (subst IsUtf8 (sym (join_with_byte-slice_split 10 text)) u))
