-- What is left of two lists side by side where one of them has ended.
use Rattle.std.proofs.Common.{◌≡◌, ℕ, Bool, false, List, [], ◌∷◌, length, refl, arith}
use Rattle.legality_scratches.specs.Scans.{close, is_open, where_either}

pub none_named : (ms : List (List ℕ)) (bs : List Bool) (n : List ℕ) → length ms ≡ 0 → is_open ms bs n ≡ false
none_named [] bs n e = refl
none_named (m ∷ ms) bs n e = absurd (omega arith)

pub none_marked : (ms : List (List ℕ)) (bs : List Bool) (n : List ℕ) → length bs ≡ 0 → is_open ms bs n ≡ false
none_marked [] bs n e = refl
none_marked (m ∷ ms) [] n e = refl
none_marked (m ∷ ms) (b ∷ bs) n e = absurd (omega arith)

pub close_no_names : (ms : List (List ℕ)) (bs : List Bool) (n : List ℕ) → length ms ≡ 0 → close ms bs n ≡ []
close_no_names [] bs n e = refl
close_no_names (m ∷ ms) bs n e = absurd (omega arith)

pub close_no_marks : (ms : List (List ℕ)) (bs : List Bool) (n : List ℕ) → length bs ≡ 0 → close ms bs n ≡ []
close_no_marks [] bs n e = refl
close_no_marks (m ∷ ms) [] n e = refl
close_no_marks (m ∷ ms) (b ∷ bs) n e = absurd (omega arith)

pub either_no_left : (xs ys : List Bool) → length xs ≡ 0 → where_either xs ys ≡ []
either_no_left [] ys e = refl
either_no_left (x ∷ xs) ys e = absurd (omega arith)

pub either_no_right : (xs ys : List Bool) → length ys ≡ 0 → where_either xs ys ≡ []
either_no_right [] ys e = refl
either_no_right (x ∷ xs) [] e = refl
either_no_right (x ∷ xs) (y ∷ ys) e = absurd (omega arith)
