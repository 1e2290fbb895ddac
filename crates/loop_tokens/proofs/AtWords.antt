-- The at-words at the front of some bytes.
use Rattle.std.proofs.Common.{◌≡◌, ◌≢◌, ℕ, suc, ◌<◌, ◌≤◌, Bool, true, false, cond, MatchBool, List, [], ◌∷◌, ◌++◌, length, take, drop, is_some, codes, bytes_eq, Some, None, refl, ap, sym, ◌∙◌, arith, eqb}
use Rattle.std.proofs.lemmas.List.{take-append-drop}
use Rattle.std.specs.Cmp.Lexicographic.{pointwise}
use Rattle.std.proofs.lemmas.Slice.Eq.{bytes_eq-Decides, starts_is}
use Rattle.std.proofs.lemmas.Bool.Decides.{Decides-eqb}
use Rattle.loop_tokens.specs.Tokens.{IsLongestFront, NoFront}
use Rattle.loop_tokens.specs.declared.keyword.AtWord.{AtWord}
use Rattle.loop_tokens.specs.declared.keyword.AtWord.TheVariants as a
use Rattle.loop_tokens.specs.Keywords.{is_at_word}

pub begins_is : (s p : List ℕ) (r : Bool) → r ≡ pointwise eqb p (take (length p) s) → MatchBool r (s ≡ p ++ drop (length p) s) ((rest : List ℕ) → s ≢ p ++ rest)
begins_is s p r h = by (starts_is Decides-eqb s p r h) where
  by : (r ≡ true → s ≡ p ++ drop (length p) s) × ((rest : List ℕ) → s ≡ p ++ rest → r ≡ true) → MatchBool r (s ≡ p ++ drop (length p) s) ((rest : List ℕ) → s ≢ p ++ rest)
  by both = elim r as (λ t. (t ≡ true → s ≡ p ++ drop (length p) s) × ((rest : List ℕ) → s ≡ p ++ rest → t ≡ true) → MatchBool t (s ≡ p ++ drop (length p) s) ((rest : List ℕ) → s ≢ p ++ rest))
      [ true ↦ λ w. w.0 refl | false ↦ λ w rest e. let no = w.1 rest e in cc ] both

more_four : (a b c d : ℕ) (more : List ℕ) → is_at_word (a ∷ b ∷ c ∷ d ∷ []) ≡ true → ((x : ℕ) (xs : List ℕ) → is_at_word (a ∷ b ∷ c ∷ d ∷ x ∷ xs) ≡ false) → IsLongestFront is_at_word (a ∷ b ∷ c ∷ d ∷ more) 4
more_four a b c d more h none = record { within = omega arith; passes = h; longest = λ m lt le. longer more m lt le } where
  longer : (rest : List ℕ) (m : ℕ) → 4 < m → m ≤ length (a ∷ b ∷ c ∷ d ∷ rest) → is_at_word (take m (a ∷ b ∷ c ∷ d ∷ rest)) ≡ false
  longer [] (suc (suc (suc (suc (suc m))))) lt le = absurd (omega arith)
  longer (x ∷ xs) (suc (suc (suc (suc (suc m))))) lt le = none x (take m xs)
  longer rest _ lt le = absurd (omega arith)

pub at_init : (bs more : List ℕ) → bs ≡ codes "init" ++ more → IsLongestFront is_at_word bs 4
at_init bs more h = rw h (more_four 105 110 105 116 more refl (λ x xs. refl))

pub at_keep : (bs more : List ℕ) → bs ≡ codes "keep" ++ more → IsLongestFront is_at_word bs 4
at_keep bs more h = rw h (more_four 107 101 101 112 more refl (λ x xs. refl))

six : (more : List ℕ) → IsLongestFront is_at_word (114 ∷ 101 ∷ 100 ∷ 117 ∷ 99 ∷ 101 ∷ more) 6
six more = record { within = omega arith; passes = refl; longest = λ m lt le. longer more m lt le } where
  longer : (rest : List ℕ) (m : ℕ) → 6 < m → m ≤ length (114 ∷ 101 ∷ 100 ∷ 117 ∷ 99 ∷ 101 ∷ rest) → is_at_word (take m (114 ∷ 101 ∷ 100 ∷ 117 ∷ 99 ∷ 101 ∷ rest)) ≡ false
  longer [] (suc (suc (suc (suc (suc (suc (suc m))))))) lt le = absurd (omega arith)
  longer (x ∷ xs) (suc (suc (suc (suc (suc (suc (suc m))))))) lt le = refl
  longer rest _ lt le = absurd (omega arith)

pub at_reduce : (bs more : List ℕ) → bs ≡ codes "reduce" ++ more → IsLongestFront is_at_word bs 6
at_reduce bs more h = rw h (six more)

no_word : (bs word : List ℕ) (n : ℕ) → ((rest : List ℕ) → bs ≢ word ++ rest) → (t : Bool) → bytes_eq (take n bs) word ≡ t → t ≡ false
no_word bs word n none false h = refl
no_word bs word n none true h = absurd (none (drop n bs) (sym (take-append-drop n bs) ∙ ap (λ xs. xs ++ drop n bs) ((bytes_eq-Decides (take n bs) word).0 h)))

three_cond : (s t u : Bool) (x y z : AtWord) → s ≡ false → t ≡ false → u ≡ false → is_some (cond s (Some x) (cond t (Some y) (cond u (Some z) None))) ≡ false
three_cond s t u x y z a b c = rw (a, b, c) refl

pub at_none : (bs : List ℕ) → ((rest : List ℕ) → bs ≢ codes "init" ++ rest) → ((rest : List ℕ) → bs ≢ codes "keep" ++ rest) → ((rest : List ℕ) → bs ≢ codes "reduce" ++ rest) → NoFront is_at_word bs
at_none bs i k r n le = three_cond _ _ _ a.Init a.Keep a.Reduce (no_word bs (codes "init") n i _ refl) (no_word bs (codes "keep") n k _ refl) (no_word bs (codes "reduce") n r _ refl)
