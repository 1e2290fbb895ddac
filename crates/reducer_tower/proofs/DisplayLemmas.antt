-- Texts that are written in turn, with a comma and a space between each two.
use Rattle.std.proofs.Common.{◌≡◌, ℕ, List, [], ◌∷◌, ◌++◌, map, refl, ap, sym, ◌∙◌, append_assoc}
use Rattle.std.specs.Prelude.{codes}
use Rattle.std.specs.Map.Iter.{deref_pair}
use Rattle.loop_data.specs.ValueTexts.{separated}
use Rattle.reducer_tower.specs.declared.state.TowerState.{TowerState}
use Rattle.reducer_tower.specs.declared.state.TowerState.TheVariants as state
use Rattle.reducer_tower.specs.declared.state.TowerState.TheOpen.{TowerState-F as s}
use Rattle.reducer_tower.specs.declared.state.TowerState.TheFolds.{fold-roll-TowerState}
use Rattle.reducer_tower.specs.Texts.{state_text, state_text_step, group_text, groups_text}

-- what stands between the texts so far and the next one
abbrev pub between_after : {X : Type 0} → List X → List ℕ
between_after [] = []
between_after (_ ∷ _) = codes ", "

pub between_after-last : {X : Type 0} (xs : List X) (x : X) → between_after (xs ++ x ∷ []) ≡ codes ", "
between_after-last [] x = refl
between_after-last (y ∷ xs) x = refl

-- one more text
pub separated-last : {X : Type 0} (f : X → List ℕ) (xs : List X) (x : X) → separated (map f (xs ++ x ∷ [])) ≡ separated (map f xs) ++ between_after xs ++ f x
separated-last f [] x = refl
separated-last f (y ∷ []) x = refl
separated-last f (y ∷ z ∷ xs) x = rw (separated-last f (z ∷ xs) x) (simp append_assoc refl)

-- ---- groups, which are lent one by one
abbrev pub shown : List ℕ × TowerState → List ℕ
shown g = group_text (g.0, state_text g.1)

five : (s b k c t : List ℕ) → (((s ++ b) ++ k) ++ c) ++ t ≡ (s ++ b) ++ ((k ++ c) ++ t)
five s b k c t = simp append_assoc refl

module _ {A : Type 0} (lent : A → List ℕ × TowerState) where
  pub group_written : (xs : List A) (p : A) (between : List ℕ) → between ≡ between_after xs
      → (((separated (map (λ a. shown (lent a)) xs) ++ between) ++ (lent p).0) ++ codes ": ") ++ state_text (lent p).1 ≡ separated (map (λ a. shown (lent a)) (xs ++ p ∷ []))
  group_written xs p between e =
      ap (λ b. (((separated (map (λ a. shown (lent a)) xs) ++ b) ++ (lent p).0) ++ codes ": ") ++ state_text (lent p).1) e
      ∙ five (separated (map (λ a. shown (lent a)) xs)) (between_after xs) (lent p).0 (codes ": ") (state_text (lent p).1)
      ∙ sym (separated-last (λ a. shown (lent a)) xs p)

  -- the texts of groups that are lent are those of the groups
  pub texts_of_lent : (xs : List A) → map (λ a. shown (lent a)) xs ≡ map group_text (map (λ g. (g.0, state_text g.1)) (map lent xs))
  texts_of_lent [] = refl
  texts_of_lent (x ∷ xs) = ap (λ l. shown (lent x) ∷ l) (texts_of_lent xs)

pub text-Grouped : (g : List (List ℕ × TowerState)) → state_text (state.Grouped g) ≡ groups_text g
text-Grouped g = ap state_text (sym (state.rolls-Grouped g)) ∙ fold-roll-TowerState (List ℕ) state_text_step (s.Grouped g)
