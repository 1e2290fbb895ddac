-- Answers combined from left to right, where some stretches have none.
use Rattle.std.proofs.Common.{◌≡◌, ℕ, ◌+◌, ◌≤◌, Bool, true, ◌||◌, Option, Some, None, List, [], ◌∷◌, refl, sym, ap, ap₂, ◌∙◌, subst, arith}
use Rattle.fold_seq.specs.declared.answers.Reduced.{Reduced}
use Rattle.fold_seq.specs.declared.answers.Reduced.TheVariants.{Going, Stopped, Faulted}
use Rattle.fold_seq.specs.declared.answers.End.{End}
use Rattle.fold_seq.specs.declared.answers.End.TheVariants as ends
use Rattle.fold_seq.specs.Answers.{IsStop, Combines, end_of, end_then}
use Rattle.fold_seq.specs.Standing.{MergeStands, StopStands}
use Rattle.fold_seq.specs.Pieces.{has_stopped, StandOrFollowStop, items_in, CombinesKnown, first_end}
use Rattle.fold_seq.proofs.Order.{both}

-- of three ends, and of one and none
end_of_three : (a b c : End) → end_then (end_then a b) c ≡ end_then a (end_then b c)
end_of_three ends.Going b c = refl
end_of_three (ends.Stopped at line) b c = refl
end_of_three (ends.Faulted at line kind) b c = refl

end_then-going : (a : End) → a ≡ end_then a ends.Going
end_then-going ends.Going = refl
end_then-going (ends.Stopped at line) = refl
end_then-going (ends.Faulted at line kind) = refl

same_stop : (at at' line line' : ℕ) → at' ≡ at → line' ≡ line → ends.Stopped at' line' ≡ ends.Stopped at line
same_stop at at' line line' a l = ap₂ (λ x y. ends.Stopped x y) a l

same_fault : (at at' line line' kind kind' : ℕ) → at' ≡ at → line' ≡ line → kind' ≡ kind → ends.Faulted at' line' kind' ≡ ends.Faulted at line kind
same_fault at at' line line' kind kind' a l k = ap₂ (λ x y. ends.Faulted x y kind') a l ∙ ap (λ z. ends.Faulted at line z) k

module _ {S : Type 0} where
  -- what stopped is a stop
  stopped_is : (answer : Reduced S) → has_stopped answer ≡ true → IsStop answer
  stopped_is (Going _) e = absurd cc
  stopped_is (Stopped _ _ _) e = tt
  stopped_is (Faulted _ _ _) e = tt

  -- two answers combined stopped where one of them did
  stopped_both : (merges : S → S → S → Type 0) (left right whole : Reduced S) → Combines merges left right whole → has_stopped whole ≡ (has_stopped left || has_stopped right)
  stopped_both merges (Going _) (Going _) (Going _) c = refl
  stopped_both merges (Going _) (Going _) (Stopped _ _ _) c = absurd c
  stopped_both merges (Going _) (Going _) (Faulted _ _ _) c = absurd c
  stopped_both merges (Going _) (Stopped _ _ _) (Going _) c = absurd c
  stopped_both merges (Going _) (Stopped _ _ _) (Stopped _ _ _) c = refl
  stopped_both merges (Going _) (Stopped _ _ _) (Faulted _ _ _) c = absurd c
  stopped_both merges (Going _) (Faulted _ _ _) (Going _) c = absurd c
  stopped_both merges (Going _) (Faulted _ _ _) (Stopped _ _ _) c = absurd c
  stopped_both merges (Going _) (Faulted _ _ _) (Faulted _ _ _) c = refl
  stopped_both merges (Stopped _ _ _) right whole c = rw c refl
  stopped_both merges (Faulted _ _ _) right whole c = rw c refl

  -- and they end as the first that did
  end_both : (merges : S → S → S → Type 0) (left right whole : Reduced S) → Combines merges left right whole → end_of whole ≡ end_then (end_of left) (end_of right)
  end_both merges (Going _) (Going _) (Going _) c = refl
  end_both merges (Going _) (Going _) (Stopped _ _ _) c = absurd c
  end_both merges (Going _) (Going _) (Faulted _ _ _) c = absurd c
  end_both merges (Going _) (Stopped _ _ _) (Going _) c = absurd c
  end_both merges (Going _) (Stopped at line _) (Stopped at' line' _) c = same_stop at at' line line' c.0 c.1
  end_both merges (Going _) (Stopped _ _ _) (Faulted _ _ _) c = absurd c
  end_both merges (Going _) (Faulted _ _ _) (Going _) c = absurd c
  end_both merges (Going _) (Faulted _ _ _) (Stopped _ _ _) c = absurd c
  end_both merges (Going _) (Faulted at line kind) (Faulted at' line' kind') c = same_fault at at' line line' kind kind' c.0 c.1 c.2
  end_both merges (Stopped _ _ _) right whole c = rw c refl
  end_both merges (Faulted _ _ _) right whole c = rw c refl

  -- the answers that there are, combined, stand for all stretches, those without an answer included
  pub known_stand : (stands : ℕ → ℕ → Reduced S → Type 0) (merges : S → S → S → Type 0) → MergeStands stands merges → StopStands stands →
      (first n : ℕ) (before whole : Reduced S) (pieces : List (ℕ × Option (Reduced S))) → 1 ≤ first → stands first n before → StandOrFollowStop stands (has_stopped before) (first + n) pieces →
      CombinesKnown merges before pieces whole → stands first (n + items_in pieces) whole
  known_stand stands merges law stops first n before whole [] one h k c = let e : n + 0 ≡ n = omega arith in rw (e, c) h
  known_stand stands merges law stops first n before whole ((m, Some answer) ∷ pieces) one h k (next, c, rest) =
      let e : first + n + m ≡ first + (n + m) = omega arith in
      let e2 : n + m + items_in pieces ≡ n + (m + items_in pieces) = omega arith in
      let P : ℕ → Type 0 = λ k. StandOrFollowStop stands (has_stopped next) k pieces in
      let Q : ℕ → Type 0 = λ k. stands first k whole in
      let R : Bool → Type 0 = λ b. StandOrFollowStop stands b (first + n + m) pieces in
      subst Q e2 (known_stand stands merges law stops first (n + m) next whole pieces one (both stands merges law stops first n m before answer next one h k.0 c)
      (subst P e (subst R (sym (stopped_both merges before answer next c)) k.1)) rest)
  known_stand stands merges law stops first n before whole ((m, None) ∷ pieces) one h k c =
      let e : first + n + m ≡ first + (n + m) = omega arith in
      let e2 : n + m + items_in pieces ≡ n + (m + items_in pieces) = omega arith in
      let P : ℕ → Type 0 = λ k. StandOrFollowStop stands (has_stopped before) k pieces in
      let Q : ℕ → Type 0 = λ k. stands first k whole in
      subst Q e2 (known_stand stands merges law stops first (n + m) before whole pieces one (stops first n m before one (stopped_is before k.0) h) (subst P e k.1) c)

  -- and they end as the first that stopped or faulted
  pub known_end : (merges : S → S → S → Type 0) (before whole : Reduced S) (pieces : List (ℕ × Option (Reduced S))) → CombinesKnown merges before pieces whole →
      end_of whole ≡ end_then (end_of before) (first_end pieces)
  known_end merges before whole [] c = rw c (end_then-going (end_of before))
  known_end merges before whole ((m, Some answer) ∷ pieces) (next, c, rest) =
      known_end merges next whole pieces rest ∙ ap (λ e. end_then e (first_end pieces)) (end_both merges before answer next c) ∙ end_of_three (end_of before) (end_of answer) (first_end pieces)
  known_end merges before whole ((m, None) ∷ pieces) c = known_end merges before whole pieces c
