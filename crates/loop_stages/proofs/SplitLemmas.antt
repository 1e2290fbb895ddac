-- Where the split statement stands.
use Rattle.std.proofs.Common.{◌≡◌, ◌≤◌, ◌⊎◌, inl, inr, ℕ, zero, suc, Bool, true, false, List, [], ◌∷◌, ◌++◌, length, map, refl, ap, sym, ◌∙◌, append_assoc, arith}
use Rattle.std.specs.Prelude.{if◌then◌else◌, flat_map}
use Rattle.loop_data.specs.declared.statement.Statement.{Statement}
use Rattle.chain_stages.specs.declared.stages.Stage.{Stage}
use Rattle.loop_stages.specs.Holding.{any_of, holds, is_reduce}
use Rattle.loop_stages.specs.Laws.{SplitsNowhere, SplitsThere}
use Rattle.loop_stages.specs.Lowering.{body_stages, line_of, most_before_split, rest_stages, statement_stages}
use Rattle.loop_stages.proofs.HoldLemmas.{or_false}

-- told whether the first statement holds an `@reduce`
abbrev first_stages : Bool → ℕ → Statement → List Statement → List Stage
first_stages b room x xs = if b then rest_stages (line_of x) (x ∷ xs) else statement_stages x ++ body_stages room xs

splits_in : (room : ℕ) (before rest : List Statement) (x : Statement) → any_of (map (holds is_reduce) before) ≡ false →
    length before ≤ room →
    (holds is_reduce x ≡ true) ⊎ (length before ≡ room) →
    body_stages room (before ++ x ∷ rest) ≡ flat_map statement_stages before ++ rest_stages (line_of x) (x ∷ rest)
splits_in zero [] rest x none few this = refl
splits_in (suc room) [] rest x none few (inl holds_it) = ap (λ b. first_stages b room x rest) holds_it
splits_in (suc room) [] rest x none few (inr last) = absurd (cc (last))
splits_in zero (y ∷ ys) rest x none few this = absurd (omega (arith, few))
splits_in (suc room) (y ∷ ys) rest x none few this =
    let both = or_false (holds is_reduce y) (any_of (map (holds is_reduce) ys)) none in
    ap (λ b. first_stages b room y (ys ++ x ∷ rest)) both.0
    ∙ ap (λ stages. statement_stages y ++ stages) (splits_in room ys rest x both.1 (omega (arith, few)) (later this))
    ∙ sym (append_assoc (statement_stages y) (flat_map statement_stages ys) (rest_stages (line_of x) (x ∷ rest)))
  where
    later : (holds is_reduce x ≡ true) ⊎ (length (y ∷ ys) ≡ suc room) → (holds is_reduce x ≡ true) ⊎ (length ys ≡ room)
    later (inl h) = inl h
    later (inr h) = inr (omega (arith, h))

pub splits_there : SplitsThere
splits_there before rest x none few this = splits_in most_before_split before rest x none few this

splits_nowhere_in : (room : ℕ) (body : List Statement) → any_of (map (holds is_reduce) body) ≡ false → length body ≤ room →
    body_stages room body ≡ flat_map statement_stages body
splits_nowhere_in room [] none few = refl
splits_nowhere_in zero (x ∷ xs) none few = absurd (omega (arith, few))
splits_nowhere_in (suc room) (x ∷ xs) none few =
    let both = or_false (holds is_reduce x) (any_of (map (holds is_reduce) xs)) none in
    ap (λ b. first_stages b room x xs) both.0
    ∙ ap (λ stages. statement_stages x ++ stages) (splits_nowhere_in room xs both.1 (omega (arith, few)))

pub splits_nowhere : SplitsNowhere
splits_nowhere body none few = splits_nowhere_in most_before_split body none few
