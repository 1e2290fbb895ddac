-- Steps keep the rule, and what the rule says of the next number and of the seat that has the whole.
use Rattle.std.proofs.Common.{◌≡◌, ℕ, ◌<◌, List, [], ◌∷◌, refl, ◌∙◌, arith}
use mathlib.Core.Option.{some}
use lib.ListN.{get_elem?}
use Rattle.std.specs.List.{Contains}
use Rattle.std.proofs.lemmas.List.Elements.{All-contains}
use Rattle.std.proofs.lemmas.List.Sorted.{All-permutation, IsPermutation-refl, IsPermutation-sym}
use Rattle.atomic_table.proofs.Lists.{set_else}
use Rattle.loop_batch.specs.declared.views.ClaimView.{ClaimView}
use Rattle.loop_batch.specs.Numbers.{whole_weight}
use Rattle.loop_batch.specs.Rule.{ClaimRule, all_drawn, weight_and_draws}
use Rattle.loop_batch.specs.Steps.{first_view, both_view, IsStep, a_draw, a_split, a_join, a_closing, IsReached, the_making, then_a_step}
use Rattle.loop_batch.specs.Laws.{KnowsAll}
use Rattle.loop_batch.proofs.Keeps.{all_below, all_is_own, own_below, keeps_drawn, keeps_split, keeps_joined}

pub begins : ClaimRule 0 (first_view ∷ [])
begins = record { drawn = IsPermutation-refl []; weights = refl }

pub step_keeps : (word word' : ℕ) (views views' : List ClaimView) → IsStep word views word' views' → ClaimRule word views → ClaimRule word' views'
step_keeps word _ views _ (a_draw {seat = seat} {v = v} h some_weight) r = keeps_drawn word views seat v r h.at some_weight
step_keeps word _ views _ (a_split {seat = seat} {v = v} h enough) r = keeps_split word views seat v r h.at
step_keeps word _ views _ (a_join {seat = seat} {other = other} {v = v} {w = w} h g apart_from) r =
    keeps_joined word views seat v r h.at other w apart_from (set_else views seat other (both_view v w) apart_from ∙ g.at)
step_keeps word _ views _ (a_closing h whole) r = r

pub always : (word : ℕ) (views : List ClaimView) → IsReached word views → ClaimRule word views
always _ _ the_making = begins
always _ _ (then_a_step {word = word} {word' = word'} {views = views} {views' = views'} before step) = step_keeps word word' views views' step (always word views before)

pub next_is_new : (word : ℕ) (views : List ClaimView) → ClaimRule word views → ¬ Contains (all_drawn views) word
next_is_new word views r there =
    let less : word < word = All-contains (λ n. n < word) (all_drawn views) word (All-permutation (λ n. n < word) _ _ (IsPermutation-sym _ _ r.drawn) (all_below word)) there in
    absurd (omega arith)

pub knows_all : (word : ℕ) (views : List ClaimView) (seat : ℕ) (v : ClaimView) → ClaimRule word views → get_elem? views seat ≡ some v → weight_and_draws v ≡ whole_weight
    → KnowsAll word views v
knows_all word views seat v r at whole = record { all = all_is_own word views seat v r at whole; below = own_below word views seat v r at whole }
