-- Steps keep the rule, and what the rule says of the seat with the whole weight.
use Rattle.std.proofs.Common.{◌≡◌, ℕ, ◌≤◌, List, [], ◌∷◌, refl, ◌∙◌, inl, arith}
use mathlib.Core.Option.{some}
use lib.ListN.{get_elem?}
use Rattle.std.proofs.lemmas.List.Elements.{All-nil, All-cons}
use Rattle.atomic_table.proofs.Lists.{set_else}
use Rattle.stop_word.specs.declared.views.StopView.{StopView}
use Rattle.stop_word.specs.Numbers.{no_stop, whole_weight}
use Rattle.stop_word.specs.Rule.{StopRule, IsIdleEmpty}
use Rattle.stop_word.specs.Steps.{first_view, both_view, IsStep, a_load, a_report, a_split, a_join, a_closing, IsReached, the_making, then_a_step}
use Rattle.stop_word.specs.Laws.{KnowsAll}
use Rattle.stop_word.proofs.Keeps.{all_is_own, told, found, keeps_loaded, keeps_reported, keeps_split, keeps_joined}

pub begins : StopRule no_stop (first_view ∷ [])
begins = record {
  stands = inl refl;
  least_reported = All-nil (λ n. no_stop ≤ n);
  least_seen = All-nil (λ n. no_stop ≤ n);
  known = All-nil _;
  weights = refl;
  idle = All-cons IsIdleEmpty first_view [] (λ none. (refl, refl)) (All-nil IsIdleEmpty);
}

pub step_keeps : (word word' : ℕ) (views views' : List StopView) → IsStep word views word' views' → StopRule word views → StopRule word' views'
step_keeps word _ views _ (a_load {seat = seat} {v = v} h) r = keeps_loaded word views seat v r h.at h.some_weight
step_keeps word _ views _ (a_report {seat = seat} {v = v} place h) r = keeps_reported word views seat v r h.at place h.some_weight
step_keeps word _ views _ (a_split {seat = seat} {v = v} h) r = keeps_split word views seat v r h.at
step_keeps word _ views _ (a_join {seat = seat} {other = other} {v = v} {w = w} h g apart_from) r =
    keeps_joined word views seat v r h.at other w apart_from (set_else views seat other (both_view v w) apart_from ∙ g.at)
step_keeps word _ views _ (a_closing h whole) r = r

pub always : (word : ℕ) (views : List StopView) → IsReached word views → StopRule word views
always _ _ the_making = begins
always _ _ (then_a_step {word = word} {word' = word'} {views = views} {views' = views'} before step) = step_keeps word word' views views' step (always word views before)

pub never_rises : (word word' : ℕ) (views views' : List StopView) → IsStep word views word' views' → word' ≤ word
never_rises word _ views _ (a_load h) = omega arith
never_rises word _ views _ (a_report place h) = omega arith
never_rises word _ views _ (a_split h) = omega arith
never_rises word _ views _ (a_join h g apart_from) = omega arith
never_rises word _ views _ (a_closing h whole) = omega arith

pub knows_all : (word : ℕ) (views : List StopView) (seat : ℕ) (v : StopView) → StopRule word views → get_elem? views seat ≡ some v → v.weight ≡ whole_weight
    → KnowsAll word views v
knows_all word views seat v r at whole = record {
  reported = (all_is_own word views seat v r at whole).0;
  seen = (all_is_own word views seat v r at whole).1;
  known = (told word views seat v r at).known whole;
  least = λ most. (found word views seat v r at most).exact whole;
}
