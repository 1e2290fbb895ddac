use Rattle.std.proofs.Common.{rules, subst, ◌≡◌}
use Rattle.std.specs.declared.cmp.Ordering.TheVariants.{Equal}
use Rattle.loop_data.specs.ValueOrder.{value_cmp}
use Rattle.loop_data.specs.declared.value.Value.{the_lemmas}
use Rattle.loop_data.specs.OrderLaws.{values_total, tied, itself}
use Rattle.loop_data.proofs.laws.values_are_ordered.Goals as goal

pub returns-clause-order : goal.returns-clause-order
returns-clause-order c = values_total

pub returns-clause-ties : goal.returns-clause-ties
returns-clause-ties c = λ x y. (λ e. tied x y e, λ e. subst (λ z. value_cmp x z ≡ Equal) e (itself x))

pub returns-clause-numbers : goal.returns-clause-numbers
returns-clause-numbers c = λ n t. search (rules, the_lemmas)
