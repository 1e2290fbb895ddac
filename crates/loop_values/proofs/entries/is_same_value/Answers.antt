use Rattle.std.proofs.Common.{◌≡◌, true, refl, rules}
use Rattle.std.specs.Ordering.{is_eq}
use Rattle.std.specs.declared.cmp.Ordering.{Ordering}
use Rattle.std.specs.declared.cmp.Ordering.TheVariants.{Less, Equal, Greater}
use Rattle.loop_data.specs.OrderLaws.{tied}
use Rattle.loop_data.specs.ValueOrder.{value_cmp}
use Rattle.loop_values.proofs.entries.is_same_value.Goals as goal

equal : (o : Ordering) → is_eq o ≡ true → o ≡ Equal
equal Less e = absurd (cc)
equal Equal e = refl
equal Greater e = absurd (cc)

-- values that tie in the order are one
pub returns-in_default : goal.returns-in_default
returns-in_default c = λ e.
    let ties : is_eq (value_cmp c.args.a.now c.args.b.now) ≡ true = search rules in
    tied c.args.a.now c.args.b.now (equal (value_cmp c.args.a.now c.args.b.now) ties)
