-- The items of an inner range: they are those that its first, step and count stand for, and lie between its bounds.
use Rattle.std.proofs.Common.{◌≡◌, ◌≢◌, ℕ, ◌<◌, Bool, true, false, List, ◌++◌, length, Option, Some, None, Ok, Err, refl, ap, sym, ◌∙◌, subst, arith}
use Rattle.std.specs.Prelude.{◌*◌, if◌then◌else◌, IfOk, nat_lt, ℤ, pos, FitsSigned, Result}
use Rattle.std.specs.Int.{w64}
use Rattle.std.specs.Ordering.{int_eq}
use Rattle.std.proofs.lemmas.Int.{ints}
use Rattle.number_ranges.specs.Laws.{LiesBetween}
use Rattle.number_ranges.specs.Ranges.{range_count, range_item, range_items}
use Rattle.number_ranges.proofs.Items.{length-items_from}
use Rattle.number_ranges.proofs.RangeFits.{item_fits, lies_between}
use Rattle.loop_data.specs.ValueParts.{as_int}
use Rattle.loop_data.specs.declared.value.Value.{Value}
use Rattle.loop_data.specs.declared.expr.Expr.{Expr}
use Rattle.loop_data.specs.declared.expr.RangeExpr.{RangeExpr}
use Rattle.loop_values.specs.declared.ranges.InnerRange.{InnerRange}
use Rattle.loop_values.specs.declared.stop.EvalStop.{EvalStop}
use Rattle.loop_values.specs.declared.stop.EvalStop.TheVariants.{StepZero, TooManyInner}
use Rattle.loop_values.specs.Bindings.{Names}
use Rattle.loop_values.specs.InnerItems.{ItemsFit, Ranged, allowed, inner_items, inner_limit, items_of, items_or_fault, limited, range_of, ranged, with_int, with_step}
use Rattle.loop_values.specs.NamesIn.{SameAt, names_in, names_in_range, names_in_step}
use Rattle.loop_values.specs.Operations.{Outcome}
use Rattle.loop_values.specs.Values.{value_of}
use Rattle.loop_values.proofs.NamesLemmas.{back, front, settled}

-- ---- the triple stands for the items

abbrev Items : Type 0
Items = Result (List ℤ) EvalStop

allowed_items : (zero over : Bool) (q : InnerRange) → items_or_fault (if zero then Err StepZero else (if over then Err TooManyInner else Ok q)) ≡ (if zero then Err StepZero else (if over then Err TooManyInner else Ok (items_of q)))
allowed_items true over q = refl
allowed_items false true q = refl
allowed_items false false q = refl

ranged_items : (width : ℕ) (a s b : ℤ) → items_or_fault (ranged width a s b) ≡ allowed width a s b (range_items a s b)
ranged_items width a s b = allowed_items (int_eq s (pos 0)) (nat_lt inner_limit (width * range_count a s b)) (record { first = a; step = s; count = range_count a s b })

with_int_items : (r : Outcome) (f : ℤ → Ranged) (g : ℤ → Items) → ((n : ℤ) → items_or_fault (f n) ≡ g n) → items_or_fault (with_int r f) ≡ with_int r g
with_int_items (Ok v) f g h = h (as_int v)
with_int_items (Err s) f g h = refl

with_step_items : (o : Option Expr) (env : Names) (f : ℤ → Ranged) (g : ℤ → Items) → ((n : ℤ) → items_or_fault (f n) ≡ g n) → items_or_fault (with_step o env f) ≡ with_step o env g
with_step_items (Some x) env f g h = with_int_items (value_of x env) f g h
with_step_items None env f g h = h (pos 1)

pub range_items_of : (r : RangeExpr) (env : Names) (width : ℕ) → items_or_fault (range_of r env width) ≡ inner_items r env width
range_items_of r env width =
    with_int_items (value_of r.first env) _ _ (λ a. with_step_items r.step env _ _ (λ s. with_int_items (value_of r.last env) _ _ (λ b. ranged_items width a s b)))

pub items_counted : (q : InnerRange) → length (items_of q) ≡ q.count
items_counted q = length-items_from q.first q.step q.count

-- ---- the items lie between the bounds

is_zero : (n : ℤ) → n ≡ pos 0 → int_eq n (pos 0) ≡ true
is_zero n e = grind (arith, ints)

not_zero : (n : ℤ) (b : Bool) → int_eq n (pos 0) ≡ b → b ≡ false → n ≢ pos 0
not_zero n b e f is =
    let z = is_zero n is in
    absurd (cc)

-- a range that is given has a step, and is the triple of its bounds
allowed_ok : (zero over : Bool) (p q : InnerRange) → ◌≡◌ {A = Ranged} (if zero then Err StepZero else (if over then Err TooManyInner else Ok p)) (Ok q) → (zero ≡ false) × (p ≡ q)
allowed_ok true over p q e = absurd (cc)
allowed_ok false true p q e = absurd (cc)
allowed_ok false false p q e = (refl, cc)

ranged_between : (width : ℕ) (a s b : ℤ) (q : InnerRange) → ranged width a s b ≡ Ok q → (k : ℕ) → k < q.count → LiesBetween q.first b (range_item q.first q.step k)
ranged_between width a s b q e =
    let p = allowed_ok (int_eq s (pos 0)) (nat_lt inner_limit (width * range_count a s b)) _ q e in
    subst (λ z. (k : ℕ) → k < z.count → LiesBetween z.first b (range_item z.first z.step k)) p.1
    (λ k h. lies_between a s b k (not_zero s _ refl p.0) h)

with_int_ok : (r : Outcome) (f : ℤ → Ranged) (q : InnerRange) → with_int r f ≡ Ok q → (v : Value) × (r ≡ Ok v) × (f (as_int v) ≡ Ok q)
with_int_ok (Ok v) f q e = (v, refl, e)
with_int_ok (Err s) f q e = absurd (cc)

with_step_ok : (o : Option Expr) (env : Names) (f : ℤ → Ranged) (q : InnerRange) → with_step o env f ≡ Ok q → (n : ℤ) × (f n ≡ Ok q)
with_step_ok (Some x) env f q e =
    let p = with_int_ok (value_of x env) f q e in
    (as_int p.0, p.2)
with_step_ok None env f q e = (pos 1, e)

same_value : (r : Outcome) (v w : Value) → r ≡ Ok v → r ≡ Ok w → v ≡ w
same_value r v w e h = cc

pub items_between : (r : RangeExpr) (env : Names) (width : ℕ) (q : InnerRange) (last : Value) → range_of r env width ≡ Ok q → value_of r.last env ≡ Ok last → (k : ℕ) → k < q.count → LiesBetween q.first (as_int last) (range_item q.first q.step k)
items_between r env width q last e is =
    let a = with_int_ok (value_of r.first env) _ q e in
    let s = with_step_ok r.step env _ q a.2 in
    let b = with_int_ok (value_of r.last env) _ q s.1 in
    subst (λ v. (k : ℕ) → k < q.count → LiesBetween q.first (as_int v) (range_item q.first q.step k)) (same_value (value_of r.last env) b.0 last b.1 is)
    (ranged_between width (as_int a.0) s.0 (as_int b.0) q b.2)

-- ---- and so fit 64 bits

limited_fit : (over : Bool) (q : InnerRange) (r : Ranged) → r ≡ (if over then Err TooManyInner else Ok q) → ItemsFit q → IfOk r ItemsFit
limited_fit true q r e h = subst (λ z. IfOk z ItemsFit) (sym e) tt
limited_fit false q r e h = subst (λ z. IfOk z ItemsFit) (sym e) h

-- the items of a range that is within the limit fit 64 bits
pub range_fits : (width n : ℕ) (a s b : ℤ) (r : Ranged) → FitsSigned w64 a → FitsSigned w64 b → s ≢ pos 0 → n ≡ range_count a s b → r ≡ limited width n (record { first = a; step = s; count = n }) → IfOk r ItemsFit
range_fits width n a s b r fa fb some e is =
    limited_fit (nat_lt inner_limit (width * n)) _ r is (λ k h. item_fits a s b k fa fb some (rw e at h))

-- ---- the names of the bounds

with_int_same : (r t : Outcome) (f g : ℤ → Ranged) → r ≡ t → ((n : ℤ) → f n ≡ g n) → with_int r f ≡ with_int t g
with_int_same (Ok v) t f g e h = h (as_int v) ∙ ap (λ z. with_int z g) e
with_int_same (Err s) t f g e h = ap (λ z. with_int z g) e

with_step_same : (o : Option Expr) (env other : Names) (f g : ℤ → Ranged) → SameAt env other (names_in_step o) → ((n : ℤ) → f n ≡ g n) → with_step o env f ≡ with_step o other g
with_step_same (Some x) env other f g s h = with_int_same _ _ f g (settled x env other s) h
with_step_same None env other f g s h = h (pos 1)

pub range_settled : (r : RangeExpr) (env other : Names) (width : ℕ) → SameAt env other (names_in_range r) → range_of r env width ≡ range_of r other width
range_settled r env other width h =
    let two = front env other (names_in r.first ++ names_in_step r.step) (names_in r.last) h in
    let last = back env other (names_in r.first ++ names_in_step r.step) (names_in r.last) h in
    with_int_same _ _ _ _ (settled r.first env other (front env other (names_in r.first) (names_in_step r.step) two)) (λ a.
    with_step_same r.step env other _ _ (back env other (names_in r.first) (names_in_step r.step) two) (λ s.
    with_int_same _ _ _ _ (settled r.last env other last) (λ b. refl)))
