-- The faults of expressions and ranges, and the one way in which an expression has no kind.
use Rattle.std.proofs.Common.{◌≡◌, ℕ, Bool, true, false, List, [], ◌∷◌, ◌++◌, map, Option, Some, None, Ok, Err, refl, ap, sym, subst}
use Rattle.std.specs.Prelude.{if◌then◌else◌, ℤ, option_map, pos, int_div}
use Rattle.loop_data.specs.declared.value.Value.{Value}
use Rattle.loop_data.specs.declared.value.Value.TheVariants.{Int, Bool as BoolV, Text}
use Rattle.loop_data.specs.declared.value.ValueKind.{ValueKind}
use Rattle.loop_data.specs.declared.expr.Op.{Op}
use Rattle.loop_data.specs.declared.expr.Op.TheVariants as op
use Rattle.loop_data.specs.declared.expr.Word.{Word}
use Rattle.loop_data.specs.declared.expr.Word.TheVariants as word
use Rattle.loop_data.specs.declared.expr.Expr.{Expr, fold-roll-Expr, ind-Expr, map-Expr}
use Rattle.loop_data.specs.declared.expr.Expr.TheOpen.{Expr-F, Expr-F as e}
use Rattle.loop_data.specs.declared.expr.RangeExpr.{RangeExpr}
use Rattle.loop_data.specs.ValueParts.{as_int}
use Rattle.loop_values.specs.declared.ranges.InnerRange.{InnerRange}
use Rattle.loop_values.specs.declared.stop.EvalStop.{EvalStop}
use Rattle.loop_values.specs.declared.stop.EvalStop.TheVariants as stop
use Rattle.loop_values.specs.declared.stop.TypeStop.{TypeStop}
use Rattle.loop_values.specs.declared.stop.TypeStop.TheVariants.{Differs}
use Rattle.loop_values.specs.Bindings.{Names}
use Rattle.loop_values.specs.InnerItems.{Ranged, allowed, range_of, with_int, with_step}
use Rattle.loop_values.specs.Kinds as kn
use Rattle.loop_values.specs.Kinds.{Kinds, Kinded, Typing, kind_if, kind_of, kind_step, is_bool, is_maybe}
use Rattle.loop_values.specs.Laws.{is_range_fault, is_value_fault}
use Rattle.loop_values.specs.Operations as ev
use Rattle.loop_values.specs.Operations.{Outcome}
use Rattle.loop_values.specs.Values as va
use Rattle.loop_values.specs.Values.{Meaning, value_of, value_step}

-- ---- values

-- each fault is one that an expression can give
record Faults (r : Outcome) : Type 0 where
  known : (s : EvalStop) → r ≡ Err s → is_value_fault s ≡ true

value_has : (v : Value) → Faults (Ok v)
value_has v = record { known = λ s e. absurd (cc) }

err-same : (s t : EvalStop) → ◌≡◌ {A = Outcome} (Err s) (Err t) → s ≡ t
err-same s t e = cc

fault_has : (s : EvalStop) → is_value_fault s ≡ true → Faults (Err s)
fault_has s h = record { known = λ t e. subst (λ u. is_value_fault u ≡ true) (err-same s t e) h }

then_has : (r : Outcome) (f : Value → Outcome) → Faults r → ((v : Value) → Faults (f v)) → Faults (ev.and_then r f)
then_has (Ok v) f h k = k v
then_has (Err s) f h k = record { known = λ t e. h.known t (e) }

if_has : (b : Bool) (r s : Outcome) → Faults r → Faults s → Faults (if b then r else s)
if_has true r s h k = h
if_has false r s h k = k

divide_fault : Faults (Err stop.DivideError)
divide_fault = fault_has stop.DivideError refl

long_fault : Faults (Err stop.TextTooLong)
long_fault = fault_has stop.TextTooLong refl

divided_has : (a d : ℤ) → Faults (ev.divided a d)
divided_has a d = if_has (ev.has_no_quotient a d) (Err stop.DivideError) (Ok (Int (int_div a d))) divide_fault (value_has (Int (int_div a d)))

remainder_has : (a d : ℤ) → Faults (ev.remainder a d)
remainder_has a d = if_has _ _ _ divide_fault (value_has _)

modulo_has : (a d : ℤ) → Faults (ev.modulo a d)
modulo_has a d = if_has _ _ _ divide_fault (value_has _)

within_has : (t : List ℕ) → Faults (ev.within_limit t)
within_has t = if_has _ _ _ (value_has _) long_fault

two_has : (o : Op) (v w : Value) → Faults (ev.two_of o v w)
two_has op.Div v w = divided_has (as_int v) (as_int w)
two_has op.Rem v w = remainder_has (as_int v) (as_int w)
two_has op.Mod v w = modulo_has (as_int v) (as_int w)
two_has op.Join v w = within_has _
two_has _ v w = value_has _

number_has : (n : Option ℤ) → Faults (ev.number_or_fault n)
number_has (Some n) = value_has _
number_has None = fault_has stop.NotANumber refl

nothing_has : (n : Option ℤ) → Faults (ev.number_or_nothing n)
nothing_has (Some n) = value_has _
nothing_has None = value_has _

call_has : (w : Word) (v : Value) → Faults (ev.call_of w v)
call_has word.Int v = number_has _
call_has word.TryInt v = nothing_has _
call_has _ v = value_has _

bound_has : (o : Option Value) → Faults (va.bound o)
bound_has (Some v) = value_has v
bound_has None = value_has _

abbrev HasFaults : Expr → Type 0
HasFaults x = (env : Names) → Faults (value_of x env)

abbrev Such : Type 0
Such = (x : Expr) × HasFaults x

abbrev bare : Such → Expr
bare s = s.0

parts_have : (ss : List Such) (done : List Value) (env : Names) → Faults (va.part_values done (map value_of (map bare ss)) env)
parts_have [] done env = value_has _
parts_have (s ∷ ss) done env = then_has _ _ (s.1 env) (λ v. parts_have ss (done ++ v ∷ []) env)

layer_has : (y : Expr-F Such) (env : Names) → Faults (value_step (map-Expr Expr Meaning value_of (map-Expr Such Expr bare y)) env)
layer_has (e.Lit v) env = value_has v
layer_has (e.Name n) env = bound_has _
layer_has e.Place env = bound_has _
layer_has (e.Neg s) env = then_has _ _ (s.1 env) (λ v. value_has _)
layer_has (e.Not s) env = then_has _ _ (s.1 env) (λ v. value_has _)
layer_has (e.Two o s t) env = then_has _ _ (s.1 env) (λ v. if_has _ _ _ (value_has _) (then_has _ _ (t.1 env) (λ w. two_has o v w)))
layer_has (e.Call w s) env = then_has _ _ (s.1 env) (λ v. call_has w v)
layer_has (e.If t s None) env = then_has _ _ (t.1 env) (λ v. if_has _ _ _ (s.1 env) (value_has _))
layer_has (e.If t s (Some o)) env = then_has _ _ (t.1 env) (λ v. if_has _ _ _ (s.1 env) (o.1 env))
layer_has (e.Tuple ss) env = parts_have ss [] env

faults_of : (x : Expr) → HasFaults x
faults_of = ind-Expr HasFaults (λ x y is env.
    let v = ap (λ f. f env) (fold-roll-Expr Meaning value_step x) in
    let layer = subst (λ w. Faults (value_step (map-Expr Expr Meaning value_of w) env)) is (layer_has y env) in
    subst Faults (sym v) layer)

pub three_faults : (x : Expr) (env : Names) (s : EvalStop) → value_of x env ≡ Err s → is_value_fault s ≡ true
three_faults x env s e = (faults_of x env).known s e

-- ---- ranges

pub value_fault_range : (s : EvalStop) → is_value_fault s ≡ true → is_range_fault s ≡ true
value_fault_range stop.NoMemory h = h
value_fault_range _ h = refl

record RangeFaults (r : Ranged) : Type 0 where
  known : (s : EvalStop) → r ≡ Err s → is_range_fault s ≡ true

range_err-same : (s t : EvalStop) → ◌≡◌ {A = Ranged} (Err s) (Err t) → s ≡ t
range_err-same s t e = cc

range_fault : (s : EvalStop) → is_range_fault s ≡ true → RangeFaults (Err s)
range_fault s h = record { known = λ t e. subst (λ u. is_range_fault u ≡ true) (range_err-same s t e) h }

range_ok : (q : InnerRange) → RangeFaults (Ok q)
range_ok q = record { known = λ s e. absurd (cc) }

range_if : (b : Bool) (r s : Ranged) → RangeFaults r → RangeFaults s → RangeFaults (if b then r else s)
range_if true r s h k = h
range_if false r s h k = k

allowed_faults : (width : ℕ) (a s b : ℤ) (q : InnerRange) → RangeFaults (allowed width a s b q)
allowed_faults width a s b q =
    range_if _ _ _ (range_fault stop.StepZero refl) (range_if _ _ _ (range_fault stop.TooManyInner refl) (range_ok q))

with_int_faults : (r : Outcome) (f : ℤ → Ranged) → Faults r → ((n : ℤ) → RangeFaults (f n)) → RangeFaults (with_int r f)
with_int_faults (Ok v) f h k = k (as_int v)
with_int_faults (Err s) f h k = range_fault s (value_fault_range s (h.known s refl))

with_step_faults : (o : Option Expr) (env : Names) (f : ℤ → Ranged) → ((n : ℤ) → RangeFaults (f n)) → RangeFaults (with_step o env f)
with_step_faults (Some x) env f k = with_int_faults _ f (faults_of x env) k
with_step_faults None env f k = k (pos 1)

pub five_faults : (r : RangeExpr) (env : Names) (width : ℕ) (s : EvalStop) → range_of r env width ≡ Err s → is_range_fault s ≡ true
five_faults r env width s e =
    let all : RangeFaults (range_of r env width) =
    with_int_faults _ _ (faults_of r.first env) (λ a. with_step_faults r.step env _ (λ t. with_int_faults _ _ (faults_of r.last env) (λ b. allowed_faults width a t b _))) in
    all.known s e

-- ---- kinds

record Differ (r : Kinded) : Type 0 where
  only : (s : TypeStop) → r ≡ Err s → s ≡ Differs

kind_differs : (x : ValueKind) → Differ (Ok x)
kind_differs x = record { only = λ s e. absurd (cc) }

differs_differ : Differ (Err Differs)
differs_differ = record { only = λ s e. (cc) }

kind_then : (r : Kinded) (f : ValueKind → Kinded) → Differ r → ((x : ValueKind) → Differ (f x)) → Differ (kn.and_then r f)
kind_then (Ok x) f h k = k x
kind_then (Err s) f h k = h

kind_if_differ : (b : Bool) (x : ValueKind) → Differ (kind_if b x)
kind_if_differ true x = kind_differs x
kind_if_differ false x = differs_differ

kind_choice : (b : Bool) (r s : Kinded) → Differ r → Differ s → Differ (if b then r else s)
kind_choice true r s h k = h
kind_choice false r s h k = k

literal_differ : (v : Value) → Differ (kn.literal_kind v)
literal_differ (Int n) = kind_differs _
literal_differ (BoolV b) = kind_differs _
literal_differ (Text t) = kind_differs _
literal_differ _ = differs_differ

known_differ : (o : Option ValueKind) → Differ (kn.known o)
known_differ (Some x) = kind_differs x
known_differ None = differs_differ

two_differ : (o : Op) (x y : ValueKind) → Differ (kn.two_kind o x y)
two_differ op.Join x y = kind_if_differ _ _
two_differ op.Eq x y = kind_if_differ _ _
two_differ op.Ne x y = kind_if_differ _ _
two_differ op.Lt x y = kind_if_differ _ _
two_differ op.Le x y = kind_if_differ _ _
two_differ op.Gt x y = kind_if_differ _ _
two_differ op.Ge x y = kind_if_differ _ _
two_differ op.And x y = kind_if_differ _ _
two_differ op.Or x y = kind_if_differ _ _
two_differ _ x y = kind_if_differ _ _

call_differ : (w : Word) (x : ValueKind) → Differ (kn.call_kind w x)
call_differ word.Abs x = kind_if_differ _ _
call_differ word.Len x = kind_if_differ _ _
call_differ word.Int x = kind_if_differ _ _
call_differ word.TryInt x = kind_if_differ _ _
call_differ word.Text x = kind_if_differ _ _

abbrev OnlyDiffers : Expr → Type 0
OnlyDiffers x = (names : Kinds) → Differ (kind_of x names)

abbrev Kindly : Type 0
Kindly = (x : Expr) × OnlyDiffers x

abbrev plain : Kindly → Expr
plain s = s.0

parts_differ : (ss : List Kindly) (done : List ValueKind) (names : Kinds) → Differ (kn.part_kinds done (map kind_of (map plain ss)) names)
parts_differ [] done names = kind_if_differ _ _
parts_differ (s ∷ ss) done names = kind_then _ _ (s.1 names) (λ x. kind_choice (is_maybe x) _ _ differs_differ (parts_differ ss (done ++ x ∷ []) names))

other_differ : (o : Option Kindly) (x : ValueKind) (names : Kinds) → Differ (kn.other_kind x (option_map kind_of (option_map plain o)) names)
other_differ (Some s) x names = kind_then _ _ (s.1 names) (λ y. kind_if_differ _ _)
other_differ None x names = kind_differs _

layer_differ : (y : Expr-F Kindly) (names : Kinds) → Differ (kind_step (map-Expr Expr Typing kind_of (map-Expr Kindly Expr plain y)) names)
layer_differ (e.Lit v) names = literal_differ v
layer_differ (e.Name n) names = known_differ _
layer_differ e.Place names = kind_differs _
layer_differ (e.Neg s) names = kind_then _ _ (s.1 names) (λ x. kind_if_differ _ _)
layer_differ (e.Not s) names = kind_then _ _ (s.1 names) (λ x. kind_if_differ _ _)
layer_differ (e.Two o s t) names = kind_then _ _ (s.1 names) (λ x. kind_then _ _ (t.1 names) (λ y. two_differ o x y))
layer_differ (e.Call w s) names = kind_then _ _ (s.1 names) (λ x. call_differ w x)
layer_differ (e.If t s None) names =
    kind_then _ _ (t.1 names) (λ x. kind_choice (is_bool x) _ _ (kind_then _ _ (s.1 names) (λ y. other_differ None y names)) differs_differ)
layer_differ (e.If t s (Some o)) names =
    kind_then _ _ (t.1 names) (λ x. kind_choice (is_bool x) _ _ (kind_then _ _ (s.1 names) (λ y. other_differ (Some o) y names)) differs_differ)
layer_differ (e.Tuple ss) names = parts_differ ss [] names

all_differ : (x : Expr) → OnlyDiffers x
all_differ = ind-Expr OnlyDiffers (λ x y is names.
    let v = ap (λ f. f names) (fold-roll-Expr Typing kind_step x) in
    let layer = subst (λ w. Differ (kind_step (map-Expr Expr Typing kind_of w) names)) is (layer_differ y names) in
    subst Differ (sym v) layer)

pub differs_only : (x : Expr) (names : Kinds) (s : TypeStop) → kind_of x names ≡ Err s → s ≡ Differs
differs_only x names s e = (all_differ x names).only s e
