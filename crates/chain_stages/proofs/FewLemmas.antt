-- How many pairs leave a chain for one element: at most 1,000,000 for each `@reduce` line of its stages.
use Rattle.std.proofs.Common.{◌≡◌, ℕ, zero, suc, ◌+◌, ◌*◌, ◌<◌, ◌≤◌, Bool, true, false, List, [], ◌∷◌, length, map, Ok, Err, ◌⊎◌, inl, inr, refl, sym, ap, subst, ◌∙◌, append-nil, length-append, arith}
use Rattle.std.specs.Prelude.{◌&&◌, ℤ, IfOk}
use Rattle.std.specs.FinMap.{get}
use Rattle.std.proofs.Math.Nat.{mul-le-mul, mul-le-mul_left, mul-le-mul_right, le_of_mul-le-mul_left}
use Rattle.loop_data.specs.declared.value.Value.{Value}
use Rattle.loop_data.specs.declared.value.Value.TheVariants.{Nothing}
use Rattle.loop_values.specs.InnerItems.{Ranged, inner_limit, items_of, range_of}
use Rattle.loop_values.specs.Operations.{Outcome}
use Rattle.loop_values.specs.Values.{value_of}
use Rattle.loop_meaning.specs.declared.steps.BodyRun.{BodyRun}
use Rattle.loop_meaning.specs.declared.steps.Flow.{Flow}
use Rattle.loop_meaning.specs.declared.steps.Flow.TheVariants as flow
use Rattle.loop_meaning.specs.Statements.{block_run, statement_run}
use Rattle.loop_meaning.proofs.EmitLemmas.{block_emits}
use Rattle.loop_meaning.proofs.HeadLemmas.{length-items}
use Rattle.chain_stages.specs.declared.step_end.StepEnd.{StepEnd}
use Rattle.chain_stages.specs.declared.step_end.StepEnd.TheVariants.{Going, Ended, Fault}
use Rattle.chain_stages.specs.declared.element.Element.{Element}
use Rattle.chain_stages.specs.declared.stages.Doing.{Doing}
use Rattle.chain_stages.specs.declared.stages.Doing.TheVariants.{Bind, Inner, Block, Rest}
use Rattle.chain_stages.specs.declared.stages.Source.{Source}
use Rattle.chain_stages.specs.declared.stages.Source.TheVariants.{Item, Of}
use Rattle.chain_stages.specs.declared.stages.Stage.{Stage}
use Rattle.chain_stages.specs.declared.stages.Stage.TheVariants.{Map, MapSplat, Filter, KeepSomething, Cat, ReduceIf}
use Rattle.chain_stages.specs.Cats.{cats_follow, is_inner}
use Rattle.chain_stages.specs.Chains.{after_end, chain_output, followed_by}
use Rattle.chain_stages.specs.Elements.{beginning, binding, emitted_by, run_of, without_pairs}
use Rattle.chain_stages.specs.Reduces.{all_reduces, reduces}
use Rattle.chain_stages.specs.Laws.{FewLeave}
use Rattle.chain_stages.specs.Stages.{Answer, Output, after_flow, alone, filtered, kept, mapped, map_splatted, nothing, output, passes, reduced_if, spread, through, with_range, with_value}
use Rattle.chain_stages.proofs.RangeLemmas.{range_room}
use Rattle.chain_stages.proofs.ChainLemmas.{chain_alone, chain_end, chain_nothing, chain_two, emitted-append}

-- the element's width is that of at most 1,000,000 body runs, and so are those that the inner range makes where it was just set
record Wide (after_inner : Bool) (e : Element) : Type 0 where
  pub least : 1 ≤ e.width
  pub most : e.width ≤ inner_limit
  pub room : after_inner ≡ true → e.width * e.inner.count ≤ inner_limit

-- ---- a stage other than `Cat`

-- an element that a stage makes of one: of the same width, with at most so many pairs more
record Near (after_inner : Bool) (more : ℕ) (e y : Element) : Type 0 where
  pub width : y.width ≡ e.width
  pub pairs : length y.emitted ≤ length e.emitted + more
  pub wide : Wide after_inner y

-- none, or one near the one that came
abbrev AtMostOne : Bool → ℕ → Element → Output → Type 0
AtMostOne after_inner more e out = (out.elements ≡ []) ⊎ ((y : Element) × (out.elements ≡ y ∷ []) × Near after_inner more e y)

plain : (after_inner : Bool) (e : Element) → Wide after_inner e → Wide false e
plain after_inner e w = record { least = w.least; most = w.most; room = λ no. absurd (cc (no)) }

at_value : (after_inner : Bool) (more line : ℕ) (e : Element) (o : Outcome) (next : Value → Output) → ((v : Value) → AtMostOne after_inner more e (next v)) → AtMostOne after_inner more e (with_value line o next)
at_value after_inner more line e (Ok v) next h = h v
at_value after_inner more line e (Err stop) next h = inl refl

near_plain : (more : ℕ) (e y : Element) → Wide false e → y.width ≡ e.width → length y.emitted ≤ length e.emitted + more → Near false more e y
near_plain more e y w is few = record {
  width = is;
  pairs = few;
  wide = record { least = subst (λ n. 1 ≤ n) (sym is) w.least; most = subst (λ n. n ≤ inner_limit) (sym is) w.most; room = λ no. absurd (cc (no)) };
}

at_range : (line : ℕ) (e : Element) (r : Ranged) → Wide false e → IfOk r (λ range. e.width * range.count ≤ inner_limit) → AtMostOne true 0 e (with_range line r e)
at_range line e (Ok range) w room = inr (
  record e { inner = range },
  refl,
  record {
    width = refl;
    pairs = omega arith;
    wide = record { least = w.least; most = w.most; room = λ _. room };
  },
)
at_range line e (Err stop) w room = inl refl

at_flow : (more : ℕ) (e : Element) (how : Flow) (run : BodyRun) → Wide false e → length run.emitted ≤ length e.emitted + more → AtMostOne false more e (after_flow how run e)
at_flow more e flow.Going run w few = inr (_, refl, near_plain more e _ w refl few)
at_flow more e flow.Continued run w few = inr (_, refl, near_plain more e _ w refl few)
at_flow more e (flow.Broke line) run w few = inr (_, refl, near_plain more e _ w refl few)
at_flow more e (flow.Faulted line kind) run w few = inl refl

at_map : (line : ℕ) (action : Doing) (e : Element) → Wide false e → AtMostOne (is_inner (Map line action)) (reduces (Map line action)) e (mapped line action e)
at_map line (Bind name x) e w = at_value false 0 line e (value_of x (get e.env)) (λ v. alone (binding name v e)) (λ v. inr (_, refl, near_plain 0 e _ w refl (omega arith)))
at_map line (Inner name r) e w = at_range line e (range_of r (get e.env) e.width) w (range_room e.width r (get e.env))
at_map line (Block x) e w = at_flow _ e (statement_run x (run_of e)).flow (without_pairs e (statement_run x (run_of e))) w (omega arith)
at_map line (Rest xs) e w = at_flow _ e (block_run xs (run_of e)).flow (block_run xs (run_of e)) w ((block_emits xs).most (run_of e))

at_splat : (line : ℕ) (names : List (List ℕ)) (source : Source) (e : Element) → Wide false e → AtMostOne false 0 e (map_splatted line names source e)
at_splat line names Item e w = inr (_, refl, near_plain 0 e _ w refl (omega arith))
at_splat line names (Of x) e w = at_value false 0 line e (value_of x (get e.env)) _ (λ v. inr (_, refl, near_plain 0 e _ w refl (omega arith)))

at_filter : (line : ℕ) (a : Answer) (e : Element) → Wide false e → AtMostOne false 0 e (filtered line a e)
at_filter line (Ok true) e w = inr (e, refl, near_plain 0 e e w refl (omega arith))
at_filter line (Ok false) e w = inl refl
at_filter line (Err stop) e w = inl refl

at_end : (line : ℕ) (a : Answer) (e : Element) → Wide false e → AtMostOne false 0 e (reduced_if line a e)
at_end line (Ok true) e w = inr (e, refl, near_plain 0 e e w refl (omega arith))
at_end line (Ok false) e w = inr (e, refl, near_plain 0 e e w refl (omega arith))
at_end line (Err stop) e w = inl refl

at_kept : (name : List ℕ) (e : Element) (v : Value) → Wide false e → AtMostOne false 0 e (kept name e v)
at_kept name e Nothing w = inl refl
at_kept name e v w = inr (_, refl, near_plain 0 e _ w refl (omega arith))

-- ---- chains

abbrev pairs_of : Output → ℕ
pairs_of out = length (emitted_by out.elements)

abbrev Costs : List Stage → Element → Type 0
Costs stages e = pairs_of (chain_output stages (alone e)) * e.width ≤ inner_limit * (length e.emitted + all_reduces stages)

both_true : (a b : Bool) → (a && b) ≡ true → (a ≡ true) × (b ≡ true)
both_true true b e = (refl, e)
both_true false b e = absurd (cc (e))

same_elements : (first : Output) (last end : StepEnd) → (after_end end first (nothing last)).elements ≡ first.elements
same_elements first last Going = append-nil first.elements
same_elements first last (Ended line) = refl
same_elements first last (Fault line kind) = refl

-- what a stage that lets at most one element through costs
one_costs : (rest : List Stage) (after_inner : Bool) (more : ℕ) (e : Element) (out : Output) → ((y : Element) → Wide after_inner y → Costs rest y) → AtMostOne after_inner more e out →
    pairs_of (chain_output rest out) * e.width ≤ inner_limit * (length e.emitted + (more + all_reduces rest))
one_costs rest after_inner more e out h (inl none) =
    let is : chain_output rest out ≡ nothing out.end = ap (λ es. chain_output rest (output es out.end)) none ∙ chain_nothing rest out.end in
    let zero_pairs : pairs_of (chain_output rest out) ≡ 0 = ap pairs_of is in
    subst (λ n. n * e.width ≤ inner_limit * (length e.emitted + (more + all_reduces rest))) (sym zero_pairs) (omega arith)
one_costs rest after_inner more e out h (inr (y, one, near)) =
    let alone_y = chain_output rest (alone y) in
    let is : (chain_output rest out).elements ≡ alone_y.elements =
    ap (λ (o : Output). o.elements) (ap (λ es. chain_output rest (output es out.end)) one ∙ chain_end rest (y ∷ []) out.end) ∙ same_elements alone_y out.end alone_y.end in
    let pairs : pairs_of (chain_output rest out) ≡ pairs_of alone_y = ap (λ es. length (emitted_by es)) is in
    let cost : pairs_of alone_y * y.width ≤ inner_limit * (length y.emitted + all_reduces rest) = h y near.wide in
    let cost' : pairs_of (chain_output rest out) * e.width ≤ inner_limit * (length y.emitted + all_reduces rest) =
    subst (λ n. n * e.width ≤ inner_limit * (length y.emitted + all_reduces rest)) (sym pairs) (subst (λ w. pairs_of alone_y * w ≤ inner_limit * (length y.emitted + all_reduces rest)) near.width cost) in
    omega (arith, cost', near.pairs)

front : (first more : Output) (end : StepEnd) → pairs_of (after_end end first more) ≤ pairs_of first + pairs_of more
front first more Going = omega (arith, ap length (emitted-append first.elements more.elements), length-append (emitted_by first.elements) (emitted_by more.elements))
front first more (Ended line) = omega arith
front first more (Fault line kind) = omega arith

-- the elements for items, each of which costs so much
items_cost : (rest : List Stage) (name : List ℕ) (e : Element) (wide bound : ℕ) → ((item : ℤ) → pairs_of (chain_output rest (alone (spread name e item))) * wide ≤ bound) → (items : List ℤ) →
    pairs_of (chain_output rest (output (map (spread name e) items) Going)) * wide ≤ length items * bound
items_cost rest name e wide bound h [] = subst (λ (o : Output). pairs_of o * wide ≤ 0 * bound) (sym (chain_nothing rest Going)) (omega arith)
items_cost rest name e wide bound h (x ∷ xs) =
    let first = chain_output rest (alone (spread name e x)) in
    let more = chain_output rest (output (map (spread name e) xs) Going) in
    let is : chain_output rest (output (map (spread name e) (x ∷ xs)) Going) ≡ followed_by first more = chain_two rest (spread name e x ∷ []) (map (spread name e) xs) Going in
    let few : pairs_of (followed_by first more) ≤ pairs_of first + pairs_of more = front first more first.end in
    let scaled : pairs_of (followed_by first more) * wide ≤ (pairs_of first + pairs_of more) * wide = mul-le-mul_right wide few in
    let one = h x in
    let others = items_cost rest name e wide bound h xs in
    subst (λ (o : Output). pairs_of o * wide ≤ suc (length xs) * bound) (sym is) (omega (arith, scaled, one, others))

cat_costs : (rest : List Stage) (name : List ℕ) (e : Element) (n : ℕ) → n ≡ e.inner.count → (1 ≤ e.inner.count → (item : ℤ) → Costs rest (spread name e item)) →
    pairs_of (chain_output rest (output (map (spread name e) (items_of e.inner)) Going)) * e.width ≤ inner_limit * (length e.emitted + all_reduces rest)
cat_costs rest name e zero is h =
    none (items_of e.inner) (length-items e.inner ∙ sym is)
  where
    none : (items : List ℤ) → length items ≡ 0 → pairs_of (chain_output rest (output (map (spread name e) items) Going)) * e.width ≤ inner_limit * (length e.emitted + all_reduces rest)
    none [] z = subst (λ (o : Output). pairs_of o * e.width ≤ inner_limit * (length e.emitted + all_reduces rest)) (sym (chain_nothing rest Going)) (omega arith)
    none (x ∷ xs) z = absurd (omega (arith, z))
cat_costs rest name e (suc n) is h =
    let bound = inner_limit * (length e.emitted + all_reduces rest) in
    let all : pairs_of (chain_output rest (output (map (spread name e) (items_of e.inner)) Going)) * (e.width * e.inner.count) ≤ length (items_of e.inner) * bound =
    items_cost rest name e (e.width * e.inner.count) bound (h (omega (arith, is))) (items_of e.inner) in
    let counted : length (items_of e.inner) ≡ e.inner.count = length-items e.inner in
    let some : 0 < e.inner.count = omega (arith, is) in
    let whole = pairs_of (chain_output rest (output (map (spread name e) (items_of e.inner)) Going)) in
    let scaled : e.inner.count * (whole * e.width) ≤ e.inner.count * bound = subst (λ m. e.inner.count * (whole * e.width) ≤ m * bound) counted (omega (arith, all)) in
    le_of_mul-le-mul_left scaled some

wide_each : (name : List ℕ) (e : Element) → 1 ≤ e.inner.count → e.width * e.inner.count ≤ inner_limit → 1 ≤ e.width → (item : ℤ) → Wide false (spread name e item)
wide_each name e some most least item = record { least = mul-le-mul least some; most = most; room = λ no. absurd (cc (no)) }

-- a stage before stages of which each costs so much
stage_costs : (stage : Stage) (rest : List Stage) (after_inner : Bool) (e : Element) → cats_follow after_inner (stage ∷ rest) ≡ true → Wide after_inner e →
    ((b : Bool) → cats_follow b rest ≡ true → (y : Element) → Wide b y → Costs rest y) →
    pairs_of (chain_output rest (through stage e)) * e.width ≤ inner_limit * (length e.emitted + all_reduces (stage ∷ rest))
stage_costs (Map line action) rest after_inner e f w others =
    one_costs rest (is_inner (Map line action)) (reduces (Map line action)) e (mapped line action e) (others (is_inner (Map line action)) f) (at_map line action e (plain after_inner e w))
stage_costs (MapSplat line names source) rest after_inner e f w others =
    one_costs rest false 0 e (map_splatted line names source e) (others false f) (at_splat line names source e (plain after_inner e w))
stage_costs (Filter line t) rest after_inner e f w others =
    one_costs rest false 0 e (filtered line (passes t e) e) (others false f) (at_filter line (passes t e) e (plain after_inner e w))
stage_costs (KeepSomething line name x) rest after_inner e f w others =
    one_costs rest false 0 e (with_value line (value_of x (get e.env)) (kept name e)) (others false f) (at_value false 0 line e (value_of x (get e.env)) (kept name e) (λ v. at_kept name e v (plain after_inner e w)))
stage_costs (ReduceIf line t) rest after_inner e f w others =
    one_costs rest false 0 e (reduced_if line (passes t e) e) (others false f) (at_end line (passes t e) e (plain after_inner e w))
stage_costs (Cat line name) rest after_inner e f w others =
    let parts = both_true after_inner (cats_follow false rest) f in
    let cost = cat_costs rest name e e.inner.count refl (λ some item. others false parts.1 (spread name e item) (wide_each name e some (w.room parts.0) w.least item)) in
    subst (λ n. pairs_of (chain_output rest (output (map (spread name e) (items_of e.inner)) Going)) * e.width ≤ inner_limit * (length e.emitted + n)) none_more cost
  where
    none_more : all_reduces rest ≡ 0 + all_reduces rest
    none_more = omega arith

chain_costs : (stages : List Stage) (after_inner : Bool) (e : Element) → cats_follow after_inner stages ≡ true → Wide after_inner e → Costs stages e
chain_costs [] after_inner e follow w =
    let scaled : length e.emitted * e.width ≤ length e.emitted * inner_limit = mul-le-mul_left (length e.emitted) w.most in
    subst (λ xs. length xs * e.width ≤ inner_limit * (length e.emitted + 0)) (sym (append-nil e.emitted)) (omega (arith, scaled))
chain_costs (stage ∷ rest) after_inner e follow w =
    subst (λ (o : Output). pairs_of o * e.width ≤ inner_limit * (length e.emitted + all_reduces (stage ∷ rest))) (sym (chain_alone stage rest e))
    (stage_costs stage rest after_inner e follow w (λ b f y v. chain_costs rest b y f v))

pub few_leave : FewLeave
few_leave stages env follow few =
    let e = beginning env in
    let cost = chain_costs stages false e follow (record { least = omega arith; most = omega arith; room = λ no. absurd (cc (no)) }) in
    omega (arith, cost, few)
