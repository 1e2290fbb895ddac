-- Names that may differ, bindings that agree on all others, and what such bindings give a line that reads none that may differ.
use Rattle.std.proofs.Common.{◌≡◌, ℕ, Bool, true, false, cond, List, [], ◌∷◌, Option, Some, refl, ap, sym, ◌∙◌}
use Rattle.std.specs.Prelude.{◌||◌}
use Rattle.std.specs.Str.{bytes_eq}
use Rattle.std.specs.FinMap.{get, insert, get-insert}
use Rattle.std.proofs.lemmas.Cmp.{nat_list_cmp_total}
use Rattle.loop_data.specs.ValueParts.{parts_of}
use Rattle.loop_data.specs.declared.value.Value.{Value}
use Rattle.loop_data.specs.declared.expr.Expr.{Expr}
use Rattle.loop_data.specs.declared.tower.TowerExpr.{TowerExpr}
use Rattle.loop_values.specs.Bindings.{Bindings, place_name}
use Rattle.loop_values.specs.NamesIn.{SameAt, names_read}
use Rattle.loop_values.specs.Values.{value_of}
use Rattle.loop_values.proofs.EntryLemmas.{at_text, same_self}
use Rattle.loop_values.proofs.NamesLemmas.{settled}
use Rattle.tower_inputs.specs.Inputs.{input_of}
use Rattle.tower_inputs.specs.Towers.{names_read_in_tower}
use Rattle.tower_inputs.proofs.InputNames.{input_settled}
use Rattle.legality_rules.specs.Scopes.{is_in}
use Rattle.loop_meaning.specs.Statements.{with_parts, with_pattern}
use Rattle.carries_nothing.specs.Blocks.{Agree, Doubt}
use Rattle.carries_nothing.proofs.ReadNames.{asked, asked_tower}

-- none of the names may differ
abbrev pub IsSure : Doubt → List (List ℕ) → Type 0
IsSure may names = (n : List ℕ) → may n ≡ true → is_in names n ≡ false

-- ---- truth values

pub first_false : (a b : Bool) → (a || b) ≡ false → a ≡ false
first_false true b e = e
first_false false b e = refl

pub second_false : (a b : Bool) → (a || b) ≡ false → b ≡ false
second_false true b e = absurd (cc)
second_false false b e = e

-- ---- one more binding

pub get_inserted : (env : Bindings) (m n : List ℕ) (v : Value) → get (insert env m v) n ≡ cond (bytes_eq n m) (Some v) (get env n)
get_inserted env m n v = get-insert nat_list_cmp_total env m v n ∙ ap (λ b. cond b (Some v) (get env n)) (at_text n m)

cond_same : (b : Bool) (v : Value) (x y : Option Value) → (b ≡ false → x ≡ y) → cond b (Some v) x ≡ cond b (Some v) y
cond_same true v x y h = refl
cond_same false v x y h = h refl

-- a name is the same in both after it was set in both
pub set_same : (e f : Bindings) (m n : List ℕ) (v : Value) → (bytes_eq n m ≡ false → get e n ≡ get f n) → get (insert e m v) n ≡ get (insert f m v) n
set_same e f m n v h = get_inserted e m n v ∙ cond_same (bytes_eq n m) v (get e n) (get f n) h ∙ sym (get_inserted f m n v)

pub insert_agrees : (may : Doubt) (e f : Bindings) (m : List ℕ) (v : Value) → Agree may e f → Agree may (insert e m v) (insert f m v)
insert_agrees may e f m v agree n sure = set_same e f m n v (λ _. agree n sure)

parts_agree : (may : Doubt) (ns : List (List ℕ)) (vs : List Value) (e f : Bindings) → Agree may e f → Agree may (with_parts e ns vs) (with_parts f ns vs)
parts_agree may [] vs e f agree = agree
parts_agree may (m ∷ ms) [] e f agree = agree
parts_agree may (m ∷ ms) (v ∷ vs) e f agree = parts_agree may ms vs (insert e m v) (insert f m v) (insert_agrees may e f m v agree)

pub pattern_agrees : (may : Doubt) (ns : List (List ℕ)) (v : Value) (e f : Bindings) → Agree may e f → Agree may (with_pattern e ns v) (with_pattern f ns v)
pattern_agrees may [] v e f agree = agree
pattern_agrees may (m ∷ []) v e f agree = insert_agrees may e f m v agree
pattern_agrees may (m ∷ k ∷ ms) v e f agree = parts_agree may (m ∷ k ∷ ms) (parts_of v) e f agree

-- ---- what is read

not_in_itself : (m : List ℕ) (names : List (List ℕ)) → is_in (m ∷ names) m ≡ false → ⊥
not_in_itself m names e = absurd (let s = same_self m in let g = first_false (bytes_eq m m) (is_in names m) e in cc)

sure_head : (may : Doubt) (m : List ℕ) (names : List (List ℕ)) (b : Bool) → may m ≡ b → IsSure may (m ∷ names) → may m ≡ false
sure_head may m names true is sure = absurd (not_in_itself m names (sure m is))
sure_head may m names false is sure = is

pub same_at : (may : Doubt) (names : List (List ℕ)) (e f : Bindings) → Agree may e f → IsSure may names → SameAt (get e) (get f) names
same_at may [] e f agree sure = tt
same_at may (m ∷ names) e f agree sure =
    (agree m (sure_head may m names (may m) refl sure), same_at may names e f agree (λ n h. second_false (bytes_eq n m) (is_in names n) (sure n h)))

pub value_same : (may : Doubt) (x : Expr) (e f : Bindings) → may place_name ≡ false → Agree may e f → IsSure may (names_read x) → value_of x (get e) ≡ value_of x (get f)
value_same may x e f placed agree sure = settled x (get e) (get f) (asked x (get e) (get f) (agree place_name placed) (same_at may (names_read x) e f agree sure))

pub input_same : (may : Doubt) (x : TowerExpr) (e f : Bindings) → may place_name ≡ false → Agree may e f → IsSure may (names_read_in_tower x) → input_of x (get e) ≡ input_of x (get f)
input_same may x e f placed agree sure =
    input_settled x (get e) (get f) (asked_tower x (get e) (get f) (agree place_name placed) (same_at may (names_read_in_tower x) e f agree sure))
