-- What sound tokens spell, with no number too wide, is well formed.
use Rattle.std.proofs.Common.{◌≡◌, ℕ, zero, suc, ◌≤◌, ◌^◌, nat_lt, nat_le, Bool, true, false, ◌&&◌, ◌||◌, List, length, map, Some, None, pos, neg_ℤ, refl, ap, sym, ◌∙◌, subst, rules, arith}
use Rattle.std.specs.List.{list_all}
use Rattle.std.specs.Str.{is_utf8}
use Rattle.std.proofs.lemmas.Bool.{and_from, le-leb}
use Rattle.std.proofs.lemmas.Bool.Decides.{nat_tests}
use Rattle.std.proofs.lemmas.List.{length-map}
use Rattle.std.proofs.lemmas.Str.{is_utf8-from_IsUtf8}
use Rattle.loop_tokens.specs.declared.token.Token.{Token}
use Rattle.loop_tokens.specs.declared.token.Token.TheVariants as tok
use Rattle.loop_tokens.specs.declared.keyword.Keyword.{Keyword}
use Rattle.loop_tokens.specs.declared.keyword.Keyword.TheVariants as kw
use Rattle.loop_tokens.specs.Literals.{number_of, text_of}
use Rattle.loop_data.specs.declared.value.Value.{Value}
use Rattle.loop_data.specs.declared.value.Value.TheVariants as val
use Rattle.loop_data.specs.declared.expr.Op.{Op}
use Rattle.loop_data.specs.declared.expr.Word.{Word}
use Rattle.loop_data.specs.declared.expr.Expr.{Expr, the_lemmas as expr_lemmas}
use Rattle.loop_data.specs.declared.expr.Expr.TheVariants as e
use Rattle.loop_data.specs.declared.expr.RangeExpr.{RangeExpr}
use Rattle.loop_data.specs.declared.tower.Kind.{Kind, the_lemmas as kind_lemmas}
use Rattle.loop_data.specs.declared.tower.Kind.TheVariants as kind
use Rattle.loop_data.specs.declared.tower.TowerExpr.{TowerExpr, the_lemmas as tower_lemmas}
use Rattle.loop_data.specs.declared.tower.TowerExpr.TheVariants as tower
use Rattle.loop_data.specs.declared.head.Axis.{Axis, the_lemmas as axis_lemmas}
use Rattle.loop_data.specs.declared.head.Axis.TheVariants as axis
use Rattle.loop_data.specs.declared.head.Inner.{Inner}
use Rattle.loop_exprs.specs.declared.level.Level.{Level}
use Rattle.loop_exprs.specs.Operations.{constant_of, is_wide, positive_value, is_wide_negative, negative_value}
use Rattle.loop_exprs.specs.Grammar.{Spells, SpellsParts}
use Rattle.loop_grammar.specs.declared.line.Line.{Line}
use Rattle.loop_grammar.specs.LineForms.{SpellsLiteral, SpellsNames, SpellsPattern, SpellsRange, SpellsAxis, SpellsAxes, SpellsFactor, SpellsFactors, SpellsHead, SpellsInner, leaf_kind, SpellsTower, SpellsLine}
use Rattle.loop_grammar.specs.WellFormed.{is_name, is_narrow, is_literal, are_several, all_hold, is_expr, is_range, is_leaf, is_tower, is_pattern, is_plain, is_factor, is_head, is_inner, is_form}
use Rattle.loop_layout.proofs.ReadUtf8.{meaning_utf8}
use Rattle.loop_writer.proofs.Numbers.{positive_there, negative_there}
use Rattle.loop_writer.proofs.Expressions.{left_false, right_false, some_same}
use Rattle.loop_writer.proofs.Tidy.{IsSound, AllSound}
use Rattle.loop_syntax.proofs.WellNamed.{name_is}

-- the test holds, and the rest is sound
abbrev pub Passes : Bool → List Token → Type 0
Passes b rest = (b ≡ true) × AllSound rest

both : (a b : Bool) → a ≡ true → b ≡ true → (a && b) ≡ true
both a b h g = and_from a b h g

-- ---- literals

narrow_positive : (n : ℕ) → is_wide n ≡ false → is_narrow (pos n) ≡ true
narrow_positive n h = grind (arith, nat_tests)

narrow_suc : (n : ℕ) → is_wide_negative (suc n) ≡ false → nat_lt n (2 ^ 63) ≡ true
narrow_suc n h = grind (arith, nat_tests)

narrow_below : (n : ℕ) → is_wide_negative n ≡ false → is_narrow (neg_ℤ (pos n)) ≡ true
narrow_below zero h = refl
narrow_below (suc n) h = narrow_suc n h

positive_known : (n : ℕ) → is_wide n ≡ false → is_narrow (positive_value n) ≡ true
positive_known n h = ap is_narrow (positive_there n h) ∙ narrow_positive n h

negative_known : (n : ℕ) → is_wide_negative n ≡ false → is_narrow (negative_value n) ≡ true
negative_known n h = ap is_narrow (negative_there n h) ∙ narrow_below n h

text_known : (raw : List ℕ) → IsSound (tok.Text raw) → is_utf8 (text_of raw) ≡ true
text_known raw h = is_utf8-from_IsUtf8 (text_of raw) (meaning_utf8 raw h.1)

literal_known : {v : Value} {u : Bool} {ts rest : List Token} → SpellsLiteral v u ts rest → u ≡ false → AllSound ts → Passes (is_literal v) rest
literal_known (SpellsLiteral.number {n = n}) h r = (positive_known (number_of n) h, r.1)
literal_known (SpellsLiteral.negative {n = n}) h r = (negative_known (number_of n) h, r.1.1)
literal_known (SpellsLiteral.text {raw = raw}) h r = (text_known raw r.0, r.1)
literal_known SpellsLiteral.yes h r = (refl, r.1)
literal_known SpellsLiteral.no h r = (refl, r.1)

-- ---- the test of each form

lit_is : (v : Value) → is_literal v ≡ is_expr (e.Lit v)
lit_is v = search (rules, expr_lemmas)

name_expr : (n : List ℕ) → is_name n ≡ is_expr (e.Name n)
name_expr n = search (rules, expr_lemmas)

place_is : true ≡ is_expr e.Place
place_is = search (rules, expr_lemmas)

neg_is : (x : Expr) → is_expr x ≡ is_expr (e.Neg x)
neg_is x = search (rules, expr_lemmas)

not_is : (x : Expr) → is_expr x ≡ is_expr (e.Not x)
not_is x = search (rules, expr_lemmas)

two_is : (o : Op) (x y : Expr) → (is_expr x && is_expr y) ≡ is_expr (e.Two o x y)
two_is o x y = search (rules, expr_lemmas)

call_is : (f : Word) (x : Expr) → is_expr x ≡ is_expr (e.Call f x)
call_is f x = search (rules, expr_lemmas)

choice_is : (c x y : Expr) → (is_expr c && (is_expr x && is_expr y)) ≡ is_expr (e.If c x (Some y))
choice_is c x y = search (rules, expr_lemmas)

nothing_is : (c x : Expr) → (is_expr c && (is_expr x && true)) ≡ is_expr (e.If c x None)
nothing_is c x = search (rules, expr_lemmas)

tuple_is : (xs : List Expr) → (are_several (map is_expr xs) && all_hold (map is_expr xs)) ≡ is_expr (e.Tuple xs)
tuple_is xs = search (rules, expr_lemmas)

constant_known : (k : Keyword) (x : Expr) → constant_of k ≡ Some x → is_expr x ≡ true
constant_known kw.True x h = subst (λ y. is_expr y ≡ true) (some_same h) (sym (lit_is (val.Bool true)))
constant_known kw.False x h = subst (λ y. is_expr y ≡ true) (some_same h) (sym (lit_is (val.Bool false)))
constant_known kw.Place x h = subst (λ y. is_expr y ≡ true) (some_same h) (sym place_is)
constant_known _ x h = absurd (cc)

-- two to four of them
several_known : {A : Type 0} (xs : List A) → 2 ≤ length xs → length xs ≤ 4 → are_several xs ≡ true
several_known xs low high = both (nat_le 2 (length xs)) (nat_le (length xs) 4) (le-leb 2 (length xs) low) (le-leb (length xs) 4 high)

mutual
  expr_known : {lv : Level} {x : Expr} {u : Bool} {ts rest : List Token} → Spells lv x u ts rest → u ≡ false → AllSound ts → Passes (is_expr x) rest
  expr_known (Spells.tight d) h r = expr_known d h r
  expr_known (Spells.two {o = o} {a = a} {b = b} {u = u} {v = v} g is d f) h r =
      let p = expr_known d (left_false u v h) r in
      let q = expr_known f (right_false u v h) p.1.1 in
      (sym (two_is o a b) ∙ both (is_expr a) (is_expr b) p.0 q.0, q.1)
  expr_known (Spells.compare {o = o} {a = a} {b = b} {u = u} {v = v} is d f) h r =
      let p = expr_known d (left_false u v h) r in
      let q = expr_known f (right_false u v h) p.1.1 in
      (sym (two_is o a b) ∙ both (is_expr a) (is_expr b) p.0 q.0, q.1)
  expr_known (Spells.not {x = x} d) h r = let p = expr_known d h r.1 in (sym (not_is x) ∙ p.0, p.1)
  expr_known (Spells.negative {n = n}) h r = (sym (lit_is (val.Int (negative_value (number_of n)))) ∙ negative_known (number_of n) h, r.1.1)
  expr_known (Spells.negate {x = x} free d) h r = let p = expr_known d h r.1 in (sym (neg_is x) ∙ p.0, p.1)
  expr_known (Spells.number {n = n}) h r = (sym (lit_is (val.Int (positive_value (number_of n)))) ∙ positive_known (number_of n) h, r.1)
  expr_known (Spells.text {raw = raw}) h r = (sym (lit_is (val.Text (text_of raw))) ∙ text_known raw r.0, r.1)
  expr_known (Spells.name {n = n}) h r = (sym (name_expr n) ∙ name_is n r.0, r.1)
  expr_known (Spells.constant {k = k} {x = x} is) h r = (constant_known k x is, r.1)
  expr_known (Spells.call {w = f} {x = x} is d) h r = let p = expr_known d h r.1.1 in (sym (call_is f x) ∙ p.0, p.1.1)
  expr_known (Spells.extreme {o = o} {a = a} {b = b} {u = u} {v = v} is d f) h r =
      let p = expr_known d (left_false u v h) r.1.1 in
      let q = expr_known f (right_false u v h) p.1.1 in
      (sym (two_is o a b) ∙ both (is_expr a) (is_expr b) p.0 q.0, q.1.1)
  expr_known (Spells.choice {c = c} {a = a} {b = b} {u = u} {v = v} {w = z} d f g) h r =
      let uv : (u || v) ≡ false = left_false (u || v) z h in
      let p = expr_known d (left_false u v uv) r.1 in
      let q = expr_known f (right_false u v uv) p.1.1 in
      let s = expr_known g (right_false (u || v) z h) q.1.1 in
      (sym (choice_is c a b) ∙ both (is_expr c) (is_expr a && is_expr b) p.0 (both (is_expr a) (is_expr b) q.0 s.0), s.1)
  expr_known (Spells.choice_some {c = c} {a = a} {u = u} {v = v} d f) h r =
      let p = expr_known d (left_false u v h) r.1 in
      let q = expr_known f (right_false u v h) p.1.1 in
      (sym (nothing_is c a) ∙ both (is_expr c) (is_expr a && true) p.0 (both (is_expr a) true q.0 refl), q.1.1.1)
  expr_known (Spells.group d) h r = let p = expr_known d h r.1 in (p.0, p.1.1)
  expr_known (Spells.tuple {xs = xs} low high m) h r =
      let p = parts_known m h r.1 in
      let size : length (map is_expr xs) ≡ length xs = length-map xs is_expr in
      (sym (tuple_is xs) ∙ both (are_several (map is_expr xs)) (all_hold (map is_expr xs)) (several_known (map is_expr xs) (omega (arith, size, low)) (omega (arith, size, high))) p.0, p.1.1)

  parts_known : {xs : List Expr} {u : Bool} {ts rest : List Token} → SpellsParts xs u ts rest → u ≡ false → AllSound ts → Passes (all_hold (map is_expr xs)) rest
  parts_known (SpellsParts.last {x = x} d) h r = let p = expr_known d h r in (both (is_expr x) true p.0 refl, p.1)
  parts_known (SpellsParts.more {x = x} {xs = xs} {u = u} {v = v} d m) h r =
      let p = expr_known d (left_false u v h) r in
      let q = parts_known m (right_false u v h) p.1.1 in
      (both (is_expr x) (all_hold (map is_expr xs)) p.0 q.0, q.1)

-- ---- patterns

names_known : {ns : List (List ℕ)} {ts rest : List Token} → SpellsNames ns ts rest → AllSound ts → Passes (list_all is_name ns) rest
names_known (SpellsNames.last {n = n}) r = (both (is_name n) true (name_is n r.0) refl, r.1)
names_known (SpellsNames.more {n = n} {ns = ns} d) r = let p = names_known d r.1.1 in (both (is_name n) (list_all is_name ns) (name_is n r.0) p.0, p.1)

pattern_known : {ns : List (List ℕ)} {ts rest : List Token} → SpellsPattern ns ts rest → AllSound ts → Passes (is_pattern ns) rest
pattern_known (SpellsPattern.one {n = n}) r = (both (is_name n) true (name_is n r.0) refl, r.1)
pattern_known (SpellsPattern.several {ns = ns} low high d) r =
    let p = names_known d r.1 in (
      both (nat_le 1 (length ns)) (nat_le (length ns) 4 && list_all is_name ns) (le-leb 1 (length ns) (omega (arith, low)))
          (both (nat_le (length ns) 4) (list_all is_name ns) (le-leb (length ns) 4 high) p.0),
      p.1.1,
    )

-- ---- ranges and axes

range_known : {x : RangeExpr} {u : Bool} {ts rest : List Token} → SpellsRange x u ts rest → u ≡ false → AllSound ts → Passes (is_range x) rest
range_known (SpellsRange.by_one {a = a} {b = b} {u = u} {v = v} d f) h r =
    let p = expr_known d (left_false u v h) r in
    let q = expr_known f (right_false u v h) p.1.1 in
    (both (is_expr a) (true && is_expr b) p.0 (both true (is_expr b) refl q.0), q.1)
range_known (SpellsRange.by_step {a = a} {s = s} {b = b} {u = u} {v = v} {w = z} d f g) h r =
    let uv : (u || v) ≡ false = left_false (u || v) z h in
    let p = expr_known d (left_false u v uv) r in
    let q = expr_known f (right_false u v uv) p.1.1 in
    let o = expr_known g (right_false (u || v) z h) q.1.1 in
    (both (is_expr a) (is_expr s && is_expr b) p.0 (both (is_expr s) (is_expr b) q.0 o.0), o.1)

steps_plain : (x : RangeExpr) → is_range x ≡ is_plain (axis.Steps x)
steps_plain x = search (rules, axis_lemmas)

column_plain : (n : List ℕ) → is_utf8 n ≡ is_plain (axis.Col n)
column_plain n = search (rules, axis_lemmas)

steps_factor : (x : RangeExpr) → is_range x ≡ is_factor (axis.Steps x)
steps_factor x = search (rules, axis_lemmas)

column_factor : (n : List ℕ) → is_utf8 n ≡ is_factor (axis.Col n)
column_factor n = search (rules, axis_lemmas)

zip_factor : (xs : List Axis) → (are_several xs && list_all is_plain xs) ≡ is_factor (axis.Zip xs)
zip_factor xs = search (rules, axis_lemmas)

axis_known : {x : Axis} {u : Bool} {ts rest : List Token} → SpellsAxis x u ts rest → u ≡ false → AllSound ts → Passes (is_plain x) rest
axis_known (SpellsAxis.steps {r = x} d) h r = let p = range_known d h r in (sym (steps_plain x) ∙ p.0, p.1)
axis_known (SpellsAxis.column {raw = raw}) h r = (sym (column_plain (text_of raw)) ∙ text_known raw r.1.1.0, r.1.1.1.1)

plain_factor : {x : Axis} {u : Bool} {ts rest : List Token} → SpellsAxis x u ts rest → u ≡ false → AllSound ts → Passes (is_factor x) rest
plain_factor (SpellsAxis.steps {r = x} d) h r = let p = range_known d h r in (sym (steps_factor x) ∙ p.0, p.1)
plain_factor (SpellsAxis.column {raw = raw}) h r = (sym (column_factor (text_of raw)) ∙ text_known raw r.1.1.0, r.1.1.1.1)

axes_known : {xs : List Axis} {u : Bool} {ts rest : List Token} → SpellsAxes xs u ts rest → u ≡ false → AllSound ts → Passes (list_all is_plain xs) rest
axes_known (SpellsAxes.last {x = x} d) h r = let p = axis_known d h r in (both (is_plain x) true p.0 refl, p.1)
axes_known (SpellsAxes.more {x = x} {xs = xs} {u = u} {v = v} d m) h r =
    let p = axis_known d (left_false u v h) r in
    let q = axes_known m (right_false u v h) p.1.1 in
    (both (is_plain x) (list_all is_plain xs) p.0 q.0, q.1)

factor_known : {x : Axis} {u : Bool} {ts rest : List Token} → SpellsFactor x u ts rest → u ≡ false → AllSound ts → Passes (is_factor x) rest
factor_known (SpellsFactor.plain d) h r = plain_factor d h r
factor_known (SpellsFactor.zip {xs = xs} low high d) h r =
    let p = axes_known d h r.1.1 in
    (sym (zip_factor xs) ∙ both (are_several xs) (list_all is_plain xs) (several_known xs low high) p.0, p.1.1)

factors_known : {xs : List Axis} {u : Bool} {ts rest : List Token} → SpellsFactors xs u ts rest → u ≡ false → AllSound ts → Passes (list_all is_factor xs) rest
factors_known (SpellsFactors.last {x = x} d) h r = let p = factor_known d h r in (both (is_factor x) true p.0 refl, p.1)
factors_known (SpellsFactors.more {x = x} {xs = xs} {u = u} {v = v} d m) h r =
    let p = factor_known d (left_false u v h) r in
    let q = factors_known m (right_false u v h) p.1.1 in
    (both (is_factor x) (list_all is_factor xs) p.0 q.0, q.1)

head_known : {xs : List Axis} {product u : Bool} {ts rest : List Token} → SpellsHead xs product u ts rest → u ≡ false → AllSound ts → Passes (is_head product xs) rest
head_known (SpellsHead.alone d) h r = factor_known d h r
head_known (SpellsHead.product {xs = xs} low high d) h r =
    let p = factors_known d h r.1.1 in
    (both (are_several xs) (list_all is_factor xs) (several_known xs low high) p.0, p.1.1)

inner_known : {hs : List Inner} {u : Bool} {ts : List Token} → SpellsInner hs u ts → u ≡ false → AllSound ts → list_all is_inner hs ≡ true
inner_known SpellsInner.none h r = refl
inner_known (SpellsInner.more {n = n} {r = x} {hs = hs} {u = u} {v = v} d s) h r =
    let p = range_known d (left_false u v h) r.1.1.1 in
    let q = inner_known s (right_false u v h) p.1 in
    both (is_name n && is_range x) (list_all is_inner hs) (both (is_name n) (is_range x) (name_is n r.1.0) p.0) q

-- ---- towers

leaf_known : (k : Keyword) (d : Kind) → leaf_kind k ≡ Some d → is_leaf d ≡ true
leaf_known kw.Sum d h = subst (λ c. is_leaf c ≡ true) (some_same h) (search (rules, kind_lemmas))
leaf_known kw.Prod d h = subst (λ c. is_leaf c ≡ true) (some_same h) (search (rules, kind_lemmas))
leaf_known kw.Min d h = subst (λ c. is_leaf c ≡ true) (some_same h) (search (rules, kind_lemmas))
leaf_known kw.Max d h = subst (λ c. is_leaf c ≡ true) (some_same h) (search (rules, kind_lemmas))
leaf_known kw.ArgMin d h = subst (λ c. is_leaf c ≡ true) (some_same h) (search (rules, kind_lemmas))
leaf_known kw.ArgMax d h = subst (λ c. is_leaf c ≡ true) (some_same h) (search (rules, kind_lemmas))
leaf_known kw.First d h = subst (λ c. is_leaf c ≡ true) (some_same h) (search (rules, kind_lemmas))
leaf_known kw.Last d h = subst (λ c. is_leaf c ≡ true) (some_same h) (search (rules, kind_lemmas))
leaf_known kw.Any d h = subst (λ c. is_leaf c ≡ true) (some_same h) (search (rules, kind_lemmas))
leaf_known kw.All d h = subst (λ c. is_leaf c ≡ true) (some_same h) (search (rules, kind_lemmas))
leaf_known kw.List d h = subst (λ c. is_leaf c ≡ true) (some_same h) (search (rules, kind_lemmas))
leaf_known _ d h = absurd (cc)

leaf_tower : (d : Kind) (x : Expr) → (is_leaf d && is_expr x) ≡ is_tower (tower.Leaf d x)
leaf_tower d x = search (rules, tower_lemmas)

count_tower : true ≡ is_tower tower.Count
count_tower = search (rules, tower_lemmas)

grouped_tower : (key : Expr) (x : TowerExpr) → (is_expr key && is_tower x) ≡ is_tower (tower.Grouped key x)
grouped_tower key x = search (rules, tower_lemmas)

both_tower : (x y : TowerExpr) → (is_tower x && is_tower y) ≡ is_tower (tower.Both x y)
both_tower x y = search (rules, tower_lemmas)

tower_known : {x : TowerExpr} {u : Bool} {ts rest : List Token} → SpellsTower x u ts rest → u ≡ false → AllSound ts → Passes (is_tower x) rest
tower_known (SpellsTower.leaf {k = k} {d = d} {x = x} is p) h r =
    let q = expr_known p h r.1.1 in
    (sym (leaf_tower d x) ∙ both (is_leaf d) (is_expr x) (leaf_known k d is) q.0, q.1.1)
tower_known SpellsTower.count h r = (sym count_tower, r.1.1.1)
tower_known (SpellsTower.grouped {key = key} {x = x} {u = u} {v = v} p t) h r =
    let i = expr_known p (left_false u v h) r.1.1 in
    let j = tower_known t (right_false u v h) i.1.1 in
    (sym (grouped_tower key x) ∙ both (is_expr key) (is_tower x) i.0 j.0, j.1.1)
tower_known (SpellsTower.both {x = x} {y = y} {u = u} {v = v} s t) h r =
    let i = tower_known s (left_false u v h) r.1.1 in
    let j = tower_known t (right_false u v h) i.1.1 in
    (sym (both_tower x y) ∙ both (is_tower x) (is_tower y) i.0 j.0, j.1.1)

-- ---- lines

pub line_known : {x : Line} {u : Bool} {ts : List Token} → SpellsLine x u ts → u ≡ false → AllSound ts → is_form x ≡ true
line_known (SpellsLine.skip_faults p q i) h r = refl
line_known (SpellsLine.var {n = n} {v = v} d) h r = both (is_name n) (is_literal v) (name_is n r.1.0) (literal_known d h r.1.1.1).0
line_known (SpellsLine.init {n = n} {v = v} d) h r = both (is_name n) (is_literal v) (name_is n r.1.0) (literal_known d h r.1.1.1).0
line_known (SpellsLine.for_ {ns = ns} {xs = xs} {product = product} {u = u} {v = v} {hs = hs} few p d s) h r =
    let i = pattern_known p r.1 in
    let j = head_known d (left_false u v h) i.1.1 in
    let k = inner_known s (right_false u v h) j.1 in
    both (is_pattern ns) (is_head product xs && (nat_le (length hs) 3 && list_all is_inner hs)) i.0
    (both (is_head product xs) (nat_le (length hs) 3 && list_all is_inner hs) j.0 (both (nat_le (length hs) 3) (list_all is_inner hs) (le-leb (length hs) 3 few) k))
line_known (SpellsLine.let_ {ns = ns} {x = x} p d) h r =
    let i = pattern_known p r.1 in
    both (is_pattern ns) (is_expr x) i.0 (expr_known d h i.1.1).0
line_known (SpellsLine.set {n = n} {x = x} d) h r = both (is_name n) (is_expr x) (name_is n r.0) (expr_known d h r.1.1).0
line_known (SpellsLine.if_ d) h r = (expr_known d h r.1).0
line_known (SpellsLine.elseif d) h r = (expr_known d h r.1).0
line_known SpellsLine.else_ h r = refl
line_known (SpellsLine.keep {n = n} {x = x} d) h r = both (is_name n) (is_expr x) (name_is n r.1.0) (expr_known d h r.1.1.1).0
line_known (SpellsLine.add {n = n} {x = x} d) h r =
    let leaf : is_tower (tower.Leaf kind.Sum x) ≡ true = sym (leaf_tower kind.Sum x) ∙ both (is_leaf kind.Sum) (is_expr x) (leaf_known kw.Sum kind.Sum refl) (expr_known d h r.1.1.1).0 in
    both (is_name n) (is_tower (tower.Leaf kind.Sum x) && true) (name_is n r.1.0) (both (is_tower (tower.Leaf kind.Sum x)) true leaf refl)
line_known (SpellsLine.reduce {n = n} {x = x} d) h r = both (is_name n) (is_tower x && true) (name_is n r.1.0) (both (is_tower x) true (tower_known d h r.1.1.1).0 refl)
line_known (SpellsLine.reduce_from {n = n} {x = x} {v = v} {u = u} {w = z} d s) h r =
    let i = tower_known d (left_false u z h) r.1.1.1 in
    let j = literal_known s (right_false u z h) i.1.1 in
    both (is_name n) (is_tower x && is_literal v) (name_is n r.1.0) (both (is_tower x) (is_literal v) i.0 j.0)
line_known SpellsLine.continue h r = refl
line_known SpellsLine.break h r = refl
line_known SpellsLine.end h r = refl
line_known (SpellsLine.print {n = n}) h r = name_is n r.1.0
