-- What is written of a line spells it again.
use Rattle.std.proofs.Common.{◌≡◌, ℕ, zero, suc, ◌≤◌, Bool, true, false, ◌||◌, List, [], ◌∷◌, ◌++◌, length, map, Some, None, pos, negsuc, neg_ℤ, refl, sym, ◌∙◌, subst, rules, arith}
use lib.IntN.{ℤ}
use Rattle.loop_tokens.specs.declared.token.Token.{Token}
use Rattle.loop_tokens.specs.declared.token.Token.TheVariants as tok
use Rattle.loop_tokens.specs.declared.keyword.Keyword.{Keyword}
use Rattle.loop_tokens.specs.declared.keyword.Keyword.TheVariants as kw
use Rattle.loop_tokens.specs.declared.keyword.AtWord.TheVariants as at
use Rattle.loop_tokens.specs.declared.sign.Sign.TheVariants as sg
use Rattle.loop_tokens.specs.Literals.{number_of, text_of, escaped}
use Rattle.loop_data.specs.declared.value.Value.{Value}
use Rattle.loop_data.specs.declared.value.Value.TheVariants as val
use Rattle.loop_data.specs.declared.expr.Expr.{Expr}
use Rattle.loop_data.specs.declared.expr.RangeExpr.{RangeExpr}
use Rattle.loop_data.specs.declared.tower.Kind.{Kind, the_lemmas as kind_lemmas}
use Rattle.loop_data.specs.declared.tower.Kind.TheVariants as kind
use Rattle.loop_data.specs.declared.tower.TowerExpr.{TowerExpr, the_lemmas as tower_lemmas}
use Rattle.loop_data.specs.declared.tower.TowerExpr.TheVariants as tower
use Rattle.loop_data.specs.declared.head.Axis.{Axis, the_lemmas as axis_lemmas}
use Rattle.loop_data.specs.declared.head.Axis.TheVariants as axis
use Rattle.loop_data.specs.declared.head.Inner.{Inner}
use Rattle.loop_exprs.specs.declared.level.Level.TheVariants as level
use Rattle.loop_exprs.specs.Operations.{is_wide, positive_value, is_wide_negative, negative_value}
use Rattle.loop_exprs.specs.Grammar.{Spells}
use Rattle.loop_grammar.specs.declared.line.Line.{Line}
use Rattle.loop_grammar.specs.declared.line.Line.TheVariants as l
use Rattle.loop_grammar.specs.LineForms.{SpellsLiteral, SpellsNames, SpellsPattern, SpellsRange, SpellsAxis, SpellsAxes, SpellsFactor, SpellsFactors, SpellsHead, SpellsInner, leaf_kind, SpellsTower, SpellsLine}
use Rattle.loop_layout.specs.Layout.{Mark, tokens_in}
use Rattle.loop_layout.specs.Canonical.{Written, glued, apart, open_, close, comma, colon, minus, int_marks, value_marks, in_parentheses, called, expr_marks, step_marks, range_marks, more_listed, listed, axis_marks, name_marks, pattern_marks, inner_marks, head_marks, kind_word, tower_marks, start_marks, folded_marks, line_marks}
use Rattle.loop_layout.proofs.ReadableTokens.{readable_texts}
use Rattle.loop_writer.proofs.Numbers.{digits_of, positive_there, negative_there, positive_back, negative_back}
use Rattle.loop_writer.proofs.Expressions.{onto, onto-append, onto-all, expr_spelled, left_false, right_false, some_same}

-- ---- literals

abbrev IntSpelled : ℤ → Type 0
IntSpelled i = (a : Bool) (more : List Token) → SpellsLiteral (val.Int i) false (onto (int_marks i a) more) more

positive_spelled : (n : ℕ) → is_wide n ≡ false → IntSpelled (pos n)
positive_spelled n h a more =
    let back = positive_back n h in
    let P : ℤ → Type 0 = λ v. SpellsLiteral (val.Int v) false (tok.Number (digits_of n) ∷ more) more in
    let Q : Bool → Type 0 = λ u. SpellsLiteral (val.Int (positive_value (number_of (digits_of n)))) u (tok.Number (digits_of n) ∷ more) more in
    subst P back.value (subst Q back.wide (SpellsLiteral.number {n = digits_of n} {rest = more}))

negative_spelled : (n : ℕ) → is_wide_negative (suc n) ≡ false → IntSpelled (negsuc n)
negative_spelled n h a more =
    let back = negative_back n h in
    let ts : List Token = minus ∷ tok.Number (digits_of (suc n)) ∷ more in
    let P : ℤ → Type 0 = λ v. SpellsLiteral (val.Int v) false ts more in
    let Q : Bool → Type 0 = λ u. SpellsLiteral (val.Int (negative_value (number_of (digits_of (suc n))))) u ts more in
    subst P back.value (subst Q back.wide (SpellsLiteral.negative {n = digits_of (suc n)} {rest = more}))

below_spelled : (n : ℕ) → is_wide_negative n ≡ false → IntSpelled (neg_ℤ (pos n))
below_spelled zero h = positive_spelled 0 refl
below_spelled (suc n) h = negative_spelled n h

pub literal_spelled : {v : Value} {u : Bool} {ts rest : List Token} → SpellsLiteral v u ts rest → u ≡ false → (a : Bool) (more : List Token) → SpellsLiteral v false (onto (value_marks v a) more) more
literal_spelled (SpellsLiteral.number {n = n}) h a more = (let P : ℤ → Type 0 = IntSpelled in subst P (sym (positive_there (number_of n) h)) (positive_spelled (number_of n) h)) a more
literal_spelled (SpellsLiteral.negative {n = n}) h a more = (let P : ℤ → Type 0 = IntSpelled in subst P (sym (negative_there (number_of n) h)) (below_spelled (number_of n) h)) a more
literal_spelled (SpellsLiteral.text {raw = raw}) h a more =
    let P : List ℕ → Type 0 = λ t. SpellsLiteral (val.Text t) false (tok.Text (escaped (text_of raw)) ∷ more) more in
    subst P (readable_texts (text_of raw)).1 (SpellsLiteral.text {raw = escaped (text_of raw)} {rest = more})
literal_spelled SpellsLiteral.yes h a more = SpellsLiteral.yes
literal_spelled SpellsLiteral.no h a more = SpellsLiteral.no

-- ---- patterns

pub names_comma : {ns : List (List ℕ)} {ts rest : List Token} → SpellsNames ns ts rest → more_listed (map name_marks ns) ≡ glued comma ∷ listed (map name_marks ns) true
names_comma SpellsNames.last = refl
names_comma (SpellsNames.more d) = refl

names_spelled : {ns : List (List ℕ)} {ts rest : List Token} → SpellsNames ns ts rest → (a : Bool) (more : List Token) → SpellsNames ns (onto (listed (map name_marks ns) a) more) more
names_spelled SpellsNames.last a more = SpellsNames.last
names_spelled (SpellsNames.more {n = n} {ns = ns} d) a more =
    let P : List Mark → Type 0 = λ ms. SpellsNames (n ∷ ns) (tok.Name n ∷ onto ms more) more in
    subst P (sym (names_comma d)) (SpellsNames.more (names_spelled d true more))

pub several_marks : {ns : List (List ℕ)} {ts rest : List Token} (a : Bool) → 2 ≤ length ns → SpellsNames ns ts rest → pattern_marks ns a ≡ in_parentheses (listed (map name_marks ns)) a
several_marks a low SpellsNames.last = absurd (omega arith)
several_marks a low (SpellsNames.more SpellsNames.last) = refl
several_marks a low (SpellsNames.more (SpellsNames.more d)) = refl

pub pattern_spelled : {ns : List (List ℕ)} {ts rest : List Token} → SpellsPattern ns ts rest → (a : Bool) (more : List Token) → SpellsPattern ns (onto (pattern_marks ns a) more) more
pattern_spelled SpellsPattern.one a more = SpellsPattern.one
pattern_spelled (SpellsPattern.several {ns = ns} low high d) a more =
    let P : List Mark → Type 0 = λ ms. SpellsPattern ns (onto ms more) more in
    let Q : List Token → Type 0 = λ ts. SpellsPattern ns (open_ ∷ ts) more in
    subst P (sym (several_marks a low d)) (subst Q (sym (onto-append (listed (map name_marks ns) false) (glued close ∷ []) more))
    (SpellsPattern.several low high (names_spelled d false (close ∷ more))))

-- ---- ranges and axes

onto-range : (es ss fs : List Mark) (more : List Token) → onto (es ++ ss ++ glued colon ∷ fs) more ≡ onto es (onto ss (colon ∷ onto fs more))
onto-range es ss fs more = onto-append (es ++ ss) (glued colon ∷ fs) more ∙ onto-append es ss (colon ∷ onto fs more)

pub range_spelled : {r : RangeExpr} {u : Bool} {ts rest : List Token} → SpellsRange r u ts rest → u ≡ false → (a : Bool) (more : List Token) → SpellsRange r false (onto (range_marks r a) more) more
range_spelled (SpellsRange.by_one {a = x} {b = y} {u = u} {v = v} d f) h a more =
    let P : List Token → Type 0 = λ ts. SpellsRange (record { first = x; step = None; last = y }) false ts more in
    subst P (sym (onto-range (expr_marks x a) [] (expr_marks y false) more))
    (SpellsRange.by_one ((expr_spelled d (left_false u v h)).whole a (colon ∷ onto (expr_marks y false) more)) ((expr_spelled f (right_false u v h)).whole false more))
range_spelled (SpellsRange.by_step {a = x} {s = s} {b = y} {u = u} {v = v} {w = w} d f g) h a more =
    let P : List Token → Type 0 = λ ts. SpellsRange (record { first = x; step = Some s; last = y }) false ts more in
    let uv : (u || v) ≡ false = left_false (u || v) w h in
    let last : List Token = colon ∷ onto (expr_marks y false) more in
    subst P (sym (onto-range (expr_marks x a) (step_marks (Some s)) (expr_marks y false) more))
    (SpellsRange.by_step ((expr_spelled d (left_false u v uv)).whole a (colon ∷ onto (expr_marks s false) last)) ((expr_spelled f (right_false u v uv)).whole false last)
    ((expr_spelled g (right_false (u || v) w h)).whole false more))

pub axis-Steps : (r : RangeExpr) → range_marks r ≡ axis_marks (axis.Steps r)
axis-Steps r = search (rules, axis_lemmas)

pub axis-Col : (n : List ℕ) → called (tok.Keyword kw.Col) (glued (tok.Text (escaped n)) ∷ []) ≡ axis_marks (axis.Col n)
axis-Col n = search (rules, axis_lemmas)

pub axis-Zip : (xs : List Axis) → called (tok.Keyword kw.Zip) (listed (map axis_marks xs) false) ≡ axis_marks (axis.Zip xs)
axis-Zip xs = search (rules, axis_lemmas)

axis_spelled : {x : Axis} {u : Bool} {ts rest : List Token} → SpellsAxis x u ts rest → u ≡ false → (a : Bool) (more : List Token) → SpellsAxis x false (onto (axis_marks x a) more) more
axis_spelled (SpellsAxis.steps {r = r} d) h a more =
    let P : Written → Type 0 = λ m. SpellsAxis (axis.Steps r) false (onto (m a) more) more in
    subst P (axis-Steps r) (SpellsAxis.steps (range_spelled d h a more))
axis_spelled (SpellsAxis.column {raw = raw}) h a more =
    let n = text_of raw in
    let P : Written → Type 0 = λ m. SpellsAxis (axis.Col n) false (onto (m a) more) more in
    let Q : List ℕ → Type 0 = λ t. SpellsAxis (axis.Col t) false (tok.Keyword kw.Col ∷ open_ ∷ tok.Text (escaped n) ∷ close ∷ more) more in
    subst P (axis-Col n) (subst Q (readable_texts n).1 (SpellsAxis.column {raw = escaped n} {rest = more}))

pub axes_comma : {xs : List Axis} {u : Bool} {ts rest : List Token} → SpellsAxes xs u ts rest → more_listed (map axis_marks xs) ≡ glued comma ∷ listed (map axis_marks xs) true
axes_comma (SpellsAxes.last d) = refl
axes_comma (SpellsAxes.more d s) = refl

axes_spelled : {xs : List Axis} {u : Bool} {ts rest : List Token} → SpellsAxes xs u ts rest → u ≡ false → (a : Bool) (more : List Token) → SpellsAxes xs false (onto (listed (map axis_marks xs) a) more) more
axes_spelled (SpellsAxes.last {x = x} d) h a more =
    let P : List Token → Type 0 = λ ts. SpellsAxes (x ∷ []) false ts more in
    subst P (sym (onto-append (axis_marks x a) [] more)) (SpellsAxes.last (axis_spelled d h a more))
axes_spelled (SpellsAxes.more {x = x} {xs = xs} {u = u} {v = v} d s) h a more =
    let P : List Token → Type 0 = λ ts. SpellsAxes (x ∷ xs) false ts more in
    let Q : List Mark → Type 0 = λ ms. SpellsAxes (x ∷ xs) false (onto (axis_marks x a) (onto ms more)) more in
    subst P (sym (onto-append (axis_marks x a) (more_listed (map axis_marks xs)) more)) (subst Q (sym (axes_comma s))
    (SpellsAxes.more (axis_spelled d (left_false u v h) a (comma ∷ onto (listed (map axis_marks xs) true) more)) (axes_spelled s (right_false u v h) true more)))

factor_spelled : {x : Axis} {u : Bool} {ts rest : List Token} → SpellsFactor x u ts rest → u ≡ false → (a : Bool) (more : List Token) → SpellsFactor x false (onto (axis_marks x a) more) more
factor_spelled (SpellsFactor.plain d) h a more = SpellsFactor.plain (axis_spelled d h a more)
factor_spelled (SpellsFactor.zip {xs = xs} low high d) h a more =
    let P : Written → Type 0 = λ m. SpellsFactor (axis.Zip xs) false (onto (m a) more) more in
    let Q : List Token → Type 0 = λ ts. SpellsFactor (axis.Zip xs) false (tok.Keyword kw.Zip ∷ open_ ∷ ts) more in
    subst P (axis-Zip xs) (subst Q (sym (onto-append (listed (map axis_marks xs) false) (glued close ∷ []) more)) (SpellsFactor.zip low high (axes_spelled d h false (close ∷ more))))

pub factors_comma : {xs : List Axis} {u : Bool} {ts rest : List Token} → SpellsFactors xs u ts rest → more_listed (map axis_marks xs) ≡ glued comma ∷ listed (map axis_marks xs) true
factors_comma (SpellsFactors.last d) = refl
factors_comma (SpellsFactors.more d s) = refl

factors_spelled : {xs : List Axis} {u : Bool} {ts rest : List Token} → SpellsFactors xs u ts rest → u ≡ false → (a : Bool) (more : List Token) →
    SpellsFactors xs false (onto (listed (map axis_marks xs) a) more) more
factors_spelled (SpellsFactors.last {x = x} d) h a more =
    let P : List Token → Type 0 = λ ts. SpellsFactors (x ∷ []) false ts more in
    subst P (sym (onto-append (axis_marks x a) [] more)) (SpellsFactors.last (factor_spelled d h a more))
factors_spelled (SpellsFactors.more {x = x} {xs = xs} {u = u} {v = v} d s) h a more =
    let P : List Token → Type 0 = λ ts. SpellsFactors (x ∷ xs) false ts more in
    let Q : List Mark → Type 0 = λ ms. SpellsFactors (x ∷ xs) false (onto (axis_marks x a) (onto ms more)) more in
    subst P (sym (onto-append (axis_marks x a) (more_listed (map axis_marks xs)) more)) (subst Q (sym (factors_comma s))
    (SpellsFactors.more (factor_spelled d (left_false u v h) a (comma ∷ onto (listed (map axis_marks xs) true) more)) (factors_spelled s (right_false u v h) true more)))

pub head_spelled : {xs : List Axis} {product u : Bool} {ts rest : List Token} → SpellsHead xs product u ts rest → u ≡ false → (a : Bool) (more : List Token) →
    SpellsHead xs product false (onto (head_marks xs product a) more) more
head_spelled (SpellsHead.alone {x = x} d) h a more =
    let P : List Token → Type 0 = λ ts. SpellsHead (x ∷ []) false false ts more in
    subst P (sym (onto-append (axis_marks x a) [] more)) (SpellsHead.alone (factor_spelled d h a more))
head_spelled (SpellsHead.product {xs = xs} low high d) h a more =
    let P : List Token → Type 0 = λ ts. SpellsHead xs true false (tok.Keyword kw.Product ∷ open_ ∷ ts) more in
    subst P (sym (onto-append (listed (map axis_marks xs) false) (glued close ∷ []) more)) (SpellsHead.product low high (factors_spelled d h false (close ∷ more)))

pub inner_spelled : {hs : List Inner} {u : Bool} {ts : List Token} → SpellsInner hs u ts → u ≡ false → SpellsInner hs false (onto (inner_marks hs) [])
inner_spelled SpellsInner.none h = SpellsInner.none
inner_spelled (SpellsInner.more {n = n} {r = r} {hs = hs} {u = u} {v = v} d s) h =
    let P : List Token → Type 0 = λ ts. SpellsInner (record { name = n; range = r } ∷ hs) false (comma ∷ tok.Name n ∷ tok.Keyword kw.In ∷ ts) in
    subst P (sym (onto-append (range_marks r true) (inner_marks hs) [])) (SpellsInner.more (range_spelled d (left_false u v h) true (onto (inner_marks hs) [])) (inner_spelled s (right_false u v h)))

-- ---- towers

pub tower-Leaf : (d : Kind) (x : Expr) → called (tok.Keyword (kind_word d)) (expr_marks x false) ≡ tower_marks (tower.Leaf d x)
tower-Leaf d x = search (rules, tower_lemmas)

pub tower-Count : called (tok.Keyword kw.Count) [] ≡ tower_marks tower.Count
tower-Count = search (rules, tower_lemmas)

pub tower-Grouped : (key : Expr) (x : TowerExpr) → called (tok.Keyword kw.Group) (expr_marks key false ++ glued comma ∷ tower_marks x true) ≡ tower_marks (tower.Grouped key x)
tower-Grouped key x = search (rules, tower_lemmas)

pub tower-Both : (x y : TowerExpr) → called (tok.Keyword kw.Both) (tower_marks x false ++ glued comma ∷ tower_marks y true) ≡ tower_marks (tower.Both x y)
tower-Both x y = search (rules, tower_lemmas)

-- the word that is written of a kind stands for it
kind_back : (k : Keyword) (d : Kind) → leaf_kind k ≡ Some d → leaf_kind (kind_word d) ≡ Some d
kind_back kw.Sum d h = let P : Kind → Type 0 = λ c. leaf_kind (kind_word c) ≡ Some c in subst P (some_same h) (search (rules, kind_lemmas))
kind_back kw.Prod d h = let P : Kind → Type 0 = λ c. leaf_kind (kind_word c) ≡ Some c in subst P (some_same h) (search (rules, kind_lemmas))
kind_back kw.Min d h = let P : Kind → Type 0 = λ c. leaf_kind (kind_word c) ≡ Some c in subst P (some_same h) (search (rules, kind_lemmas))
kind_back kw.Max d h = let P : Kind → Type 0 = λ c. leaf_kind (kind_word c) ≡ Some c in subst P (some_same h) (search (rules, kind_lemmas))
kind_back kw.ArgMin d h = let P : Kind → Type 0 = λ c. leaf_kind (kind_word c) ≡ Some c in subst P (some_same h) (search (rules, kind_lemmas))
kind_back kw.ArgMax d h = let P : Kind → Type 0 = λ c. leaf_kind (kind_word c) ≡ Some c in subst P (some_same h) (search (rules, kind_lemmas))
kind_back kw.First d h = let P : Kind → Type 0 = λ c. leaf_kind (kind_word c) ≡ Some c in subst P (some_same h) (search (rules, kind_lemmas))
kind_back kw.Last d h = let P : Kind → Type 0 = λ c. leaf_kind (kind_word c) ≡ Some c in subst P (some_same h) (search (rules, kind_lemmas))
kind_back kw.Any d h = let P : Kind → Type 0 = λ c. leaf_kind (kind_word c) ≡ Some c in subst P (some_same h) (search (rules, kind_lemmas))
kind_back kw.All d h = let P : Kind → Type 0 = λ c. leaf_kind (kind_word c) ≡ Some c in subst P (some_same h) (search (rules, kind_lemmas))
kind_back kw.List d h = let P : Kind → Type 0 = λ c. leaf_kind (kind_word c) ≡ Some c in subst P (some_same h) (search (rules, kind_lemmas))
kind_back _ d h = absurd (cc)

onto-parts : (xs ys : List Mark) (more : List Token) → onto ((xs ++ glued comma ∷ ys) ++ glued close ∷ []) more ≡ onto xs (comma ∷ onto ys (close ∷ more))
onto-parts xs ys more = onto-append (xs ++ glued comma ∷ ys) (glued close ∷ []) more ∙ onto-append xs (glued comma ∷ ys) (close ∷ more)

pub tower_spelled : {x : TowerExpr} {u : Bool} {ts rest : List Token} → SpellsTower x u ts rest → u ≡ false → (a : Bool) (more : List Token) → SpellsTower x false (onto (tower_marks x a) more) more
tower_spelled (SpellsTower.leaf {k = k} {d = d} {x = x} is p) h a more =
    let P : Written → Type 0 = λ m. SpellsTower (tower.Leaf d x) false (onto (m a) more) more in
    let Q : List Token → Type 0 = λ ts. SpellsTower (tower.Leaf d x) false (tok.Keyword (kind_word d) ∷ open_ ∷ ts) more in
    subst P (tower-Leaf d x) (subst Q (sym (onto-append (expr_marks x false) (glued close ∷ []) more)) (SpellsTower.leaf (kind_back k d is) ((expr_spelled p h).whole false (close ∷ more))))
tower_spelled SpellsTower.count h a more =
    let P : Written → Type 0 = λ m. SpellsTower tower.Count false (onto (m a) more) more in
    subst P tower-Count SpellsTower.count
tower_spelled (SpellsTower.grouped {key = key} {x = x} {u = u} {v = v} p t) h a more =
    let P : Written → Type 0 = λ m. SpellsTower (tower.Grouped key x) false (onto (m a) more) more in
    let Q : List Token → Type 0 = λ ts. SpellsTower (tower.Grouped key x) false (tok.Keyword kw.Group ∷ open_ ∷ ts) more in
    subst P (tower-Grouped key x) (subst Q (sym (onto-parts (expr_marks key false) (tower_marks x true) more))
    (SpellsTower.grouped ((expr_spelled p (left_false u v h)).whole false (comma ∷ onto (tower_marks x true) (close ∷ more))) (tower_spelled t (right_false u v h) true (close ∷ more))))
tower_spelled (SpellsTower.both {x = x} {y = y} {u = u} {v = v} s t) h a more =
    let P : Written → Type 0 = λ m. SpellsTower (tower.Both x y) false (onto (m a) more) more in
    let Q : List Token → Type 0 = λ ts. SpellsTower (tower.Both x y) false (tok.Keyword kw.Both ∷ open_ ∷ ts) more in
    subst P (tower-Both x y) (subst Q (sym (onto-parts (tower_marks x false) (tower_marks y true) more))
    (SpellsTower.both (tower_spelled s (left_false u v h) false (comma ∷ onto (tower_marks y true) (close ∷ more))) (tower_spelled t (right_false u v h) true (close ∷ more))))

-- ---- lines

pub folded_from : (x : TowerExpr) (v : Value) → folded_marks x (Some v) ≡ apart (tok.Sign sg.Assign) ∷ tower_marks x true ++ start_marks (Some v)
folded_from (tower.Leaf kind.Sum p) v = refl
folded_from _ v = refl

-- a tower without a start value is a sum, written with `+=`, or is written with `=`
pub folded_either : {A : Type 0} (x : TowerExpr) → ((p : Expr) → x ≡ tower.Leaf kind.Sum p → A) → (folded_marks x None ≡ apart (tok.Sign sg.Assign) ∷ tower_marks x true ++ [] → A) → A
folded_either (tower.Leaf kind.Sum p) sum plain = sum p refl
folded_either _ sum plain = plain refl

abbrev ReduceSpelled : List ℕ → TowerExpr → Type 0
ReduceSpelled n x = SpellsLine (l.Reduce n x None) false (tok.At at.Reduce ∷ tok.Name n ∷ onto (folded_marks x None) [])

plain_reduce : (n : List ℕ) {x : TowerExpr} {u : Bool} {ts : List Token} → SpellsTower x u ts [] → u ≡ false →
    folded_marks x None ≡ apart (tok.Sign sg.Assign) ∷ tower_marks x true ++ [] → ReduceSpelled n x
plain_reduce n {x = x} d h same =
    let P : List Mark → Type 0 = λ ms. SpellsLine (l.Reduce n x None) false (tok.At at.Reduce ∷ tok.Name n ∷ onto ms []) in
    let Q : List Token → Type 0 = λ ts. SpellsLine (l.Reduce n x None) false (tok.At at.Reduce ∷ tok.Name n ∷ tok.Sign sg.Assign ∷ ts) in
    subst P (sym same) (subst Q (sym (onto-append (tower_marks x true) [] [])) (SpellsLine.reduce (tower_spelled d h true [])))

sum_reduce : (n : List ℕ) (d : Kind) (x p : Expr) → ((a : Bool) (more : List Token) → Spells level.Expr x false (onto (expr_marks x a) more) more) → tower.Leaf d x ≡ tower.Leaf kind.Sum p →
    ReduceSpelled n (tower.Leaf d x)
sum_reduce n d x p f same =
    let P : Kind → Type 0 = λ c. ReduceSpelled n (tower.Leaf c x) in
    let sum : kind.Sum ≡ d = cc in
    subst P sum (SpellsLine.add (f true []))

reduce_spelled : (n : List ℕ) {x : TowerExpr} {u : Bool} {ts : List Token} → SpellsTower x u ts [] → u ≡ false → ReduceSpelled n x
reduce_spelled n (SpellsTower.leaf {d = d} {x = x} is p) h =
    folded_either (tower.Leaf d x) (λ q same. sum_reduce n d x q (expr_spelled p h).whole same) (plain_reduce n (SpellsTower.leaf is p) h)
reduce_spelled n SpellsTower.count h = plain_reduce n SpellsTower.count refl refl
reduce_spelled n (SpellsTower.grouped p t) h = plain_reduce n (SpellsTower.grouped p t) h (search (rules, tower_lemmas))
reduce_spelled n (SpellsTower.both s t) h = plain_reduce n (SpellsTower.both s t) h (search (rules, tower_lemmas))

onto-for : (ps hs is : List Mark) → onto (ps ++ apart (tok.Keyword kw.In) ∷ hs ++ is) [] ≡ onto ps (tok.Keyword kw.In ∷ onto hs (onto is []))
onto-for ps hs is = onto-append (ps ++ apart (tok.Keyword kw.In) ∷ hs) is [] ∙ onto-append ps (apart (tok.Keyword kw.In) ∷ hs) (onto is [])

line_onto : {x : Line} {u : Bool} {ts : List Token} → SpellsLine x u ts → u ≡ false → SpellsLine x false (onto (line_marks x) [])
line_onto (SpellsLine.skip_faults p q r) h = SpellsLine.skip_faults refl refl refl
line_onto (SpellsLine.var d) h = SpellsLine.var (literal_spelled d h true [])
line_onto (SpellsLine.init d) h = SpellsLine.init (literal_spelled d h true [])
line_onto (SpellsLine.for_ {ns = ns} {xs = xs} {product = product} {u = u} {v = v} {hs = hs} few p d s) h =
    let P : List Token → Type 0 = λ ts. SpellsLine (l.For (record { names = ns; axes = xs; product = product; inner = hs })) false (tok.Keyword kw.For ∷ ts) in
    subst P (sym (onto-for (pattern_marks ns true) (head_marks xs product true) (inner_marks hs)))
    (SpellsLine.for_ few (pattern_spelled p true (tok.Keyword kw.In ∷ onto (head_marks xs product true) (onto (inner_marks hs) []))) (head_spelled d (left_false u v h) true (onto (inner_marks hs) []))
    (inner_spelled s (right_false u v h)))
line_onto (SpellsLine.let_ {ns = ns} {x = x} p d) h =
    let P : List Token → Type 0 = λ ts. SpellsLine (l.Let ns x) false (tok.Keyword kw.Let ∷ ts) in
    subst P (sym (onto-append (pattern_marks ns true) (apart (tok.Sign sg.Assign) ∷ expr_marks x true) []))
    (SpellsLine.let_ (pattern_spelled p true (tok.Sign sg.Assign ∷ onto (expr_marks x true) [])) ((expr_spelled d h).whole true []))
line_onto (SpellsLine.set d) h = SpellsLine.set ((expr_spelled d h).whole true [])
line_onto (SpellsLine.if_ d) h = SpellsLine.if_ ((expr_spelled d h).whole true [])
line_onto (SpellsLine.elseif d) h = SpellsLine.elseif ((expr_spelled d h).whole true [])
line_onto SpellsLine.else_ h = SpellsLine.else_
line_onto (SpellsLine.keep d) h = SpellsLine.keep ((expr_spelled d h).whole true [])
line_onto (SpellsLine.add d) h = SpellsLine.add ((expr_spelled d h).whole true [])
line_onto (SpellsLine.reduce {n = n} d) h = reduce_spelled n d h
line_onto (SpellsLine.reduce_from {n = n} {x = x} {v = v} {u = u} {w = w} d s) h =
    let P : List Mark → Type 0 = λ ms. SpellsLine (l.Reduce n x (Some v)) false (tok.At at.Reduce ∷ tok.Name n ∷ onto ms []) in
    let Q : List Token → Type 0 = λ ts. SpellsLine (l.Reduce n x (Some v)) false (tok.At at.Reduce ∷ tok.Name n ∷ tok.Sign sg.Assign ∷ ts) in
    subst P (sym (folded_from x v)) (subst Q (sym (onto-append (tower_marks x true) (start_marks (Some v)) []))
    (SpellsLine.reduce_from (tower_spelled d (left_false u w h) true (tok.Keyword kw.From ∷ onto (value_marks v true) [])) (literal_spelled s (right_false u w h) true [])))
line_onto SpellsLine.continue h = SpellsLine.continue
line_onto SpellsLine.break h = SpellsLine.break
line_onto SpellsLine.end h = SpellsLine.end
line_onto SpellsLine.print h = SpellsLine.print

-- what any tokens spell, with no number too wide, is spelled by the tokens that are written of it
pub line_spelled : {x : Line} {u : Bool} {ts : List Token} → SpellsLine x u ts → u ≡ false → SpellsLine x false (tokens_in (line_marks x))
line_spelled {x = x} d h = let P : List Token → Type 0 = λ ts. SpellsLine x false ts in subst P (onto-all (line_marks x)) (line_onto d h)
