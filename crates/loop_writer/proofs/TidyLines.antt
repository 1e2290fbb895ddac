-- What is written of a line is laid out well, within the limits of a line.
use Rattle.std.proofs.Common.{◌≡◌, ℕ, ◌+◌, ◌≤◌, nat_lt, Bool, true, false, ◌||◌, List, [], ◌∷◌, ◌++◌, map, Option, Some, None, refl, ap, sym, ◌∙◌, subst, rules, arith}
use Rattle.std.specs.Prelude.{codes}
use lib.IntN.{ℤ}
use Rattle.std.specs.List.{count_by}
use Rattle.std.proofs.lemmas.Bool.Decides.{nat_tests}
use Rattle.loop_tokens.specs.declared.token.Token.{Token}
use Rattle.loop_tokens.specs.declared.token.Token.TheVariants as tok
use Rattle.loop_tokens.specs.declared.keyword.Keyword.{Keyword}
use Rattle.loop_tokens.specs.declared.keyword.Keyword.TheVariants as kw
use Rattle.loop_tokens.specs.declared.keyword.AtWord.TheVariants as at
use Rattle.loop_tokens.specs.declared.sign.Sign.TheVariants as sg
use Rattle.loop_tokens.specs.Literals.{number_of, text_of, escaped}
use Rattle.loop_tokens.specs.Limits.{is_no_parenthesis, most_open, is_too_deep}
use Rattle.loop_data.specs.declared.value.Value.{Value}
use Rattle.loop_data.specs.declared.expr.Expr.{Expr}
use Rattle.loop_data.specs.declared.expr.RangeExpr.{RangeExpr}
use Rattle.loop_data.specs.declared.tower.Kind.{Kind}
use Rattle.loop_data.specs.declared.tower.Kind.TheVariants as kind
use Rattle.loop_data.specs.declared.tower.TowerExpr.{TowerExpr, the_lemmas as tower_lemmas}
use Rattle.loop_data.specs.declared.tower.TowerExpr.TheVariants as tower
use Rattle.loop_data.specs.declared.head.Axis.{Axis}
use Rattle.loop_data.specs.declared.head.Inner.{Inner}
use Rattle.loop_exprs.specs.declared.level.Level.TheVariants as level
use Rattle.loop_exprs.specs.Grammar.{Spells}
use Rattle.loop_grammar.specs.declared.line.Line.{Line}
use Rattle.loop_grammar.specs.declared.line.Line.TheVariants as l
use Rattle.loop_grammar.specs.LineForms.{SpellsLiteral, SpellsNames, SpellsPattern, SpellsRange, SpellsAxis, SpellsAxes, SpellsFactor, SpellsFactors, SpellsHead, SpellsInner, SpellsTower, SpellsLine}
use Rattle.loop_layout.specs.Layout.{Mark, tokens_in, AreReadable}
use Rattle.loop_layout.specs.Laws.{AllUtf8}
use Rattle.loop_layout.specs.Canonical.{Written, first, glued, apart, comma, colon, int_marks, value_marks, in_parentheses, called, expr_marks, range_marks, listed, axis_marks, name_marks, pattern_marks, inner_marks, head_marks, kind_word, tower_marks, start_marks, folded_marks, line_marks}
use Rattle.loop_writer.proofs.Numbers.{not_wide, not_wide_negative, positive_there, negative_there}
use Rattle.loop_writer.proofs.Expressions.{onto-all, left_false, right_false}
use Rattle.loop_writer.proofs.SpelledLines.{names_comma, several_marks, axis-Steps, axis-Col, axis-Zip, axes_comma, factors_comma, tower-Leaf, tower-Count, tower-Grouped, tower-Both, folded_from, folded_either}
use Rattle.loop_writer.proofs.Tidy.{IsSound, AllSound, word_sound, at_sound, sign_sound, text_sound, one_if, Laid, is_loose, laid_append, edge_laid, readable_marks, utf8_marks, others, others_count, others_there, others_in, others-append, Opens, opens_more, opens_append, opens_none, opens_token, IsTidy, tidy_token, tidy_parentheses, AreTidy, tidy_called, tidy_at}
use Rattle.loop_writer.proofs.TidyExprs.{expr_tidy, positive_tidy, below_tidy, one_part, edged_tidy, comma_tidy}

-- what is written of something that the tokens from ts up to rest spell
pub record TidyOf (m : Written) (ts rest : List Token) : Type 0 where
  pub size : ℕ
  pub depth : ℕ
  pub tidy : IsTidy size depth m
  pub low : depth ≤ size
  pub fewer : size + others rest ≤ others ts
  pub readable : AllSound rest

tidy_same : (k d : ℕ) (m n : Written) → ((a : Bool) → m a ≡ n a) → IsTidy k d m → IsTidy k d n
tidy_same k d m n same h = record {
  laid = λ a s free. subst (Laid s) (same a) (h.laid a s free);
  size = λ a. ap others_in (sym (same a)) ∙ h.size a;
  opens = λ a. subst (Opens d) (same a) (h.opens a);
}

expr_of : {x : Expr} {u : Bool} {ts rest : List Token} → Spells level.Expr x u ts rest → u ≡ false → AllSound ts → TidyOf (expr_marks x) ts rest
expr_of d h r = let p = expr_tidy d h r in record { size = p.size; depth = p.size; tidy = p.tidy.whole; low = omega arith; fewer = p.fewer; readable = p.readable }

-- ---- literals

literal_tidy : {v : Value} {u : Bool} {ts rest : List Token} → SpellsLiteral v u ts rest → u ≡ false → AllSound ts → TidyOf (value_marks v) ts rest
literal_tidy (SpellsLiteral.number {n = n}) h r =
    let P : ℤ → Type 0 = λ i. IsTidy 1 0 (int_marks i) in
    record { size = 1; depth = 0; tidy = subst P (sym (positive_there (number_of n) h)) (positive_tidy (number_of n) (not_wide (number_of n) h)); low = omega arith; fewer = omega arith; readable = r.1 }
literal_tidy (SpellsLiteral.negative {n = n}) h r =
    let b = below_tidy (number_of n) (not_wide_negative (number_of n) h) in
    let P : ℤ → Type 0 = λ i. IsTidy b.size 0 (int_marks i) in
    record { size = b.size; depth = 0; tidy = subst P (sym (negative_there (number_of n) h)) b.tidy; low = omega arith; fewer = (let few = b.few in omega (arith, few)); readable = r.1.1 }
literal_tidy (SpellsLiteral.text {raw = raw}) h r = record {
  size = 1;
  depth = 0;
  tidy = tidy_token (tok.Text (escaped (text_of raw))) (text_sound raw r.0) refl;
  low = omega arith;
  fewer = omega arith;
  readable = r.1;
}
literal_tidy SpellsLiteral.yes h r = record { size = 1; depth = 0; tidy = tidy_token (tok.Keyword kw.True) (word_sound kw.True) refl; low = omega arith; fewer = omega arith; readable = r.1 }
literal_tidy SpellsLiteral.no h r = record { size = 1; depth = 0; tidy = tidy_token (tok.Keyword kw.False) (word_sound kw.False) refl; low = omega arith; fewer = omega arith; readable = r.1 }

-- ---- patterns

record TidyNames (ns : List (List ℕ)) (ts rest : List Token) : Type 0 where
  size : ℕ
  some : 1 ≤ size
  tidy : IsTidy size 0 (listed (map name_marks ns))
  fewer : size + others rest ≤ others ts
  readable : AllSound rest

names_tidy : {ns : List (List ℕ)} {ts rest : List Token} → SpellsNames ns ts rest → AllSound ts → TidyNames ns ts rest
names_tidy (SpellsNames.last {n = n}) r = record { size = 1; some = omega arith; tidy = tidy_token (tok.Name n) r.0 refl; fewer = omega arith; readable = r.1 }
names_tidy (SpellsNames.more {n = n} {ns = ns} d) r =
    let p = names_tidy d r.1.1 in
    let P : List Mark → Type 0 = λ ms. IsTidy (1 + 1 + p.size) 0 (λ a. name_marks n a ++ ms) in
    record {
      size = 1 + 1 + p.size;
      some = omega arith;
      tidy = subst P (sym (names_comma d)) (comma_tidy 1 p.size 0 0 (name_marks n) (listed (map name_marks ns)) (tidy_token (tok.Name n) r.0 refl) p.tidy);
      fewer = (let m = p.fewer in omega (arith, m));
      readable = p.readable;
    }

pattern_tidy : {ns : List (List ℕ)} {ts rest : List Token} → SpellsPattern ns ts rest → AllSound ts → TidyOf (pattern_marks ns) ts rest
pattern_tidy (SpellsPattern.one {n = n}) r = record { size = 1; depth = 0; tidy = tidy_token (tok.Name n) r.0 refl; low = omega arith; fewer = omega arith; readable = r.1 }
pattern_tidy (SpellsPattern.several {ns = ns} low high d) r =
    let p = names_tidy d r.1 in
    record {
      size = p.size;
      depth = 1;
      tidy = tidy_same p.size 1 (in_parentheses (listed (map name_marks ns))) (pattern_marks ns) (λ a. sym (several_marks a low d)) (tidy_parentheses p.size 0 (listed (map name_marks ns)) p.tidy);
      low = p.some;
      fewer = (let m = p.fewer in omega (arith, m));
      readable = p.readable.1;
    }

-- ---- ranges and axes

range_tidy : {x : RangeExpr} {u : Bool} {ts rest : List Token} → SpellsRange x u ts rest → u ≡ false → AllSound ts → TidyOf (range_marks x) ts rest
range_tidy (SpellsRange.by_one {a = x} {b = y} {u = u} {v = v} d f) h r =
    let p = expr_tidy d (left_false u v h) r in
    let q = expr_tidy f (right_false u v h) p.readable.1 in
    record {
      size = p.size + 1 + q.size;
      depth = p.size + q.size;
      tidy = edged_tidy p.size q.size p.size q.size colon false (λ a. expr_marks x a ++ []) (expr_marks y) (sign_sound sg.Colon) refl refl refl (one_part p.size p.size (expr_marks x) p.tidy.whole) q.tidy.whole;
      low = omega arith;
      fewer = (let i = p.fewer in let j = q.fewer in omega (arith, i, j));
      readable = q.readable;
    }
range_tidy (SpellsRange.by_step {a = x} {s = s} {b = y} {u = u} {v = v} {w = w} d f g) h r =
    let uv : (u || v) ≡ false = left_false (u || v) w h in
    let p = expr_tidy d (left_false u v uv) r in
    let q = expr_tidy f (right_false u v uv) p.readable.1 in
    let o = expr_tidy g (right_false (u || v) w h) q.readable.1 in
    record {
      size = p.size + 1 + q.size + 1 + o.size;
      depth = p.size + q.size + o.size;
      tidy = edged_tidy (p.size + 1 + q.size) o.size (p.size + q.size) o.size colon false (λ a. expr_marks x a ++ glued colon ∷ expr_marks s false) (expr_marks y) (sign_sound sg.Colon) refl refl refl
          (edged_tidy p.size q.size p.size q.size colon false (expr_marks x) (expr_marks s) (sign_sound sg.Colon) refl refl refl p.tidy.whole q.tidy.whole) o.tidy.whole;
      low = omega arith;
      fewer = (let i = p.fewer in let j = q.fewer in let k = o.fewer in omega (arith, i, j, k));
      readable = o.readable;
    }

-- what is called with things between its parentheses
called_of : (word : Keyword) (m : Written) (k d : ℕ) → IsTidy k d m → IsTidy (k + 1) (d + 1) (called (tok.Keyword word) (m false))
called_of word m k d h = tidy_called k d word (m false) (tidy_at k d m false h)

axis_tidy : {x : Axis} {u : Bool} {ts rest : List Token} → SpellsAxis x u ts rest → u ≡ false → AllSound ts → TidyOf (axis_marks x) ts rest
axis_tidy (SpellsAxis.steps {r = x} d) h r =
    let p = range_tidy d h r in
    record { size = p.size; depth = p.depth; tidy = subst (IsTidy p.size p.depth) (axis-Steps x) p.tidy; low = p.low; fewer = p.fewer; readable = p.readable }
axis_tidy (SpellsAxis.column {raw = raw}) h r = record {
  size = 2;
  depth = 1;
  tidy = subst (IsTidy 2 1) (axis-Col (text_of raw)) (called_of kw.Col (λ a. first a (tok.Text (escaped (text_of raw))) ∷ []) 1 0 (tidy_token (tok.Text (escaped (text_of raw))) (text_sound raw r.1.1.0) refl));
  low = omega arith;
  fewer = omega arith;
  readable = r.1.1.1.1;
}

axes_tidy : {xs : List Axis} {u : Bool} {ts rest : List Token} → SpellsAxes xs u ts rest → u ≡ false → AllSound ts → TidyOf (listed (map axis_marks xs)) ts rest
axes_tidy (SpellsAxes.last {x = x} d) h r =
    let p = axis_tidy d h r in
    record { size = p.size; depth = p.depth; tidy = one_part p.size p.depth (axis_marks x) p.tidy; low = p.low; fewer = p.fewer; readable = p.readable }
axes_tidy (SpellsAxes.more {x = x} {xs = xs} {u = u} {v = v} d s) h r =
    let p = axis_tidy d (left_false u v h) r in
    let q = axes_tidy s (right_false u v h) p.readable.1 in
    let P : List Mark → Type 0 = λ ms. IsTidy (p.size + 1 + q.size) (p.depth + q.depth) (λ a. axis_marks x a ++ ms) in
    record {
      size = p.size + 1 + q.size;
      depth = p.depth + q.depth;
      tidy = subst P (sym (axes_comma s)) (comma_tidy p.size q.size p.depth q.depth (axis_marks x) (listed (map axis_marks xs)) p.tidy q.tidy);
      low = (let i = p.low in let j = q.low in omega (arith, i, j));
      fewer = (let i = p.fewer in let j = q.fewer in omega (arith, i, j));
      readable = q.readable;
    }

factor_tidy : {x : Axis} {u : Bool} {ts rest : List Token} → SpellsFactor x u ts rest → u ≡ false → AllSound ts → TidyOf (axis_marks x) ts rest
factor_tidy (SpellsFactor.plain d) h r = axis_tidy d h r
factor_tidy (SpellsFactor.zip {xs = xs} low high d) h r =
    let p = axes_tidy d h r.1.1 in
    record {
      size = p.size + 1;
      depth = p.depth + 1;
      tidy = subst (IsTidy (p.size + 1) (p.depth + 1)) (axis-Zip xs) (called_of kw.Zip (listed (map axis_marks xs)) p.size p.depth p.tidy);
      low = (let i = p.low in omega (arith, i));
      fewer = (let i = p.fewer in omega (arith, i));
      readable = p.readable.1;
    }

factors_tidy : {xs : List Axis} {u : Bool} {ts rest : List Token} → SpellsFactors xs u ts rest → u ≡ false → AllSound ts → TidyOf (listed (map axis_marks xs)) ts rest
factors_tidy (SpellsFactors.last {x = x} d) h r =
    let p = factor_tidy d h r in
    record { size = p.size; depth = p.depth; tidy = one_part p.size p.depth (axis_marks x) p.tidy; low = p.low; fewer = p.fewer; readable = p.readable }
factors_tidy (SpellsFactors.more {x = x} {xs = xs} {u = u} {v = v} d s) h r =
    let p = factor_tidy d (left_false u v h) r in
    let q = factors_tidy s (right_false u v h) p.readable.1 in
    let P : List Mark → Type 0 = λ ms. IsTidy (p.size + 1 + q.size) (p.depth + q.depth) (λ a. axis_marks x a ++ ms) in
    record {
      size = p.size + 1 + q.size;
      depth = p.depth + q.depth;
      tidy = subst P (sym (factors_comma s)) (comma_tidy p.size q.size p.depth q.depth (axis_marks x) (listed (map axis_marks xs)) p.tidy q.tidy);
      low = (let i = p.low in let j = q.low in omega (arith, i, j));
      fewer = (let i = p.fewer in let j = q.fewer in omega (arith, i, j));
      readable = q.readable;
    }

head_tidy : {xs : List Axis} {product u : Bool} {ts rest : List Token} → SpellsHead xs product u ts rest → u ≡ false → AllSound ts → TidyOf (head_marks xs product) ts rest
head_tidy (SpellsHead.alone {x = x} d) h r =
    let p = factor_tidy d h r in
    record { size = p.size; depth = p.depth; tidy = one_part p.size p.depth (axis_marks x) p.tidy; low = p.low; fewer = p.fewer; readable = p.readable }
head_tidy (SpellsHead.product {xs = xs} low high d) h r =
    let p = factors_tidy d h r.1.1 in
    record {
      size = p.size + 1;
      depth = p.depth + 1;
      tidy = called_of kw.Product (listed (map axis_marks xs)) p.size p.depth p.tidy;
      low = (let i = p.low in omega (arith, i));
      fewer = (let i = p.fewer in omega (arith, i));
      readable = p.readable.1;
    }

-- ---- towers

tower_tidy : {x : TowerExpr} {u : Bool} {ts rest : List Token} → SpellsTower x u ts rest → u ≡ false → AllSound ts → TidyOf (tower_marks x) ts rest
tower_tidy (SpellsTower.leaf {d = d} {x = x} is p) h r =
    let q = expr_of p h r.1.1 in
    record {
      size = q.size + 1;
      depth = q.depth + 1;
      tidy = subst (IsTidy (q.size + 1) (q.depth + 1)) (tower-Leaf d x) (called_of (kind_word d) (expr_marks x) q.size q.depth q.tidy);
      low = (let i = q.low in omega (arith, i));
      fewer = (let i = q.fewer in omega (arith, i));
      readable = q.readable.1;
    }
tower_tidy SpellsTower.count h r = record {
  size = 1;
  depth = 1;
  tidy = subst (IsTidy 1 1) tower-Count (tidy_called 0 0 kw.Count [] (record { laid = tt; size = refl; opens = opens_none 0 }));
  low = omega arith;
  fewer = omega arith;
  readable = r.1.1.1;
}
tower_tidy (SpellsTower.grouped {key = key} {x = x} {u = u} {v = v} p t) h r =
    let i = expr_of p (left_false u v h) r.1.1 in
    let j = tower_tidy t (right_false u v h) i.readable.1 in
    record {
      size = i.size + 1 + j.size + 1;
      depth = i.depth + j.depth + 1;
      tidy = subst (IsTidy (i.size + 1 + j.size + 1) (i.depth + j.depth + 1)) (tower-Grouped key x)
          (called_of kw.Group (λ a. expr_marks key a ++ glued comma ∷ tower_marks x true) (i.size + 1 + j.size) (i.depth + j.depth)
          (comma_tidy i.size j.size i.depth j.depth (expr_marks key) (tower_marks x) i.tidy j.tidy));
      low = (let m = i.low in let n = j.low in omega (arith, m, n));
      fewer = (let m = i.fewer in let n = j.fewer in omega (arith, m, n));
      readable = j.readable.1;
    }
tower_tidy (SpellsTower.both {x = x} {y = y} {u = u} {v = v} s t) h r =
    let i = tower_tidy s (left_false u v h) r.1.1 in
    let j = tower_tidy t (right_false u v h) i.readable.1 in
    record {
      size = i.size + 1 + j.size + 1;
      depth = i.depth + j.depth + 1;
      tidy = subst (IsTidy (i.size + 1 + j.size + 1) (i.depth + j.depth + 1)) (tower-Both x y)
          (called_of kw.Both (λ a. tower_marks x a ++ glued comma ∷ tower_marks y true) (i.size + 1 + j.size) (i.depth + j.depth)
          (comma_tidy i.size j.size i.depth j.depth (tower_marks x) (tower_marks y) i.tidy j.tidy));
      low = (let m = i.low in let n = j.low in omega (arith, m, n));
      fewer = (let m = i.fewer in let n = j.fewer in omega (arith, m, n));
      readable = j.readable.1;
    }

-- ---- what may stand behind any token

record Stands (k d : ℕ) (ms : List Mark) : Type 0 where
  laid : (s : Bool) → Laid s ms
  size : others_in ms ≡ k
  opens : Opens d ms

stands_none : Stands 0 0 []
stands_none = record { laid = λ s. tt; size = refl; opens = opens_none 0 }

stands_of : (k d : ℕ) (m : Written) → IsTidy k d m → Stands k d (m true)
stands_of k d m h = record { laid = λ s. h.laid true s refl; size = h.size true; opens = h.opens true }

stands_more : (k d : ℕ) (t : Token) (ms : List Mark) → IsSound t → is_no_parenthesis t ≡ true → Stands k d ms → Stands (k + 1) d (apart t ∷ ms)
stands_more k d t ms r np h = record {
  laid = λ s. (r, refl, h.laid (is_loose t));
  size = (let e = h.size in let one = ap one_if np in omega (arith, one, e));
  opens = opens_token d (apart t) ms np h.opens;
}

stands_append : (j k d c : ℕ) (xs ys : List Mark) → Stands j d xs → Stands k c ys → Stands (j + k) (d + c) (xs ++ ys)
stands_append j k d c xs ys h g = record {
  laid = λ s. laid_append s xs ys (h.laid s) g.laid;
  size = (let e = others-append xs ys in let i = h.size in let o = g.size in omega (arith, e, i, o));
  opens = opens_append (d + c) xs ys (opens_more d (d + c) xs (omega arith) h.opens) (opens_more c (d + c) ys (omega arith) g.opens);
}

record TidyInner (hs : List Inner) (ts : List Token) : Type 0 where
  size : ℕ
  depth : ℕ
  stands : Stands size depth (inner_marks hs)
  low : depth ≤ size
  fewer : size ≤ others ts

inner_tidy : {hs : List Inner} {u : Bool} {ts : List Token} → SpellsInner hs u ts → u ≡ false → AllSound ts → TidyInner hs ts
inner_tidy SpellsInner.none h r = record { size = 0; depth = 0; stands = stands_none; low = omega arith; fewer = omega arith }
inner_tidy (SpellsInner.more {n = n} {r = x} {hs = hs} {u = u} {v = v} d s) h r =
    let p = range_tidy d (left_false u v h) r.1.1.1 in
    let q = inner_tidy s (right_false u v h) p.readable in
    let tail = stands_append p.size q.size p.depth q.depth (range_marks x true) (inner_marks hs) (stands_of p.size p.depth (range_marks x) p.tidy) q.stands in
    let named = stands_more (p.size + q.size + 1) (p.depth + q.depth) (tok.Name n) (apart (tok.Keyword kw.In) ∷ range_marks x true ++ inner_marks hs) r.1.0 refl
    (stands_more (p.size + q.size) (p.depth + q.depth) (tok.Keyword kw.In) (range_marks x true ++ inner_marks hs) (word_sound kw.In) refl tail) in
    record {
      size = p.size + q.size + 1 + 1 + 1;
      depth = p.depth + q.depth;
      stands = record {
        laid = λ o. edge_laid o comma (apart (tok.Name n) ∷ apart (tok.Keyword kw.In) ∷ range_marks x true ++ inner_marks hs) (sign_sound sg.Comma) refl (named.laid true);
        size = (let e = named.size in omega (arith, e));
        opens = opens_token (p.depth + q.depth) (glued comma) (apart (tok.Name n) ∷ apart (tok.Keyword kw.In) ∷ range_marks x true ++ inner_marks hs) refl named.opens;
      };
      low = (let i = p.low in let j = q.low in omega (arith, i, j));
      fewer = (let i = p.fewer in let j = q.fewer in omega (arith, i, j));
    }

-- ---- lines

pub record TidyLine (x : Line) (ts : List Token) : Type 0 where
  pub size : ℕ
  pub depth : ℕ
  pub tidy : AreTidy size depth (line_marks x)
  pub low : depth ≤ size
  pub fewer : size ≤ others ts

begins : (k d : ℕ) (t : Token) (ms : List Mark) → IsSound t → is_no_parenthesis t ≡ true → Stands k d ms → AreTidy (k + 1) d (glued t ∷ ms)
begins k d t ms r np h = record {
  laid = (r, refl, h.laid (is_loose t));
  size = (let e = h.size in let one = ap one_if np in omega (arith, one, e));
  opens = opens_token d (glued t) ms np h.opens;
}

assigned : (k d : ℕ) (n : List ℕ) (m : Written) → IsSound (tok.Name n) → IsTidy k d m → Stands (k + 1 + 1) d (apart (tok.Name n) ∷ apart (tok.Sign sg.Assign) ∷ m true)
assigned k d n m r h = stands_more (k + 1) d (tok.Name n) (apart (tok.Sign sg.Assign) ∷ m true) r refl (stands_more k d (tok.Sign sg.Assign) (m true) (sign_sound sg.Assign) refl (stands_of k d m h))

-- a line of one word
word_tidy : (x : Line) (t : Token) → IsSound t → is_no_parenthesis t ≡ true → line_marks x ≡ glued t ∷ [] → TidyLine x (t ∷ [])
word_tidy x t r np same = record {
  size = 1;
  depth = 0;
  tidy = subst (AreTidy 1 0) (sym same) (begins 0 0 t [] r np stands_none);
  low = omega arith;
  fewer = (let one = ap one_if np in omega (arith, one));
}

-- a word and an expression
condition_tidy : (y : Line) {x : Expr} {u : Bool} {ts : List Token} (word : Keyword) → line_marks y ≡ glued (tok.Keyword word) ∷ expr_marks x true → Spells level.Expr x u ts [] → u ≡ false → AllSound ts →
    TidyLine y (tok.Keyword word ∷ ts)
condition_tidy y {x = x} word same d h r =
    let p = expr_of d h r in
    record {
      size = p.size + 1;
      depth = p.depth;
      tidy = subst (AreTidy (p.size + 1) p.depth) (sym same) (begins p.size p.depth (tok.Keyword word) (expr_marks x true) (word_sound word) refl (stands_of p.size p.depth (expr_marks x) p.tidy));
      low = (let i = p.low in omega (arith, i));
      fewer = (let i = p.fewer in omega (arith, i));
    }

-- a word, a name, `=` and what follows
assigned_tidy : (y : Line) (m : Written) {ts : List Token} (t : Token) (n : List ℕ) → line_marks y ≡ glued t ∷ apart (tok.Name n) ∷ apart (tok.Sign sg.Assign) ∷ m true → IsSound t → is_no_parenthesis t ≡ true →
    IsSound (tok.Name n) → TidyOf m ts [] → TidyLine y (t ∷ tok.Name n ∷ tok.Sign sg.Assign ∷ ts)
assigned_tidy y m t n same r np named p = record {
  size = p.size + 1 + 1 + 1;
  depth = p.depth;
  tidy = subst (AreTidy (p.size + 1 + 1 + 1) p.depth) (sym same)
      (begins (p.size + 1 + 1) p.depth t (apart (tok.Name n) ∷ apart (tok.Sign sg.Assign) ∷ m true) r np (assigned p.size p.depth n m named p.tidy));
  low = (let i = p.low in omega (arith, i));
  fewer = (let i = p.fewer in let one = ap one_if np in omega (arith, i, one));
}

-- what follows the name of an `@reduce` line
reduce_tidy : (n : List ℕ) (x : TowerExpr) (start : Option Value) {ts : List Token} (k d : ℕ) (ms : List Mark) → folded_marks x start ≡ ms → IsSound (tok.Name n) → Stands k d ms → d ≤ k → k ≤ others ts →
    TidyLine (l.Reduce n x start) (tok.At at.Reduce ∷ tok.Name n ∷ ts)
reduce_tidy n x start k d ms same named h low fewer =
    let P : List Mark → Type 0 = λ ns. AreTidy (k + 1 + 1) d (glued (tok.At at.Reduce) ∷ apart (tok.Name n) ∷ ns) in
    record {
      size = k + 1 + 1;
      depth = d;
      tidy = subst P (sym same) (begins (k + 1) d (tok.At at.Reduce) (apart (tok.Name n) ∷ ms) (at_sound at.Reduce) refl (stands_more k d (tok.Name n) ms named refl h));
      low = omega (arith, low);
      fewer = omega (arith, fewer);
    }

plain_tower : (n : List ℕ) (x : TowerExpr) {ts : List Token} → folded_marks x None ≡ apart (tok.Sign sg.Assign) ∷ tower_marks x true ++ [] → IsSound (tok.Name n) → TidyOf (tower_marks x) ts [] →
    TidyLine (l.Reduce n x None) (tok.At at.Reduce ∷ tok.Name n ∷ tok.Sign sg.Assign ∷ ts)
plain_tower n x same named p =
    let tail : Stands p.size p.depth (tower_marks x true ++ []) = stands_of p.size p.depth (λ a. tower_marks x a ++ []) (one_part p.size p.depth (tower_marks x) p.tidy) in
    reduce_tidy n x None (p.size + 1) p.depth (apart (tok.Sign sg.Assign) ∷ tower_marks x true ++ []) same named
    (stands_more p.size p.depth (tok.Sign sg.Assign) (tower_marks x true ++ []) (sign_sound sg.Assign) refl tail) (let i = p.low in omega (arith, i)) (let i = p.fewer in omega (arith, i))

sum_tower : (n : List ℕ) (d : Kind) (x p : Expr) {ts : List Token} (k : ℕ) → IsTidy k k (expr_marks x) → k + 1 ≤ others ts → IsSound (tok.Name n) → tower.Leaf d x ≡ tower.Leaf kind.Sum p →
    TidyLine (l.Reduce n (tower.Leaf d x) None) (tok.At at.Reduce ∷ tok.Name n ∷ ts)
sum_tower n d x p {ts = ts} k h fewer named same =
    let P : Kind → Type 0 = λ c. TidyLine (l.Reduce n (tower.Leaf c x) None) (tok.At at.Reduce ∷ tok.Name n ∷ ts) in
    let sum : kind.Sum ≡ d = cc in
    subst P sum (reduce_tidy n (tower.Leaf kind.Sum x) None (k + 1) k (apart (tok.Sign sg.PlusAssign) ∷ expr_marks x true) refl named
    (stands_more k k (tok.Sign sg.PlusAssign) (expr_marks x true) (sign_sound sg.PlusAssign) refl (stands_of k k (expr_marks x) h)) (omega arith) fewer)

reduced_tidy : (n : List ℕ) {x : TowerExpr} {u : Bool} {ts : List Token} → SpellsTower x u ts [] → u ≡ false → IsSound (tok.Name n) → AllSound ts →
    TidyLine (l.Reduce n x None) (tok.At at.Reduce ∷ tok.Name n ∷ tok.Sign sg.Assign ∷ ts)
reduced_tidy n (SpellsTower.leaf {d = d} {x = x} is p) h named r =
    let q = expr_tidy p h r.1.1 in
    folded_either (tower.Leaf d x) (λ y same. sum_tower n d x y q.size q.tidy.whole (let i = q.fewer in omega (arith, i)) named same)
    (λ same. plain_tower n (tower.Leaf d x) same named (tower_tidy (SpellsTower.leaf is p) h r))
reduced_tidy n SpellsTower.count h named r = plain_tower n tower.Count refl named (tower_tidy SpellsTower.count refl r)
reduced_tidy n (SpellsTower.grouped {key = key} {x = x} p t) h named r = plain_tower n (tower.Grouped key x) (search (rules, tower_lemmas)) named (tower_tidy (SpellsTower.grouped p t) h r)
reduced_tidy n (SpellsTower.both {x = x} {y = y} s t) h named r = plain_tower n (tower.Both x y) (search (rules, tower_lemmas)) named (tower_tidy (SpellsTower.both s t) h r)

named_sound : {n m : List ℕ} → n ≡ m → IsSound (tok.Name n) → IsSound (tok.Name m)
named_sound e h = subst (λ z. IsSound (tok.Name z)) e h

pub line_tidy : {x : Line} {u : Bool} {ts : List Token} → SpellsLine x u ts → u ≡ false → AllSound ts → TidyLine x ts
line_tidy (SpellsLine.skip_faults p q i) h r =
    let fault = named_sound q r.1.0 in
    let skip = named_sound i r.1.1.0 in
    record {
      size = 3;
      depth = 0;
      tidy = begins 2 0 (tok.Name (codes "on")) (apart (tok.Name (codes "fault")) ∷ apart (tok.Name (codes "skip")) ∷ []) (named_sound p r.0) refl
          (stands_more 1 0 (tok.Name (codes "fault")) (apart (tok.Name (codes "skip")) ∷ []) fault refl (stands_more 0 0 (tok.Name (codes "skip")) [] skip refl stands_none));
      low = omega arith;
      fewer = omega arith;
    }
line_tidy (SpellsLine.var {n = n} {v = v} d) h r = assigned_tidy (l.Var n v) (value_marks v) (tok.Keyword kw.Var) n refl (word_sound kw.Var) refl r.1.0 (literal_tidy d h r.1.1.1)
line_tidy (SpellsLine.init {n = n} {v = v} d) h r = assigned_tidy (l.Init n v) (value_marks v) (tok.At at.Init) n refl (at_sound at.Init) refl r.1.0 (literal_tidy d h r.1.1.1)
line_tidy (SpellsLine.for_ {ns = ns} {xs = xs} {product = product} {u = u} {v = v} {hs = hs} few p d s) h r =
    let i = pattern_tidy p r.1 in
    let j = head_tidy d (left_false u v h) i.readable.1 in
    let k = inner_tidy s (right_false u v h) j.readable in
    let goes = stands_more j.size j.depth (tok.Keyword kw.In) (head_marks xs product true) (word_sound kw.In) refl (stands_of j.size j.depth (head_marks xs product) j.tidy) in
    let front = stands_append i.size (j.size + 1) i.depth j.depth (pattern_marks ns true) (apart (tok.Keyword kw.In) ∷ head_marks xs product true) (stands_of i.size i.depth (pattern_marks ns) i.tidy) goes in
    let all = stands_append (i.size + (j.size + 1)) k.size (i.depth + j.depth) k.depth (pattern_marks ns true ++ apart (tok.Keyword kw.In) ∷ head_marks xs product true) (inner_marks hs) front k.stands in
    record {
      size = i.size + (j.size + 1) + k.size + 1;
      depth = i.depth + j.depth + k.depth;
      tidy = begins (i.size + (j.size + 1) + k.size) (i.depth + j.depth + k.depth) (tok.Keyword kw.For) (pattern_marks ns true ++ apart (tok.Keyword kw.In) ∷ head_marks xs product true ++ inner_marks hs) (word_sound kw.For) refl all;
      low = (let a = i.low in let b = j.low in let c = k.low in omega (arith, a, b, c));
      fewer = (let a = i.fewer in let b = j.fewer in let c = k.fewer in omega (arith, a, b, c));
    }
line_tidy (SpellsLine.let_ {ns = ns} {x = x} p d) h r =
    let i = pattern_tidy p r.1 in
    let j = expr_of d h i.readable.1 in
    let goes = stands_more j.size j.depth (tok.Sign sg.Assign) (expr_marks x true) (sign_sound sg.Assign) refl (stands_of j.size j.depth (expr_marks x) j.tidy) in
    let all = stands_append i.size (j.size + 1) i.depth j.depth (pattern_marks ns true) (apart (tok.Sign sg.Assign) ∷ expr_marks x true) (stands_of i.size i.depth (pattern_marks ns) i.tidy) goes in
    record {
      size = i.size + (j.size + 1) + 1;
      depth = i.depth + j.depth;
      tidy = begins (i.size + (j.size + 1)) (i.depth + j.depth) (tok.Keyword kw.Let) (pattern_marks ns true ++ apart (tok.Sign sg.Assign) ∷ expr_marks x true) (word_sound kw.Let) refl all;
      low = (let a = i.low in let b = j.low in omega (arith, a, b));
      fewer = (let a = i.fewer in let b = j.fewer in omega (arith, a, b));
    }
line_tidy (SpellsLine.set {n = n} {x = x} d) h r =
    let p = expr_of d h r.1.1 in
    record {
      size = p.size + 1 + 1;
      depth = p.depth;
      tidy = begins (p.size + 1) p.depth (tok.Name n) (apart (tok.Sign sg.Assign) ∷ expr_marks x true) r.0 refl
          (stands_more p.size p.depth (tok.Sign sg.Assign) (expr_marks x true) (sign_sound sg.Assign) refl (stands_of p.size p.depth (expr_marks x) p.tidy));
      low = (let i = p.low in omega (arith, i));
      fewer = (let i = p.fewer in omega (arith, i));
    }
line_tidy (SpellsLine.if_ {x = x} d) h r = condition_tidy (l.If x) kw.If refl d h r.1
line_tidy (SpellsLine.elseif {x = x} d) h r = condition_tidy (l.ElseIf x) kw.ElseIf refl d h r.1
line_tidy SpellsLine.else_ h r = word_tidy l.Else (tok.Keyword kw.Else) (word_sound kw.Else) refl refl
line_tidy (SpellsLine.keep {n = n} {x = x} d) h r = assigned_tidy (l.Keep n x) (expr_marks x) (tok.At at.Keep) n refl (at_sound at.Keep) refl r.1.0 (expr_of d h r.1.1.1)
line_tidy (SpellsLine.add {n = n} {x = x} d) h r =
    let p = expr_tidy d h r.1.1.1 in
    sum_tower n kind.Sum x x p.size p.tidy.whole (let i = p.fewer in omega (arith, i)) r.1.0 refl
line_tidy (SpellsLine.reduce {n = n} d) h r = reduced_tidy n d h r.1.0 r.1.1.1
line_tidy (SpellsLine.reduce_from {n = n} {x = x} {v = v} {u = u} {w = w} d s) h r =
    let i = tower_tidy d (left_false u w h) r.1.1.1 in
    let j = literal_tidy s (right_false u w h) i.readable.1 in
    let goes = stands_more j.size j.depth (tok.Keyword kw.From) (value_marks v true) (word_sound kw.From) refl (stands_of j.size j.depth (value_marks v) j.tidy) in
    let all = stands_append i.size (j.size + 1) i.depth j.depth (tower_marks x true) (start_marks (Some v)) (stands_of i.size i.depth (tower_marks x) i.tidy) goes in
    reduce_tidy n x (Some v) (i.size + (j.size + 1) + 1) (i.depth + j.depth) (apart (tok.Sign sg.Assign) ∷ tower_marks x true ++ start_marks (Some v)) (folded_from x v) r.1.0
    (stands_more (i.size + (j.size + 1)) (i.depth + j.depth) (tok.Sign sg.Assign) (tower_marks x true ++ start_marks (Some v)) (sign_sound sg.Assign) refl all)
    (let a = i.low in let b = j.low in omega (arith, a, b)) (let a = i.fewer in let b = j.fewer in omega (arith, a, b))
line_tidy SpellsLine.continue h r = word_tidy l.Continue (tok.Keyword kw.Continue) (word_sound kw.Continue) refl refl
line_tidy SpellsLine.break h r = word_tidy l.Break (tok.Keyword kw.Break) (word_sound kw.Break) refl refl
line_tidy SpellsLine.end h r = word_tidy l.End (tok.Keyword kw.End) (word_sound kw.End) refl refl
line_tidy (SpellsLine.print {n = n}) h r = record {
  size = 2;
  depth = 0;
  tidy = begins 1 0 (tok.Keyword kw.Print) (apart (tok.Name n) ∷ []) (word_sound kw.Print) refl (stands_more 0 0 (tok.Name n) [] r.1.0 refl stands_none);
  low = omega arith;
  fewer = omega arith;
}

pub line_readable : {x : Line} {u : Bool} {ts : List Token} → SpellsLine x u ts → u ≡ false → AllSound ts → AreReadable (line_marks x)
line_readable {x = x} d h r = readable_marks true (line_marks x) (line_tidy d h r).tidy.laid

pub line_utf8 : {x : Line} {u : Bool} {ts : List Token} → SpellsLine x u ts → u ≡ false → AllSound ts → AllUtf8 (tokens_in (line_marks x))
line_utf8 {x = x} d h r = utf8_marks true (line_marks x) (line_tidy d h r).tidy.laid

both_false : (a b : Bool) → a ≡ false → b ≡ false → (a || b) ≡ false
both_false true b h g = h
both_false false b h g = g

not_above : (n m : ℕ) → n ≤ m → nat_lt m n ≡ false
not_above n m h = grind (arith, nat_tests)

not_below : (n m : ℕ) → nat_lt m n ≡ false → n ≤ m
not_below n m h = grind (arith, nat_tests)

-- what is written of a line within the limits is within them
pub line_narrow : {x : Line} {u : Bool} {ts : List Token} → SpellsLine x u ts → u ≡ false → AllSound ts → is_too_deep ts ≡ false → is_too_deep (tokens_in (line_marks x)) ≡ false
line_narrow {x = x} {ts = ts} d h r narrow =
    let p = line_tidy d h r in
    let ms = line_marks x in
    let few : count_by is_no_parenthesis ts ≤ 256 = not_below (count_by is_no_parenthesis ts) 256 (left_false (nat_lt 256 (count_by is_no_parenthesis ts)) (nat_lt 256 (most_open 0 ts)) narrow) in
    let there : others ts ≡ count_by is_no_parenthesis ts = others_count ts in
    let back : others (tokens_in ms) ≡ count_by is_no_parenthesis (tokens_in ms) = others_count (tokens_in ms) in
    let same : others (tokens_in ms) ≡ others_in ms = others_there ms in
    let size : others_in ms ≡ p.size = p.tidy.size in
    let fewer : p.size ≤ others ts = p.fewer in
    let low : p.depth ≤ p.size = p.low in
    let deep : p.depth ≤ 256 = omega (arith, few, there, fewer, low) in
    let P : List Token → Type 0 = λ us. most_open 0 us ≤ 256 in
    let shallow : most_open 0 (tokens_in ms) ≤ 256 = subst P (onto-all ms) (p.tidy.opens 0 [] 256 (omega (arith, deep)) (omega arith)) in
    let small : count_by is_no_parenthesis (tokens_in ms) ≤ 256 = omega (arith, few, there, back, same, size, fewer) in
    both_false (nat_lt 256 (count_by is_no_parenthesis (tokens_in ms))) (nat_lt 256 (most_open 0 (tokens_in ms))) (not_above (count_by is_no_parenthesis (tokens_in ms)) 256 small)
    (not_above (most_open 0 (tokens_in ms)) 256 shallow)
