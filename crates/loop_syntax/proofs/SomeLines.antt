-- Some sound tokens spell each line whose parts are well formed.
use Rattle.std.proofs.Common.{◌≡◌, ℕ, suc, ◌≤◌, nat_le, Bool, true, false, ◌&&◌, List, [], ◌∷◌, length, codes, Option, Some, None, pos, negsuc, refl, ap, sym, ◌∙◌, subst, arith}
use Rattle.std.specs.List.{list_all}
use Rattle.std.specs.Str.{is_utf8}
use Rattle.std.proofs.lemmas.Bool.{and_parts, leb-true}
use Rattle.std.proofs.lemmas.Str.{IsUtf8-from_is_utf8}
use Rattle.loop_tokens.specs.declared.token.Token.{Token}
use Rattle.loop_tokens.specs.declared.token.Token.TheVariants as tok
use Rattle.loop_tokens.specs.declared.keyword.Keyword.{Keyword}
use Rattle.loop_tokens.specs.declared.keyword.Keyword.TheVariants as kw
use Rattle.loop_tokens.specs.declared.keyword.AtWord.TheVariants as at
use Rattle.loop_tokens.specs.declared.sign.Sign.TheVariants as sg
use Rattle.loop_tokens.specs.Literals.{number_of, escaped}
use Rattle.loop_data.specs.declared.value.Value.{Value}
use Rattle.loop_data.specs.declared.value.Value.TheVariants as val
use Rattle.loop_data.specs.declared.expr.Expr.{Expr}
use Rattle.loop_data.specs.declared.expr.RangeExpr.{RangeExpr}
use Rattle.loop_data.specs.declared.tower.Kind.{Kind, out-Kind, roll-Kind, roll-out-Kind}
use Rattle.loop_data.specs.declared.tower.Kind.TheOpen.{Kind-F, Kind-F as k}
use Rattle.loop_data.specs.declared.tower.Kind.TheVariants as kind
use Rattle.loop_data.specs.declared.tower.TowerExpr.{TowerExpr, roll-TowerExpr, fold-roll-TowerExpr, ind-TowerExpr, map-TowerExpr}
use Rattle.loop_data.specs.declared.tower.TowerExpr.TheVariants as tower
use Rattle.loop_data.specs.declared.tower.TowerExpr.TheOpen.{TowerExpr-F, TowerExpr-F as t}
use Rattle.loop_data.specs.declared.head.Axis.{Axis, out-Axis, roll-Axis, roll-out-Axis}
use Rattle.loop_data.specs.declared.head.Axis.TheVariants as axis
use Rattle.loop_data.specs.declared.head.Axis.TheOpen.{Axis-F, Axis-F as x}
use Rattle.loop_data.specs.declared.head.Inner.{Inner}
use Rattle.loop_exprs.specs.declared.level.Level.TheVariants as level
use Rattle.loop_exprs.specs.Operations.{positive_value, negative_value}
use Rattle.loop_exprs.specs.Grammar.{Spells}
use Rattle.loop_grammar.specs.declared.line.Line.{Line}
use Rattle.loop_grammar.specs.declared.line.Line.TheVariants as l
use Rattle.loop_grammar.specs.declared.line.Heads.{Heads}
use Rattle.loop_grammar.specs.LineForms.{SpellsLiteral, SpellsNames, SpellsPattern, SpellsRange, SpellsAxis, SpellsAxes, SpellsFactor, SpellsFactors, SpellsHead, SpellsInner, leaf_kind, SpellsTower, SpellsLine}
use Rattle.loop_grammar.specs.WellFormed.{is_name, is_literal, is_start, are_several, is_expr, is_step, is_range, leaf_at, is_leaf, tower_test, is_tower, is_pattern, plain_at, is_plain, factor_at, is_factor, is_head, is_inner, are_heads, is_form}
use Rattle.loop_layout.specs.Canonical.{open_, close, comma, colon, minus}
use Rattle.loop_layout.proofs.ReadableTokens.{readable_texts}
use Rattle.loop_layout.proofs.WrittenUtf8.{escaped_utf8}
use Rattle.loop_writer.proofs.Numbers.{digits_of, not_wide, not_wide_negative, positive_back, negative_back}
use Rattle.loop_writer.proofs.Tidy.{AllSound, word_sound, at_sound, sign_sound, number_sound}
use Rattle.loop_syntax.proofs.WellNamed.{name_sound}
use Rattle.loop_syntax.proofs.SomeExprs.{at_whole, narrow_positive, narrow_negative, expr_spelling}

-- sound tokens before others, from which P says what is spelled up to these
pub record Before (P : List Token → List Token → Type 0) : Type 0 where
  pub tokens : List Token → List Token
  pub spelled : (rest : List Token) → P (tokens rest) rest
  pub sound : (rest : List Token) → AllSound rest → AllSound (tokens rest)

expr_before : (x : Expr) → is_expr x ≡ true → Before (Spells level.Expr x false)
expr_before x h = let p = expr_spelling x h in record { tokens = p.tokens; spelled = λ rest. at_whole (p.spelled rest); sound = p.sound }

-- ---- literals

literal_before : (v : Value) → is_literal v ≡ true → Before (SpellsLiteral v false)
literal_before (val.Int (pos n)) h =
    let wide = narrow_positive n h in
    let back = positive_back n wide in
    record {
      tokens = λ rest. tok.Number (digits_of n) ∷ rest;
      spelled = λ rest. subst (λ i. SpellsLiteral (val.Int i) false (tok.Number (digits_of n) ∷ rest) rest) back.value
          (subst (λ u. SpellsLiteral (val.Int (positive_value (number_of (digits_of n)))) u (tok.Number (digits_of n) ∷ rest) rest) back.wide (SpellsLiteral.number {n = digits_of n} {rest = rest}));
      sound = λ rest r. (number_sound n (not_wide n wide), r);
    }
literal_before (val.Int (negsuc n)) h =
    let wide = narrow_negative n h in
    let back = negative_back n wide in
    let ds = digits_of (suc n) in
    record {
      tokens = λ rest. minus ∷ tok.Number ds ∷ rest;
      spelled = λ rest. subst (λ i. SpellsLiteral (val.Int i) false (minus ∷ tok.Number ds ∷ rest) rest) back.value
          (subst (λ u. SpellsLiteral (val.Int (negative_value (number_of ds))) u (minus ∷ tok.Number ds ∷ rest) rest) back.wide (SpellsLiteral.negative {n = ds} {rest = rest}));
      sound = λ rest r. (sign_sound sg.Minus, (number_sound (suc n) (not_wide_negative (suc n) wide), r));
    }
literal_before (val.Bool true) h = record { tokens = λ rest. tok.Keyword kw.True ∷ rest; spelled = λ rest. SpellsLiteral.yes; sound = λ rest r. (word_sound kw.True, r) }
literal_before (val.Bool false) h = record { tokens = λ rest. tok.Keyword kw.False ∷ rest; spelled = λ rest. SpellsLiteral.no; sound = λ rest r. (word_sound kw.False, r) }
literal_before (val.Text s) h = record {
  tokens = λ rest. tok.Text (escaped s) ∷ rest;
  spelled = λ rest. subst (λ t. SpellsLiteral (val.Text t) false (tok.Text (escaped s) ∷ rest) rest) (readable_texts s).1 (SpellsLiteral.text {raw = escaped s} {rest = rest});
  sound = λ rest r. (((readable_texts s).0, escaped_utf8 s (IsUtf8-from_is_utf8 s h)), r);
}
literal_before _ h = absurd (cc)

-- ---- patterns

names_before : (n : List ℕ) (ns : List (List ℕ)) → list_all is_name (n ∷ ns) ≡ true → Before (SpellsNames (n ∷ ns))
names_before n [] h = let p = and_parts (is_name n) true h in record { tokens = λ rest. tok.Name n ∷ rest; spelled = λ rest. SpellsNames.last; sound = λ rest r. (name_sound n p.0, r) }
names_before n (m ∷ ns) h =
    let p = and_parts (is_name n) (list_all is_name (m ∷ ns)) h in
    let q = names_before m ns p.1 in
    record {
      tokens = λ rest. tok.Name n ∷ comma ∷ q.tokens rest;
      spelled = λ rest. SpellsNames.more (q.spelled rest);
      sound = λ rest r. (name_sound n p.0, (sign_sound sg.Comma, q.sound rest r));
    }

pattern_before : (ns : List (List ℕ)) → is_pattern ns ≡ true → Before (SpellsPattern ns)
pattern_before [] h = absurd (let no : nat_le 1 0 ≡ true = (and_parts (nat_le 1 0) true h).0 in cc)
pattern_before (n ∷ []) h =
    let p = and_parts (is_name n) true (and_parts (nat_le 1 4) (is_name n && true) (and_parts (nat_le 1 1) (nat_le 1 4 && (is_name n && true)) h).1).1 in
    record { tokens = λ rest. tok.Name n ∷ rest; spelled = λ rest. SpellsPattern.one; sound = λ rest r. (name_sound n p.0, r) }
pattern_before (n ∷ m ∷ ns) h =
    let all : List (List ℕ) = n ∷ m ∷ ns in
    let p = and_parts (nat_le 1 (length all)) (nat_le (length all) 4 && list_all is_name all) h in
    let q = and_parts (nat_le (length all) 4) (list_all is_name all) p.1 in
    let r = names_before n (m ∷ ns) q.1 in
    record {
      tokens = λ rest. open_ ∷ r.tokens (close ∷ rest);
      spelled = λ rest. SpellsPattern.several (omega arith) (leb-true (length all) 4 q.0) (r.spelled (close ∷ rest));
      sound = λ rest g. (sign_sound sg.Open, r.sound (close ∷ rest) (sign_sound sg.Close, g));
    }

-- ---- ranges and axes

range_parts : (r : RangeExpr) (step : Option Expr) → r.step ≡ step → is_expr r.first ≡ true → is_step step ≡ true → is_expr r.last ≡ true → Before (SpellsRange r false)
range_parts r None same f s g =
    let p = expr_before r.first f in
    let q = expr_before r.last g in
    record {
      tokens = λ rest. p.tokens (colon ∷ q.tokens rest);
      spelled = λ rest. subst (λ (o : Option Expr). SpellsRange (record { first = r.first; step = o; last = r.last }) false (p.tokens (colon ∷ q.tokens rest)) rest) (sym same)
          (SpellsRange.by_one (p.spelled (colon ∷ q.tokens rest)) (q.spelled rest));
      sound = λ rest h. p.sound (colon ∷ q.tokens rest) (sign_sound sg.Colon, q.sound rest h);
    }
range_parts r (Some x) same f s g =
    let p = expr_before r.first f in
    let o = expr_before x s in
    let q = expr_before r.last g in
    record {
      tokens = λ rest. p.tokens (colon ∷ o.tokens (colon ∷ q.tokens rest));
      spelled = λ rest. subst (λ (z : Option Expr). SpellsRange (record { first = r.first; step = z; last = r.last }) false (p.tokens (colon ∷ o.tokens (colon ∷ q.tokens rest))) rest) (sym same)
          (SpellsRange.by_step (p.spelled (colon ∷ o.tokens (colon ∷ q.tokens rest))) (o.spelled (colon ∷ q.tokens rest)) (q.spelled rest));
      sound = λ rest h. p.sound (colon ∷ o.tokens (colon ∷ q.tokens rest)) (sign_sound sg.Colon, o.sound (colon ∷ q.tokens rest) (sign_sound sg.Colon, q.sound rest h));
    }

range_before : (r : RangeExpr) → is_range r ≡ true → Before (SpellsRange r false)
range_before r h =
    let p = and_parts (is_expr r.first) (is_step r.step && is_expr r.last) h in
    let q = and_parts (is_step r.step) (is_expr r.last) p.1 in
    range_parts r r.step refl p.0 q.0 q.1

-- an axis that is a range or a column
axis_steps : (r : RangeExpr) → is_range r ≡ true → Before (SpellsAxis (axis.Steps r) false)
axis_steps r h = let p = range_before r h in record { tokens = p.tokens; spelled = λ rest. SpellsAxis.steps (p.spelled rest); sound = p.sound }

axis_column : (n : List ℕ) → is_utf8 n ≡ true → Before (SpellsAxis (axis.Col n) false)
axis_column n h = record {
  tokens = λ rest. tok.Keyword kw.Col ∷ open_ ∷ tok.Text (escaped n) ∷ close ∷ rest;
  spelled = λ rest. subst (λ t. SpellsAxis (axis.Col t) false (tok.Keyword kw.Col ∷ open_ ∷ tok.Text (escaped n) ∷ close ∷ rest) rest) (readable_texts n).1 (SpellsAxis.column {raw = escaped n} {rest = rest});
  sound = λ rest r. (word_sound kw.Col, (sign_sound sg.Open, (((readable_texts n).0, escaped_utf8 n (IsUtf8-from_is_utf8 n h)), (sign_sound sg.Close, r))));
}

plain_layer : (y : Axis-F Axis) → plain_at y ≡ true → Before (SpellsAxis (roll-Axis y) false)
plain_layer (x.Steps r) h = subst (λ p. Before (SpellsAxis p false)) (sym (axis.rolls-Steps r)) (axis_steps r h)
plain_layer (x.Col n) h = subst (λ p. Before (SpellsAxis p false)) (sym (axis.rolls-Col n)) (axis_column n h)
plain_layer (x.Zip ps) h = absurd (cc)

axis_before : (p : Axis) → is_plain p ≡ true → Before (SpellsAxis p false)
axis_before p h = subst (λ q. Before (SpellsAxis q false)) (roll-out-Axis p) (plain_layer (out-Axis p) h)

axes_before : (p : Axis) (ps : List Axis) → list_all is_plain (p ∷ ps) ≡ true → Before (SpellsAxes (p ∷ ps) false)
axes_before p [] h =
    let q = and_parts (is_plain p) true h in
    let r = axis_before p q.0 in
    record { tokens = r.tokens; spelled = λ rest. SpellsAxes.last (r.spelled rest); sound = r.sound }
axes_before p (o ∷ ps) h =
    let q = and_parts (is_plain p) (list_all is_plain (o ∷ ps)) h in
    let r = axis_before p q.0 in
    let s = axes_before o ps q.1 in
    record {
      tokens = λ rest. r.tokens (comma ∷ s.tokens rest);
      spelled = λ rest. SpellsAxes.more (r.spelled (comma ∷ s.tokens rest)) (s.spelled rest);
      sound = λ rest g. r.sound (comma ∷ s.tokens rest) (sign_sound sg.Comma, s.sound rest g);
    }

-- two to four of something
abbrev pub Several : {A : Type 0} → List A → Type 0
Several xs = (2 ≤ length xs) × (length xs ≤ 4)

several : {A : Type 0} (xs : List A) → are_several xs ≡ true → Several xs
several xs h = let p = and_parts (nat_le 2 (length xs)) (nat_le (length xs) 4) h in (leb-true 2 (length xs) p.0, leb-true (length xs) 4 p.1)

zip_before : (ps : List Axis) → Several ps → list_all is_plain ps ≡ true → Before (SpellsFactor (axis.Zip ps) false)
zip_before [] s h = absurd (let no : 2 ≤ 0 = s.0 in omega arith)
zip_before (p ∷ ps) s h =
    let r = axes_before p ps h in
    record {
      tokens = λ rest. tok.Keyword kw.Zip ∷ open_ ∷ r.tokens (close ∷ rest);
      spelled = λ rest. SpellsFactor.zip s.0 s.1 (r.spelled (close ∷ rest));
      sound = λ rest g. (word_sound kw.Zip, (sign_sound sg.Open, r.sound (close ∷ rest) (sign_sound sg.Close, g)));
    }

plain_factor : (p : Axis) → Before (SpellsAxis p false) → Before (SpellsFactor p false)
plain_factor p r = record { tokens = r.tokens; spelled = λ rest. SpellsFactor.plain (r.spelled rest); sound = r.sound }

factor_layer : (y : Axis-F Axis) → factor_at y ≡ true → Before (SpellsFactor (roll-Axis y) false)
factor_layer (x.Steps r) h = plain_factor (roll-Axis (x.Steps r)) (plain_layer (x.Steps r) h)
factor_layer (x.Col n) h = plain_factor (roll-Axis (x.Col n)) (plain_layer (x.Col n) h)
factor_layer (x.Zip ps) h =
    let q = and_parts (are_several ps) (list_all is_plain ps) h in
    subst (λ p. Before (SpellsFactor p false)) (sym (axis.rolls-Zip ps)) (zip_before ps (several ps q.0) q.1)

factor_before : (p : Axis) → is_factor p ≡ true → Before (SpellsFactor p false)
factor_before p h = subst (λ q. Before (SpellsFactor q false)) (roll-out-Axis p) (factor_layer (out-Axis p) h)

factors_before : (p : Axis) (ps : List Axis) → list_all is_factor (p ∷ ps) ≡ true → Before (SpellsFactors (p ∷ ps) false)
factors_before p [] h =
    let q = and_parts (is_factor p) true h in
    let r = factor_before p q.0 in
    record { tokens = r.tokens; spelled = λ rest. SpellsFactors.last (r.spelled rest); sound = r.sound }
factors_before p (o ∷ ps) h =
    let q = and_parts (is_factor p) (list_all is_factor (o ∷ ps)) h in
    let r = factor_before p q.0 in
    let s = factors_before o ps q.1 in
    record {
      tokens = λ rest. r.tokens (comma ∷ s.tokens rest);
      spelled = λ rest. SpellsFactors.more (r.spelled (comma ∷ s.tokens rest)) (s.spelled rest);
      sound = λ rest g. r.sound (comma ∷ s.tokens rest) (sign_sound sg.Comma, s.sound rest g);
    }

-- ---- heads

product_before : (ps : List Axis) → Several ps → list_all is_factor ps ≡ true → Before (SpellsHead ps true false)
product_before [] s h = absurd (let no : 2 ≤ 0 = s.0 in omega arith)
product_before (p ∷ ps) s h =
    let r = factors_before p ps h in
    record {
      tokens = λ rest. tok.Keyword kw.Product ∷ open_ ∷ r.tokens (close ∷ rest);
      spelled = λ rest. SpellsHead.product s.0 s.1 (r.spelled (close ∷ rest));
      sound = λ rest g. (word_sound kw.Product, (sign_sound sg.Open, r.sound (close ∷ rest) (sign_sound sg.Close, g)));
    }

head_before : (product : Bool) (ps : List Axis) → is_head product ps ≡ true → Before (SpellsHead ps product false)
head_before true ps h = let q = and_parts (are_several ps) (list_all is_factor ps) h in product_before ps (several ps q.0) q.1
head_before false [] h = absurd (cc)
head_before false (p ∷ []) h = let r = factor_before p h in record { tokens = r.tokens; spelled = λ rest. SpellsHead.alone (r.spelled rest); sound = r.sound }
head_before false (p ∷ q ∷ ps) h = absurd (cc)

-- tokens of a whole line, or of its end
pub record Whole (P : List Token → Type 0) : Type 0 where
  pub tokens : List Token
  pub spelled : P tokens
  pub sound : AllSound tokens

inner_whole : (hs : List Inner) → list_all is_inner hs ≡ true → Whole (SpellsInner hs false)
inner_whole [] h = record { tokens = []; spelled = SpellsInner.none; sound = tt }
inner_whole (i ∷ hs) h =
    let q = and_parts (is_inner i) (list_all is_inner hs) h in
    let n = and_parts (is_name i.name) (is_range i.range) q.0 in
    let r = range_before i.range n.1 in
    let s = inner_whole hs q.1 in
    record {
      tokens = comma ∷ tok.Name i.name ∷ tok.Keyword kw.In ∷ r.tokens s.tokens;
      spelled = SpellsInner.more (r.spelled s.tokens) s.spelled;
      sound = (sign_sound sg.Comma, (name_sound i.name n.0, (word_sound kw.In, r.sound s.tokens s.sound)));
    }

-- ---- towers

-- the word of a kind of tower of one expression
leaf_layer : (y : Kind-F Kind) → leaf_at y ≡ true → (word : Keyword) × (leaf_kind word ≡ Some (roll-Kind y))
leaf_layer k.Sum h = (kw.Sum, ap Some (sym kind.rolls-Sum))
leaf_layer k.Prod h = (kw.Prod, ap Some (sym kind.rolls-Prod))
leaf_layer k.Least h = (kw.Min, ap Some (sym kind.rolls-Least))
leaf_layer k.Greatest h = (kw.Max, ap Some (sym kind.rolls-Greatest))
leaf_layer k.LeastAt h = (kw.ArgMin, ap Some (sym kind.rolls-LeastAt))
leaf_layer k.GreatestAt h = (kw.ArgMax, ap Some (sym kind.rolls-GreatestAt))
leaf_layer k.First h = (kw.First, ap Some (sym kind.rolls-First))
leaf_layer k.Last h = (kw.Last, ap Some (sym kind.rolls-Last))
leaf_layer k.Any h = (kw.Any, ap Some (sym kind.rolls-Any))
leaf_layer k.All h = (kw.All, ap Some (sym kind.rolls-All))
leaf_layer k.Listed h = (kw.List, ap Some (sym kind.rolls-Listed))
leaf_layer k.Count h = absurd (cc)
leaf_layer (k.Grouped a) h = absurd (cc)
leaf_layer (k.Both a b) h = absurd (cc)

leaf_word : (d : Kind) → is_leaf d ≡ true → (word : Keyword) × (leaf_kind word ≡ Some d)
leaf_word d h = subst (λ c. (word : Keyword) × (leaf_kind word ≡ Some c)) (roll-out-Kind d) (leaf_layer (out-Kind d) h)

abbrev HasTower : TowerExpr → Type 0
HasTower p = is_tower p ≡ true → Before (SpellsTower p false)

abbrev SuchTower : Type 0
SuchTower = (p : TowerExpr) × HasTower p

abbrev bare_tower : SuchTower → TowerExpr
bare_tower s = s.0

tower_layer : (y : TowerExpr-F SuchTower) → tower_test (map-TowerExpr TowerExpr Bool is_tower (map-TowerExpr SuchTower TowerExpr bare_tower y)) ≡ true →
    Before (SpellsTower (roll-TowerExpr (map-TowerExpr SuchTower TowerExpr bare_tower y)) false)
tower_layer (t.Leaf d p) h =
    let q = and_parts (is_leaf d) (is_expr p) h in
    let word = leaf_word d q.0 in
    let r = expr_before p q.1 in
    subst (λ o. Before (SpellsTower o false)) (sym (tower.rolls-Leaf d p)) (record {
      tokens = λ rest. tok.Keyword word.0 ∷ open_ ∷ r.tokens (close ∷ rest);
      spelled = λ rest. SpellsTower.leaf word.1 (r.spelled (close ∷ rest));
      sound = λ rest g. (word_sound word.0, (sign_sound sg.Open, r.sound (close ∷ rest) (sign_sound sg.Close, g)));
    })
tower_layer t.Count h = subst (λ o. Before (SpellsTower o false)) (sym tower.rolls-Count) (record {
  tokens = λ rest. tok.Keyword kw.Count ∷ open_ ∷ close ∷ rest;
  spelled = λ rest. SpellsTower.count;
  sound = λ rest g. (word_sound kw.Count, (sign_sound sg.Open, (sign_sound sg.Close, g)));
})
tower_layer (t.Grouped key s) h =
    let q = and_parts (is_expr key) (is_tower s.0) h in
    let p = expr_before key q.0 in
    let r = s.1 q.1 in
    subst (λ o. Before (SpellsTower o false)) (sym (tower.rolls-Grouped key s.0)) (record {
      tokens = λ rest. tok.Keyword kw.Group ∷ open_ ∷ p.tokens (comma ∷ r.tokens (close ∷ rest));
      spelled = λ rest. SpellsTower.grouped (p.spelled (comma ∷ r.tokens (close ∷ rest))) (r.spelled (close ∷ rest));
      sound = λ rest g. (word_sound kw.Group, (sign_sound sg.Open, p.sound (comma ∷ r.tokens (close ∷ rest)) (sign_sound sg.Comma, r.sound (close ∷ rest) (sign_sound sg.Close, g))));
    })
tower_layer (t.Both s u) h =
    let q = and_parts (is_tower s.0) (is_tower u.0) h in
    let p = s.1 q.0 in
    let r = u.1 q.1 in
    subst (λ o. Before (SpellsTower o false)) (sym (tower.rolls-Both s.0 u.0)) (record {
      tokens = λ rest. tok.Keyword kw.Both ∷ open_ ∷ p.tokens (comma ∷ r.tokens (close ∷ rest));
      spelled = λ rest. SpellsTower.both (p.spelled (comma ∷ r.tokens (close ∷ rest))) (r.spelled (close ∷ rest));
      sound = λ rest g. (word_sound kw.Both, (sign_sound sg.Open, p.sound (comma ∷ r.tokens (close ∷ rest)) (sign_sound sg.Comma, r.sound (close ∷ rest) (sign_sound sg.Close, g))));
    })

tower_before : (p : TowerExpr) → HasTower p
tower_before = ind-TowerExpr HasTower (λ p y is h.
    subst (λ w. tower_test (map-TowerExpr TowerExpr Bool is_tower w) ≡ true → Before (SpellsTower (roll-TowerExpr w) false)) is (tower_layer y) (sym (fold-roll-TowerExpr Bool tower_test p) ∙ h))

-- ---- lines

abbrev pub WholeLine : Line → Type 0
WholeLine x = Whole (SpellsLine x false)

-- a word by itself, and a word before an expression
word_whole : (x : Line) (word : Keyword) → SpellsLine x false (tok.Keyword word ∷ []) → WholeLine x
word_whole x word d = record { tokens = tok.Keyword word ∷ []; spelled = d; sound = (word_sound word, tt) }

expr_whole : (form : Line) (word : Keyword) (p : Expr) → is_expr p ≡ true → ((ts : List Token) → Spells level.Expr p false ts [] → SpellsLine form false (tok.Keyword word ∷ ts)) → WholeLine form
expr_whole form word p h d = let r = expr_before p h in record { tokens = tok.Keyword word ∷ r.tokens []; spelled = d (r.tokens []) (r.spelled []); sound = (word_sound word, r.sound [] tt) }

for_whole : (h : Heads) → are_heads h ≡ true → WholeLine (l.For h)
for_whole h g =
    let p = and_parts (is_pattern h.names) (is_head h.product h.axes && (nat_le (length h.inner) 3 && list_all is_inner h.inner)) g in
    let q = and_parts (is_head h.product h.axes) (nat_le (length h.inner) 3 && list_all is_inner h.inner) p.1 in
    let r = and_parts (nat_le (length h.inner) 3) (list_all is_inner h.inner) q.1 in
    let names = pattern_before h.names p.0 in
    let head = head_before h.product h.axes q.0 in
    let inner = inner_whole h.inner r.1 in
    record {
      tokens = tok.Keyword kw.For ∷ names.tokens (tok.Keyword kw.In ∷ head.tokens inner.tokens);
      spelled = SpellsLine.for_ (leb-true (length h.inner) 3 r.0) (names.spelled (tok.Keyword kw.In ∷ head.tokens inner.tokens)) (head.spelled inner.tokens) inner.spelled;
      sound = (word_sound kw.For, names.sound (tok.Keyword kw.In ∷ head.tokens inner.tokens) (word_sound kw.In, head.sound inner.tokens inner.sound));
    }

reduce_whole : (n : List ℕ) (p : TowerExpr) (start : Option Value) → is_name n ≡ true → is_tower p ≡ true → is_start start ≡ true → WholeLine (l.Reduce n p start)
reduce_whole n p None h g f =
    let r = tower_before p g in
    record {
      tokens = tok.At at.Reduce ∷ tok.Name n ∷ tok.Sign sg.Assign ∷ r.tokens [];
      spelled = SpellsLine.reduce (r.spelled []);
      sound = (at_sound at.Reduce, (name_sound n h, (sign_sound sg.Assign, r.sound [] tt)));
    }
reduce_whole n p (Some v) h g f =
    let r = tower_before p g in
    let s = literal_before v f in
    record {
      tokens = tok.At at.Reduce ∷ tok.Name n ∷ tok.Sign sg.Assign ∷ r.tokens (tok.Keyword kw.From ∷ s.tokens []);
      spelled = SpellsLine.reduce_from (r.spelled (tok.Keyword kw.From ∷ s.tokens [])) (s.spelled []);
      sound = (at_sound at.Reduce, (name_sound n h, (sign_sound sg.Assign, r.sound (tok.Keyword kw.From ∷ s.tokens []) (word_sound kw.From, s.sound [] tt))));
    }

pub line_whole : (x : Line) → is_form x ≡ true → WholeLine x
line_whole l.SkipFaults h = record {
  tokens = tok.Name (codes "on") ∷ tok.Name (codes "fault") ∷ tok.Name (codes "skip") ∷ [];
  spelled = SpellsLine.skip_faults refl refl refl;
  sound = (name_sound (codes "on") refl, (name_sound (codes "fault") refl, (name_sound (codes "skip") refl, tt)));
}
line_whole (l.Var n v) h =
    let p = and_parts (is_name n) (is_literal v) h in
    let r = literal_before v p.1 in
    record {
      tokens = tok.Keyword kw.Var ∷ tok.Name n ∷ tok.Sign sg.Assign ∷ r.tokens [];
      spelled = SpellsLine.var (r.spelled []);
      sound = (word_sound kw.Var, (name_sound n p.0, (sign_sound sg.Assign, r.sound [] tt)));
    }
line_whole (l.Init n v) h =
    let p = and_parts (is_name n) (is_literal v) h in
    let r = literal_before v p.1 in
    record {
      tokens = tok.At at.Init ∷ tok.Name n ∷ tok.Sign sg.Assign ∷ r.tokens [];
      spelled = SpellsLine.init (r.spelled []);
      sound = (at_sound at.Init, (name_sound n p.0, (sign_sound sg.Assign, r.sound [] tt)));
    }
line_whole (l.For h) g = for_whole h g
line_whole (l.Let ns q) h =
    let p = and_parts (is_pattern ns) (is_expr q) h in
    let names = pattern_before ns p.0 in
    let r = expr_before q p.1 in
    record {
      tokens = tok.Keyword kw.Let ∷ names.tokens (tok.Sign sg.Assign ∷ r.tokens []);
      spelled = SpellsLine.let_ (names.spelled (tok.Sign sg.Assign ∷ r.tokens [])) (r.spelled []);
      sound = (word_sound kw.Let, names.sound (tok.Sign sg.Assign ∷ r.tokens []) (sign_sound sg.Assign, r.sound [] tt));
    }
line_whole (l.Set n q) h =
    let p = and_parts (is_name n) (is_expr q) h in
    let r = expr_before q p.1 in
    record { tokens = tok.Name n ∷ tok.Sign sg.Assign ∷ r.tokens []; spelled = SpellsLine.set (r.spelled []); sound = (name_sound n p.0, (sign_sound sg.Assign, r.sound [] tt)) }
line_whole (l.If q) h = expr_whole (l.If q) kw.If q h (λ ts d. SpellsLine.if_ d)
line_whole (l.ElseIf q) h = expr_whole (l.ElseIf q) kw.ElseIf q h (λ ts d. SpellsLine.elseif d)
line_whole l.Else h = word_whole l.Else kw.Else SpellsLine.else_
line_whole (l.Keep n q) h =
    let p = and_parts (is_name n) (is_expr q) h in
    let r = expr_before q p.1 in
    record {
      tokens = tok.At at.Keep ∷ tok.Name n ∷ tok.Sign sg.Assign ∷ r.tokens [];
      spelled = SpellsLine.keep (r.spelled []);
      sound = (at_sound at.Keep, (name_sound n p.0, (sign_sound sg.Assign, r.sound [] tt)));
    }
line_whole (l.Reduce n q start) h =
    let p = and_parts (is_name n) (is_tower q && is_start start) h in
    let r = and_parts (is_tower q) (is_start start) p.1 in
    reduce_whole n q start p.0 r.0 r.1
line_whole l.Continue h = word_whole l.Continue kw.Continue SpellsLine.continue
line_whole l.Break h = word_whole l.Break kw.Break SpellsLine.break
line_whole l.End h = word_whole l.End kw.End SpellsLine.end
line_whole (l.Print n) h = record { tokens = tok.Keyword kw.Print ∷ tok.Name n ∷ []; spelled = SpellsLine.print; sound = (word_sound kw.Print, (name_sound n h, tt)) }
