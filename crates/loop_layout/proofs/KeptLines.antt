-- What is written of a line has tokens like those that spelled it.
use Rattle.std.proofs.Common.{◌≡◌, ℕ, Bool, true, false, List, [], ◌∷◌, ◌++◌, map, Option, Some, None, sym, subst}
use Rattle.loop_tokens.specs.declared.token.Token.{Token}
use Rattle.loop_tokens.specs.declared.token.Token.TheVariants as tok
use Rattle.loop_tokens.specs.declared.keyword.Keyword.TheVariants as kw
use Rattle.loop_tokens.specs.declared.keyword.AtWord.TheVariants as at
use Rattle.loop_tokens.specs.declared.sign.Sign.TheVariants as sg
use Rattle.loop_tokens.specs.Literals.{number_of, text_of, escaped}
use Rattle.loop_data.specs.declared.value.Value.{Value}
use Rattle.loop_data.specs.declared.expr.Expr.{Expr}
use Rattle.loop_data.specs.declared.expr.RangeExpr.{RangeExpr}
use Rattle.loop_data.specs.declared.tower.Kind.{Kind}
use Rattle.loop_data.specs.declared.tower.Kind.TheVariants as kind
use Rattle.loop_data.specs.declared.tower.TowerExpr.{TowerExpr, fold-roll-TowerExpr, map-TowerExpr, roll-TowerExpr}
use Rattle.loop_data.specs.declared.tower.TowerExpr.TheVariants as tower
use Rattle.loop_data.specs.declared.tower.TowerExpr.TheOpen.{TowerExpr-F, TowerExpr-F as t}
use Rattle.loop_data.specs.declared.head.Axis.{Axis, fold-roll-Axis, map-Axis, roll-Axis}
use Rattle.loop_data.specs.declared.head.Axis.TheVariants as axis
use Rattle.loop_data.specs.declared.head.Axis.TheOpen.{Axis-F, Axis-F as x}
use Rattle.loop_data.specs.declared.head.Inner.{Inner}
use Rattle.loop_exprs.specs.Operations.{positive_value, negative_value}
use Rattle.loop_grammar.specs.declared.line.Line.{Line}
use Rattle.loop_grammar.specs.LineForms.{SpellsLiteral, SpellsNames, SpellsPattern, SpellsRange, SpellsAxis, SpellsAxes, SpellsFactor, SpellsFactors, SpellsHead, SpellsInner, SpellsTower, SpellsLine}
use Rattle.loop_layout.specs.Layout.{tokens_in}
use Rattle.loop_layout.specs.Canonical.{Written, apart, glued, colon, comma, value_marks, expr_marks, step_marks, range_marks, more_listed, listed, axis_step, axis_marks, name_marks, pattern_marks, inner_marks, head_marks, kind_word, tower_step, tower_marks, start_marks, folded_marks, line_marks}
use Rattle.loop_layout.specs.Laws.{IsReadable, IsUtf8Token, AllTokens, CanonicalReadable, CanonicalUtf8}
use Rattle.loop_layout.proofs.KeptTokens.{Keeps, Kept, all_append, one_kept, parentheses_kept, called_kept, int_kept, small_positive, small_negative, spells_kept}
use Rattle.loop_layout.proofs.ReadableWords.{readable_words, readable_at_words, readable_signs}
use Rattle.loop_layout.proofs.ReadableTokens.{readable_texts, readable_numbers}
use Rattle.loop_layout.proofs.WrittenUtf8.{escaped_utf8, numbers_utf8}
use Rattle.loop_layout.proofs.ReadUtf8.{meaning_utf8}
use Rattle.loop_layout.proofs.LineSpacing.{canonical_spaces}

abbrev AllListed : (Token → Type 0) → List Written → Type 0
AllListed P [] = Unit {0}
AllListed P (m ∷ ms) = Kept P m × AllListed P ms

-- the expression of a tower of one expression
abbrev LeafKept : (Token → Type 0) → TowerExpr → Type 0
LeafKept P (tower.Leaf d p) = Kept P (expr_marks p)
LeafKept P _ = Unit {0}

module _ (P : Token → Type 0) (k : Keeps P) where
  literal_kept : {v : Value} {u : Bool} {ts rest : List Token} → SpellsLiteral v u ts rest → AllTokens P ts → Kept P (value_marks v) × AllTokens P rest
  literal_kept (SpellsLiteral.number {n = n}) h = (int_kept P k (positive_value (number_of n)) (small_positive (number_of n)), h.1)
  literal_kept (SpellsLiteral.negative {n = n}) h = (int_kept P k (negative_value (number_of n)) (small_negative (number_of n)), h.1.1)
  literal_kept (SpellsLiteral.text {raw = raw}) h = (one_kept P k (tok.Text (escaped (text_of raw))) (k.texts raw h.0), h.1)
  literal_kept SpellsLiteral.yes h = (one_kept P k (tok.Keyword kw.True) (k.words kw.True), h.1)
  literal_kept SpellsLiteral.no h = (one_kept P k (tok.Keyword kw.False) (k.words kw.False), h.1)

  more_kept : (ms : List Written) → AllListed P ms → AllTokens P (tokens_in (more_listed ms))
  more_kept [] h = tt
  more_kept (m ∷ ms) h = (k.signs sg.Comma, all_append P k (m true) (more_listed ms) (h.0.ok true) (more_kept ms h.1))

  listed_kept : (ms : List Written) → AllListed P ms → Kept P (listed ms)
  listed_kept [] h = record { ok = λ a. tt }
  listed_kept (m ∷ ms) h = record { ok = λ a. all_append P k (m a) (more_listed ms) (h.0.ok a) (more_kept ms h.1) }

  -- ---- patterns

  names_kept : {ns : List (List ℕ)} {ts rest : List Token} → SpellsNames ns ts rest → AllTokens P ts → AllListed P (map name_marks ns) × AllTokens P rest
  names_kept (SpellsNames.last {n = n}) h = ((one_kept P k (tok.Name n) h.0, tt), h.1)
  names_kept (SpellsNames.more {n = n} s) h = let others = names_kept s h.1.1 in ((one_kept P k (tok.Name n) h.0, others.0), others.1)

  pattern_of : (ns : List (List ℕ)) → AllListed P (map name_marks ns) → Kept P (pattern_marks ns)
  pattern_of [] h = record { ok = λ a. tt }
  pattern_of (n ∷ []) h = h.0
  pattern_of (n ∷ m ∷ ns) h = record { ok = λ a. (parentheses_kept P k (listed (map name_marks (n ∷ m ∷ ns))) ((listed_kept (map name_marks (n ∷ m ∷ ns)) h).ok false)).ok a }

  pattern_kept : {ns : List (List ℕ)} {ts rest : List Token} → SpellsPattern ns ts rest → AllTokens P ts → Kept P (pattern_marks ns) × AllTokens P rest
  pattern_kept (SpellsPattern.one {n = n}) h = (one_kept P k (tok.Name n) h.0, h.1)
  pattern_kept (SpellsPattern.several {ns = ns} least most s) h = let names = names_kept s h.1 in (pattern_of ns names.0, names.1.1)

  -- ---- ranges and axes

  range_of : (r : RangeExpr) → Kept P (expr_marks r.first) → AllTokens P (tokens_in (step_marks r.step)) → Kept P (expr_marks r.last) → Kept P (range_marks r)
  range_of r f s e = record {
    ok = λ a. all_append P k (expr_marks r.first a ++ step_marks r.step) (glued colon ∷ expr_marks r.last false)
        (all_append P k (expr_marks r.first a) (step_marks r.step) (f.ok a) s) (k.signs sg.Colon, e.ok false);
  }

  range_kept : {r : RangeExpr} {u : Bool} {ts rest : List Token} → SpellsRange r u ts rest → AllTokens P ts → Kept P (range_marks r) × AllTokens P rest
  range_kept (SpellsRange.by_one {a = a} {b = b} s t) h =
      let one = spells_kept P k s h in let last = spells_kept P k t one.1.1 in
      (range_of (record { first = a; step = None; last = b }) one.0.whole tt last.0.whole, last.1)
  range_kept (SpellsRange.by_step {a = a} {s = s} {b = b} p q r) h =
      let one = spells_kept P k p h in let two = spells_kept P k q one.1.1 in let last = spells_kept P k r two.1.1 in
      (range_of (record { first = a; step = Some s; last = b }) one.0.whole (k.signs sg.Colon, two.0.whole.ok false) last.0.whole, last.1)

  along_axis : (p : Axis-F Axis) → Kept P (axis_step (map-Axis Axis Written axis_marks p)) → Kept P (axis_marks (roll-Axis p))
  along_axis p h = subst (Kept P) (sym (fold-roll-Axis Written axis_step p)) h

  steps_kept : (r : RangeExpr) → Kept P (range_marks r) → Kept P (axis_marks (axis.Steps r))
  unfolding roll-Axis denote.Hole.Carrier.roll
  steps_kept r h = along_axis (x.Steps r) h

  column_kept : (raw : List ℕ) → P (tok.Text raw) → Kept P (axis_marks (axis.Col (text_of raw)))
  unfolding roll-Axis denote.Hole.Carrier.roll
  column_kept raw h = along_axis (x.Col (text_of raw)) (called_kept P k (tok.Keyword kw.Col) (glued (tok.Text (escaped (text_of raw))) ∷ []) (k.words kw.Col) (k.texts raw h, tt))

  zip_kept : (ps : List Axis) → AllListed P (map axis_marks ps) → Kept P (axis_marks (axis.Zip ps))
  unfolding roll-Axis denote.Hole.Carrier.roll
  zip_kept ps h = along_axis (x.Zip ps) (called_kept P k (tok.Keyword kw.Zip) (listed (map axis_marks ps) false) (k.words kw.Zip) ((listed_kept (map axis_marks ps) h).ok false))

  axis_kept : {p : Axis} {u : Bool} {ts rest : List Token} → SpellsAxis p u ts rest → AllTokens P ts → Kept P (axis_marks p) × AllTokens P rest
  axis_kept (SpellsAxis.steps {r = r} s) h = let one = range_kept s h in (steps_kept r one.0, one.1)
  axis_kept (SpellsAxis.column {raw = raw}) h = (column_kept raw h.1.1.0, h.1.1.1.1)

  axes_kept : {ps : List Axis} {u : Bool} {ts rest : List Token} → SpellsAxes ps u ts rest → AllTokens P ts → AllListed P (map axis_marks ps) × AllTokens P rest
  axes_kept (SpellsAxes.last s) h = let one = axis_kept s h in ((one.0, tt), one.1)
  axes_kept (SpellsAxes.more s t) h = let one = axis_kept s h in let others = axes_kept t one.1.1 in ((one.0, others.0), others.1)

  factor_kept : {p : Axis} {u : Bool} {ts rest : List Token} → SpellsFactor p u ts rest → AllTokens P ts → Kept P (axis_marks p) × AllTokens P rest
  factor_kept (SpellsFactor.plain s) h = axis_kept s h
  factor_kept (SpellsFactor.zip {xs = ps} least most s) h = let all = axes_kept s h.1.1 in (zip_kept ps all.0, all.1.1)

  factors_kept : {ps : List Axis} {u : Bool} {ts rest : List Token} → SpellsFactors ps u ts rest → AllTokens P ts → AllListed P (map axis_marks ps) × AllTokens P rest
  factors_kept (SpellsFactors.last s) h = let one = factor_kept s h in ((one.0, tt), one.1)
  factors_kept (SpellsFactors.more s t) h = let one = factor_kept s h in let others = factors_kept t one.1.1 in ((one.0, others.0), others.1)

  -- ---- heads

  head_kept : {ps : List Axis} {product u : Bool} {ts rest : List Token} → SpellsHead ps product u ts rest → AllTokens P ts → Kept P (head_marks ps product) × AllTokens P rest
  head_kept (SpellsHead.alone {x = p} s) h = let one = factor_kept s h in (listed_kept (axis_marks p ∷ []) (one.0, tt), one.1)
  head_kept (SpellsHead.product {xs = ps} least most s) h = let all = factors_kept s h.1.1 in
      (called_kept P k (tok.Keyword kw.Product) (listed (map axis_marks ps) false) (k.words kw.Product) ((listed_kept (map axis_marks ps) all.0).ok false), all.1.1)

  inner_kept : {hs : List Inner} {u : Bool} {ts : List Token} → SpellsInner hs u ts → AllTokens P ts → AllTokens P (tokens_in (inner_marks hs))
  inner_kept SpellsInner.none h = tt
  inner_kept (SpellsInner.more {n = n} {r = r} {hs = hs} s t) h = let one = range_kept s h.1.1.1 in
      (k.signs sg.Comma, (h.1.0, (k.words kw.In, all_append P k (range_marks r true) (inner_marks hs) (one.0.ok true) (inner_kept t one.1))))

  -- ---- towers

  along_tower : (p : TowerExpr-F TowerExpr) → Kept P (tower_step (map-TowerExpr TowerExpr Written tower_marks p)) → Kept P (tower_marks (roll-TowerExpr p))
  along_tower p h = subst (Kept P) (sym (fold-roll-TowerExpr Written tower_step p)) h

  leaf_kept : (d : Kind) (p : Expr) → Kept P (expr_marks p) → Kept P (tower_marks (tower.Leaf d p))
  unfolding roll-TowerExpr denote.Hole.Carrier.roll
  leaf_kept d p h = along_tower (t.Leaf d p) (called_kept P k (tok.Keyword (kind_word d)) (expr_marks p false) (k.words (kind_word d)) (h.ok false))

  count_kept : Kept P (tower_marks tower.Count)
  unfolding roll-TowerExpr denote.Hole.Carrier.roll
  count_kept = along_tower t.Count (called_kept P k (tok.Keyword kw.Count) [] (k.words kw.Count) tt)

  grouped_kept : (key : Expr) (p : TowerExpr) → Kept P (expr_marks key) → Kept P (tower_marks p) → Kept P (tower_marks (tower.Grouped key p))
  unfolding roll-TowerExpr denote.Hole.Carrier.roll
  grouped_kept key p h g = along_tower (t.Grouped key p) (called_kept P k (tok.Keyword kw.Group) (expr_marks key false ++ glued comma ∷ tower_marks p true) (k.words kw.Group)
      (all_append P k (expr_marks key false) (glued comma ∷ tower_marks p true) (h.ok false) (k.signs sg.Comma, g.ok true)))

  both_kept : (p q : TowerExpr) → Kept P (tower_marks p) → Kept P (tower_marks q) → Kept P (tower_marks (tower.Both p q))
  unfolding roll-TowerExpr denote.Hole.Carrier.roll
  both_kept p q h g = along_tower (t.Both p q) (called_kept P k (tok.Keyword kw.Both) (tower_marks p false ++ glued comma ∷ tower_marks q true) (k.words kw.Both)
      (all_append P k (tower_marks p false) (glued comma ∷ tower_marks q true) (h.ok false) (k.signs sg.Comma, g.ok true)))

  tower_kept : {p : TowerExpr} {u : Bool} {ts rest : List Token} → SpellsTower p u ts rest → AllTokens P ts → (Kept P (tower_marks p) × LeafKept P p) × AllTokens P rest
  tower_kept (SpellsTower.leaf {d = d} {x = y} is s) h = let one = spells_kept P k s h.1.1 in ((leaf_kept d y one.0.whole, one.0.whole), one.1.1)
  tower_kept SpellsTower.count h = ((count_kept, tt), h.1.1.1)
  tower_kept (SpellsTower.grouped {key = key} {x = p} s t) h = let one = spells_kept P k s h.1.1 in let other = tower_kept t one.1.1 in ((grouped_kept key p one.0.whole other.0.0, tt), other.1.1)
  tower_kept (SpellsTower.both {x = p} {y = q} s t) h = let one = tower_kept s h.1.1 in let other = tower_kept t one.1.1 in ((both_kept p q one.0.0 other.0.0, tt), other.1.1)

  assigned_kept : (p : TowerExpr) (start : Option Value) → Kept P (tower_marks p) → AllTokens P (tokens_in (start_marks start)) →
      AllTokens P (tokens_in (apart (tok.Sign sg.Assign) ∷ tower_marks p true ++ start_marks start))
  assigned_kept p start h g = (k.signs sg.Assign, all_append P k (tower_marks p true) (start_marks start) (h.ok true) g)

  folded_kept : (p : TowerExpr) (start : Option Value) → Kept P (tower_marks p) → LeafKept P p → AllTokens P (tokens_in (start_marks start)) → AllTokens P (tokens_in (folded_marks p start))
  folded_kept (tower.Leaf kind.Sum p) None h l g = (k.signs sg.PlusAssign, l.ok true)
  folded_kept p start h l g = assigned_kept p start h g

  -- ---- lines

  name_kept : {n m : List ℕ} → n ≡ m → P (tok.Name n) → P (tok.Name m)
  name_kept e h = subst (λ z. P (tok.Name z)) e h

  pub line_kept : {form : Line} {u : Bool} {ts : List Token} → SpellsLine form u ts → AllTokens P ts → AllTokens P (tokens_in (line_marks form))
  line_kept (SpellsLine.skip_faults on fault skip) h = (name_kept on h.0, (name_kept fault h.1.0, (name_kept skip h.1.1.0, tt)))
  line_kept (SpellsLine.var s) h = (k.words kw.Var, (h.1.0, (k.signs sg.Assign, (literal_kept s h.1.1.1).0.ok true)))
  line_kept (SpellsLine.init s) h = (k.at_words at.Init, (h.1.0, (k.signs sg.Assign, (literal_kept s h.1.1.1).0.ok true)))
  line_kept (SpellsLine.for_ {ns = ns} {xs = ps} {product = product} {hs = hs} most s t i) h =
      let names = pattern_kept s h.1 in let head = head_kept t names.1.1 in (
        k.words kw.For,
        all_append P k (pattern_marks ns true ++ apart (tok.Keyword kw.In) ∷ head_marks ps product true) (inner_marks hs)
            (all_append P k (pattern_marks ns true) (apart (tok.Keyword kw.In) ∷ head_marks ps product true) (names.0.ok true) (k.words kw.In, head.0.ok true))
            (inner_kept i head.1),
      )
  line_kept (SpellsLine.let_ {ns = ns} {x = y} s t) h =
      let names = pattern_kept s h.1 in
      (k.words kw.Let, all_append P k (pattern_marks ns true) (apart (tok.Sign sg.Assign) ∷ expr_marks y true) (names.0.ok true) (k.signs sg.Assign, (spells_kept P k t names.1.1).0.whole.ok true))
  line_kept (SpellsLine.set s) h = (h.0, (k.signs sg.Assign, (spells_kept P k s h.1.1).0.whole.ok true))
  line_kept (SpellsLine.if_ s) h = (k.words kw.If, (spells_kept P k s h.1).0.whole.ok true)
  line_kept (SpellsLine.elseif s) h = (k.words kw.ElseIf, (spells_kept P k s h.1).0.whole.ok true)
  line_kept SpellsLine.else_ h = h
  line_kept (SpellsLine.keep s) h = (k.at_words at.Keep, (h.1.0, (k.signs sg.Assign, (spells_kept P k s h.1.1.1).0.whole.ok true)))
  line_kept (SpellsLine.add {x = y} s) h = let one = spells_kept P k s h.1.1.1 in
      (k.at_words at.Reduce, (h.1.0, folded_kept (tower.Leaf kind.Sum y) None (leaf_kept kind.Sum y one.0.whole) one.0.whole tt))
  line_kept (SpellsLine.reduce {x = p} s) h = let one = tower_kept s h.1.1.1 in (k.at_words at.Reduce, (h.1.0, folded_kept p None one.0.0 one.0.1 tt))
  line_kept (SpellsLine.reduce_from {x = p} {v = v} s t) h = let one = tower_kept s h.1.1.1 in
      (k.at_words at.Reduce, (h.1.0, folded_kept p (Some v) one.0.0 one.0.1 (k.words kw.From, (literal_kept t one.1.1).0.ok true)))
  line_kept SpellsLine.continue h = h
  line_kept SpellsLine.break h = h
  line_kept SpellsLine.end h = h
  line_kept SpellsLine.print h = h

-- ---- what is kept

keeps_readable : Keeps IsReadable
keeps_readable = record {
  words = readable_words;
  at_words = readable_at_words;
  signs = readable_signs;
  texts = λ raw h. (readable_texts (text_of raw)).0;
  numbers = λ n lt. (readable_numbers n lt).0;
}

keeps_utf8 : Keeps IsUtf8Token
keeps_utf8 = record {
  words = λ w. tt;
  at_words = λ a. tt;
  signs = λ s. tt;
  texts = λ raw u. escaped_utf8 (text_of raw) (meaning_utf8 raw u);
  numbers = numbers_utf8;
}

pub canonical_readable : CanonicalReadable
canonical_readable form wide ts s h = canonical_spaces form (line_kept IsReadable keeps_readable s h)

pub canonical_utf8 : CanonicalUtf8
canonical_utf8 form wide ts s h = line_kept IsUtf8Token keeps_utf8 s h
