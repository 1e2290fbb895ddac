-- Axes, zips and the first head, taken apart.
use Rattle.std.proofs.Common.{◌≡◌, ℕ, Bool, true, false, List, [], ◌∷◌, ◌++◌, Some, refl, ap, sym, ◌∙◌, subst}
use Rattle.loop_tokens.specs.declared.token.Token.{Token}
use Rattle.loop_tokens.specs.declared.token.Token.TheVariants as tok
use Rattle.loop_tokens.specs.declared.keyword.Keyword.{Keyword}
use Rattle.loop_tokens.specs.declared.keyword.Keyword.TheVariants as kw
use Rattle.loop_tokens.specs.declared.sign.Sign.TheVariants as sg
use Rattle.loop_tokens.specs.Literals.{text_of}
use Rattle.loop_data.specs.declared.expr.Op.{Op}
use Rattle.loop_data.specs.declared.expr.Word.{Word}
use Rattle.loop_data.specs.declared.expr.Expr.{Expr}
use Rattle.loop_data.specs.declared.expr.RangeExpr.{RangeExpr}
use Rattle.loop_data.specs.declared.head.Axis.{Axis}
use Rattle.loop_data.specs.declared.head.Axis.TheVariants as axis
use Rattle.loop_exprs.specs.declared.level.Level.{Level}
use Rattle.loop_exprs.specs.Operations.{constant_of, word_of, extreme_of}
use Rattle.loop_exprs.specs.Grammar.{Spells, NotFirst}
use Rattle.loop_grammar.specs.LineForms.{SpellsRange, SpellsAxis, SpellsAxes, SpellsFactor, SpellsFactors, SpellsHead}
use Rattle.loop_heads.specs.declared.axis.FirstHead.{FirstHead}
use Rattle.loop_heads.specs.Tokens.{NoTextFirst}
use Rattle.loop_heads.specs.Heads.{EndsRange, Ended, Listed, Between, SpellsFirst}
use Rattle.loop_heads.proofs.Steps.{Only, triple_is}
use Rattle.loop_heads.proofs.Ranges.{one_range}
use Rattle.loop_heads.proofs.Lists.{one_between}

-- ---- no expression begins with `col`, `zip` or `product`

abbrev is_head_word : Keyword → Bool
is_head_word kw.Col = true
is_head_word kw.Zip = true
is_head_word kw.Product = true
is_head_word _ = false

abbrev with_head_word : List Token → Bool
with_head_word (tok.Keyword k ∷ ts) = is_head_word k
with_head_word _ = false

constant_word : (k : Keyword) (x : Expr) → constant_of k ≡ Some x → is_head_word k ≡ false
constant_word kw.Col x h = cc
constant_word kw.Zip x h = cc
constant_word kw.Product x h = cc
constant_word _ x h = refl

called_word : (k : Keyword) (w : Word) → word_of k ≡ Some w → is_head_word k ≡ false
called_word kw.Col w h = cc
called_word kw.Zip w h = cc
called_word kw.Product w h = cc
called_word _ w h = refl

extreme_word : (k : Keyword) (o : Op) → extreme_of k ≡ Some o → is_head_word k ≡ false
extreme_word kw.Col o h = cc
extreme_word kw.Zip o h = cc
extreme_word kw.Product o h = cc
extreme_word _ o h = refl

starts : {l : Level} {x : Expr} {u : Bool} {ts rest : List Token} → Spells l x u ts rest → with_head_word ts ≡ false
starts (Spells.tight d) = starts d
starts (Spells.two g op d f) = starts d
starts (Spells.compare op d f) = starts d
starts (Spells.not d) = refl
starts Spells.negative = refl
starts (Spells.negate h d) = refl
starts Spells.number = refl
starts Spells.text = refl
starts Spells.name = refl
starts (Spells.constant {k = k} {x = x} h) = constant_word k x h
starts (Spells.call {k = k} {w = w} h d) = called_word k w h
starts (Spells.extreme {k = k} {o = o} h d f) = extreme_word k o h
starts (Spells.choice d f g) = refl
starts (Spells.choice_some d f) = refl
starts (Spells.group d) = refl
starts (Spells.tuple h i p) = refl

range_starts : {r : RangeExpr} {u : Bool} {ts rest : List Token} → SpellsRange r u ts rest → with_head_word ts ≡ false
range_starts (SpellsRange.by_one d f) = starts d
range_starts (SpellsRange.by_step d f g) = starts d

no_range : {r : RangeExpr} {u : Bool} (k : Keyword) {ts rest : List Token} → is_head_word k ≡ true → SpellsRange r u (tok.Keyword k ∷ ts) rest → ⊥
no_range k h d = let e = range_starts d in cc

no_axis : {x : Axis} {u : Bool} {ts rest : List Token} → SpellsAxis x u (tok.Keyword kw.Zip ∷ ts) rest → ⊥
no_axis (SpellsAxis.steps d) = no_range kw.Zip refl d

no_axis_either : {x : Axis} {u : Bool} {ts rest : List Token} → SpellsAxis x u (tok.Keyword kw.Product ∷ ts) rest → ⊥
no_axis_either (SpellsAxis.steps d) = no_range kw.Product refl d

no_factor : {x : Axis} {u : Bool} {ts rest : List Token} → SpellsFactor x u (tok.Keyword kw.Product ∷ ts) rest → ⊥
no_factor (SpellsFactor.plain d) = no_axis_either d

-- ---- columns

pub record IsColumn (x : Axis) (u : Bool) (ts rest : List Token) : Type 0 where
  pub raw : List ℕ
  pub tokens : ts ≡ tok.Sign sg.Open ∷ tok.Text raw ∷ tok.Sign sg.Close ∷ rest
  pub axis : x ≡ axis.Col (text_of raw)
  pub narrow : u ≡ false

pub column_of : {x : Axis} {u : Bool} {ts rest : List Token} → SpellsAxis x u (tok.Keyword kw.Col ∷ ts) rest → IsColumn x u ts rest
column_of (SpellsAxis.steps d) = absurd (no_range kw.Col refl d)
column_of (SpellsAxis.column {raw = raw}) = record { raw = raw; tokens = refl; axis = refl; narrow = refl }

-- the parts of a column as they were read
pub column_is : (raw : List ℕ) (ts us vs rest : List Token) (x : Axis) → ts ≡ tok.Sign sg.Open ∷ us → us ≡ tok.Text raw ∷ vs → vs ≡ tok.Sign sg.Close ∷ rest → x ≡ axis.Col (text_of raw) →
    Only (Ended SpellsAxis (tok.Keyword kw.Col ∷ ts)) (x, false, rest)
column_is raw ts us vs rest x a b c d z q =
    let h = column_of q.spelled in
    let e : ◌≡◌ {A = List Token} (tok.Sign sg.Open ∷ tok.Text raw ∷ tok.Sign sg.Close ∷ rest) (tok.Sign sg.Open ∷ tok.Text h.raw ∷ tok.Sign sg.Close ∷ z.2) =
    ap (λ ws. tok.Sign sg.Open ∷ tok.Text raw ∷ ws) (sym c) ∙ ap (λ ws. tok.Sign sg.Open ∷ ws) (sym b) ∙ sym a ∙ h.tokens in
    let name : raw ≡ h.raw = cc in
    let tail : rest ≡ z.2 = cc in
    triple_is x false rest z (d ∙ ap (λ n. axis.Col (text_of n)) name ∙ sym h.axis) (sym h.narrow) tail

pub column_spelled : (raw : List ℕ) (ts us vs rest : List Token) (x : Axis) → ts ≡ tok.Sign sg.Open ∷ us → us ≡ tok.Text raw ∷ vs → vs ≡ tok.Sign sg.Close ∷ rest → x ≡ axis.Col (text_of raw) →
    SpellsAxis x false (tok.Keyword kw.Col ∷ ts) rest
column_spelled raw ts us vs rest x a b c d = rw (a, b, c, d) SpellsAxis.column

pub column_opens : (ts : List Token) → NotFirst (tok.Sign sg.Open) ts → (z : Axis × Bool × List Token) → Ended SpellsAxis (tok.Keyword kw.Col ∷ ts) z → ⊥
column_opens ts h z q = h _ (column_of q.spelled).tokens

pub column_names : (ts us : List Token) → ts ≡ tok.Sign sg.Open ∷ us → NoTextFirst us → (z : Axis × Bool × List Token) → Ended SpellsAxis (tok.Keyword kw.Col ∷ ts) z → ⊥
column_names ts us a h z q =
    let c = column_of q.spelled in
    let e : ◌≡◌ {A = List Token} (tok.Sign sg.Open ∷ us) (tok.Sign sg.Open ∷ tok.Text c.raw ∷ tok.Sign sg.Close ∷ z.2) = sym a ∙ c.tokens in
    h c.raw (tok.Sign sg.Close ∷ z.2) cc

pub column_closes : (raw : List ℕ) (ts us vs : List Token) → ts ≡ tok.Sign sg.Open ∷ us → us ≡ tok.Text raw ∷ vs → NotFirst (tok.Sign sg.Close) vs →
    (z : Axis × Bool × List Token) → Ended SpellsAxis (tok.Keyword kw.Col ∷ ts) z → ⊥
column_closes raw ts us vs a b h z q =
    let c = column_of q.spelled in
    let e : ◌≡◌ {A = List Token} (tok.Sign sg.Open ∷ tok.Text raw ∷ vs) (tok.Sign sg.Open ∷ tok.Text c.raw ∷ tok.Sign sg.Close ∷ z.2) = ap (λ ws. tok.Sign sg.Open ∷ ws) (sym b) ∙ sym a ∙ c.tokens in
    h z.2 cc

-- ---- axes

-- Steps z: the axis of a range that was read with its flag and rest
abbrev pub Steps : RangeExpr × Bool × List Token → Axis × Bool × List Token
Steps z = (axis.Steps z.0, z.1, z.2)

pub axis_range : {x : Axis} {u : Bool} {ts rest : List Token} → SpellsAxis x u ts rest → NotFirst (tok.Keyword kw.Col) ts → (r : RangeExpr) × (x ≡ axis.Steps r) × SpellsRange r u ts rest
axis_range (SpellsAxis.steps {r = r} d) h = (r, refl, d)
axis_range SpellsAxis.column h = absurd (h _ refl)

pub steps_range : (ts : List Token) → NotFirst (tok.Keyword kw.Col) ts → (z : Axis × Bool × List Token) → Ended SpellsAxis ts z → (y : RangeExpr × Bool × List Token) × Ended SpellsRange ts y
steps_range ts h z q = let a = axis_range q.spelled h in ((a.0, z.1, z.2), record { spelled = a.2; ends = q.ends })

pub steps_is : (ts : List Token) (y : RangeExpr × Bool × List Token) → NotFirst (tok.Keyword kw.Col) ts → Only (Ended SpellsRange ts) y → Only (Ended SpellsAxis ts) (axis.Steps y.0, y.1, y.2)
steps_is ts y h only z q =
    let a = axis_range q.spelled h in
    let e = only (a.0, z.1, z.2) (record { spelled = a.2; ends = q.ends }) in
    ap Steps e ∙ triple_is (axis.Steps a.0) z.1 z.2 z (sym a.1) refl refl

one_axis_at : {x : Axis} {u : Bool} {ts rest : List Token} → SpellsAxis x u ts rest → EndsRange rest → Only (Ended SpellsAxis ts) (x, u, rest)
one_axis_at (SpellsAxis.steps {r = r} {u = u} {ts = ts} {rest = rest} d) e =
    let col : NotFirst (tok.Keyword kw.Col) ts = λ us is. let P : List Token → Type 0 = λ vs. SpellsRange r u vs rest in no_range kw.Col refl (subst P is d) in
    steps_is ts (r, u, rest) col (one_range ts (r, u, rest) (record { spelled = d; ends = e }))
one_axis_at (SpellsAxis.column {raw = raw} {rest = rest}) e =
    column_is raw (tok.Sign sg.Open ∷ tok.Text raw ∷ tok.Sign sg.Close ∷ rest) (tok.Text raw ∷ tok.Sign sg.Close ∷ rest) (tok.Sign sg.Close ∷ rest) rest (axis.Col (text_of raw)) refl refl refl refl

pub one_axis : (ts : List Token) (y : Axis × Bool × List Token) → Ended SpellsAxis ts y → Only (Ended SpellsAxis ts) y
one_axis ts y p = one_axis_at p.spelled p.ends

-- ---- zips

axes_listed : {xs : List Axis} {u : Bool} {ts rest : List Token} → SpellsAxes xs u ts rest → Listed SpellsAxis xs u ts rest
axes_listed (SpellsAxes.last d) = Listed.last d
axes_listed (SpellsAxes.more d p) = Listed.more d (axes_listed p)

listed_axes : {xs : List Axis} {u : Bool} {ts rest : List Token} → Listed SpellsAxis xs u ts rest → SpellsAxes xs u ts rest
listed_axes (Listed.last d) = SpellsAxes.last d
listed_axes (Listed.more d p) = SpellsAxes.more d (listed_axes p)

pub record IsZip (x : Axis) (u : Bool) (ts rest : List Token) : Type 0 where
  pub axes : List Axis
  pub axis : x ≡ axis.Zip axes
  pub between : Between SpellsAxis ts (axes, u, rest)

zip_of : {x : Axis} {u : Bool} {ts rest : List Token} → SpellsFactor x u (tok.Keyword kw.Zip ∷ ts) rest → IsZip x u ts rest
zip_of (SpellsFactor.plain d) = absurd (no_axis d)
zip_of (SpellsFactor.zip {xs = xs} {ts = us} h i p) = record {
  axes = xs;
  axis = refl;
  between = record { inside = us; opened = refl; least = h; most = i; spelled = axes_listed p };
}

zip_at : (ts us : List Token) → ts ≡ tok.Keyword kw.Zip ∷ us → (z : Axis × Bool × List Token) → Ended SpellsFactor ts z → IsZip z.0 z.1 us z.2
zip_at ts us is z q = let P : List Token → Type 0 = λ vs. SpellsFactor z.0 z.1 vs z.2 in zip_of (subst P is q.spelled)

pub zip_axes : (ts us : List Token) → ts ≡ tok.Keyword kw.Zip ∷ us → (z : Axis × Bool × List Token) → Ended SpellsFactor ts z →
    (y : List Axis × Bool × List Token) × Between SpellsAxis us y
zip_axes ts us is z q = let h = zip_at ts us is z q in ((h.axes, z.1, z.2), h.between)

pub zip_is : (ts us : List Token) (y : List Axis × Bool × List Token) → ts ≡ tok.Keyword kw.Zip ∷ us → Only (Between SpellsAxis us) y → Only (Ended SpellsFactor ts) (axis.Zip y.0, y.1, y.2)
zip_is ts us y is only z q =
    let h = zip_at ts us is z q in
    let Q : List Axis × Bool × List Token → Axis × Bool × List Token = λ t. (axis.Zip t.0, t.1, t.2) in
    ap Q (only (h.axes, z.1, z.2) h.between) ∙ triple_is (axis.Zip h.axes) z.1 z.2 z (sym h.axis) refl refl

pub zip_spelled : (ts us : List Token) (y : List Axis × Bool × List Token) → ts ≡ tok.Keyword kw.Zip ∷ us → Between SpellsAxis us y → SpellsFactor (axis.Zip y.0) y.1 ts y.2
zip_spelled ts us y is b =
    let P : List Token → Type 0 = λ vs. SpellsFactor (axis.Zip y.0) y.1 (tok.Keyword kw.Zip ∷ vs) y.2 in
    let Q : List Token → Type 0 = λ vs. SpellsFactor (axis.Zip y.0) y.1 vs y.2 in
    subst Q (sym is) (subst P (sym b.opened) (SpellsFactor.zip b.least b.most (listed_axes b.spelled)))

plain_of : {x : Axis} {u : Bool} {ts rest : List Token} → SpellsFactor x u ts rest → NotFirst (tok.Keyword kw.Zip) ts → SpellsAxis x u ts rest
plain_of (SpellsFactor.plain d) h = d
plain_of (SpellsFactor.zip i j p) h = absurd (h _ refl)

pub plain_axis : (ts : List Token) → NotFirst (tok.Keyword kw.Zip) ts → (z : Axis × Bool × List Token) → Ended SpellsFactor ts z → Ended SpellsAxis ts z
plain_axis ts h z q = record { spelled = plain_of q.spelled h; ends = q.ends }

one_factor_at : {x : Axis} {u : Bool} {ts rest : List Token} → SpellsFactor x u ts rest → EndsRange rest → Only (Ended SpellsFactor ts) (x, u, rest)
one_factor_at (SpellsFactor.plain {x = x} {u = u} {ts = ts} {rest = rest} d) e z q =
    let free : NotFirst (tok.Keyword kw.Zip) ts = λ us is. let P : List Token → Type 0 = λ vs. SpellsAxis x u vs rest in no_axis (subst P is d) in
    one_axis ts (x, u, rest) (record { spelled = d; ends = e }) z (plain_axis ts free z q)
one_factor_at (SpellsFactor.zip {xs = xs} {u = u} {ts = us} {rest = rest} h i p) e z q =
    let b : Between SpellsAxis (tok.Sign sg.Open ∷ us) (xs, u, rest) = record { inside = us; opened = refl; least = h; most = i; spelled = axes_listed p } in
    zip_is (tok.Keyword kw.Zip ∷ tok.Sign sg.Open ∷ us) (tok.Sign sg.Open ∷ us) (xs, u, rest) refl (one_between SpellsAxis one_axis (tok.Sign sg.Open ∷ us) (xs, u, rest) b) z q

pub one_factor : (ts : List Token) (y : Axis × Bool × List Token) → Ended SpellsFactor ts y → Only (Ended SpellsFactor ts) y
one_factor ts y p = one_factor_at p.spelled p.ends

-- ---- the first head

factors_listed : {xs : List Axis} {u : Bool} {ts rest : List Token} → SpellsFactors xs u ts rest → Listed SpellsFactor xs u ts rest
factors_listed (SpellsFactors.last d) = Listed.last d
factors_listed (SpellsFactors.more d p) = Listed.more d (factors_listed p)

listed_factors : {xs : List Axis} {u : Bool} {ts rest : List Token} → Listed SpellsFactor xs u ts rest → SpellsFactors xs u ts rest
listed_factors (Listed.last d) = SpellsFactors.last d
listed_factors (Listed.more d p) = SpellsFactors.more d (listed_factors p)

pub head_is : (xs : List Axis) (p : Bool) (u : Bool) (r : List Token) (z : FirstHead × Bool × List Token) → xs ≡ z.0.axes → p ≡ z.0.product → u ≡ z.1 → r ≡ z.2 →
    ◌≡◌ {A = FirstHead × Bool × List Token} (record { axes = xs; product = p }, u, r) z
head_is xs p u r z a b c d =
    let f : List Axis → FirstHead = λ ys. record { axes = ys; product = p } in
    let g : Bool → FirstHead = λ q. record { axes = z.0.axes; product = q } in
    triple_is (record { axes = xs; product = p }) u r z (ap f a ∙ ap g b) c d

record IsProduct (xs : List Axis) (p : Bool) (u : Bool) (ts rest : List Token) : Type 0 where
  product : p ≡ true
  between : Between SpellsFactor ts (xs, u, rest)

product_of : {xs : List Axis} {p u : Bool} {ts rest : List Token} → SpellsHead xs p u (tok.Keyword kw.Product ∷ ts) rest → IsProduct xs p u ts rest
product_of (SpellsHead.alone d) = absurd (no_factor d)
product_of (SpellsHead.product {xs = xs} {ts = us} h i p) = record {
  product = refl;
  between = record { inside = us; opened = refl; least = h; most = i; spelled = factors_listed p };
}

product_at : (ts us : List Token) → ts ≡ tok.Keyword kw.Product ∷ us → (z : FirstHead × Bool × List Token) → Ended SpellsFirst ts z → IsProduct z.0.axes z.0.product z.1 us z.2
product_at ts us is z q = let P : List Token → Type 0 = λ vs. SpellsHead z.0.axes z.0.product z.1 vs z.2 in product_of (subst P is q.spelled)

pub product_factors : (ts us : List Token) → ts ≡ tok.Keyword kw.Product ∷ us → (z : FirstHead × Bool × List Token) → Ended SpellsFirst ts z →
    (y : List Axis × Bool × List Token) × Between SpellsFactor us y
product_factors ts us is z q = ((z.0.axes, z.1, z.2), (product_at ts us is z q).between)

pub product_is : (ts us : List Token) (y : List Axis × Bool × List Token) → ts ≡ tok.Keyword kw.Product ∷ us → Only (Between SpellsFactor us) y →
    Only (Ended SpellsFirst ts) (record { axes = y.0; product = true }, y.1, y.2)
product_is ts us y is only z q =
    let h = product_at ts us is z q in
    let e = only (z.0.axes, z.1, z.2) h.between in
    head_is y.0 true y.1 y.2 z (ap (λ (t : List Axis × Bool × List Token). t.0) e) (sym h.product) (ap (λ (t : List Axis × Bool × List Token). t.1) e) (ap (λ (t : List Axis × Bool × List Token). t.2) e)

pub product_spelled : (ts us : List Token) (y : List Axis × Bool × List Token) → ts ≡ tok.Keyword kw.Product ∷ us → Between SpellsFactor us y → SpellsHead y.0 true y.1 ts y.2
product_spelled ts us y is b =
    let P : List Token → Type 0 = λ vs. SpellsHead y.0 true y.1 (tok.Keyword kw.Product ∷ vs) y.2 in
    let Q : List Token → Type 0 = λ vs. SpellsHead y.0 true y.1 vs y.2 in
    subst Q (sym is) (subst P (sym b.opened) (SpellsHead.product b.least b.most (listed_factors b.spelled)))

record IsAlone (xs : List Axis) (p : Bool) (u : Bool) (ts rest : List Token) : Type 0 where
  axis : Axis
  axes : axis ∷ [] ≡ xs
  product : false ≡ p
  spelled : SpellsFactor axis u ts rest

alone_of : {xs : List Axis} {p u : Bool} {ts rest : List Token} → SpellsHead xs p u ts rest → NotFirst (tok.Keyword kw.Product) ts → IsAlone xs p u ts rest
alone_of (SpellsHead.alone {x = x} d) h = record { axis = x; axes = refl; product = refl; spelled = d }
alone_of (SpellsHead.product i j p) h = absurd (h _ refl)

pub alone_factor : (ts : List Token) → NotFirst (tok.Keyword kw.Product) ts → (z : FirstHead × Bool × List Token) → Ended SpellsFirst ts z →
    (y : Axis × Bool × List Token) × Ended SpellsFactor ts y
alone_factor ts h z q = let a = alone_of q.spelled h in ((a.axis, z.1, z.2), record { spelled = a.spelled; ends = q.ends })

pub alone_is : (ts : List Token) (xs : List Axis) (y : Axis × Bool × List Token) → xs ≡ y.0 ∷ [] → NotFirst (tok.Keyword kw.Product) ts → Only (Ended SpellsFactor ts) y →
    Only (Ended SpellsFirst ts) (record { axes = xs; product = false }, y.1, y.2)
alone_is ts xs y one h only z q =
    let a = alone_of q.spelled h in
    let e = only (a.axis, z.1, z.2) (record { spelled = a.spelled; ends = q.ends }) in
    head_is xs false y.1 y.2 z (one ∙ ap (λ (t : Axis × Bool × List Token). t.0 ∷ []) e ∙ a.axes) a.product (ap (λ (t : Axis × Bool × List Token). t.1) e) (ap (λ (t : Axis × Bool × List Token). t.2) e)

pub alone_spelled : (ts : List Token) (xs : List Axis) (y : Axis × Bool × List Token) → xs ≡ y.0 ∷ [] → SpellsFactor y.0 y.1 ts y.2 → SpellsHead xs false y.1 ts y.2
alone_spelled ts xs y one d = let P : List Axis → Type 0 = λ ys. SpellsHead ys false y.1 ts y.2 in subst P (sym one) (SpellsHead.alone d)

one_first_at : {xs : List Axis} {p u : Bool} {ts rest : List Token} → SpellsHead xs p u ts rest → EndsRange rest → Only (Ended SpellsFirst ts) (record { axes = xs; product = p }, u, rest)
one_first_at (SpellsHead.alone {x = x} {u = u} {ts = ts} {rest = rest} d) e =
    let free : NotFirst (tok.Keyword kw.Product) ts = λ us is. let P : List Token → Type 0 = λ vs. SpellsFactor x u vs rest in no_factor (subst P is d) in
    alone_is ts (x ∷ []) (x, u, rest) refl free (one_factor ts (x, u, rest) (record { spelled = d; ends = e }))
one_first_at (SpellsHead.product {xs = xs} {u = u} {ts = us} {rest = rest} h i p) e =
    let b : Between SpellsFactor (tok.Sign sg.Open ∷ us) (xs, u, rest) = record { inside = us; opened = refl; least = h; most = i; spelled = factors_listed p } in
    product_is (tok.Keyword kw.Product ∷ tok.Sign sg.Open ∷ us) (tok.Sign sg.Open ∷ us) (xs, u, rest) refl (one_between SpellsFactor one_factor (tok.Sign sg.Open ∷ us) (xs, u, rest) b)

pub one_first : (ts : List Token) (y : FirstHead × Bool × List Token) → Ended SpellsFirst ts y → Only (Ended SpellsFirst ts) y
one_first ts y p = one_first_at p.spelled p.ends

-- one axis pushed onto the empty list
pub one_axis_of : (all start : List Axis) (x : Axis) → all ≡ start ++ x ∷ [] → start ≡ [] → all ≡ x ∷ []
one_axis_of all start x is none = is ∙ ap (λ ys. ys ++ x ∷ []) none
