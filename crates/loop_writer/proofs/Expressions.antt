-- What is written of an expression spells it again.
use Rattle.std.proofs.Common.{◌≡◌, ℕ, zero, suc, ◌≤◌, Bool, true, false, ◌||◌, List, [], ◌∷◌, ◌++◌, length, map, Option, Some, None, pos, negsuc, neg_ℤ, refl, ap, sym, ◌∙◌, subst, rules, if◌then◌else◌}
use lib.IntN.{ℤ}
use Rattle.loop_tokens.specs.declared.token.Token.{Token}
use Rattle.loop_tokens.specs.declared.token.Token.TheVariants as tok
use Rattle.loop_tokens.specs.declared.keyword.Keyword.{Keyword}
use Rattle.loop_tokens.specs.declared.keyword.Keyword.TheVariants as kw
use Rattle.loop_tokens.specs.Literals.{number_of, text_of, escaped}
use Rattle.loop_data.specs.declared.value.Value.{Value}
use Rattle.loop_data.specs.declared.value.Value.TheVariants as val
use Rattle.loop_data.specs.declared.expr.Op.{Op}
use Rattle.loop_data.specs.declared.expr.Op.TheVariants as op
use Rattle.loop_data.specs.declared.expr.Word.{Word}
use Rattle.loop_data.specs.declared.expr.Word.TheVariants as w
use Rattle.loop_data.specs.declared.expr.Expr.{Expr, the_lemmas}
use Rattle.loop_data.specs.declared.expr.Expr.TheVariants as e
use Rattle.loop_exprs.specs.declared.level.Level.{Level}
use Rattle.loop_exprs.specs.declared.level.Level.TheVariants as level
use Rattle.loop_exprs.specs.Operations.{tighter, groups_left, operation_of, level_of, extreme_of, constant_of, is_wide, positive_value, is_wide_negative, negative_value}
use Rattle.loop_exprs.specs.Grammar.{Spells, SpellsParts, NoNumberFirst}
use Rattle.loop_layout.specs.Layout.{Mark, tokens_in}
use Rattle.loop_layout.specs.Canonical.{Written, WrittenExpr, first, glued, apart, open_, close, comma, minus, int_marks, op_token, is_extreme, word_token, simple, in_parentheses, operation, after_comma, parts_marks, called, literal_expr, negated, else_marks, written_expr}
use Rattle.loop_layout.proofs.ReadableTokens.{readable_texts}
use Rattle.loop_writer.proofs.Numbers.{digits_of, positive_there, negative_there, positive_back, negative_back}

-- the tokens of marks, before others
abbrev pub onto : List Mark → List Token → List Token
onto [] rest = rest
onto (m ∷ ms) rest = m.token ∷ onto ms rest

pub onto-append : (xs ys : List Mark) (rest : List Token) → onto (xs ++ ys) rest ≡ onto xs (onto ys rest)
onto-append [] ys rest = refl
onto-append (x ∷ xs) ys rest = ap (λ (ts : List Token). x.token ∷ ts) (onto-append xs ys rest)

pub onto-all : (ms : List Mark) → onto ms [] ≡ tokens_in ms
onto-all [] = refl
onto-all (m ∷ ms) = ap (λ (ts : List Token). m.token ∷ ts) (onto-all ms)

-- What is written of x spells it: as a whole place, and as a part, which holds together as tightly as unary minus. Only an Int literal begins with a number.
pub record IsSpelled (x : Expr) (w : WrittenExpr) : Type 0 where
  pub whole : (a : Bool) (rest : List Token) → Spells level.Expr x false (onto (w.whole a) rest) rest
  pub part : (a : Bool) (rest : List Token) → Spells level.Negate x false (onto (w.part a) rest) rest
  pub no_number : w.is_int ≡ false → (a : Bool) (rest : List Token) → NoNumberFirst (onto (w.part a) rest)

-- ---- levels

pub loose : {x : Expr} {u : Bool} {ts rest : List Token} → Spells level.Negate x u ts rest → Spells level.Expr x u ts rest
loose d = Spells.tight {l = level.Expr} (Spells.tight {l = level.Or} (Spells.tight {l = level.And} (Spells.tight {l = level.Not} (Spells.tight {l = level.Compare}
    (Spells.tight {l = level.Join} (Spells.tight {l = level.Add} (Spells.tight {l = level.Multiply} d)))))))

at_not : {x : Expr} {u : Bool} {ts rest : List Token} → Spells level.Negate x u ts rest → Spells level.Not x u ts rest
at_not d = Spells.tight {l = level.Not} (Spells.tight {l = level.Compare} (Spells.tight {l = level.Join} (Spells.tight {l = level.Add} (Spells.tight {l = level.Multiply} d))))

at_join : {x : Expr} {u : Bool} {ts rest : List Token} → Spells level.Negate x u ts rest → Spells level.Join x u ts rest
at_join d = Spells.tight {l = level.Join} (Spells.tight {l = level.Add} (Spells.tight {l = level.Multiply} d))

-- on the right of an operation of a level that groups to the left
at_right : (l : Level) {x : Expr} {u : Bool} {ts rest : List Token} → groups_left l ≡ true → Spells level.Negate x u ts rest → Spells (tighter l) x u ts rest
at_right level.Or g d = Spells.tight {l = level.And} (at_not d)
at_right level.And g d = at_not d
at_right level.Join g d = Spells.tight {l = level.Add} (Spells.tight {l = level.Multiply} d)
at_right level.Add g d = Spells.tight {l = level.Multiply} d
at_right level.Multiply g d = d
at_right level.Expr g d = absurd (cc)
at_right level.Not g d = absurd (cc)
at_right level.Compare g d = absurd (cc)
at_right level.Negate g d = absurd (cc)
at_right level.Atom g d = absurd (cc)

-- from the level of any operation of two sides up to a whole expression
up : (l : Level) {x : Expr} {u : Bool} {ts rest : List Token} → groups_left l ≡ true → Spells l x u ts rest → Spells level.Expr x u ts rest
up level.Or g d = Spells.tight {l = level.Expr} d
up level.And g d = Spells.tight {l = level.Expr} (Spells.tight {l = level.Or} d)
up level.Join g d = Spells.tight {l = level.Expr} (Spells.tight {l = level.Or} (Spells.tight {l = level.And} (Spells.tight {l = level.Not} (Spells.tight {l = level.Compare} d))))
up level.Add g d = Spells.tight {l = level.Expr} (Spells.tight {l = level.Or} (Spells.tight {l = level.And} (Spells.tight {l = level.Not} (Spells.tight {l = level.Compare} (Spells.tight {l = level.Join} d)))))
up level.Multiply g d = Spells.tight {l = level.Expr} (Spells.tight {l = level.Or} (Spells.tight {l = level.And} (Spells.tight {l = level.Not} (Spells.tight {l = level.Compare}
    (Spells.tight {l = level.Join} (Spells.tight {l = level.Add} d))))))
up level.Expr g d = absurd (cc)
up level.Not g d = absurd (cc)
up level.Compare g d = absurd (cc)
up level.Negate g d = absurd (cc)
up level.Atom g d = absurd (cc)

-- ---- tokens that come first

first_same : {u v : Token} {ts us : List Token} → u ∷ ts ≡ v ∷ us → u ≡ v
first_same h = cc

no_number_at : (t : Token) (ts : List Token) → ((n : List ℕ) → t ≡ tok.Number n → ⊥) → NoNumberFirst (t ∷ ts)
no_number_at t ts differ n us same = differ n (first_same same)

-- ---- forms of what is written

parenthesised : {x : Expr} (m : Written) (a : Bool) (rest : List Token) → Spells level.Expr x false (onto (m false) (close ∷ rest)) (close ∷ rest) →
    Spells level.Atom x false (onto (in_parentheses m a) rest) rest
parenthesised {x = x} m a rest d =
    let P : List Token → Type 0 = λ ts. Spells level.Atom x false (open_ ∷ ts) rest in
    subst P (sym (onto-append (m false) (glued close ∷ []) rest)) (Spells.group d)

-- what is the same as a whole and as a part
atom : {x : Expr} (m : Written) → ((a : Bool) (rest : List Token) → Spells level.Atom x false (onto (m a) rest) rest) →
    ((a : Bool) (rest : List Token) → NoNumberFirst (onto (m a) rest)) → IsSpelled x (simple m)
atom m d f = record {
  whole = λ a rest. loose (Spells.tight {l = level.Negate} (d a rest));
  part = λ a rest. Spells.tight {l = level.Negate} (d a rest);
  no_number = λ h a rest. f a rest;
}

-- one token
token : {x : Expr} (t : Token) → ((rest : List Token) → Spells level.Atom x false (t ∷ rest) rest) → ((n : List ℕ) → t ≡ tok.Number n → ⊥) → IsSpelled x (simple (λ a. first a t ∷ []))
token t d differ = atom (λ a. first a t ∷ []) (λ a rest. d rest) (λ a rest. no_number_at t rest differ)

-- in parentheses where it is a part
operation_spelled : {x : Expr} (m : Written) → ((a : Bool) (rest : List Token) → Spells level.Expr x false (onto (m a) rest) rest) → IsSpelled x (operation m)
operation_spelled m d = record {
  whole = d;
  part = λ a rest. Spells.tight {l = level.Negate} (parenthesised m a rest (d false (close ∷ rest)));
  no_number = λ h a rest. no_number_at open_ _ (λ n q. cc);
}

-- ---- literals

-- an Int that is written so that it spells itself
abbrev pub IntSpelled : ℤ → Type 0
IntSpelled i = (a : Bool) (rest : List Token) → Spells level.Negate (e.Lit (val.Int i)) false (onto (int_marks i a) rest) rest

positive_spelled : (n : ℕ) → is_wide n ≡ false → IntSpelled (pos n)
positive_spelled n h a rest =
    let back = positive_back n h in
    let P : ℤ → Type 0 = λ v. Spells level.Atom (e.Lit (val.Int v)) false (tok.Number (digits_of n) ∷ rest) rest in
    let Q : Bool → Type 0 = λ u. Spells level.Atom (e.Lit (val.Int (positive_value (number_of (digits_of n))))) u (tok.Number (digits_of n) ∷ rest) rest in
    Spells.tight {l = level.Negate} (subst P back.value (subst Q back.wide (Spells.number {n = digits_of n} {rest = rest})))

negative_spelled : (n : ℕ) → is_wide_negative (suc n) ≡ false → IntSpelled (negsuc n)
negative_spelled n h a rest =
    let back = negative_back n h in
    let ts : List Token = minus ∷ tok.Number (digits_of (suc n)) ∷ rest in
    let P : ℤ → Type 0 = λ v. Spells level.Negate (e.Lit (val.Int v)) false ts rest in
    let Q : Bool → Type 0 = λ u. Spells level.Negate (e.Lit (val.Int (negative_value (number_of (digits_of (suc n)))))) u ts rest in
    subst P back.value (subst Q back.wide (Spells.negative {n = digits_of (suc n)} {rest = rest}))

zero_narrow : is_wide 0 ≡ false
zero_narrow = refl

-- a number behind `-`, which is 0 or below
below_spelled : (n : ℕ) → is_wide_negative n ≡ false → IntSpelled (neg_ℤ (pos n))
below_spelled zero h = positive_spelled 0 zero_narrow
below_spelled (suc n) h = negative_spelled n h

int_written : (i : ℤ) → IntSpelled i → IsSpelled (e.Lit (val.Int i)) (literal_expr (val.Int i))
int_written i d = record {
  whole = λ a rest. loose (d a rest);
  part = d;
  no_number = λ h. absurd (let no : true ≡ false = h in cc);
}

text_written : (s : List ℕ) → IsSpelled (e.Lit (val.Text s)) (literal_expr (val.Text s))
text_written s = token (tok.Text (escaped s)) (λ rest.
    let P : List ℕ → Type 0 = λ t. Spells level.Atom (e.Lit (val.Text t)) false (tok.Text (escaped s) ∷ rest) rest in
    subst P (readable_texts s).1 (Spells.text {raw = escaped s} {rest = rest})) (λ n q. cc)

bool_written : (b : Bool) → IsSpelled (e.Lit (val.Bool b)) (literal_expr (val.Bool b))
bool_written true = token (tok.Keyword kw.True) (λ rest. Spells.constant refl) (λ n q. cc)
bool_written false = token (tok.Keyword kw.False) (λ rest. Spells.constant refl) (λ n q. cc)

-- ---- what is written of each form

pub written-Lit : (v : Value) → literal_expr v ≡ written_expr (e.Lit v)
written-Lit v = search (rules, the_lemmas)

pub written-Name : (n : List ℕ) → simple (λ a. first a (tok.Name n) ∷ []) ≡ written_expr (e.Name n)
written-Name n = search (rules, the_lemmas)

pub written-Place : simple (λ a. first a (tok.Keyword kw.Place) ∷ []) ≡ written_expr e.Place
written-Place = search (rules, the_lemmas)

pub written-Neg : (x : Expr) → simple (in_parentheses (λ a. first a minus ∷ negated (written_expr x) false)) ≡ written_expr (e.Neg x)
written-Neg x = search (rules, the_lemmas)

pub written-Not : (x : Expr) → operation (λ a. first a (tok.Keyword kw.Not) ∷ (written_expr x).part true) ≡ written_expr (e.Not x)
written-Not x = search (rules, the_lemmas)

-- what is written of two sides
abbrev pub two_written : Op → WrittenExpr → WrittenExpr → WrittenExpr
two_written o p q = if is_extreme o then simple (called (op_token o) (parts_marks (p ∷ q ∷ [])))
    else operation (λ a. p.part a ++ apart (op_token o) ∷ q.part true)

pub written-Two : (o : Op) (x y : Expr) → two_written o (written_expr x) (written_expr y) ≡ written_expr (e.Two o x y)
written-Two o x y = search (rules, the_lemmas)

pub written-Call : (f : Word) (x : Expr) → simple (called (word_token f) ((written_expr x).whole false)) ≡ written_expr (e.Call f x)
written-Call f x = search (rules, the_lemmas)

-- what is written of a choice
abbrev pub choice_written : WrittenExpr → WrittenExpr → Option WrittenExpr → WrittenExpr
choice_written c p q = operation (λ a. first a (tok.Keyword kw.If) ∷ c.part true ++ apart (tok.Keyword kw.Then) ∷ p.part true ++ apart (tok.Keyword kw.Else) ∷ else_marks q)

pub written-If : (c x y : Expr) → choice_written (written_expr c) (written_expr x) (Some (written_expr y)) ≡ written_expr (e.If c x (Some y))
written-If c x y = search (rules, the_lemmas)

pub written-IfNone : (c x : Expr) → choice_written (written_expr c) (written_expr x) None ≡ written_expr (e.If c x None)
written-IfNone c x = search (rules, the_lemmas)

pub written-Tuple : (xs : List Expr) → simple (in_parentheses (λ a. parts_marks (map written_expr xs))) ≡ written_expr (e.Tuple xs)
written-Tuple xs = search (rules, the_lemmas)

-- ---- each form is spelled, given its parts

-- behind `-` no number comes first
negated_spelled : {x : Expr} (p : WrittenExpr) (b : Bool) → p.is_int ≡ b → IsSpelled x p → (rest : List Token) →
    Spells level.Negate x false (onto ((if b then in_parentheses p.whole else p.part) false) rest) rest ×
    NoNumberFirst (onto ((if b then in_parentheses p.whole else p.part) false) rest)
negated_spelled p true h d rest = (Spells.tight {l = level.Negate} (parenthesised p.whole false rest (d.whole false (close ∷ rest))), no_number_at open_ _ (λ n q. cc))
negated_spelled p false h d rest = (d.part false rest, d.no_number h false rest)

neg_spelled : {x : Expr} (p : WrittenExpr) → IsSpelled x p → IsSpelled (e.Neg x) (simple (in_parentheses (λ a. first a minus ∷ negated p false)))
neg_spelled p d = atom (in_parentheses (λ a. first a minus ∷ negated p false))
    (λ a rest. let h = negated_spelled p p.is_int refl d (close ∷ rest) in parenthesised (λ a. first a minus ∷ negated p false) a rest (loose (Spells.negate h.1 h.0)))
    (λ a rest. no_number_at open_ _ (λ n q. cc))

not_spelled : {x : Expr} (p : WrittenExpr) → IsSpelled x p → IsSpelled (e.Not x) (operation (λ a. first a (tok.Keyword kw.Not) ∷ p.part true))
not_spelled p d = operation_spelled (λ a. first a (tok.Keyword kw.Not) ∷ p.part true)
    (λ a rest. Spells.tight {l = level.Expr} (Spells.tight {l = level.Or} (Spells.tight {l = level.And} (Spells.not (at_not (d.part true rest))))))

-- a part, an operation and another part, with what follows
sides : {z : Expr} (p q : WrittenExpr) (t : Token) → ((a : Bool) (rest : List Token) → Spells level.Expr z false (onto (p.part a) (t ∷ onto (q.part true) rest)) rest) →
    IsSpelled z (operation (λ a. p.part a ++ apart t ∷ q.part true))
sides {z = z} p q t d = operation_spelled (λ a. p.part a ++ apart t ∷ q.part true)
    (λ a rest. let P : List Token → Type 0 = λ ts. Spells level.Expr z false ts rest in subst P (sym (onto-append (p.part a) (apart t ∷ q.part true) rest)) (d a rest))

-- each operation between two sides has a token of its own
op_back : (o : Op) → is_extreme o ≡ false → operation_of (op_token o) ≡ Some o
op_back op.Min h = absurd (cc)
op_back op.Max h = absurd (cc)
op_back _ h = refl

pub left_is_plain : (o : Op) → groups_left (level_of o) ≡ true → is_extreme o ≡ false
left_is_plain op.Min h = absurd (cc)
left_is_plain op.Max h = absurd (cc)
left_is_plain _ h = refl

pub compare_is_plain : (o : Op) → level_of o ≡ level.Compare → is_extreme o ≡ false
compare_is_plain op.Min h = absurd (cc)
compare_is_plain op.Max h = absurd (cc)
compare_is_plain _ h = refl

plain_written : {z : Expr} (o : Op) (p q : WrittenExpr) → is_extreme o ≡ false → IsSpelled z (operation (λ a. p.part a ++ apart (op_token o) ∷ q.part true)) → IsSpelled z (two_written o p q)
plain_written {z = z} o p q h d =
    let P : Bool → Type 0 = λ b. IsSpelled z (if b then simple (called (op_token o) (parts_marks (p ∷ q ∷ []))) else operation (λ a. p.part a ++ apart (op_token o) ∷ q.part true)) in
    subst P (sym h) d

two_spelled : {x y : Expr} (l : Level) (o : Op) (p q : WrittenExpr) → groups_left l ≡ true → level_of o ≡ l → IsSpelled x p → IsSpelled y q → IsSpelled (e.Two o x y) (two_written o p q)
two_spelled {x = x} {y = y} l o p q g at d f =
    let plain = left_is_plain o (ap groups_left at ∙ g) in
    plain_written o p q plain (sides p q (op_token o) (λ a rest.
    up l g (Spells.two {l = l} {t = op_token o} g (op_back o plain, at) (Spells.tight {l = l} (at_right l g (d.part a (op_token o ∷ onto (q.part true) rest)))) (at_right l g (f.part true rest)))))

compared_spelled : {x y : Expr} (o : Op) (p q : WrittenExpr) → level_of o ≡ level.Compare → IsSpelled x p → IsSpelled y q → IsSpelled (e.Two o x y) (two_written o p q)
compared_spelled {x = x} {y = y} o p q at d f =
    let plain = compare_is_plain o at in
    plain_written o p q plain (sides p q (op_token o) (λ a rest.
    Spells.tight {l = level.Expr} (Spells.tight {l = level.Or} (Spells.tight {l = level.And} (Spells.tight {l = level.Not}
    (Spells.compare {t = op_token o} (op_back o plain, at) (at_join (d.part a (op_token o ∷ onto (q.part true) rest))) (at_join (f.part true rest))))))))

called_spelled : {z : Expr} (k : Keyword) (inside : List Mark) → ((rest : List Token) → Spells level.Atom z false (tok.Keyword k ∷ open_ ∷ onto inside (close ∷ rest)) rest) →
    IsSpelled z (simple (called (tok.Keyword k) inside))
called_spelled {z = z} k inside d = atom (called (tok.Keyword k) inside)
    (λ a rest. let P : List Token → Type 0 = λ ts. Spells level.Atom z false (tok.Keyword k ∷ open_ ∷ ts) rest in subst P (sym (onto-append inside (glued close ∷ []) rest)) (d rest))
    (λ a rest. no_number_at (tok.Keyword k) _ (λ n q. cc))

call_spelled : {x : Expr} (f : Word) (p : WrittenExpr) → IsSpelled x p → IsSpelled (e.Call f x) (simple (called (word_token f) (p.whole false)))
call_spelled w.Abs p d = called_spelled kw.Abs (p.whole false) (λ rest. Spells.call {w = w.Abs} refl (d.whole false (close ∷ rest)))
call_spelled w.Len p d = called_spelled kw.Len (p.whole false) (λ rest. Spells.call {w = w.Len} refl (d.whole false (close ∷ rest)))
call_spelled w.Int p d = called_spelled kw.Int (p.whole false) (λ rest. Spells.call {w = w.Int} refl (d.whole false (close ∷ rest)))
call_spelled w.TryInt p d = called_spelled kw.TryInt (p.whole false) (λ rest. Spells.call {w = w.TryInt} refl (d.whole false (close ∷ rest)))
call_spelled w.Text p d = called_spelled kw.Text (p.whole false) (λ rest. Spells.call {w = w.Text} refl (d.whole false (close ∷ rest)))

onto-pair : (p q : WrittenExpr) (rest : List Token) → onto (parts_marks (p ∷ q ∷ [])) rest ≡ onto (p.whole false) (comma ∷ onto (q.whole true) rest)
onto-pair p q rest = onto-append (p.whole false) (after_comma (q ∷ [])) rest ∙ ap (λ (ts : List Token). onto (p.whole false) (comma ∷ ts)) (onto-append (q.whole true) [] rest)

pair_called : {x y : Expr} (k : Keyword) (o : Op) (p q : WrittenExpr) → extreme_of k ≡ Some o → IsSpelled x p → IsSpelled y q →
    IsSpelled (e.Two o x y) (simple (called (tok.Keyword k) (parts_marks (p ∷ q ∷ []))))
pair_called {x = x} {y = y} k o p q h d f = called_spelled k (parts_marks (p ∷ q ∷ [])) (λ rest.
    let P : List Token → Type 0 = λ ts. Spells level.Atom (e.Two o x y) false (tok.Keyword k ∷ open_ ∷ ts) rest in
    subst P (sym (onto-pair p q (close ∷ rest))) (Spells.extreme h (d.whole false (comma ∷ onto (q.whole true) (close ∷ rest))) (f.whole true (close ∷ rest))))

pub some_same : {X : Type 0} {x y : X} → ◌≡◌ {A = Option X} (Some x) (Some y) → x ≡ y
some_same h = cc

extreme_spelled : {x y : Expr} (k : Keyword) (o : Op) (p q : WrittenExpr) → extreme_of k ≡ Some o → IsSpelled x p → IsSpelled y q → IsSpelled (e.Two o x y) (two_written o p q)
extreme_spelled {x = x} {y = y} kw.Min o p q h d f =
    let P : Op → Type 0 = λ v. IsSpelled (e.Two v x y) (two_written v p q) in
    subst P (some_same h) (pair_called kw.Min op.Min p q refl d f)
extreme_spelled {x = x} {y = y} kw.Max o p q h d f =
    let P : Op → Type 0 = λ v. IsSpelled (e.Two v x y) (two_written v p q) in
    subst P (some_same h) (pair_called kw.Max op.Max p q refl d f)
extreme_spelled _ o p q h d f = absurd (cc)

onto-choice : (cs ps es : List Mark) (rest : List Token) → onto (cs ++ apart (tok.Keyword kw.Then) ∷ ps ++ apart (tok.Keyword kw.Else) ∷ es) rest ≡
    onto cs (tok.Keyword kw.Then ∷ onto ps (tok.Keyword kw.Else ∷ onto es rest))
onto-choice cs ps es rest =
    onto-append (cs ++ apart (tok.Keyword kw.Then) ∷ ps) (apart (tok.Keyword kw.Else) ∷ es) rest ∙ onto-append cs (apart (tok.Keyword kw.Then) ∷ ps) (tok.Keyword kw.Else ∷ onto es rest)

choice_spelled : {c x y : Expr} (r p q : WrittenExpr) → IsSpelled c r → IsSpelled x p → IsSpelled y q → IsSpelled (e.If c x (Some y)) (choice_written r p (Some q))
choice_spelled {c = c} {x = x} {y = y} r p q d f g = operation_spelled (λ a. first a (tok.Keyword kw.If) ∷ r.part true ++ apart (tok.Keyword kw.Then) ∷ p.part true ++ apart (tok.Keyword kw.Else) ∷ q.part true)
    (λ a rest.
    let P : List Token → Type 0 = λ ts. Spells level.Expr (e.If c x (Some y)) false (tok.Keyword kw.If ∷ ts) rest in
    let after : List Token = tok.Keyword kw.Else ∷ onto (q.part true) rest in
    subst P (sym (onto-choice (r.part true) (p.part true) (q.part true) rest))
    (Spells.choice (loose (d.part true (tok.Keyword kw.Then ∷ onto (p.part true) after))) (loose (f.part true after)) (loose (g.part true rest))))

choice_some_spelled : {c x : Expr} (r p : WrittenExpr) → IsSpelled c r → IsSpelled x p → IsSpelled (e.If c x None) (choice_written r p None)
choice_some_spelled {c = c} {x = x} r p d f = operation_spelled (λ a. first a (tok.Keyword kw.If) ∷ r.part true ++ apart (tok.Keyword kw.Then) ∷ p.part true ++ apart (tok.Keyword kw.Else) ∷ apart (tok.Keyword kw.Nothing) ∷ [])
    (λ a rest.
    let P : List Token → Type 0 = λ ts. Spells level.Expr (e.If c x None) false (tok.Keyword kw.If ∷ ts) rest in
    let after : List Token = tok.Keyword kw.Else ∷ tok.Keyword kw.Nothing ∷ rest in
    subst P (sym (onto-choice (r.part true) (p.part true) (apart (tok.Keyword kw.Nothing) ∷ []) rest))
    (Spells.choice_some (loose (d.part true (tok.Keyword kw.Then ∷ onto (p.part true) after))) (loose (f.part true after))))

-- parts with commas between them, told whether the first stands behind a space
abbrev pub parts_from : Bool → List WrittenExpr → List Mark
parts_from a [] = []
parts_from a (p ∷ ps) = p.whole a ++ after_comma ps

pub parts_from-false : (ps : List WrittenExpr) → parts_from false ps ≡ parts_marks ps
parts_from-false [] = refl
parts_from-false (p ∷ ps) = refl

pub comma_before : {xs : List Expr} {u : Bool} {ts rest : List Token} → SpellsParts xs u ts rest → after_comma (map written_expr xs) ≡ glued comma ∷ parts_from true (map written_expr xs)
comma_before (SpellsParts.last d) = refl
comma_before (SpellsParts.more d m) = refl

tuple_spelled : (xs : List Expr) → 2 ≤ length xs → length xs ≤ 4 → ((a : Bool) (rest : List Token) → SpellsParts xs false (onto (parts_from a (map written_expr xs)) rest) rest) →
    IsSpelled (e.Tuple xs) (simple (in_parentheses (λ a. parts_marks (map written_expr xs))))
tuple_spelled xs low high d = atom (in_parentheses (λ a. parts_marks (map written_expr xs)))
    (λ a rest.
    let P : List Token → Type 0 = λ ts. Spells level.Atom (e.Tuple xs) false (open_ ∷ ts) rest in
    let Q : List Mark → Type 0 = λ ms. Spells level.Atom (e.Tuple xs) false (open_ ∷ onto ms (close ∷ rest)) rest in
    subst P (sym (onto-append (parts_marks (map written_expr xs)) (glued close ∷ []) rest)) (subst Q (parts_from-false (map written_expr xs)) (Spells.tuple low high (d false (close ∷ rest)))))
    (λ a rest. no_number_at open_ _ (λ n q. cc))

pub left_false : (u v : Bool) → (u || v) ≡ false → u ≡ false
left_false true v h = absurd (cc)
left_false false v h = refl

pub right_false : (u v : Bool) → (u || v) ≡ false → v ≡ false
right_false true v h = absurd (cc)
right_false false v h = h

constant_spelled : (k : Keyword) (x : Expr) → constant_of k ≡ Some x → IsSpelled x (written_expr x)
constant_spelled kw.True x h = let P : Expr → Type 0 = λ y. IsSpelled y (written_expr y) in
    subst P (some_same h) (subst (IsSpelled (e.Lit (val.Bool true))) (written-Lit (val.Bool true)) (bool_written true))
constant_spelled kw.False x h = let P : Expr → Type 0 = λ y. IsSpelled y (written_expr y) in
    subst P (some_same h) (subst (IsSpelled (e.Lit (val.Bool false))) (written-Lit (val.Bool false)) (bool_written false))
constant_spelled kw.Place x h = let P : Expr → Type 0 = λ y. IsSpelled y (written_expr y) in
    subst P (some_same h) (subst (IsSpelled e.Place) written-Place (token (tok.Keyword kw.Place) (λ rest. Spells.constant refl) (λ n q. cc)))
constant_spelled _ x h = absurd (cc)

int_there : (i v : ℤ) → v ≡ i → IntSpelled i → IsSpelled (e.Lit (val.Int v)) (written_expr (e.Lit (val.Int v)))
int_there i v same d =
    let P : ℤ → Type 0 = λ z. IsSpelled (e.Lit (val.Int z)) (written_expr (e.Lit (val.Int z))) in
    subst P (sym same) (subst (IsSpelled (e.Lit (val.Int i))) (written-Lit (val.Int i)) (int_written i d))

-- ---- what any tokens spell, with no number too wide, is spelled by what is written of it

mutual
  pub expr_spelled : {l : Level} {x : Expr} {u : Bool} {ts rest : List Token} → Spells l x u ts rest → u ≡ false → IsSpelled x (written_expr x)
  expr_spelled (Spells.tight d) h = expr_spelled d h
  expr_spelled (Spells.two {l = l} {o = o} {a = a} {b = b} {u = u} {v = v} g is d f) h =
      subst (IsSpelled (e.Two o a b)) (written-Two o a b) (two_spelled l o _ _ g is.1 (expr_spelled d (left_false u v h)) (expr_spelled f (right_false u v h)))
  expr_spelled (Spells.compare {o = o} {a = a} {b = b} {u = u} {v = v} is d f) h =
      subst (IsSpelled (e.Two o a b)) (written-Two o a b) (compared_spelled o _ _ is.1 (expr_spelled d (left_false u v h)) (expr_spelled f (right_false u v h)))
  expr_spelled (Spells.not {x = x} d) h = subst (IsSpelled (e.Not x)) (written-Not x) (not_spelled _ (expr_spelled d h))
  expr_spelled (Spells.negative {n = n}) h = int_there (neg_ℤ (pos (number_of n))) (negative_value (number_of n)) (negative_there (number_of n) h) (below_spelled (number_of n) h)
  expr_spelled (Spells.negate {x = x} free d) h = subst (IsSpelled (e.Neg x)) (written-Neg x) (neg_spelled _ (expr_spelled d h))
  expr_spelled (Spells.number {n = n}) h = int_there (pos (number_of n)) (positive_value (number_of n)) (positive_there (number_of n) h) (positive_spelled (number_of n) h)
  expr_spelled (Spells.text {raw = raw}) h = subst (IsSpelled (e.Lit (val.Text (text_of raw)))) (written-Lit (val.Text (text_of raw))) (text_written (text_of raw))
  expr_spelled (Spells.name {n = n}) h = subst (IsSpelled (e.Name n)) (written-Name n) (token (tok.Name n) (λ rest. Spells.name) (λ m q. cc))
  expr_spelled (Spells.constant {k = k} {x = x} is) h = constant_spelled k x is
  expr_spelled (Spells.call {w = f} {x = x} is d) h = subst (IsSpelled (e.Call f x)) (written-Call f x) (call_spelled f _ (expr_spelled d h))
  expr_spelled (Spells.extreme {k = k} {o = o} {a = a} {b = b} {u = u} {v = v} is d f) h =
      subst (IsSpelled (e.Two o a b)) (written-Two o a b) (extreme_spelled k o _ _ is (expr_spelled d (left_false u v h)) (expr_spelled f (right_false u v h)))
  expr_spelled (Spells.choice {c = c} {a = a} {b = b} {u = u} {v = v} {w = z} d f g) h =
      let uv : (u || v) ≡ false = left_false (u || v) z h in
      subst (IsSpelled (e.If c a (Some b))) (written-If c a b) (choice_spelled _ _ _ (expr_spelled d (left_false u v uv)) (expr_spelled f (right_false u v uv)) (expr_spelled g (right_false (u || v) z h)))
  expr_spelled (Spells.choice_some {c = c} {a = a} {u = u} {v = v} d f) h =
      subst (IsSpelled (e.If c a None)) (written-IfNone c a) (choice_some_spelled _ _ (expr_spelled d (left_false u v h)) (expr_spelled f (right_false u v h)))
  expr_spelled (Spells.group d) h = expr_spelled d h
  expr_spelled (Spells.tuple {xs = xs} low high m) h = subst (IsSpelled (e.Tuple xs)) (written-Tuple xs) (tuple_spelled xs low high (parts_spelled m h))

  pub parts_spelled : {xs : List Expr} {u : Bool} {ts rest : List Token} → SpellsParts xs u ts rest → u ≡ false →
      (a : Bool) (more : List Token) → SpellsParts xs false (onto (parts_from a (map written_expr xs)) more) more
  parts_spelled (SpellsParts.last {x = x} d) h a more =
      let P : List Token → Type 0 = λ ts. SpellsParts (x ∷ []) false ts more in
      subst P (sym (onto-append ((written_expr x).whole a) [] more)) (SpellsParts.last ((expr_spelled d h).whole a more))
  parts_spelled (SpellsParts.more {x = x} {xs = xs} {u = u} {v = v} d m) h a more =
      let P : List Token → Type 0 = λ ts. SpellsParts (x ∷ xs) false ts more in
      let Q : List Mark → Type 0 = λ ms. SpellsParts (x ∷ xs) false (onto ((written_expr x).whole a) (onto ms more)) more in
      subst P (sym (onto-append ((written_expr x).whole a) (after_comma (map written_expr xs)) more)) (subst Q (sym (comma_before m))
      (SpellsParts.more ((expr_spelled d (left_false u v h)).whole a (comma ∷ onto (parts_from true (map written_expr xs)) more)) (parts_spelled m (right_false u v h) true more)))
