-- All the tokens of a line together spell one line at most, and where none is spelled.
use Rattle.std.proofs.Common.{◌≡◌, ◌≢◌, ℕ, Bool, true, false, ◌||◌, List, [], ◌∷◌, Some, None, refl, ap, sym, ◌∙◌, subst}
use Rattle.loop_tokens.specs.declared.token.Token.{Token}
use Rattle.loop_tokens.specs.declared.token.Token.TheVariants as tok
use Rattle.loop_tokens.specs.declared.keyword.Keyword.{Keyword}
use Rattle.loop_tokens.specs.declared.keyword.Keyword.TheVariants as kw
use Rattle.loop_tokens.specs.declared.keyword.AtWord.TheVariants as at
use Rattle.loop_tokens.specs.declared.sign.Sign.{Sign}
use Rattle.loop_tokens.specs.declared.sign.Sign.TheVariants as sg
use Rattle.loop_data.specs.declared.value.Value.{Value}
use Rattle.loop_data.specs.declared.expr.Expr.{Expr}
use Rattle.loop_data.specs.declared.tower.Kind.TheVariants as kind
use Rattle.loop_data.specs.declared.tower.TowerExpr.{TowerExpr}
use Rattle.loop_data.specs.declared.tower.TowerExpr.TheVariants as tower
use Rattle.loop_exprs.specs.declared.level.Level.TheVariants as level
use Rattle.loop_exprs.specs.Grammar.{Spells, NotFirst}
use Rattle.loop_exprs.proofs.Unique.{one_reading}
use Rattle.loop_grammar.specs.declared.line.Heads.{Heads}
use Rattle.loop_grammar.specs.declared.line.Line.{Line}
use Rattle.loop_grammar.specs.declared.line.Line.TheVariants as l
use Rattle.loop_grammar.specs.LineForms.{SpellsLiteral, SpellsPattern, SpellsTower, SpellsLine}
use Rattle.loop_heads.specs.Tokens.{NoNameFirst}
use Rattle.loop_heads.specs.Heads.{SpellsHeads, HeadsAt}
use Rattle.loop_heads.proofs.Patterns.{one_pattern}
use Rattle.loop_heads.proofs.AllHeads.{one_heads}
use Rattle.loop_lines.specs.Claims.{NotAssigned, Tells, IsSkip, WholeExpr, WholeLiteral, PatternUpTo, TowerAt, LineOf, OneLine}
use Rattle.loop_lines.proofs.Steps.{tails}
use Rattle.loop_lines.proofs.Towers.{same_or, exactly}

-- one line with its flag, and another
abbrev SameLine : Line → Bool → Line → Bool → Type 0
SameLine x u y v = (x ≡ y) × (u ≡ v)

one_expr : {x y : Expr} {u v : Bool} {ts : List Token} → Spells level.Expr x u ts [] → Spells level.Expr y v ts [] → (x ≡ y) × (u ≡ v)
one_expr {x = x} {y = y} {u = u} {v = v} {ts = ts} d e =
    let same = one_reading ts [] [] x y u v (record { spelled = d; longest = tt }) (record { spelled = e; longest = tt }) in (same.0, same.1)

one_literal_at : {x y : Value} {u v : Bool} {ts rest also : List Token} → SpellsLiteral x u ts rest → SpellsLiteral y v ts also → (x ≡ y) × (u ≡ v) × (rest ≡ also)
one_literal_at SpellsLiteral.number SpellsLiteral.number = (refl, refl, refl)
one_literal_at SpellsLiteral.negative SpellsLiteral.negative = (refl, refl, refl)
one_literal_at SpellsLiteral.text SpellsLiteral.text = (refl, refl, refl)
one_literal_at SpellsLiteral.yes SpellsLiteral.yes = (refl, refl, refl)
one_literal_at SpellsLiteral.no SpellsLiteral.no = (refl, refl, refl)

one_value : {x y : Value} {u v : Bool} {ts : List Token} → SpellsLiteral x u ts [] → SpellsLiteral y v ts [] → (x ≡ y) × (u ≡ v)
one_value d e = let same = one_literal_at d e in (same.0, same.1)

expr_at : {x : Expr} {u : Bool} {ts us : List Token} → us ≡ ts → Spells level.Expr x u us [] → Spells level.Expr x u ts []
expr_at {x = x} {u = u} same d = let P : List Token → Type 0 = λ ws. Spells level.Expr x u ws [] in subst P same d

value_at : {x : Value} {u : Bool} {ts us : List Token} → us ≡ ts → SpellsLiteral x u us [] → SpellsLiteral x u ts []
value_at {x = x} {u = u} same d = let P : List Token → Type 0 = λ ws. SpellsLiteral x u ws [] in subst P same d

-- ---- one line at most

var_case : {n : List ℕ} {x : Value} {y : Line} {u v : Bool} {ts : List Token} → SpellsLiteral x u ts [] →
    SpellsLine y v (tok.Keyword kw.Var ∷ tok.Name n ∷ tok.Sign sg.Assign ∷ ts) → SameLine (l.Var n x) u y v
var_case {n = n} d (SpellsLine.var e) = let same = one_value d e in (ap (λ z. l.Var n z) same.0, same.1)

init_case : {n : List ℕ} {x : Value} {y : Line} {u v : Bool} {ts : List Token} → SpellsLiteral x u ts [] →
    SpellsLine y v (tok.At at.Init ∷ tok.Name n ∷ tok.Sign sg.Assign ∷ ts) → SameLine (l.Init n x) u y v
init_case {n = n} d (SpellsLine.init e) = let same = one_value d e in (ap (λ z. l.Init n z) same.0, same.1)

for_case : {h : Heads} {y : Line} {u v : Bool} {ts : List Token} → SpellsHeads h u ts → SpellsLine y v (tok.Keyword kw.For ∷ ts) → SameLine (l.For h) u y v
for_case {h = h} {u = u} {ts = ts} d (SpellsLine.for_ g p e f) = let same = one_heads ts h _ u _ d (SpellsHeads.heads g p e f) in (ap (λ z. l.For z) same.0, same.1)

let_case : {ns : List (List ℕ)} {x : Expr} {y : Line} {u v : Bool} {ts us : List Token} → SpellsPattern ns ts (tok.Sign sg.Assign ∷ us) → Spells level.Expr x u us [] →
    SpellsLine y v (tok.Keyword kw.Let ∷ ts) → SameLine (l.Let ns x) u y v
let_case {ns = ns} {x = x} {ts = ts} {us = us} p d (SpellsLine.let_ {ns = ms} {x = y} {us = vs} q e) =
    let front = one_pattern ts (tok.Sign sg.Assign ∷ us) (tok.Sign sg.Assign ∷ vs) ns ms p q in
    let same = one_expr d (expr_at (sym (tails front.1)) e) in
    (ap (λ z. l.Let z x) front.0 ∙ ap (λ z. l.Let ms z) same.0, same.1)

set_case : {n : List ℕ} {x : Expr} {y : Line} {u v : Bool} {ts : List Token} → Spells level.Expr x u ts [] →
    SpellsLine y v (tok.Name n ∷ tok.Sign sg.Assign ∷ ts) → SameLine (l.Set n x) u y v
set_case {n = n} d (SpellsLine.set e) = let same = one_expr d e in (ap (λ z. l.Set n z) same.0, same.1)

skip_case : {a b c : List ℕ} {y : Line} {v : Bool} → SpellsLine y v (tok.Name a ∷ tok.Name b ∷ tok.Name c ∷ []) → SameLine l.SkipFaults false y v
skip_case (SpellsLine.skip_faults p q r) = (refl, refl)

if_case : {x : Expr} {y : Line} {u v : Bool} {ts : List Token} → Spells level.Expr x u ts [] → SpellsLine y v (tok.Keyword kw.If ∷ ts) → SameLine (l.If x) u y v
if_case d (SpellsLine.if_ e) = let same = one_expr d e in (ap (λ z. l.If z) same.0, same.1)

elseif_case : {x : Expr} {y : Line} {u v : Bool} {ts : List Token} → Spells level.Expr x u ts [] → SpellsLine y v (tok.Keyword kw.ElseIf ∷ ts) → SameLine (l.ElseIf x) u y v
elseif_case d (SpellsLine.elseif e) = let same = one_expr d e in (ap (λ z. l.ElseIf z) same.0, same.1)

else_case : {y : Line} {v : Bool} → SpellsLine y v (tok.Keyword kw.Else ∷ []) → SameLine l.Else false y v
else_case SpellsLine.else_ = (refl, refl)

keep_case : {n : List ℕ} {x : Expr} {y : Line} {u v : Bool} {ts : List Token} → Spells level.Expr x u ts [] →
    SpellsLine y v (tok.At at.Keep ∷ tok.Name n ∷ tok.Sign sg.Assign ∷ ts) → SameLine (l.Keep n x) u y v
keep_case {n = n} d (SpellsLine.keep e) = let same = one_expr d e in (ap (λ z. l.Keep n z) same.0, same.1)

add_case : {n : List ℕ} {x : Expr} {y : Line} {u v : Bool} {ts : List Token} → Spells level.Expr x u ts [] →
    SpellsLine y v (tok.At at.Reduce ∷ tok.Name n ∷ tok.Sign sg.PlusAssign ∷ ts) → SameLine (l.Reduce n (tower.Leaf kind.Sum x) None) u y v
add_case {n = n} d (SpellsLine.add e) = let same = one_expr d e in (ap (λ z. l.Reduce n (tower.Leaf kind.Sum z) None) same.0, same.1)

reduce_case : {n : List ℕ} {x : TowerExpr} {y : Line} {u v : Bool} {ts : List Token} → SpellsTower x u ts [] →
    SpellsLine y v (tok.At at.Reduce ∷ tok.Name n ∷ tok.Sign sg.Assign ∷ ts) → SameLine (l.Reduce n x None) u y v
reduce_case {n = n} d (SpellsLine.reduce {x = y} {u = v} e) = let same = exactly d y v [] e in (ap (λ z. l.Reduce n z None) same.0, same.1)
reduce_case d (SpellsLine.reduce_from {x = y} {u = v} {us = us} e f) = let same = (exactly d y v (tok.Keyword kw.From ∷ us) e).2 in cc

from_case : {n : List ℕ} {x : TowerExpr} {s : Value} {y : Line} {u v w : Bool} {ts us : List Token} → SpellsTower x u ts (tok.Keyword kw.From ∷ us) → SpellsLiteral s w us [] →
    SpellsLine y v (tok.At at.Reduce ∷ tok.Name n ∷ tok.Sign sg.Assign ∷ ts) → SameLine (l.Reduce n x (Some s)) (u || w) y v
from_case d f (SpellsLine.reduce {x = y} {u = v} e) = let same = (exactly d y v [] e).2 in cc
from_case {n = n} {s = s} d f (SpellsLine.reduce_from {x = y} {v = r} {u = v} {us = vs} e g) =
    let front = exactly d y v (tok.Keyword kw.From ∷ vs) e in
    let same = one_value f (value_at (sym (tails front.2)) g) in
    (ap (λ z. l.Reduce n z (Some s)) front.0 ∙ ap (λ z. l.Reduce n y (Some z)) same.0, same_or front.1 same.1)

continue_case : {y : Line} {v : Bool} → SpellsLine y v (tok.Keyword kw.Continue ∷ []) → SameLine l.Continue false y v
continue_case SpellsLine.continue = (refl, refl)

break_case : {y : Line} {v : Bool} → SpellsLine y v (tok.Keyword kw.Break ∷ []) → SameLine l.Break false y v
break_case SpellsLine.break = (refl, refl)

end_case : {y : Line} {v : Bool} → SpellsLine y v (tok.Keyword kw.End ∷ []) → SameLine l.End false y v
end_case SpellsLine.end = (refl, refl)

print_case : {n : List ℕ} {y : Line} {v : Bool} → SpellsLine y v (tok.Keyword kw.Print ∷ tok.Name n ∷ []) → SameLine (l.Print n) false y v
print_case SpellsLine.print = (refl, refl)

pub same_line : {x y : Line} {u v : Bool} {ts : List Token} → SpellsLine x u ts → SpellsLine y v ts → SameLine x u y v
same_line (SpellsLine.skip_faults p q r) e = skip_case e
same_line (SpellsLine.var d) e = var_case d e
same_line (SpellsLine.init d) e = init_case d e
same_line (SpellsLine.for_ h p d f) e = for_case (SpellsHeads.heads h p d f) e
same_line (SpellsLine.let_ p d) e = let_case p d e
same_line (SpellsLine.set d) e = set_case d e
same_line (SpellsLine.if_ d) e = if_case d e
same_line (SpellsLine.elseif d) e = elseif_case d e
same_line SpellsLine.else_ e = else_case e
same_line (SpellsLine.keep d) e = keep_case d e
same_line (SpellsLine.add d) e = add_case d e
same_line (SpellsLine.reduce d) e = reduce_case d e
same_line (SpellsLine.reduce_from d f) e = from_case d f e
same_line SpellsLine.continue e = continue_case e
same_line SpellsLine.break e = break_case e
same_line SpellsLine.end e = end_case e
same_line SpellsLine.print e = print_case e

pub one_line : OneLine
one_line ts x y u v d e = same_line d e

-- ---- where no line is spelled

var_name_at : {x : Line} {u : Bool} {ts : List Token} → NotAssigned ts → SpellsLine x u (tok.Keyword kw.Var ∷ ts) → ⊥
var_name_at none (SpellsLine.var {n = n} {ts = ts} d) = none n ts refl

pub no_var_name : (ts : List Token) → NotAssigned ts → Tells (LineOf (tok.Keyword kw.Var ∷ ts)) None
no_var_name ts none p d = var_name_at none d

var_value_at : {n : List ℕ} {x : Line} {u : Bool} {ts : List Token} → Tells (WholeLiteral ts) None → SpellsLine x u (tok.Keyword kw.Var ∷ tok.Name n ∷ tok.Sign sg.Assign ∷ ts) → ⊥
var_value_at none (SpellsLine.var {v = v} {u = u} d) = none (v, u) d

pub no_var_value : (n : List ℕ) (ts : List Token) → Tells (WholeLiteral ts) None → Tells (LineOf (tok.Keyword kw.Var ∷ tok.Name n ∷ tok.Sign sg.Assign ∷ ts)) None
no_var_value n ts none p d = var_value_at none d

init_name_at : {x : Line} {u : Bool} {ts : List Token} → NotAssigned ts → SpellsLine x u (tok.At at.Init ∷ ts) → ⊥
init_name_at none (SpellsLine.init {n = n} {ts = ts} d) = none n ts refl

pub no_init_name : (ts : List Token) → NotAssigned ts → Tells (LineOf (tok.At at.Init ∷ ts)) None
no_init_name ts none p d = init_name_at none d

init_value_at : {n : List ℕ} {x : Line} {u : Bool} {ts : List Token} → Tells (WholeLiteral ts) None → SpellsLine x u (tok.At at.Init ∷ tok.Name n ∷ tok.Sign sg.Assign ∷ ts) → ⊥
init_value_at none (SpellsLine.init {v = v} {u = u} d) = none (v, u) d

pub no_init_value : (n : List ℕ) (ts : List Token) → Tells (WholeLiteral ts) None → Tells (LineOf (tok.At at.Init ∷ tok.Name n ∷ tok.Sign sg.Assign ∷ ts)) None
no_init_value n ts none p d = init_value_at none d

pub for_spelled : {h : Heads} {u : Bool} {ts : List Token} → SpellsHeads h u ts → SpellsLine (l.For h) u (tok.Keyword kw.For ∷ ts)
for_spelled (SpellsHeads.heads h p d f) = SpellsLine.for_ h p d f

for_heads_at : {x : Line} {u : Bool} {ts : List Token} → Tells (HeadsAt ts) None → SpellsLine x u (tok.Keyword kw.For ∷ ts) → ⊥
for_heads_at none (SpellsLine.for_ {ns = ns} {xs = xs} {product = product} {u = u} {v = v} {hs = hs} h p d f) =
    none (record { names = ns; axes = xs; product = product; inner = hs }, u || v) (SpellsHeads.heads h p d f)

pub no_for_heads : (ts : List Token) → Tells (HeadsAt ts) None → Tells (LineOf (tok.Keyword kw.For ∷ ts)) None
no_for_heads ts none p d = for_heads_at none d

let_names_at : {x : Line} {u : Bool} {ts : List Token} → Tells (PatternUpTo sg.Assign ts) None → SpellsLine x u (tok.Keyword kw.Let ∷ ts) → ⊥
let_names_at none (SpellsLine.let_ {ns = ns} {us = us} q e) = none (ns, us) q

pub no_let_names : (ts : List Token) → Tells (PatternUpTo sg.Assign ts) None → Tells (LineOf (tok.Keyword kw.Let ∷ ts)) None
no_let_names ts none p d = let_names_at none d

pub no_sign : (s : Sign) (ns : List (List ℕ)) (ts rest : List Token) → SpellsPattern ns ts rest → NotFirst (tok.Sign s) rest → Tells (PatternUpTo s ts) None
no_sign s ns ts rest d free p e = free p.1 (one_pattern ts rest (tok.Sign s ∷ p.1) ns p.0 d e).1

let_expr_at : {ns : List (List ℕ)} {x : Line} {u : Bool} {ts us : List Token} → SpellsPattern ns ts (tok.Sign sg.Assign ∷ us) → Tells (WholeExpr us) None → SpellsLine x u (tok.Keyword kw.Let ∷ ts) → ⊥
let_expr_at {ns = ns} {ts = ts} {us = us} p none (SpellsLine.let_ {ns = ms} {x = x} {u = u} {us = vs} q e) =
    none (x, u) (expr_at (sym (tails (one_pattern ts (tok.Sign sg.Assign ∷ us) (tok.Sign sg.Assign ∷ vs) ns ms p q).1)) e)

pub no_let_expr : (ns : List (List ℕ)) (ts us : List Token) → SpellsPattern ns ts (tok.Sign sg.Assign ∷ us) → Tells (WholeExpr us) None → Tells (LineOf (tok.Keyword kw.Let ∷ ts)) None
no_let_expr ns ts us q none p d = let_expr_at q none d

two_names : {a b c d : List ℕ} → a ≡ c → b ≡ d → tok.Name a ∷ tok.Name b ∷ [] ≡ tok.Name c ∷ tok.Name d ∷ []
two_names {b = b} {c = c} p q = ap (λ z. tok.Name z ∷ tok.Name b ∷ []) p ∙ ap (λ z. tok.Name c ∷ tok.Name z ∷ []) q

skip_at : {n : List ℕ} {x : Line} {u : Bool} {ts : List Token} → NotFirst (tok.Sign sg.Assign) ts → (IsSkip n ts → ⊥) → SpellsLine x u (tok.Name n ∷ ts) → ⊥
skip_at none other (SpellsLine.set {ts = ts} d) = none ts refl
skip_at none other (SpellsLine.skip_faults p q r) = other (p, two_names q r)

pub no_skip : (n : List ℕ) (ts : List Token) → NotFirst (tok.Sign sg.Assign) ts → (IsSkip n ts → ⊥) → Tells (LineOf (tok.Name n ∷ ts)) None
no_skip n ts none other p d = skip_at none other d

pub skip_spelled : (n : List ℕ) (ts : List Token) → IsSkip n ts → SpellsLine l.SkipFaults false (tok.Name n ∷ ts)
skip_spelled n ts (p, q) =
    let P : List Token → Type 0 = λ z. SpellsLine l.SkipFaults false (tok.Name n ∷ z) in subst P (sym q) (SpellsLine.skip_faults p refl refl)

set_expr_at : {n : List ℕ} {x : Line} {u : Bool} {ts : List Token} → Tells (WholeExpr ts) None → SpellsLine x u (tok.Name n ∷ tok.Sign sg.Assign ∷ ts) → ⊥
set_expr_at none (SpellsLine.set {x = x} {u = u} d) = none (x, u) d

pub no_set_expr : (n : List ℕ) (ts : List Token) → Tells (WholeExpr ts) None → Tells (LineOf (tok.Name n ∷ tok.Sign sg.Assign ∷ ts)) None
no_set_expr n ts none p d = set_expr_at none d

if_expr_at : {x : Line} {u : Bool} {ts : List Token} → Tells (WholeExpr ts) None → SpellsLine x u (tok.Keyword kw.If ∷ ts) → ⊥
if_expr_at none (SpellsLine.if_ {x = x} {u = u} d) = none (x, u) d

pub no_if_expr : (ts : List Token) → Tells (WholeExpr ts) None → Tells (LineOf (tok.Keyword kw.If ∷ ts)) None
no_if_expr ts none p d = if_expr_at none d

elseif_expr_at : {x : Line} {u : Bool} {ts : List Token} → Tells (WholeExpr ts) None → SpellsLine x u (tok.Keyword kw.ElseIf ∷ ts) → ⊥
elseif_expr_at none (SpellsLine.elseif {x = x} {u = u} d) = none (x, u) d

pub no_elseif_expr : (ts : List Token) → Tells (WholeExpr ts) None → Tells (LineOf (tok.Keyword kw.ElseIf ∷ ts)) None
no_elseif_expr ts none p d = elseif_expr_at none d

else_end_at : {x : Line} {u : Bool} {ts : List Token} → ts ≢ [] → SpellsLine x u (tok.Keyword kw.Else ∷ ts) → ⊥
else_end_at more SpellsLine.else_ = more refl

pub no_else_end : (ts : List Token) → ts ≢ [] → Tells (LineOf (tok.Keyword kw.Else ∷ ts)) None
no_else_end ts more p d = else_end_at more d

keep_name_at : {x : Line} {u : Bool} {ts : List Token} → NotAssigned ts → SpellsLine x u (tok.At at.Keep ∷ ts) → ⊥
keep_name_at none (SpellsLine.keep {n = n} {ts = ts} d) = none n ts refl

pub no_keep_name : (ts : List Token) → NotAssigned ts → Tells (LineOf (tok.At at.Keep ∷ ts)) None
no_keep_name ts none p d = keep_name_at none d

keep_expr_at : {n : List ℕ} {x : Line} {u : Bool} {ts : List Token} → Tells (WholeExpr ts) None → SpellsLine x u (tok.At at.Keep ∷ tok.Name n ∷ tok.Sign sg.Assign ∷ ts) → ⊥
keep_expr_at none (SpellsLine.keep {x = x} {u = u} d) = none (x, u) d

pub no_keep_expr : (n : List ℕ) (ts : List Token) → Tells (WholeExpr ts) None → Tells (LineOf (tok.At at.Keep ∷ tok.Name n ∷ tok.Sign sg.Assign ∷ ts)) None
no_keep_expr n ts none p d = keep_expr_at none d

add_expr_at : {n : List ℕ} {x : Line} {u : Bool} {ts : List Token} → Tells (WholeExpr ts) None → SpellsLine x u (tok.At at.Reduce ∷ tok.Name n ∷ tok.Sign sg.PlusAssign ∷ ts) → ⊥
add_expr_at none (SpellsLine.add {x = x} {u = u} d) = none (x, u) d

pub no_add_expr : (n : List ℕ) (ts : List Token) → Tells (WholeExpr ts) None → Tells (LineOf (tok.At at.Reduce ∷ tok.Name n ∷ tok.Sign sg.PlusAssign ∷ ts)) None
no_add_expr n ts none p d = add_expr_at none d

tower_at : {n : List ℕ} {x : Line} {u : Bool} {ts : List Token} → Tells (TowerAt ts) None → SpellsLine x u (tok.At at.Reduce ∷ tok.Name n ∷ tok.Sign sg.Assign ∷ ts) → ⊥
tower_at none (SpellsLine.reduce {x = x} {u = u} d) = none (x, u, []) d
tower_at none (SpellsLine.reduce_from {x = x} {u = u} {us = us} d f) = none (x, u, tok.Keyword kw.From ∷ us) d

pub no_tower : (n : List ℕ) (ts : List Token) → Tells (TowerAt ts) None → Tells (LineOf (tok.At at.Reduce ∷ tok.Name n ∷ tok.Sign sg.Assign ∷ ts)) None
no_tower n ts none p d = tower_at none d

start_end_at : {n : List ℕ} {t : TowerExpr} {x : Line} {u v : Bool} {ts rest : List Token} → SpellsTower t v ts rest → NotFirst (tok.Keyword kw.From) rest → rest ≢ [] →
    SpellsLine x u (tok.At at.Reduce ∷ tok.Name n ∷ tok.Sign sg.Assign ∷ ts) → ⊥
start_end_at d free more (SpellsLine.reduce {x = x} {u = u} e) = more (exactly d x u [] e).2
start_end_at d free more (SpellsLine.reduce_from {x = x} {u = u} {us = us} e f) = free us (exactly d x u (tok.Keyword kw.From ∷ us) e).2

pub no_start_end : (n : List ℕ) (t : TowerExpr) (v : Bool) (ts rest : List Token) → SpellsTower t v ts rest → NotFirst (tok.Keyword kw.From) rest → rest ≢ [] →
    Tells (LineOf (tok.At at.Reduce ∷ tok.Name n ∷ tok.Sign sg.Assign ∷ ts)) None
no_start_end n t v ts rest d free more p e = start_end_at d free more e

start_value_at : {n : List ℕ} {t : TowerExpr} {x : Line} {u v : Bool} {ts rest : List Token} → SpellsTower t v ts (tok.Keyword kw.From ∷ rest) → Tells (WholeLiteral rest) None →
    SpellsLine x u (tok.At at.Reduce ∷ tok.Name n ∷ tok.Sign sg.Assign ∷ ts) → ⊥
start_value_at d none (SpellsLine.reduce {x = x} {u = u} e) = let same = (exactly d x u [] e).2 in cc
start_value_at d none (SpellsLine.reduce_from {x = x} {v = v} {u = u} {w = w} {us = us} e f) = none (v, w) (value_at (sym (tails (exactly d x u (tok.Keyword kw.From ∷ us) e).2)) f)

pub no_start_value : (n : List ℕ) (t : TowerExpr) (v : Bool) (ts rest : List Token) → SpellsTower t v ts (tok.Keyword kw.From ∷ rest) → Tells (WholeLiteral rest) None →
    Tells (LineOf (tok.At at.Reduce ∷ tok.Name n ∷ tok.Sign sg.Assign ∷ ts)) None
no_start_value n t v ts rest d none p e = start_value_at d none e

reduce_name_at : {x : Line} {u : Bool} {ts : List Token} → NoNameFirst ts → SpellsLine x u (tok.At at.Reduce ∷ ts) → ⊥
reduce_name_at none (SpellsLine.add {n = n} {ts = ts} d) = none n (tok.Sign sg.PlusAssign ∷ ts) refl
reduce_name_at none (SpellsLine.reduce {n = n} {ts = ts} d) = none n (tok.Sign sg.Assign ∷ ts) refl
reduce_name_at none (SpellsLine.reduce_from {n = n} {ts = ts} d f) = none n (tok.Sign sg.Assign ∷ ts) refl

pub no_reduce_name : (ts : List Token) → NoNameFirst ts → Tells (LineOf (tok.At at.Reduce ∷ ts)) None
no_reduce_name ts none p d = reduce_name_at none d

reduce_sign_at : {n : List ℕ} {x : Line} {u : Bool} {ts : List Token} → NotFirst (tok.Sign sg.PlusAssign) ts → NotFirst (tok.Sign sg.Assign) ts →
    SpellsLine x u (tok.At at.Reduce ∷ tok.Name n ∷ ts) → ⊥
reduce_sign_at plus none (SpellsLine.add {ts = ts} d) = plus ts refl
reduce_sign_at plus none (SpellsLine.reduce {ts = ts} d) = none ts refl
reduce_sign_at plus none (SpellsLine.reduce_from {ts = ts} d f) = none ts refl

pub no_reduce_sign : (n : List ℕ) (ts : List Token) → NotFirst (tok.Sign sg.PlusAssign) ts → NotFirst (tok.Sign sg.Assign) ts → Tells (LineOf (tok.At at.Reduce ∷ tok.Name n ∷ ts)) None
no_reduce_sign n ts plus none p d = reduce_sign_at plus none d

continue_end_at : {x : Line} {u : Bool} {ts : List Token} → ts ≢ [] → SpellsLine x u (tok.Keyword kw.Continue ∷ ts) → ⊥
continue_end_at more SpellsLine.continue = more refl

pub no_continue_end : (ts : List Token) → ts ≢ [] → Tells (LineOf (tok.Keyword kw.Continue ∷ ts)) None
no_continue_end ts more p d = continue_end_at more d

break_end_at : {x : Line} {u : Bool} {ts : List Token} → ts ≢ [] → SpellsLine x u (tok.Keyword kw.Break ∷ ts) → ⊥
break_end_at more SpellsLine.break = more refl

pub no_break_end : (ts : List Token) → ts ≢ [] → Tells (LineOf (tok.Keyword kw.Break ∷ ts)) None
no_break_end ts more p d = break_end_at more d

end_end_at : {x : Line} {u : Bool} {ts : List Token} → ts ≢ [] → SpellsLine x u (tok.Keyword kw.End ∷ ts) → ⊥
end_end_at more SpellsLine.end = more refl

pub no_end_end : (ts : List Token) → ts ≢ [] → Tells (LineOf (tok.Keyword kw.End ∷ ts)) None
no_end_end ts more p d = end_end_at more d

print_name_at : {x : Line} {u : Bool} {ts : List Token} → NoNameFirst ts → SpellsLine x u (tok.Keyword kw.Print ∷ ts) → ⊥
print_name_at none (SpellsLine.print {n = n}) = none n [] refl

pub no_print_name : (ts : List Token) → NoNameFirst ts → Tells (LineOf (tok.Keyword kw.Print ∷ ts)) None
no_print_name ts none p d = print_name_at none d

print_end_at : {n : List ℕ} {x : Line} {u : Bool} {ts : List Token} → ts ≢ [] → SpellsLine x u (tok.Keyword kw.Print ∷ tok.Name n ∷ ts) → ⊥
print_end_at more SpellsLine.print = more refl

pub no_print_end : (n : List ℕ) (ts : List Token) → ts ≢ [] → Tells (LineOf (tok.Keyword kw.Print ∷ tok.Name n ∷ ts)) None
no_print_end n ts more p d = print_end_at more d

pub true_false : true ≡ false → ⊥
true_false h = cc

-- a word that begins no line
word_at : {k : Keyword} {x : Line} {u : Bool} {ts : List Token} → k ≢ kw.Var → k ≢ kw.For → k ≢ kw.Let → k ≢ kw.If → k ≢ kw.ElseIf → k ≢ kw.Else → k ≢ kw.Continue → k ≢ kw.Break →
    k ≢ kw.End → k ≢ kw.Print → SpellsLine x u (tok.Keyword k ∷ ts) → ⊥
word_at a b c d e f g h i j (SpellsLine.var p) = a refl
word_at a b c d e f g h i j (SpellsLine.for_ p q r s) = b refl
word_at a b c d e f g h i j (SpellsLine.let_ p q) = c refl
word_at a b c d e f g h i j (SpellsLine.if_ p) = d refl
word_at a b c d e f g h i j (SpellsLine.elseif p) = e refl
word_at a b c d e f g h i j SpellsLine.else_ = f refl
word_at a b c d e f g h i j SpellsLine.continue = g refl
word_at a b c d e f g h i j SpellsLine.break = h refl
word_at a b c d e f g h i j SpellsLine.end = i refl
word_at a b c d e f g h i j SpellsLine.print = j refl

pub no_word : (k : Keyword) (ts : List Token) → k ≢ kw.Var → k ≢ kw.For → k ≢ kw.Let → k ≢ kw.If → k ≢ kw.ElseIf → k ≢ kw.Else → k ≢ kw.Continue → k ≢ kw.Break →
    k ≢ kw.End → k ≢ kw.Print → Tells (LineOf (tok.Keyword k ∷ ts)) None
no_word k ts a b c d e f g h i j p z = word_at a b c d e f g h i j z

pub nonempty : {x : Line} {u : Bool} {ts : List Token} → SpellsLine x u ts → ts ≢ []
nonempty (SpellsLine.skip_faults p q r) h = cc
nonempty (SpellsLine.var d) h = cc
nonempty (SpellsLine.init d) h = cc
nonempty (SpellsLine.for_ g p d f) h = cc
nonempty (SpellsLine.let_ p d) h = cc
nonempty (SpellsLine.set d) h = cc
nonempty (SpellsLine.if_ d) h = cc
nonempty (SpellsLine.elseif d) h = cc
nonempty SpellsLine.else_ h = cc
nonempty (SpellsLine.keep d) h = cc
nonempty (SpellsLine.add d) h = cc
nonempty (SpellsLine.reduce d) h = cc
nonempty (SpellsLine.reduce_from d f) h = cc
nonempty SpellsLine.continue h = cc
nonempty SpellsLine.break h = cc
nonempty SpellsLine.end h = cc
nonempty SpellsLine.print h = cc

pub no_tokens : (ts : List Token) → ts ≡ [] → Tells (LineOf ts) None
no_tokens ts none p d = nonempty d none
