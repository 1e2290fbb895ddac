-- What is claimed of the readers of towers and of lines.
-- Source: this project.
use Rattle.std.specs.Prelude.{◌≡◌, ℕ, Bool, List, [], ◌∷◌, Option, Some, None, Result, codes}
use Rattle.std.specs.Borrow.{Bor}
use Rattle.loop_tokens.specs.declared.token.Token.{Token}
use Rattle.loop_tokens.specs.declared.token.Token.TheVariants as tok
use Rattle.loop_tokens.specs.declared.keyword.Keyword.{Keyword}
use Rattle.loop_tokens.specs.declared.keyword.AtWord.TheVariants as at
use Rattle.loop_tokens.specs.declared.sign.Sign.{Sign}
use Rattle.loop_tokens.specs.declared.sign.Sign.TheVariants as sg
use Rattle.loop_data.specs.declared.value.Value.{Value}
use Rattle.loop_data.specs.declared.expr.Expr.{Expr}
use Rattle.loop_data.specs.declared.tower.TowerExpr.{TowerExpr}
use Rattle.loop_exprs.specs.declared.level.Level.TheVariants as level
use Rattle.loop_exprs.specs.declared.read.ReadError.{ReadError}
use Rattle.loop_exprs.specs.Grammar.{Spells}
use Rattle.loop_exprs.specs.Reading.{Gives}
use Rattle.loop_grammar.specs.declared.line.Line.{Line}
use Rattle.loop_grammar.specs.LineForms.{SpellsLiteral, SpellsPattern, SpellsTower, SpellsLine}

-- a word with a `(` behind it comes first, and these tokens stand behind that
abbrev pub IsCall : List Token → Keyword → List Token → Type 0
IsCall ts k rest = ts ≡ tok.Keyword k ∷ tok.Sign sg.Open ∷ rest

-- no word with a `(` behind it comes first
abbrev pub NoCall : List Token → Type 0
NoCall ts = (k : Keyword) (rest : List Token) → IsCall ts k rest → ⊥

-- P holds of what was read; where nothing was read, P holds of nothing.
abbrev pub Tells : {X : Type 0} → (X → Type 0) → Option X → Type 0
Tells {X = X} P None = (x : X) → P x → ⊥
Tells P (Some x) = P x

-- an expression that is spelled in front of the sign, whether some number is too wide, and the
-- tokens behind the sign
abbrev pub ExprUpTo : Sign → List Token → Expr × Bool × List Token → Type 0
ExprUpTo s ts p = Spells level.Expr p.0 p.1 ts (tok.Sign s ∷ p.2)

-- a tower that is spelled at the front, whether some number is too wide, and the tokens behind it
abbrev pub TowerAt : List Token → TowerExpr × Bool × List Token → Type 0
TowerAt ts p = SpellsTower p.0 p.1 ts p.2

-- what was read is a tower that is spelled at the front of the tokens, with its rest; where nothing
-- was read, none is spelled there
abbrev pub GivesTower : List Token → Result (TowerExpr × Bool × Bor (List Token)) ReadError → Type 0
GivesTower ts r = Gives (Tells (TowerAt ts)) (λ p. (p.0, p.1, p.2.now)) r

-- a tower that is spelled in front of the sign
abbrev pub TowerUpTo : Sign → List Token → TowerExpr × Bool × List Token → Type 0
TowerUpTo s ts p = SpellsTower p.0 p.1 ts (tok.Sign s ∷ p.2)

-- tokens spell one tower at most at their front
abbrev pub OneTower : Type 0
OneTower = (ts rest also : List Token) (x y : TowerExpr) (wide too : Bool) →
    SpellsTower x wide ts rest → SpellsTower y too ts also →
    (x ≡ y) × (wide ≡ too) × (rest ≡ also)

-- a name with a `=` behind it comes first, and these tokens stand behind that
abbrev pub IsAssigned : List Token → List ℕ → List Token → Type 0
IsAssigned ts n rest = ts ≡ tok.Name n ∷ tok.Sign sg.Assign ∷ rest

-- no name with a `=` behind it comes first
abbrev pub NotAssigned : List Token → Type 0
NotAssigned ts = (n : List ℕ) (rest : List Token) → IsAssigned ts n rest → ⊥

-- an expression that all the tokens spell, and whether some number is too wide
abbrev pub WholeExpr : List Token → Expr × Bool → Type 0
WholeExpr ts p = Spells level.Expr p.0 p.1 ts []

-- a literal that all the tokens spell
abbrev pub WholeLiteral : List Token → Value × Bool → Type 0
WholeLiteral ts p = SpellsLiteral p.0 p.1 ts []

-- names that are spelled in front of the sign, and the tokens behind it
abbrev pub PatternUpTo : Sign → List Token → List (List ℕ) × List Token → Type 0
PatternUpTo s ts p = SpellsPattern p.0 ts (tok.Sign s ∷ p.1)

-- behind this name these tokens are the rest of `on fault skip`
abbrev pub IsSkip : List ℕ → List Token → Type 0
IsSkip n ts = (n ≡ codes "on") × (ts ≡ tok.Name (codes "fault") ∷ tok.Name (codes "skip") ∷ [])

-- a line that all the tokens spell
abbrev pub LineOf : List Token → Line × Bool → Type 0
LineOf ts p = SpellsLine p.0 p.1 ts

-- what was read is the line that the tokens spell; where nothing was read, they spell none
abbrev pub GivesLine : List Token → Result (Line × Bool) ReadError → Type 0
GivesLine ts r = Gives (Tells (LineOf ts)) (λ p. p) r

-- `@reduce`, a name, a sign, and the tokens behind it
abbrev pub reducing : List ℕ → Sign → List Token → List Token
reducing n s ts = tok.At at.Reduce ∷ tok.Name n ∷ tok.Sign s ∷ ts

-- an `@reduce` line for this name, whatever the tokens that spell its tower up to `rest`
abbrev pub GivesReduced :
    List ℕ → TowerExpr → Bool → List Token → Result (Line × Bool) ReadError → Type 0
GivesReduced n x u rest r =
    (ts : List Token) → SpellsTower x u ts rest → GivesLine (reducing n sg.Assign ts) r

-- all the tokens of a line together spell one line at most
abbrev pub OneLine : Type 0
OneLine = (ts : List Token) (x y : Line) (u v : Bool) →
    SpellsLine x u ts → SpellsLine y v ts → (x ≡ y) × (u ≡ v)
