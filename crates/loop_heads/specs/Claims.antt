-- What is claimed of a reader.
-- Source: this project.
use Rattle.std.specs.Prelude.{◌≡◌, ℕ, ◌≤◌, Bool, List, ◌++◌, length, Result, Ok, Err}
use Rattle.loop_tokens.specs.declared.token.Token.{Token}
use Rattle.loop_tokens.specs.declared.token.Token.TheVariants as tok
use Rattle.loop_tokens.specs.declared.sign.Sign.TheVariants as sg
use Rattle.loop_data.specs.declared.value.Value.{Value}
use Rattle.loop_exprs.specs.declared.read.ReadError.{ReadError}
use Rattle.loop_exprs.specs.declared.read.ReadError.TheVariants.{NoMemory, NotSpelled}
use Rattle.loop_exprs.specs.Grammar.{NotFirst}
use Rattle.loop_grammar.specs.LineForms.{SpellsLiteral, SpellsNames, SpellsPattern}

-- it is what was given, seen by view, unless memory ran out
abbrev pub Gave : {X Y : Type 0} → (Y → X) → Result Y ReadError → X → Type 0
Gave view (Ok y) x = view y ≡ x
Gave view (Err NoMemory) x = Unit {0}
Gave view (Err NotSpelled) x = ⊥

-- whatever P holds of was given
abbrev pub GaveEach : {X Y : Type 0} → (X → Type 0) → (Y → X) → Result Y ReadError → Type 0
GaveEach {X = X} P view r = (x : X) → P x → Gave view r x

-- two to four
abbrev pub NotSeveral : {A : Type 0} → List A → Type 0
NotSeveral xs = 2 ≤ length xs → length xs ≤ 4 → ⊥

pub record IsSeveral {A : Type 0} (xs ys : List A) : Type 0 where
  pub same : ys ≡ xs
  pub least : 2 ≤ length xs
  pub most : length xs ≤ 4

-- the tokens up to the rest spell names, and `all` is those behind the ones found before
pub record NamesBehind (found : List (List ℕ)) (ts : List Token) (all : List (List ℕ)) (rest : List Token) : Type 0 where
  pub names : List (List ℕ)
  pub joined : all ≡ found ++ names
  pub spelled : SpellsNames names ts rest

-- the same where no more names can follow
pub record NamesEnd (found : List (List ℕ)) (ts : List Token) (x : List (List ℕ) × List Token) : Type 0 where
  pub behind : NamesBehind found ts x.0 x.1
  pub ends : NotFirst (tok.Sign sg.Comma) x.1

-- the tokens up to the rest spell the literal
abbrev pub LiteralAt : List Token → Value × Bool × List Token → Type 0
LiteralAt ts x = SpellsLiteral x.0 x.1 ts x.2

-- the tokens up to the rest spell the pattern
abbrev pub PatternAt : List Token → List (List ℕ) × List Token → Type 0
PatternAt ts x = SpellsPattern x.0 ts x.1

-- what is spelled as a literal is determined by the tokens
abbrev pub OneLiteral : Type 0
OneLiteral = (ts rest also : List Token) (v w : Value) (wide too : Bool) →
    SpellsLiteral v wide ts rest → SpellsLiteral w too ts also → (v ≡ w) × (wide ≡ too) × (rest ≡ also)

-- what is spelled as a pattern is determined by the tokens
abbrev pub OnePattern : Type 0
OnePattern = (ts rest also : List Token) (ns ms : List (List ℕ)) →
    SpellsPattern ns ts rest → SpellsPattern ms ts also → (ns ≡ ms) × (rest ≡ also)
