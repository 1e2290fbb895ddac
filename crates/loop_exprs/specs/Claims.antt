-- What is claimed of the reader of expressions.
-- Source: this project.
use Rattle.std.specs.Prelude.{◌≡◌, Bool, List, [], ◌∷◌, None, Result, Ok, Err}
use Rattle.loop_tokens.specs.declared.token.Token.{Token}
use Rattle.loop_data.specs.declared.expr.Expr.{Expr}
use Rattle.loop_exprs.specs.declared.level.Level.TheVariants as level
use Rattle.loop_exprs.specs.declared.read.ReadError.{ReadError}
use Rattle.loop_exprs.specs.declared.read.ReadError.TheVariants.{NoMemory, NotSpelled}
use Rattle.loop_exprs.specs.Operations.{operation_of}
use Rattle.loop_exprs.specs.Grammar.{Spells}

-- no operation goes on there, so an expression may end
abbrev pub MayEnd : List Token → Type 0
MayEnd [] = Unit {0}
MayEnd (t ∷ ts) = operation_of t ≡ None

-- the tokens up to `rest` spell the expression, as far as one can go
pub record Front (ts : List Token) (x : Expr) (wide : Bool) (rest : List Token) : Type 0 where
  pub spelled : Spells level.Expr x wide ts rest
  pub longest : MayEnd rest

-- it is that expression with that rest, unless memory ran out
abbrev pub GaveFront : {Y : Type 0} → (Y → Expr × Bool × List Token) → Result Y ReadError → Expr → Bool → List Token → Type 0
GaveFront view (Ok y) x wide rest = view y ≡ (x, wide, rest)
GaveFront view (Err NoMemory) x wide rest = Unit {0}
GaveFront view (Err NotSpelled) x wide rest = ⊥

-- whatever front is spelled up to where an expression may end was given
abbrev pub GaveEachFront : {Y : Type 0} → (Y → Expr × Bool × List Token) → Result Y ReadError → List Token → Type 0
GaveEachFront view r ts = (x : Expr) (wide : Bool) (rest : List Token) → Front ts x wide rest → GaveFront view r x wide rest

-- tokens spell one expression at most up to where one may end
abbrev pub OneReading : Type 0
OneReading = (ts rest also : List Token) (x y : Expr) (wide too : Bool) →
    Front ts x wide rest → Front ts y too also → (x ≡ y) × (wide ≡ too) × (rest ≡ also)
