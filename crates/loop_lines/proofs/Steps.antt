-- What is passed on.
use Rattle.std.proofs.Common.{◌≡◌, Bool, List, ◌∷◌, Option, Some, None, Result, Ok, Err, sym, subst}
use Rattle.std.specs.Borrow.{Bor}
use Rattle.loop_tokens.specs.declared.token.Token.{Token}
use Rattle.loop_exprs.specs.declared.read.ReadError.{ReadError}
use Rattle.loop_exprs.specs.declared.read.ReadError.TheVariants.{NoMemory, NotSpelled}
use Rattle.loop_exprs.specs.Reading.{Gives}
use Rattle.loop_heads.specs.Claims.{GaveEach}
use Rattle.loop_lines.specs.Claims.{Tells}

abbrev pub seen : {A : Type 0} → A × Bool × Bor (List Token) → A × Bool × List Token
seen p = (p.0, p.1, p.2.now)

-- something read with its rest
abbrev pub seen_two : {A : Type 0} → A × Bor (List Token) → A × List Token
seen_two p = (p.0, p.1.now)

abbrev pub pair : {A B : Type 0} → A × B → A × B
pair p = (p.0, p.1)

abbrev pub itself : {A : Type 0} → A → A
itself p = p

pub none_some : {A : Type 0} {x : A} → ◌≡◌ {A = Option A} None (Some x) → ⊥
none_some h = cc

pub some_same : {A : Type 0} {x y : A} → ◌≡◌ {A = Option A} (Some x) (Some y) → x ≡ y
some_same h = cc

pub tails : {t u : Token} {ts us : List Token} → t ∷ ts ≡ u ∷ us → ts ≡ us
tails h = cc

passes_at : {A B Y Z : Type 0} (P : Option A → Type 0) (Q : Option B → Type 0) (f : Y → A) (g : Z → B) (e : ReadError) → (P None → Q None) → Gives P f (Err e) → Gives Q g (Err e)
passes_at P Q f g NoMemory step h = tt
passes_at P Q f g NotSpelled step h = step h

-- what a call failed with is passed on
pub passes : {A B Y Z : Type 0} (P : Option A → Type 0) (Q : Option B → Type 0) (f : Y → A) (g : Z → B) (e : ReadError) (r : Result Z ReadError) →
    (P None → Q None) → Gives P f (Err e) → r ≡ Err e → Gives Q g r
passes P Q f g e r step h same = subst (Gives Q g) (sym same) (passes_at P Q f g e step h)

passes_each_at : {A B Y Z : Type 0} (P : A → Type 0) (Q : Option B → Type 0) (f : Y → A) (g : Z → B) (e : ReadError) → (Tells P None → Q None) → GaveEach P f (Err e) → Gives Q g (Err e)
passes_each_at P Q f g NoMemory step h = tt
passes_each_at P Q f g NotSpelled step h = step h

-- the same where the call says that whatever P holds of was given
pub passes_each : {A B Y Z : Type 0} (P : A → Type 0) (Q : Option B → Type 0) (f : Y → A) (g : Z → B) (e : ReadError) (r : Result Z ReadError) →
    (Tells P None → Q None) → GaveEach P f (Err e) → r ≡ Err e → Gives Q g r
passes_each P Q f g e r step h same = subst (Gives Q g) (sym same) (passes_each_at P Q f g e step h)

-- what a call gave, or its failure, is passed on
pub hands_on : {A Y : Type 0} (P Q : Option A → Type 0) (f : Y → A) (r : Result Y ReadError) → ((o : Option A) → P o → Q o) → Gives P f r → Gives Q f r
hands_on P Q f (Ok y) step h = step _ h
hands_on P Q f (Err NoMemory) step h = tt
hands_on P Q f (Err NotSpelled) step h = step _ h
