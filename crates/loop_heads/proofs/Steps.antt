-- What is passed on from call to call.
use Rattle.std.proofs.Common.{◌≡◌, Bool, List, ◌∷◌, Result, Ok, Err, IfOk, Vec, Global, ap, sym, ◌∙◌, subst}
use Rattle.std.specs.Borrow.{Bor}
use Rattle.loop_tokens.specs.declared.token.Token.{Token}
use Rattle.loop_exprs.specs.declared.read.ReadError.{ReadError}
use Rattle.loop_exprs.specs.declared.read.ReadError.TheVariants.{NoMemory, NotSpelled}
use Rattle.loop_heads.specs.Claims.{GaveEach}

-- something read with its rest, and the same with a flag between them
abbrev pub seen_two : {A : Type 0} → A × Bor (List Token) → A × List Token
seen_two p = (p.0, p.1.now)

abbrev pub seen_two_of : {A : Type 0} → Vec A Global × Bor (List Token) → List A × List Token
seen_two_of p = (p.0.items, p.1.now)

abbrev pub seen : {A : Type 0} → A × Bool × Bor (List Token) → A × Bool × List Token
seen p = (p.0, p.1, p.2.now)

abbrev pub seen_of : {A : Type 0} → Vec A Global × Bool × Bor (List Token) → List A × Bool × List Token
seen_of p = (p.0.items, p.1, p.2.now)

pub pair_is : {A B : Type 0} (a : A) (b : B) (x : A × B) → a ≡ x.0 → b ≡ x.1 → (a, b) ≡ x
pair_is {A = A} {B = B} a b x h g =
    let f : A → A × B = λ c. (c, b) in
    let k : B → A × B = λ c. (x.0, c) in
    ap f h ∙ ap k g

pub triple_is : {A B C : Type 0} (a : A) (b : B) (c : C) (x : A × B × C) → a ≡ x.0 → b ≡ x.1 → c ≡ x.2 → (a, b, c) ≡ x
triple_is {A = A} {B = B} {C = C} a b c x h g k =
    let f : A → A × B × C = λ d. (d, b, c) in
    let m : B → A × B × C = λ d. (x.0, d, c) in
    let n : C → A × B × C = λ d. (x.0, x.1, d) in
    ap f h ∙ (ap m g ∙ ap n k)

failed_at : {X Y Z W : Type 0} (P : X → Type 0) (Q : Z → Type 0) (f : Y → X) (g : W → Z) (e : ReadError) →
    ((z : Z) → Q z → (x : X) × P x) → GaveEach P f (Err e) → GaveEach Q g (Err e)
failed_at P Q f g NoMemory step h z q = tt
failed_at P Q f g NotSpelled step h z q = let w = step z q in h w.0 w.1

-- what a call failed with is passed on: where something was to be read, so was the call's part
pub failed : {X Y Z W : Type 0} (P : X → Type 0) (Q : Z → Type 0) (f : Y → X) (g : W → Z) (e : ReadError) (r : Result W ReadError) →
    ((z : Z) → Q z → (x : X) × P x) → GaveEach P f (Err e) → r ≡ Err e → GaveEach Q g r
failed {W = W} P Q f g e r step h same =
    let There : Result W ReadError → Type 0 = λ s. GaveEach Q g s in
    subst There (sym same) (failed_at P Q f g e step h)

-- what holds of what a call gave is passed on
pub ok_on : {Y E : Type 0} (P Q : Y → Type 0) (r : Result Y E) → ((y : Y) → P y → Q y) → IfOk r P → IfOk r Q
ok_on P Q (Ok y) step h = step y h
ok_on P Q (Err e) step h = tt

-- z is all that P holds of
abbrev pub Only : {X : Type 0} → (X → Type 0) → X → Type 0
Only {X = X} P z = (x : X) → P x → z ≡ x

-- what one of two equal readings fits, the other fits too
pub other : {X : Type 0} (P : X → Type 0) {x y : X} → x ≡ y → P y → P x
other P e h = subst P (sym e) h

pub same_tail : (t : Token) (us vs : List Token) → ◌≡◌ {A = List Token} (t ∷ us) (t ∷ vs) → us ≡ vs
same_tail t us vs e = cc

abbrev pub pair_of : {A B : Type 0} → Vec A Global × B → List A × B
pair_of p = (p.0.items, p.1)

abbrev pub pair : {A B : Type 0} → A × B → A × B
pair p = (p.0, p.1)
