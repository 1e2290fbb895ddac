-- What is passed on.
use Rattle.std.proofs.Common.{◌≡◌, ℕ, ◌^◌, ◌+◌, ◌≤◌, Bool, true, false, cond, nat_lt, nat_le, ◌∷◌, refl, ap, ◌∙◌, pos, neg_ℤ, arith, List, None, Result, Ok, Err, Vec, Global, subst, sym}
use mir.Val.{to_z, of_z}
use mir.Syntax.{w64}
use lib.IntN.{ℤ}
use Rattle.std.proofs.lemmas.Int.{ints, to_z-of_z}
use Rattle.std.proofs.lemmas.Bool.Decides.{nat_tests}
use Rattle.std.specs.Borrow.{Bor}
use Rattle.loop_tokens.specs.declared.token.Token.TheVariants as tok
use Rattle.loop_tokens.specs.declared.sign.Sign.{Sign}
use Rattle.loop_tokens.specs.declared.sign.Sign.TheVariants as sg
use Rattle.loop_exprs.specs.declared.level.Level.{Level}
use Rattle.loop_exprs.specs.declared.level.Level.TheVariants as level
use Rattle.loop_exprs.specs.Operations.{positive_value, negative_value}
use Rattle.loop_exprs.specs.Grammar.{NotFirst}
use Rattle.loop_tokens.specs.declared.token.Token.{Token}
use Rattle.loop_data.specs.declared.expr.Expr.{Expr}
use Rattle.loop_exprs.specs.declared.read.ReadError.{ReadError}
use Rattle.loop_exprs.specs.declared.read.ReadError.TheVariants.{NoMemory, NotSpelled}
use Rattle.loop_exprs.specs.Reading.{Gives, GivesFirst, Read, Reads, begins_atom}

abbrev pub seen : {A : Type 0} → A × Bool × Bor (List Token) → A × Bool × List Token
seen p = (p.0, p.1, p.2.now)

abbrev pub seen_parts : Vec Expr Global × Bool × Bor (List Token) → List Expr × Bool × List Token
seen_parts p = (p.0.items, p.1, p.2.now)

abbrev pub seen_first : Level × Expr × Bool × Bor (List Token) → Level × Expr × Bool × List Token
seen_first p = (p.0, p.1, p.2, p.3.now)

passes_at : {A B Y Z : Type 0} (P : Read A → Type 0) (Q : Read B → Type 0) (f : Y → A × Bool × List Token) (g : Z → B × Bool × List Token) (e : ReadError) →
    (P None → Q None) → Gives P f (Err e) → Gives Q g (Err e)
passes_at P Q f g NoMemory step h = tt
passes_at P Q f g NotSpelled step h = step h

-- what a call failed with is passed on
pub passes : {A B Y Z : Type 0} (P : Read A → Type 0) (Q : Read B → Type 0) (f : Y → A × Bool × List Token) (g : Z → B × Bool × List Token) (e : ReadError) (r : Result Z ReadError) →
    (P None → Q None) → Gives P f (Err e) → r ≡ Err e → Gives Q g r
passes P Q f g e r step h same = subst (Gives Q g) (sym same) (passes_at P Q f g e step h)

-- what a call gave, or its failure, is passed on
pub hands_on : {A Y : Type 0} (P Q : Read A → Type 0) (f : Y → A × Bool × List Token) (r : Result Y ReadError) →
    ((o : Read A) → P o → Q o) → Gives P f r → Gives Q f r
hands_on P Q f (Ok y) step h = step _ h
hands_on P Q f (Err NoMemory) step h = tt
hands_on P Q f (Err NotSpelled) step h = step _ h

fails_first_at : {A Y Z : Type 0} (P : Read A → Type 0) (l : Level) (ts : List Token) (f : Y → A × Bool × List Token) (g : Z → Level × Expr × Bool × List Token) (e : ReadError) →
    (P None → Reads l ts None) → Gives P f (Err e) → GivesFirst l ts g (Err e)
fails_first_at P l ts f g NoMemory step h = tt
fails_first_at P l ts f g NotSpelled step h = step h

-- what a call failed with is what stands first
pub fails_first : {A Y Z : Type 0} (P : Read A → Type 0) (l : Level) (ts : List Token) (f : Y → A × Bool × List Token) (g : Z → Level × Expr × Bool × List Token) (e : ReadError)
    (r : Result Z ReadError) → (P None → Reads l ts None) → Gives P f (Err e) → r ≡ Err e → GivesFirst l ts g r
fails_first P l ts f g e r step h same = subst (GivesFirst l ts g) (sym same) (fails_first_at P l ts f g e step h)

first_fails_at : {Y Z : Type 0} (l : Level) (ts : List Token) (f : Y → Level × Expr × Bool × List Token) (g : Z → Expr × Bool × List Token) (e : ReadError) → GivesFirst l ts f (Err e) → Gives (Reads l ts) g (Err e)
first_fails_at l ts f g NoMemory h = tt
first_fails_at l ts f g NotSpelled h = h

-- where nothing stands first, nothing is read
pub first_fails : {Y Z : Type 0} (l : Level) (ts : List Token) (f : Y → Level × Expr × Bool × List Token) (g : Z → Expr × Bool × List Token) (e : ReadError) (r : Result Z ReadError) →
    GivesFirst l ts f (Err e) → r ≡ Err e → Gives (Reads l ts) g r
first_fails l ts f g e r h same = subst (Gives (Reads l ts) g) (sym same) (first_fails_at l ts f g e h)

-- ---- numbers are in their type's range

negative_at : (t : Bool) (n : ℕ) → (t ≡ false → n ≤ 2 ^ 63) → to_z w64 (of_z w64 (cond t (pos 0) (neg_ℤ (pos n)))) ≡ cond t (pos 0) (neg_ℤ (pos n))
negative_at true n h = to_z-of_z w64 (pos 0) (omega (arith, ints))
negative_at false n h = let le : n ≤ 2 ^ 63 = h refl in to_z-of_z w64 (neg_ℤ (pos n)) (omega (arith, ints))

not_below : (n : ℕ) → nat_lt (2 ^ 63) n ≡ false → n ≤ 2 ^ 63
not_below n h = grind (arith, nat_tests)

pub fits_negative : (n : ℕ) (z : ℤ) → z ≡ negative_value n → to_z w64 (of_z w64 z) ≡ negative_value n
fits_negative n z e = ap (λ (y : ℤ). to_z w64 (of_z w64 y)) e ∙ negative_at (nat_lt (2 ^ 63) n) n (not_below n)

positive_at : (t : Bool) (n : ℕ) → (t ≡ false → n + 1 ≤ 2 ^ 63) → to_z w64 (of_z w64 (cond t (pos 0) (pos n))) ≡ cond t (pos 0) (pos n)
positive_at true n h = to_z-of_z w64 (pos 0) (omega (arith, ints))
positive_at false n h = let le : n + 1 ≤ 2 ^ 63 = h refl in to_z-of_z w64 (pos n) (omega (arith, ints))

not_above : (n : ℕ) → nat_le (2 ^ 63) n ≡ false → n + 1 ≤ 2 ^ 63
not_above n h = grind (arith, nat_tests)

pub fits_positive : (n : ℕ) (z : ℤ) → z ≡ positive_value n → to_z w64 (of_z w64 z) ≡ positive_value n
fits_positive n z e = ap (λ (y : ℤ). to_z w64 (of_z w64 y)) e ∙ positive_at (nat_le (2 ^ 63) n) n (not_above n)

-- ---- no sign but `(` begins an atom

not_open : (s : Sign) → (tok.Sign s ≡ tok.Sign sg.Open → ⊥) → begins_atom (tok.Sign s) ≡ false
not_open sg.Open free = absurd (free refl)
not_open _ free = refl

pub no_group : (ts : List Token) (u : Token) (s : Sign) (rest : List Token) → ts ≡ u ∷ rest → u ≡ tok.Sign s → NotFirst (tok.Sign sg.Open) ts → Reads level.Atom ts None
no_group ts u s rest e is free =
    let there : ts ≡ tok.Sign s ∷ rest = e ∙ ap (λ (v : Token). v ∷ rest) is in
    let P : List Token → Type 0 = λ us. Reads level.Atom us None in
    subst P (sym there) (Reads.no_atom (not_open s (λ same. free rest (there ∙ ap (λ (v : Token). v ∷ rest) same))))
