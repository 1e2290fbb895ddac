-- What the reader gives is spelled by the tokens that it took.
use Rattle.std.proofs.Common.{◌≡◌, ℕ, ◌≤◌, Bool, true, false, ◌||◌, List, [], ◌∷◌, ◌++◌, length, Option, Some, None, refl, sym, ◌∙◌, subst, append_assoc, arith, nat_le, if◌then◌else◌}
use Rattle.loop_tokens.specs.declared.token.Token.{Token}
use Rattle.loop_tokens.specs.declared.token.Token.TheVariants as tok
use Rattle.loop_tokens.specs.declared.keyword.Keyword.{Keyword}
use Rattle.loop_tokens.specs.declared.sign.Sign.TheVariants as sg
use Rattle.loop_data.specs.declared.expr.Op.{Op}
use Rattle.loop_data.specs.declared.expr.Word.{Word}
use Rattle.loop_data.specs.declared.expr.Expr.{Expr}
use Rattle.loop_data.specs.declared.expr.Expr.TheVariants as e
use Rattle.loop_exprs.specs.declared.level.Level.{Level}
use Rattle.loop_exprs.specs.declared.level.Level.TheVariants as level
use Rattle.loop_exprs.specs.Operations.{groups_left, word_of, extreme_of}
use Rattle.loop_exprs.specs.Grammar.{Spells, SpellsParts}
use Rattle.loop_exprs.specs.Reading.{Read, Outcome, closed, applied, called, paired, beside, Reads, GoesOn, ReadsParts, ReadsAll}

abbrev pub IfRead : {A : Type 0} → Read A → (A → Bool → List Token → Type 0) → Type 0
IfRead None P = Unit {0}
IfRead (Some p) P = P p.0 p.1 p.2

weaker : {A : Type 0} {P Q : A → Bool → List Token → Type 0} (r : Read A) → ((x : A) (u : Bool) (rest : List Token) → P x u rest → Q x u rest) → IfRead r P → IfRead r Q
weaker None f h = tt
weaker (Some p) f h = f p.0 p.1 p.2 h

pub or_assoc : (a b c : Bool) → (a || b || c) ≡ (a || (b || c))
or_assoc true b c = refl
or_assoc false b c = refl

pub or_false : (a : Bool) → (a || false) ≡ a
or_false true = refl
or_false false = refl

few : (n : ℕ) → nat_le n 2 ≡ true → n ≤ 2
few n h = grind (arith)

few_spell : (b : Bool) {x y : Expr} {xs : List Expr} {u : Bool} {ts us : List Token} → (b ≡ true → length xs ≤ 2) → SpellsParts (x ∷ y ∷ xs) u ts (tok.Sign sg.Close ∷ us) →
    IfRead (beside u us (if b then Some (e.Tuple (x ∷ y ∷ xs)) else None)) (λ z v rest. Spells level.Atom z v (tok.Sign sg.Open ∷ ts) rest)
few_spell true h p = Spells.tuple (omega arith) (omega (arith, h refl)) p
few_spell false h p = tt

closed_spells : {xs : List Expr} {u : Bool} {ts us : List Token} → SpellsParts xs u ts (tok.Sign sg.Close ∷ us) → IfRead (beside u us (closed xs)) (λ x v rest. Spells level.Atom x v (tok.Sign sg.Open ∷ ts) rest)
closed_spells (SpellsParts.last p) = Spells.group p
closed_spells (SpellsParts.more p (SpellsParts.last q)) = few_spell true (λ _. omega arith) (SpellsParts.more p (SpellsParts.last q))
closed_spells (SpellsParts.more p (SpellsParts.more {xs = xs} q m)) = few_spell (nat_le (length xs) 2) (few (length xs)) (SpellsParts.more p (SpellsParts.more q m))

called_spells : (k : Keyword) {x : Expr} {u : Bool} {ts us : List Token} (o : Option Word) → word_of k ≡ o → Spells level.Expr x u ts (tok.Sign sg.Close ∷ us) →
    IfRead (beside u us (called o (Some x))) (λ z v rest. Spells level.Atom z v (tok.Keyword k ∷ tok.Sign sg.Open ∷ ts) rest)
called_spells k None h p = tt
called_spells k (Some w) h p = Spells.call h p

paired_spells : (k : Keyword) {x y : Expr} {u v : Bool} {ts us vs : List Token} (o : Option Op) → extreme_of k ≡ o → Spells level.Expr x u ts (tok.Sign sg.Comma ∷ us) →
    Spells level.Expr y v us (tok.Sign sg.Close ∷ vs) → IfRead (beside (u || v) vs (paired o (Some x) (Some y))) (λ z w rest. Spells level.Atom z w (tok.Keyword k ∷ tok.Sign sg.Open ∷ ts) rest)
paired_spells k None h p q = tt
paired_spells k (Some o) h p q = Spells.extreme h p q

applied_spells : (k : Keyword) {xs : List Expr} {u : Bool} {ts us : List Token} → SpellsParts xs u ts (tok.Sign sg.Close ∷ us) →
    IfRead (beside u us (applied k xs)) (λ x v rest. Spells level.Atom x v (tok.Keyword k ∷ tok.Sign sg.Open ∷ ts) rest)
applied_spells k (SpellsParts.last p) = called_spells k (word_of k) refl p
applied_spells k (SpellsParts.more p (SpellsParts.last q)) = paired_spells k (extreme_of k) refl p q
applied_spells k (SpellsParts.more p (SpellsParts.more q (SpellsParts.last m))) = tt
applied_spells k (SpellsParts.more p (SpellsParts.more q (SpellsParts.more m n))) = tt

by_equal : (r p : Outcome) (P : Expr → Bool → List Token → Type 0) → r ≡ p → IfRead p P → IfRead r P
by_equal r p P same h = subst (λ (o : Outcome). IfRead o P) (sym same) h

mutual
  pub sound : {l : Level} {ts : List Token} {r : Outcome} → Reads l ts r → IfRead r (λ x u rest. Spells l x u ts rest)
  sound (Reads.left_none g d) = tt
  sound (Reads.left g d k) = goes_sound k _ g (Spells.tight (sound d))
  sound (Reads.not_none d) = tt
  sound (Reads.not d) = Spells.not (sound d)
  sound (Reads.not_else {r = r} h d) = weaker r (λ x u rest p. Spells.tight p) (sound d)
  sound (Reads.compare_none d) = tt
  sound (Reads.compare_one d h) = Spells.tight (sound d)
  sound (Reads.compare_half o d f) = tt
  sound (Reads.compare o d f) = Spells.compare o (sound d) (sound f)
  sound Reads.negative = Spells.negative
  sound (Reads.negate_none h d) = tt
  sound (Reads.negate h d) = Spells.negate h (sound d)
  sound (Reads.negate_else {r = r} h d) = weaker r (λ x u rest p. Spells.tight p) (sound d)
  sound Reads.number = Spells.number
  sound Reads.text = Spells.text
  sound Reads.name = Spells.name
  sound (Reads.constant h) = Spells.constant h
  sound (Reads.group_none d) = tt
  sound (Reads.group {ts = ts} {r = r} d same) = by_equal r _ (λ x v rest. Spells level.Atom x v (tok.Sign sg.Open ∷ ts) rest) same (closed_spells (all_sound d))
  sound (Reads.call_alone g h) = tt
  sound (Reads.call_none g d) = tt
  sound (Reads.call {k = w} {ts = ts} {r = r} g d same) = by_equal r _ (λ x v rest. Spells level.Atom x v (tok.Keyword w ∷ tok.Sign sg.Open ∷ ts) rest) same (applied_spells w (all_sound d))
  sound Reads.no_token = tt
  sound (Reads.no_atom h) = tt
  sound (Reads.choice_none d) = tt
  sound (Reads.no_then d h) = tt
  sound (Reads.value_none d f) = tt
  sound (Reads.no_else d f h) = tt
  sound (Reads.choice_some d f) = Spells.choice_some (sound d) (sound f)
  sound (Reads.other_none d f h g) = tt
  sound (Reads.choice d f h g) = Spells.choice (sound d) (sound f) (sound g)
  sound (Reads.no_choice {r = r} h d) = weaker r (λ x u rest p. Spells.tight p) (sound d)

  pub goes_sound : {l : Level} {a : Expr} {u : Bool} {us : List Token} {r : Outcome} → GoesOn l a u us r → (ts : List Token) → groups_left l ≡ true →
      Spells l a u ts us → IfRead r (λ x v rest. Spells l x v ts rest)
  goes_sound (GoesOn.ends h) ts g p = p
  goes_sound (GoesOn.goes_none o d) ts g p = tt
  goes_sound (GoesOn.goes o d k) ts g p = goes_sound k ts g (Spells.two g o p (sound d))

  pub parts_sound : {found : List Expr} {w : Bool} {ts : List Token} {r : Read (List Expr)} → ReadsParts found w ts r →
      IfRead r (λ xs v rest. (ys : List Expr) × (u : Bool) × (xs ≡ found ++ ys) × (v ≡ (w || u)) × SpellsParts ys u ts rest)
  parts_sound (ReadsParts.parts_none d) = tt
  parts_sound (ReadsParts.last {v = v} {x = x} d h) = (x ∷ [], v, refl, refl, SpellsParts.last (sound d))
  parts_sound (ReadsParts.more {found = found} {u = w} {v = v} {x = x} {r = r} d k) =
      weaker r (λ xs u rest p. (x ∷ p.0, v || p.1, p.2 ∙ append_assoc found (x ∷ []) p.0, p.3 ∙ or_assoc w v p.1, SpellsParts.more (sound d) p.4)) (parts_sound k)

  pub all_sound : {xs : List Expr} {u : Bool} {ts rest : List Token} → ReadsAll ts (Some (xs, u, rest)) → SpellsParts xs u ts (tok.Sign sg.Close ∷ rest)
  all_sound {xs = xs} {u = u} {ts = ts} {rest = rest} (ReadsAll.all d) =
      let p = parts_sound d in
      let P : List Expr → Type 0 = λ ys. SpellsParts ys p.1 ts (tok.Sign sg.Close ∷ rest) in
      let Q : Bool → Type 0 = λ v. SpellsParts xs v ts (tok.Sign sg.Close ∷ rest) in
      subst Q (sym p.3) (subst P (sym p.2) p.4)
