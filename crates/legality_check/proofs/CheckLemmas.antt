-- What the answer of the passes says of the program.
use Rattle.std.proofs.Common.{◌≡◌, ℕ, true, List, Option, Some, None, Result, Ok, Err, refl, sym, subst, ◌∙◌, ap}
use Rattle.std.specs.Prelude.{◌≢◌, ◌↔◌, IsOk}
use Rattle.loop_grammar.specs.declared.tree.ProgramTree.{ProgramTree}
use Rattle.loop_grammar.specs.Texts.{SpellsProgram}
use Rattle.loop_grammar.specs.WellFormed.{is_well_formed}
use Rattle.loop_syntax.proofs.WellFormedTexts.{well_formed_is_spelled}
use Rattle.legality_rules.specs.declared.refusal.Offence.{Offence}
use Rattle.legality_rules.specs.declared.refusal.LegalRefusal.{LegalRefusal}
use Rattle.legality_rules.specs.declared.refusal.LegalRefusal.TheVariants.{Illegal, NoMemory}
use Rattle.legality_rules.specs.Offences.{IsFirstOffence, IsLegal, first_among, first_offence, offences_of}
use Rattle.legality_rules.proofs.FirstLemmas.{first_is_found, found_is_first, none_is_empty}
use Rattle.legality_names.specs.Answers.{answer}
use Rattle.legality_check.specs.Programs.{Tried}

-- the answer of the passes, told a text that spells the program
abbrev pub Tells : ProgramTree → Tried → Type 0
Tells p t = (text : List ℕ) → SpellsProgram text p → t ≢ Err NoMemory → t ≡ answer (first_offence p)

none_of : (o : Option Offence) (u : Unit {0}) → Ok u ≡ answer o → o ≡ None
none_of None u e = refl
none_of (Some o) u e = absurd (cc)

some_of : (o : Option Offence) (e : LegalRefusal) → Err e ≡ answer o → (p : Offence) × (o ≡ Some p) × (e ≡ Illegal p)
some_of None e h = absurd (cc)
some_of (Some o) e h = (o, refl, cc)

not_ok : {T : Type 0} (r : Result T LegalRefusal) (e : LegalRefusal) → r ≡ Err e → IsOk r → ⊥
not_ok (Ok x) e is ok = absurd (cc)
not_ok (Err y) e is ok = absurd (cc)

err_inside : {T : Type 0} (x y : LegalRefusal) → ◌≡◌ {A = Result T LegalRefusal} (Err x) (Err y) → x ≡ y
err_inside x y e = cc

-- what was passed, a program that passes the test of trees, and what the passes answered of it
module _ (q p : ProgramTree) (t : Tried) (same : q ≡ p) (formed : is_well_formed p ≡ true) (tells : Tells q t) where
  told : t ≢ Err NoMemory → t ≡ answer (first_offence p)
  told ne = subst (λ z. Tells z t) same tells _ (well_formed_is_spelled p formed) ne

  -- ---- where they found nothing

  ok_is_none : (u : Unit {0}) → t ≡ Ok u → first_offence p ≡ None
  ok_is_none u is = none_of (first_offence p) u (sym is ∙ told (λ e. absurd (cc)))

  pub ok_is_legal : (u : Unit {0}) → t ≡ Ok u → IsLegal p
  ok_is_legal u is = none_is_empty (offences_of p) (ok_is_none u is)

  pub ok_has_none : (u : Unit {0}) → t ≡ Ok u → (o : Offence) → IsFirstOffence p o → ⊥
  ok_has_none u is o first =
      let none : first_offence p ≡ None = ok_is_none u is in
      let some : first_offence p ≡ Some o = first_is_found (offences_of p) o first in
      absurd (cc)

  -- ---- where they found something, and that was passed on

  module _ {T : Type 0} (r : Result T LegalRefusal) (x e : LegalRefusal) (is : t ≡ Err e) (passed : r ≡ Err x) (on : x ≡ e) (ne : r ≢ Err NoMemory) where
    r_is : r ≡ Err e
    r_is = passed ∙ ap (λ z. Err z) on

    found : (o : Offence) × (first_offence p ≡ Some o) × (e ≡ Illegal o)
    found = some_of (first_offence p) e (sym is ∙ told (λ h. ne (r_is ∙ ap (λ z. Err z) (err_inside e NoMemory (sym is ∙ h)))))

    pub err_is_illegal : IsOk r ↔ IsLegal p
    err_is_illegal = (
      λ ok. absurd (not_ok r e r_is ok),
      λ legal.
          let some : first_offence p ≡ Some found.0 = found.1 in
          let none : first_offence p ≡ None = ap first_among legal in
          absurd (cc),
    )

    pub err_is_first : (o : Offence) → r ≡ Err (Illegal o) ↔ IsFirstOffence p o
    err_is_first o =
        let some : first_offence p ≡ Some found.0 = found.1 in
        let named : e ≡ Illegal found.0 = found.2 in (
          λ h.
              let here : e ≡ Illegal o = err_inside e (Illegal o) (sym r_is ∙ h) in
              let equal : found.0 ≡ o = cc in
              found_is_first (offences_of p) o (some ∙ ap (λ z. Some z) equal),
          λ first.
              let here : first_offence p ≡ Some o = first_is_found (offences_of p) o first in
              let equal : found.0 ≡ o = cc in
              r_is ∙ ap (λ z. Err z) (named ∙ ap (λ z. Illegal z) equal),
        )
