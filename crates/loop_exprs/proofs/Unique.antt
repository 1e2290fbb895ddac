-- The reader gives what is spelled; so tokens spell one expression at most.
use Rattle.std.specs.Prelude.{IsTrue, ◌↔◌}
use Rattle.std.proofs.Common.{◌≡◌, Bool, true, false, ◌||◌, List, [], ◌∷◌, ◌++◌, Some, refl, ap, sym, ◌∙◌, subst, arith, append_assoc, Result, Err}
use Rattle.loop_tokens.specs.declared.token.Token.{Token}
use Rattle.loop_tokens.specs.declared.token.Token.TheVariants as tok
use Rattle.loop_tokens.specs.declared.keyword.Keyword.TheVariants as kw
use Rattle.loop_tokens.specs.declared.sign.Sign.TheVariants as sg
use Rattle.loop_data.specs.declared.expr.Op.{Op}
use Rattle.loop_data.specs.declared.expr.Expr.{Expr}
use Rattle.loop_data.specs.declared.expr.Expr.TheVariants as e
use Rattle.loop_exprs.specs.declared.level.Level.{Level}
use Rattle.loop_exprs.specs.declared.level.Level.TheVariants as level
use Rattle.loop_exprs.specs.declared.read.ReadError.{ReadError}
use Rattle.loop_exprs.specs.declared.read.ReadError.TheVariants.{NoMemory, NotSpelled}
use Rattle.loop_exprs.specs.Operations.{tighter, groups_left}
use Rattle.loop_exprs.specs.Grammar.{Spells, SpellsParts, NotFirst, IsOperation}
use Rattle.loop_exprs.specs.Reading.{Outcome, Gives, called, paired, beside, Reads, GoesOn, ReadsParts, ReadsAll}
use Rattle.loop_exprs.specs.Claims.{MayEnd, Front, GaveFront, GaveEachFront, OneReading}
use Rattle.loop_exprs.proofs.Sound.{sound, or_assoc}
use Rattle.loop_exprs.proofs.Follow.{Stops, behind, Starts, starts, behind_rank, Stops-mono, Stops-operator, Stops-separator, Stops-empty}
use Rattle.loop_exprs.proofs.Complete.{Onward, exact, from, left_onward, onward_left, behind_left, closed_tuple, carry, word_no_constant, extreme_no_constant}

abbrev Made : Level → Expr → Bool → List Token → List Token → Type 0
Made l x u ts rest = Stops (behind l) rest → (r : Outcome) → Onward l x u rest r → Reads l ts r

ended : (l : Level) (x : Expr) (u : Bool) (rest : List Token) → Stops l rest → Onward l x u rest (Some (x, u, rest))
ended level.Or x u rest s = GoesOn.ends (s level.Or (omega arith))
ended level.And x u rest s = GoesOn.ends (s level.And (omega arith))
ended level.Join x u rest s = GoesOn.ends (s level.Join (omega arith))
ended level.Add x u rest s = GoesOn.ends (s level.Add (omega arith))
ended level.Multiply x u rest s = GoesOn.ends (s level.Multiply (omega arith))
ended _ x u rest s = refl

pub whole : (l : Level) (x : Expr) (u : Bool) (ts rest : List Token) → Made l x u ts rest → Stops l rest → Reads l ts (Some (x, u, rest))
whole l x u ts rest made s = made (Stops-mono l (behind l) rest (behind_rank l) s) (Some (x, u, rest)) (ended l x u rest s)

as_read : (l : Level) (ts : List Token) (r p : Outcome) → r ≡ p → Reads l ts p → Reads l ts r
as_read l ts r p same d = subst (Reads l ts) (sym same) d

tight_made : (l : Level) (x : Expr) (u : Bool) (ts rest : List Token) → Starts (tighter l) ts → Made (tighter l) x u ts rest → Made l x u ts rest
tight_made level.Expr x u ts rest begins made s r k = as_read level.Expr ts r _ k
    (Reads.no_choice begins.1 (whole level.Or x u ts rest made (Stops-mono level.Expr level.Or rest (omega arith) s)))
tight_made level.Or x u ts rest begins made s r k = Reads.left refl (whole level.And x u ts rest made s) k
tight_made level.And x u ts rest begins made s r k = Reads.left refl (whole level.Not x u ts rest made s) k
tight_made level.Not x u ts rest begins made s r k = as_read level.Not ts r _ k
    (Reads.not_else begins.2 (whole level.Compare x u ts rest made (Stops-mono level.Not level.Compare rest (omega arith) s)))
tight_made level.Compare x u ts rest begins made s r k = as_read level.Compare ts r _ k
    (Reads.compare_one (whole level.Join x u ts rest made (Stops-mono level.Compare level.Join rest (omega arith) s)) (s level.Compare (omega arith)))
tight_made level.Join x u ts rest begins made s r k = Reads.left refl (whole level.Add x u ts rest made s) k
tight_made level.Add x u ts rest begins made s r k = Reads.left refl (whole level.Multiply x u ts rest made s) k
tight_made level.Multiply x u ts rest begins made s r k = Reads.left refl (whole level.Negate x u ts rest made s) k
tight_made level.Negate x u ts rest begins made s r k = as_read level.Negate ts r _ k
    (Reads.negate_else begins.3 (whole level.Atom x u ts rest made (Stops-mono level.Negate level.Atom rest (omega arith) s)))
tight_made level.Atom x u ts rest begins made s r k = made s r k

two_made : (l : Level) (t : Token) (o : Op) (a b : Expr) (u v : Bool) (ts us rest : List Token) → groups_left l ≡ true → IsOperation l t o →
    Made l a u ts (t ∷ us) → Made (tighter l) b v us rest → Made l (e.Two o a b) (u || v) ts rest
two_made l t o a b u v ts us rest g op first next s r k =
    let here : Stops (behind l) (t ∷ us) = rw (behind_left l g) (Stops-operator l t us o op) in
    let there : Stops (tighter l) rest = rw (behind_left l g) at s in
    first here r (left_onward l a u (t ∷ us) r g (GoesOn.goes op (whole (tighter l) b v us rest next there) (onward_left l (e.Two o a b) (u || v) rest r g k)))

close_stops : (l : Level) (rest : List Token) → Stops l (tok.Sign sg.Close ∷ rest)
close_stops l rest = Stops-separator l (tok.Sign sg.Close) rest refl

comma_stops : (l : Level) (rest : List Token) → Stops l (tok.Sign sg.Comma ∷ rest)
comma_stops l rest = Stops-separator l (tok.Sign sg.Comma) rest refl

mutual
  pub to : {l : Level} {x : Expr} {u : Bool} {ts rest : List Token} → Spells l x u ts rest → Made l x u ts rest
  to (Spells.tight {l = l} {x = x} {u = u} {ts = ts} {rest = rest} d) s r k = tight_made l x u ts rest (starts d) (to d) s r k
  to (Spells.two {l = l} {t = t} {o = o} {a = a} {b = b} {u = u} {v = v} {ts = ts} {us = us} {rest = rest} g op d f) s r k =
      two_made l t o a b u v ts us rest g op (to d) (to f) s r k
  to (Spells.compare {t = t} {o = o} {a = a} {b = b} {u = u} {v = v} {ts = ts} {us = us} {rest = rest} op d f) s r k = as_read level.Compare ts r _ k
      (Reads.compare op (whole level.Join a u ts (t ∷ us) (to d) (Stops-operator level.Compare t us o op))
      (whole level.Join b v us rest (to f) (Stops-mono level.Compare level.Join rest (omega arith) s)))
  to (Spells.not {x = x} {u = u} {ts = ts} {rest = rest} d) s r k = as_read level.Not (tok.Keyword kw.Not ∷ ts) r _ k (Reads.not (whole level.Not x u ts rest (to d) s))
  to (Spells.negative {n = n} {rest = rest}) s r k = as_read level.Negate (tok.Sign sg.Minus ∷ tok.Number n ∷ rest) r _ k Reads.negative
  to (Spells.negate {x = x} {u = u} {ts = ts} {rest = rest} h d) s r k = as_read level.Negate (tok.Sign sg.Minus ∷ ts) r _ k (Reads.negate h (whole level.Negate x u ts rest (to d) s))
  to (Spells.number {n = n} {rest = rest}) s r k = as_read level.Atom (tok.Number n ∷ rest) r _ k Reads.number
  to (Spells.text {raw = raw} {rest = rest}) s r k = as_read level.Atom (tok.Text raw ∷ rest) r _ k Reads.text
  to (Spells.name {n = n} {rest = rest}) s r k = as_read level.Atom (tok.Name n ∷ rest) r _ k Reads.name
  to (Spells.constant {k = w} {rest = rest} h) s r k = as_read level.Atom (tok.Keyword w ∷ rest) r _ k (Reads.constant h)
  to (Spells.call {k = w} {w = f} {x = x} {u = u} {ts = ts} {rest = rest} h d) s r k =
      Reads.call (word_no_constant w f h) (ReadsAll.all (ReadsParts.last (whole level.Expr x u ts (tok.Sign sg.Close ∷ rest) (to d) (close_stops level.Expr rest)) (λ us q. cc)))
      (k ∙ ap (λ o. beside u rest (called o (Some x))) (sym h))
  to (Spells.extreme {k = w} {o = o} {a = a} {b = b} {u = u} {v = v} {ts = ts} {us = us} {rest = rest} h d f) s r k =
      Reads.call (extreme_no_constant w o h) (ReadsAll.all (ReadsParts.more (whole level.Expr a u ts (tok.Sign sg.Comma ∷ us) (to d) (comma_stops level.Expr us))
      (ReadsParts.last (whole level.Expr b v us (tok.Sign sg.Close ∷ rest) (to f) (close_stops level.Expr rest)) (λ vs q. cc))))
      (k ∙ ap (λ p. beside (u || v) rest (paired p (Some a) (Some b))) (sym h))
  to (Spells.choice {c = c} {a = a} {b = b} {u = u} {v = v} {w = w} {ts = ts} {us = us} {vs = vs} {rest = rest} d f g) s r k = as_read level.Expr (tok.Keyword kw.If ∷ ts) r _ k
      (Reads.choice (whole level.Expr c u ts (tok.Keyword kw.Then ∷ us) (to d) (Stops-separator level.Expr (tok.Keyword kw.Then) us refl))
      (whole level.Expr a v us (tok.Keyword kw.Else ∷ vs) (to f) (Stops-separator level.Expr (tok.Keyword kw.Else) vs refl)) (starts g) (whole level.Expr b w vs rest (to g) s))
  to (Spells.choice_some {c = c} {a = a} {u = u} {v = v} {ts = ts} {us = us} {rest = rest} d f) s r k = as_read level.Expr (tok.Keyword kw.If ∷ ts) r _ k
      (Reads.choice_some (whole level.Expr c u ts (tok.Keyword kw.Then ∷ us) (to d) (Stops-separator level.Expr (tok.Keyword kw.Then) us refl))
      (whole level.Expr a v us (tok.Keyword kw.Else ∷ tok.Keyword kw.Nothing ∷ rest) (to f) (Stops-separator level.Expr (tok.Keyword kw.Else) (tok.Keyword kw.Nothing ∷ rest) refl)))
  to (Spells.group {x = x} {u = u} {ts = ts} {rest = rest} d) s r k =
      Reads.group (ReadsAll.all (ReadsParts.last (whole level.Expr x u ts (tok.Sign sg.Close ∷ rest) (to d) (close_stops level.Expr rest)) (λ us q. cc))) k
  to (Spells.tuple {xs = xs} {u = u} {ts = ts} {rest = rest} h i p) s r k =
      Reads.group (ReadsAll.all (to_parts p [] false (close_stops level.Expr rest) (λ us q. cc))) (k ∙ ap (beside u rest) (sym (closed_tuple xs h i)))

  pub to_parts : {xs : List Expr} {u : Bool} {ts rest : List Token} → SpellsParts xs u ts rest → (found : List Expr) (w : Bool) → Stops level.Expr rest → NotFirst (tok.Sign sg.Comma) rest →
      ReadsParts found w ts (Some (found ++ xs, w || u, rest))
  to_parts (SpellsParts.last {x = x} {u = u} {ts = ts} {rest = rest} d) found w s h = ReadsParts.last (whole level.Expr x u ts rest (to d) s) h
  to_parts (SpellsParts.more {x = x} {xs = xs} {u = u} {v = v} {ts = ts} {us = us} {rest = rest} d p) found w s h =
      let P : List Expr → Type 0 = λ ys. ReadsParts found w ts (Some (ys, w || (u || v), rest)) in
      let Q : Bool → Type 0 = λ q. ReadsParts found w ts (Some ((found ++ x ∷ []) ++ xs, q, rest)) in
      subst P (append_assoc found (x ∷ []) xs) (subst Q (or_assoc w u v)
      (ReadsParts.more (whole level.Expr x u ts (tok.Sign sg.Comma ∷ us) (to d) (comma_stops level.Expr us)) (to_parts p (found ++ x ∷ []) (w || u) s h)))

pub end_stops : (l : Level) (ts : List Token) → MayEnd ts → Stops l ts
end_stops l [] h = Stops-empty l
end_stops l (t ∷ ts) h = Stops-separator l t ts h

front_read : {ts rest : List Token} {x : Expr} {wide : Bool} → Front ts x wide rest → Reads level.Expr ts (Some (x, wide, rest))
front_read {ts = ts} {rest = rest} {x = x} {wide = wide} f = whole level.Expr x wide ts rest (to f.spelled) (end_stops level.Expr rest f.longest)

front_exact : {ts rest : List Token} {x : Expr} {wide : Bool} {r : Outcome} → Front ts x wide rest → Reads level.Expr ts r → r ≡ Some (x, wide, rest)
front_exact {rest = rest} {r = r} f d = exact level.Expr (from f.spelled) (end_stops level.Expr rest f.longest) r d

pub one_reading : OneReading
one_reading ts rest also x y wide too f g =
    let same = front_exact g (front_read f) in
    (carry (λ z w us. x ≡ z) same refl, carry (λ z w us. wide ≡ w) same refl, carry (λ z w us. rest ≡ us) same refl)

pub front_given : {ts rest us : List Token} {x y : Expr} {wide u : Bool} → Front ts x wide rest → Reads level.Expr ts (Some (y, u, us)) → ◌≡◌ {A = Expr × Bool × List Token} (y, u, us) (x, wide, rest)
front_given f d = let same = front_exact f d in cc

-- where an operation stands behind what was read, there is no front
pub no_front : {ts rest us : List Token} {x y : Expr} {wide u : Bool} → Front ts x wide rest → Reads level.Expr ts (Some (y, u, us)) → (MayEnd us → ⊥) → ⊥
no_front {rest = rest} {us = us} f d none = none (carry (λ z w vs. MayEnd vs) (sym (front_exact f d)) f.longest)

-- a test that is false
pub not_ended : (b : Bool) (ts : List Token) → IsTrue b ↔ MayEnd ts → b ≡ false → MayEnd ts → ⊥
not_ended true ts h same ends = cc
not_ended false ts h same ends = let there : false ≡ true = h.1 ends in cc

gave_err_at : {Y Z : Type 0} (f : Y → Expr × Bool × List Token) (g : Z → Expr × Bool × List Token) (error : ReadError) (ts : List Token) → Gives (Reads level.Expr ts) f (Err error) →
    (x : Expr) (wide : Bool) (rest : List Token) → Front ts x wide rest → GaveFront g (Err error) x wide rest
gave_err_at f g NoMemory ts d x wide rest h = tt
gave_err_at f g NotSpelled ts d x wide rest h = let same = front_exact h d in cc

-- what the reader failed with is passed on
pub gave_err : {Y Z : Type 0} (f : Y → Expr × Bool × List Token) (g : Z → Expr × Bool × List Token) (error : ReadError) (r : Result Z ReadError) (ts : List Token) →
    Gives (Reads level.Expr ts) f (Err error) → r ≡ Err error → GaveEachFront g r ts
gave_err {Z = Z} f g error r ts d same x wide rest h = subst (λ (q : Result Z ReadError). GaveFront g q x wide rest) (sym same) (gave_err_at f g error ts d x wide rest h)

pub spelled : {ts us : List Token} {y : Expr} {u : Bool} → Reads level.Expr ts (Some (y, u, us)) → Spells level.Expr y u ts us
spelled d = sound d
