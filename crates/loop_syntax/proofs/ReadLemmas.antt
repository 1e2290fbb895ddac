-- Reading line after line: what is said of the lines so far, and of those that are left.
use Rattle.std.proofs.Common.{◌≡◌, ◌≢◌, ℕ, zero, suc, ◌+◌, ◌<◌, Bool, List, [], ◌∷◌, ◌++◌, length, map, drop, get_or, Option, Some, None, Result, Ok, Err, refl, ap, sym, subst, ◌∙◌, append_assoc, arith}
use Rattle.std.specs.Prelude.{IfErr, IsOk}
use Rattle.std.proofs.lemmas.List.{append-nil}
use Rattle.loop_tokens.specs.declared.token.Token.{Token}
use Rattle.loop_tokens.specs.Tokens.{Holds}
use Rattle.loop_grammar.specs.declared.line.Line.{Line}
use Rattle.loop_grammar.specs.declared.line.NumberedLine.{NumberedLine}
use Rattle.loop_grammar.specs.declared.refusal.SyntaxRefusal.{SyntaxRefusal}
use Rattle.loop_grammar.specs.declared.refusal.SyntaxRefusal.TheVariants as refusal
use Rattle.loop_grammar.specs.Nesting.{on, NestingRefusal}
use Rattle.loop_nesting.specs.Claims.{RefusesNesting}
use Rattle.loop_grammar.specs.Texts.{LineRefusal, blank, says, refused, TokensSay, Says, AllSay, blank_line, line, FirstLineRefusal, here, after_blank, after_line, refusal_at}
use Rattle.loop_lines.specs.Verdicts.{said, IsRefusal}
use Rattle.loop_syntax.specs.Programs.{kept}

-- Of the lines the first i say these forms: what the others say goes on with it, and the first refusal among the others is that of all.
pub record Reading (lines : List (List ℕ)) (i : ℕ) (forms : List NumberedLine) : Type 0 where
  pub said : (more : List NumberedLine) → AllSay (i + 1) (drop i lines) more → AllSay 1 lines (forms ++ more)
  pub first_refusal : (r : SyntaxRefusal) → FirstLineRefusal (i + 1) (drop i lines) r → FirstLineRefusal 1 lines r

pub begin : (lines : List (List ℕ)) → Reading lines 0 []
begin lines = record { said = λ more a. a; first_refusal = λ r f. f }

drop-all : {X : Type 0} (xs : List X) → drop (length xs) xs ≡ []
drop-all [] = refl
drop-all (x ∷ xs) = drop-all xs

same_length : {X : Type 0} (f : X → List ℕ) (xs : List X) → length (map f xs) ≡ length xs
same_length f [] = refl
same_length f (x ∷ xs) = ap suc (same_length f xs)

finish : (lines : List (List ℕ)) (forms : List NumberedLine) → Reading lines (length lines) forms → AllSay 1 lines forms
finish lines forms r =
    subst (AllSay 1 lines) (append-nil forms) (r.said [] (subst (λ ls. AllSay (length lines + 1) ls []) (sym (drop-all lines)) AllSay.none))

pub finish_at : {X : Type 0} (f : X → List ℕ) (xs : List X) (all : List (List ℕ)) (i : ℕ) (forms : List NumberedLine) → i ≡ length xs → map f xs ≡ all → Reading (map f xs) i forms → AllSay 1 all forms
finish_at f xs all i forms end same r =
    subst (λ ls. AllSay 1 ls forms) same (finish (map f xs) forms (subst (λ k. Reading (map f xs) k forms) (end ∙ sym (same_length f xs)) r))

at_suc : {X : Type 0} (f : X → List ℕ) (xs : List X) (i : ℕ) (d : X) → i < length xs → drop i (map f xs) ≡ f (get_or xs i d) ∷ drop (suc i) (map f xs)
at_suc f [] i d lt = absurd (omega arith)
at_suc f (x ∷ xs) zero d lt = refl
at_suc f (x ∷ xs) (suc i) d lt = at_suc f xs i d (omega arith)

-- the line at i is the first of those that are left
pub at : {X : Type 0} (f : X → List ℕ) (xs : List X) (i : ℕ) (d : X) → i < length xs → drop i (map f xs) ≡ f (get_or xs i d) ∷ drop (i + 1) (map f xs)
at f xs i d lt = let e : suc i ≡ i + 1 = omega arith in at_suc f xs i d lt ∙ ap (λ k. f (get_or xs i d) ∷ drop k (map f xs)) e

module _ (lines : List (List ℕ)) (i : ℕ) (forms : List NumberedLine) (x : List ℕ) (next : drop i lines ≡ x ∷ drop (i + 1) lines) (r : Reading lines i forms) where
  blank_step : Says x blank → Reading lines (i + 1) forms
  blank_step s = record {
    said = λ more a. r.said more (subst (λ ls. AllSay (i + 1) ls more) (sym next) (blank_line s a));
    first_refusal = λ q f. r.first_refusal q (subst (λ ls. FirstLineRefusal (i + 1) ls q) (sym next) (after_blank s f));
  }

  line_step : (form : Line) → Says x (says form) → Reading lines (i + 1) (forms ++ on (i + 1) form ∷ [])
  line_step form s = record {
    said = λ more a. subst (AllSay 1 lines) (sym (append_assoc forms (on (i + 1) form ∷ []) more)) (r.said (on (i + 1) form ∷ more) (subst (λ ls. AllSay (i + 1) ls (on (i + 1) form ∷ more)) (sym next) (line s a)));
    first_refusal = λ q f. r.first_refusal q (subst (λ ls. FirstLineRefusal (i + 1) ls q) (sym next) (after_line s f));
  }

  refusal_step : (f : LineRefusal) → Says x (refused f) → FirstLineRefusal 1 lines (refusal_at f (i + 1))
  refusal_step f s = r.first_refusal (refusal_at f (i + 1)) (subst (λ ls. FirstLineRefusal (i + 1) ls (refusal_at f (i + 1))) (sym next) (here s))

  -- one line more, read as it is
  pub step_at : (n : ℕ) (now : List NumberedLine) (ts : List Token) (whole : Bool) (form : Option Line) → n ≡ i + 1 → now ≡ kept forms n form → Holds x ts whole → TokensSay ts whole (said form) → Reading lines (i + 1) now
  step_at n now ts whole None number is holds told = subst (Reading lines (i + 1)) (sym is) (blank_step (ts, whole, holds, told))
  step_at n now ts whole (Some form) number is holds told =
      subst (Reading lines (i + 1)) (sym (is ∙ ap (λ m. forms ++ on m form ∷ []) number)) (line_step form (ts, whole, holds, told))

  -- a line that is refused by itself
  pub refused_at : (all : List (List ℕ)) (n : ℕ) (ts : List Token) (whole : Bool) (q : SyntaxRefusal) → lines ≡ all → n ≡ i + 1 → Holds x ts whole → IsRefusal ts whole n q → FirstLineRefusal 1 all q
  refused_at all n ts whole q same number holds found =
      subst (FirstLineRefusal 1 all) (sym (found.2 ∙ ap (refusal_at found.0) number)) (subst (λ ls. FirstLineRefusal 1 ls (refusal_at found.0 (i + 1))) same (refusal_step found.0 (ts, whole, holds, found.1)))

-- a refusal that is passed on
pub passed_on : {T : Type 0} (P : SyntaxRefusal → Type 0) (r : Result T SyntaxRefusal) (x y : SyntaxRefusal) → r ≡ Err x → x ≡ y → (y ≢ refusal.NoMemory → P y) → IfErr r (λ q. q ≢ refusal.NoMemory → P q)
passed_on P r x y is same p = subst (λ t. IfErr t (λ q. q ≢ refusal.NoMemory → P q)) (sym (is ∙ ap Err same)) p

pub not_ok : {T E : Type 0} (r : Result T E) (x : E) → r ≡ Err x → IsOk r → ⊥
not_ok (Ok t) x e h = absurd (cc)
not_ok (Err y) x e h = absurd (cc)

-- a refusal of the nesting, which isn't want of memory
pub nesting_refused : (lines : List NumberedLine) (end : ℕ) (r : SyntaxRefusal) → RefusesNesting lines end (Err r) → r ≢ refusal.NoMemory → NestingRefusal lines end r
nesting_refused lines end refusal.NoMemory h ne = absurd (ne refl)
nesting_refused lines end (refusal.NotUtf8 n) h ne = h
nesting_refused lines end (refusal.NotALine n) h ne = h
nesting_refused lines end (refusal.BadNesting n) h ne = h
nesting_refused lines end (refusal.TooDeep n) h ne = h
nesting_refused lines end (refusal.NumberTooWide n) h ne = h
