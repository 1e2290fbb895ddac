-- The tokens of a line say one thing at most, and so do its bytes.
use Rattle.std.proofs.Common.{◌≡◌, ◌≢◌, ℕ, ◌<◌, ◌≤◌, Bool, true, false, List, [], Some, None, Option, Result, Ok, Err, IfOk, IfErr, refl, ap, sym, ◌∙◌, subst, arith}
use Rattle.loop_tokens.specs.declared.token.Token.{Token}
use Rattle.loop_tokens.specs.Limits.{is_too_deep}
use Rattle.loop_tokens.proofs.OneLexing.{one_lexing}
use Rattle.loop_exprs.specs.declared.read.ReadError.{ReadError}
use Rattle.loop_exprs.specs.declared.read.ReadError.TheVariants.{NoMemory, NotSpelled}
use Rattle.loop_exprs.specs.Reading.{Gives}
use Rattle.loop_grammar.specs.declared.line.Line.{Line}
use Rattle.loop_grammar.specs.declared.refusal.SyntaxRefusal.{SyntaxRefusal}
use Rattle.loop_grammar.specs.declared.refusal.SyntaxRefusal.TheVariants as refusal
use Rattle.loop_grammar.specs.LineForms.{SpellsLine, line_groups}
use Rattle.loop_grammar.specs.Texts.{Verdict, blank, says, refused, too_deep, not_a_line, too_wide, TokensSay, most_groups}
use Rattle.loop_lines.specs.Verdicts.{said, refusal_of, IsRefusal, IsVerdict, IsOwnRefusal, unless, OneVerdict, OneSaying}
use Rattle.loop_lines.specs.Claims.{Tells, LineOf}
use Rattle.loop_lines.proofs.Steps.{itself}
use Rattle.loop_lines.proofs.OneLine.{same_line, true_false, nonempty}

both_ways : {b : Bool} → b ≡ true → b ≡ false → ⊥
both_ways h g = true_false (sym h ∙ g)

above : (n m k : ℕ) → n ≡ m → k < n → m ≤ k → ⊥
above n m k e h g = omega arith

over : {x y : Line} → x ≡ y → most_groups < line_groups x → line_groups y ≤ most_groups → ⊥
over {x = x} {y = y} same h g = above (line_groups x) (line_groups y) most_groups (ap (λ z. line_groups z) same) h g

deep_case : {ts : List Token} {whole : Bool} {b : Verdict} → is_too_deep ts ≡ true → TokensSay ts whole b → refused too_deep ≡ b
deep_case h (TokensSay.deep g) = refl
deep_case h (TokensSay.stuck g) = absurd (both_ways h g)
deep_case h TokensSay.none = absurd (true_false (sym h))
deep_case h (TokensSay.not_spelled g n s) = absurd (both_ways h g)
deep_case h (TokensSay.groups g d k) = absurd (both_ways h g)
deep_case h (TokensSay.wide g d k) = absurd (both_ways h g)
deep_case h (TokensSay.line g d k) = absurd (both_ways h g)

stuck_case : {ts : List Token} {b : Verdict} → is_too_deep ts ≡ false → TokensSay ts false b → refused not_a_line ≡ b
stuck_case h (TokensSay.deep g) = absurd (both_ways g h)
stuck_case h (TokensSay.stuck g) = refl

none_case : {b : Verdict} → TokensSay [] true b → blank ≡ b
none_case (TokensSay.deep g) = absurd (true_false (sym g))
none_case TokensSay.none = refl
none_case (TokensSay.not_spelled g n s) = absurd (n refl)
none_case (TokensSay.groups g d k) = absurd (nonempty d refl)
none_case (TokensSay.wide g d k) = absurd (nonempty d refl)
none_case (TokensSay.line g d k) = absurd (nonempty d refl)

other_case : {ts : List Token} {b : Verdict} → is_too_deep ts ≡ false → ts ≢ [] → ((x : Line) (w : Bool) → SpellsLine x w ts → ⊥) → TokensSay ts true b → refused not_a_line ≡ b
other_case h more free (TokensSay.deep g) = absurd (both_ways g h)
other_case h more free TokensSay.none = absurd (more refl)
other_case h more free (TokensSay.not_spelled g n s) = refl
other_case h more free (TokensSay.groups {x = x} {wide = w} g d k) = absurd (free x w d)
other_case h more free (TokensSay.wide {x = x} g d k) = absurd (free x true d)
other_case h more free (TokensSay.line {x = x} g d k) = absurd (free x false d)

groups_case : {ts : List Token} {x : Line} {u : Bool} {b : Verdict} → is_too_deep ts ≡ false → SpellsLine x u ts → most_groups < line_groups x → TokensSay ts true b → refused too_deep ≡ b
groups_case h d k (TokensSay.deep g) = refl
groups_case h d k TokensSay.none = absurd (nonempty d refl)
groups_case {x = x} {u = u} h d k (TokensSay.not_spelled g n s) = absurd (s x u d)
groups_case h d k (TokensSay.groups g e f) = refl
groups_case h d k (TokensSay.wide g e f) = absurd (over (same_line d e).0 k f)
groups_case h d k (TokensSay.line g e f) = absurd (over (same_line d e).0 k f)

wide_case : {ts : List Token} {x : Line} {b : Verdict} → is_too_deep ts ≡ false → SpellsLine x true ts → line_groups x ≤ most_groups → TokensSay ts true b → refused too_wide ≡ b
wide_case h d k (TokensSay.deep g) = absurd (both_ways g h)
wide_case h d k TokensSay.none = absurd (nonempty d refl)
wide_case {x = x} h d k (TokensSay.not_spelled g n s) = absurd (s x true d)
wide_case h d k (TokensSay.groups g e f) = absurd (over (same_line e d).0 f k)
wide_case h d k (TokensSay.wide g e f) = refl
wide_case h d k (TokensSay.line g e f) = absurd (true_false (same_line d e).1)

line_case : {ts : List Token} {x : Line} {b : Verdict} → is_too_deep ts ≡ false → SpellsLine x false ts → line_groups x ≤ most_groups → TokensSay ts true b → says x ≡ b
line_case h d k (TokensSay.deep g) = absurd (both_ways g h)
line_case h d k TokensSay.none = absurd (nonempty d refl)
line_case {x = x} h d k (TokensSay.not_spelled g n s) = absurd (s x false d)
line_case h d k (TokensSay.groups g e f) = absurd (over (same_line e d).0 f k)
line_case h d k (TokensSay.wide g e f) = absurd (true_false (sym (same_line d e).1))
line_case h d k (TokensSay.line g e f) = ap (λ z. says z) (same_line d e).0

same_verdict : {ts : List Token} {whole : Bool} {a b : Verdict} → TokensSay ts whole a → TokensSay ts whole b → a ≡ b
same_verdict (TokensSay.deep h) e = deep_case h e
same_verdict (TokensSay.stuck h) e = stuck_case h e
same_verdict TokensSay.none e = none_case e
same_verdict (TokensSay.not_spelled h n s) e = other_case h n s e
same_verdict (TokensSay.groups h d k) e = groups_case h d k e
same_verdict (TokensSay.wide h d k) e = wide_case h d k e
same_verdict (TokensSay.line h d k) e = line_case h d k e

pub one_verdict : OneVerdict
one_verdict ts whole a b d e = same_verdict d e

pub one_saying : OneSaying
one_saying bytes a b p q =
    let same = one_lexing bytes p.0 q.0 p.1 q.1 p.2 q.2 in
    let P : List Token → Type 0 = λ ts. TokensSay ts q.1 b in
    let Q : Bool → Type 0 = λ w. TokensSay p.0 w b in
    same_verdict p.3 (subst Q (sym same.1) (subst P (sym same.0) q.3))

-- ---- what the reader of a line claims

pub says_of : (r : Result (Option Line) SyntaxRefusal) (ts : List Token) (whole : Bool) (n : ℕ) → IsVerdict ts whole n r → IfOk r (λ x. TokensSay ts whole (said x))
says_of (Ok x) ts whole n d = d
says_of (Err e) ts whole n d = tt

pub refuses_of : (r : Result (Option Line) SyntaxRefusal) (ts : List Token) (whole : Bool) (n : ℕ) → IsVerdict ts whole n r →
    IfErr r (λ e. e ≢ refusal.NoMemory → IsRefusal ts whole n e)
refuses_of (Ok x) ts whole n d = tt
refuses_of (Err refusal.NoMemory) ts whole n d = λ other. absurd (other refl)
refuses_of (Err (refusal.NotUtf8 k)) ts whole n d = λ other. d
refuses_of (Err (refusal.NotALine k)) ts whole n d = λ other. d
refuses_of (Err (refusal.BadNesting k)) ts whole n d = λ other. d
refuses_of (Err (refusal.TooDeep k)) ts whole n d = λ other. d
refuses_of (Err (refusal.NumberTooWide k)) ts whole n d = λ other. d

refusal_verdict : (r : SyntaxRefusal) (ts : List Token) (whole : Bool) (n : ℕ) → IsRefusal ts whole n r → IsVerdict ts whole n (Err r)
refusal_verdict refusal.NoMemory ts whole n d = tt
refusal_verdict (refusal.NotUtf8 k) ts whole n d = d
refusal_verdict (refusal.NotALine k) ts whole n d = d
refusal_verdict (refusal.BadNesting k) ts whole n d = d
refusal_verdict (refusal.TooDeep k) ts whole n d = d
refusal_verdict (refusal.NumberTooWide k) ts whole n d = d

pub settled : (o : Option SyntaxRefusal) (x : Line) (u : Bool) (ts : List Token) (n : ℕ) (r : Result (Option Line) SyntaxRefusal) → r ≡ unless o (Some x) → IsOwnRefusal n x u o →
    is_too_deep ts ≡ false → SpellsLine x u ts → IsVerdict ts true n r
settled None x u ts n r same f h d = let P : Result (Option Line) SyntaxRefusal → Type 0 = λ s. IsVerdict ts true n s in subst P (sym same) (f ts h d)
settled (Some e) x u ts n r same f h d = let P : Result (Option Line) SyntaxRefusal → Type 0 = λ s. IsVerdict ts true n s in subst P (sym same) (refusal_verdict e ts true n (f ts h d))

pub not_read : (e : ReadError) (ts : List Token) (n : ℕ) (r : SyntaxRefusal) → r ≡ refusal_of e n → is_too_deep ts ≡ false → ts ≢ [] → Gives (Tells (LineOf ts)) itself (Err e) →
    IsVerdict ts true n (Err r)
not_read NoMemory ts n r same h more none = let P : SyntaxRefusal → Type 0 = λ s. IsVerdict ts true n (Err s) in subst P (sym same) tt
not_read NotSpelled ts n r same h more none =
    let P : SyntaxRefusal → Type 0 = λ s. IsVerdict ts true n (Err s) in
    subst P (sym same) (not_a_line, TokensSay.not_spelled h more (λ x w d. none (x, w) d), refl)

pub too_wide_line : (ts : List Token) (x : Line) (u : Bool) (n : ℕ) → u ≡ true → line_groups x ≤ most_groups → is_too_deep ts ≡ false → SpellsLine x u ts → IsRefusal ts true n (refusal.NumberTooWide n)
too_wide_line ts x u n is k h d = let P : Bool → Type 0 = λ w. SpellsLine x w ts in (too_wide, TokensSay.wide h (subst P is d) k, refl)

pub fine_line : (ts : List Token) (x : Line) (u : Bool) → u ≡ false → line_groups x ≤ most_groups → is_too_deep ts ≡ false → SpellsLine x u ts → TokensSay ts true (says x)
fine_line ts x u is k h d = let P : Bool → Type 0 = λ w. SpellsLine x w ts in TokensSay.line h (subst P is d) k
