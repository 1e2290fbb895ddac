-- What is spelled as a name, as names and as a pattern, taken apart.
use Rattle.std.proofs.Common.{◌≡◌, ℕ, Bool, true, false, List, [], ◌∷◌, ◌++◌, length, Some, refl, ap, sym, ◌∙◌, subst, arith, append_assoc, ◌≤◌, Ok}
use Rattle.loop_tokens.specs.declared.token.Token.{Token}
use Rattle.loop_tokens.specs.declared.token.Token.TheVariants as tok
use Rattle.loop_tokens.specs.declared.keyword.Keyword.{Keyword}
use Rattle.loop_tokens.specs.declared.keyword.Keyword.TheVariants as kw
use Rattle.loop_tokens.specs.declared.sign.Sign.TheVariants as sg
use Rattle.loop_data.specs.declared.value.Value.TheVariants as val
use Rattle.loop_exprs.specs.Grammar.{NotFirst}
use Rattle.loop_grammar.specs.LineForms.{SpellsLiteral, SpellsNames, SpellsPattern}
use Rattle.loop_heads.specs.Tokens.{truth_of}
use Rattle.loop_heads.specs.Claims.{GaveEach, IsSeveral, NotSeveral, NamesBehind, NamesEnd, PatternAt, OnePattern}
use Rattle.loop_heads.proofs.Steps.{pair_is}

pub truth_spelled : (k : Keyword) (b : Bool) (rest : List Token) → Some b ≡ truth_of k → SpellsLiteral (val.Bool b) false (tok.Keyword k ∷ rest) rest
truth_spelled kw.True b rest h = let is : b ≡ true = cc in rw is SpellsLiteral.yes
truth_spelled kw.False b rest h = let is : b ≡ false = cc in rw is SpellsLiteral.no
truth_spelled _ b rest h = cc

-- ---- names

more_name : {n : List ℕ} {ns : List (List ℕ)} {ts end : List Token} → SpellsNames ns (tok.Name n ∷ tok.Sign sg.Comma ∷ ts) end → NotFirst (tok.Sign sg.Comma) end →
    (ms : List (List ℕ)) × (ns ≡ n ∷ ms) × SpellsNames ms ts end
more_name SpellsNames.last h = absurd (h _ refl)
more_name (SpellsNames.more {ns = ms} p) h = (ms, refl, p)

pub more_names : (found : List (List ℕ)) (n : List ℕ) (ts us rest : List Token) → ts ≡ tok.Name n ∷ us → us ≡ tok.Sign sg.Comma ∷ rest →
    (x : List (List ℕ) × List Token) → NamesEnd found ts x → NamesEnd (found ++ n ∷ []) rest x
more_names found n ts us rest is also x g =
    let P : List Token → Type 0 = λ vs. SpellsNames g.behind.names vs x.1 in
    let e = more_name (subst P (is ∙ ap (λ vs. tok.Name n ∷ vs) also) g.behind.spelled) g.ends in
    let joined : x.0 ≡ (found ++ n ∷ []) ++ e.0 = g.behind.joined ∙ ap (λ ns. found ++ ns) e.1 ∙ sym (append_assoc found (n ∷ []) e.0) in
    record { behind = record { names = e.0; joined = joined; spelled = e.2 }; ends = g.ends }

-- names put behind those found before
pub name_behind : (found : List (List ℕ)) (n : List ℕ) (ts us rest end : List Token) (all : List (List ℕ)) → ts ≡ tok.Name n ∷ us → us ≡ tok.Sign sg.Comma ∷ rest →
    NamesBehind (found ++ n ∷ []) rest all end → NamesBehind found ts all end
name_behind found n ts us rest end all is also h =
    let P : List Token → Type 0 = λ vs. SpellsNames (n ∷ h.names) vs end in
    record {
      names = n ∷ h.names;
      joined = h.joined ∙ append_assoc found (n ∷ []) h.names;
      spelled = subst P (sym (is ∙ ap (λ vs. tok.Name n ∷ vs) also)) (SpellsNames.more h.spelled);
    }

one_names : {ns ms : List (List ℕ)} {ts rest also : List Token} → SpellsNames ns ts rest → SpellsNames ms ts also →
    NotFirst (tok.Sign sg.Comma) rest → NotFirst (tok.Sign sg.Comma) also → (ns ≡ ms) × (rest ≡ also)
one_names SpellsNames.last SpellsNames.last h g = (refl, refl)
one_names SpellsNames.last (SpellsNames.more q) h g = absurd (h _ refl)
one_names (SpellsNames.more p) SpellsNames.last h g = absurd (g _ refl)
one_names (SpellsNames.more {n = n} p) (SpellsNames.more q) h g = let e = one_names p q h g in (ap (λ ks. n ∷ ks) e.0, e.1)

-- the last name found
pub name_last : (found : List (List ℕ)) (n : List ℕ) (ts rest : List Token) → ts ≡ tok.Name n ∷ rest → NamesBehind found ts (found ++ n ∷ []) rest
name_last found n ts rest is =
    let P : List Token → Type 0 = λ vs. SpellsNames (n ∷ []) vs rest in
    record { names = n ∷ []; joined = refl; spelled = subst P (sym is) SpellsNames.last }

-- ---- patterns

-- what stands between the parentheses
record Inside (ns : List (List ℕ)) (ts rest : List Token) : Type 0 where
  least : 2 ≤ length ns
  most : length ns ≤ 4
  spelled : SpellsNames ns ts (tok.Sign sg.Close ∷ rest)

inside : {ns : List (List ℕ)} {ts rest : List Token} → SpellsPattern ns (tok.Sign sg.Open ∷ ts) rest → Inside ns ts rest
inside (SpellsPattern.several h i p) = record { least = h; most = i; spelled = p }

from_none : (found : List (List ℕ)) (ns : List (List ℕ)) (ts rest : List Token) → found ≡ [] → SpellsNames ns ts (tok.Sign sg.Close ∷ rest) → NamesEnd found ts (ns, tok.Sign sg.Close ∷ rest)
from_none found ns ts rest none p = record {
  behind = record { names = ns; joined = ap (λ ms. ms ++ ns) (sym none); spelled = p };
  ends = λ us s. cc;
}

-- names between parentheses are names
pub tuple_names : (found : List (List ℕ)) (ts : List Token) → found ≡ [] → (x : List (List ℕ) × List Token) → PatternAt (tok.Sign sg.Open ∷ ts) x →
    (y : List (List ℕ) × List Token) × NamesEnd found ts y
tuple_names found ts none x q = ((x.0, tok.Sign sg.Close ∷ x.1), from_none found x.0 ts x.1 none (inside q).spelled)

-- the names that were read are those of any pattern there
pub record Given (all : List (List ℕ)) (rest : List Token) (x : List (List ℕ) × List Token) : Type 0 where
  pub same : all ≡ x.0
  pub closed : rest ≡ tok.Sign sg.Close ∷ x.1
  pub least : 2 ≤ length x.0
  pub most : length x.0 ≤ 4

pub given : {Y : Type 0} (f : Y → List (List ℕ) × List Token) (y : Y) (found : List (List ℕ)) (ts : List Token) → found ≡ [] →
    GaveEach (NamesEnd found ts) f (Ok y) → (x : List (List ℕ) × List Token) → PatternAt (tok.Sign sg.Open ∷ ts) x → Given (f y).0 (f y).1 x
given f y found ts none h x q =
    let e = h (x.0, tok.Sign sg.Close ∷ x.1) (from_none found x.0 ts x.1 none (inside q).spelled) in
    record { same = ap (λ (p : List (List ℕ) × List Token). p.0) e; closed = ap (λ (p : List (List ℕ) × List Token). p.1) e; least = (inside q).least; most = (inside q).most }

pub not_several : (all : List (List ℕ)) (rest : List Token) (x : List (List ℕ) × List Token) → Given all rest x → NotSeveral all → ⊥
not_several all rest x g h = let e = ap (λ (ns : List (List ℕ)). length ns) g.same in let l = g.least in let m = g.most in h (omega arith) (omega arith)

pub several_is : (all names : List (List ℕ)) (us rest : List Token) (x : List (List ℕ) × List Token) → Given all us x → us ≡ tok.Sign sg.Close ∷ rest → names ≡ all → (names, rest) ≡ x
several_is all names us rest x g is same = let e : ◌≡◌ {A = List Token} (tok.Sign sg.Close ∷ rest) (tok.Sign sg.Close ∷ x.1) = sym is ∙ g.closed in pair_is names rest x (same ∙ g.same) cc

pub tuple_spelled : (found all names : List (List ℕ)) (ts us rest : List Token) → found ≡ [] → NamesBehind found ts all us → us ≡ tok.Sign sg.Close ∷ rest → IsSeveral all names →
    SpellsPattern names (tok.Sign sg.Open ∷ ts) rest
tuple_spelled found all names ts us rest none b is few =
    let same : b.names ≡ names = sym (few.same ∙ b.joined ∙ ap (λ ms. ms ++ b.names) none) in
    let whole : all ≡ names = sym few.same in
    let P : List Token → Type 0 = λ vs. SpellsNames names ts vs in
    let Q : List (List ℕ) → Type 0 = λ ns. SpellsNames ns ts us in
    let l = few.least in let m = few.most in let e = ap (λ (ns : List (List ℕ)). length ns) whole in
    SpellsPattern.several (omega arith) (omega arith) (subst P is (subst Q same b.spelled))

pub one_spelled : (all start : List (List ℕ)) (n m : List ℕ) (ts rest : List Token) → all ≡ start ++ m ∷ [] → start ≡ [] → m ≡ n → ts ≡ tok.Name n ∷ rest → SpellsPattern all ts rest
one_spelled all start n m ts rest is none same first =
    let whole : all ≡ n ∷ [] = is ∙ ap (λ ms. ms ++ m ∷ []) none ∙ ap (λ k. k ∷ []) same in
    let P : List Token → Type 0 = λ vs. SpellsPattern all vs rest in
    let Q : List (List ℕ) → Type 0 = λ ns. SpellsPattern ns (tok.Name n ∷ rest) rest in
    subst P (sym first) (subst Q (sym whole) SpellsPattern.one)

one_pattern_at : {ns ms : List (List ℕ)} {ts rest also : List Token} → SpellsPattern ns ts rest → SpellsPattern ms ts also → (ns ≡ ms) × (rest ≡ also)
one_pattern_at SpellsPattern.one SpellsPattern.one = (refl, refl)
one_pattern_at (SpellsPattern.several h i p) (SpellsPattern.several j k q) =
    let e = one_names p q (λ us s. cc) (λ us s. cc) in
    (e.0, cc)

pub one_pattern : OnePattern
one_pattern ts rest also ns ms p q = one_pattern_at p q
