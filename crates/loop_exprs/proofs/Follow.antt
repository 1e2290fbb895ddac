-- Where an expression of a level ends, and with what it begins.
use Rattle.std.proofs.Common.{◌≡◌, ◌≤◌, ◌<◌, Bool, List, [], ◌∷◌, Option, Some, None, refl, ap, sym, ◌∙◌, arith}
use Rattle.loop_tokens.specs.declared.token.Token.{Token}
use Rattle.loop_tokens.specs.declared.token.Token.TheVariants as tok
use Rattle.loop_tokens.specs.declared.keyword.Keyword.{Keyword}
use Rattle.loop_tokens.specs.declared.keyword.Keyword.TheVariants as kw
use Rattle.loop_tokens.specs.declared.sign.Sign.TheVariants as sg
use Rattle.loop_data.specs.declared.expr.Op.{Op}
use Rattle.loop_data.specs.declared.expr.Op.TheVariants as op
use Rattle.loop_data.specs.declared.expr.Expr.{Expr}
use Rattle.loop_exprs.specs.declared.level.Level.{Level}
use Rattle.loop_exprs.specs.declared.level.Level.TheVariants as level
use Rattle.loop_exprs.specs.Operations.{tighter, operation_of, level_of, constant_of, word_of, extreme_of}
use Rattle.loop_exprs.specs.Grammar.{Spells, NotFirst, IsOperation}
use Rattle.loop_exprs.specs.Reading.{rank, Ends}

-- no operation of the level or of a tighter one comes first
abbrev pub Stops : Level → List Token → Type 0
Stops l ts = (m : Level) → rank m ≤ rank l → Ends m ts

-- the level whose operations may not come behind an expression of the level l in the middle of one
abbrev pub behind : Level → Level
behind level.Or = level.And
behind level.And = level.Not
behind level.Join = level.Add
behind level.Add = level.Multiply
behind level.Multiply = level.Negate
behind l = l

op_rank : (o : Op) → rank (tighter (level_of o)) < rank (level_of o)
op_rank op.Or = omega arith
op_rank _ = omega arith

pub behind_rank : (l : Level) → rank (behind l) ≤ rank l
behind_rank level.Or = omega arith
behind_rank _ = omega arith

pub Stops-mono : (l m : Level) (ts : List Token) → rank m ≤ rank l → Stops l ts → Stops m ts
Stops-mono l m ts le s k h = s k (omega arith)

same_op : (o o' : Op) (found : Option Op) → found ≡ Some o → found ≡ Some o' → o ≡ o'
same_op o o' found h g = let both : ◌≡◌ {A = Option Op} (Some o) (Some o') = sym h ∙ g in cc

pub one_operation : (l m : Level) (t : Token) (o o' : Op) → IsOperation l t o → IsOperation m t o' → (o ≡ o') × (l ≡ m)
one_operation l m t o o' h g =
    let same = same_op o o' (operation_of t) h.0 g.0 in
    (same, sym h.1 ∙ ap level_of same ∙ g.1)

-- an operation of a level ends what is tighter
pub Stops-operator : (l : Level) (t : Token) (us : List Token) (o : Op) → IsOperation l t o → Stops (tighter l) (t ∷ us)
Stops-operator l t us o h m le o' g =
    let both = one_operation l m t o o' h g in
    let below = op_rank o in
    let at : rank (level_of o) ≡ rank l = ap rank h.1 in
    let under : rank (tighter (level_of o)) ≡ rank (tighter l) = ap (λ k. rank (tighter k)) h.1 in
    let there : rank l ≡ rank m = ap rank both.1 in
    absurd (omega arith)

-- a token that is no operation of any level
pub Stops-separator : (l : Level) (t : Token) (us : List Token) → operation_of t ≡ None → Stops l (t ∷ us)
Stops-separator l t us none m le o h = absurd (let no : ◌≡◌ {A = Option Op} None (Some o) = sym none ∙ h.0 in cc)

pub Stops-empty : (l : Level) → Stops l []
Stops-empty l m le = tt

-- what an expression of a level doesn't begin with
abbrev pub Starts : Level → List Token → Type 0
Starts level.Expr ts = NotFirst (tok.Keyword kw.Nothing) ts
Starts level.Or ts = NotFirst (tok.Keyword kw.Nothing) ts × NotFirst (tok.Keyword kw.If) ts
Starts level.And ts = NotFirst (tok.Keyword kw.Nothing) ts × NotFirst (tok.Keyword kw.If) ts
Starts level.Not ts = NotFirst (tok.Keyword kw.Nothing) ts × NotFirst (tok.Keyword kw.If) ts
Starts level.Atom ts = NotFirst (tok.Keyword kw.Nothing) ts × NotFirst (tok.Keyword kw.If) ts × NotFirst (tok.Keyword kw.Not) ts × NotFirst (tok.Sign sg.Minus) ts
Starts _ ts = NotFirst (tok.Keyword kw.Nothing) ts × NotFirst (tok.Keyword kw.If) ts × NotFirst (tok.Keyword kw.Not) ts

starts_tight : (l : Level) (ts : List Token) → Starts (tighter l) ts → Starts l ts
starts_tight level.Expr ts h = h.0
starts_tight level.Or ts h = h
starts_tight level.And ts h = h
starts_tight level.Not ts h = (h.0, h.1)
starts_tight level.Negate ts h = (h.0, h.1, h.2)
starts_tight _ ts h = h

heads : {u v : Token} {ts us : List Token} → u ∷ ts ≡ v ∷ us → u ≡ v
heads h = cc

pub other : (u v : Token) (ts : List Token) → (u ≡ v → ⊥) → NotFirst u (v ∷ ts)
other u v ts differ us same = differ (sym (heads same))

atom_starts : (v : Token) (ts : List Token) → (tok.Keyword kw.Nothing ≡ v → ⊥) → (tok.Keyword kw.If ≡ v → ⊥) → (tok.Keyword kw.Not ≡ v → ⊥) → (tok.Sign sg.Minus ≡ v → ⊥) → Starts level.Atom (v ∷ ts)
atom_starts v ts a b c d = (other (tok.Keyword kw.Nothing) v ts a, other (tok.Keyword kw.If) v ts b, other (tok.Keyword kw.Not) v ts c, other (tok.Sign sg.Minus) v ts d)

words_same : {a b : Keyword} → tok.Keyword a ≡ tok.Keyword b → a ≡ b
words_same h = cc

-- a word at which f is something
word_starts : {X : Type 0} (f : Keyword → Option X) (w : Keyword) (x : X) (ts : List Token) → f kw.Nothing ≡ None → f kw.If ≡ None → f kw.Not ≡ None → f w ≡ Some x → Starts level.Atom (tok.Keyword w ∷ ts)
word_starts {X = X} f w x ts a b c h =
    let no : (v : Keyword) → f v ≡ None → tok.Keyword v ≡ tok.Keyword w → ⊥ = λ v none same. (let both : ◌≡◌ {A = Option X} None (Some x) = sym none ∙ ap f (words_same same) ∙ h in cc) in
    atom_starts (tok.Keyword w) ts (no kw.Nothing a) (no kw.If b) (no kw.Not c) (λ q. cc)

pub starts : {l : Level} {x : Expr} {u : Bool} {ts rest : List Token} → Spells l x u ts rest → Starts l ts
starts (Spells.tight {l = l} {ts = ts} d) = starts_tight l ts (starts d)
starts (Spells.two g o d f) = starts d
starts (Spells.compare o d f) = starts d
starts (Spells.not {ts = ts} d) = (other (tok.Keyword kw.Nothing) (tok.Keyword kw.Not) ts (λ q. cc), other (tok.Keyword kw.If) (tok.Keyword kw.Not) ts (λ q. cc))
starts (Spells.negative {n = n} {rest = ts}) = (other (tok.Keyword kw.Nothing) (tok.Sign sg.Minus) _ (λ q. cc), other (tok.Keyword kw.If) (tok.Sign sg.Minus) _ (λ q. cc), other (tok.Keyword kw.Not) (tok.Sign sg.Minus) _ (λ q. cc))
starts (Spells.negate h d) = (other (tok.Keyword kw.Nothing) (tok.Sign sg.Minus) _ (λ q. cc), other (tok.Keyword kw.If) (tok.Sign sg.Minus) _ (λ q. cc), other (tok.Keyword kw.Not) (tok.Sign sg.Minus) _ (λ q. cc))
starts (Spells.number {n = n} {rest = ts}) = atom_starts (tok.Number n) ts (λ q. cc) (λ q. cc) (λ q. cc) (λ q. cc)
starts (Spells.text {raw = raw} {rest = ts}) = atom_starts (tok.Text raw) ts (λ q. cc) (λ q. cc) (λ q. cc) (λ q. cc)
starts (Spells.name {n = n} {rest = ts}) = atom_starts (tok.Name n) ts (λ q. cc) (λ q. cc) (λ q. cc) (λ q. cc)
starts (Spells.constant {k = w} {x = x} {rest = ts} h) = word_starts constant_of w x ts refl refl refl h
starts (Spells.call {k = w} {w = f} {ts = ts} h d) = word_starts word_of w f (tok.Sign sg.Open ∷ ts) refl refl refl h
starts (Spells.extreme {k = w} {o = o} {ts = ts} h d f) = word_starts extreme_of w o (tok.Sign sg.Open ∷ ts) refl refl refl h
starts (Spells.choice {ts = ts} d f g) = other (tok.Keyword kw.Nothing) (tok.Keyword kw.If) ts (λ q. cc)
starts (Spells.choice_some {ts = ts} d f) = other (tok.Keyword kw.Nothing) (tok.Keyword kw.If) ts (λ q. cc)
starts (Spells.group {ts = ts} d) = atom_starts (tok.Sign sg.Open) ts (λ q. cc) (λ q. cc) (λ q. cc) (λ q. cc)
starts (Spells.tuple {ts = ts} h i p) = atom_starts (tok.Sign sg.Open) ts (λ q. cc) (λ q. cc) (λ q. cc) (λ q. cc)
