-- From one level to a looser one.
use Rattle.std.proofs.Common.{◌≡◌, ℕ, zero, suc, ◌+◌, ◌-◌, ◌≤◌, ◌<◌, Bool, true, false, ◌||◌, List, [], ◌∷◌, ◌++◌, length, Option, Some, None, refl, ap, sym, ◌∙◌, subst, arith}
use Rattle.loop_tokens.specs.declared.token.Token.{Token}
use Rattle.loop_tokens.specs.declared.token.Token.TheVariants as tok
use Rattle.loop_tokens.specs.declared.keyword.Keyword.{Keyword}
use Rattle.loop_tokens.specs.declared.keyword.Keyword.TheVariants as kw
use Rattle.loop_tokens.specs.declared.sign.Sign.{Sign}
use Rattle.loop_tokens.specs.declared.sign.Sign.TheVariants as sg
use Rattle.loop_data.specs.declared.expr.Op.{Op}
use Rattle.loop_data.specs.declared.expr.Op.TheVariants as op
use Rattle.loop_data.specs.declared.expr.Expr.{Expr}
use Rattle.loop_data.specs.declared.expr.Expr.TheVariants as e
use Rattle.loop_exprs.specs.declared.level.Level.{Level}
use Rattle.loop_exprs.specs.declared.level.Level.TheVariants as level
use Rattle.loop_exprs.specs.Operations.{tighter, operation_of, sign_operation, keyword_operation, level_of}
use Rattle.loop_exprs.specs.Grammar.{NotFirst, IsOperation}
use Rattle.loop_exprs.specs.Reading.{rank, looser, NotOpened, Outcome, Read, Reads, GoesOn, ReadsParts, ReadsAll}
use Rattle.loop_exprs.proofs.Sound.{sound}
use Rattle.loop_exprs.proofs.Follow.{Starts, starts}

-- ---- ranks

abbrev level_at : ℕ → Level
level_at zero = level.Atom
level_at (suc zero) = level.Negate
level_at (suc (suc zero)) = level.Multiply
level_at (suc (suc (suc zero))) = level.Add
level_at (suc (suc (suc (suc zero)))) = level.Join
level_at (suc (suc (suc (suc (suc zero))))) = level.Compare
level_at (suc (suc (suc (suc (suc (suc zero)))))) = level.Not
level_at (suc (suc (suc (suc (suc (suc (suc zero))))))) = level.And
level_at (suc (suc (suc (suc (suc (suc (suc (suc zero)))))))) = level.Or
level_at _ = level.Expr

at_rank : (l : Level) → level_at (rank l) ≡ l
at_rank level.Expr = refl
at_rank _ = refl

one_level : (l m : Level) → rank l ≡ rank m → l ≡ m
one_level l m same = sym (at_rank l) ∙ ap level_at same ∙ at_rank m

pub rank_bound : (l : Level) → rank l ≤ 9
rank_bound level.Expr = omega arith
rank_bound _ = omega arith

-- a level below another one has a looser one, up to that
pub next_rank : (l : Level) → rank l < 9 → rank (looser l) ≡ suc (rank l)
next_rank level.Expr h = absurd (omega arith)
next_rank _ h = refl

pub back : (l : Level) → rank l < 9 → tighter (looser l) ≡ l
back level.Expr h = absurd (omega arith)
back _ h = refl

-- ---- what begins with no form of a looser level

no_if : (l : Level) (ts : List Token) → rank l < 9 → Starts l ts → NotFirst (tok.Keyword kw.If) ts
no_if level.Expr ts lt s = absurd (omega arith)
no_if _ ts lt s = s.1

no_not : (l : Level) (ts : List Token) → rank l < 6 → Starts l ts → NotFirst (tok.Keyword kw.Not) ts
no_not level.Expr ts lt s = absurd (omega arith)
no_not level.Or ts lt s = absurd (omega arith)
no_not level.And ts lt s = absurd (omega arith)
no_not level.Not ts lt s = absurd (omega arith)
no_not _ ts lt s = s.2

no_minus : (l : Level) (ts : List Token) → rank l < 1 → Starts l ts → NotFirst (tok.Sign sg.Minus) ts
no_minus level.Atom ts lt s = s.3
no_minus _ ts lt s = absurd (omega arith)

starts_clear : (l k : Level) (ts : List Token) → rank l < rank k → Starts l ts → NotOpened k ts
starts_clear l level.Expr ts lt s = no_if l ts lt s
starts_clear l level.Not ts lt s = no_not l ts lt s
starts_clear l level.Negate ts lt s = no_minus l ts lt s
starts_clear l _ ts lt s = tt

-- no form of a level above l and up to m begins there
abbrev pub Clear : Level → Level → List Token → Type 0
Clear l m ts = (k : Level) → rank l < rank k → rank k ≤ rank m → NotOpened k ts

-- the same from what was looked at
pub clear : (l m : Level) (ts : List Token) → (rank l < 9 → rank level.Expr ≤ rank m → NotOpened level.Expr ts) → (rank l < 6 → rank level.Not ≤ rank m → NotOpened level.Not ts) →
    (rank l < 1 → rank level.Negate ≤ rank m → NotOpened level.Negate ts) → Clear l m ts
clear l m ts f g h level.Expr lt le = f lt le
clear l m ts f g h level.Not lt le = g lt le
clear l m ts f g h level.Negate lt le = h lt le
clear l m ts f g h _ lt le = tt

-- ---- where a tighter level isn't spelled, a looser one isn't

up_none : (l : Level) {ts : List Token} → NotOpened (looser l) ts → Reads l ts None → Reads (looser l) ts None
up_none level.Atom h d = Reads.negate_else h d
up_none level.Negate h d = Reads.left_none refl d
up_none level.Multiply h d = Reads.left_none refl d
up_none level.Add h d = Reads.left_none refl d
up_none level.Join h d = Reads.compare_none d
up_none level.Compare h d = Reads.not_else h d
up_none level.Not h d = Reads.left_none refl d
up_none level.And h d = Reads.left_none refl d
up_none level.Or h d = Reads.no_choice h d
up_none level.Expr h d = d

fails_by : (n : ℕ) (l m : Level) (ts : List Token) → rank m ≡ n + rank l → Clear l m ts → Reads l ts None → Reads m ts None
fails_by zero l m ts same free d = let one : rank l ≡ rank m = omega arith in subst (λ (k : Level). Reads k ts None) (one_level l m one) d
fails_by (suc n) l m ts same free d =
    let bound : rank m ≤ 9 = rank_bound m in
    let low : rank l < 9 = omega arith in
    let up : rank (looser l) ≡ suc (rank l) = next_rank l low in
    let here : NotOpened (looser l) ts = free (looser l) (omega arith) (omega arith) in
    fails_by n (looser l) m ts (omega arith) (λ k lt le. free k (omega arith) le) (up_none l here d)

pub fails : (l m : Level) (ts : List Token) → rank l ≤ rank m → Clear l m ts → Reads l ts None → Reads m ts None
fails l m ts le free d = fails_by (rank m - rank l) l m ts (omega arith) free d

-- the same behind an expression that was read at the next tighter level
pub fails_onward : (l m : Level) (ts : List Token) {x : Expr} {u : Bool} {rest : List Token} → rank l < rank m → Reads l ts (Some (x, u, rest)) → Reads (looser l) ts None → Reads m ts None
fails_onward l m ts lt d f =
    let bound : rank m ≤ 9 = rank_bound m in
    let low : rank l < 9 = omega arith in
    let up : rank (looser l) ≡ suc (rank l) = next_rank l low in
    fails (looser l) m ts (omega arith) (λ k above le. starts_clear l k ts (omega arith) (starts (sound d))) f

-- the next looser level of a level below another one
pub under : (l m up : Level) → rank l < rank m → up ≡ looser l → rank up ≤ rank m
under l m up lt same =
    let bound : rank m ≤ 9 = rank_bound m in
    let next : rank (looser l) ≡ suc (rank l) = next_rank l (omega arith) in
    let there : rank up ≡ rank (looser l) = ap rank same in
    omega arith

pub nearer : (l m up : Level) → rank l < rank m → up ≡ looser l → 9 - rank up < 9 - rank l
nearer l m up lt same =
    let bound : rank m ≤ 9 = rank_bound m in
    let next : rank (looser l) ≡ suc (rank l) = next_rank l (omega arith) in
    let there : rank up ≡ rank (looser l) = ap rank same in
    omega arith

pub from_below : (l m up : Level) (ts : List Token) (o : Outcome) → rank l < rank m → up ≡ looser l → Reads l ts o → Reads (tighter up) ts o
from_below l m up ts o lt same d =
    let bound : rank m ≤ 9 = rank_bound m in
    let low : rank l < 9 = omega arith in
    subst (λ (k : Level). Reads k ts o) (sym (ap tighter same ∙ back l low)) d

pub fails_above : (l m up : Level) (ts : List Token) {x : Expr} {u : Bool} {rest : List Token} → rank l < rank m → up ≡ looser l → Reads l ts (Some (x, u, rest)) →
    Reads up ts None → Reads m ts None
fails_above l m up ts lt same d f = fails_onward l m ts lt d (subst (λ (k : Level). Reads k ts None) same f)

pub come : (l m : Level) (ts : List Token) (o : Outcome) → rank l ≤ rank m → rank m ≤ rank l → Reads l ts o → Reads m ts o
come l m ts o le ge d = let one : rank l ≡ rank m = omega arith in subst (λ (k : Level). Reads k ts o) (one_level l m one) d

-- ---- what stands first, and fails

pub not_fails : (m : Level) (ts rest : List Token) → rank level.Not ≤ rank m → (rank level.Expr ≤ rank m → NotOpened level.Expr ts) → ts ≡ tok.Keyword kw.Not ∷ rest → Reads level.Not rest None →
    Reads m ts None
not_fails m ts rest le f same d =
    let here : Reads level.Not ts None = subst (λ (us : List Token). Reads level.Not us None) (sym same) (Reads.not_none d) in
    fails level.Not m ts le (clear level.Not m ts (λ lt. f) (λ lt up. absurd (omega arith)) (λ lt up. absurd (omega arith))) here

pub sign_fails : (m : Level) (ts rest : List Token) → rank level.Negate ≤ rank m → (rank level.Expr ≤ rank m → NotOpened level.Expr ts) → (rank level.Not ≤ rank m → NotOpened level.Not ts) →
    ts ≡ tok.Sign sg.Minus ∷ rest → Reads level.Negate (tok.Sign sg.Minus ∷ rest) None → Reads m ts None
sign_fails m ts rest le f g same d =
    let here : Reads level.Negate ts None = subst (λ (us : List Token). Reads level.Negate us None) (sym same) d in
    fails level.Negate m ts le (clear level.Negate m ts (λ lt. f) (λ lt. g) (λ lt up. absurd (omega arith))) here

pub atom_fails : (m : Level) (ts : List Token) → (rank level.Expr ≤ rank m → NotOpened level.Expr ts) → (rank level.Not ≤ rank m → NotOpened level.Not ts) →
    (rank level.Negate ≤ rank m → NotOpened level.Negate ts) → Reads level.Atom ts None → Reads m ts None
atom_fails m ts f g h d = fails level.Atom m ts (omega arith) (clear level.Atom m ts (λ lt. f) (λ lt. g) (λ lt. h)) d

pub not_read : (ts rest : List Token) (y x : Expr) (u : Bool) (us : List Token) → ts ≡ tok.Keyword kw.Not ∷ rest → y ≡ e.Not x → Reads level.Not rest (Some (x, u, us)) →
    Reads level.Not ts (Some (y, u, us))
not_read ts rest y x u us same made d =
    let here : Reads level.Not ts (Some (e.Not x, u, us)) = subst (λ (vs : List Token). Reads level.Not vs (Some (e.Not x, u, us))) (sym same) (Reads.not d) in
    subst (λ (z : Expr). Reads level.Not ts (Some (z, u, us))) (sym made) here

-- ---- operations of one level

abbrev at_level : Option Op → Level → Type 0
at_level None l = ⊥
at_level (Some o) l = level_of o ≡ l

sign_level : (s : Sign) → at_level (sign_operation s) level.Expr → ⊥
sign_level sg.Equal h = cc
sign_level sg.NotEqual h = cc
sign_level sg.Less h = cc
sign_level sg.AtMost h = cc
sign_level sg.Greater h = cc
sign_level sg.AtLeast h = cc
sign_level sg.Join h = cc
sign_level sg.Plus h = cc
sign_level sg.Minus h = cc
sign_level sg.Star h = cc
sign_level _ h = h

word_level : (k : Keyword) → at_level (keyword_operation k) level.Expr → ⊥
word_level kw.Or h = cc
word_level kw.And h = cc
word_level kw.Div h = cc
word_level kw.Rem h = cc
word_level kw.Mod h = cc
word_level _ h = h

token_level : (t : Token) → at_level (operation_of t) level.Expr → ⊥
token_level (tok.Sign s) h = sign_level s h
token_level (tok.Keyword k) h = word_level k h
token_level _ h = h

no_choice_operation : (t : Token) (o : Op) → IsOperation level.Expr t o → ⊥
no_choice_operation t o h = token_level t (subst (λ (f : Option Op). at_level f level.Expr) (sym h.0) h.1)

no_negation : (o : Op) → level_of o ≡ level.Not → ⊥
no_negation op.Or h = cc
no_negation _ h = cc

no_sign : (o : Op) → level_of o ≡ level.Negate → ⊥
no_sign op.Or h = cc
no_sign _ h = cc

no_atom : (o : Op) → level_of o ≡ level.Atom → ⊥
no_atom op.Or h = cc
no_atom _ h = cc

still : {l : Level} {a : Expr} {u : Bool} {ts : List Token} {r : Outcome} → GoesOn l a u ts r → ((t : Token) (o : Op) → IsOperation l t o → ⊥) → r ≡ Some (a, u, ts)
still (GoesOn.ends h) none = refl
still (GoesOn.goes_none {t = t} {o = o} h d) none = absurd (none t o h)
still (GoesOn.goes {t = t} {o = o} h d k) none = absurd (none t o h)

as_read : (l : Level) (ts : List Token) (r p : Outcome) → r ≡ p → Reads l ts p → Reads l ts r
as_read l ts r p same d = subst (Reads l ts) (sym same) d

abbrev pub repeats : Level → Bool
repeats level.Compare = false
repeats _ = true

-- behind an expression of the next tighter level, operations that group to the left are of the level, or there are none
pub onward : (l : Level) (a : Expr) (u : Bool) (ts before : List Token) (r : Outcome) → repeats l ≡ true → Reads (tighter l) before (Some (a, u, ts)) → GoesOn l a u ts r → Reads l before r
onward level.Expr a u ts before r one d k = as_read level.Expr before r _ (still k no_choice_operation) (Reads.no_choice (starts (sound d)).1 d)
onward level.Or a u ts before r one d k = Reads.left refl d k
onward level.And a u ts before r one d k = Reads.left refl d k
onward level.Not a u ts before r one d k = as_read level.Not before r _ (still k (λ t o h. no_negation o h.1)) (Reads.not_else (starts (sound d)).2 d)
onward level.Compare a u ts before r one d k = cc
onward level.Join a u ts before r one d k = Reads.left refl d k
onward level.Add a u ts before r one d k = Reads.left refl d k
onward level.Multiply a u ts before r one d k = Reads.left refl d k
onward level.Negate a u ts before r one d k = as_read level.Negate before r _ (still k (λ t o h. no_sign o h.1)) (Reads.negate_else (starts (sound d)).3 d)
onward level.Atom a u ts before r one d k = as_read level.Atom before r _ (still k (λ t o h. no_atom o h.1)) d

-- ---- parts with commas between them

-- The parts found so far, with rest behind the last of them, begin those that the reader finds from ts on.
pub record After (ts : List Token) (found : List Expr) (u : Bool) (rest : List Token) : Type 0 where
  pub last : NotFirst (tok.Sign sg.Comma) rest → ReadsParts [] false ts (Some (found, u, rest))
  pub more : (us : List Token) (r : Read (List Expr)) → rest ≡ tok.Sign sg.Comma ∷ us → ReadsParts found u us r → ReadsParts [] false ts r

pub first_part : (ts : List Token) (x : Expr) (u : Bool) (rest : List Token) → Reads level.Expr ts (Some (x, u, rest)) → (none all : List Expr) → none ≡ [] → all ≡ none ++ x ∷ [] → After ts all u rest
first_part ts x u rest d none all empty put =
    let one : After ts (x ∷ []) u rest = record { last = λ free. ReadsParts.last d free; more = λ us r same k. ReadsParts.more (rw same at d) k } in
    subst (λ (ys : List Expr). After ts ys u rest) (sym (put ∙ ap (λ (ns : List Expr). ns ++ x ∷ []) empty)) one

pub next_part : (ts : List Token) (found : List Expr) (u : Bool) (rest us : List Token) (x : Expr) (v : Bool) (behind : List Token) → After ts found u rest → rest ≡ tok.Sign sg.Comma ∷ us →
    Reads level.Expr us (Some (x, v, behind)) → (all : List Expr) (w : Bool) → all ≡ found ++ x ∷ [] → w ≡ (u || v) → After ts all w behind
next_part ts found u rest us x v behind after comma d all w put both =
    let one : After ts (found ++ x ∷ []) (u || v) behind =
    record { last = λ free. after.more us _ comma (ReadsParts.last d free); more = λ vs r same k. after.more us r comma (ReadsParts.more (rw same at d) k) } in
    subst (λ (ys : List Expr). After ts ys w behind) (sym put) (subst (λ (q : Bool). After ts (found ++ x ∷ []) q behind) (sym both) one)

pub nothing_more : (ts : List Token) (found : List Expr) (u : Bool) (rest us : List Token) → After ts found u rest → rest ≡ tok.Sign sg.Comma ∷ us → Reads level.Expr us None → ReadsAll ts None
nothing_more ts found u rest us after comma d = ReadsAll.all_none (after.more us None comma (ReadsParts.parts_none d))

pub all_parts : (ts : List Token) (found : List Expr) (u : Bool) (rest us : List Token) → After ts found u rest → NotFirst (tok.Sign sg.Comma) rest → rest ≡ tok.Sign sg.Close ∷ us → ReadsAll ts (Some (found, u, us))
all_parts ts found u rest us after free same = let there = after.last free in ReadsAll.all (rw same at there)

pub not_closed : (ts : List Token) (found : List Expr) (u : Bool) (rest : List Token) → After ts found u rest → NotFirst (tok.Sign sg.Comma) rest → NotFirst (tok.Sign sg.Close) rest → ReadsAll ts None
not_closed ts found u rest after free never = ReadsAll.unclosed (after.last free) never

pub shorter_behind : (ts rest us vs : List Token) → length rest < length ts → rest ≡ tok.Sign sg.Comma ∷ us → length vs < length us → length vs < length ts
shorter_behind ts rest us vs below same less = let long : length rest ≡ suc (length us) = ap length same in omega arith
