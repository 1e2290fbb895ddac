-- What the reader of expressions does, step by step. Apart from the grammar, and tied to it in proofs/.
-- Source: this project.
use Rattle.std.specs.Prelude.{◌≡◌, Bool, true, false, ◌||◌, ℕ, nat_le, ◌≤◌, List, [], ◌∷◌, ◌++◌, length, Option, Some, None}
use Rattle.std.specs.Prelude.{Result, Ok, Err, if◌then◌else◌}
use Rattle.loop_tokens.specs.declared.token.Token.{Token}
use Rattle.loop_tokens.specs.declared.token.Token.TheVariants as tok
use Rattle.loop_tokens.specs.declared.keyword.Keyword.{Keyword}
use Rattle.loop_tokens.specs.declared.keyword.Keyword.TheVariants as kw
use Rattle.loop_tokens.specs.declared.sign.Sign.TheVariants as sg
use Rattle.loop_tokens.specs.Literals.{number_of, text_of}
use Rattle.loop_data.specs.declared.expr.Op.{Op}
use Rattle.loop_data.specs.declared.expr.Word.{Word}
use Rattle.loop_data.specs.declared.expr.Expr.{Expr}
use Rattle.loop_data.specs.declared.expr.Expr.TheVariants as e
use Rattle.loop_data.specs.declared.value.Value.TheVariants as val
use Rattle.loop_exprs.specs.declared.level.Level.{Level}
use Rattle.loop_exprs.specs.declared.level.Level.TheVariants as level
use Rattle.loop_exprs.specs.declared.read.ReadError.{ReadError}
use Rattle.loop_exprs.specs.declared.read.ReadError.TheVariants.{NoMemory, NotSpelled}
use Rattle.loop_exprs.specs.Operations.{tighter, groups_left, word_of, extreme_of, constant_of, is_wide, positive_value}
use Rattle.loop_exprs.specs.Operations.{is_wide_negative, negative_value}
use Rattle.loop_exprs.specs.Grammar.{NotFirst, NoNumberFirst, IsOperation}

-- something read, whether some number was too wide, and the tokens behind it, or nothing
abbrev pub Read : Type 0 → Type 0
Read X = Option (X × Bool × List Token)

abbrev pub Outcome : Type 0
Outcome = Read Expr

-- Unless memory ran out, P holds of what was returned, seen by view.
abbrev pub Gives : {X Y : Type 0} → (Option X → Type 0) → (Y → X) → Result Y ReadError → Type 0
Gives P view (Ok y) = P (Some (view y))
Gives P view (Err NotSpelled) = P None
Gives P view (Err NoMemory) = Unit {0}

abbrev pub rank : Level → ℕ
rank level.Expr = 9
rank level.Or = 8
rank level.And = 7
rank level.Not = 6
rank level.Compare = 5
rank level.Join = 4
rank level.Add = 3
rank level.Multiply = 2
rank level.Negate = 1
rank level.Atom = 0

-- the next level that holds together less tightly
abbrev pub looser : Level → Level
looser level.Atom = level.Negate
looser level.Negate = level.Multiply
looser level.Multiply = level.Add
looser level.Add = level.Join
looser level.Join = level.Compare
looser level.Compare = level.Not
looser level.Not = level.And
looser level.And = level.Or
looser level.Or = level.Expr
looser level.Expr = level.Expr

-- the token comes first that begins a form of the level, and rest behind it
abbrev pub Opens : Level → List Token → List Token → Type 0
Opens level.Expr ts rest = ts ≡ tok.Keyword kw.If ∷ rest
Opens level.Not ts rest = ts ≡ tok.Keyword kw.Not ∷ rest
Opens level.Negate ts rest = ts ≡ tok.Sign sg.Minus ∷ rest
Opens _ ts rest = ⊥

-- no form of the level begins there
abbrev pub NotOpened : Level → List Token → Type 0
NotOpened level.Expr ts = NotFirst (tok.Keyword kw.If) ts
NotOpened level.Not ts = NotFirst (tok.Keyword kw.Not) ts
NotOpened level.Negate ts = NotFirst (tok.Sign sg.Minus) ts
NotOpened _ ts = Unit {0}

-- an atom may begin with the token
abbrev pub begins_atom : Token → Bool
begins_atom (tok.Number n) = true
begins_atom (tok.Name n) = true
begins_atom (tok.Text raw) = true
begins_atom (tok.Keyword k) = true
begins_atom (tok.Sign sg.Open) = true
begins_atom _ = false

-- no operation of the level goes on there
abbrev pub Ends : Level → List Token → Type 0
Ends l [] = Unit {0}
Ends l (t ∷ ts) = (o : Op) → IsOperation l t o → ⊥

-- the operation o of the level comes first, and rest behind it
abbrev pub Begins : Level → List Token → Op → List Token → Type 0
Begins l ts o rest = (t : Token) × (ts ≡ t ∷ rest) × IsOperation l t o

-- what the parts between parentheses make: one stands for itself, two to four are a tuple
abbrev pub closed : List Expr → Option Expr
closed [] = None
closed (x ∷ []) = Some x
closed (x ∷ y ∷ xs) = if nat_le (length xs) 2 then Some (e.Tuple (x ∷ y ∷ xs)) else None

abbrev pub called : Option Word → Option Expr → Option Expr
called (Some w) (Some x) = Some (e.Call w x)
called _ _ = None

abbrev pub paired : Option Op → Option Expr → Option Expr → Option Expr
paired (Some o) (Some x) (Some y) = Some (e.Two o x y)
paired _ _ _ = None

-- what a word makes of the parts between its parentheses
abbrev pub applied : Keyword → List Expr → Option Expr
applied k [] = None
applied k (x ∷ []) = called (word_of k) (Some x)
applied k (x ∷ y ∷ []) = paired (extreme_of k) (Some x) (Some y)
applied k (x ∷ y ∷ z ∷ xs) = None

-- an expression that may be there, with what was read beside it
abbrev pub beside : Bool → List Token → Option Expr → Outcome
beside u rest None = None
beside u rest (Some x) = Some (x, u, rest)

mutual
  pub data Reads : Level → List Token → Outcome → Type 0 where
    left_none : {l : Level} {ts : List Token} → groups_left l ≡ true → Reads (tighter l) ts None → Reads l ts None
    left : {l : Level} {ts us : List Token} {a : Expr} {u : Bool} {r : Outcome} → groups_left l ≡ true →
        Reads (tighter l) ts (Some (a, u, us)) → GoesOn l a u us r → Reads l ts r
    not_none : {ts : List Token} → Reads level.Not ts None → Reads level.Not (tok.Keyword kw.Not ∷ ts) None
    not : {ts rest : List Token} {x : Expr} {u : Bool} →
        Reads level.Not ts (Some (x, u, rest)) → Reads level.Not (tok.Keyword kw.Not ∷ ts) (Some (e.Not x, u, rest))
    not_else : {ts : List Token} {r : Outcome} →
        NotFirst (tok.Keyword kw.Not) ts → Reads level.Compare ts r → Reads level.Not ts r
    compare_none : {ts : List Token} → Reads level.Join ts None → Reads level.Compare ts None
    compare_one : {ts us : List Token} {a : Expr} {u : Bool} →
        Reads level.Join ts (Some (a, u, us)) → Ends level.Compare us → Reads level.Compare ts (Some (a, u, us))
    compare_half : {t : Token} {o : Op} {ts us : List Token} {a : Expr} {u : Bool} → IsOperation level.Compare t o →
        Reads level.Join ts (Some (a, u, t ∷ us)) → Reads level.Join us None → Reads level.Compare ts None
    compare : {t : Token} {o : Op} {ts us rest : List Token} {a b : Expr} {u v : Bool} →
        IsOperation level.Compare t o → Reads level.Join ts (Some (a, u, t ∷ us)) → Reads level.Join us (Some (b, v, rest)) →
        Reads level.Compare ts (Some (e.Two o a b, u || v, rest))
    negative : {n : List ℕ} {rest : List Token} →
        Reads level.Negate (tok.Sign sg.Minus ∷ tok.Number n ∷ rest)
        (Some (e.Lit (val.Int (negative_value (number_of n))), is_wide_negative (number_of n), rest))
    negate_none : {ts : List Token} →
        NoNumberFirst ts → Reads level.Negate ts None → Reads level.Negate (tok.Sign sg.Minus ∷ ts) None
    negate : {ts rest : List Token} {x : Expr} {u : Bool} → NoNumberFirst ts → Reads level.Negate ts (Some (x, u, rest)) →
        Reads level.Negate (tok.Sign sg.Minus ∷ ts) (Some (e.Neg x, u, rest))
    negate_else : {ts : List Token} {r : Outcome} →
        NotFirst (tok.Sign sg.Minus) ts → Reads level.Atom ts r → Reads level.Negate ts r
    number : {n : List ℕ} {rest : List Token} →
        Reads level.Atom (tok.Number n ∷ rest)
        (Some (e.Lit (val.Int (positive_value (number_of n))), is_wide (number_of n), rest))
    text : {raw : List ℕ} {rest : List Token} →
        Reads level.Atom (tok.Text raw ∷ rest) (Some (e.Lit (val.Text (text_of raw)), false, rest))
    name : {n : List ℕ} {rest : List Token} → Reads level.Atom (tok.Name n ∷ rest) (Some (e.Name n, false, rest))
    constant : {k : Keyword} {x : Expr} {rest : List Token} →
        constant_of k ≡ Some x → Reads level.Atom (tok.Keyword k ∷ rest) (Some (x, false, rest))
    group_none : {ts : List Token} → ReadsAll ts None → Reads level.Atom (tok.Sign sg.Open ∷ ts) None
    group : {ts us : List Token} {xs : List Expr} {u : Bool} {r : Outcome} →
        ReadsAll ts (Some (xs, u, us)) → r ≡ beside u us (closed xs) → Reads level.Atom (tok.Sign sg.Open ∷ ts) r
    call_alone : {k : Keyword} {ts : List Token} →
        constant_of k ≡ None → NotFirst (tok.Sign sg.Open) ts → Reads level.Atom (tok.Keyword k ∷ ts) None
    call_none : {k : Keyword} {ts : List Token} →
        constant_of k ≡ None → ReadsAll ts None → Reads level.Atom (tok.Keyword k ∷ tok.Sign sg.Open ∷ ts) None
    call : {k : Keyword} {ts us : List Token} {xs : List Expr} {u : Bool} {r : Outcome} →
        constant_of k ≡ None → ReadsAll ts (Some (xs, u, us)) → r ≡ beside u us (applied k xs) →
        Reads level.Atom (tok.Keyword k ∷ tok.Sign sg.Open ∷ ts) r
    no_token : Reads level.Atom [] None
    no_atom : {t : Token} {ts : List Token} → begins_atom t ≡ false → Reads level.Atom (t ∷ ts) None
    choice_none : {ts : List Token} → Reads level.Expr ts None → Reads level.Expr (tok.Keyword kw.If ∷ ts) None
    no_then : {c : Expr} {u : Bool} {ts us : List Token} →
        Reads level.Expr ts (Some (c, u, us)) → NotFirst (tok.Keyword kw.Then) us → Reads level.Expr (tok.Keyword kw.If ∷ ts) None
    value_none : {c : Expr} {u : Bool} {ts us : List Token} →
        Reads level.Expr ts (Some (c, u, tok.Keyword kw.Then ∷ us)) → Reads level.Expr us None →
        Reads level.Expr (tok.Keyword kw.If ∷ ts) None
    no_else : {c a : Expr} {u v : Bool} {ts us vs : List Token} →
        Reads level.Expr ts (Some (c, u, tok.Keyword kw.Then ∷ us)) → Reads level.Expr us (Some (a, v, vs)) →
        NotFirst (tok.Keyword kw.Else) vs → Reads level.Expr (tok.Keyword kw.If ∷ ts) None
    choice_some : {c a : Expr} {u v : Bool} {ts us rest : List Token} →
        Reads level.Expr ts (Some (c, u, tok.Keyword kw.Then ∷ us)) →
        Reads level.Expr us (Some (a, v, tok.Keyword kw.Else ∷ tok.Keyword kw.Nothing ∷ rest)) →
        Reads level.Expr (tok.Keyword kw.If ∷ ts) (Some (e.If c a None, u || v, rest))
    other_none : {c a : Expr} {u v : Bool} {ts us vs : List Token} →
        Reads level.Expr ts (Some (c, u, tok.Keyword kw.Then ∷ us)) →
        Reads level.Expr us (Some (a, v, tok.Keyword kw.Else ∷ vs)) → NotFirst (tok.Keyword kw.Nothing) vs →
        Reads level.Expr vs None → Reads level.Expr (tok.Keyword kw.If ∷ ts) None
    choice : {c a b : Expr} {u v w : Bool} {ts us vs rest : List Token} →
        Reads level.Expr ts (Some (c, u, tok.Keyword kw.Then ∷ us)) →
        Reads level.Expr us (Some (a, v, tok.Keyword kw.Else ∷ vs)) → NotFirst (tok.Keyword kw.Nothing) vs →
        Reads level.Expr vs (Some (b, w, rest)) →
        Reads level.Expr (tok.Keyword kw.If ∷ ts) (Some (e.If c a (Some b), u || v || w, rest))
    no_choice : {ts : List Token} {r : Outcome} → NotFirst (tok.Keyword kw.If) ts → Reads level.Or ts r → Reads level.Expr ts r

  -- GoesOn l a u ts r: behind the expression a the reader goes on with the operations of the level l.
  pub data GoesOn : Level → Expr → Bool → List Token → Outcome → Type 0 where
    ends : {l : Level} {a : Expr} {u : Bool} {ts : List Token} → Ends l ts → GoesOn l a u ts (Some (a, u, ts))
    goes_none : {l : Level} {a : Expr} {u : Bool} {t : Token} {o : Op} {ts : List Token} →
        IsOperation l t o → Reads (tighter l) ts None → GoesOn l a u (t ∷ ts) None
    goes : {l : Level} {a b : Expr} {u v : Bool} {t : Token} {o : Op} {ts us : List Token} {r : Outcome} → IsOperation l t o →
        Reads (tighter l) ts (Some (b, v, us)) → GoesOn l (e.Two o a b) (u || v) us r → GoesOn l a u (t ∷ ts) r

  -- ReadsParts found u ts r: behind the parts found the reader goes on with one more, and with all behind its comma.
  pub data ReadsParts : List Expr → Bool → List Token → Read (List Expr) → Type 0 where
    parts_none : {found : List Expr} {u : Bool} {ts : List Token} → Reads level.Expr ts None → ReadsParts found u ts None
    last : {found : List Expr} {u v : Bool} {ts us : List Token} {x : Expr} →
        Reads level.Expr ts (Some (x, v, us)) → NotFirst (tok.Sign sg.Comma) us →
        ReadsParts found u ts (Some (found ++ x ∷ [], u || v, us))
    more : {found : List Expr} {u v : Bool} {ts us : List Token} {x : Expr} {r : Read (List Expr)} →
        Reads level.Expr ts (Some (x, v, tok.Sign sg.Comma ∷ us)) → ReadsParts (found ++ x ∷ []) (u || v) us r →
        ReadsParts found u ts r

  -- ReadsAll ts r: the parts up to the parenthesis that closes them.
  pub data ReadsAll : List Token → Read (List Expr) → Type 0 where
    all_none : {ts : List Token} → ReadsParts [] false ts None → ReadsAll ts None
    unclosed : {ts us : List Token} {xs : List Expr} {u : Bool} →
        ReadsParts [] false ts (Some (xs, u, us)) → NotFirst (tok.Sign sg.Close) us → ReadsAll ts None
    all : {ts us : List Token} {xs : List Expr} {u : Bool} →
        ReadsParts [] false ts (Some (xs, u, tok.Sign sg.Close ∷ us)) → ReadsAll ts (Some (xs, u, us))

-- What follows `then`, whatever the tokens of the test.
abbrev pub GivesBranches : {Y : Type 0} → Expr → Bool → List Token → (Y → Expr × Bool × List Token) → Result Y ReadError → Type 0
GivesBranches c u ts view r = (before : List Token) → Reads level.Expr before (Some (c, u, tok.Keyword kw.Then ∷ ts)) →
    Gives (Reads level.Expr (tok.Keyword kw.If ∷ before)) view r

-- What stands behind an expression that was read at the next tighter level, whatever its tokens: what is read at the level.
abbrev pub GivesOnward : {Y : Type 0} → Level → Expr → Bool → List Token → (Y → Expr × Bool × List Token) →
    Result Y ReadError → Type 0
GivesOnward l a u ts view r = (before : List Token) → Reads (tighter l) before (Some (a, u, ts)) → Gives (Reads l before) view r

-- What stands first: its level, which is no looser than the one that is asked for, and what is read at that level.
abbrev pub GivesFirst : {Y : Type 0} → Level → List Token → (Y → Level × Expr × Bool × List Token) → Result Y ReadError → Type 0
GivesFirst l ts view (Ok y) = (rank (view y).0 ≤ rank l) × Reads (view y).0 ts (Some ((view y).1, (view y).2, (view y).3))
GivesFirst l ts view (Err NotSpelled) = Reads l ts None
GivesFirst l ts view (Err NoMemory) = Unit {0}
