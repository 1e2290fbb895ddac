-- A tower is determined by the tokens that it begins with, and where none is spelled.
use Rattle.std.proofs.Common.{◌≡◌, ◌≢◌, Bool, ◌||◌, false, List, ◌∷◌, Some, None, refl, ap, sym, ◌∙◌, subst}
use Rattle.loop_tokens.specs.declared.token.Token.{Token}
use Rattle.loop_tokens.specs.declared.token.Token.TheVariants as tok
use Rattle.loop_tokens.specs.declared.keyword.Keyword.{Keyword}
use Rattle.loop_tokens.specs.declared.keyword.Keyword.TheVariants as kw
use Rattle.loop_tokens.specs.declared.sign.Sign.{Sign}
use Rattle.loop_tokens.specs.declared.sign.Sign.TheVariants as sg
use Rattle.loop_data.specs.declared.expr.Expr.{Expr}
use Rattle.loop_data.specs.declared.tower.Kind.{Kind}
use Rattle.loop_data.specs.declared.tower.TowerExpr.{TowerExpr}
use Rattle.loop_data.specs.declared.tower.TowerExpr.TheVariants as tower
use Rattle.loop_exprs.specs.declared.level.Level.TheVariants as level
use Rattle.loop_exprs.specs.Operations.{sign_operation}
use Rattle.loop_exprs.specs.Grammar.{Spells, NotFirst}
use Rattle.loop_exprs.proofs.Unique.{one_reading}
use Rattle.loop_grammar.specs.LineForms.{SpellsTower, leaf_kind}
use Rattle.loop_lines.specs.Claims.{NoCall, Tells, ExprUpTo, TowerAt, TowerUpTo, OneTower}
use Rattle.loop_lines.proofs.Steps.{none_some, some_same, tails}

-- one thing with its flag and its rest, and another
abbrev pub Same : {A : Type 0} → A → Bool → List Token → A → Bool → List Token → Type 0
Same x u rest y v also = (x ≡ y) × (u ≡ v) × (rest ≡ also)

pub one_up_to : (s : Sign) → sign_operation s ≡ None → {x y : Expr} {u v : Bool} {ts rest also : List Token} → Spells level.Expr x u ts (tok.Sign s ∷ rest) →
    Spells level.Expr y v ts (tok.Sign s ∷ also) → Same x u rest y v also
one_up_to s h {x = x} {y = y} {u = u} {v = v} {ts = ts} {rest = rest} {also = also} d e =
    let same = one_reading ts (tok.Sign s ∷ rest) (tok.Sign s ∷ also) x y u v (record { spelled = d; longest = h }) (record { spelled = e; longest = h }) in
    (same.0, same.1, tails same.2)

same_leaf : {d e : Kind} {x y : Expr} → d ≡ e → x ≡ y → tower.Leaf d x ≡ tower.Leaf e y
same_leaf {e = e} {x = x} h g = ap (λ z. tower.Leaf z x) h ∙ ap (λ z. tower.Leaf e z) g

same_grouped : {k l : Expr} {x y : TowerExpr} → k ≡ l → x ≡ y → tower.Grouped k x ≡ tower.Grouped l y
same_grouped {l = l} {x = x} h g = ap (λ z. tower.Grouped z x) h ∙ ap (λ z. tower.Grouped l z) g

same_both : {w x y z : TowerExpr} → w ≡ y → x ≡ z → tower.Both w x ≡ tower.Both y z
same_both {x = x} {y = y} h g = ap (λ z. tower.Both z x) h ∙ ap (λ z. tower.Both y z) g

pub same_or : {a b c d : Bool} → a ≡ c → b ≡ d → (a || b) ≡ (c || d)
same_or {b = b} {c = c} h g = ap (λ z. z || b) h ∙ ap (λ z. c || z) g

leaf_case : {k : Keyword} {d : Kind} {x : Expr} {y : TowerExpr} {u v : Bool} {ts rest also : List Token} → leaf_kind k ≡ Some d → Spells level.Expr x u ts (tok.Sign sg.Close ∷ rest) →
    SpellsTower y v (tok.Keyword k ∷ tok.Sign sg.Open ∷ ts) also → Same (tower.Leaf d x) u rest y v also
leaf_case h p (SpellsTower.leaf g q) = let same = one_up_to sg.Close refl p q in (same_leaf (some_same (sym h ∙ g)) same.0, same.1, same.2)
leaf_case h p SpellsTower.count = absurd (none_some h)
leaf_case h p (SpellsTower.grouped e q) = absurd (none_some h)
leaf_case h p (SpellsTower.both e q) = absurd (none_some h)

count_case : {y : TowerExpr} {v : Bool} {rest also : List Token} → SpellsTower y v (tok.Keyword kw.Count ∷ tok.Sign sg.Open ∷ tok.Sign sg.Close ∷ rest) also →
    (tower.Count ≡ y) × (false ≡ v) × (rest ≡ also)
count_case (SpellsTower.leaf g q) = absurd (none_some g)
count_case SpellsTower.count = (refl, refl, refl)

-- what is spelled there is the tower, with the flag and the rest
abbrev Exactly : TowerExpr → Bool → List Token → List Token → Type 0
Exactly x u ts rest = (y : TowerExpr) (v : Bool) (also : List Token) → SpellsTower y v ts also → Same x u rest y v also

-- with what follows taken over from an equal rest
moved : {x : TowerExpr} {u : Bool} {ts us rest also : List Token} {y : TowerExpr} {v : Bool} (s : Sign) → Exactly x u ts (tok.Sign s ∷ rest) → ts ≡ us → SpellsTower y v us (tok.Sign s ∷ also) →
    Same x u rest y v also
moved {also = also} {y = y} {v = v} s is same q =
    let P : List Token → Type 0 = λ ws. SpellsTower y v ws (tok.Sign s ∷ also) in
    let there = is y v (tok.Sign s ∷ also) (subst P (sym same) q) in
    (there.0, there.1, tails there.2)

grouped_case : {key : Expr} {x y : TowerExpr} {u v w : Bool} {ts us rest also : List Token} → Spells level.Expr key u ts (tok.Sign sg.Comma ∷ us) → Exactly x v us (tok.Sign sg.Close ∷ rest) →
    SpellsTower y w (tok.Keyword kw.Group ∷ tok.Sign sg.Open ∷ ts) also → Same (tower.Grouped key x) (u || v) rest y w also
grouped_case p is (SpellsTower.leaf g q) = absurd (none_some g)
grouped_case p is (SpellsTower.grouped e q) =
    let first = one_up_to sg.Comma refl p e in
    let next = moved sg.Close is first.2 q in
    (same_grouped first.0 next.0, same_or first.1 next.1, next.2)

both_case : {x y z : TowerExpr} {u v w : Bool} {ts us rest also : List Token} → Exactly x u ts (tok.Sign sg.Comma ∷ us) → Exactly y v us (tok.Sign sg.Close ∷ rest) →
    SpellsTower z w (tok.Keyword kw.Both ∷ tok.Sign sg.Open ∷ ts) also → Same (tower.Both x y) (u || v) rest z w also
both_case is then (SpellsTower.leaf g q) = absurd (none_some g)
both_case is then (SpellsTower.both e q) =
    let first = moved sg.Comma is refl e in
    let next = moved sg.Close then first.2 q in
    (same_both first.0 next.0, same_or first.1 next.1, next.2)

pub exactly : {x : TowerExpr} {u : Bool} {ts rest : List Token} → SpellsTower x u ts rest → Exactly x u ts rest
exactly (SpellsTower.leaf h p) y v also e = leaf_case h p e
exactly SpellsTower.count y v also e = count_case e
exactly (SpellsTower.grouped p q) y v also e = grouped_case p (exactly q) e
exactly (SpellsTower.both p q) y v also e = both_case (exactly p) (exactly q) e

pub one_tower : OneTower
one_tower ts rest also x y wide too d e = exactly d y too also e

-- ---- where no tower is spelled

no_call_at : {y : TowerExpr} {v : Bool} {ts also : List Token} → NoCall ts → SpellsTower y v ts also → ⊥
no_call_at none (SpellsTower.leaf {k = k} {ts = ts} h d) = none k ts refl
no_call_at none (SpellsTower.count {rest = rest}) = none kw.Count (tok.Sign sg.Close ∷ rest) refl
no_call_at none (SpellsTower.grouped {ts = ts} d e) = none kw.Group ts refl
no_call_at none (SpellsTower.both {ts = ts} d e) = none kw.Both ts refl

pub no_call : (ts : List Token) → NoCall ts → Tells (TowerAt ts) None
no_call ts none p d = no_call_at none d

no_leaf_at : {k : Keyword} {d : Kind} {y : TowerExpr} {v : Bool} {ts also : List Token} → leaf_kind k ≡ Some d → Tells (ExprUpTo sg.Close ts) None →
    SpellsTower y v (tok.Keyword k ∷ tok.Sign sg.Open ∷ ts) also → ⊥
no_leaf_at h none (SpellsTower.leaf {x = x} {u = u} {rest = rest} g d) = none (x, u, rest) d
no_leaf_at h none SpellsTower.count = none_some h
no_leaf_at h none (SpellsTower.grouped d e) = none_some h
no_leaf_at h none (SpellsTower.both d e) = none_some h

pub no_leaf : (k : Keyword) (d : Kind) (ts : List Token) → leaf_kind k ≡ Some d → Tells (ExprUpTo sg.Close ts) None → Tells (TowerAt (tok.Keyword k ∷ tok.Sign sg.Open ∷ ts)) None
no_leaf k d ts h none p e = no_leaf_at h none e

no_count_at : {y : TowerExpr} {v : Bool} {ts also : List Token} → NotFirst (tok.Sign sg.Close) ts → SpellsTower y v (tok.Keyword kw.Count ∷ tok.Sign sg.Open ∷ ts) also → ⊥
no_count_at none (SpellsTower.leaf h d) = none_some h
no_count_at none (SpellsTower.count {rest = rest}) = none rest refl

pub no_count : (ts : List Token) → NotFirst (tok.Sign sg.Close) ts → Tells (TowerAt (tok.Keyword kw.Count ∷ tok.Sign sg.Open ∷ ts)) None
no_count ts none p d = no_count_at none d

no_key_at : {y : TowerExpr} {v : Bool} {ts also : List Token} → Tells (ExprUpTo sg.Comma ts) None → SpellsTower y v (tok.Keyword kw.Group ∷ tok.Sign sg.Open ∷ ts) also → ⊥
no_key_at none (SpellsTower.leaf h d) = none_some h
no_key_at none (SpellsTower.grouped {key = key} {u = u} {us = us} d e) = none (key, u, us) d

pub no_key : (ts : List Token) → Tells (ExprUpTo sg.Comma ts) None → Tells (TowerAt (tok.Keyword kw.Group ∷ tok.Sign sg.Open ∷ ts)) None
no_key ts none p d = no_key_at none d

-- the tower that would be spelled from us, from an equal list
no_moved : {y : TowerExpr} {v : Bool} {us vs also : List Token} (s : Sign) → Tells (TowerUpTo s us) None → us ≡ vs → SpellsTower y v vs (tok.Sign s ∷ also) → ⊥
no_moved {y = y} {v = v} {also = also} s none same d =
    let P : List Token → Type 0 = λ ws. SpellsTower y v ws (tok.Sign s ∷ also) in
    none (y, v, also) (subst P (sym same) d)

no_inner_at : {key : Expr} {y : TowerExpr} {u v : Bool} {ts us also : List Token} → Spells level.Expr key u ts (tok.Sign sg.Comma ∷ us) → Tells (TowerUpTo sg.Close us) None →
    SpellsTower y v (tok.Keyword kw.Group ∷ tok.Sign sg.Open ∷ ts) also → ⊥
no_inner_at p none (SpellsTower.leaf h d) = none_some h
no_inner_at p none (SpellsTower.grouped d e) = no_moved sg.Close none (one_up_to sg.Comma refl p d).2 e

pub no_inner : (key : Expr) (u : Bool) (ts us : List Token) → Spells level.Expr key u ts (tok.Sign sg.Comma ∷ us) → Tells (TowerUpTo sg.Close us) None →
    Tells (TowerAt (tok.Keyword kw.Group ∷ tok.Sign sg.Open ∷ ts)) None
no_inner key u ts us d none p e = no_inner_at d none e

no_left_at : {y : TowerExpr} {v : Bool} {ts also : List Token} → Tells (TowerUpTo sg.Comma ts) None → SpellsTower y v (tok.Keyword kw.Both ∷ tok.Sign sg.Open ∷ ts) also → ⊥
no_left_at none (SpellsTower.leaf h d) = none_some h
no_left_at none (SpellsTower.both {x = x} {u = u} {us = us} d e) = none (x, u, us) d

pub no_left : (ts : List Token) → Tells (TowerUpTo sg.Comma ts) None → Tells (TowerAt (tok.Keyword kw.Both ∷ tok.Sign sg.Open ∷ ts)) None
no_left ts none p d = no_left_at none d

no_right_at : {x y : TowerExpr} {u v : Bool} {ts us also : List Token} → SpellsTower x u ts (tok.Sign sg.Comma ∷ us) → Tells (TowerUpTo sg.Close us) None →
    SpellsTower y v (tok.Keyword kw.Both ∷ tok.Sign sg.Open ∷ ts) also → ⊥
no_right_at p none (SpellsTower.leaf h d) = none_some h
no_right_at p none (SpellsTower.both d e) = no_moved sg.Close none (moved sg.Comma (exactly p) refl d).2 e

pub no_right : (x : TowerExpr) (u : Bool) (ts us : List Token) → SpellsTower x u ts (tok.Sign sg.Comma ∷ us) → Tells (TowerUpTo sg.Close us) None →
    Tells (TowerAt (tok.Keyword kw.Both ∷ tok.Sign sg.Open ∷ ts)) None
no_right x u ts us d none p e = no_right_at d none e

no_word_at : {k : Keyword} {y : TowerExpr} {v : Bool} {ts also : List Token} → leaf_kind k ≡ None → k ≢ kw.Count → k ≢ kw.Group → k ≢ kw.Both → SpellsTower y v (tok.Keyword k ∷ ts) also → ⊥
no_word_at h a b c (SpellsTower.leaf g d) = none_some (sym h ∙ g)
no_word_at h a b c SpellsTower.count = a refl
no_word_at h a b c (SpellsTower.grouped d e) = b refl
no_word_at h a b c (SpellsTower.both d e) = c refl

pub no_word : (k : Keyword) (ts : List Token) → leaf_kind k ≡ None → k ≢ kw.Count → k ≢ kw.Group → k ≢ kw.Both → Tells (TowerAt (tok.Keyword k ∷ ts)) None
no_word k ts h a b c p d = no_word_at h a b c d

pub unended : (s : Sign) (x : TowerExpr) (u : Bool) (ts rest : List Token) → SpellsTower x u ts rest → NotFirst (tok.Sign s) rest → Tells (TowerUpTo s ts) None
unended s x u ts rest d free p e = free p.2 (exactly d p.0 p.1 (tok.Sign s ∷ p.2) e).2
