-- What stands behind the word `for`, and what the readers of its parts read.
-- Source: this project's language.
use Rattle.std.specs.Prelude.{◌≡◌, ℕ, ◌≤◌, Bool, ◌||◌, List, [], ◌∷◌, ◌++◌, length}
use Rattle.loop_tokens.specs.declared.token.Token.{Token}
use Rattle.loop_tokens.specs.declared.token.Token.TheVariants as tok
use Rattle.loop_tokens.specs.declared.keyword.Keyword.TheVariants as kw
use Rattle.loop_tokens.specs.declared.sign.Sign.TheVariants as sg
use Rattle.loop_data.specs.declared.expr.RangeExpr.{RangeExpr}
use Rattle.loop_data.specs.declared.head.Axis.{Axis}
use Rattle.loop_data.specs.declared.head.Inner.{Inner}
use Rattle.loop_exprs.specs.Grammar.{NotFirst}
use Rattle.loop_exprs.specs.Claims.{MayEnd}
use Rattle.loop_grammar.specs.declared.line.Heads.{Heads}
use Rattle.loop_grammar.specs.LineForms.{SpellsPattern, SpellsRange, SpellsHead, SpellsInner}
use Rattle.loop_heads.specs.declared.axis.FirstHead.{FirstHead}

-- SpellsHeads heads wide tokens: the tokens, all of them together, spell what a `for` line goes over.
pub data SpellsHeads : Heads → Bool → List Token → Type 0 where
  heads : {ns : List (List ℕ)} {xs : List Axis} {product u v : Bool} {hs : List Inner} {ts us vs : List Token} → length hs ≤ 3 →
      SpellsPattern ns ts (tok.Keyword kw.In ∷ us) → SpellsHead xs product u us vs → SpellsInner hs v vs →
      SpellsHeads (record { names = ns; axes = xs; product = product; inner = hs }) (u || v) ts

-- a range may end there: no operation goes on, and no `:`
pub record EndsRange (rest : List Token) : Type 0 where
  pub expr : MayEnd rest
  pub no_colon : NotFirst (tok.Sign sg.Colon) rest

-- the tokens up to the rest spell something that ends with a range, as far as one can go
pub record Ended {A : Type 0} (S : A → Bool → List Token → List Token → Type 0) (ts : List Token)
    (x : A × Bool × List Token) : Type 0 where
  pub spelled : S x.0 x.1 ts x.2
  pub ends : EndsRange x.2

-- items with commas between them
pub data Listed {A : Type 0} (S : A → Bool → List Token → List Token → Type 0) :
    List A → Bool → List Token → List Token → Type 0 where
  last : {x : A} {u : Bool} {ts rest : List Token} → S x u ts rest → Listed S (x ∷ []) u ts rest
  more : {x : A} {xs : List A} {u v : Bool} {ts us rest : List Token} →
      S x u ts (tok.Sign sg.Comma ∷ us) → Listed S xs v us rest → Listed S (x ∷ xs) (u || v) ts rest

-- the tokens up to the rest spell items, and `all` is those behind the ones found before
pub record Behind {A : Type 0} (S : A → Bool → List Token → List Token → Type 0) (found : List A) (wide : Bool)
    (ts : List Token) (x : List A × Bool × List Token) : Type 0 where
  pub items : List A
  pub flag : Bool
  pub joined : x.0 ≡ found ++ items
  pub either : x.1 ≡ (wide || flag)
  pub spelled : Listed S items flag ts x.2

-- the same where no more items can follow
pub record BehindEnd {A : Type 0} (S : A → Bool → List Token → List Token → Type 0) (found : List A) (wide : Bool)
    (ts : List Token) (x : List A × Bool × List Token) : Type 0 where
  pub behind : Behind S found wide ts x
  pub ends : EndsRange x.2
  pub no_comma : NotFirst (tok.Sign sg.Comma) x.2

-- two to four items between parentheses
pub record Between {A : Type 0} (S : A → Bool → List Token → List Token → Type 0) (ts : List Token)
    (x : List A × Bool × List Token) : Type 0 where
  pub inside : List Token
  pub opened : ts ≡ tok.Sign sg.Open ∷ inside
  pub least : 2 ≤ length x.0
  pub most : length x.0 ≤ 4
  pub spelled : Listed S x.0 x.1 inside (tok.Sign sg.Close ∷ x.2)

abbrev pub SpellsFirst : FirstHead → Bool → List Token → List Token → Type 0
SpellsFirst h u ts rest = SpellsHead h.axes h.product u ts rest

-- one further head with the comma before it
pub data SpellsFurther : Inner → Bool → List Token → List Token → Type 0 where
  further : {n : List ℕ} {r : RangeExpr} {u : Bool} {ts rest : List Token} → SpellsRange r u ts rest →
      SpellsFurther (record { name = n; range = r }) u (tok.Sign sg.Comma ∷ tok.Name n ∷ tok.Keyword kw.In ∷ ts) rest

-- the tokens up to the line's end spell further heads, and the list of x is those behind the ones found before
pub record InnerBehind (found : List Inner) (wide : Bool) (ts : List Token) (x : List Inner × Bool) : Type 0 where
  pub items : List Inner
  pub flag : Bool
  pub joined : x.0 ≡ found ++ items
  pub either : x.1 ≡ (wide || flag)
  pub spelled : SpellsInner items flag ts

-- the tokens spell the heads
abbrev pub HeadsAt : List Token → Heads × Bool → Type 0
HeadsAt ts x = SpellsHeads x.0 x.1 ts

-- the heads that are spelled are determined by the tokens
abbrev pub OneHeads : Type 0
OneHeads = (ts : List Token) (h k : Heads) (wide too : Bool) →
    SpellsHeads h wide ts → SpellsHeads k too ts → (h ≡ k) × (wide ≡ too)
