-- Which elements may enter a stage.
-- Source: this project.
use Rattle.std.specs.Prelude.{◌≡◌, ◌≤◌, ◌*◌, Bool, true, false, List, Option, Some, None}
use Rattle.loop_values.specs.InnerItems.{ItemsFit, inner_limit}
use Rattle.chain_stages.specs.declared.element.Element.{Element}
use Rattle.chain_stages.specs.declared.stages.Stage.{Stage}
use Rattle.chain_stages.specs.Cats.{cats_follow}

-- The element's width is that of at most 1,000,000 body runs, its inner range has items of 64 bits, and where that range was just
-- set its items make at most 1,000,000 body runs.
pub record Enters (after_inner : Bool) (e : Element) : Type 0 where
  pub least : 1 ≤ e.width
  pub most : e.width ≤ inner_limit
  pub items : ItemsFit e.inner
  pub room : after_inner ≡ true → e.width * e.inner.count ≤ inner_limit

-- an element may enter the first of these stages
abbrev pub MayEnter : List Stage → Element → Type 0
MayEnter stages e = (after_inner : Bool) × (cats_follow after_inner stages ≡ true) × Enters after_inner e

-- what was made of an element, if anything, may enter any stage but a `Cat`
abbrev pub EntersIfSome : Option Element → Type 0
EntersIfSome None = Unit {0}
EntersIfSome (Some e) = Enters false e
