-- Axes that are opened one after another, up to the first that is refused: this project's representation.
use Rattle.std.specs.Prelude.{◌≡◌, ◌≢◌, ℕ, List, map, Some, None}
use Rattle.loop_data.specs.declared.value.Value.{Value}
use Rattle.loop_data.specs.declared.head.Axis.{Axis}
use Rattle.loop_meaning.specs.Items.{Sources, all_items, axis_items}
use Rattle.loop_items.specs.declared.refusal.HeadRefusal.{HeadRefusal}
use Rattle.loop_items.specs.declared.refusal.HeadRefusal.TheVariants as refused
use Rattle.loop_items.specs.Collected.{all_collected}
use Rattle.loop_items.specs.Refusals.{first_refusal}

-- none of these axes is refused, and their values are these
pub record AreOpen (line : ℕ) (axes : List Axis) (sources : Sources) (lists : List (List Value)) : Type 0 where
  pub values : lists ≡ all_items (map axis_items axes) sources
  pub fine : first_refusal line (all_collected axes sources) ≡ None

-- this is their first refusal, unless memory ran out
abbrev pub AreRefused : ℕ → List Axis → Sources → HeadRefusal → Type 0
AreRefused line axes sources refusal =
    refusal ≢ refused.NoMemory → first_refusal line (all_collected axes sources) ≡ Some refusal
