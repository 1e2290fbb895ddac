-- Names in scope: what each is, and which kind it has.
-- Source: this project's language.
use Rattle.std.specs.Prelude.{ℕ, ◌==◌, Bool, true, false, if◌then◌else◌, List, [], ◌∷◌, length, map, find, Option, Some, None}
use Rattle.std.specs.Prelude.{is_some, Ok, Err}
use Rattle.std.specs.List.{list_any}
use Rattle.std.specs.Str.{bytes_eq}
use Rattle.std.specs.Option.{option_and_then}
use Rattle.loop_data.specs.declared.value.ValueKind.{ValueKind, out-ValueKind}
use Rattle.loop_data.specs.declared.value.ValueKind.TheVariants as kind
use Rattle.loop_data.specs.declared.value.ValueKind.TheOpen.{ValueKind-F, ValueKind-F as k}
use Rattle.loop_data.specs.declared.head.Axis.{Axis}
use Rattle.loop_data.specs.declared.head.Axis.TheOpen.{Axis-F, Axis-F as a}
use Rattle.loop_data.specs.declared.head.Axis.TheFolds.{fold-Axis}
use Rattle.legality_rules.specs.declared.scope.Sort.{Sort}
use Rattle.legality_rules.specs.declared.scope.Sort.TheVariants.{Variable, LoopVariable, Scratch}
use Rattle.legality_rules.specs.declared.scope.Known.{Known}
use Rattle.loop_values.specs.Kinds.{Kinds, Kinded}

-- whether the name is one of these
abbrev pub is_in : List (List ℕ) → List ℕ → Bool
is_in names n = list_any (bytes_eq n) names

-- ---- names in scope

-- the names in scope, in the order in which they were bound
abbrev pub Scope : Type 0
Scope = List Known

abbrev pub look_up : Scope → List ℕ → Option Known
look_up scope n = find (λ known. bytes_eq n known.name) scope

abbrev pub is_known : Scope → List ℕ → Bool
is_known scope n = is_some (look_up scope n)

abbrev pub sort_of : Option Known → Option Sort
sort_of (Some known) = Some known.sort
sort_of None = None

-- what a name is in scope as, where it is in scope
abbrev pub sort_in : Scope → List ℕ → Option Sort
sort_in scope n = sort_of (look_up scope n)

abbrev pub is_variable : Option Sort → Bool
is_variable (Some Variable) = true
is_variable _ = false

abbrev pub is_loop_variable : Option Sort → Bool
is_loop_variable (Some LoopVariable) = true
is_loop_variable _ = false

abbrev pub is_scratch : Option Sort → Bool
is_scratch (Some Scratch) = true
is_scratch _ = false

-- the kinds of the names in scope
abbrev pub kinds_in : Scope → Kinds
kinds_in scope n = option_and_then (λ known. known.kind) (look_up scope n)

-- ---- names that a line binds

abbrev pub known_as : Sort → List ℕ → Option ValueKind → Known
known_as sort n x = record { name = n; sort = sort; kind = x }

-- the kind of what stands on a line, where it has one
abbrev pub found : Kinded → Option ValueKind
found (Ok x) = Some x
found (Err stop) = None

-- the names with these kinds one by one, or with none where there are more or fewer kinds
abbrev pub one_by_one : Sort → List (List ℕ) → List ValueKind → Scope
one_by_one sort (n ∷ ns) (x ∷ xs) = known_as sort n (Some x) ∷ one_by_one sort ns xs
one_by_one sort ns [] = map (λ n. known_as sort n None) ns
one_by_one sort [] _ = []

abbrev pub parts_at : ValueKind-F ValueKind → List ValueKind
parts_at (k.Tuple parts) = parts
parts_at _ = []

-- the kinds of a tuple's parts, and none for any other kind
abbrev pub parts_of : ValueKind → List ValueKind
parts_of x = parts_at (out-ValueKind x)

-- whether a pattern takes something of this kind: one name takes anything, several names a tuple of that many parts
abbrev pub fits_pattern : List (List ℕ) → ValueKind → Bool
fits_pattern (n ∷ []) x = true
fits_pattern ns x = length (parts_of x) == length ns

abbrev pub pattern_parts : List (List ℕ) → ValueKind → List ValueKind
pattern_parts (n ∷ []) x = x ∷ []
pattern_parts ns x = parts_of x

abbrev pub pattern_kinds : List (List ℕ) → Option ValueKind → List ValueKind
pattern_kinds ns (Some x) = if fits_pattern ns x then pattern_parts ns x else []
pattern_kinds ns None = []

-- the names of a pattern for something of this kind
abbrev pub pattern_known : Sort → List (List ℕ) → Option ValueKind → Scope
pattern_known sort ns x = one_by_one sort ns (pattern_kinds ns x)

abbrev pub unwrapped_at : ValueKind-F ValueKind → Option ValueKind
unwrapped_at (k.Maybe x) = Some x
unwrapped_at _ = None

-- K of Maybe K, and nothing for any other kind
abbrev pub unwrapped : ValueKind → Option ValueKind
unwrapped x = unwrapped_at (out-ValueKind x)

-- ---- the items of the first head

abbrev pub axis_step : Axis-F ValueKind → ValueKind
axis_step (a.Steps range) = kind.Int
axis_step (a.Col column) = kind.Text
axis_step (a.Zip parts) = kind.Tuple parts

-- an item of a range is Int and of a column Text; an item of a zip is the tuple of its parts' items
abbrev pub axis_kind : Axis → ValueKind
axis_kind = fold-Axis ValueKind axis_step

abbrev pub only_kind : List ValueKind → Option ValueKind
only_kind [] = None
only_kind (x ∷ _) = Some x

-- the kind of a head's items: of a product it is the tuple of its axes' items
abbrev pub item_kind : Bool → List Axis → Option ValueKind
item_kind true axes = Some (kind.Tuple (map axis_kind axes))
item_kind false axes = only_kind (map axis_kind axes)
