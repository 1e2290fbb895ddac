-- Inputs by their keys: for each key that occurs, a state that stands for the inputs of that key, in order. Keys rise by their
-- bytes. Source: this project.
use Rattle.std.specs.Prelude.{◌≡◌, ◌≢◌, ℕ, cond, List, [], Option, Some, None, ⊤}
use Rattle.std.specs.Ordering.{nat_cmp}
use Rattle.std.specs.Cmp.Lexicographic.{slice_cmp}
use Rattle.std.specs.Str.{bytes_eq}
use Rattle.std.specs.Map.{lookup, keys_of, set_value}
use Rattle.std.specs.BTreeMap.{is_at}
use Rattle.std.specs.Option.{OnSome}
use Rattle.loop_results.specs.Groups.{Rise, inputs_under}
use Rattle.reducer_laws.specs.Standing.{MayMerge, TakesNext, TakesTogether}

-- the state at a key, if any
abbrev pub state_at : {S : Type 0} → List ℕ → List (List ℕ × S) → Option S
state_at k groups = lookup (bytes_eq k) groups

-- the keys rise by their bytes, so that no key stands twice
abbrev pub KeysRise : {S : Type 0} → List (List ℕ × S) → Type 0
KeysRise groups = Rise (keys_of groups)

-- there is a state exactly where there are inputs, and it stands for them
abbrev pub StandsWhere : {S I : Type 0} → (S → List I → Type 0) → Option S → List I → Type 0
StandsWhere stands None inputs = inputs ≡ []
StandsWhere stands (Some state) inputs = (inputs ≢ []) × stands state inputs

-- the keys rise, and each key that occurs, and no other, has a state, which stands for the inputs of that key
pub record GroupsStand {S I : Type 0} (stands : S → List I → Type 0)
    (groups : List (List ℕ × S)) (inputs : List (List ℕ × I)) : Type 0 where
  pub rising : KeysRise groups
  pub each : (k : List ℕ) → StandsWhere stands (state_at k groups) (inputs_under k inputs)

-- whichever list of inputs the groups stood for, they now stand for it followed by an input under the key
abbrev pub GroupsTakeNext : {S I : Type 0} → (S → List I → Type 0) → List (List ℕ × S) → List ℕ → I → List (List ℕ × S) → Type 0
GroupsTakeNext stands before key input after = TakesNext (GroupsStand stands) before (key, input) after

-- whichever lists of inputs the two stand for, the whole stands for the left's followed by the right's
abbrev pub GroupsTakeTogether : {S I : Type 0} → (S → List I → Type 0) → (left right whole : List (List ℕ × S)) → Type 0
GroupsTakeTogether stands left right whole = TakesTogether (GroupsStand stands) left right whole

-- a state may be merged into that of its key, if there is one
abbrev pub MayMergeInto : {S I : Type 0} → (S → List I → Type 0) → Option S → S → Type 0
MayMergeInto stands None after = ⊤
MayMergeInto stands (Some before) after = MayMerge stands before after

-- at one key: where both sides have a state, the whole has one that stands for both together; else it has that of either side
abbrev pub TogetherWhere : {S I : Type 0} → (S → List I → Type 0) → Option S → Option S → Option S → Type 0
TogetherWhere stands None after whole = whole ≡ after
TogetherWhere stands (Some before) None whole = whole ≡ Some before
TogetherWhere {S} stands (Some before) (Some after) whole =
    (state : S) × (whole ≡ Some state) × TakesTogether stands before after state

-- the whole has the groups of both sides, at each key the left's before the right's
pub record GroupsTogether {S I : Type 0} (stands : S → List I → Type 0) (before after whole : List (List ℕ × S)) : Type 0 where
  pub rising : KeysRise whole
  pub each : (k : List ℕ) → TogetherWhere stands (state_at k before) (state_at k after) (state_at k whole)

-- the keys rise, the state stands at its key, and each other key has what it had
pub record HoldsAt {S : Type 0} (key : List ℕ) (state : S) (before after : List (List ℕ × S)) : Type 0 where
  pub rising : KeysRise after
  pub each : (k : List ℕ) → state_at k after ≡ cond (bytes_eq key k) (Some state) (state_at k before)

-- where a state of a key is lent, the groups after are those before with what is written in its place
abbrev pub Writes : {A S : Type 0} → List ℕ → List (List ℕ × S) → Option A → List (List ℕ × S) → S → Type 0
Writes key before lent after state = OnSome lent (after ≡ set_value (is_at (slice_cmp nat_cmp key)) before state)
