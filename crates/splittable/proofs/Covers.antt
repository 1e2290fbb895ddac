-- Nodes that lie next to each other and are all of a part have its leaves.
use Rattle.std.proofs.Common.{◌≡◌, ℕ, zero, suc, ◌+◌, ◌<◌, ◌≤◌, Bool, true, false, List, [], ◌∷◌, ◌++◌, append-nil, refl, sym, ap, ap₂, subst, ◌∙◌, arith}
use Rattle.std.specs.List.{flat_map, AllByRecursion}
use Rattle.std.proofs.lemmas.Grind.{flat_map-append}
use Rattle.std.proofs.Math.Logic.{∥∥₁_map, ∥∥₁_elim}
use denote.Struct.Props.{props}
use Rattle.splittable.specs.Places.{item_count}
use Rattle.splittable.specs.Parts.{Stretch, left_half, right_half, whole_of, AreNeighbours}
use Rattle.splittable.specs.Nodes.{IsNode, leaves_under, leaves_of}
use Rattle.splittable.specs.Fields.{IsPart}
use Rattle.splittable.proofs.PartHalves.{part_halves, whole_part}
use Rattle.splittable.proofs.Reached.{half_is, Leads, below, led_to}
use Rattle.splittable.proofs.Leaves.{leaves_under-longer, leaves_of-none, leaves_of-some}

-- some way leads from the top to the part
abbrev pub IsLed : ℕ → Stretch → Stretch → Type 0
IsLed least top part = (way : List Bool) × Leads least top way part

-- parts of a list of neighbours that begins where the right half begins are parts of the right half
right_only : (least from : ℕ) (top : Stretch) (parts : List Stretch) → IsPart top → 1 < top.len → (right_half top).first ≤ from →
    AllByRecursion (IsLed least top) parts → AreNeighbours from parts (top.first + top.len) → AllByRecursion (IsLed least (right_half top)) parts
right_only least from top [] h many low led near = tt
right_only least from top (part ∷ parts) h many low (([], leads), led) near =
    let well = part_halves top h many in
    absurd (omega (arith, ap (λ (s : Stretch). s.first) leads, near.0, well.left.some))
right_only least from top (part ∷ parts) h many low ((true ∷ way, leads), led) near =
    let left = half_is true top h many in
    let there = below least (left_half top) way part left.is_part leads.2 in
    absurd (omega (arith, there.within.1, there.is_part.some, near.0))
right_only least from top (part ∷ parts) h many low ((false ∷ way, leads), led) near =
    ((way, leads.2), right_only least (part.first + part.len) top parts h many (omega (arith, near.0)) led near.1)

-- neighbours that begin within the left half are parted where the right half begins
record IsParted (least from : ℕ) (top : Stretch) (parts : List Stretch) : Type 0 where
  left : List Stretch
  right : List Stretch
  whole : parts ≡ left ++ right
  left_led : AllByRecursion (IsLed least (left_half top)) left
  right_led : AllByRecursion (IsLed least (right_half top)) right
  left_near : AreNeighbours from left (right_half top).first
  right_near : AreNeighbours (right_half top).first right (top.first + top.len)

parted : (least from : ℕ) (top : Stretch) (parts : List Stretch) → IsPart top → 1 < top.len → top.first < from → from ≤ (right_half top).first →
    AllByRecursion (IsLed least top) parts → AreNeighbours from parts (top.first + top.len) → IsParted least from top parts
parted least from top [] h many past low led near = let well = part_halves top h many in absurd (omega (arith, near, well.right.some, well.halves.together))
parted least from top (part ∷ parts) h many past low (([], leads), led) near = absurd (omega (arith, ap (λ (s : Stretch). s.first) leads, near.0))
parted least from top (part ∷ parts) h many past low ((true ∷ way, leads), led) near =
    let left = half_is true top h many in
    let there = below least (left_half top) way part left.is_part leads.2 in
    let rest = parted least (part.first + part.len) top parts h many (omega (arith, near.0)) (omega (arith, there.within.1)) led near.1 in
    record {
      left = part ∷ rest.left;
      right = rest.right;
      whole = ap (λ ps. part ∷ ps) rest.whole;
      left_led = ((way, leads.2), rest.left_led);
      right_led = rest.right_led;
      left_near = (near.0, rest.left_near);
      right_near = rest.right_near;
    }
parted least from top (part ∷ parts) h many past low ((false ∷ way, leads), led) near =
    let right = half_is false top h many in
    let there = below least (right_half top) way part right.is_part leads.2 in
    let here : from ≡ (right_half top).first = omega (arith, there.within.0, near.0) in
    record {
      left = [];
      right = part ∷ parts;
      whole = refl;
      left_led = tt;
      right_led = ((way, leads.2), right_only least (part.first + part.len) top parts h many (omega (arith, near.0, here)) led near.1);
      left_near = here;
      right_near = (near.0 ∙ here, near.1);
    }

-- what comes after the last place of the top is nothing
none_after : (least : ℕ) (top : Stretch) (parts : List Stretch) → IsPart top → AllByRecursion (IsLed least top) parts → AreNeighbours (top.first + top.len) parts (top.first + top.len) → parts ≡ []
none_after least top [] h led near = refl
none_after least top (part ∷ parts) h led near =
    let there = below least top led.0.0 part h led.0.1 in
    absurd (omega (arith, there.within.1, there.is_part.some, near.0))

pub leaves_of_cover : (n least : ℕ) (top : Stretch) (parts : List Stretch) → IsPart top → 1 ≤ least → top.len ≤ n →
    AllByRecursion (IsLed least top) parts → AreNeighbours top.first parts (top.first + top.len) → flat_map (leaves_under least) parts ≡ leaves_under least top
leaves_of_cover zero least top parts h some le led near = absurd (omega (arith, h.some))
leaves_of_cover (suc n) least top [] h some le led near = absurd (omega (arith, h.some, near))
leaves_of_cover (suc n) least top (part ∷ parts) h some le (([], leads), led) near =
    let first : part.first ≡ top.first = ap (λ (s : Stretch). s.first) leads in
    let len : part.len ≡ top.len = ap (λ (s : Stretch). s.len) leads in
    let rest : AreNeighbours (top.first + top.len) parts (top.first + top.len) = (let P : ℕ → Type 0 = λ k. AreNeighbours k parts (top.first + top.len) in subst P (ap₂ (λ a b. a + b) first len) near.1) in
    ap (λ ps. flat_map (leaves_under least) (part ∷ ps)) (none_after least top parts h led rest) ∙ append-nil (leaves_under least part) ∙ ap (leaves_under least) leads
leaves_of_cover (suc n) least top (part ∷ parts) h some le ((false ∷ way, leads), led) near =
    let well = part_halves top h leads.0 in
    let right = half_is false top h leads.0 in
    let there = below least (right_half top) way part right.is_part leads.2 in
    absurd (omega (arith, there.within.0, near.0, well.left.some))
leaves_of_cover (suc n) least top (part ∷ parts) h some le ((true ∷ way, leads), led) near =
    let left = half_is true top h leads.0 in
    let right = half_is false top h leads.0 in
    let well = part_halves top h leads.0 in
    let there = below least (left_half top) way part left.is_part leads.2 in
    let rest = parted least (part.first + part.len) top parts h leads.0 (omega (arith, near.0, there.is_part.some)) (omega (arith, there.within.1)) led near.1 in
    let end : (right_half top).first + (right_half top).len ≡ top.first + top.len = omega (arith, well.halves.together) in
    let right_near : AreNeighbours (right_half top).first rest.right ((right_half top).first + (right_half top).len) =
    (let P : ℕ → Type 0 = λ k. AreNeighbours (right_half top).first rest.right k in subst P (sym end) rest.right_near) in
    ap (λ ps. flat_map (leaves_under least) (part ∷ ps)) rest.whole
    ∙ flat_map-append (leaves_under least) (part ∷ rest.left) rest.right
    ∙ ap₂ (λ xs ys. xs ++ ys)
    (leaves_of_cover n least (left_half top) (part ∷ rest.left) left.is_part some (omega (arith, left.shorter)) ((way, leads.2), rest.left_led) (near.0, rest.left_near))
    (leaves_of_cover n least (right_half top) rest.right right.is_part some (omega (arith, right.shorter)) rest.right_led right_near)
    ∙ sym (leaves_under-longer least top h some leads.1)

-- the same of nodes
all_led : (lens : List ℕ) (least : ℕ) (parts : List Stretch) → AllByRecursion (IsNode lens least) parts → ∥ AllByRecursion (IsLed least (whole_of lens)) parts ∥₁
all_led lens least [] h = ∣ tt ∣₁
all_led lens least (part ∷ parts) h =
    ∥∥₁_elim h.0 (hlevel props) (λ x. ∥∥₁_map (all_led lens least parts h.1) (λ rest.
    let way = led_to lens least x.0 part x.1 in ((way.way, way.leads), rest)))

some_from_node : (lens : List ℕ) (least : ℕ) (part : Stretch) → IsNode lens least part → 1 ≤ item_count lens
some_from_node lens least part node = ∥∥₁_elim node (hlevel props) (λ x. (led_to lens least x.0 part x.1).some)

pub lists_prop : (xs ys : List Stretch) → IsProp (xs ≡ ys)
lists_prop xs ys = hlevel props

pub leaves_of_neighbours : (lens : List ℕ) (least : ℕ) (parts : List Stretch) → 1 ≤ least → AllByRecursion (IsNode lens least) parts →
    AreNeighbours 1 parts (item_count lens + 1) → flat_map (leaves_under least) parts ≡ leaves_of lens least
leaves_of_neighbours lens least [] large nodes near = sym (leaves_of-none lens least (omega (arith, near)))
leaves_of_neighbours lens least (part ∷ parts) large nodes near =
    let some : 1 ≤ item_count lens = some_from_node lens least part nodes.0 in
    let end : item_count lens + 1 ≡ 1 + item_count lens = omega arith in
    let near' : AreNeighbours 1 (part ∷ parts) (1 + item_count lens) = (let P : ℕ → Type 0 = λ k. AreNeighbours 1 (part ∷ parts) k in subst P end near) in
    ∥∥₁_elim (all_led lens least (part ∷ parts) nodes) (lists_prop _ _)
    (λ led. leaves_of_cover (item_count lens) least (whole_of lens) (part ∷ parts) (whole_part lens some) large (omega arith) led near')
    ∙ sym (leaves_of-some lens least some)
