-- Two nodes that share a place lie one in the other.
use Rattle.std.proofs.Common.{◌≡◌, ℕ, ◌<◌, ◌≤◌, ◌⊎◌, inl, inr, Bool, true, false, List, [], ◌∷◌, sym, ap, subst, ◌∙◌, arith}
use Rattle.std.proofs.Math.Logic.{∥∥₁_elim}
use denote.Struct.Props.{props}
use Rattle.splittable.specs.Parts.{Stretch, left_half, right_half, whole_of, AreHalves, HoldsPlace, LiesIn, LiesInShape}
use Rattle.splittable.specs.Nodes.{IsNodeAt, IsNode, HasNodes, IsLeaf}
use Rattle.splittable.specs.Fields.{IsPart}
use Rattle.splittable.specs.Laws.{Meet}
use Rattle.std.proofs.lemmas.Bool.{cases_lt}
use Rattle.splittable.proofs.PartHalves.{part_halves, whole_part}
use Rattle.splittable.proofs.Nodes.{halves_are_nodes}
use Rattle.splittable.proofs.Reached.{half, half_is, Leads, led_to, below}

-- two ways down: where they lead to shares a place, the shorter lies in the longer, and a leaf in any other
record Nests (least : ℕ) (a b : Stretch) : Type 0 where
  shorter : a.len ≤ b.len → LiesIn a b
  leaf : a.len ≤ least → LiesIn a b

nest : (least place : ℕ) (top : Stretch) (wa wb : List Bool) (a b : Stretch) → IsPart top → Leads least top wa a → Leads least top wb b →
    HoldsPlace a place → HoldsPlace b place → Nests least a b
nest least place top [] [] a b h la lb ha hb =
    let first : a.first ≡ b.first = ap (λ (s : Stretch). s.first) (la ∙ sym lb) in
    let len : a.len ≡ b.len = ap (λ (s : Stretch). s.len) (la ∙ sym lb) in
    record { shorter = λ _. (omega arith, omega arith); leaf = λ _. (omega arith, omega arith) }
nest least place top [] (sb ∷ wb) a b h la lb ha hb =
    let first : a.first ≡ top.first = ap (λ (s : Stretch). s.first) la in
    let len : a.len ≡ top.len = ap (λ (s : Stretch). s.len) la in
    let there = (below least top (sb ∷ wb) b h lb).within in
    record { shorter = λ le. (omega (arith, there.0, there.1), omega (arith, there.0, there.1)); leaf = λ le. absurd (omega (arith, lb.1)) }
nest least place top (sa ∷ wa) [] a b h la lb ha hb =
    let first : b.first ≡ top.first = ap (λ (s : Stretch). s.first) lb in
    let len : b.len ≡ top.len = ap (λ (s : Stretch). s.len) lb in
    let there = (below least top (sa ∷ wa) a h la).within in
    record { shorter = λ le. (omega (arith, there.0, there.1), omega (arith, there.0, there.1)); leaf = λ le. (omega (arith, there.0, there.1), omega (arith, there.0, there.1)) }
nest least place top (true ∷ wa) (true ∷ wb) a b h la lb ha hb = nest least place (left_half top) wa wb a b (half_is true top h la.0).is_part la.2 lb.2 ha hb
nest least place top (false ∷ wa) (false ∷ wb) a b h la lb ha hb = nest least place (right_half top) wa wb a b (half_is false top h la.0).is_part la.2 lb.2 ha hb
nest least place top (true ∷ wa) (false ∷ wb) a b h la lb ha hb =
    let left = (below least (left_half top) wa a (half_is true top h la.0).is_part la.2).within in
    let right = (below least (right_half top) wb b (half_is false top h lb.0).is_part lb.2).within in
    absurd (omega (arith, left.1, right.0, ha.1, hb.0))
nest least place top (false ∷ wa) (true ∷ wb) a b h la lb ha hb =
    let right = (below least (right_half top) wa a (half_is false top h la.0).is_part la.2).within in
    let left = (below least (left_half top) wb b (half_is true top h lb.0).is_part lb.2).within in
    absurd (omega (arith, left.1, right.0, hb.1, ha.0))

nests : (lens : List ℕ) (least place da db : ℕ) (a b : Stretch) → IsNodeAt lens least da a → IsNodeAt lens least db b → HoldsPlace a place → HoldsPlace b place → Nests least a b
nests lens least place da db a b na nb ha hb =
    let la = led_to lens least da a na in
    let lb = led_to lens least db b nb in
    nest least place (whole_of lens) la.way lb.way a b (whole_part lens la.some) la.leads lb.leads ha hb

pub shorter_lies_in : (lens : List ℕ) (least place : ℕ) (a b : Stretch) → IsNode lens least a → IsNode lens least b → HoldsPlace a place → HoldsPlace b place → a.len ≤ b.len → LiesIn a b
shorter_lies_in lens least place a b na nb ha hb le =
    ∥∥₁_elim na (hlevel props) (λ xa. ∥∥₁_elim nb (hlevel props) (λ xb. (nests lens least place xa.0 xb.0 a b xa.1 xb.1 ha hb).shorter le))

pub leaf_lies_in : (lens : List ℕ) (least place : ℕ) (a b : Stretch) → IsLeaf lens least a → IsNode lens least b → HoldsPlace a place → HoldsPlace b place → LiesIn a b
leaf_lies_in lens least place a b la nb ha hb =
    ∥∥₁_elim la.0 (hlevel props) (λ xa. ∥∥₁_elim nb (hlevel props) (λ xb. (nests lens least place xa.0 xb.0 a b xa.1 xb.1 ha hb).leaf la.1))

-- the shorter lies in a half of the longer, which is longer than the least part size
record InHalf (least : ℕ) (a b : Stretch) : Type 0 where
  longer : least < b.len
  side : Bool
  within : LiesIn a (half side b)

halved : (least place : ℕ) (top : Stretch) (wa wb : List Bool) (a b : Stretch) → IsPart top → Leads least top wa a → Leads least top wb b →
    HoldsPlace a place → HoldsPlace b place → a.len < b.len → InHalf least a b
halved least place top [] [] a b h la lb ha hb lt =
    let len : a.len ≡ b.len = ap (λ (s : Stretch). s.len) (la ∙ sym lb) in
    absurd (omega (arith, len, lt))
halved least place top [] (sb ∷ wb) a b h la lb ha hb lt =
    let len : a.len ≡ top.len = ap (λ (s : Stretch). s.len) la in
    let there = (below least top (sb ∷ wb) b h lb).within in
    absurd (omega (arith, len, lt, there.0, there.1))
halved least place top (sa ∷ wa) [] a b h la lb ha hb lt =
    let there = below least (half sa top) wa a (half_is sa top h la.0).is_part la.2 in
    let P : Stretch → Type 0 = λ t. InHalf least a t in
    subst P (sym lb) (record { longer = la.1; side = sa; within = there.within })
halved least place top (true ∷ wa) (true ∷ wb) a b h la lb ha hb lt = halved least place (left_half top) wa wb a b (half_is true top h la.0).is_part la.2 lb.2 ha hb lt
halved least place top (false ∷ wa) (false ∷ wb) a b h la lb ha hb lt = halved least place (right_half top) wa wb a b (half_is false top h la.0).is_part la.2 lb.2 ha hb lt
halved least place top (true ∷ wa) (false ∷ wb) a b h la lb ha hb lt =
    let left = (below least (left_half top) wa a (half_is true top h la.0).is_part la.2).within in
    let right = (below least (right_half top) wb b (half_is false top h lb.0).is_part lb.2).within in
    absurd (omega (arith, left.1, right.0, ha.1, hb.0))
halved least place top (false ∷ wa) (true ∷ wb) a b h la lb ha hb lt =
    let right = (below least (right_half top) wa a (half_is false top h la.0).is_part la.2).within in
    let left = (below least (left_half top) wb b (half_is true top h lb.0).is_part lb.2).within in
    absurd (omega (arith, left.1, right.0, hb.1, ha.0))

in_half : (lens : List ℕ) (least place da db : ℕ) (a b : Stretch) → IsNodeAt lens least da a → IsNodeAt lens least db b → HoldsPlace a place → HoldsPlace b place → a.len < b.len → InHalf least a b
in_half lens least place da db a b na nb ha hb lt =
    let la = led_to lens least da a na in
    let lb = led_to lens least db b nb in
    halved least place (whole_of lens) la.way lb.way a b (whole_part lens la.some) la.leads lb.leads ha hb lt

-- which half it is
left_side : (side : Bool) (a b : Stretch) → a.first < (right_half b).first → LiesIn a (half side b) → LiesIn a (left_half b)
left_side true a b lt h = h
left_side false a b lt h = absurd (omega (arith, lt, h.0))

right_side : (side : Bool) (a b : Stretch) → (right_half b).first ≤ a.first → 1 ≤ a.len → LiesIn a (half side b) → LiesIn a (right_half b)
right_side true a b le some h = absurd (omega (arith, le, some, h.1))
right_side false a b le some h = h

pub lies_in_half : (lens : List ℕ) (least : ℕ) (a b : Stretch) → IsNode lens least a → IsNode lens least b → Meet a b → a.len < b.len → LiesIn a (left_half b) ⊎ LiesIn a (right_half b)
lies_in_half lens least a b na nb (place, ha, hb) lt =
    elim (cases_lt a.first (right_half b).first) [
      | inl before ↦ inl (∥∥₁_elim na (hlevel props) (λ xa. ∥∥₁_elim nb (hlevel props) (λ xb.
          let h = in_half lens least place xa.0 xb.0 a b xa.1 xb.1 ha hb lt in left_side h.side a b before h.within)))
      | inr after ↦ inr (∥∥₁_elim na (hlevel props) (λ xa. ∥∥₁_elim nb (hlevel props) (λ xb.
          let h = in_half lens least place xa.0 xb.0 a b xa.1 xb.1 ha hb lt in right_side h.side a b after (omega (arith, ha.0, ha.1)) h.within)))
    ]

pub longer_is_halved : (lens : List ℕ) (least : ℕ) (a b : Stretch) → IsNode lens least a → IsNode lens least b → Meet a b → a.len < b.len → least < b.len
longer_is_halved lens least a b na nb (place, ha, hb) lt =
    ∥∥₁_elim na (hlevel props) (λ xa. ∥∥₁_elim nb (hlevel props) (λ xb. (in_half lens least place xa.0 xb.0 a b xa.1 xb.1 ha hb lt).longer))

AreHalves-prop : (part left right : Stretch) → IsProp (AreHalves part left right)
AreHalves-prop part left right = hlevel props

-- a node is a part of the shape
pub record IsOf (lens : List ℕ) (part : Stretch) : Type 0 where
  pub is_part : IsPart part
  pub same : part.lens ≡ lens

pub node_is_of : (lens : List ℕ) (least depth : ℕ) (part : Stretch) → IsNodeAt lens least depth part → IsOf lens part
node_is_of lens least depth part node =
    let way = led_to lens least depth part node in
    let there = below least (whole_of lens) way.way part (whole_part lens way.some) way.leads in
    record { is_part = there.is_part; same = there.lens }

pub node_lies : (lens : List ℕ) (least : ℕ) (part : Stretch) → IsNode lens least part → LiesInShape lens part
node_lies lens least part node = ∥∥₁_elim node (hlevel props) (λ x.
    let of = node_is_of lens least x.0 part x.1 in
    (of.same, of.is_part.from_one, of.is_part.some, rw (← of.same) of.is_part.within))

pub node_halves : (lens : List ℕ) (least : ℕ) (part : Stretch) → IsNode lens least part → 1 < part.len →
    AreHalves part (left_half part) (right_half part) × HasNodes lens least part (left_half part) (right_half part)
node_halves lens least part node many = (
  ∥∥₁_elim node (AreHalves-prop part (left_half part) (right_half part)) (λ x. (part_halves part (node_is_of lens least x.0 part x.1).is_part many).halves),
  halves_are_nodes lens least part many,
)
