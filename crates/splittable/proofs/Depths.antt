-- How deep nodes lie, and how many leaves there are.
use Rattle.std.proofs.Common.{ℕ, zero, suc, ◌*◌, ◌^◌, ◌≤◌, Bool, List, [], ◌∷◌, length, arith}
use Rattle.std.proofs.Math.Nat.{mul-le-mul_left, pow-suc}
use Rattle.splittable.specs.Places.{item_count}
use Rattle.splittable.specs.Parts.{Stretch, whole_of}
use Rattle.splittable.specs.Nodes.{IsNodeAt, least_part_of}
use Rattle.splittable.specs.Fields.{IsPart}
use Rattle.splittable.proofs.PartHalves.{whole_part}
use Rattle.splittable.proofs.Reached.{half, half_is, Leads, led_to}

-- each halving leaves at most two thirds
short_way : (f least : ℕ) (top : Stretch) (way : List Bool) (part : Stretch) → IsPart top → Leads least top way part → top.len * 2 ^ f ≤ least * 3 ^ f → length way ≤ f
short_way f least top [] part h leads small = omega arith
short_way zero least top (side ∷ way) part h leads small = absurd (omega (arith, leads.1, small))
short_way (suc f) least top (side ∷ way) part h leads small =
    let here = half_is side top h leads.0 in
    let small' : top.len * (2 ^ f * 2) ≤ least * (3 ^ f * 3) = rw (pow-suc 2 f, pow-suc 3 f) at small in
    let two_thirds : 2 ^ f * (3 * (half side top).len) ≤ 2 ^ f * (2 * top.len) = mul-le-mul_left (2 ^ f) here.two_thirds in
    let ih : length way ≤ f = short_way f least (half side top) way part here.is_part leads.2 (omega (arith, two_thirds, small')) in
    omega arith

-- the least part size holds at least the 16,384th part of the count
pub large_least : (base count : ℕ) → count ≤ 16384 * least_part_of base count
large_least base count = omega arith

pub depth_bound : (lens : List ℕ) (least base depth : ℕ) (part : Stretch) → least_part_of base (item_count lens) ≤ least → IsNodeAt lens least depth part → depth ≤ 24
depth_bound lens least base depth part large node =
    let way = led_to lens least depth part node in
    let count : item_count lens ≤ 16384 * least = omega (arith, large, large_least base (item_count lens)) in
    let small : item_count lens * 2 ^ 24 ≤ least * 3 ^ 24 = omega (arith, count) in
    omega (arith, way.steps, short_way 24 least (whole_of lens) way.way part (whole_part lens way.some) way.leads small)
