-- Programs with their first offence, worked by hand. A slash parts the lines.
use Rattle.std.proofs.Common.{◌≡◌, [], ◌∷◌, Some, None, codes, pos, refl, true}
use Rattle.std.specs.Prelude.{negsuc}
use Rattle.loop_data.specs.declared.value.Value.TheVariants as value
use Rattle.loop_data.specs.declared.expr.Op.TheVariants as op
use Rattle.loop_data.specs.declared.expr.Word.TheVariants as word
use Rattle.loop_data.specs.declared.expr.Expr.TheVariants as e
use Rattle.loop_data.specs.declared.tower.Kind.TheVariants as kind
use Rattle.loop_data.specs.declared.tower.TowerExpr.TheVariants as t
use Rattle.loop_data.specs.declared.head.Axis.TheVariants as a
use Rattle.loop_data.specs.declared.statement.Statement.TheVariants as s
use Rattle.legality_rules.specs.Offences.{first_offence}
use Rattle.legality_rules.proofs.Layers.{layers, tower_of-group, tower_of-group-count}
use Rattle.legality_rules.proofs.Trees.{int, from_to, from_by_to, binding, head, nested_head, product_head, head_of, inner, branch, printed, loop, offends}

-- var t = 0 / for x in 1:3 / t = t + x / @reduce s += t / end / print s
carried_variable : first_offence (loop (binding 1 (codes "t") (value.Int (pos 0)) ∷ []) (head 2 ((codes "x") ∷ []) (a.Steps (from_to (int 1) (int 3)))) [] (s.Set 3 (codes "t") (e.Two op.Add (e.Name (codes "t")) (e.Name (codes "x"))) ∷ s.Reduce 4 (codes "s") (t.Leaf kind.Sum (e.Name (codes "t"))) None ∷ []) (printed 6 (codes "s") ∷ [])) ≡ offends 3 3 (codes "t")
carried_variable = simp layers refl

-- for x in 1:3 / @init b = 0 / if x > 2 / b = x / end / @reduce s += b / end / print s
carried_scratch : first_offence (loop [] (head 1 ((codes "x") ∷ []) (a.Steps (from_to (int 1) (int 3)))) (binding 2 (codes "b") (value.Int (pos 0)) ∷ []) (s.If 3 (branch 3 (e.Two op.Gt (e.Name (codes "x")) (int 2)) (s.Set 4 (codes "b") (e.Name (codes "x")) ∷ []) ∷ []) 0 [] 5 ∷ s.Reduce 6 (codes "s") (t.Leaf kind.Sum (e.Name (codes "b"))) None ∷ []) (printed 8 (codes "s") ∷ [])) ≡ offends 6 4 (codes "b")
carried_scratch = simp layers refl

-- for x in 1:3 / @init b = 0 / b = x * 2 / @reduce s += b / end / print s
written_before_read : first_offence (loop [] (head 1 ((codes "x") ∷ []) (a.Steps (from_to (int 1) (int 3)))) (binding 2 (codes "b") (value.Int (pos 0)) ∷ []) (s.Set 3 (codes "b") (e.Two op.Mul (e.Name (codes "x")) (int 2)) ∷ s.Reduce 4 (codes "s") (t.Leaf kind.Sum (e.Name (codes "b"))) None ∷ []) (printed 6 (codes "s") ∷ [])) ≡ None
written_before_read = simp layers refl

-- for p in product(1:65536, 1:65536) / @reduce c = count() / end / print c
product_of_ranges : first_offence (loop [] (product_head 1 ((codes "p") ∷ []) ((a.Steps (from_to (int 1) (int 65536))) ∷ (a.Steps (from_to (int 1) (int 65536))) ∷ [])) [] (s.Reduce 2 (codes "c") t.Count None ∷ []) (printed 4 (codes "c") ∷ [])) ≡ None
product_of_ranges = simp layers refl

-- for x in 1:2 / let y = z / @reduce s += y / end / print s
unknown_name : first_offence (loop [] (head 1 ((codes "x") ∷ []) (a.Steps (from_to (int 1) (int 2)))) [] (s.Let 2 ((codes "y") ∷ []) (e.Name (codes "z")) ∷ s.Reduce 3 (codes "s") (t.Leaf kind.Sum (e.Name (codes "y"))) None ∷ []) (printed 5 (codes "s") ∷ [])) ≡ offends 2 1 (codes "z")
unknown_name = simp layers refl

-- for x in 1:2 / @reduce s += x / let y = s / end / print s
reducer_read : first_offence (loop [] (head 1 ((codes "x") ∷ []) (a.Steps (from_to (int 1) (int 2)))) [] (s.Reduce 2 (codes "s") (t.Leaf kind.Sum (e.Name (codes "x"))) None ∷ s.Let 3 ((codes "y") ∷ []) (e.Name (codes "s")) ∷ []) (printed 5 (codes "s") ∷ [])) ≡ offends 3 5 (codes "s")
reducer_read = simp layers refl

-- for x in 1:2 / @reduce s = count() from 1 / end / print s
start_of_count : first_offence (loop [] (head 1 ((codes "x") ∷ []) (a.Steps (from_to (int 1) (int 2)))) [] (s.Reduce 2 (codes "s") t.Count (Some (value.Int (pos 1))) ∷ []) (printed 4 (codes "s") ∷ [])) ≡ offends 2 8 (codes "s")
start_of_count = simp layers refl

-- for x in 1:2 / if x > 1 / let y = 1 / else / let y = 2 / end / end
let_in_two_branches : first_offence (loop [] (head 1 ((codes "x") ∷ []) (a.Steps (from_to (int 1) (int 2)))) [] (s.If 2 (branch 2 (e.Two op.Gt (e.Name (codes "x")) (int 1)) (s.Let 3 ((codes "y") ∷ []) (int 1) ∷ []) ∷ []) 4 (s.Let 5 ((codes "y") ∷ []) (int 2) ∷ []) 6 ∷ []) []) ≡ offends 5 2 (codes "y")
let_in_two_branches = simp layers refl

-- for x in 1:2 / @reduce y += x / let y = 1 / end
let_after_reduce : first_offence (loop [] (head 1 ((codes "x") ∷ []) (a.Steps (from_to (int 1) (int 2)))) [] (s.Reduce 2 (codes "y") (t.Leaf kind.Sum (e.Name (codes "x"))) None ∷ s.Let 3 ((codes "y") ∷ []) (int 1) ∷ []) []) ≡ offends 3 2 (codes "y")
let_after_reduce = simp layers refl

-- for x in 1:2 / let y = 1 / @reduce y += x / end
reduce_after_let : first_offence (loop [] (head 1 ((codes "x") ∷ []) (a.Steps (from_to (int 1) (int 2)))) [] (s.Let 2 ((codes "y") ∷ []) (int 1) ∷ s.Reduce 3 (codes "y") (t.Leaf kind.Sum (e.Name (codes "x"))) None ∷ []) []) ≡ offends 3 2 (codes "y")
reduce_after_let = simp layers refl

-- for x in 1:2 / @init b = 0 / let y = x > 0 or b > 1 / b = x / end
side_that_might_not_be_evaluated : first_offence (loop [] (head 1 ((codes "x") ∷ []) (a.Steps (from_to (int 1) (int 2)))) (binding 2 (codes "b") (value.Int (pos 0)) ∷ []) (s.Let 3 ((codes "y") ∷ []) (e.Two op.Or (e.Two op.Gt (e.Name (codes "x")) (int 0)) (e.Two op.Gt (e.Name (codes "b")) (int 1))) ∷ s.Set 4 (codes "b") (e.Name (codes "x")) ∷ []) []) ≡ offends 3 4 (codes "b")
side_that_might_not_be_evaluated = simp layers refl

-- for x in 1:2 / @init b = 0 / if x > 1 / b = 1 / elseif b > 1 / b = 2 / end / end
read_in_a_later_condition : first_offence (loop [] (head 1 ((codes "x") ∷ []) (a.Steps (from_to (int 1) (int 2)))) (binding 2 (codes "b") (value.Int (pos 0)) ∷ []) (s.If 3 (branch 3 (e.Two op.Gt (e.Name (codes "x")) (int 1)) (s.Set 4 (codes "b") (int 1) ∷ []) ∷ branch 5 (e.Two op.Gt (e.Name (codes "b")) (int 1)) (s.Set 6 (codes "b") (int 2) ∷ []) ∷ []) 0 [] 7 ∷ []) []) ≡ offends 5 4 (codes "b")
read_in_a_later_condition = simp layers refl

-- for x in 1:2 / @init b = 0 / @reduce s += b / continue / b = 1 / end
write_in_dead_code : first_offence (loop [] (head 1 ((codes "x") ∷ []) (a.Steps (from_to (int 1) (int 2)))) (binding 2 (codes "b") (value.Int (pos 0)) ∷ []) (s.Reduce 3 (codes "s") (t.Leaf kind.Sum (e.Name (codes "b"))) None ∷ s.Continue 4 ∷ s.Set 5 (codes "b") (int 1) ∷ []) []) ≡ offends 3 4 (codes "b")
write_in_dead_code = simp layers refl

-- for x in 1:2 / @init b = 0 / if x > 1 / break / @reduce s += b / end / b = x / end
read_in_dead_code : first_offence (loop [] (head 1 ((codes "x") ∷ []) (a.Steps (from_to (int 1) (int 2)))) (binding 2 (codes "b") (value.Int (pos 0)) ∷ []) (s.If 3 (branch 3 (e.Two op.Gt (e.Name (codes "x")) (int 1)) (s.Break 4 ∷ s.Reduce 5 (codes "s") (t.Leaf kind.Sum (e.Name (codes "b"))) None ∷ []) ∷ []) 0 [] 6 ∷ s.Set 7 (codes "b") (e.Name (codes "x")) ∷ []) []) ≡ None
read_in_dead_code = simp layers refl

-- for (x, y) in zip(1:2, 1:3), z in 1:true / end
bound_of_an_inner_head : first_offence (loop [] (nested_head 1 ((codes "x") ∷ (codes "y") ∷ []) (a.Zip ((a.Steps (from_to (int 1) (int 2))) ∷ (a.Steps (from_to (int 1) (int 3))) ∷ [])) (inner (codes "z") (from_to (int 1) (e.Lit (value.Bool true))) ∷ [])) [] [] []) ≡ offends 1 7 (codes "x")
bound_of_an_inner_head = simp layers refl

-- for x in 1:2 / if true / elseif x / end / end
condition_of_elseif : first_offence (loop [] (head 1 ((codes "x") ∷ []) (a.Steps (from_to (int 1) (int 2)))) [] (s.If 2 (branch 2 (e.Lit (value.Bool true)) [] ∷ branch 3 (e.Name (codes "x")) [] ∷ []) 0 [] 4 ∷ []) []) ≡ offends 3 7 (codes "elseif")
condition_of_elseif = simp layers refl

-- for x in 1:2 / if x / end / end
condition_of_if : first_offence (loop [] (head 1 ((codes "x") ∷ []) (a.Steps (from_to (int 1) (int 2)))) [] (s.If 2 (branch 2 (e.Name (codes "x")) [] ∷ []) 0 [] 3 ∷ []) []) ≡ offends 2 7 (codes "if")
condition_of_if = simp layers refl

-- for x in 1:zz / end
unknown_bound : first_offence (loop [] (head 1 ((codes "x") ∷ []) (a.Steps (from_to (int 1) (e.Name (codes "zz"))))) [] [] []) ≡ offends 1 1 (codes "zz")
unknown_bound = simp layers refl

-- for x in 1:x / end
pattern_in_its_own_head : first_offence (loop [] (head 1 ((codes "x") ∷ []) (a.Steps (from_to (int 1) (e.Name (codes "x"))))) [] [] []) ≡ offends 1 1 (codes "x")
pattern_in_its_own_head = simp layers refl

-- for x in 1:place / end
place_as_bound : first_offence (loop [] (head 1 ((codes "x") ∷ []) (a.Steps (from_to (int 1) e.Place))) [] [] []) ≡ offends 1 9 (codes "for")
place_as_bound = simp layers refl

-- var k = 3 / for x in 1:k + 0 / end
sum_as_bound : first_offence (loop (binding 1 (codes "k") (value.Int (pos 3)) ∷ []) (head 2 ((codes "x") ∷ []) (a.Steps (from_to (int 1) (e.Two op.Add (e.Name (codes "k")) (int 0))))) [] [] []) ≡ offends 2 9 (codes "for")
sum_as_bound = simp layers refl

-- for x in - -1:3 / end
minus_of_a_literal_as_bound : first_offence (loop [] (head 1 ((codes "x") ∷ []) (a.Steps (from_to (e.Neg (e.Lit (value.Int (negsuc 0)))) (int 3)))) [] [] []) ≡ offends 1 9 (codes "for")
minus_of_a_literal_as_bound = simp layers refl

-- var k = 3 / for x in 1:(k) / end
variable_as_bound : first_offence (loop (binding 1 (codes "k") (value.Int (pos 3)) ∷ []) (head 2 ((codes "x") ∷ []) (a.Steps (from_to (int 1) (e.Name (codes "k"))))) [] [] []) ≡ None
variable_as_bound = simp layers refl

-- for x in 1:true / end
truth_as_bound : first_offence (loop [] (head 1 ((codes "x") ∷ []) (a.Steps (from_to (int 1) (e.Lit (value.Bool true))))) [] [] []) ≡ offends 1 7 (codes "x")
truth_as_bound = simp layers refl

-- for x in 1:2 / @reduce g = group(text(x), sum(x)) / @reduce g = group(text(x + 1), sum(2)) / end
towers_with_other_keys : first_offence (loop [] (head 1 ((codes "x") ∷ []) (a.Steps (from_to (int 1) (int 2)))) [] (s.Reduce 2 (codes "g") (t.Grouped (e.Call word.Text (e.Name (codes "x"))) (t.Leaf kind.Sum (e.Name (codes "x")))) None ∷ s.Reduce 3 (codes "g") (t.Grouped (e.Call word.Text (e.Two op.Add (e.Name (codes "x")) (int 1))) (t.Leaf kind.Sum (int 2))) None ∷ []) []) ≡ None
towers_with_other_keys = simp (tower_of-group, layers) refl

-- for x in 1:2 / @reduce s += x / @reduce s = count() / end
another_tower : first_offence (loop [] (head 1 ((codes "x") ∷ []) (a.Steps (from_to (int 1) (int 2)))) [] (s.Reduce 2 (codes "s") (t.Leaf kind.Sum (e.Name (codes "x"))) None ∷ s.Reduce 3 (codes "s") t.Count None ∷ []) []) ≡ offends 3 6 (codes "s")
another_tower = simp layers refl

-- for x in 1:2 / @reduce s = first(x) / @reduce s = first(text(x)) / end
other_input_kinds : first_offence (loop [] (head 1 ((codes "x") ∷ []) (a.Steps (from_to (int 1) (int 2)))) [] (s.Reduce 2 (codes "s") (t.Leaf kind.First (e.Name (codes "x"))) None ∷ s.Reduce 3 (codes "s") (t.Leaf kind.First (e.Call word.Text (e.Name (codes "x")))) None ∷ []) []) ≡ offends 3 6 (codes "s")
other_input_kinds = simp layers refl

-- for x in 1:2 / @reduce s = sum(x) from 1 / @reduce s = sum(x) / end
start_aside : first_offence (loop [] (head 1 ((codes "x") ∷ []) (a.Steps (from_to (int 1) (int 2)))) [] (s.Reduce 2 (codes "s") (t.Leaf kind.Sum (e.Name (codes "x"))) (Some (value.Int (pos 1))) ∷ s.Reduce 3 (codes "s") (t.Leaf kind.Sum (e.Name (codes "x"))) None ∷ []) []) ≡ None
start_aside = simp layers refl

-- for x in 1:2 / @reduce s = sum(x) / @reduce s = sum(x) from 1 / end
start_on_the_second_line : first_offence (loop [] (head 1 ((codes "x") ∷ []) (a.Steps (from_to (int 1) (int 2)))) [] (s.Reduce 2 (codes "s") (t.Leaf kind.Sum (e.Name (codes "x"))) None ∷ s.Reduce 3 (codes "s") (t.Leaf kind.Sum (e.Name (codes "x"))) (Some (value.Int (pos 1))) ∷ []) []) ≡ offends 3 8 (codes "s")
start_on_the_second_line = simp layers refl

-- for x in 1:2 / @reduce s = sum(x) from true / end
start_of_another_kind : first_offence (loop [] (head 1 ((codes "x") ∷ []) (a.Steps (from_to (int 1) (int 2)))) [] (s.Reduce 2 (codes "s") (t.Leaf kind.Sum (e.Name (codes "x"))) (Some (value.Bool true)) ∷ []) []) ≡ offends 2 7 (codes "s")
start_of_another_kind = simp layers refl

-- for t in col("v") / let y = tryint(t) / end
maybe_bound_by_let : first_offence (loop [] (head 1 ((codes "t") ∷ []) (a.Col (codes "v"))) [] (s.Let 2 ((codes "y") ∷ []) (e.Call word.TryInt (e.Name (codes "t"))) ∷ []) []) ≡ None
maybe_bound_by_let = simp layers refl

-- for x in 1:2 / let y = 1 / if x > 1 / y = 2 / end / @reduce s += y / end
local_name_assigned : first_offence (loop [] (head 1 ((codes "x") ∷ []) (a.Steps (from_to (int 1) (int 2)))) [] (s.Let 2 ((codes "y") ∷ []) (int 1) ∷ s.If 3 (branch 3 (e.Two op.Gt (e.Name (codes "x")) (int 1)) (s.Set 4 (codes "y") (int 2) ∷ []) ∷ []) 0 [] 5 ∷ s.Reduce 6 (codes "s") (t.Leaf kind.Sum (e.Name (codes "y"))) None ∷ []) []) ≡ None
local_name_assigned = simp layers refl

-- for x in 1:2 / x = 1 / end
loop_variable_assigned : first_offence (loop [] (head 1 ((codes "x") ∷ []) (a.Steps (from_to (int 1) (int 2)))) [] (s.Set 2 (codes "x") (int 1) ∷ []) []) ≡ offends 2 2 (codes "x")
loop_variable_assigned = simp layers refl

-- for x in 1:2 / if x > 1 / let y = 1 / end / @reduce s += y / end
name_after_its_block : first_offence (loop [] (head 1 ((codes "x") ∷ []) (a.Steps (from_to (int 1) (int 2)))) [] (s.If 2 (branch 2 (e.Two op.Gt (e.Name (codes "x")) (int 1)) (s.Let 3 ((codes "y") ∷ []) (int 1) ∷ []) ∷ []) 0 [] 4 ∷ s.Reduce 5 (codes "s") (t.Leaf kind.Sum (e.Name (codes "y"))) None ∷ []) []) ≡ offends 5 1 (codes "y")
name_after_its_block = simp layers refl

-- for x in 1:2 / @init b = 0 / if x > 1 / b = 1 / else / b = 2 / end / @reduce s += b / end
written_in_all_branches : first_offence (loop [] (head 1 ((codes "x") ∷ []) (a.Steps (from_to (int 1) (int 2)))) (binding 2 (codes "b") (value.Int (pos 0)) ∷ []) (s.If 3 (branch 3 (e.Two op.Gt (e.Name (codes "x")) (int 1)) (s.Set 4 (codes "b") (int 1) ∷ []) ∷ []) 5 (s.Set 6 (codes "b") (int 2) ∷ []) 7 ∷ s.Reduce 8 (codes "s") (t.Leaf kind.Sum (e.Name (codes "b"))) None ∷ []) []) ≡ None
written_in_all_branches = simp layers refl

-- for x in 1:2 / @init b = 0 / @keep n = tryint(text(x)) / b = n / @reduce s += b / end
written_after_keep : first_offence (loop [] (head 1 ((codes "x") ∷ []) (a.Steps (from_to (int 1) (int 2)))) (binding 2 (codes "b") (value.Int (pos 0)) ∷ []) (s.Keep 3 (codes "n") (e.Call word.TryInt (e.Call word.Text (e.Name (codes "x")))) ∷ s.Set 4 (codes "b") (e.Name (codes "n")) ∷ s.Reduce 5 (codes "s") (t.Leaf kind.Sum (e.Name (codes "b"))) None ∷ []) []) ≡ None
written_after_keep = simp layers refl

-- for x in 1:2 / @init b = 0 / b = b + x / end
read_and_written_at_once : first_offence (loop [] (head 1 ((codes "x") ∷ []) (a.Steps (from_to (int 1) (int 2)))) (binding 2 (codes "b") (value.Int (pos 0)) ∷ []) (s.Set 3 (codes "b") (e.Two op.Add (e.Name (codes "b")) (e.Name (codes "x"))) ∷ []) []) ≡ offends 3 4 (codes "b")
read_and_written_at_once = simp layers refl

-- for x in 1:2 / @init b = 1 / @reduce s += b / end
scratch_never_written : first_offence (loop [] (head 1 ((codes "x") ∷ []) (a.Steps (from_to (int 1) (int 2)))) (binding 2 (codes "b") (value.Int (pos 1)) ∷ []) (s.Reduce 3 (codes "s") (t.Leaf kind.Sum (e.Name (codes "b"))) None ∷ []) []) ≡ None
scratch_never_written = simp layers refl

-- for x in 1:2, y in 1:b / @init b = 1 / b = x / end
scratch_in_an_inner_head : first_offence (loop [] (nested_head 1 ((codes "x") ∷ []) (a.Steps (from_to (int 1) (int 2))) (inner (codes "y") (from_to (int 1) (e.Name (codes "b"))) ∷ [])) (binding 2 (codes "b") (value.Int (pos 1)) ∷ []) (s.Set 3 (codes "b") (e.Name (codes "x")) ∷ []) []) ≡ offends 1 1 (codes "b")
scratch_in_an_inner_head = simp layers refl

-- for x in 1:2 / let x = z / end
least_number_first : first_offence (loop [] (head 1 ((codes "x") ∷ []) (a.Steps (from_to (int 1) (int 2)))) [] (s.Let 2 ((codes "x") ∷ []) (e.Name (codes "z")) ∷ []) []) ≡ offends 2 1 (codes "z")
least_number_first = simp layers refl

-- for x in 1:2 / let y = (z, w) / end
leftmost_name : first_offence (loop [] (head 1 ((codes "x") ∷ []) (a.Steps (from_to (int 1) (int 2)))) [] (s.Let 2 ((codes "y") ∷ []) (e.Tuple ((e.Name (codes "z")) ∷ (e.Name (codes "w")) ∷ [])) ∷ []) []) ≡ offends 2 1 (codes "z")
leftmost_name = simp layers refl

-- for x in 1:2 / end / print x
name_printed : first_offence (loop [] (head 1 ((codes "x") ∷ []) (a.Steps (from_to (int 1) (int 2)))) [] [] (printed 3 (codes "x") ∷ [])) ≡ offends 3 1 (codes "x")
name_printed = simp layers refl

-- for (t, n) in zip(col("v"), 1:3) / @reduce s += t / end
column_and_pattern : first_offence (loop [] (head 1 ((codes "t") ∷ (codes "n") ∷ []) (a.Zip ((a.Col (codes "v")) ∷ (a.Steps (from_to (int 1) (int 3))) ∷ []))) [] (s.Reduce 2 (codes "s") (t.Leaf kind.Sum (e.Name (codes "t"))) None ∷ []) []) ≡ offends 2 7 (codes "s")
column_and_pattern = simp layers refl

-- for x in 1:2 / x = z / end
unknown_before_bound_twice_of_a_place_left_of_it : first_offence (loop [] (head 1 ((codes "x") ∷ []) (a.Steps (from_to (int 1) (int 2)))) [] (s.Set 2 (codes "x") (e.Name (codes "z")) ∷ []) []) ≡ offends 2 1 (codes "z")
unknown_before_bound_twice_of_a_place_left_of_it = simp layers refl

-- var t = 0 / for x in 1:2 / t = z / end
unknown_before_carried_variable : first_offence (loop (binding 1 (codes "t") (value.Int (pos 0)) ∷ []) (head 2 ((codes "x") ∷ []) (a.Steps (from_to (int 1) (int 2)))) [] (s.Set 3 (codes "t") (e.Name (codes "z")) ∷ []) []) ≡ offends 3 1 (codes "z")
unknown_before_carried_variable = simp layers refl

-- for x in 1:2 / @reduce s += x / let y = (s, z) / end
unknown_before_reducer_left_of_it : first_offence (loop [] (head 1 ((codes "x") ∷ []) (a.Steps (from_to (int 1) (int 2)))) [] (s.Reduce 2 (codes "s") (t.Leaf kind.Sum (e.Name (codes "x"))) None ∷ s.Let 3 ((codes "y") ∷ []) (e.Tuple ((e.Name (codes "s")) ∷ (e.Name (codes "z")) ∷ [])) ∷ []) []) ≡ offends 3 1 (codes "z")
unknown_before_reducer_left_of_it = simp layers refl

-- for x in 1:zz + 0 / end
unknown_before_head : first_offence (loop [] (head 1 ((codes "x") ∷ []) (a.Steps (from_to (int 1) (e.Two op.Add (e.Name (codes "zz")) (int 0))))) [] [] []) ≡ offends 1 1 (codes "zz")
unknown_before_head = simp layers refl

-- for x in 1:2 / @init b = 0 / let b = b / b = 1 / end
bound_twice_before_carried_scratch : first_offence (loop [] (head 1 ((codes "x") ∷ []) (a.Steps (from_to (int 1) (int 2)))) (binding 2 (codes "b") (value.Int (pos 0)) ∷ []) (s.Let 3 ((codes "b") ∷ []) (e.Name (codes "b")) ∷ s.Set 4 (codes "b") (int 1) ∷ []) []) ≡ offends 3 2 (codes "b")
bound_twice_before_carried_scratch = simp layers refl

-- for x in 1:2 / x = 1 / @reduce x += 1 / end
bound_twice_before_reducer : first_offence (loop [] (head 1 ((codes "x") ∷ []) (a.Steps (from_to (int 1) (int 2)))) [] (s.Set 2 (codes "x") (int 1) ∷ s.Reduce 3 (codes "x") (t.Leaf kind.Sum (int 1)) None ∷ []) []) ≡ offends 2 2 (codes "x")
bound_twice_before_reducer = simp layers refl

-- for x in 1:2 / let x = 1 + true / end
bound_twice_before_type : first_offence (loop [] (head 1 ((codes "x") ∷ []) (a.Steps (from_to (int 1) (int 2)))) [] (s.Let 2 ((codes "x") ∷ []) (e.Two op.Add (int 1) (e.Lit (value.Bool true))) ∷ []) []) ≡ offends 2 2 (codes "x")
bound_twice_before_type = simp layers refl

-- for x in 1:2 / let s = 1 / @reduce s = count() from 1 / end
bound_twice_before_start : first_offence (loop [] (head 1 ((codes "x") ∷ []) (a.Steps (from_to (int 1) (int 2)))) [] (s.Let 2 ((codes "s") ∷ []) (int 1) ∷ s.Reduce 3 (codes "s") t.Count (Some (value.Int (pos 1))) ∷ []) []) ≡ offends 3 2 (codes "s")
bound_twice_before_start = simp layers refl

-- for (x, x) in zip(1:place, 1:2) / end
bound_twice_before_head : first_offence (loop [] (head 1 ((codes "x") ∷ (codes "x") ∷ []) (a.Zip ((a.Steps (from_to (int 1) e.Place)) ∷ (a.Steps (from_to (int 1) (int 2))) ∷ []))) [] [] []) ≡ offends 1 2 (codes "x")
bound_twice_before_head = simp layers refl

-- var s = 0 / for x in 1:2 / s = 1 / @reduce s += x / end
carried_variable_before_reducer : first_offence (loop (binding 1 (codes "s") (value.Int (pos 0)) ∷ []) (head 2 ((codes "x") ∷ []) (a.Steps (from_to (int 1) (int 2)))) [] (s.Set 3 (codes "s") (int 1) ∷ s.Reduce 4 (codes "s") (t.Leaf kind.Sum (e.Name (codes "x"))) None ∷ []) []) ≡ offends 3 3 (codes "s")
carried_variable_before_reducer = simp layers refl

-- var t = 0 / for x in 1:2 / t = true / end
carried_variable_before_type : first_offence (loop (binding 1 (codes "t") (value.Int (pos 0)) ∷ []) (head 2 ((codes "x") ∷ []) (a.Steps (from_to (int 1) (int 2)))) [] (s.Set 3 (codes "t") (e.Lit (value.Bool true)) ∷ []) []) ≡ offends 3 3 (codes "t")
carried_variable_before_type = simp layers refl

-- for x in 1:2 / @init b = 0 / let y = b / b = 1 / @reduce b += x / end
carried_scratch_before_reducer : first_offence (loop [] (head 1 ((codes "x") ∷ []) (a.Steps (from_to (int 1) (int 2)))) (binding 2 (codes "b") (value.Int (pos 0)) ∷ []) (s.Let 3 ((codes "y") ∷ []) (e.Name (codes "b")) ∷ s.Set 4 (codes "b") (int 1) ∷ s.Reduce 5 (codes "b") (t.Leaf kind.Sum (e.Name (codes "x"))) None ∷ []) []) ≡ offends 3 4 (codes "b")
carried_scratch_before_reducer = simp layers refl

-- for x in 1:2 / @init b = 0 / @reduce s += x / @reduce s = max(b) / b = 1 / end
carried_scratch_before_tower : first_offence (loop [] (head 1 ((codes "x") ∷ []) (a.Steps (from_to (int 1) (int 2)))) (binding 2 (codes "b") (value.Int (pos 0)) ∷ []) (s.Reduce 3 (codes "s") (t.Leaf kind.Sum (e.Name (codes "x"))) None ∷ s.Reduce 4 (codes "s") (t.Leaf kind.Greatest (e.Name (codes "b"))) None ∷ s.Set 5 (codes "b") (int 1) ∷ []) []) ≡ offends 4 4 (codes "b")
carried_scratch_before_tower = simp layers refl

-- for x in 1:2 / @init b = 0 / b = b & text(x) / end
carried_scratch_before_type : first_offence (loop [] (head 1 ((codes "x") ∷ []) (a.Steps (from_to (int 1) (int 2)))) (binding 2 (codes "b") (value.Int (pos 0)) ∷ []) (s.Set 3 (codes "b") (e.Two op.Join (e.Name (codes "b")) (e.Call word.Text (e.Name (codes "x")))) ∷ []) []) ≡ offends 3 4 (codes "b")
carried_scratch_before_type = simp layers refl

-- for x in 1:2 / @reduce s += x / @reduce s = max(s) / end
reducer_before_tower : first_offence (loop [] (head 1 ((codes "x") ∷ []) (a.Steps (from_to (int 1) (int 2)))) [] (s.Reduce 2 (codes "s") (t.Leaf kind.Sum (e.Name (codes "x"))) None ∷ s.Reduce 3 (codes "s") (t.Leaf kind.Greatest (e.Name (codes "s"))) None ∷ []) []) ≡ offends 3 5 (codes "s")
reducer_before_tower = simp layers refl

-- for x in 1:2 / @reduce s = sum(s) from true / end
reducer_before_start : first_offence (loop [] (head 1 ((codes "x") ∷ []) (a.Steps (from_to (int 1) (int 2)))) [] (s.Reduce 2 (codes "s") (t.Leaf kind.Sum (e.Name (codes "s"))) (Some (value.Bool true)) ∷ []) []) ≡ offends 2 5 (codes "s")
reducer_before_start = simp layers refl

-- for x in 1:s + 0 / @reduce s += x / end
reducer_before_head : first_offence (loop [] (head 1 ((codes "x") ∷ []) (a.Steps (from_to (int 1) (e.Two op.Add (e.Name (codes "s")) (int 0))))) [] (s.Reduce 2 (codes "s") (t.Leaf kind.Sum (e.Name (codes "x"))) None ∷ []) []) ≡ offends 1 5 (codes "s")
reducer_before_head = simp layers refl

-- for x in 1:2 / @reduce s += x / @reduce s = any(x) / end
tower_before_type : first_offence (loop [] (head 1 ((codes "x") ∷ []) (a.Steps (from_to (int 1) (int 2)))) [] (s.Reduce 2 (codes "s") (t.Leaf kind.Sum (e.Name (codes "x"))) None ∷ s.Reduce 3 (codes "s") (t.Leaf kind.Any (e.Name (codes "x"))) None ∷ []) []) ≡ offends 3 6 (codes "s")
tower_before_type = simp layers refl

-- for x in 1:2 / @reduce s += x / @reduce s = count() from 1 / end
tower_before_start : first_offence (loop [] (head 1 ((codes "x") ∷ []) (a.Steps (from_to (int 1) (int 2)))) [] (s.Reduce 2 (codes "s") (t.Leaf kind.Sum (e.Name (codes "x"))) None ∷ s.Reduce 3 (codes "s") t.Count (Some (value.Int (pos 1))) ∷ []) []) ≡ offends 3 6 (codes "s")
tower_before_start = simp layers refl

-- for x in 1:2 / @reduce s = group(x, count()) from 1 / end
type_before_start : first_offence (loop [] (head 1 ((codes "x") ∷ []) (a.Steps (from_to (int 1) (int 2)))) [] (s.Reduce 2 (codes "s") (t.Grouped (e.Name (codes "x")) t.Count) (Some (value.Int (pos 1))) ∷ []) []) ≡ offends 2 7 (codes "s")
type_before_start = simp (tower_of-group-count, layers) refl

-- for x in 1:true + 0 / end
type_before_head : first_offence (loop [] (head 1 ((codes "x") ∷ []) (a.Steps (from_to (int 1) (e.Two op.Add (e.Lit (value.Bool true)) (int 0))))) [] [] []) ≡ offends 1 7 (codes "x")
type_before_head = simp layers refl

-- for x in 1:2 / @reduce s = argmin(x) from true / end
start_of_another_kind_where_it_may_not_stand : first_offence (loop [] (head 1 ((codes "x") ∷ []) (a.Steps (from_to (int 1) (int 2)))) [] (s.Reduce 2 (codes "s") (t.Leaf kind.LeastAt (e.Name (codes "x"))) (Some (value.Bool true)) ∷ []) []) ≡ offends 2 8 (codes "s")
start_of_another_kind_where_it_may_not_stand = simp layers refl

-- for x in 1:2 / @reduce s = first(x) / @reduce s = first(tryint(text(x))) / end
input_of_a_wrong_kind_on_the_second_line : first_offence (loop [] (head 1 ((codes "x") ∷ []) (a.Steps (from_to (int 1) (int 2)))) [] (s.Reduce 2 (codes "s") (t.Leaf kind.First (e.Name (codes "x"))) None ∷ s.Reduce 3 (codes "s") (t.Leaf kind.First (e.Call word.TryInt (e.Call word.Text (e.Name (codes "x"))))) None ∷ []) []) ≡ offends 3 7 (codes "s")
input_of_a_wrong_kind_on_the_second_line = simp layers refl

-- for x in 1:2 / @init b = 0 / if x > 1 / b = 1 / elseif x > 0 / let y = 1 / else / b = 2 / end / @reduce s += b / end
written_in_all_branches_but_one : first_offence (loop [] (head 1 ((codes "x") ∷ []) (a.Steps (from_to (int 1) (int 2)))) (binding 2 (codes "b") (value.Int (pos 0)) ∷ []) (s.If 3 (branch 3 (e.Two op.Gt (e.Name (codes "x")) (int 1)) (s.Set 4 (codes "b") (int 1) ∷ []) ∷ branch 5 (e.Two op.Gt (e.Name (codes "x")) (int 0)) (s.Let 6 ((codes "y") ∷ []) (int 1) ∷ []) ∷ []) 7 (s.Set 8 (codes "b") (int 2) ∷ []) 9 ∷ s.Reduce 10 (codes "s") (t.Leaf kind.Sum (e.Name (codes "b"))) None ∷ []) []) ≡ offends 10 4 (codes "b")
written_in_all_branches_but_one = simp layers refl

-- for x in 1:2 / @init b = 0 / if x > 1 / b = 1 / else / continue / end / @reduce s += b / end
branch_that_ends : first_offence (loop [] (head 1 ((codes "x") ∷ []) (a.Steps (from_to (int 1) (int 2)))) (binding 2 (codes "b") (value.Int (pos 0)) ∷ []) (s.If 3 (branch 3 (e.Two op.Gt (e.Name (codes "x")) (int 1)) (s.Set 4 (codes "b") (int 1) ∷ []) ∷ []) 5 (s.Continue 6 ∷ []) 7 ∷ s.Reduce 8 (codes "s") (t.Leaf kind.Sum (e.Name (codes "b"))) None ∷ []) []) ≡ None
branch_that_ends = simp layers refl

-- for x in 1:2 / @init b = 0 / @keep n = tryint(text(x)) / let y = b + n / b = 1 / end
written_only_where_kept : first_offence (loop [] (head 1 ((codes "x") ∷ []) (a.Steps (from_to (int 1) (int 2)))) (binding 2 (codes "b") (value.Int (pos 0)) ∷ []) (s.Keep 3 (codes "n") (e.Call word.TryInt (e.Call word.Text (e.Name (codes "x")))) ∷ s.Let 4 ((codes "y") ∷ []) (e.Two op.Add (e.Name (codes "b")) (e.Name (codes "n"))) ∷ s.Set 5 (codes "b") (int 1) ∷ []) []) ≡ offends 4 4 (codes "b")
written_only_where_kept = simp layers refl

-- for x in 1:2 / @reduce s += x / s = 1 / end
reducer_assigned : first_offence (loop [] (head 1 ((codes "x") ∷ []) (a.Steps (from_to (int 1) (int 2)))) [] (s.Reduce 2 (codes "s") (t.Leaf kind.Sum (e.Name (codes "x"))) None ∷ s.Set 3 (codes "s") (int 1) ∷ []) []) ≡ offends 3 5 (codes "s")
reducer_assigned = simp layers refl

-- for x in 1:2 / @reduce s = sum(s + x) / end
reducer_read_in_its_own_line : first_offence (loop [] (head 1 ((codes "x") ∷ []) (a.Steps (from_to (int 1) (int 2)))) [] (s.Reduce 2 (codes "s") (t.Leaf kind.Sum (e.Two op.Add (e.Name (codes "s")) (e.Name (codes "x")))) None ∷ []) []) ≡ offends 2 5 (codes "s")
reducer_read_in_its_own_line = simp layers refl

-- for x in 1:2, y in 1:s / @reduce s += x / end
reducer_read_in_the_head : first_offence (loop [] (nested_head 1 ((codes "x") ∷ []) (a.Steps (from_to (int 1) (int 2))) (inner (codes "y") (from_to (int 1) (e.Name (codes "s"))) ∷ [])) [] (s.Reduce 2 (codes "s") (t.Leaf kind.Sum (e.Name (codes "x"))) None ∷ []) []) ≡ offends 1 5 (codes "s")
reducer_read_in_the_head = simp layers refl

-- for (x, y) in product(1:2, 1:3), z in x:y / @reduce s += z / end
later_head_reads_the_pattern : first_offence (loop [] (head_of 1 ((codes "x") ∷ (codes "y") ∷ []) ((a.Steps (from_to (int 1) (int 2))) ∷ (a.Steps (from_to (int 1) (int 3))) ∷ []) true (inner (codes "z") (from_to (e.Name (codes "x")) (e.Name (codes "y"))) ∷ [])) [] (s.Reduce 2 (codes "s") (t.Leaf kind.Sum (e.Name (codes "z"))) None ∷ []) []) ≡ None
later_head_reads_the_pattern = simp layers refl

-- for x in 1:2, y in 1:y / end
inner_head_reads_itself : first_offence (loop [] (nested_head 1 ((codes "x") ∷ []) (a.Steps (from_to (int 1) (int 2))) (inner (codes "y") (from_to (int 1) (e.Name (codes "y"))) ∷ [])) [] [] []) ≡ offends 1 1 (codes "y")
inner_head_reads_itself = simp layers refl

-- for x in 1:2, x in 1:3 / end
inner_head_of_a_bound_name : first_offence (loop [] (nested_head 1 ((codes "x") ∷ []) (a.Steps (from_to (int 1) (int 2))) (inner (codes "x") (from_to (int 1) (int 3)) ∷ [])) [] [] []) ≡ offends 1 2 (codes "x")
inner_head_of_a_bound_name = simp layers refl

-- for (x, y, z) in zip(1:2, 1:3) / end
pattern_of_too_many_names : first_offence (loop [] (head 1 ((codes "x") ∷ (codes "y") ∷ (codes "z") ∷ []) (a.Zip ((a.Steps (from_to (int 1) (int 2))) ∷ (a.Steps (from_to (int 1) (int 3))) ∷ []))) [] [] []) ≡ offends 1 7 (codes "x")
pattern_of_too_many_names = simp layers refl

-- for x in 1:2 / let (a, b, c) = (x, x) / end
let_of_too_many_names : first_offence (loop [] (head 1 ((codes "x") ∷ []) (a.Steps (from_to (int 1) (int 2)))) [] (s.Let 2 ((codes "a") ∷ (codes "b") ∷ (codes "c") ∷ []) (e.Tuple ((e.Name (codes "x")) ∷ (e.Name (codes "x")) ∷ [])) ∷ []) []) ≡ offends 2 7 (codes "a")
let_of_too_many_names = simp layers refl

-- for (x, t) in zip(1:2, col("v")) / let (a, b) = (x, t) / @reduce s += a / @reduce g = group(b, count()) / end
parts_of_a_tuple : first_offence (loop [] (head 1 ((codes "x") ∷ (codes "t") ∷ []) (a.Zip ((a.Steps (from_to (int 1) (int 2))) ∷ (a.Col (codes "v")) ∷ []))) [] (s.Let 2 ((codes "a") ∷ (codes "b") ∷ []) (e.Tuple ((e.Name (codes "x")) ∷ (e.Name (codes "t")) ∷ [])) ∷ s.Reduce 3 (codes "s") (t.Leaf kind.Sum (e.Name (codes "a"))) None ∷ s.Reduce 4 (codes "g") (t.Grouped (e.Name (codes "b")) t.Count) None ∷ []) []) ≡ None
parts_of_a_tuple = simp (tower_of-group-count, layers) refl

-- for x in 1:2 / let y = 1 / y = true / end
assigned_value_of_another_kind : first_offence (loop [] (head 1 ((codes "x") ∷ []) (a.Steps (from_to (int 1) (int 2)))) [] (s.Let 2 ((codes "y") ∷ []) (int 1) ∷ s.Set 3 (codes "y") (e.Lit (value.Bool true)) ∷ []) []) ≡ offends 3 7 (codes "y")
assigned_value_of_another_kind = simp layers refl

-- for x in 1:2 / @keep n = x / end
kept_value_that_is_not_maybe : first_offence (loop [] (head 1 ((codes "x") ∷ []) (a.Steps (from_to (int 1) (int 2)))) [] (s.Keep 2 (codes "n") (e.Name (codes "x")) ∷ []) []) ≡ offends 2 7 (codes "n")
kept_value_that_is_not_maybe = simp layers refl

-- for t in col("v") / let y = tryint(t) / @reduce s += y / end
maybe_in_a_sum : first_offence (loop [] (head 1 ((codes "t") ∷ []) (a.Col (codes "v"))) [] (s.Let 2 ((codes "y") ∷ []) (e.Call word.TryInt (e.Name (codes "t"))) ∷ s.Reduce 3 (codes "s") (t.Leaf kind.Sum (e.Name (codes "y"))) None ∷ []) []) ≡ offends 3 7 (codes "s")
maybe_in_a_sum = simp layers refl

-- var k = 3 / for x in 1:k:9 / @reduce s += x * k / end / print s
outer_variable_read : first_offence (loop (binding 1 (codes "k") (value.Int (pos 3)) ∷ []) (head 2 ((codes "x") ∷ []) (a.Steps (from_by_to (int 1) (e.Name (codes "k")) (int 9)))) [] (s.Reduce 3 (codes "s") (t.Leaf kind.Sum (e.Two op.Mul (e.Name (codes "x")) (e.Name (codes "k")))) None ∷ []) (printed 5 (codes "s") ∷ [])) ≡ None
outer_variable_read = simp layers refl

-- for x in 1:2 / let y = true + 1 / let z = w / end
least_line_first : first_offence (loop [] (head 1 ((codes "x") ∷ []) (a.Steps (from_to (int 1) (int 2)))) [] (s.Let 2 ((codes "y") ∷ []) (e.Two op.Add (e.Lit (value.Bool true)) (int 1)) ∷ s.Let 3 ((codes "z") ∷ []) (e.Name (codes "w")) ∷ []) []) ≡ offends 2 7 (codes "y")
least_line_first = simp layers refl

-- for x in 10:-3:1 / @reduce l = list(x) / @reduce p = both(min(x), count()) / end / print l / print p
two_towers_side_by_side : first_offence (loop [] (head 1 ((codes "x") ∷ []) (a.Steps (from_by_to (int 10) (e.Lit (value.Int (negsuc 2))) (int 1)))) [] (s.Reduce 2 (codes "l") (t.Leaf kind.Listed (e.Name (codes "x"))) None ∷ s.Reduce 3 (codes "p") (t.Both (t.Leaf kind.Least (e.Name (codes "x"))) t.Count) None ∷ []) (printed 5 (codes "l") ∷ printed 6 (codes "p") ∷ [])) ≡ None
two_towers_side_by_side = simp layers refl

-- for x in 1:2 / @reduce s = argmin(x > 1) / end
place_of_the_least_truth : first_offence (loop [] (head 1 ((codes "x") ∷ []) (a.Steps (from_to (int 1) (int 2)))) [] (s.Reduce 2 (codes "s") (t.Leaf kind.LeastAt (e.Two op.Gt (e.Name (codes "x")) (int 1))) None ∷ []) []) ≡ offends 2 7 (codes "s")
place_of_the_least_truth = simp layers refl

-- for t in col("v") / @reduce m = max(t) / @reduce a = argmax(t) / end
greatest_text : first_offence (loop [] (head 1 ((codes "t") ∷ []) (a.Col (codes "v"))) [] (s.Reduce 2 (codes "m") (t.Leaf kind.Greatest (e.Name (codes "t"))) None ∷ s.Reduce 3 (codes "a") (t.Leaf kind.GreatestAt (e.Name (codes "t"))) None ∷ []) []) ≡ None
greatest_text = simp layers refl

-- for x in 1:2 / @reduce a = any(x) / end
number_in_any : first_offence (loop [] (head 1 ((codes "x") ∷ []) (a.Steps (from_to (int 1) (int 2)))) [] (s.Reduce 2 (codes "a") (t.Leaf kind.Any (e.Name (codes "x"))) None ∷ []) []) ≡ offends 2 7 (codes "a")
number_in_any = simp layers refl

-- for t in col("v") / @reduce p = prod(t) / end
text_in_a_product : first_offence (loop [] (head 1 ((codes "t") ∷ []) (a.Col (codes "v"))) [] (s.Reduce 2 (codes "p") (t.Leaf kind.Prod (e.Name (codes "t"))) None ∷ []) []) ≡ offends 2 7 (codes "p")
text_in_a_product = simp layers refl

-- for t in col("v") / @reduce l = list(tryint(t)) / end
maybe_in_a_list : first_offence (loop [] (head 1 ((codes "t") ∷ []) (a.Col (codes "v"))) [] (s.Reduce 2 (codes "l") (t.Leaf kind.Listed (e.Call word.TryInt (e.Name (codes "t")))) None ∷ []) []) ≡ offends 2 7 (codes "l")
maybe_in_a_list = simp layers refl

-- for x in 1:2 / @reduce f = first((x, text(x))) / end
tuple_in_first : first_offence (loop [] (head 1 ((codes "x") ∷ []) (a.Steps (from_to (int 1) (int 2)))) [] (s.Reduce 2 (codes "f") (t.Leaf kind.First (e.Tuple ((e.Name (codes "x")) ∷ (e.Call word.Text (e.Name (codes "x"))) ∷ []))) None ∷ []) []) ≡ None
tuple_in_first = simp layers refl

-- for t in col("v") / @reduce m = min(t) from "a" / end
start_of_a_text : first_offence (loop [] (head 1 ((codes "t") ∷ []) (a.Col (codes "v"))) [] (s.Reduce 2 (codes "m") (t.Leaf kind.Least (e.Name (codes "t"))) (Some (value.Text (codes "a"))) ∷ []) []) ≡ None
start_of_a_text = simp layers refl
