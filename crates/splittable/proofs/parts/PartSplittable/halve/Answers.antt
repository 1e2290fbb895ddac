use Rattle.std.proofs.Common.{◌≡◌, ap, arith}
use Rattle.splittable.specs.Parts.{Stretch}
use Rattle.splittable.proofs.PartHalves.{length-numbers_from}
use Rattle.splittable.proofs.Nodes.{fields_cut_in}
use Rattle.splittable.proofs.parts.PartSplittable.halve.Goals as goal

pub returns-then-self-eq1-clause-none : goal.returns-then-self-eq1-clause-none
returns-then-self-eq1-clause-none c =
    let len : c.self.inside.len ≡ c.args.self.now.len = ap (λ (s : Stretch). s.len) c.self.view_is in
    grind (arith, length-numbers_from c.args.self.now.first c.args.self.now.len, len, c.if-self-eq1.true)

pub overflow_add-result : goal.overflow_add-result
overflow_add-result c =
    let cut = fields_cut_in c.args.self.now c.self.inside.shape c.self.inside.first c.self.inside.len c.left_len-left.result c.self.invariant.0 (omega (arith, c.self.invariant.0.some, c.if-self-eq1.false)) c.left_len-left.ensures c.self.view_is in
    let len : c.self.inside.len ≡ c.args.self.now.len = ap (λ (s : Stretch). s.len) c.self.view_is in
    omega (arith, cut.halves.together, cut.right_part.some, len, c.self.invariant.0.within, c.self.invariant.1)

pub overflow_sub-result : goal.overflow_sub-result
overflow_sub-result c =
    let cut = fields_cut_in c.args.self.now c.self.inside.shape c.self.inside.first c.self.inside.len c.left_len-left.result c.self.invariant.0 (omega (arith, c.self.invariant.0.some, c.if-self-eq1.false)) c.left_len-left.ensures c.self.view_is in
    let len : c.self.inside.len ≡ c.args.self.now.len = ap (λ (s : Stretch). s.len) c.self.view_is in
    omega (arith, cut.halves.together, len)

pub invariant_of-result : goal.invariant_of-result
invariant_of-result c =
    let cut = fields_cut_in c.args.self.now c.self.inside.shape c.self.inside.first c.self.inside.len c.left_len-left.result c.self.invariant.0 (omega (arith, c.self.invariant.0.some, c.if-self-eq1.false)) c.left_len-left.ensures c.self.view_is in
    (cut.left_part, c.self.invariant.1)

pub invariant_of-result-2 : goal.invariant_of-result-2
invariant_of-result-2 c =
    let cut = fields_cut_in c.args.self.now c.self.inside.shape c.self.inside.first c.self.inside.len c.left_len-left.result c.self.invariant.0 (omega (arith, c.self.invariant.0.some, c.if-self-eq1.false)) c.left_len-left.ensures c.self.view_is in
    (cut.right_part, c.self.invariant.1)

pub returns-clause-none : goal.returns-clause-none
returns-clause-none c =
    let len : c.self.inside.len ≡ c.args.self.now.len = ap (λ (s : Stretch). s.len) c.self.view_is in
    grind (arith, length-numbers_from c.args.self.now.first c.args.self.now.len, len, c.if-self-eq1.false, c.self.invariant.0.some)

pub returns-clause-left : goal.returns-clause-left
returns-clause-left c =
    let cut = fields_cut_in c.args.self.now c.self.inside.shape c.self.inside.first c.self.inside.len c.left_len-left.result c.self.invariant.0 (omega (arith, c.self.invariant.0.some, c.if-self-eq1.false)) c.left_len-left.ensures c.self.view_is in
    rw length-numbers_from cut.left_part.some

pub returns-clause-right : goal.returns-clause-right
returns-clause-right c =
    let cut = fields_cut_in c.args.self.now c.self.inside.shape c.self.inside.first c.self.inside.len c.left_len-left.result c.self.invariant.0 (omega (arith, c.self.invariant.0.some, c.if-self-eq1.false)) c.left_len-left.ensures c.self.view_is in
    rw length-numbers_from cut.right_part.some

pub returns-clause-whole : goal.returns-clause-whole
returns-clause-whole c =
    let cut = fields_cut_in c.args.self.now c.self.inside.shape c.self.inside.first c.self.inside.len c.left_len-left.result c.self.invariant.0 (omega (arith, c.self.invariant.0.some, c.if-self-eq1.false)) c.left_len-left.ensures c.self.view_is in
    cut.whole

pub returns-clause-cut_left : goal.returns-clause-cut_left
returns-clause-cut_left c =
    let cut = fields_cut_in c.args.self.now c.self.inside.shape c.self.inside.first c.self.inside.len c.left_len-left.result c.self.invariant.0 (omega (arith, c.self.invariant.0.some, c.if-self-eq1.false)) c.left_len-left.ensures c.self.view_is in
    cut.left_is

pub returns-clause-cut_right : goal.returns-clause-cut_right
returns-clause-cut_right c =
    let cut = fields_cut_in c.args.self.now c.self.inside.shape c.self.inside.first c.self.inside.len c.left_len-left.result c.self.invariant.0 (omega (arith, c.self.invariant.0.some, c.if-self-eq1.false)) c.left_len-left.ensures c.self.view_is in
    cut.right_is

pub returns-clause-halves : goal.returns-clause-halves
returns-clause-halves c =
    let cut = fields_cut_in c.args.self.now c.self.inside.shape c.self.inside.first c.self.inside.len c.left_len-left.result c.self.invariant.0 (omega (arith, c.self.invariant.0.some, c.if-self-eq1.false)) c.left_len-left.ensures c.self.view_is in
    cut.halves

pub returns-clause-nodes : goal.returns-clause-nodes
returns-clause-nodes c =
    let cut = fields_cut_in c.args.self.now c.self.inside.shape c.self.inside.first c.self.inside.len c.left_len-left.result c.self.invariant.0 (omega (arith, c.self.invariant.0.some, c.if-self-eq1.false)) c.left_len-left.ensures c.self.view_is in
    cut.nodes
