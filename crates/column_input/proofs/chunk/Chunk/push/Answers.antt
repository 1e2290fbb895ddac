use Rattle.std.proofs.Common.{◌∙◌, sym, arith}
use Rattle.column_input.proofs.ChunkLemmas.{appended, count_fits, grid_more, limit_more, whole_more}
use Rattle.column_input.proofs.chunk.Chunk.push.Goals as goal

pub overflow_add-self : goal.overflow_add-self
overflow_add-self c =
    let limit = limit_more _ _ _ _ c.self.view_is c.requires.limit in
    let fits = count_fits _ _ (rw (← c.self.view_is) at c.requires.some) limit in
    omega arith

pub invariant_of-self-2 : goal.invariant_of-self-2
invariant_of-self-2 c =
    let after = appended _ _ (sym c.is_err.ensures.value ∙ c.if-is_err.false) c.append.ensures in (
      whole_more _ _ _ _ _ _ c.self.view_is c.self.invariant.0 c.requires.width after,
      limit_more _ _ _ _ c.self.view_is c.requires.limit,
    )

pub returns : goal.returns
returns c =
    let after = appended _ _ (sym c.is_err.ensures.value ∙ c.if-is_err.false) c.append.ensures in
    grid_more _ _ _ _ _ _ c.self.view_is c.self.invariant.0 c.requires.width after
