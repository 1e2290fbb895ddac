use Rattle.std.proofs.Common.{◌∙◌, arith}
use Rattle.column_input.proofs.ChunkLemmas.{cell_found, place_below}
use Rattle.column_input.proofs.chunk.Chunk.text.Goals as goal

pub overflow_mul-row : goal.overflow_mul-row
overflow_mul-row c =
    let below = place_below _ _ _ _ _ _ c.self.view_is c.self.invariant.0 c.requires.row c.requires.column in
    omega (arith, c.self.invariant)

pub overflow_add-row : goal.overflow_add-row
overflow_add-row c =
    let below = place_below _ _ _ _ _ _ c.self.view_is c.self.invariant.0 c.requires.row c.requires.column in
    omega (arith, c.self.invariant)

pub get-requires : goal.get-requires
get-requires c = place_below _ _ _ _ _ _ c.self.view_is c.self.invariant.0 c.requires.row c.requires.column

pub returns : goal.returns
returns c = cell_found _ _ _ _ _ _ c.self.view_is c.requires.row c.requires.column ∙ c.get.ensures
