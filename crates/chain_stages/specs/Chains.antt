-- What a chain makes of a list of elements: stage by stage, on whole lists.
-- Source: this project, after Transducers.jl.
use Rattle.std.specs.Prelude.{List, [], ◌∷◌, ◌++◌}
use Rattle.chain_stages.specs.declared.element.Element.{Element}
use Rattle.chain_stages.specs.declared.step_end.StepEnd.{StepEnd}
use Rattle.chain_stages.specs.declared.step_end.StepEnd.TheVariants.{Going}
use Rattle.chain_stages.specs.declared.stages.Stage.{Stage}
use Rattle.chain_stages.specs.Stages.{Output, alone, nothing, output, through}

abbrev pub after_end : StepEnd → Output → Output → Output
after_end Going first more = output (first.elements ++ more.elements) more.end
after_end _ first more = first

-- elements and, where they come to no end, what follows them
abbrev pub followed_by : Output → Output → Output
followed_by first more = after_end first.end first more

-- what a stage makes of a list: what it lets through for each element in order, up to and with the first end; where no element
-- brings one, the end that came in stays
abbrev pub each_through : Stage → List Element → StepEnd → Output
each_through stage [] end = nothing end
each_through stage (e ∷ es) end = followed_by (through stage e) (each_through stage es end)

abbrev pub stage_output : Stage → Output → Output
stage_output stage list = each_through stage list.elements list.end

-- what a chain makes of a list: each stage works on the whole list that the stage before it made
abbrev pub chain_output : List Stage → Output → Output
chain_output [] list = list
chain_output (stage ∷ stages) list = chain_output stages (stage_output stage list)

-- the same element by element: what the whole chain makes of the first, and, where that comes to no end, what it makes of the next
abbrev pub one_by_one : List Stage → List Element → StepEnd → Output
one_by_one stages [] end = nothing end
one_by_one stages (e ∷ es) end = followed_by (chain_output stages (alone e)) (one_by_one stages es end)
