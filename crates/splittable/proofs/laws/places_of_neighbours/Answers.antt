use Rattle.std.proofs.Common.{sym}
use Rattle.splittable.proofs.PartHalves.{length-numbers_from, numbers_from-add}
use Rattle.splittable.proofs.Numbers.{places_of_two, places_of_neighbours}
use Rattle.splittable.proofs.laws.places_of_neighbours.Goals as goal

pub returns-clause-counted : goal.returns-clause-counted
returns-clause-counted c = length-numbers_from

pub returns-clause-numbers : goal.returns-clause-numbers
returns-clause-numbers c = λ first n m. sym (numbers_from-add first n m)

pub returns-clause-two : goal.returns-clause-two
returns-clause-two c = places_of_two

pub returns-clause-any : goal.returns-clause-any
returns-clause-any c = places_of_neighbours
