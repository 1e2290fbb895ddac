use Rattle.std.proofs.Common.{◌≡◌, true, rules, arith}
use Rattle.program_words.specs.Numbers.{is_numeral}
use Rattle.program_words.proofs.NumberLemmas.{not_parsed}
use Rattle.program_words.proofs.number.number_within.Goals as goal

pub returns-in_default-3-clause-is : goal.returns-in_default-3-clause-is
returns-in_default-3-clause-is c =
    let numeral : is_numeral c.args.text.now ≡ true = search rules in
    not_parsed c.args.least c.args.most c.args.text.now c.parse.result c.in_default.field-0 c.in_default.is c.parse.ensures.value.0 numeral (omega (arith, c.ranges.most.fits))
