use Rattle.loop_values.proofs.DecimalLemmas.{spelled-signed_decimal}
use Rattle.loop_values.proofs.laws.decimal_text_spells_its_number.Goals as goal

pub returns : goal.returns
returns c = spelled-signed_decimal
