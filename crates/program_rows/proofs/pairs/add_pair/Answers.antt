use Rattle.std.proofs.Common.{sym, ap, subst, ◌∙◌}
use Rattle.std.specs.Prelude.{OnOk}
use Rattle.reducer_tower.specs.Rows.{number_of}
use Rattle.program_rows.specs.Pairs.{TakeBehind, input_for}
use Rattle.program_rows.proofs.PairLemmas.{takes_it}
use Rattle.program_rows.proofs.pairs.add_pair.Goals as goal

-- the row has the tower of the name, and the input fits it
pub next-requires-clause-accepts : goal.next-requires-clause-accepts
next-requires-clause-accepts c =
    let row = c.args.row.now.towers.items in
    let number = sym (ap (λ name. number_of name row) c.as_str.ensures.bytes) ∙ sym c.tower.ensures ∙ c.in-Some.is in
    takes_it row c.args.pair.name c.in-Some.tower c.args.pair.input number c.requires.fits

-- the one input of the pair
pub returns-in-Some : goal.returns-in-Some
returns-in-Some c =
    let row = c.args.row.now.towers.items in
    let number = sym (ap (λ name. number_of name row) c.as_str.ensures.bytes) ∙ sym c.tower.ensures ∙ c.in-Some.is in
    let inputs = ap (λ o. input_for o c.args.pair.input) number in
    subst (λ xs. OnOk c.next.result (TakeBehind row c.args.state.now c.next.new.state xs)) (sym inputs) c.next.ensures.stands
