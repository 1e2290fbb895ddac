use Rattle.std.proofs.Common.{◌∙◌, arith, rules}
use Rattle.column_input.proofs.TextsLemmas.{kept_more, texts_more}
use Rattle.column_input.proofs.texts.Texts.push.Goals as goal

pub invariant_of-self-2 : goal.invariant_of-self-2
invariant_of-self-2 c =
    kept_more c.self.inside.bytes.items c.self.inside.ends.items c.args.text.now c.extend_from_slice.new.self.items c.push_reserved.new.self.items c.len-2.result c.self.invariant
    (search rules) (search rules) (c.len-2.ensures ∙ c.extend_from_slice.new.self.ok.0) c.utf8.text
    (omega (arith, c.if-text-len.false, c.len.ensures ∙ c.self.inside.bytes.ok.0))

pub returns : goal.returns
returns c =
    rw (← c.self.view_is)
    (texts_more c.self.inside.bytes.items c.self.inside.ends.items c.args.text.now c.extend_from_slice.new.self.items c.push_reserved.new.self.items c.len-2.result c.self.invariant
    (search rules) (search rules) (c.len-2.ensures ∙ c.extend_from_slice.new.self.ok.0))
