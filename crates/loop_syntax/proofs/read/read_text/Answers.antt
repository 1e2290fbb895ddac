use Rattle.std.proofs.Common.{subst}
use Rattle.std.proofs.lemmas.Result.{err_from_is_err_and}
use Rattle.loop_grammar.specs.Nesting.{NestingRefusal}
use Rattle.loop_grammar.specs.Texts.{FirstRefusal, refused_line, nesting}
use Rattle.loop_syntax.proofs.ReadLemmas.{passed_on, nesting_refused}
use Rattle.loop_syntax.proofs.read.read_text.Goals as goal

pub returns-in_err-lines-clause-refused : goal.returns-in_err-lines-clause-refused
returns-in_err-lines-clause-refused c =
    let p = err_from_is_err_and c.from_residual.result c.from_residual.ensures.1 in
    passed_on (FirstRefusal c.args.text.now) _ _ _ p.1 p.2 (λ ne. refused_line c.utf8.text (c.in_err-lines.ensures.refused ne))

pub returns-in_err-tree-clause-refused : goal.returns-in_err-tree-clause-refused
returns-in_err-tree-clause-refused c =
    let p = err_from_is_err_and c.from_residual-in_err-tree.result c.from_residual-in_err-tree.ensures.1 in
    passed_on (FirstRefusal c.args.text.now) _ _ _ p.1 p.2 (λ ne. nesting c.utf8.text c.in_ok-lines.ensures.said (subst (λ n. NestingRefusal c.in_ok-lines.lines.items n c.in_err-tree.field-0.0) c.in_ok-lines.ensures.end (nesting_refused c.in_ok-lines.lines.items c.in_ok-lines.end c.in_err-tree.field-0.0 c.in_err-tree.ensures.refusal ne)))
