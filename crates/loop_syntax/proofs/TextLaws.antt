-- The laws of texts and programs.
use Rattle.loop_tokens.proofs.OneLexing.{some_tokens}
use Rattle.loop_lines.proofs.Verdicts.{one_saying}
use Rattle.loop_nesting.proofs.Answers as nesting
use Rattle.loop_grammar.specs.Nesting.{most_blocks}
use Rattle.loop_syntax.specs.Laws.{OneProgram, OneRefusal, NeverBoth, NeverNeither}
use Rattle.loop_syntax.proofs.LawLemmas.{one_program_of, one_refusal_of, never_both_of, never_neither_of}

pub one_program : OneProgram
one_program = one_program_of one_saying (λ forms p q. nesting.one_program most_blocks most_blocks p q forms) nesting.one_refusal nesting.never_both

pub one_refusal : OneRefusal
one_refusal = one_refusal_of one_saying (λ forms p q. nesting.one_program most_blocks most_blocks p q forms) nesting.one_refusal nesting.never_both

pub never_both : NeverBoth
never_both = never_both_of one_saying (λ forms p q. nesting.one_program most_blocks most_blocks p q forms) nesting.one_refusal nesting.never_both

pub never_neither : NeverNeither
never_neither = never_neither_of some_tokens nesting.never_neither
