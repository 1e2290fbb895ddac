use Rattle.loop_lines.proofs.OneLine.{no_word}
use Rattle.loop_lines.proofs.forms.word_line.Goals as goal

pub returns-in-Var : goal.returns-in-Var
returns-in-Var c = rw c.in-Var.is c.var.ensures

pub returns-in-For : goal.returns-in-For
returns-in-For c = rw c.in-For.is c.for_line.ensures

pub returns-in-Let : goal.returns-in-Let
returns-in-Let c = rw c.in-Let.is c.let_line.ensures

pub returns-in-If : goal.returns-in-If
returns-in-If c = rw c.in-If.is c.if_line.ensures

pub returns-in-ElseIf : goal.returns-in-ElseIf
returns-in-ElseIf c = rw c.in-ElseIf.is c.elseif_line.ensures

pub returns-in-Else : goal.returns-in-Else
returns-in-Else c = rw c.in-Else.is c.else_line.ensures

pub returns-in-Continue : goal.returns-in-Continue
returns-in-Continue c = rw c.in-Continue.is c.continue_line.ensures

pub returns-in-Break : goal.returns-in-Break
returns-in-Break c = rw c.in-Break.is c.break_line.ensures

pub returns-in-End : goal.returns-in-End
returns-in-End c = rw c.in-End.is c.end_line.ensures

pub returns-in-Print : goal.returns-in-Print
returns-in-Print c = rw c.in-Print.is c.print.ensures

pub returns-in_default : goal.returns-in_default
returns-in_default c = no_word c.args.word c.args.tokens.now c.in_default.not-Var c.in_default.not-For c.in_default.not-Let c.in_default.not-If c.in_default.not-ElseIf c.in_default.not-Else c.in_default.not-Continue c.in_default.not-Break c.in_default.not-End c.in_default.not-Print
