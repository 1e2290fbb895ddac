use Rattle.std.proofs.Common.{false, ap, sym, ◌∙◌, is_some, get_or}
use Rattle.loop_tokens.proofs.Texts.{scan_fail, scan_close, scan_step, bad_escape, good_escape, at_quote, at_line_end, at_other}
use Rattle.loop_tokens.proofs.lex.text_len.Goals as goal
use Rattle.loop_tokens.proofs.lex.text_len.Goals.{then-escaped+else-is_none, else-escaped+else-b-eq34+else-b-eq10}

pub returns-then-is_none : goal.returns-then-is_none
returns-then-is_none c = scan_fail c.args.bytes.now c.loop-i.i c.loop-i.escaped c.loop-i.invariant c.loop-i-test.true
    (λ xs. rw c.if-escaped.true (bad_escape (get_or c.args.bytes.now c.loop-i.i 0) xs (ap is_some (sym c.escape.ensures) ∙ c.if-is_none.ensures)))

pub returns-then-b-eq34 : goal.returns-then-b-eq34
returns-then-b-eq34 c = scan_close c.args.bytes.now c.loop-i.i c.loop-i.escaped c.loop-i.invariant c.loop-i-test.true (rw c.if-escaped.false (at_quote _ c.if-b-eq34.true))

pub returns-then-b-eq10 : goal.returns-then-b-eq10
returns-then-b-eq10 c = scan_fail c.args.bytes.now c.loop-i.i c.loop-i.escaped c.loop-i.invariant c.loop-i-test.true
    (λ xs. rw c.if-escaped.false (at_line_end _ xs c.if-b-eq10.true))

pub loop-i-preserved : goal.loop-i-preserved
loop-i-preserved c =
    elim c.if-escaped.branch [
      | then-escaped+else-is_none w ↦ rw w.escaped-is (scan_step c.args.bytes.now c.loop-i.i c.loop-i.escaped false c.loop-i.invariant c.loop-i-test.true
          (λ xs. rw w.if-escaped.true (good_escape (get_or c.args.bytes.now c.loop-i.i 0) xs (ap is_some (sym w.escape.ensures) ∙ w.if-is_none.ensures))))
      | else-escaped+else-b-eq34+else-b-eq10 w ↦ scan_step c.args.bytes.now c.loop-i.i c.loop-i.escaped _ c.loop-i.invariant c.loop-i-test.true
          (λ xs. rw w.if-escaped.false (at_other (get_or c.args.bytes.now c.loop-i.i 0) c.if-escaped.escaped xs w.if-b-eq34.false w.if-b-eq10.false w.escaped-is))
    ]
