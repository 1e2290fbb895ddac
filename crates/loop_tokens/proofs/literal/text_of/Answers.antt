use Rattle.std.proofs.Common.{string_bytes, ap, ◌∙◌, ◌++◌, true, false, [], encode_utf8, append-nil, sym}
use Rattle.loop_tokens.specs.Literals.{unescaped}
use Rattle.loop_tokens.proofs.Meanings.{char_plain, char_backslash, char_escaped, meant_step, meant_all}
use Rattle.loop_tokens.proofs.literal.text_of.Goals as goal

pub loop-c-preserved : goal.loop-c-preserved
loop-c-preserved c = rw c.if-escaped.false (meant_step c.args.raw.now (string_bytes c.loop-c.text) (string_bytes c.push-else-c-eq92.new.self) c.loop-c.c-iterator.rest.now c.next.new.self.rest.now c.in-Some.c
    false false (encode_utf8 c.in-Some.c) (rw c.if-escaped.false at c.loop-c.invariant) c.in-Some.ensures.steps.0 c.in_ok-push-2.ensures.bytes (char_plain c.in-Some.c c.next.new.self.rest.now c.if-c-eq92.false))

pub loop-c-preserved-then-c-eq92 : goal.loop-c-preserved-then-c-eq92
loop-c-preserved-then-c-eq92 c = meant_step c.args.raw.now (string_bytes c.loop-c.text) (string_bytes c.loop-c.text) c.loop-c.c-iterator.rest.now c.next.new.self.rest.now c.in-Some.c
    false true [] (rw c.if-escaped.false at c.loop-c.invariant) c.in-Some.ensures.steps.0 (sym (append-nil (string_bytes c.loop-c.text))) (char_backslash c.in-Some.c c.next.new.self.rest.now c.if-c-eq92.true)

pub loop-c-preserved-then-escaped : goal.loop-c-preserved-then-escaped
loop-c-preserved-then-escaped c = meant_step c.args.raw.now (string_bytes c.loop-c.text) (string_bytes c.push.new.self) c.loop-c.c-iterator.rest.now c.next.new.self.rest.now c.in-Some.c
    true false (encode_utf8 (unescaped c.in-Some.c)) (rw c.if-escaped.true at c.loop-c.invariant) c.in-Some.ensures.steps.0 (c.in_ok-push.ensures.bytes ∙ ap (λ d. string_bytes c.loop-c.text ++ encode_utf8 d) c.unescaped.ensures) (char_escaped c.in-Some.c c.next.new.self.rest.now)

pub returns : goal.returns
returns c = meant_all c.args.raw.now (string_bytes c.loop-c.text) c.loop-c.c-iterator.rest.now c.loop-c.escaped c.loop-c.invariant c.in-None.ensures.steps.0.0
