use Rattle.std.proofs.Common.{◌≡◌, ◌∷◌, ◌<◌, ◌≤◌, ◌∙◌, sym, rules, refl, arith}
use Rattle.loop_tokens.specs.declared.token.Token.TheVariants as tok
use Rattle.loop_tokens.specs.declared.keyword.Keyword.TheVariants as kw
use Rattle.loop_tokens.specs.declared.sign.Sign.TheVariants as sg
use Rattle.loop_tokens.specs.Literals.{number_of}
use Rattle.loop_exprs.specs.declared.level.Level.TheVariants as level
use Rattle.loop_exprs.specs.Reading.{rank, beside, Reads as r, GoesOn as g, ReadsParts as p, ReadsAll as a}
use Rattle.loop_exprs.proofs.Steps.{passes, hands_on, fails_first, seen, seen_first, seen_parts, fits_negative, fits_positive, no_group}
use Rattle.loop_exprs.proofs.Levels.{all_parts, atom_fails, come, fails_above, first_part, from_below, nearer, next_part, not_closed, not_fails, not_read, nothing_more, onward, shorter_behind, sign_fails, under}
use Rattle.loop_exprs.proofs.read.+reader.Goals as goal

pub choice-returns-in_err-test-clause-reads : goal.choice-returns-in_err-test-clause-reads
choice-returns-in_err-test-clause-reads t c = passes (r level.Expr c.args.tokens.now) (r level.Expr (tok.Keyword kw.If ∷ c.args.tokens.now)) seen seen c.in_err-test.field-0.0 c.from_residual.result r.choice_none c.in_err-test.ensures.reads (search rules)

pub choice-returns-in-None-clause-reads : goal.choice-returns-in-None-clause-reads
choice-returns-in-None-clause-reads t c = r.no_then c.in_ok-test.ensures.reads c.in-None.ensures

pub branches-returns-in_err-yes-clause-reads : goal.branches-returns-in_err-yes-clause-reads
branches-returns-in_err-yes-clause-reads t c = λ before d. passes (r level.Expr c.args.tokens.now) (r level.Expr (tok.Keyword kw.If ∷ before)) seen seen c.in_err-yes.field-0.0 c.from_residual.result (r.value_none d) c.in_err-yes.ensures.reads (search rules)

pub branches-returns-in_default-clause-reads : goal.branches-returns-in_default-clause-reads
branches-returns-in_default-clause-reads t c = λ before d. r.no_else d c.in_ok-yes.ensures.reads c.in_default.ensures

pub branches-returns-in_err-no-in-None-clause-reads : goal.branches-returns-in_err-no-in-None-clause-reads
branches-returns-in_err-no-in-None-clause-reads t c = λ before d. passes (r level.Expr c.in-Some.rest.now) (r level.Expr (tok.Keyword kw.If ∷ before)) seen seen c.in_err-no-in-None.field-0.0 c.from_residual-in_err-no-in-None.result (r.other_none d (rw c.in-Some.ensures at c.in_ok-yes.ensures.reads) c.in-None.ensures) c.in_err-no-in-None.ensures.reads (search rules)

pub branches-returns-in_ok-chosen-in-Some-eat_word-clause-reads : goal.branches-returns-in_ok-chosen-in-Some-eat_word-clause-reads
branches-returns-in_ok-chosen-in-Some-eat_word-clause-reads t c = λ before d. rw (c.in_ok-chosen-in-Some-eat_word.ensures, c.either-both.ensures) (r.choice_some d (rw (c.in-Some.ensures, c.in-Some-eat_word.ensures) at c.in_ok-yes.ensures.reads))

pub branches-returns-in_ok-chosen-in-None-clause-reads : goal.branches-returns-in_ok-chosen-in-None-clause-reads
branches-returns-in_ok-chosen-in-None-clause-reads t c = λ before d. rw (c.in_ok-chosen-in-None.ensures, c.either-all.ensures, c.either-both.ensures) (r.choice d (rw c.in-Some.ensures at c.in_ok-yes.ensures.reads) c.in-None.ensures c.in_ok-no-in-None.ensures.reads)

pub comparison-returns-in-None-clause-reads : goal.comparison-returns-in-None-clause-reads
comparison-returns-in-None-clause-reads t c = λ before d. r.compare_one d c.in-None.ensures

pub comparison-returns-in_err-right-in-Some-clause-reads : goal.comparison-returns-in_err-right-in-Some-clause-reads
comparison-returns-in_err-right-in-Some-clause-reads t c = λ before d. passes (r level.Join c.in-Some.rest.now) (r level.Compare before) seen seen c.in_err-right-in-Some.field-0.0 c.from_residual.result (r.compare_half c.in-Some.ensures.2 (rw c.in-Some.ensures.1 at d)) c.in_err-right-in-Some.ensures.reads (search rules)

pub comparison-returns-in_ok-two-in-Some-clause-reads : goal.comparison-returns-in_ok-two-in-Some-clause-reads
comparison-returns-in_ok-two-in-Some-clause-reads t c = λ before d. rw (c.in_ok-two-in-Some.ensures, c.either-both.ensures) (r.compare c.in-Some.ensures.2 (rw c.in-Some.ensures.1 at d) c.in_ok-right-in-Some.ensures.reads)

pub operations-returns-in-None-clause-reads : goal.operations-returns-in-None-clause-reads
operations-returns-in-None-clause-reads t c = g.ends c.in-None.ensures

pub operations-returns-in_err-right-in-Some-clause-reads : goal.operations-returns-in_err-right-in-Some-clause-reads
operations-returns-in_err-right-in-Some-clause-reads t c = passes (r c.tighter.result c.in-Some.rest.now) (g c.args.level c.args.left c.args.wide c.args.tokens.now) seen seen c.in_err-right-in-Some.field-0.0 c.from_residual.result (λ h. rw c.in-Some.ensures.1 (g.goes_none c.in-Some.ensures.2 (rw c.tighter.ensures at h))) c.in_err-right-in-Some.ensures.reads (search rules)

pub operations-returns-in_ok-two-in-Some-clause-reads : goal.operations-returns-in_ok-two-in-Some-clause-reads
operations-returns-in_ok-two-in-Some-clause-reads t c = hands_on (g c.args.level c.in_ok-two-in-Some.field-0 c.either-both.result c.in_ok-right-in-Some.rest.now) (g c.args.level c.args.left c.args.wide c.args.tokens.now) seen c.operations.result (λ o h. rw c.in-Some.ensures.1 (g.goes c.in-Some.ensures.2 (rw c.tighter.ensures at c.in_ok-right-in-Some.ensures.reads) (rw (c.in_ok-two-in-Some.ensures, c.either-both.ensures) at h))) c.operations.ensures.reads

pub sign-returns-in_err-inner-in-None-clause-reads : goal.sign-returns-in_err-inner-in-None-clause-reads
sign-returns-in_err-inner-in-None-clause-reads t c = passes (r level.Negate c.args.tokens.now) (r level.Negate (tok.Sign sg.Minus ∷ c.args.tokens.now)) seen seen c.in_err-inner-in-None.field-0.0 c.from_residual-in_err-inner-in-None.result (λ h. r.negate_none c.in-None.ensures h) c.in_err-inner-in-None.ensures.reads (search rules)

pub sign-returns-in_ok-negate-in-None-clause-reads : goal.sign-returns-in_ok-negate-in-None-clause-reads
sign-returns-in_ok-negate-in-None-clause-reads t c = rw c.in_ok-negate-in-None.ensures (r.negate c.in-None.ensures c.in_ok-inner-in-None.ensures.reads)

pub sign-returns-in_ok-int-in-Some-clause-reads : goal.sign-returns-in_ok-int-in-Some-clause-reads
sign-returns-in_ok-int-in-Some-clause-reads t c = rw (c.in-Some.ensures, c.in_ok-int-in-Some.ensures, fits_negative (number_of c.in-Some.digits.now) _ c.negative_value-n.ensures.value, c.negative_value-n.ensures.wide) r.negative

pub atom-returns-in_default-clause-reads : goal.atom-returns-in_default-clause-reads
atom-returns-in_default-clause-reads t c = rw c.in_default.ensures r.no_token

pub atom-returns-in_ok-int-in-Number-clause-reads : goal.atom-returns-in_ok-int-in-Number-clause-reads
atom-returns-in_ok-int-in-Number-clause-reads t c = rw (c.in-Some.ensures, c.in-Number.is, c.in_ok-int-in-Number.ensures, fits_positive (number_of c.in-Number.digits) _ c.positive_value-n.ensures.value, c.positive_value-n.ensures.wide) r.number

pub atom-returns-in_ok-text-in-Text-clause-reads : goal.atom-returns-in_ok-text-in-Text-clause-reads
atom-returns-in_ok-text-in-Text-clause-reads t c = rw (c.in-Some.ensures, c.in-Text.is, c.in_ok-text-in-Text.ensures) r.text

pub atom-returns-in_ok-name-in-Name-clause-reads : goal.atom-returns-in_ok-name-in-Name-clause-reads
atom-returns-in_ok-name-in-Name-clause-reads t c = rw (c.in-Some.ensures, c.in-Name.is, c.in_ok-name-in-Name.ensures) r.name

pub atom-returns-in_default-eat-clause-reads : goal.atom-returns-in_default-eat-clause-reads
atom-returns-in_default-eat-clause-reads t c = no_group c.args.tokens.now c.in-Some.first.now _ c.in-Some.rest.now c.in-Some.ensures c.in-Sign.is c.in_default-eat.ensures

pub atom-returns-in_err-found-in-Sign-clause-reads : goal.atom-returns-in_err-found-in-Sign-clause-reads
atom-returns-in_err-found-in-Sign-clause-reads t c = passes (a c.in-Some-eat.rest.now) (r level.Atom c.args.tokens.now) seen_parts seen c.in_err-found-in-Sign.field-0.0 c.from_residual-in_err-found-in-Sign.result (λ d. rw c.in-Some-eat.ensures (r.group_none d)) c.in_err-found-in-Sign.ensures.reads (search rules)

pub atom-returns-in_ok-closed-in-Sign-clause-reads : goal.atom-returns-in_ok-closed-in-Sign-clause-reads
atom-returns-in_ok-closed-in-Sign-clause-reads t c = hands_on (λ o. o ≡ beside c.in_ok-found-in-Sign.wide c.in_ok-found-in-Sign.rest.now c.in_ok-closed-in-Sign.field-0) (r level.Atom c.args.tokens.now) seen c.beside.result (λ o h. rw c.in-Some-eat.ensures (r.group c.in_ok-found-in-Sign.ensures.reads (rw c.in_ok-closed-in-Sign.ensures at h))) c.beside.ensures.value

pub atom-returns-in-At-clause-reads : goal.atom-returns-in-At-clause-reads
atom-returns-in-At-clause-reads t c = rw (c.in-Some.ensures, c.in-At.is) (r.no_atom refl)

pub word-returns-clause-reads : goal.word-returns-clause-reads
word-returns-clause-reads t c = hands_on (λ o. o ≡ beside c.in_ok-found.wide c.in_ok-found.rest.now c.in_ok-applied.field-0) (r level.Atom (tok.Keyword c.args.word ∷ c.args.tokens.now)) seen c.beside.result (λ o h. rw c.in-Some-eat.ensures (r.call (sym c.in_ok-constant.ensures ∙ c.in_default.is) c.in_ok-found.ensures.reads (rw c.in_ok-applied.ensures at h))) c.beside.ensures.value

pub arguments-returns-in_err-first-clause-reads : goal.arguments-returns-in_err-first-clause-reads
arguments-returns-in_err-first-clause-reads t c = passes (r level.Expr c.args.tokens.now) (a c.args.tokens.now) seen seen_parts c.in_err-first.field-0.0 c.from_residual.result (λ d. a.all_none (p.parts_none d)) c.in_err-first.ensures.reads (search rules)

pub word-returns-in-Some-clause-reads : goal.word-returns-in-Some-clause-reads
word-returns-in-Some-clause-reads t c = r.constant (sym c.in_ok-constant.ensures ∙ c.in-Some.is)

pub word-returns-in_default-eat-clause-reads : goal.word-returns-in_default-eat-clause-reads
word-returns-in_default-eat-clause-reads t c = r.call_alone (sym c.in_ok-constant.ensures ∙ c.in_default.is) c.in_default-eat.ensures

pub word-returns-in_err-found-clause-reads : goal.word-returns-in_err-found-clause-reads
word-returns-in_err-found-clause-reads t c = passes (a c.in-Some-eat.rest.now) (r level.Atom (tok.Keyword c.args.word ∷ c.args.tokens.now)) seen_parts seen c.in_err-found.field-0.0 c.from_residual-in_err-found.result (λ d. rw c.in-Some-eat.ensures (r.call_none (sym c.in_ok-constant.ensures ∙ c.in_default.is) d)) c.in_err-found.ensures.reads (search rules)

pub arguments-parts-init : goal.arguments-parts-init
arguments-parts-init t c = record { shorter = c.in_ok-first.ensures.shorter; after = first_part _ _ _ _ c.in_ok-first.ensures.reads _ _ c.new-found.ensures.items c.in_ok-push.ensures.items }

pub arguments-parts-preserved : goal.arguments-parts-preserved
arguments-parts-preserved t c = record { shorter = shorter_behind _ _ _ _ c.parts.invariant.shorter c.in-Some.ensures c.in_ok-part.ensures.shorter; after = next_part _ _ _ _ _ _ _ _ c.parts.invariant.after c.in-Some.ensures c.in_ok-part.ensures.reads _ _ c.in_ok-push-2.ensures.items c.either-wide.ensures }

pub arguments-returns-in_err-part-clause-reads : goal.arguments-returns-in_err-part-clause-reads
arguments-returns-in_err-part-clause-reads t c = passes (r level.Expr c.in-Some.behind.now) (a c.args.tokens.now) seen seen_parts c.in_err-part.field-0.0 c.from_residual-in_err-part.result (nothing_more _ _ _ _ _ c.parts.invariant.after c.in-Some.ensures) c.in_err-part.ensures.reads (search rules)

pub arguments-returns-in-Some-eat-clause-reads : goal.arguments-returns-in-Some-eat-clause-reads
arguments-returns-in-Some-eat-clause-reads t c = all_parts _ _ _ _ _ c.parts.invariant.after c.in_default.ensures c.in-Some-eat.ensures

pub arguments-returns-clause-reads : goal.arguments-returns-clause-reads
arguments-returns-clause-reads t c = not_closed _ _ _ _ c.parts.invariant.after c.in_default.ensures c.in-None.ensures

pub expr-levels-preserved : goal.expr-levels-preserved
expr-levels-preserved t c = let lt : rank c.levels.at < rank c.args.level = c.levels-test.ensures in record { under = under _ c.args.level _ lt c.looser-at.ensures; shorter = omega (arith, c.in_ok-both.ensures.no_longer, c.levels.invariant.shorter); reads = c.in_ok-both.ensures.reads c.args.tokens.now (from_below _ c.args.level _ _ _ lt c.looser-at.ensures c.levels.invariant.reads) }

pub expr-levels-smaller : goal.expr-levels-smaller
expr-levels-smaller t c = let lt : rank c.levels.at < rank c.args.level = c.levels-test.ensures in nearer _ c.args.level _ lt c.looser-at.ensures

pub expr-returns-in_err-both-clause-reads : goal.expr-returns-in_err-both-clause-reads
expr-returns-in_err-both-clause-reads t c = let lt : rank c.levels.at < rank c.args.level = c.levels-test.ensures in passes (r c.looser-at.result c.args.tokens.now) (r c.args.level c.args.tokens.now) seen seen c.in_err-both.field-0.0 c.from_residual-in_err-both.result (λ d. fails_above _ c.args.level _ _ lt c.looser-at.ensures c.levels.invariant.reads d) (c.in_err-both.ensures.reads c.args.tokens.now (from_below _ c.args.level _ _ _ lt c.looser-at.ensures c.levels.invariant.reads)) (search rules)

pub expr-returns-clause-reads : goal.expr-returns-clause-reads
expr-returns-clause-reads t c = let ge : rank c.args.level ≤ rank c.levels.at = c.levels-test.ensures in come _ _ _ _ c.levels.invariant.under ge c.levels.invariant.reads

pub first-returns-in_err-inner-in-Some-opened-clause-reads : goal.first-returns-in_err-inner-in-Some-opened-clause-reads
first-returns-in_err-inner-in-Some-opened-clause-reads t c = fails_first (r level.Not c.in-Some-opened.rest.now) c.args.level c.args.tokens.now seen seen_first c.in_err-inner-in-Some-opened.field-0.0 c.from_residual-in_err-inner-in-Some-opened.result (not_fails c.args.level c.args.tokens.now c.in-Some-opened.rest.now c.in-Some-opened.ensures.0 c.in-None.ensures c.in-Some-opened.ensures.1) c.in_err-inner-in-Some-opened.ensures.reads (search rules)

pub first-returns-in_err-found-in-Some-opened-2-clause-reads : goal.first-returns-in_err-found-in-Some-opened-2-clause-reads
first-returns-in_err-found-in-Some-opened-2-clause-reads t c = fails_first (r level.Negate (tok.Sign sg.Minus ∷ c.in-Some-opened-2.rest.now)) c.args.level c.args.tokens.now seen seen_first c.in_err-found-in-Some-opened-2.field-0.0 c.from_residual-in_err-found-in-Some-opened-2.result (sign_fails c.args.level c.args.tokens.now c.in-Some-opened-2.rest.now c.in-Some-opened-2.ensures.0 c.in-None.ensures c.in-None-opened.ensures c.in-Some-opened-2.ensures.1) c.in_err-found-in-Some-opened-2.ensures.reads (search rules)

pub first-returns-in_err-found-in-None-opened-2-clause-reads : goal.first-returns-in_err-found-in-None-opened-2-clause-reads
first-returns-in_err-found-in-None-opened-2-clause-reads t c = fails_first (r level.Atom c.args.tokens.now) c.args.level c.args.tokens.now seen seen_first c.in_err-found-in-None-opened-2.field-0.0 c.from_residual-in_err-found-in-None-opened-2.result (atom_fails c.args.level c.args.tokens.now c.in-None.ensures c.in-None-opened.ensures c.in-None-opened-2.ensures) c.in_err-found-in-None-opened-2.ensures.reads (search rules)

pub first-returns-in_ok-not-in-Some-opened-clause-reads : goal.first-returns-in_ok-not-in-Some-opened-clause-reads
first-returns-in_ok-not-in-Some-opened-clause-reads t c = (c.in-Some-opened.ensures.0, not_read _ _ _ _ _ _ c.in-Some-opened.ensures.1 c.in_ok-not-in-Some-opened.ensures c.in_ok-inner-in-Some-opened.ensures.reads)

pub onward-returns-in-Expr-clause-reads : goal.onward-returns-in-Expr-clause-reads
onward-returns-in-Expr-clause-reads t c = λ before d. hands_on (g c.args.level c.args.left c.args.wide c.args.tokens.now) (r c.args.level before) seen c.operations.result (λ o k. onward c.args.level c.args.left c.args.wide c.args.tokens.now before o (search rules) d k) c.operations.ensures.reads
