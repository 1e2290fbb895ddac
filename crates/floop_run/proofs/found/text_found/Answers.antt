use Rattle.std.proofs.Common.{◌≢◌, rules, refl, sym, subst, arith}
use Rattle.program_words.specs.Views.{request_seen}
use Rattle.loop_grammar.specs.declared.refusal.SyntaxRefusal.TheVariants as syntax
use Rattle.floop_run.specs.Answers.{IsTextAnswer, refused_text, read}
use Rattle.floop_run.proofs.ReadLemmas.{every}
use Rattle.floop_run.proofs.OutputLemmas.{finds_on, makes, refused_by}
use Rattle.floop_run.proofs.found.text_found.Goals as goal

pub returns-in-Ok : goal.returns-in-Ok
returns-in-Ok g c =
    let q = request_seen c.args.request.now in
    finds_on q _ _ _ _ _ _ _ _ _ _ _ _ _ _
    (every (g.F.Files.held c.args.files.now) _ (λ held answer is. subst (IsTextAnswer q held c.args.bytes.now) (sym is) (read c.in-Ok.ensures.spelled)))
    refl (omega arith) refl c.program_found.ensures

pub returns-in_ok-refusal_of-in-Err : goal.returns-in_ok-refusal_of-in-Err
returns-in_ok-refusal_of-in-Err g c =
    let q = request_seen c.args.request.now in
    let other : c.in-Err.why ≢ syntax.NoMemory = search rules in
    makes _ _ _ _ _ _ _ _ _ _ _
    (every (g.F.Files.held c.args.files.now) _ (λ held. refused_by q _ _ c.in_ok-refusal_of-in-Err.field-0 (refused_text (c.in-Err.ensures.refused other)) c.in_ok-refusal_of-in-Err.ensures.answer))
    c.in_ok-refusal_of-in-Err.ensures.answered refl (omega arith) refl
