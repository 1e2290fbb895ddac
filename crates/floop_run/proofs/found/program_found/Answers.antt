use Rattle.std.proofs.Common.{◌≡◌, Err, ap, sym, refl, ◌∙◌, arith}
use Rattle.program_words.specs.Views.{request_seen}
use Rattle.legality_rules.specs.declared.refusal.LegalRefusal.TheVariants as legality
use Rattle.legality_rules.specs.RefusalTexts.{offence_text}
use Rattle.floop_run.proofs.ReadLemmas.{every}
use Rattle.floop_run.proofs.LegalLemmas.{illegal_is}
use Rattle.floop_run.proofs.OutputLemmas.{makes, refused_by}
use Rattle.floop_run.proofs.found.program_found.Goals as goal

pub returns-in_ok-refusal_of-in-Err-Illegal : goal.returns-in_ok-refusal_of-in-Err-Illegal
returns-in_ok-refusal_of-in-Err-Illegal g c =
    let q = request_seen c.args.request.now in
    let offence = c.in-Err-Illegal.offence in
    let found : c.check_program.result ≡ Err (legality.Illegal offence) = c.in-Err-Illegal.is ∙ ap Err c.in-Err-Illegal.field-0-is in
    makes _ _ _ _ _ _ _ _ _ _ _
    (every (g.F.Files.held c.args.files.now) _
    (λ held. refused_by q _ (offence_text offence) c.in_ok-refusal_of-in-Err-Illegal.field-0 (sym (illegal_is q held c.args.program c.check_program.result offence found (c.check_program.ensures.first offence))) c.in_ok-refusal_of-in-Err-Illegal.ensures.answer))
    c.in_ok-refusal_of-in-Err-Illegal.ensures.answered refl (omega arith) refl
