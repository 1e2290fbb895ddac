use Rattle.std.proofs.Common.{Err, refl, ap, arith, ◌∙◌}
use Rattle.edge_io.specs.declared.files.ReadStop.TheVariants as stop
use Rattle.program_words.specs.Views.{request_seen}
use Rattle.floop_run.specs.Answers.{too_long_text}
use Rattle.floop_run.specs.Requests.{loop_file}
use Rattle.floop_run.proofs.ReadLemmas.{every_of, ok_err, ok_file, long_file, missing_file}
use Rattle.floop_run.proofs.OutputLemmas.{finds_on, makes, misses, refused_by}
use Rattle.floop_run.proofs.found.found_for.Goals as goal

pub returns-in-Ok : goal.returns-in-Ok
returns-in-Ok g c =
    let q = request_seen c.args.request.now in
    let r = c.read_named.result in
    let counted = c.read_named.ensures.reads in
    finds_on q _ _ _ _ _ _ _ _ _ _ _ _ _ _
    (ok_file q (g.F.Files.held c.args.files.now) r c.in-Ok.field-0 c.loop_file-name.result.now (loop_file q) c.new-bytes.result.items c.read_named.new.into.items c.deref.result.now c.in-Ok.is c.loop_file-name.ensures c.new-bytes.ensures.items c.deref.ensures.value c.read_named.ensures.answer)
    c.read_named.ensures.held (omega arith) (c.read_named.ensures.not_failed (ok_err r c.in-Ok.field-0 stop.Failed c.in-Ok.is)) c.text_found.ensures

pub returns-in-Err-NotHeld : goal.returns-in-Err-NotHeld
returns-in-Err-NotHeld g c =
    let q = request_seen c.args.request.now in
    let counted = c.read_named.ensures.reads in
    misses _ _ _ _ _ _ _ _ _ _
    (missing_file q (g.F.Files.held c.args.files.now) c.read_named.result c.loop_file-name.result.now (loop_file q) _ _ (c.in-Err-NotHeld.is ∙ ap Err c.in-Err-NotHeld.field-0-is) c.loop_file-name.ensures c.read_named.ensures.answer)
    c.read_named.ensures.held (omega arith) (c.read_named.ensures.not_failed (λ e. absurd (cc)))

pub returns-in-Err-TooLong : goal.returns-in-Err-TooLong
returns-in-Err-TooLong g c =
    let q = request_seen c.args.request.now in
    let counted = c.read_named.ensures.reads in
    makes _ _ _ _ _ _ _ _ _ _ _
    (every_of (g.F.Files.held c.args.files.now) _ _ (λ held is. refused_by q _ too_long_text c.in_ok-too_long-in-Err-TooLong.field-0 is c.in_ok-too_long-in-Err-TooLong.ensures.answer)
    (long_file q (g.F.Files.held c.args.files.now) c.read_named.result c.loop_file-name.result.now (loop_file q) _ _ _ (c.in-Err-TooLong.is ∙ ap Err c.in-Err-TooLong.field-0-is) c.loop_file-name.ensures refl c.read_named.ensures.answer))
    c.in_ok-too_long-in-Err-TooLong.ensures.answered c.read_named.ensures.held (omega arith) (c.read_named.ensures.not_failed (λ e. absurd (cc)))
