-- From the first offence of a program to the answer.
use Rattle.std.proofs.Common.{◌≡◌, ◌≢◌, Result, Err, ap}
use Rattle.std.specs.Prelude.{◌↔◌}
use Rattle.edge_io.specs.Reading.{Held}
use Rattle.program_words.specs.Requests.{Request}
use Rattle.loop_grammar.specs.declared.tree.ProgramTree.{ProgramTree}
use Rattle.legality_rules.specs.declared.refusal.Offence.{Offence}
use Rattle.legality_rules.specs.declared.refusal.LegalRefusal.{LegalRefusal}
use Rattle.legality_rules.specs.declared.refusal.LegalRefusal.TheVariants as legality
use Rattle.legality_rules.specs.Offences.{IsFirstOffence, offences_of}
use Rattle.legality_rules.specs.RefusalTexts.{offence_text}
use Rattle.legality_rules.proofs.FirstLemmas.{first_is_found}
use Rattle.floop_run.specs.Answers.{refused, legal_answer, program_answer}

-- a program's first offence is its answer
pub illegal_is : {T : Type 0} (q : Request) (held : Held) (program : ProgramTree) (r : Result T LegalRefusal) (o : Offence) → r ≡ Err (legality.Illegal o) →
    (r ≢ Err legality.NoMemory → (r ≡ Err (legality.Illegal o)) ↔ IsFirstOffence program o) → program_answer q held program ≡ refused (offence_text o)
illegal_is q held program r o e first =
    ap (λ f. legal_answer f q held program) (first_is_found (offences_of program) o ((first (illegal_not_memory r o e)).0 e))
  where
    illegal_not_memory : {T : Type 0} (r : Result T LegalRefusal) (o : Offence) → r ≡ Err (legality.Illegal o) → r ≢ Err legality.NoMemory
    illegal_not_memory r o e m = absurd (cc)
