-- There is just one answer.
use Rattle.std.proofs.Common.{◌≡◌, ◌⊎◌, inl, inr, ℕ, ◌<◌, ◌≤◌, List, Option, Some, None, Result, Ok, Err, length, refl, ap, arith}
use Rattle.std.specs.FinMap.{get}
use Rattle.std.proofs.lemmas.Bool.{cases_lt}
use Rattle.edge_io.specs.Reading.{Held}
use Rattle.program_words.specs.Requests.{Request}
use Rattle.loop_syntax.proofs.TextLaws.{one_program, one_refusal, never_both, never_neither}
use Rattle.loop_grammar.specs.RefusalTexts.{syntax_text}
use Rattle.floop_run.specs.Requests.{request_in, loop_file}
use Rattle.loop_syntax.specs.Programs.{loop_file_limit}
use Rattle.floop_run.specs.Answers.{Answer, refused, not_held, program_answer, IsTextAnswer, refused_text, read, IsFileAnswer, missing, too_long, within, IsRequestAnswer, no_request, asked, OneAnswer, SomeAnswer}

one_text : (r : Request) (held : Held) (text : List ℕ) (a b : Answer) → IsTextAnswer r held text a → IsTextAnswer r held text b → a ≡ b
one_text r held text a b (refused_text f) (refused_text g) = ap (λ why. refused (syntax_text why)) (one_refusal text _ _ f g)
one_text r held text a b (refused_text f) (read s) = absurd (never_both text _ _ s f)
one_text r held text a b (read s) (refused_text f) = absurd (never_both text _ _ s f)
one_text r held text a b (read s) (read t) = ap (program_answer r held) (one_program text _ _ s t)

one_file : (r : Request) (held : Held) (file : Option (List ℕ)) (a b : Answer) → IsFileAnswer r held file a → IsFileAnswer r held file b → a ≡ b
one_file r held file a b missing missing = refl
one_file r held file a b (too_long lt) (too_long gt) = refl
one_file r held file a b (too_long lt) (within le t) = absurd (omega arith)
one_file r held file a b (within le t) (too_long lt) = absurd (omega arith)
one_file r held file a b (within le t) (within ge u) = one_text r held _ a b t u

one_request : (r : Result Request (List ℕ)) (held : Held) (a b : Answer) → IsRequestAnswer r held a → IsRequestAnswer r held b → a ≡ b
one_request r held a b no_request no_request = refl
one_request r held a b (asked f) (asked g) = one_file _ held _ a b f g

pub one_answer : OneAnswer
one_answer call words held a b x y = one_request (request_in call words) held a b x y

bytes_some : (r : Request) (held : Held) (bytes : List ℕ) → (loop_file_limit < length bytes) ⊎ (length bytes ≤ loop_file_limit) → ((a : Answer) → IsFileAnswer r held (Some bytes) a → ⊥) → ⊥
bytes_some r held bytes (inl lt) k = k _ (too_long lt)
bytes_some r held bytes (inr le) k = never_neither bytes (λ p s. k _ (within le (read s))) (λ why f. k _ (within le (refused_text f)))

file_some : (r : Request) (held : Held) (file : Option (List ℕ)) → ((a : Answer) → IsFileAnswer r held file a → ⊥) → ⊥
file_some r held None k = k not_held missing
file_some r held (Some bytes) k = bytes_some r held bytes (cases_lt loop_file_limit (length bytes)) k

request_some : (r : Result Request (List ℕ)) (held : Held) → ((a : Answer) → IsRequestAnswer r held a → ⊥) → ⊥
request_some (Err text) held k = k (refused text) no_request
request_some (Ok request) held k = file_some request held (get held (loop_file request)) (λ a f. k a (asked f))

pub some_answer : SomeAnswer
some_answer call words held k = request_some (request_in call words) held k
