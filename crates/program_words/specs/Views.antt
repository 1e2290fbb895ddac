-- What contracts see of requests and of the parts of a word.
-- Source: this project.
use Rattle.std.specs.Prelude.{ℕ, List, Result, Ok, Err}
use Rattle.std.specs.Borrow.{Bor}
use Rattle.program_words.specs.declared.request.Request.{Request as Given}
use Rattle.program_words.specs.Requests.{Request}
use Rattle.program_words.specs.declared.refusal.Refusal.{Refusal}
use Rattle.program_words.specs.Refusals.{refusal_text}
use Rattle.program_words.specs.Words.{texts}

abbrev pub request_seen : Given → Request
request_seen r = record { command = r.command; settings = texts r.settings.now }

-- a request, or the text of a refusal
abbrev pub answer_seen : Result Given Refusal → Result Request (List ℕ)
answer_seen (Ok r) = Ok (request_seen r)
answer_seen (Err r) = Err (refusal_text r)

abbrev pub pair_seen : Bor (List ℕ) × Bor (List ℕ) → List ℕ × List ℕ
pair_seen parts = (parts.0.now, parts.1.now)
