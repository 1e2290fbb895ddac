-- The clauses of a top call, each by what the call is, its words, what files told before, the status that it gave, the counts
-- of faults, of reads and of puts, and what was written. Source: this project.
use Rattle.std.specs.Prelude.{◌≡◌, ◌≢◌, ℕ, ◌+◌, ◌≤◌, List, [], ◌∷◌, ◌++◌, Option, length, take, IfSome, IfErr, IsOk}
use Rattle.edge_io.specs.Counts.{counted, counted_times, DidNotRise, RoseByOne}
use Rattle.edge_io.specs.Writing.{Puts, PutsPrefix}
use Rattle.edge_io.specs.Reading.{Held}
use Rattle.program_words.specs.declared.command.Call.{Call}
use Rattle.floop_run.specs.declared.status.Status.{Status}
use Rattle.floop_run.specs.declared.status.Status.TheVariants as status
use Rattle.floop_run.specs.Requests.{request_in, most_reads}
use Rattle.floop_run.specs.Results.{line}
use Rattle.floop_run.specs.Answers.{IsAnswer, not_held}
use Rattle.floop_run.specs.Written.{Written, MayWrite, joined, whole_text}

-- ---- what was written

-- The status is that of what is written, and what was written is what was there before followed by its whole text, where the
-- sink tells its bytes.
pub record Gives (written : Written) (given : Status) (before now : Option (List ℕ)) : Type 0 where
  pub status : given ≡ written.status
  pub text : Puts before now (whole_text written)

-- a refusal's text, as one line, and its status
abbrev pub refusal_written : List ℕ → Written
refusal_written text = record { status = status.Refused; lines = line text ∷ [] }

-- the count of puts now: as many puts were made as there are lines
abbrev pub PutsEach : List (List ℕ) → ℕ → ℕ → Type 0
PutsEach lines before now = now ≡ counted_times (length lines) before

-- what was written is a prefix of the whole text
abbrev pub PutsPrefixOf : Written → Option (List ℕ) → Option (List ℕ) → Type 0
PutsPrefixOf written before now = PutsPrefix before now (whole_text written)

-- What was written and how many puts were made are those where the put of one line failed: the lines before it were put whole, a
-- prefix of it was kept, and no put came after. (Where the put that failed kept its whole line, one more failed put that
-- keeps nothing isn't told apart; but the clause is of all sinks, also of those that keep less.)
pub record LastPutFailed (lines : List (List ℕ)) (before now : Option (List ℕ)) (puts puts_now : ℕ) : Type 0 where
  pub whole : List (List ℕ)
  pub failed : List ℕ
  pub after : List (List ℕ)
  pub kept : ℕ
  pub split : lines ≡ whole ++ failed ∷ after
  pub text : Puts before now (joined whole ++ take kept failed)
  pub count : puts_now ≡ counted (counted_times (length whole) puts)

-- the statuses by which a call gives an answer's text
abbrev pub IsAnswered : Status → Type 0
IsAnswered status.Done = Unit {0}
IsAnswered status.LoopFault = Unit {0}
IsAnswered status.Refused = Unit {0}
IsAnswered status.ReadFault = ⊥
IsAnswered status.WriteFault = ⊥
IsAnswered status.NoMemory = ⊥

-- ---- the clauses, in which the status is that which the call gave

module _ (call : Call) (words : List (List ℕ)) where
  -- it is all of some text that the call may write over these files
  abbrev pub GivesAnswer : Held → Status → Option (List ℕ) → Option (List ℕ) → Type 0
  GivesAnswer held given before now = (written : Written) × MayWrite call words held written × Gives written given before now

  -- Where the bytes are told and no count of faults rose, the call gives the answer, unless memory ran out.
  abbrev pub Headline : Option Held → Status → ℕ → ℕ → ℕ → ℕ → Option (List ℕ) → Option (List ℕ) → Type 0
  Headline told given read_faults read_faults_now put_faults put_faults_now before now = IfSome told (λ held.
      DidNotRise read_faults read_faults_now → DidNotRise put_faults put_faults_now → given ≢ status.NoMemory →
      GivesAnswer held given before now)

  -- Words that are no request are refused, whatever files tell.
  abbrev pub WordsRefused : Status → ℕ → ℕ → Option (List ℕ) → Option (List ℕ) → Type 0
  WordsRefused given put_faults put_faults_now before now = IfErr (request_in call words) (λ text.
      DidNotRise put_faults put_faults_now → given ≢ status.NoMemory → Gives (refusal_written text) given before now)

  -- where the sink fails, a prefix of their text is left
  abbrev pub WordsPrefix : Status → Option (List ℕ) → Option (List ℕ) → Type 0
  WordsPrefix given before now = IfErr (request_in call words) (λ text. given ≡ status.WriteFault →
      PutsPrefixOf (refusal_written text) before now)

  -- their refusal is one put, whether it fails or not
  abbrev pub WordsPut : Status → ℕ → ℕ → Type 0
  WordsPut given puts puts_now = IfErr (request_in call words) (λ text. given ≢ status.NoMemory → puts_now ≡ counted puts)

  -- and no file is read for them
  abbrev pub WordsUnread : ℕ → ℕ → Type 0
  WordsUnread reads reads_now = IfErr (request_in call words) (λ text. reads_now ≡ reads)

  -- Done, LoopFault and Refused come only as the answer, also where a count rose
  abbrev pub Answered : Option Held → Status → Option (List ℕ) → Option (List ℕ) → Type 0
  Answered told given before now = IfSome told (λ held. IsAnswered given → GivesAnswer held given before now)

  -- and then there were as many puts as lines of some text that the call may write
  abbrev pub AnsweredPuts : Option Held → Status → ℕ → ℕ → Type 0
  AnsweredPuts told given puts puts_now = IfSome told (λ held. IsAnswered given →
      (written : Written) × MayWrite call words held written × PutsEach written.lines puts puts_now)

  -- ReadFault comes only after words that are a request,
  abbrev pub ReadFaultWords : Status → Type 0
  ReadFaultWords given = given ≡ status.ReadFault → IsOk (request_in call words)

  -- and where no read failed exactly where the answer is that a file isn't held
  abbrev pub ReadFaultAnswer : Option Held → Status → ℕ → ℕ → Type 0
  ReadFaultAnswer told given faults faults_now = IfSome told (λ held.
      DidNotRise faults faults_now → given ≡ status.ReadFault → IsAnswer call words held not_held)

  abbrev pub NotHeldAnswer : Option Held → Status → ℕ → ℕ → Type 0
  NotHeldAnswer told given faults faults_now = IfSome told (λ held.
      DidNotRise faults faults_now → IsAnswer call words held not_held → given ≢ status.NoMemory → given ≡ status.ReadFault)

  -- WriteFault leaves a prefix of some text that the call may write,
  abbrev pub WriteFaultWrote : Option Held → Status → Option (List ℕ) → Option (List ℕ) → Type 0
  WriteFaultWrote told given before now = IfSome told (λ held. given ≡ status.WriteFault →
      (written : Written) × MayWrite call words held written × PutsPrefixOf written before now)

  -- and the put that failed is the last
  abbrev pub WriteFaultLast : Option Held → Status → Option (List ℕ) → Option (List ℕ) → ℕ → ℕ → Type 0
  WriteFaultLast told given before now puts puts_now = IfSome told (λ held. given ≡ status.WriteFault →
      (written : Written) × MayWrite call words held written × LastPutFailed written.lines before now puts puts_now)

  -- There are no more reads than files named, and none for words that are no request.
  abbrev pub FewReads : ℕ → ℕ → Type 0
  FewReads reads reads_now = reads_now ≤ reads + most_reads (request_in call words)

-- WriteFault comes only where the sink's count rose, by one.
abbrev pub WriteFaultRose : Status → ℕ → ℕ → Type 0
WriteFaultRose given faults faults_now = given ≡ status.WriteFault → RoseByOne faults faults_now

-- a call that gave this status left something as it was: what was written, or the count of puts
abbrev pub LeftBy : {A : Type 0} → Status → Status → A → A → Type 0
LeftBy this given before now = given ≡ this → now ≡ before

-- A count of faults is as it was, but for a call that gave this status.
abbrev pub KeptBut : Status → Status → ℕ → ℕ → Type 0
KeptBut this given faults faults_now = given ≢ this → faults_now ≡ faults
