-- From what a read of the loop file gives to the answer.
use Rattle.std.proofs.Common.{◌≡◌, ◌≢◌, ℕ, Bool, true, false, List, [], Option, Some, None, Result, Ok, Err, length, refl, sym, ap, subst, ◌∙◌}
use Rattle.std.specs.Prelude.{IfSome, IsOk, codes, nat_le, if◌then◌else◌}
use Rattle.std.specs.FinMap.{get}
use Rattle.std.proofs.lemmas.Bool.{leb-true, leb-false}
use Rattle.edge_io.specs.declared.files.ReadStop.{ReadStop}
use Rattle.edge_io.specs.declared.files.ReadStop.TheVariants as stop
use Rattle.edge_io.specs.Reading.{Held, read_answer, Reads}
use Rattle.program_words.specs.declared.command.Call.{Call}
use Rattle.program_words.specs.Requests.{Request}
use Rattle.floop_run.specs.Requests.{request_in}
use Rattle.loop_syntax.specs.Programs.{loop_file_limit}
use Rattle.floop_run.specs.declared.answer.Output.{Output}
use Rattle.floop_run.specs.Outputs.{IsOutputOf, written_in}
use Rattle.floop_run.specs.TopCall.{refusal_written}
use Rattle.floop_run.specs.Written.{Written, IsWritten, IsWrittenOf, IsWrittenFor}
use Rattle.floop_run.specs.Answers.{Answer, refused, not_held, too_long_text, IsTextAnswer, IsFileAnswer, missing, too_long, within, IsAskedAnswer, IsRequestAnswer, no_request, asked, IsAnswer}

-- what holds of each holds of what is there
pub every : {A : Type 0} (o : Option A) (P : A → Type 0) → ((a : A) → P a) → IfSome o P
every None P f = tt
every (Some a) P f = f a

pub every_of : {A : Type 0} (o : Option A) (P Q : A → Type 0) → ((a : A) → P a → Q a) → IfSome o P → IfSome o Q
every_of None P Q f h = tt
every_of (Some a) P Q f h = f a h

pub both_some : {A : Type 0} (o : Option A) (P Q R : A → Type 0) → ((a : A) → P a → Q a → R a) → IfSome o P → IfSome o Q → IfSome o R
both_some None P Q R f p q = tt
both_some (Some a) P Q R f p q = f a p q

-- the read's answer, told whether the bytes fit
by_fit : {T : Type 0} (r : Result T ReadStop) (before now bytes : List ℕ) (b : Bool) → nat_le (length bytes) loop_file_limit ≡ b → Reads (read_answer (Some bytes) loop_file_limit) r before now →
    Reads (if b then Ok bytes else Err stop.TooLong) r before now
by_fit r before now bytes b e h = subst (λ c. Reads (if c then Ok bytes else Err stop.TooLong) r before now) e h

pub ok_err : {T : Type 0} (r : Result T ReadStop) (t : T) (s : ReadStop) → r ≡ Ok t → r ≡ Err s → ⊥
ok_err r t s e f = absurd (cc)

is_ok_err : {T : Type 0} (r : Result T ReadStop) (s : ReadStop) → r ≡ Err s → IsOk r → ⊥
is_ok_err (Ok t) s e h = absurd (cc)
is_ok_err (Err u) s e h = absurd (cc)

long_missing : {T : Type 0} (r : Result T ReadStop) → r ≡ Err stop.TooLong → r ≡ Err stop.NotHeld → ⊥
long_missing r e f = absurd (cc)

-- the bytes were read
ok_fit : {T : Type 0} (q : Request) (h : Held) (r : Result T ReadStop) (t : T) (now bytes : List ℕ) (answer : Answer) (b : Bool) → nat_le (length bytes) loop_file_limit ≡ b → r ≡ Ok t →
    Reads (if b then Ok bytes else Err stop.TooLong) r [] now → IsTextAnswer q h now answer → IsFileAnswer q h (Some bytes) answer
ok_fit q h r t now bytes answer true is e hx x = within (leb-true _ _ is) (subst (λ bs. IsTextAnswer q h bs answer) hx.1 x)
ok_fit q h r t now bytes answer false is e hx x = absurd (ok_err r t stop.TooLong e hx)

pub ok_read : {T : Type 0} (q : Request) (h : Held) (r : Result T ReadStop) (t : T) (file : Option (List ℕ)) (now : List ℕ) (answer : Answer) → r ≡ Ok t → Reads (read_answer file loop_file_limit) r [] now →
    IsTextAnswer q h now answer → IsFileAnswer q h file answer
ok_read q h r t None now answer e hx x = absurd (ok_err r t stop.NotHeld e hx)
ok_read q h r t (Some bytes) now answer e hx x = ok_fit q h r t now bytes answer _ refl e (by_fit r [] now bytes _ refl hx) x

-- the file is too long
long_fit : {T : Type 0} (q : Request) (h : Held) (r : Result T ReadStop) (before now bytes : List ℕ) (answer : Answer) (b : Bool) → nat_le (length bytes) loop_file_limit ≡ b → r ≡ Err stop.TooLong →
    Reads (if b then Ok bytes else Err stop.TooLong) r before now → answer ≡ refused too_long_text → IsFileAnswer q h (Some bytes) answer
long_fit q h r before now bytes answer true is e hx x = absurd (is_ok_err r stop.TooLong e hx.0)
long_fit q h r before now bytes answer false is e hx x = subst (IsFileAnswer q h (Some bytes)) (sym x) (too_long (leb-false _ _ is))

pub long_read : {T : Type 0} (q : Request) (h : Held) (r : Result T ReadStop) (file : Option (List ℕ)) (before now : List ℕ) (answer : Answer) → r ≡ Err stop.TooLong → Reads (read_answer file loop_file_limit) r before now →
    answer ≡ refused too_long_text → IsFileAnswer q h file answer
long_read q h r None before now answer e hx x = absurd (long_missing r e hx)
long_read q h r (Some bytes) before now answer e hx x = long_fit q h r before now bytes answer _ refl e (by_fit r before now bytes _ refl hx) x

-- the file isn't held
missing_fit : {T : Type 0} (r : Result T ReadStop) (before now bytes : List ℕ) (b : Bool) → r ≡ Err stop.NotHeld → Reads (if b then Ok bytes else Err stop.TooLong) r before now → ⊥
missing_fit r before now bytes true e h = is_ok_err r stop.NotHeld e h.0
missing_fit r before now bytes false e h = long_missing r h e

pub missing_read : {T : Type 0} (r : Result T ReadStop) (file : Option (List ℕ)) (before now : List ℕ) → r ≡ Err stop.NotHeld → Reads (read_answer file loop_file_limit) r before now → file ≡ None
missing_read r None before now e h = refl
missing_read r (Some bytes) before now e h = absurd (missing_fit r before now bytes (nat_le (length bytes) loop_file_limit) e h)

pub long_not_failed : {T : Type 0} (r : Result T ReadStop) → r ≡ Err stop.TooLong → r ≢ Err stop.Failed
long_not_failed r e f = absurd (cc)

pub long_not_memory : {T : Type 0} (r : Result T ReadStop) → r ≡ Err stop.TooLong → r ≢ Err stop.NoMemory
long_not_memory r e f = absurd (cc)

missing_not_failed : {T : Type 0} (r : Result T ReadStop) → r ≡ Err stop.NotHeld → r ≢ Err stop.Failed
missing_not_failed r e f = absurd (cc)

missing_not_memory : {T : Type 0} (r : Result T ReadStop) → r ≡ Err stop.NotHeld → r ≢ Err stop.NoMemory
missing_not_memory r e f = absurd (cc)

-- ---- what the read's clause gives, where files tell

-- what was read of a name, where neither a failure nor want of memory came
abbrev pub ReadsNamed : {T : Type 0} → Result T ReadStop → List ℕ → List ℕ → List ℕ → Held → Type 0
ReadsNamed r name before now held = r ≢ Err stop.Failed → r ≢ Err stop.NoMemory → Reads (read_answer (get held name) loop_file_limit) r before now

ok_named : {T : Type 0} (q : Request) (held : Held) (r : Result T ReadStop) (t : T) (name file before now text : List ℕ) → r ≡ Ok t → name ≡ file → before ≡ [] → text ≡ now → ReadsNamed r name before now held →
    (answer : Answer) → IsTextAnswer q held text answer → IsFileAnswer q held (get held file) answer
ok_named q held r t name file before now text e n b is reads answer x =
    let none : Reads (read_answer (get held name) loop_file_limit) r [] now =
    subst (λ bs. Reads (read_answer (get held name) loop_file_limit) r bs now) b (reads (ok_err r t stop.Failed e) (ok_err r t stop.NoMemory e)) in
    subst (λ f. IsFileAnswer q held (get held f) answer) n (ok_read q held r t (get held name) now answer e none (subst (λ bs. IsTextAnswer q held bs answer) is x))

-- the bytes of the file were read: the answer for them is that for the file
pub ok_file : {T : Type 0} (q : Request) (held : Option Held) (r : Result T ReadStop) (t : T) (name file before now text : List ℕ) → r ≡ Ok t → name ≡ file → before ≡ [] → text ≡ now →
    IfSome held (ReadsNamed r name before now) → IfSome held (λ h. (answer : Answer) → IsTextAnswer q h text answer → IsFileAnswer q h (get h file) answer)
ok_file q held r t name file before now text e n b is reads = every_of held _ _ (λ h. ok_named q h r t name file before now text e n b is) reads

-- the file is too long
pub long_file : {T : Type 0} (q : Request) (held : Option Held) (r : Result T ReadStop) (name file before now : List ℕ) (answer : Answer) → r ≡ Err stop.TooLong → name ≡ file →
    answer ≡ refused too_long_text → IfSome held (ReadsNamed r name before now) → IfSome held (λ h. IsFileAnswer q h (get h file) answer)
long_file q held r name file before now answer e n is reads =
    every_of held _ _
    (λ h so. subst (λ f. IsFileAnswer q h (get h f) answer) n (long_read q h r (get h name) before now answer e (so (long_not_failed r e) (long_not_memory r e)) is))
    reads

missing_named : {T : Type 0} (q : Request) (held : Held) (r : Result T ReadStop) (name file before now : List ℕ) → r ≡ Err stop.NotHeld → name ≡ file → ReadsNamed r name before now held → IsFileAnswer q held (get held file) not_held
missing_named q held r name file before now e n so =
    let none : get held name ≡ None = missing_read r (get held name) before now e (so (missing_not_failed r e) (missing_not_memory r e)) in
    subst (λ f. IsFileAnswer q held f not_held) (sym none ∙ ap (get held) n) missing

-- the file isn't held
pub missing_file : {T : Type 0} (q : Request) (held : Option Held) (r : Result T ReadStop) (name file before now : List ℕ) → r ≡ Err stop.NotHeld → name ≡ file →
    IfSome held (ReadsNamed r name before now) → IfSome held (λ h. IsFileAnswer q h (get h file) not_held)
missing_file q held r name file before now e n reads = every_of held _ _ (λ h so. missing_named q h r name file before now e n so) reads

-- ---- words

-- from the file's answer to the words'
request_answer : (call : Call) (words : List (List ℕ)) (r : Result Request (List ℕ)) (held : Held) (answer : Answer) → request_in call words ≡ r → IsRequestAnswer r held answer → IsAnswer call words held answer
request_answer call words r held answer e a = subst (λ x. IsRequestAnswer x held answer) (sym e) a

-- the output of a refusal of the words
pub refused_output : (call : Call) (words : List (List ℕ)) (text : List ℕ) (held : Held) (o : Output) → request_in call words ≡ Err text → written_in o ≡ refusal_written text → IsOutputOf (IsAnswer call words held) (IsWritten call words) o
refused_output call words text held o e same = (
  refused text,
  request_answer call words (Err text) held (refused text) e no_request,
  subst (λ r. IsWrittenFor r (refused text) (written_in o)) (sym e) (ap (λ (w : Written). w.status) same, ap (λ (w : Written). w.lines) same),
)

-- the answer of the request that the words are is that of the words
pub asked_answers : (call : Call) (words : List (List ℕ)) (q : Request) (held : Option Held) → request_in call words ≡ Ok q → IfSome held (λ h. (answer : Answer) → IsAskedAnswer q h answer → IsAnswer call words h answer)
asked_answers call words q held e = every held _ (λ h answer is. request_answer call words (Ok q) h answer e (asked is))

-- and what is written for the request is written for the words
pub asked_written : (call : Call) (words : List (List ℕ)) (q : Request) → request_in call words ≡ Ok q → (answer : Answer) (written : Written) → IsWrittenOf q answer written → IsWritten call words answer written
asked_written call words q e answer written is = subst (λ r. IsWrittenFor r answer written) (sym e) is
