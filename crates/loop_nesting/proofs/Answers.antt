-- The answer of the reader is the program, or the refusal, of the lines; and the laws that follow.
use Rattle.std.proofs.Common.{◌≡◌, ℕ, ◌+◌, zero, suc, List, [], ◌∷◌, ◌++◌, Result, Ok, Err, inl, inr, refl, ap, sym, ◌∙◌, subst, append_assoc, append-nil, add_comm, IfOk, ◌≢◌, ◌<◌, length, drop, length-drop, arith}
use Rattle.loop_grammar.specs.declared.line.NumberedLine.{NumberedLine}
use Rattle.loop_grammar.specs.declared.tree.ProgramTree.{ProgramTree}
use Rattle.loop_grammar.specs.declared.refusal.SyntaxRefusal.{SyntaxRefusal}
use Rattle.loop_grammar.specs.declared.refusal.SyntaxRefusal.TheVariants.{NotUtf8, NotALine, BadNesting, TooDeep, NumberTooWide, NoMemory}
use Rattle.loop_grammar.specs.Nesting.{Nests, NestingRefusal, IsFirstBad, IsViable, most_blocks}
use Rattle.loop_nesting.specs.declared.open.Stage.{Stage}
use Rattle.loop_nesting.specs.declared.open.Stage.TheVariants as stage
use Rattle.loop_nesting.specs.Reading.{Answer, step, run, run_on, finish, answer, most_ifs}
use Rattle.loop_nesting.specs.Claims.{OneProgram, OneRefusal, NeverBoth, NeverNeither, RefusesNesting}
use Rattle.loop_nesting.proofs.Run.{run_append, run_more, why, Reason, ends}
use Rattle.loop_nesting.proofs.Sound.{sound}
use Rattle.loop_nesting.proofs.Complete.{complete}

abbrev start : Stage
start = stage.Start

-- ---- a front is viable exactly where it is read

viable : (most : ℕ) (front : List NumberedLine) (at : Stage) → run most start front ≡ Ok at → IsViable (suc most) front
viable most front at e =
    let m = ends most at in
    (m.0, m.1, sound most m.1 (front ++ m.0) (run_append most start front m.0 ∙ ap (run_on most m.0) e ∙ m.2))

-- what is read on from a refusal is refused
read_front : (most : ℕ) (rest : List NumberedLine) (a : Answer) (b : Stage) → run_on most rest a ≡ Ok b → (at : Stage) × (a ≡ Ok at)
read_front most rest (Ok at) b e = (at, refl)
read_front most rest (Err r) b e = absurd cc

reads_front : (most : ℕ) (front more : List NumberedLine) (p : ProgramTree) → run most start (front ++ more) ≡ Ok (stage.Prints p) → (at : Stage) × (run most start front ≡ Ok at)
reads_front most front more p e = read_front most more (run most start front) (stage.Prints p) (sym (run_append most start front more) ∙ e)

-- a viable front is read
read_viable : (room : ℕ) (front : List NumberedLine) → IsViable room front → (most : ℕ) × (room ≡ suc most) × (at : Stage) × (run most start front ≡ Ok at)
read_viable zero front v = absurd (complete v.2)
read_viable (suc most) front v = let f = reads_front most front v.0 v.1 (complete v.2) in (most, refl, f.0, f.1)

-- ---- the line behind a front that is read

one_line : (most : ℕ) (x : NumberedLine) (at : Stage) → run most at (x ∷ []) ≡ step most at x
one_line most x at = elim (step most at x) as (λ a. run_on most [] a ≡ a) [ Ok b ↦ refl | Err r ↦ refl ]

next_line : (most : ℕ) (front : List NumberedLine) (x : NumberedLine) (at : Stage) → run most start front ≡ Ok at → run most start (front ++ x ∷ []) ≡ step most at x
next_line most front x at e = run_append most start front (x ∷ []) ∙ ap (run_on most (x ∷ [])) e ∙ one_line most x at

-- a front with a line more that is viable in some room: in some room that is no less, the line is read
steps_if_viable : (most room : ℕ) (front : List NumberedLine) (x : NumberedLine) (at : Stage) → run most start front ≡ Ok at → IsViable room (front ++ x ∷ []) →
    (wide : ℕ) × (b : Stage) × (step wide at x ≡ Ok b)
steps_if_viable most room front x at e v =
    let f = read_viable room (front ++ x ∷ []) v in
    let wide : ℕ = f.0 + most in
    let here : run wide start front ≡ Ok at = (let P : ℕ → Type 0 = λ z. run z start front ≡ Ok at in subst P (add_comm most f.0) (run_more most f.0 start front at e)) in
    (wide, f.2, sym (next_line wide front x at here) ∙ run_more f.0 most start (front ++ x ∷ []) f.2 f.3)

viable_if_steps : (most more : ℕ) (front : List NumberedLine) (x : NumberedLine) (at b : Stage) → run most start front ≡ Ok at → step (most + more) at x ≡ Ok b →
    IsViable (suc (most + more)) (front ++ x ∷ [])
viable_if_steps most more front x at b e s = viable (most + more) (front ++ x ∷ []) b (next_line (most + more) front x at (run_more most more start front at e) ∙ s)

-- with the room that there is, the line is read
steps_at_most : (most : ℕ) (front : List NumberedLine) (x : NumberedLine) (at : Stage) → run most start front ≡ Ok at → IsViable (suc most) (front ++ x ∷ []) → (b : Stage) × (step most at x ≡ Ok b)
steps_at_most most front x at e v =
    let f = reads_front most (front ++ x ∷ []) v.0 v.1 (complete v.2) in
    (f.0, sym (next_line most front x at e) ∙ f.1)

-- ---- the first line that is refused

-- where the reader stopped: a front that is read, and the line behind it, which is refused for r
record Stop (most : ℕ) (at : Stage) (lines : List NumberedLine) (r : SyntaxRefusal) : Type 0 where
  front : List NumberedLine
  x : NumberedLine
  more : List NumberedLine
  there : Stage
  whole : lines ≡ front ++ x ∷ more
  read : run most at front ≡ Ok there
  refused : step most there x ≡ Err r

stopped : (most : ℕ) (at : Stage) (lines : List NumberedLine) (r : SyntaxRefusal) → run most at lines ≡ Err r → Stop most at lines r
stopped most at [] r e = absurd cc
stopped most at (x ∷ lines) r e =
    elim (step most at x) as (λ a. step most at x ≡ a → run_on most lines a ≡ Err r → Stop most at (x ∷ lines) r) [
      | Ok b ↦ λ s h. (let t = stopped most b lines r h in record {
        front = x ∷ t.front;
        x = t.x;
        more = t.more;
        there = t.there;
        whole = ap (λ (z : List NumberedLine). x ∷ z) t.whole;
        read = ap (run_on most t.front) s ∙ t.read;
        refused = t.refused;
      })
      | Err q ↦ λ s h. record { front = []; x = x; more = lines; there = at; whole = refl; read = refl; refused = s ∙ (let same : Err q ≡ Err r = h in ap (λ (z : Answer). z) (cc)) }
    ] refl e

first_bad : (lines front more : List NumberedLine) (x : NumberedLine) (at : Stage) (r : SyntaxRefusal) → lines ≡ front ++ x ∷ more → run most_ifs start front ≡ Ok at → step most_ifs at x ≡ Err r →
    IsFirstBad lines front (x ∷ more)
first_bad lines front more x at r whole read refused = record {
  whole = whole;
  viable = viable most_ifs front at read;
  breaks = λ y rest same v. (let same_x : x ≡ y = cc in
      let P : NumberedLine → Type 0 = λ z. IsViable most_blocks (front ++ z ∷ []) in
      let s = steps_at_most most_ifs front x at read (subst P (sym same_x) v) in absurd (let a = s.1 in cc));
  early = λ same. absurd cc;
}

bad_line : (lines : List NumberedLine) (end : ℕ) (r : SyntaxRefusal) → run most_ifs start lines ≡ Err r → NestingRefusal lines end r
bad_line lines end r e =
    let t = stopped most_ifs start lines r e in
    let P : Answer → Type 0 = Reason (λ room. step room t.there t.x) t.x.line most_ifs in
    let first = first_bad lines t.front t.more t.x t.there r t.whole t.read t.refused in
    let Q : SyntaxRefusal → Type 0 = NestingRefusal lines end in
    elim (subst P t.refused (why most_ifs t.there t.x)) [
      | inl w ↦ subst Q (sym w.0) (NestingRefusal.bad first (λ room v. (let s = steps_if_viable most_ifs room t.front t.x t.there t.read v in w.1 s.0 s.1 s.2)))
      | inr w ↦ subst Q (sym w.0) (NestingRefusal.deep first (viable_if_steps most_ifs w.1 t.front t.x t.there w.2 t.read w.3))
    ]

-- ---- the answer

-- the lines end where no program may
abbrev IsOpen : Stage → Type 0
IsOpen (stage.Prints p) = ⊥
IsOpen _ = Unit {0}

too_early : (lines : List NumberedLine) (end : ℕ) (at : Stage) → IsOpen at → run most_ifs start lines ≡ Ok at → NestingRefusal lines end (BadNesting end)
too_early lines end at open_ e = NestingRefusal.early (record {
  whole = sym (append-nil lines);
  viable = viable most_ifs lines at e;
  breaks = λ x more same. absurd cc;
  early = λ _ p n. (let P : Stage → Type 0 = IsOpen in let same : at ≡ stage.Prints p = (let c = complete n in cc) in subst P same open_);
})

-- what each answer stands for
abbrev Means : List NumberedLine → ℕ → Result ProgramTree SyntaxRefusal → Type 0
Means lines end (Ok p) = Nests most_blocks p lines
Means lines end (Err r) = NestingRefusal lines end r

means_at : (lines : List NumberedLine) (end : ℕ) (a : Answer) → run most_ifs start lines ≡ a → Means lines end (finish end a)
means_at lines end (Ok stage.Start) e = too_early lines end stage.Start tt e
means_at lines end (Ok (stage.Vars q)) e = too_early lines end (stage.Vars q) tt e
means_at lines end (Ok (stage.Loop o)) e = too_early lines end (stage.Loop o) tt e
means_at lines end (Ok (stage.Prints p)) e = sound most_ifs p lines e
means_at lines end (Err r) e = bad_line lines end r e

pub means : (lines : List NumberedLine) (end : ℕ) → Means lines end (answer lines end)
means lines end = means_at lines end (run most_ifs start lines) refl

pub never_both : NeverBoth
never_both lines end p r n (NestingRefusal.early b) = b.early refl p n
never_both lines end p r n (NestingRefusal.bad {front = front} {more = more} {x = x} b h) =
    let P : List NumberedLine → Type 0 = λ z. Nests most_blocks p z in
    b.breaks x more refl (more, p, subst P (b.whole ∙ sym (append_assoc front (x ∷ []) more)) n)
never_both lines end p r n (NestingRefusal.deep {front = front} {more = more} {x = x} b h) =
    let P : List NumberedLine → Type 0 = λ z. Nests most_blocks p z in
    b.breaks x more refl (more, p, subst P (b.whole ∙ sym (append_assoc front (x ∷ []) more)) n)

pub never_neither : NeverNeither
never_neither lines end no_program no_refusal =
    elim (answer lines end) as (λ a. Means lines end a → ⊥) [ Ok p ↦ no_program p | Err r ↦ no_refusal r ] (means lines end)

pub one_program : OneProgram
one_program zero more p q lines n m = absurd (complete n)
one_program (suc a) zero p q lines n m = absurd (complete m)
one_program (suc a) (suc b) p q lines n m =
    let P : ℕ → Type 0 = λ z. run z start lines ≡ Ok (stage.Prints q) in
    let e : run (a + b) start lines ≡ Ok (stage.Prints p) = run_more a b start lines (stage.Prints p) (complete n) in
    let f : run (a + b) start lines ≡ Ok (stage.Prints q) = subst P (add_comm b a) (run_more b a start lines (stage.Prints q) (complete m)) in
    cc

-- ---- one refusal at most

refused_at : (most : ℕ) (lines front more : List NumberedLine) (x : NumberedLine) (at : Stage) (q : SyntaxRefusal) → lines ≡ front ++ x ∷ more → run most start front ≡ Ok at →
    step most at x ≡ Err q → run most start lines ≡ Err q
refused_at most lines front more x at q whole read refused =
    ap (run most start) whole ∙ run_append most start front (x ∷ more) ∙ ap (run_on most (x ∷ more)) read ∙ ap (run_on most more) refused

-- how the reader finds the first bad line
record Found (lines front : List NumberedLine) (x : NumberedLine) : Type 0 where
  at : Stage
  q : SyntaxRefusal
  read : run most_ifs start front ≡ Ok at
  refused : run most_ifs start lines ≡ Err q
  reason : Reason (λ room. step room at x) x.line most_ifs (Err q)

found_at : (lines front more : List NumberedLine) (x : NumberedLine) (at : Stage) (a : Answer) → IsFirstBad lines front (x ∷ more) → run most_ifs start front ≡ Ok at →
    step most_ifs at x ≡ a → Reason (λ room. step room at x) x.line most_ifs a → Found lines front x
found_at lines front more x at (Ok b) first read s w = absurd (first.breaks x more refl (viable most_ifs (front ++ x ∷ []) b (next_line most_ifs front x at read ∙ s)))
found_at lines front more x at (Err q) first read s w =
    record { at = at; q = q; read = read; refused = refused_at most_ifs lines front more x at q first.whole read s; reason = w }

found : (lines front more : List NumberedLine) (x : NumberedLine) → IsFirstBad lines front (x ∷ more) → Found lines front x
found lines front more x first =
    let v = first.viable in
    let f = reads_front most_ifs front v.0 v.1 (complete v.2) in
    found_at lines front more x f.0 (step most_ifs f.0 x) first f.1 refl (why most_ifs f.0 x)

early_at : (lines : List NumberedLine) (end : ℕ) (at : Stage) → IsFirstBad lines lines [] → run most_ifs start lines ≡ Ok at → finish end (Ok at) ≡ Err (BadNesting end)
early_at lines end stage.Start first e = refl
early_at lines end (stage.Vars q) first e = refl
early_at lines end (stage.Loop o) first e = refl
early_at lines end (stage.Prints p) first e = absurd (first.early refl p (sound most_ifs p lines e))

pub refusal_is : (lines : List NumberedLine) (end : ℕ) (r : SyntaxRefusal) → NestingRefusal lines end r → answer lines end ≡ Err r
refusal_is lines end r (NestingRefusal.early first) =
    let v = first.viable in
    let f = reads_front most_ifs lines v.0 v.1 (complete v.2) in
    ap (finish end) f.1 ∙ early_at lines end f.0 first f.1
refusal_is lines end r (NestingRefusal.bad {front = front} {more = more} {x = x} first h) =
    let f = found lines front more x first in
    elim f.reason [
      | inl w ↦ ap (finish end) f.refused ∙ ap (λ (z : SyntaxRefusal). Err z) w.0
      | inr w ↦ absurd (h _ (viable_if_steps most_ifs w.1 front x f.at w.2 f.read w.3))
    ]
refusal_is lines end r (NestingRefusal.deep {front = front} {more = more} {x = x} {room = room} first v) =
    let f = found lines front more x first in
    elim f.reason [
      | inl w ↦ (let s = steps_if_viable most_ifs room front x f.at f.read v in absurd (w.1 s.0 s.1 s.2))
      | inr w ↦ ap (finish end) f.refused ∙ ap (λ (z : SyntaxRefusal). Err z) w.0
    ]

pub one_refusal : OneRefusal
one_refusal lines end r q a b =
    let e = refusal_is lines end r a in
    let f = refusal_is lines end q b in
    cc

-- ---- what `nest` answers

program_at : (lines : List NumberedLine) (end : ℕ) (r : Result ProgramTree SyntaxRefusal) → Means lines end r → IfOk r (λ p. Nests most_blocks p lines)
program_at lines end (Ok p) m = m
program_at lines end (Err r) m = tt

refusal_at : (lines : List NumberedLine) (end : ℕ) (r : Result ProgramTree SyntaxRefusal) → Means lines end r → RefusesNesting lines end r
refusal_at lines end (Ok p) m = tt
refusal_at lines end (Err NoMemory) m = tt
refusal_at lines end (Err _) m = m

pub gives_program : (lines : List NumberedLine) (end : ℕ) (r : Result ProgramTree SyntaxRefusal) → r ≡ answer lines end → IfOk r (λ p. Nests most_blocks p lines)
gives_program lines end r e = program_at lines end r (let P : Result ProgramTree SyntaxRefusal → Type 0 = Means lines end in subst P (sym e) (means lines end))

pub gives_refusal : (lines : List NumberedLine) (end : ℕ) (r : Result ProgramTree SyntaxRefusal) → r ≡ answer lines end → RefusesNesting lines end r
gives_refusal lines end r e = refusal_at lines end r (let P : Result ProgramTree SyntaxRefusal → Type 0 = Means lines end in subst P (sym e) (means lines end))

other_refusal : (lines : List NumberedLine) (end : ℕ) (r : SyntaxRefusal) (a : Answer) → a ≡ Err r → (r ≡ NoMemory → ⊥) → (a ≢ Err NoMemory → a ≡ run most_ifs start lines) →
    NestingRefusal lines end r
other_refusal lines end r a same other h =
    let P : Result ProgramTree SyntaxRefusal → Type 0 = Means lines end in
    let e : a ≡ run most_ifs start lines = h (λ s. other (let t : Err r ≡ Err NoMemory = sym same ∙ s in cc)) in
    subst P (ap (finish end) (sym e ∙ same)) (means lines end)

-- a refusal on the way, which is passed on
pub passes_refusal : (lines : List NumberedLine) (end : ℕ) (r : SyntaxRefusal) (a : Answer) → a ≡ Err r → (a ≢ Err NoMemory → a ≡ run most_ifs start lines) →
    RefusesNesting lines end (Err r)
passes_refusal lines end NoMemory a e h = tt
passes_refusal lines end (NotUtf8 b) a e h = other_refusal lines end (NotUtf8 b) a e (λ s. cc) h
passes_refusal lines end (NotALine n) a e h = other_refusal lines end (NotALine n) a e (λ s. cc) h
passes_refusal lines end (BadNesting n) a e h = other_refusal lines end (BadNesting n) a e (λ s. cc) h
passes_refusal lines end (TooDeep n) a e h = other_refusal lines end (TooDeep n) a e (λ s. cc) h
passes_refusal lines end (NumberTooWide n) a e h = other_refusal lines end (NumberTooWide n) a e (λ s. cc) h

pub step_on : (at b : Stage) (x : NumberedLine) (rest lines : List NumberedLine) → lines ≡ x ∷ rest → step most_ifs at x ≡ Ok b → run most_ifs b rest ≡ run most_ifs at lines
step_on at b x rest lines same e = sym (ap (run most_ifs at) same ∙ ap (run_on most_ifs rest) e)

pub step_refused : (at : Stage) (x : NumberedLine) (rest lines : List NumberedLine) (r : SyntaxRefusal) → lines ≡ x ∷ rest → step most_ifs at x ≡ Err r → Err r ≡ run most_ifs at lines
step_refused at x rest lines r same e = sym (ap (run most_ifs at) same ∙ ap (run_on most_ifs rest) e)

pub all_read : (at : Stage) (lines : List NumberedLine) → lines ≡ [] → Ok at ≡ run most_ifs at lines
all_read at lines same = sym (ap (run most_ifs at) same)

-- ---- the loop of `run`

pub shorter : (x : NumberedLine) (rest lines : List NumberedLine) → lines ≡ x ∷ rest → length rest < length lines
shorter x rest lines same = (let e = ap length same in omega arith)

-- where nothing is taken from the front, nothing is left
pub empty : (lines rest : List NumberedLine) → lines ≡ rest → rest ≡ drop 1 lines → lines ≡ []
empty [] rest same behind = refl
empty (x ∷ lines) rest same behind = absurd (let e = ap length same in let f = ap length behind in let g = length-drop 1 (x ∷ lines) in omega arith)

pub refused_on : (at : Stage) (x : NumberedLine) (rest lines whole : List NumberedLine) (r : SyntaxRefusal) (result a : Answer) → lines ≡ x ∷ rest → a ≡ Err r →
    (a ≢ Err NoMemory → a ≡ step most_ifs at x) → run most_ifs at lines ≡ run most_ifs start whole → result ≡ Err r → result ≢ Err NoMemory → result ≡ run most_ifs start whole
refused_on at x rest lines whole r result a same e refused before is other =
    let read : a ≡ step most_ifs at x = refused (λ s. other (is ∙ sym e ∙ s)) in
    is ∙ step_refused at x rest lines r same (sym read ∙ e) ∙ before

pub passed_on : (lines : List NumberedLine) (end : ℕ) (r : SyntaxRefusal) (result : Result ProgramTree SyntaxRefusal) → (a : Answer) → a ≡ Err r → (a ≢ Err NoMemory → a ≡ run most_ifs start lines) →
    result ≡ Err r → RefusesNesting lines end result
passed_on lines end r result a e h same = (let P : Result ProgramTree SyntaxRefusal → Type 0 = RefusesNesting lines end in subst P (sym same) (passes_refusal lines end r a e h))
