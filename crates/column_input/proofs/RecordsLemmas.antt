-- One read of `csv`'s reader takes the first of the records that are left.
use Rattle.std.proofs.Common.{◌≡◌, ◌∙◌, ◌<◌, ◌≤◌, ◌+◌, ◌==◌, ◌++◌, ℕ, zero, suc, Bool, true, false, List, [], ◌∷◌, Option, Some, None, length, refl, sym, subst, ap, inl, inr, arith, add-one, length-append}
use Rattle.std.specs.Prelude.{if◌then◌else◌, ◌&&◌, ◌||◌, not, option_map, take, drop}
use Rattle.std.specs.Borrow.{Bor}
use Rattle.csv.proofs.ReadFacts.{rows-end, rows-more}
use Rattle.csv.specs.Machine.{Read, after_end, ends_at_end, field_after, fields_after, in_field, is_end, next_record, start_field, start_record, step}
use Rattle.csv.specs.Reading.{NextIs, Reached, ReadRecord, ReadsNext, TookRecord, default_config, has_failed, reader_state, is_flexible, took_first, records_from, records_next, source_of, strip_bom}
use Rattle.csv.specs.declared.parser.Action.{Action}
use Rattle.csv.specs.declared.parser.Action.TheVariants as act
use Rattle.csv.specs.declared.parser.Config.{Config}
use Rattle.csv.specs.declared.parser.State.{State}
use Rattle.csv.specs.declared.parser.State.TheVariants as st
use Rattle.csv.specs.declared.reader.Reader.{Reader}
use Rattle.csv.specs.Records.{AllText}
use Rattle.column_input.specs.Records.{Fields, StartsNotUtf8}
use Rattle.column_input.specs.RecordsInside.{IsBetween, IsPlain, left_of, records_after, records_left}

-- what a step gives stands between two records where it ended one
EndsBetween : State × Action → Type 0
EndsBetween q = is_end q.1 ≡ true → IsBetween q.0

line_end : (c : ℕ) → IsBetween (after_end default_config.terminator c)
line_end c = elim (c == 13) as (λ b. IsBetween (if b then st.AfterCr else st.StartRecord)) [ true ↦ inr refl | false ↦ inl refl ]

-- a choice of two such steps
either_way : (b : Bool) (p q : State × Action) → EndsBetween p → EndsBetween q → EndsBetween (if b then p else q)
either_way true p q in_p in_q = in_p
either_way false p q in_p in_q = in_q

no_end : (s : State) (a : Action) → is_end a ≡ false → EndsBetween (s, a)
unfolding EndsBetween
no_end s a e h = cc (sym e ∙ h)

in_field_between : (c : ℕ) → EndsBetween (in_field default_config c)
unfolding EndsBetween
in_field_between c =
    either_way (c == 44) _ _ (no_end st.StartField act.EndField refl)
    (either_way ((c == 13) || (c == 10)) _ _ (λ _. line_end c) (no_end st.InField act.Copy refl))

start_field_between : (c : ℕ) → EndsBetween (start_field default_config c)
start_field_between c = either_way (c == 34) _ _ (no_end st.InQuoted act.Skip refl) (in_field_between c)

start_record_between : (c : ℕ) → EndsBetween (start_record default_config c)
start_record_between c = either_way ((c == 13) || (c == 10)) _ _ (no_end st.StartRecord act.Skip refl) (start_field_between c)

step_between : (s : State) (c : ℕ) → EndsBetween (step default_config s c)
step_between st.StartRecord c = start_record_between c
step_between st.StartField c = start_field_between c
step_between st.InField c = in_field_between c
step_between st.InQuoted c = either_way (c == 34) _ _ (no_end st.AfterQuote act.Skip refl) (no_end st.InQuoted act.Copy refl)
step_between st.InEscape c = no_end st.InQuoted act.Copy refl
step_between st.AfterQuote c = either_way (c == 34) _ _ (no_end st.InQuoted act.Copy refl) (in_field_between c)
step_between st.InComment c = either_way (c == 10) _ _ (no_end st.StartRecord act.Skip refl) (no_end st.InComment act.Skip refl)
step_between st.AfterCr c = either_way (c == 10) _ _ (no_end st.StartRecord act.Skip refl) (start_record_between c)

-- a record that was read leaves a state between two records and no more text than there was, and has a field
pub record Leaves (text : List ℕ) (read : Read) : Type 0 where
  pub between : IsBetween read.1
  pub shorter : length read.2 ≤ length text
  pub some : 0 < length read.0

-- the end of a record adds a field
ends_with_field : (a : Action) (fields : Fields) (field : List ℕ) → is_end a ≡ true → 0 < length (fields_after a fields field)
ends_with_field act.EndRecord fields field e = rw (length-append fields (field ∷ [])) (omega arith)
ends_with_field act.EndField fields field e = cc e
ends_with_field act.Skip fields field e = cc e
ends_with_field act.Copy fields field e = cc e

pub next_leaves : (s : State) (fields : Fields) (field : List ℕ) (text : List ℕ) (read : Read) → next_record default_config s fields field text ≡ Some read → Leaves text read
unfolding next_record EndsBetween
next_leaves s fields field [] read e = by (ends_at_end s) e
  where
    by : (b : Bool) → ◌≡◌ {A = Option Read} (if b then Some (fields ++ (field ∷ []), st.StartRecord, []) else None) (Some read) → Leaves [] read
    by true e =
        let q : (fields ++ (field ∷ []), st.StartRecord, []) ≡ read = cc e in
        rw (← q) (record { between = inl refl; shorter = omega arith; some = rw (length-append fields (field ∷ [])) (omega arith) })
    by false e = cc e
next_leaves s fields field (c ∷ rest) read e =
    by (is_end (step default_config s c).1) refl e
    (next_leaves (step default_config s c).0 (fields_after (step default_config s c).1 fields field) (field_after (step default_config s c).1 c field) rest read)
  where
    by : (b : Bool) → is_end (step default_config s c).1 ≡ b
        → ◌≡◌ {A = Option Read} (if b then Some (fields_after (step default_config s c).1 fields field, (step default_config s c).0, rest)
        else next_record default_config (step default_config s c).0 (fields_after (step default_config s c).1 fields field) (field_after (step default_config s c).1 c field) rest) (Some read)
        → (next_record default_config (step default_config s c).0 (fields_after (step default_config s c).1 fields field) (field_after (step default_config s c).1 c field) rest ≡ Some read
        → Leaves rest read)
        → Leaves (c ∷ rest) read
    by true t e more =
        let q : (fields_after (step default_config s c).1 fields field, (step default_config s c).0, rest) ≡ read = cc e in
        rw (← q) (record { between = step_between s c t; shorter = omega arith; some = ends_with_field (step default_config s c).1 fields field t })
    by false t e more =
        let later = more e in
        record { between = later.between; shorter = omega (arith, later.shorter); some = later.some }

-- between two records the end of the text ends nothing
none_at_end : (s : State) → IsBetween s → ◌≡◌ {A = Option Read} (next_record default_config s [] [] []) None
unfolding next_record
none_at_end s between = elim between [ inl start ↦ rw start refl | inr after ↦ rw after refl ]

-- a record that is read from between two records takes a byte at least
pub next_shorter : (s : State) (text : List ℕ) (read : Read) → IsBetween s → next_record default_config s [] [] text ≡ Some read → length read.2 < length text
unfolding next_record
next_shorter s [] read between e = cc (sym (none_at_end s between) ∙ e)
next_shorter s (c ∷ rest) read between e = by (is_end (step default_config s c).1) e
  where
    by : (b : Bool)
        → ◌≡◌ {A = Option Read} (if b then Some (fields_after (step default_config s c).1 [] [], (step default_config s c).0, rest)
        else next_record default_config (step default_config s c).0 (fields_after (step default_config s c).1 [] []) (field_after (step default_config s c).1 c []) rest) (Some read)
        → length read.2 < length (c ∷ rest)
    by true e =
        let q : (fields_after (step default_config s c).1 [] [], (step default_config s c).0, rest) ≡ read = cc e in
        rw (← q) (omega arith)
    by false e =
        let later = next_leaves (step default_config s c).0 (fields_after (step default_config s c).1 [] []) (field_after (step default_config s c).1 c []) rest read e in
        omega (arith, later.shorter)

-- more turns than the text has bytes are enough
enough_turns : (n m : ℕ) (s : State) (text : List ℕ) → IsBetween s → length text < n → length text < m
    → records_from default_config n s text ≡ records_from default_config m s text
unfolding records_from
enough_turns zero m s text between in_n in_m = absurd (omega arith)
enough_turns (suc n) zero s text between in_n in_m = absurd (omega arith)
enough_turns (suc n) (suc m) s text between in_n in_m =
    by (next_record default_config s [] [] text) refl (λ read. enough_turns n m read.1 read.2)
  where
    by : (next : Option Read) → next_record default_config s [] [] text ≡ next
        → ((read : Read) → IsBetween read.1 → length read.2 < n → length read.2 < m
        → records_from default_config n read.1 read.2 ≡ records_from default_config m read.1 read.2)
        → records_next (records_from default_config n) next ≡ records_next (records_from default_config m) next
    by None e more = refl
    by (Some read) e more =
        let leaves = next_leaves s [] [] text read e in
        let shorter = next_shorter s text read between e in
        ap (λ (later : List Fields). read.0 ∷ later) (more read leaves.between (omega arith) (omega arith))

-- the records of a text are the next one and then those of the rest
after_some : (s : State) (text : List ℕ) (read : Read) → IsBetween s → next_record default_config s [] [] text ≡ Some read
    → records_after s text ≡ read.0 ∷ records_after read.1 read.2
unfolding records_from
after_some s text read between e =
    let leaves = next_leaves s [] [] text read e in
    let shorter = next_shorter s text read between e in
    first ∙ ap (λ (later : List Fields). read.0 ∷ later) (enough_turns (length text) (length read.2 + 1) read.1 read.2 leaves.between shorter (omega arith))
  where
    first : records_after s text ≡ read.0 ∷ records_from default_config (length text) read.1 read.2
    first = rw (add-one, e) refl

after_none : (s : State) (text : List ℕ) → ◌≡◌ {A = Option Read} (next_record default_config s [] [] text) None → records_after s text ≡ []
unfolding records_from
after_none s text e = rw (add-one, e) refl

-- the bytes that a reader over a slice has left are known while it hasn't failed
known_source : (reader : Reader (Bor (List ℕ))) → has_failed reader ≡ false → (text : List ℕ) × (source_of (λ s. Some s.now) reader ≡ Some text)
known_source reader working = rw working (by (not reader.bom_checked && (reader.at == 0) && (reader.filled == 0)))
  where
    by : (start : Bool) → (text : List ℕ)
        × ((if start then option_map strip_bom (Some reader.rdr.now) else Some (drop reader.at (take reader.filled reader.buffer) ++ reader.rdr.now)) ≡ Some text)
    by true = (strip_bom reader.rdr.now, refl)
    by false = (drop reader.at (take reader.filled reader.buffer) ++ reader.rdr.now, refl)

-- the first of the records that are left, by names for what stands before and after it
first_left : (s s2 : State) (source source2 : Option (List ℕ)) (text rest : List ℕ) (fields : Fields) (next : Read)
    → IsBetween s → next_record default_config s [] [] text ≡ Some next → source ≡ Some text → source2 ≡ Some rest
    → fields ≡ next.0 → next.1 ≡ s2 → next.2 ≡ rest → records_left s source ≡ fields ∷ records_left s2 source2
first_left s s2 source source2 text rest fields next between found known after same state left =
    rw (known, after, ← state, ← left, same) (after_some s text next between found)

-- a read that found a record took the first of those that were left
pub record Took (old new : Reader (Bor (List ℕ))) (fields : Fields) : Type 0 where
  pub first : left_of old ≡ fields ∷ left_of new
  pub plain : IsPlain new
  pub some : 0 < length fields

pub read_took : (old new : Reader (Bor (List ℕ))) (fields : Fields) → IsPlain old → ReadRecord (λ (s : Bor (List ℕ)). Some s.now) old new true fields
    → took_first new ≡ true → is_flexible new ≡ is_flexible old → has_failed new ≡ has_failed old → Took old new fields
unfolding Reached
read_took old new fields plain read first flexible works =
    let (text, source) = known_source old plain.works in
    let (rest, after, reached) = rows-more (λ (s : Bor (List ℕ)). Some s.now) old new fields default_config (reader_state old) text text [] plain.config source (refl, refl) read in
    let (next, found, same, (state, left)) = reached in
    let leaves = next_leaves (reader_state old) [] [] text next found in
    record {
      first = first_left _ _ _ _ text rest fields next plain.between found source after same state left;
      plain = record {
        config = read.2 ∙ plain.config;
        untrimmed = read.3 ∙ plain.untrimmed;
        any_length = flexible ∙ plain.any_length;
        ready = inl first;
        works = works ∙ plain.works;
        between = subst IsBetween state leaves.between;
      };
      some = rw same leaves.some;
    }

-- a read that found none has read them all
pub read_ended : (old new : Reader (Bor (List ℕ))) (fields : Fields) → IsPlain old → ReadRecord (λ (s : Bor (List ℕ)). Some s.now) old new false fields → left_of old ≡ []
read_ended old new fields plain read =
    let (text, source) = known_source old plain.works in
    let ended = rows-end (λ (s : Bor (List ℕ)). Some s.now) old new fields default_config text plain.config source read in
    rw source (after_none (reader_state old) text ended)

-- a read of text that was refused for its text had such a record before it
first_refused : (next : Option Read) (fields : Fields) (s2 : State) (text rest : List ℕ) (s : State) → IsBetween s → next_record default_config s [] [] text ≡ next
    → NextIs next true fields s2 rest → records_after s text ≡ fields ∷ records_after s2 rest
first_refused None fields s2 text rest s between e is = cc is
first_refused (Some read) fields s2 text rest s between e is = rw (is.1, is.2, is.3) (after_some s text read between e)

-- the same of the records that are left
left_refused : (cfg : Config) (s s2 : State) (source after : Option (List ℕ)) (text : List ℕ) (fields : Fields) → IsBetween s → cfg ≡ default_config → source ≡ Some text
    → ReadsNext cfg s source after true fields s2 → ¬ (AllText fields) → StartsNotUtf8 (records_left s source)
left_refused cfg s s2 source after text fields between config known reads refused = rw known (by after (rw (known, config) at reads))
  where
    by : (after : Option (List ℕ)) → ReadsNext default_config s (Some text) after true fields s2 → StartsNotUtf8 (records_after s text)
    by None reads = absurd reads
    by (Some rest) reads = rw (first_refused _ fields s2 text rest s between refl reads) refused

pub read_refused : (old new : Reader (Bor (List ℕ))) (fields : Fields) → IsPlain old → TookRecord (λ (s : Bor (List ℕ)). Some s.now) old new fields
    → ¬ (AllText fields) → StartsNotUtf8 (left_of old)
read_refused old new fields plain took refused =
    let (text, known) = known_source old plain.works in
    left_refused _ _ _ _ _ text fields plain.between plain.config known took refused
