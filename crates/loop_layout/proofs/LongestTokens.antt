-- A readable token is the longest at its front where a space or an edge follows, or where it is an edge or `-` itself.
use Rattle.std.proofs.Common.{◌≡◌, ◌≢◌, ℕ, zero, suc, ◌<◌, ◌≤◌, Bool, true, false, cond, ◌||◌, List, [], ◌∷◌, ◌++◌, length, take, replicate, Option, Some, None, is_some, eqb, codes, bytes_eq, refl, ap, sym, ◌∙◌, subst, ⊎_elim, arith, length-append}
use Rattle.std.specs.List.{list_all}
use Rattle.std.proofs.lemmas.List.{take_at, drop_at, take_all}
use Rattle.std.proofs.lemmas.Bool.{and_right, or_cases}
use Rattle.std.proofs.lemmas.Bool.Decides.{nat_tests}
use Rattle.std.proofs.lemmas.Slice.Eq.{bytes_eq-Decides}
use Rattle.loop_tokens.specs.declared.token.Token.{Token}
use Rattle.loop_tokens.specs.declared.token.Token.TheVariants as tok
use Rattle.loop_tokens.specs.declared.sign.Sign.{Sign}
use Rattle.loop_tokens.specs.declared.sign.Sign.TheVariants as sg
use Rattle.loop_tokens.specs.Bytes.{is_letter, is_digit, is_word_byte}
use Rattle.loop_tokens.specs.Signs.{is_sign, long_sign}
use Rattle.loop_tokens.specs.Keywords.{is_at_word}
use Rattle.loop_tokens.specs.Tokens.{token_of, is_token, closes, IsLongestFront, Longest, Holds}
use Rattle.loop_tokens.proofs.Fronts.{closes_once}
use Rattle.loop_tokens.proofs.FirstBytes.{letter_token, digit_token, quote_token, at_token, sign_token}
use Rattle.loop_layout.specs.Layout.{Mark, token_text, marks_text, tokens_in, is_edge, is_minus, AreReadable}
use Rattle.loop_layout.specs.Laws.{LaidOut}

-- a byte that goes on with no name, no number and no sign
pub record Parts (c : ℕ) : Type 0 where
  pub no_word : is_word_byte c ≡ false
  pub no_digit : is_digit c ≡ false
  pub no_equal : eqb c 61 ≡ false

run_stops : (p : ℕ → Bool) (bs cs : List ℕ) (c : ℕ) → p c ≡ false → list_all p (bs ++ c ∷ cs) ≡ false
run_stops p [] cs c h = rw h refl
run_stops p (b ∷ bs) cs c h = and_right (p b) (list_all p (bs ++ c ∷ cs)) (run_stops p bs cs c h)

closes_stops : (bs cs : List ℕ) (c : ℕ) → closes false bs ≡ true → closes false (bs ++ c ∷ cs) ≡ false
closes_stops bs cs c h =
    let P : List ℕ → Type 0 = λ xs. closes false xs ≡ false in
    let front : closes false (take (length bs) (bs ++ c ∷ cs)) ≡ true = ap (closes false) (take_at bs (c ∷ cs) (length bs) refl) ∙ h in
    subst P (take_all (length (bs ++ c ∷ cs)) (bs ++ c ∷ cs) (omega arith))
    (closes_once false (bs ++ c ∷ cs) (length bs) (length (bs ++ c ∷ cs)) front (omega (arith, length-append bs (c ∷ cs))) (omega arith))

at_stops : (bs cs : List ℕ) (c : ℕ) → is_at_word bs ≡ true → is_at_word (bs ++ c ∷ cs) ≡ false
at_stops bs cs c h = by (bytes_eq bs (codes "init")) (bytes_eq bs (codes "keep")) (bytes_eq bs (codes "reduce")) refl refl refl h where
  of : (word : List ℕ) → is_at_word (word ++ c ∷ cs) ≡ false → bytes_eq bs word ≡ true → is_at_word (bs ++ c ∷ cs) ≡ false
  of word stops same = let is : bs ≡ word = (bytes_eq-Decides bs word).0 same in rw is stops

  by : (s t u : Bool) → bytes_eq bs (codes "init") ≡ s → bytes_eq bs (codes "keep") ≡ t → bytes_eq bs (codes "reduce") ≡ u → is_at_word bs ≡ true → is_at_word (bs ++ c ∷ cs) ≡ false
  by true t u i k r g = of (codes "init") refl i
  by false true u i k r g = of (codes "keep") refl k
  by false false true i k r g = of (codes "reduce") refl r
  by false false false i k r g = let no : false ≡ true = (rw (i, k, r) at g) in cc

sign_stops : (b : ℕ) (bs cs : List ℕ) (c : ℕ) → eqb c 61 ≡ false → is_sign (b ∷ bs) ≡ true → is_sign (b ∷ bs ++ c ∷ cs) ≡ false
sign_stops b [] [] c h s = rw h refl
sign_stops b [] (d ∷ ds) c h s = refl
sign_stops b (d ∷ []) cs c h s = refl
sign_stops b (d ∷ e ∷ es) cs c h s = refl

-- no longer token goes on with a byte that parts
pub token_stops : (xs cs : List ℕ) (c : ℕ) → Parts c → is_token xs ≡ true → is_token (xs ++ c ∷ cs) ≡ false
token_stops [] cs c p h = cc
token_stops (b ∷ bs) cs c p h = at_letter (is_letter b) refl where
  at_other : (q a : Bool) → is_letter b ≡ false → is_digit b ≡ false → eqb b 34 ≡ q → eqb b 64 ≡ a → is_token (b ∷ bs ++ c ∷ cs) ≡ false
  at_other true a l d q k = let is : b ≡ 34 = grind (arith, nat_tests) in
      quote_token b (bs ++ c ∷ cs) is ∙ closes_stops bs cs c (sym (quote_token b bs is) ∙ h)
  at_other false true l d q k = let is : b ≡ 64 = grind (arith, nat_tests) in
      at_token b (bs ++ c ∷ cs) is ∙ at_stops bs cs c (sym (at_token b bs is) ∙ h)
  at_other false false l d q k = let n : b ≢ 34 = grind (arith, nat_tests) in let m : b ≢ 64 = grind (arith, nat_tests) in
      sign_token b (bs ++ c ∷ cs) l d n m ∙ sign_stops b bs cs c p.no_equal (sym (sign_token b bs l d n m) ∙ h)

  at_digit : (t : Bool) → is_letter b ≡ false → is_digit b ≡ t → is_token (b ∷ bs ++ c ∷ cs) ≡ false
  at_digit true l d = digit_token b (bs ++ c ∷ cs) l d ∙ run_stops is_digit bs cs c p.no_digit
  at_digit false l d = at_other (eqb b 34) (eqb b 64) l d refl refl

  at_letter : (t : Bool) → is_letter b ≡ t → is_token (b ∷ bs ++ c ∷ cs) ≡ false
  at_letter true l = letter_token b (bs ++ c ∷ cs) l ∙ run_stops is_word_byte bs cs c p.no_word
  at_letter false l = at_digit (is_digit b) l refl

-- ---- signs that no longer token begins with

abbrev pub Alone : List ℕ → Type 0
Alone xs = (c : ℕ) (cs : List ℕ) → is_token (xs ++ c ∷ cs) ≡ false

long_none : (t : Bool) (o : Option Sign) → o ≡ None → is_some (cond t o None) ≡ false
long_none true o h = rw h refl
long_none false o h = refl

alone_sign : (b c : ℕ) (cs : List ℕ) → long_sign b ≡ None → is_sign (b ∷ c ∷ cs) ≡ false
alone_sign b c [] h = long_none (eqb c 61) (long_sign b) h
alone_sign b c (d ∷ ds) h = refl

alone : (b : ℕ) → is_letter b ≡ false → is_digit b ≡ false → b ≢ 34 → b ≢ 64 → long_sign b ≡ None → Alone (b ∷ [])
alone b l d n m h c cs = sign_token b (c ∷ cs) l d n m ∙ alone_sign b c cs h

pub edge_alone : (t : Token) → is_edge t ≡ true → Alone (token_text t)
edge_alone (tok.Sign sg.Open) h = alone 40 refl refl (omega arith) (omega arith) refl
edge_alone (tok.Sign sg.Close) h = alone 41 refl refl (omega arith) (omega arith) refl
edge_alone (tok.Sign sg.Comma) h = alone 44 refl refl (omega arith) (omega arith) refl
edge_alone (tok.Sign sg.Colon) h = alone 58 refl refl (omega arith) (omega arith) refl
edge_alone _ h = cc

pub minus_alone : (t : Token) → is_minus t ≡ true → Alone (token_text t)
minus_alone (tok.Sign sg.Minus) h = alone 45 refl refl (omega arith) (omega arith) refl
minus_alone _ h = cc

-- ---- what follows a token stops it

-- no token is xs and then more of `rest`
abbrev pub Stops : List ℕ → List ℕ → Type 0
Stops xs [] = Unit {0}
Stops xs (c ∷ cs) = (ds : List ℕ) → is_token (xs ++ c ∷ ds) ≡ false

alone_stops : (xs rest : List ℕ) → Alone xs → Stops xs rest
alone_stops xs [] h = tt
alone_stops xs (c ∷ cs) h = λ ds. h c ds

edge_stops : (xs rest : List ℕ) (u : Token) → is_edge u ≡ true → is_token xs ≡ true → Stops xs (token_text u ++ rest)
edge_stops xs rest (tok.Sign sg.Open) e h = λ ds. token_stops xs ds 40 (record { no_word = refl; no_digit = refl; no_equal = refl }) h
edge_stops xs rest (tok.Sign sg.Close) e h = λ ds. token_stops xs ds 41 (record { no_word = refl; no_digit = refl; no_equal = refl }) h
edge_stops xs rest (tok.Sign sg.Comma) e h = λ ds. token_stops xs ds 44 (record { no_word = refl; no_digit = refl; no_equal = refl }) h
edge_stops xs rest (tok.Sign sg.Colon) e h = λ ds. token_stops xs ds 58 (record { no_word = refl; no_digit = refl; no_equal = refl }) h
edge_stops xs rest _ e h = cc

-- the next token stops this one
pub next_stops : (a : Bool) (t u : Token) (rest : List ℕ) → is_token (token_text t) ≡ true → (a || (is_edge t || (is_edge u || is_minus t))) ≡ true →
    Stops (token_text t) (cond a (32 ∷ token_text u) (token_text u) ++ rest)
next_stops true t u rest h touch = λ ds. token_stops (token_text t) ds 32 (record { no_word = refl; no_digit = refl; no_equal = refl }) h
next_stops false t u rest h touch = ⊎_elim (λ e. alone_stops (token_text t) (token_text u ++ rest) (edge_alone t e))
    (λ other. ⊎_elim (λ e. edge_stops (token_text t) rest u e h) (λ e. alone_stops (token_text t) (token_text u ++ rest) (minus_alone t e)) (or_cases (is_edge u) (is_minus t) other))
    (or_cases (is_edge t) (is_edge u || is_minus t) touch)

-- ---- the longest token

take_past : (xs : List ℕ) (c : ℕ) (cs : List ℕ) (m : ℕ) → length xs < m → (ds : List ℕ) × (take m (xs ++ c ∷ cs) ≡ xs ++ c ∷ ds)
take_past [] c cs zero lt = absurd (omega arith)
take_past [] c cs (suc m) lt = (take m cs, refl)
take_past (x ∷ xs) c cs zero lt = absurd (omega arith)
take_past (x ∷ xs) c cs (suc m) lt = let past = take_past xs c cs m (omega arith) in (past.0, ap (λ ys. x ∷ ys) past.1)

not_longer : (xs rest : List ℕ) → Stops xs rest → (m : ℕ) → length xs < m → m ≤ length (xs ++ rest) → is_token (take m (xs ++ rest)) ≡ false
not_longer xs [] s m lt le = absurd (omega (arith, length-append xs []))
not_longer xs (c ∷ cs) s m lt le = let past = take_past xs c cs m lt in ap is_token past.1 ∙ s past.0

front_stops : (xs rest : List ℕ) → is_token xs ≡ true → Stops xs rest → IsLongestFront is_token (xs ++ rest) (length xs)
front_stops xs rest h s = record {
  within = omega (arith, length-append xs rest);
  passes = ap is_token (take_at xs rest (length xs) refl) ∙ h;
  longest = not_longer xs rest s;
}

pub some_token : (xs : List ℕ) (t : Token) → token_of xs ≡ Some t → is_token xs ≡ true
some_token xs t is = rw is refl

pub longest_there : (t : Token) (rest : List ℕ) → token_of (token_text t) ≡ Some t → Stops (token_text t) rest → Longest t (token_text t ++ rest) rest
longest_there t rest is s = record {
  size = length (token_text t);
  front = front_stops (token_text t) rest (some_token (token_text t) t is) s;
  is = ap token_of (take_at (token_text t) rest (length (token_text t)) refl) ∙ is;
  behind = sym (drop_at (token_text t) rest (length (token_text t)) refl);
}

-- ---- marks

mark_held : (a : Bool) (t : Token) (rest : List ℕ) (ts : List Token) → token_of (token_text t) ≡ Some t → Stops (token_text t) rest → Holds rest ts true →
    Holds (cond a (32 ∷ token_text t) (token_text t) ++ rest) (t ∷ ts) true
mark_held true t rest ts is s held = Holds.blank refl (Holds.token (longest_there t rest is s) held)
mark_held false t rest ts is s held = Holds.token (longest_there t rest is s) held

pub marks_held : {ms : List Mark} → AreReadable ms → Holds (marks_text ms) (tokens_in ms) true
marks_held AreReadable.none = Holds.end refl
marks_held (AreReadable.last {m = m} is) = mark_held m.apart m.token [] [] is tt (Holds.end refl)
marks_held (AreReadable.more {m = m} {n = n} {ms = ms} is touch later) =
    mark_held m.apart m.token (marks_text (n ∷ ms)) (tokens_in (n ∷ ms)) is
    (next_stops n.apart m.token n.token (marks_text ms) (some_token (token_text m.token) m.token is) touch) (marks_held later)

pub indented : (indent : ℕ) (bytes : List ℕ) (ts : List Token) (whole : Bool) → Holds bytes ts whole → Holds (replicate indent 32 ++ bytes) ts whole
indented zero bytes ts whole held = held
indented (suc n) bytes ts whole held = Holds.blank refl (indented n bytes ts whole held)

pub laid_out : LaidOut
laid_out indent ms readable = indented indent (marks_text ms) (tokens_in ms) true (marks_held readable)
