-- What is laid out is one line.
use Rattle.std.proofs.Common.{◌≡◌, ◌≢◌, ℕ, zero, suc, Bool, true, false, cond, not, ◌&&◌, List, [], ◌∷◌, ◌++◌, replicate, None, is_some, eqb, codes, bytes_eq, refl, sym, ◌∙◌, subst, arith}
use Rattle.std.specs.List.{list_all}
use Rattle.std.proofs.lemmas.Bool.{and_from, and_parts}
use Rattle.std.proofs.lemmas.Bool.Decides.{nat_tests}
use Rattle.std.proofs.lemmas.Slice.Eq.{bytes_eq-Decides}
use Rattle.loop_tokens.specs.Bytes.{is_letter, is_digit, is_word_byte, escape}
use Rattle.loop_tokens.specs.Signs.{is_sign, short_sign, long_sign}
use Rattle.loop_tokens.specs.Keywords.{is_at_word}
use Rattle.loop_tokens.specs.Tokens.{is_token, closes, is_empty}
use Rattle.loop_tokens.proofs.FirstBytes.{letter_token, digit_token, quote_token, at_token, sign_token}
use Rattle.loop_layout.specs.Layout.{Mark, token_text, marks_text, AreReadable}
use Rattle.loop_layout.specs.Rows.{IsLine}
use Rattle.loop_layout.specs.Laws.{LaidOutLines}
use Rattle.loop_layout.proofs.LongestTokens.{some_token}

-- no byte is LF, and the last isn't CR
abbrev pub is_line : List ℕ → Bool
is_line [] = true
is_line (b ∷ []) = not (eqb b 10) && not (eqb b 13)
is_line (b ∷ c ∷ cs) = not (eqb b 10) && is_line (c ∷ cs)

line_tail : (b : ℕ) (bs : List ℕ) → is_line (b ∷ bs) ≡ true → is_line bs ≡ true
line_tail b [] h = refl
line_tail b (c ∷ cs) h = (and_parts (not (eqb b 10)) (is_line (c ∷ cs)) h).1

-- a byte that is neither LF nor CR
pub record Plain (b : ℕ) : Type 0 where
  pub no_lf : eqb b 10 ≡ false
  pub no_cr : eqb b 13 ≡ false

pub plain_line : (b : ℕ) (bs : List ℕ) → Plain b → is_line bs ≡ true → is_line (b ∷ bs) ≡ true
plain_line b [] p h = rw (p.no_lf, p.no_cr) refl
plain_line b (c ∷ cs) p h = rw p.no_lf h

pub line_append : (xs ys : List ℕ) → is_line xs ≡ true → is_line ys ≡ true → is_line (xs ++ ys) ≡ true
line_append [] ys h k = k
line_append (b ∷ []) [] h k = h
line_append (b ∷ []) (y ∷ ys) h k = and_from (not (eqb b 10)) (is_line (y ∷ ys)) (and_parts (not (eqb b 10)) (not (eqb b 13)) h).0 k
line_append (b ∷ c ∷ cs) ys h k = let both = and_parts (not (eqb b 10)) (is_line (c ∷ cs)) h in and_from (not (eqb b 10)) (is_line (c ∷ cs ++ ys)) both.0 (line_append (c ∷ cs) ys both.1 k)

no_lf_in : (bs before after : List ℕ) → is_line bs ≡ true → bs ≡ before ++ 10 ∷ after → ⊥
no_lf_in bs [] [] h e = let no : is_line (10 ∷ []) ≡ true = (rw e at h) in absurd (cc no)
no_lf_in bs [] (a ∷ more) h e = let no : is_line (10 ∷ a ∷ more) ≡ true = (rw e at h) in absurd (cc no)
no_lf_in [] (c ∷ before) after h e = cc
no_lf_in (b ∷ bs) (c ∷ before) after h e = no_lf_in bs before after (line_tail b bs h) (cc)

no_cr_in : (bs before : List ℕ) → is_line bs ≡ true → bs ≡ before ++ 13 ∷ [] → ⊥
no_cr_in bs [] h e = let no : is_line (13 ∷ []) ≡ true = (rw e at h) in absurd (cc no)
no_cr_in [] (c ∷ before) h e = cc
no_cr_in (b ∷ bs) (c ∷ before) h e = no_cr_in bs before (line_tail b bs h) (cc)

pub line_there : (bs : List ℕ) → is_line bs ≡ true → IsLine bs
line_there bs h = record { no_lf = λ before after e. no_lf_in bs before after h e; no_cr = λ before e. no_cr_in bs before h e }

-- ---- a token is in one line

word_plain : (b : ℕ) → is_word_byte b ≡ true → Plain b
word_plain b h = record { no_lf = grind (arith, nat_tests); no_cr = grind (arith, nat_tests) }

letter_plain : (b : ℕ) → is_letter b ≡ true → Plain b
letter_plain b h = record { no_lf = grind (arith, nat_tests); no_cr = grind (arith, nat_tests) }

digit_plain : (b : ℕ) → is_digit b ≡ true → Plain b
digit_plain b h = record { no_lf = grind (arith, nat_tests); no_cr = grind (arith, nat_tests) }

run_line : (p : ℕ → Bool) → ((b : ℕ) → p b ≡ true → Plain b) → (bs : List ℕ) → list_all p bs ≡ true → is_line bs ≡ true
run_line p plain [] h = refl
run_line p plain (b ∷ bs) h = let both = and_parts (p b) (list_all p bs) h in plain_line b bs (plain b both.0) (run_line p plain bs both.1)

escape_no_lf : (b : ℕ) → is_some (escape b) ≡ true → eqb b 10 ≡ false
escape_no_lf b h = grind (arith, nat_tests)

-- one more byte before a line that isn't empty
no_lf_line : (b : ℕ) (bs : List ℕ) → eqb b 10 ≡ false → is_empty bs ≡ false → is_line bs ≡ true → is_line (b ∷ bs) ≡ true
no_lf_line b [] n some h = cc
no_lf_line b (c ∷ cs) n some h = rw n h

closes_empty : (e : Bool) (bs : List ℕ) → closes e bs ≡ true → is_empty bs ≡ false
closes_empty e [] h = cc
closes_empty e (b ∷ bs) h = refl

two_values : (b : ℕ) → eqb b 92 ≡ true → eqb b 10 ≡ true → ⊥
two_values b h g = let one : b ≡ 92 = grind (arith, nat_tests) in let other : b ≡ 10 = grind (arith, nat_tests) in omega arith

quote_line : (q e f : Bool) (b : ℕ) (bs : List ℕ) → eqb b 34 ≡ q → eqb b 92 ≡ e → eqb b 10 ≡ f → cond q (is_empty bs) (cond e (closes true bs) (not f && closes false bs)) ≡ true →
    ((g : Bool) → closes g bs ≡ true → is_line bs ≡ true) → is_line (b ∷ bs) ≡ true
quote_line true e f b [] is back lf h ih = let quote : b ≡ 34 = grind (arith, nat_tests) in rw quote refl
quote_line true e f b (c ∷ cs) is back lf h ih = cc
quote_line false true true b bs is back lf h ih = absurd (two_values b back lf)
quote_line false true false b bs is back lf h ih = no_lf_line b bs lf (closes_empty true bs h) (ih true h)
quote_line false false true b bs is back lf h ih = cc
quote_line false false false b bs is back lf h ih = no_lf_line b bs lf (closes_empty false bs h) (ih false h)

closes_line : (e : Bool) (bs : List ℕ) → closes e bs ≡ true → is_line bs ≡ true
closes_line e [] h = cc
closes_line true (b ∷ bs) h = let both = and_parts (is_some (escape b)) (closes false bs) h in
    no_lf_line b bs (escape_no_lf b both.0) (closes_empty false bs both.1) (closes_line false bs both.1)
closes_line false (b ∷ bs) h = quote_line (eqb b 34) (eqb b 92) (eqb b 10) b bs refl refl refl h (λ g k. closes_line g bs k)

at_line : (bs : List ℕ) → is_at_word bs ≡ true → is_line (64 ∷ bs) ≡ true
at_line bs h = by (bytes_eq bs (codes "init")) (bytes_eq bs (codes "keep")) (bytes_eq bs (codes "reduce")) refl refl refl h where
  of : (word : List ℕ) → is_line (64 ∷ word) ≡ true → bytes_eq bs word ≡ true → is_line (64 ∷ bs) ≡ true
  of word line same = let is : bs ≡ word = (bytes_eq-Decides bs word).0 same in rw is line

  by : (s t u : Bool) → bytes_eq bs (codes "init") ≡ s → bytes_eq bs (codes "keep") ≡ t → bytes_eq bs (codes "reduce") ≡ u → is_at_word bs ≡ true → is_line (64 ∷ bs) ≡ true
  by true t u i k r g = of (codes "init") refl i
  by false true u i k r g = of (codes "keep") refl k
  by false false true i k r g = of (codes "reduce") refl r
  by false false false i k r g = let no : false ≡ true = (rw (i, k, r) at g) in cc

short_plain : (b : ℕ) → is_some (short_sign b) ≡ true → Plain b
short_plain b h = record { no_lf = grind (arith, nat_tests); no_cr = grind (arith, nat_tests) }

long_plain : (b : ℕ) → is_some (long_sign b) ≡ true → Plain b
long_plain b h = record { no_lf = grind (arith, nat_tests); no_cr = grind (arith, nat_tests) }

equal_plain : (c : ℕ) → eqb c 61 ≡ true → Plain c
equal_plain c h = record { no_lf = grind (arith, nat_tests); no_cr = grind (arith, nat_tests) }

pair_line : (t : Bool) (b c : ℕ) → eqb c 61 ≡ t → is_some (cond t (long_sign b) None) ≡ true → is_line (b ∷ c ∷ []) ≡ true
pair_line true b c is h = plain_line b (c ∷ []) (long_plain b h) (plain_line c [] (equal_plain c is) refl)
pair_line false b c is h = cc

sign_line : (b : ℕ) (bs : List ℕ) → is_sign (b ∷ bs) ≡ true → is_line (b ∷ bs) ≡ true
sign_line b [] h = plain_line b [] (short_plain b h) refl
sign_line b (c ∷ []) h = pair_line (eqb c 61) b c refl h
sign_line b (c ∷ d ∷ ds) h = cc

-- the bytes of a token hold no LF and don't end with CR
pub token_line : (xs : List ℕ) → is_token xs ≡ true → is_line xs ≡ true
token_line [] h = cc
token_line (b ∷ bs) h = at_letter (is_letter b) refl where
  at_other : (q a : Bool) → is_letter b ≡ false → is_digit b ≡ false → eqb b 34 ≡ q → eqb b 64 ≡ a → is_line (b ∷ bs) ≡ true
  at_other true a l d q k = let is : b ≡ 34 = grind (arith, nat_tests) in let P : ℕ → Type 0 = λ c. is_line (c ∷ bs) ≡ true in
      subst P (sym is) (plain_line 34 bs (record { no_lf = refl; no_cr = refl }) (closes_line false bs (sym (quote_token b bs is) ∙ h)))
  at_other false true l d q k = let is : b ≡ 64 = grind (arith, nat_tests) in let P : ℕ → Type 0 = λ c. is_line (c ∷ bs) ≡ true in
      subst P (sym is) (at_line bs (sym (at_token b bs is) ∙ h))
  at_other false false l d q k = let n : b ≢ 34 = grind (arith, nat_tests) in let m : b ≢ 64 = grind (arith, nat_tests) in
      sign_line b bs (sym (sign_token b bs l d n m) ∙ h)

  at_digit : (t : Bool) → is_letter b ≡ false → is_digit b ≡ t → is_line (b ∷ bs) ≡ true
  at_digit true l d = plain_line b bs (digit_plain b d) (run_line is_digit digit_plain bs (sym (digit_token b bs l d) ∙ h))
  at_digit false l d = at_other (eqb b 34) (eqb b 64) l d refl refl

  at_letter : (t : Bool) → is_letter b ≡ t → is_line (b ∷ bs) ≡ true
  at_letter true l = plain_line b bs (letter_plain b l) (run_line is_word_byte word_plain bs (sym (letter_token b bs l) ∙ h))
  at_letter false l = at_digit (is_digit b) l refl

-- ---- marks

mark_line : (a : Bool) (xs rest : List ℕ) → is_token xs ≡ true → is_line rest ≡ true → is_line (cond a (32 ∷ xs) xs ++ rest) ≡ true
mark_line true xs rest h k = plain_line 32 (xs ++ rest) (record { no_lf = refl; no_cr = refl }) (line_append xs rest (token_line xs h) k)
mark_line false xs rest h k = line_append xs rest (token_line xs h) k

pub marks_line : {ms : List Mark} → AreReadable ms → is_line (marks_text ms) ≡ true
marks_line AreReadable.none = refl
marks_line (AreReadable.last {m = m} is) = mark_line m.apart (token_text m.token) [] (some_token (token_text m.token) m.token is) refl
marks_line (AreReadable.more {m = m} {n = n} {ms = ms} is touch later) =
    mark_line m.apart (token_text m.token) (marks_text (n ∷ ms)) (some_token (token_text m.token) m.token is) (marks_line later)

spaces_line : (indent : ℕ) (bytes : List ℕ) → is_line bytes ≡ true → is_line (replicate indent 32 ++ bytes) ≡ true
spaces_line zero bytes h = h
spaces_line (suc n) bytes h = plain_line 32 (replicate n 32 ++ bytes) (record { no_lf = refl; no_cr = refl }) (spaces_line n bytes h)

pub laid_out_lines : LaidOutLines
laid_out_lines indent ms readable = line_there (replicate indent 32 ++ marks_text ms) (spaces_line indent (marks_text ms) (marks_line readable))
