-- The meaning of a text, character by character.
use Rattle.std.proofs.Common.{◌≡◌, ◌≢◌, ℕ, suc, ◌<◌, ◌≤◌, Bool, true, false, cond, eqb, List, [], ◌∷◌, ◌++◌, length, get_or, refl, ap, sym, ◌∙◌, arith, append_assoc, append-nil, encode_utf8, ⊎_elim}
use Rattle.std.proofs.lemmas.Bool.{cases_lt}
use Rattle.std.proofs.lemmas.Bool.Decides.{nat_tests}
use Rattle.std.proofs.lemmas.Str.{encode_ascii, inside_one, len_utf8_bounds, length-encode}
use Rattle.loop_tokens.specs.Literals.{meaning, text_of, unescaped}

-- no byte is ASCII
abbrev High : List ℕ → Type 0
High ys = (k : ℕ) → k < length ys → 128 ≤ get_or ys k 0

high_plain : (ys xs : List ℕ) → High ys → meaning false (ys ++ xs) ≡ ys ++ meaning false xs
high_plain [] xs h = refl
high_plain (y ∷ ys) xs h =
    let first : 128 ≤ y = h 0 (omega arith) in
    let no : eqb y 92 ≡ false = grind (arith, nat_tests) in
    rw no (ap (λ zs. y ∷ zs) (high_plain ys xs (λ k lt. h (suc k) (omega arith))))

high_escaped : (ys xs : List ℕ) → High ys → 0 < length ys → meaning true (ys ++ xs) ≡ ys ++ meaning false xs
high_escaped [] xs h some = absurd (omega arith)
high_escaped (y ∷ ys) xs h some =
    let first : 128 ≤ y = h 0 (omega arith) in
    let n : eqb y 110 ≡ false = grind (arith, nat_tests) in
    let t : eqb y 116 ≡ false = grind (arith, nat_tests) in
    rw (n, t) (ap (λ zs. y ∷ zs) (high_plain ys xs (λ k lt. h (suc k) (omega arith))))

high_char : (c : ℕ) → 128 ≤ c → High (encode_utf8 c)
high_char c le k lt = ⊎_elim (λ low. absurd (inside c k le lt low)) (λ ge. ge) (cases_lt (get_or (encode_utf8 c) k 0) 128) where
  inside : (d j : ℕ) → 128 ≤ d → j < length (encode_utf8 d) → get_or (encode_utf8 d) j 0 < 128 → ⊥
  inside d j ge within low = let same : d ≡ get_or (encode_utf8 d) j 0 = inside_one d [] (encode_utf8 d) j (sym (append-nil (encode_utf8 d))) within low in omega arith

encode_some : (c : ℕ) → 0 < length (encode_utf8 c)
encode_some c = let least = (len_utf8_bounds c).0 in let size = length-encode c in omega arith

unescaped_high : (c : ℕ) → 128 ≤ c → unescaped c ≡ c
unescaped_high c le =
    let n : eqb c 110 ≡ false = grind (arith, nat_tests) in
    let t : eqb c 116 ≡ false = grind (arith, nat_tests) in
    rw (n, t) refl

unescaped_low : (c : ℕ) → c < 128 → unescaped c < 128
unescaped_low c lt = by (eqb c 110) (eqb c 116) where
  by : (n t : Bool) → cond n 10 (cond t 9 c) < 128
  by true t = omega arith
  by false true = omega arith
  by false false = lt

pub char_backslash : (c : ℕ) (xs : List ℕ) → c ≡ 92 → meaning false (encode_utf8 c ++ xs) ≡ meaning true xs
char_backslash c xs h = let one : encode_utf8 92 ≡ 92 ∷ [] = encode_ascii 92 (omega arith) in rw h (ap (λ ys. meaning false (ys ++ xs)) one)

pub char_plain : (c : ℕ) (xs : List ℕ) → c ≢ 92 → meaning false (encode_utf8 c ++ xs) ≡ encode_utf8 c ++ meaning false xs
char_plain c xs n = ⊎_elim low (λ ge. high_plain (encode_utf8 c) xs (high_char c ge)) (cases_lt c 128) where
  low : c < 128 → meaning false (encode_utf8 c ++ xs) ≡ encode_utf8 c ++ meaning false xs
  low lt =
      let one : encode_utf8 c ≡ c ∷ [] = encode_ascii c lt in
      let no : eqb c 92 ≡ false = grind (arith, nat_tests) in
      let plain : meaning false (c ∷ xs) ≡ c ∷ meaning false xs = rw no refl in
      ap (λ ys. meaning false (ys ++ xs)) one ∙ plain ∙ ap (λ ys. ys ++ meaning false xs) (sym one)

pub char_escaped : (c : ℕ) (xs : List ℕ) → meaning true (encode_utf8 c ++ xs) ≡ encode_utf8 (unescaped c) ++ meaning false xs
char_escaped c xs = ⊎_elim low high (cases_lt c 128) where
  low : c < 128 → meaning true (encode_utf8 c ++ xs) ≡ encode_utf8 (unescaped c) ++ meaning false xs
  low lt =
      let one : encode_utf8 c ≡ c ∷ [] = encode_ascii c lt in
      let other : encode_utf8 (unescaped c) ≡ unescaped c ∷ [] = encode_ascii (unescaped c) (unescaped_low c lt) in
      ap (λ ys. meaning true (ys ++ xs)) one ∙ ap (λ ys. ys ++ meaning false xs) (sym other)

  high : 128 ≤ c → meaning true (encode_utf8 c ++ xs) ≡ encode_utf8 (unescaped c) ++ meaning false xs
  high ge = high_escaped (encode_utf8 c) xs (high_char c ge) (encode_some c) ∙ ap (λ d. encode_utf8 d ++ meaning false xs) (sym (unescaped_high c ge))

-- ---- the loop: what was written, and the meaning of the rest

pub meant_step : (raw done more before after : List ℕ) (c : ℕ) (e e' : Bool) (piece : List ℕ) → done ++ meaning e before ≡ text_of raw → before ≡ encode_utf8 c ++ after → more ≡ done ++ piece →
    meaning e (encode_utf8 c ++ after) ≡ piece ++ meaning e' after → more ++ meaning e' after ≡ text_of raw
meant_step raw done more before after c e e' piece held there wrote same =
    ap (λ ys. ys ++ meaning e' after) wrote ∙ append_assoc done piece (meaning e' after) ∙ ap (λ ys. done ++ ys) (sym same) ∙ ap (λ ys. done ++ meaning e ys) (sym there) ∙ held

pub meant_all : (raw done rest : List ℕ) (e : Bool) → done ++ meaning e rest ≡ text_of raw → length rest ≡ 0 → done ≡ text_of raw
meant_all raw done [] e held h = sym (append-nil done) ∙ held
meant_all raw done (b ∷ bs) e held h = absurd (omega arith)
