-- The longest front of a list that passes a test.
use Rattle.std.proofs.Common.{◌≡◌, ℕ, zero, suc, ◌+◌, ◌<◌, ◌≤◌, Bool, true, false, cond, eqb, not, ◌&&◌, List, [], ◌∷◌, length, take, Option, Some, None, MatchOption, is_some, refl, sym, ◌∙◌, arith, rules}
use Rattle.std.specs.List.{list_all, prefix_len}
use Rattle.loop_tokens.specs.Bytes.{escape}
use Rattle.loop_tokens.specs.Tokens.{IsLongestFront, NoFront, closes, is_empty}
use Rattle.loop_tokens.specs.declared.sign.Sign.{Sign}
use Rattle.loop_tokens.specs.Signs.{is_sign, short_sign, long_sign, is_long_sign}

suc_take : (b : ℕ) (bs : List ℕ) (k : ℕ) → take (1 + k) (b ∷ bs) ≡ b ∷ take k bs
suc_take b bs k = search rules

-- a test of what follows the first byte
pub front_cons : (p q : List ℕ → Bool) (b : ℕ) (bs : List ℕ) (n : ℕ) → ((xs : List ℕ) → p (b ∷ xs) ≡ q xs) → IsLongestFront q bs n → IsLongestFront p (b ∷ bs) (1 + n)
front_cons p q b bs n same h = record {
  within = omega (arith, h.within);
  passes = rw (suc_take b bs n) (same (take n bs) ∙ h.passes);
  longest = longer;
} where
  longer : (m : ℕ) → 1 + n < m → m ≤ length (b ∷ bs) → p (take m (b ∷ bs)) ≡ false
  longer zero lt le = absurd (omega arith)
  longer (suc m) lt le = same (take m bs) ∙ h.longest m (omega arith) (omega arith)

pub none_cons : (p q : List ℕ → Bool) (b : ℕ) (bs : List ℕ) → ((xs : List ℕ) → p (b ∷ xs) ≡ q xs) → p [] ≡ false → NoFront q bs → NoFront p (b ∷ bs)
none_cons p q b bs same empty none zero le = empty
none_cons p q b bs same empty none (suc m) le = same (take m bs) ∙ none m (omega arith)

-- the same test on the whole
pub front_same : (p q : List ℕ → Bool) (b : ℕ) (bs : List ℕ) (n : ℕ) → ((xs : List ℕ) → p (b ∷ xs) ≡ q (b ∷ xs)) → q [] ≡ false → IsLongestFront q (b ∷ bs) n → IsLongestFront p (b ∷ bs) n
front_same p q b bs zero same empty h = absurd (let no = sym empty ∙ h.passes in cc)
front_same p q b bs (suc n) same empty h = record {
  within = h.within;
  passes = same (take n bs) ∙ h.passes;
  longest = longer;
} where
  longer : (m : ℕ) → suc n < m → m ≤ length (b ∷ bs) → p (take m (b ∷ bs)) ≡ false
  longer zero lt le = absurd (omega arith)
  longer (suc m) lt le = same (take m bs) ∙ h.longest (suc m) lt le

pub none_same : (p q : List ℕ → Bool) (b : ℕ) (bs : List ℕ) → ((xs : List ℕ) → p (b ∷ xs) ≡ q (b ∷ xs)) → p [] ≡ false → NoFront q (b ∷ bs) → NoFront p (b ∷ bs)
none_same p q b bs same empty none zero le = empty
none_same p q b bs same empty none (suc m) le = same (take m bs) ∙ none (suc m) le

pub match_same : (p q : List ℕ → Bool) (b : ℕ) (bs : List ℕ) (r : Option ℕ) → ((xs : List ℕ) → p (b ∷ xs) ≡ q (b ∷ xs)) → p [] ≡ false → q [] ≡ false →
    MatchOption r (NoFront q (b ∷ bs)) (IsLongestFront q (b ∷ bs)) → MatchOption r (NoFront p (b ∷ bs)) (IsLongestFront p (b ∷ bs))
match_same p q b bs None same i j h = none_same p q b bs same i h
match_same p q b bs (Some n) same i j h = front_same p q b bs n same j h

-- a run of bytes
passes_more : (p : ℕ → Bool) (b : ℕ) (bs : List ℕ) (t : Bool) → p b ≡ t → list_all p (take (prefix_len p bs) bs) ≡ true → list_all p (take (prefix_len p (b ∷ bs)) (b ∷ bs)) ≡ true
passes_more p b bs true h ih = rw (h, suc_take b bs (prefix_len p bs)) (rw h ih)
passes_more p b bs false h ih = rw h refl

run_passes : (p : ℕ → Bool) (bs : List ℕ) → list_all p (take (prefix_len p bs) bs) ≡ true
run_passes p [] = refl
run_passes p (b ∷ bs) = passes_more p b bs (p b) refl (run_passes p bs)

ends_more : (p : ℕ → Bool) (b : ℕ) (bs : List ℕ) (m : ℕ) (t : Bool) → p b ≡ t → (prefix_len p bs < m → list_all p (take m bs) ≡ false) → prefix_len p (b ∷ bs) < suc m → list_all p (take (suc m) (b ∷ bs)) ≡ false
ends_more p b bs m true h ih lt = rw h (ih (let shorter : 1 + prefix_len p bs < suc m = rw h at lt in omega arith))
ends_more p b bs m false h ih lt = rw h refl

run_ends : (p : ℕ → Bool) (bs : List ℕ) (m : ℕ) → prefix_len p bs < m → m ≤ length bs → list_all p (take m bs) ≡ false
run_ends p [] m lt le = absurd (omega arith)
run_ends p (b ∷ bs) zero lt le = absurd (omega arith)
run_ends p (b ∷ bs) (suc m) lt le = ends_more p b bs m (p b) refl (λ less. run_ends p bs m less (omega arith)) lt

within_more : (p : ℕ → Bool) (b : ℕ) (bs : List ℕ) (t : Bool) → p b ≡ t → prefix_len p bs ≤ length bs → prefix_len p (b ∷ bs) ≤ length (b ∷ bs)
within_more p b bs true h ih = rw h (omega arith)
within_more p b bs false h ih = rw h (omega arith)

run_within : (p : ℕ → Bool) (bs : List ℕ) → prefix_len p bs ≤ length bs
run_within p [] = omega arith
run_within p (b ∷ bs) = within_more p b bs (p b) refl (run_within p bs)

pub front_run : (p : ℕ → Bool) (bs : List ℕ) → IsLongestFront (list_all p) bs (prefix_len p bs)
front_run p bs = record { within = run_within p bs; passes = run_passes p bs; longest = run_ends p bs }

-- a text closes once
take_some : (k : ℕ) (xs : List ℕ) → 0 < k → k ≤ length xs → is_empty (take k xs) ≡ false
take_some zero xs some fits = absurd (omega arith)
take_some (suc k) [] some fits = absurd (omega arith)
take_some (suc k) (x ∷ xs) some fits = refl

both_closed : (t u v : Bool) → (t && u) ≡ true → (u ≡ true → v ≡ false) → (t && v) ≡ false
both_closed true u v g ih = ih g
both_closed false u v g ih = refl

quote_closed : (n m : ℕ) (bs : List ℕ) (q e f c c' d d' : Bool) → n < m → m ≤ length bs →
    cond q (is_empty (take n bs)) (cond e c (not f && d)) ≡ true → (c ≡ true → c' ≡ false) → (d ≡ true → d' ≡ false) →
    cond q (is_empty (take m bs)) (cond e c' (not f && d')) ≡ false
quote_closed n m bs true e f c c' d d' lt le g i j = take_some m bs (omega arith) le
quote_closed n m bs false true f c c' d d' lt le g i j = i g
quote_closed n m bs false false true c c' d d' lt le g i j = cc
quote_closed n m bs false false false c c' d d' lt le g i j = j g

pub closes_once : (escaped : Bool) (bs : List ℕ) (n m : ℕ) → closes escaped (take n bs) ≡ true → n < m → m ≤ length bs → closes escaped (take m bs) ≡ false
closes_once escaped bs zero m h lt le = cc
closes_once escaped [] (suc n) m h lt le = cc
closes_once escaped (b ∷ bs) (suc n) zero h lt le = absurd (omega arith)
closes_once true (b ∷ bs) (suc n) (suc m) h lt le =
    both_closed (is_some (escape b)) (closes false (take n bs)) (closes false (take m bs)) h (λ g. closes_once false bs n m g (omega arith) (omega arith))
closes_once false (b ∷ bs) (suc n) (suc m) h lt le =
    quote_closed n m bs (eqb b 34) (eqb b 92) (eqb b 10) _ _ _ _ (omega arith) (omega arith) h
    (λ g. closes_once true bs n m g (omega arith) (omega arith)) (λ g. closes_once false bs n m g (omega arith) (omega arith))

-- a front of a text that closes is the longest
pub front_closes : (bs : List ℕ) (n : ℕ) → n ≤ length bs → closes false (take n bs) ≡ true → IsLongestFront (closes false) bs n
front_closes bs n le h = record { within = le; passes = h; longest = λ m lt fits. closes_once false bs n m h lt fits }

-- ---- signs

long_passes : (t : Bool) (o : Option Sign) → (t && is_some o) ≡ true → is_some (cond t o None) ≡ true
long_passes true o h = h
long_passes false o h = cc

long_fails : (t : Bool) (o : Option Sign) → (t && is_some o) ≡ false → is_some (cond t o None) ≡ false
long_fails true o h = h
long_fails false o h = refl

no_more : (b c : ℕ) (cs : List ℕ) (k : ℕ) → suc k ≤ length cs → is_sign (b ∷ c ∷ take (suc k) cs) ≡ false
no_more b c [] k le = absurd (omega arith)
no_more b c (d ∷ ds) k le = refl

pub sign_two : (b : ℕ) (bs : List ℕ) → is_long_sign b bs ≡ true → IsLongestFront is_sign (b ∷ bs) 2
sign_two b [] h = cc
sign_two b (c ∷ cs) h = record { within = omega arith; passes = long_passes (eqb c 61) (long_sign b) h; longest = longer } where
  longer : (m : ℕ) → 2 < m → m ≤ length (b ∷ c ∷ cs) → is_sign (take m (b ∷ c ∷ cs)) ≡ false
  longer (suc (suc (suc m))) lt le = no_more b c cs m (omega arith)
  longer _ lt le = absurd (omega arith)

not_longer : (b : ℕ) (bs : List ℕ) → is_long_sign b bs ≡ false → (m : ℕ) → 1 < m → m ≤ length (b ∷ bs) → is_sign (take m (b ∷ bs)) ≡ false
not_longer b [] h m lt le = absurd (omega arith)
not_longer b (c ∷ cs) h (suc (suc zero)) lt le = long_fails (eqb c 61) (long_sign b) h
not_longer b (c ∷ cs) h (suc (suc (suc m))) lt le = no_more b c cs m (omega arith)
not_longer b (c ∷ cs) h _ lt le = absurd (omega arith)

pub sign_one : (b : ℕ) (bs : List ℕ) → is_long_sign b bs ≡ false → is_some (short_sign b) ≡ true → IsLongestFront is_sign (b ∷ bs) 1
sign_one b bs h short = record { within = omega arith; passes = short; longest = not_longer b bs h }

pub sign_none : (b : ℕ) (bs : List ℕ) → is_long_sign b bs ≡ false → is_some (short_sign b) ≡ false → NoFront is_sign (b ∷ bs)
sign_none b bs h short zero le = refl
sign_none b bs h short (suc zero) le = short
sign_none b bs h short (suc (suc m)) le = not_longer b bs h (suc (suc m)) (omega arith) le
