-- The tokens that a line holds.
use Rattle.std.proofs.Common.{◌≡◌, ℕ, zero, suc, ◌+◌, ◌<◌, Bool, true, false, List, [], ◌∷◌, ◌++◌, length, take, drop, Option, Some, refl, ap, sym, ◌∙◌, subst, arith, rules, append_assoc, append-nil, length-drop}
use Rattle.std.specs.List.{prefix_len}
use Rattle.std.proofs.lemmas.Bool.Decides.{nat_tests}
use Rattle.loop_tokens.specs.declared.token.Token.{Token}
use Rattle.loop_tokens.specs.Bytes.{is_blank}
use Rattle.loop_tokens.specs.Tokens.{token_of, is_token, IsLongestFront, Longest, NoToken, ends, Holds}

-- no blank comes first
abbrev pub Unblanked : List ℕ → Type 0
Unblanked [] = Unit {0}
Unblanked (b ∷ bs) = is_blank b ≡ false

skipped_more : (b : ℕ) (bs : List ℕ) (t : Bool) → is_blank b ≡ t → Unblanked (drop (prefix_len is_blank bs) bs) → Unblanked (drop (prefix_len is_blank (b ∷ bs)) (b ∷ bs))
skipped_more b bs true h ih = let same : drop (1 + prefix_len is_blank bs) (b ∷ bs) ≡ drop (prefix_len is_blank bs) bs = search rules in rw h (rw same ih)
skipped_more b bs false h ih = rw h h

pub skipped : (bs : List ℕ) → Unblanked (drop (prefix_len is_blank bs) bs)
skipped [] = tt
skipped (b ∷ bs) = skipped_more b bs (is_blank b) refl (skipped bs)

held_more : (b : ℕ) (bs : List ℕ) (ts : List Token) (whole : Bool) (t : Bool) → is_blank b ≡ t → (Holds (drop (prefix_len is_blank bs) bs) ts whole → Holds bs ts whole) →
    Holds (drop (prefix_len is_blank (b ∷ bs)) (b ∷ bs)) ts whole → Holds (b ∷ bs) ts whole
held_more b bs ts whole true h ih p =
    let same : drop (1 + prefix_len is_blank bs) (b ∷ bs) ≡ drop (prefix_len is_blank bs) bs = search rules in
    Holds.blank h (ih (rw same at (rw h at p)))
held_more b bs ts whole false h ih p = rw h at p

-- what is held behind the blanks is held
pub held_behind : (bs : List ℕ) (ts : List Token) (whole : Bool) → Holds (drop (prefix_len is_blank bs) bs) ts whole → Holds bs ts whole
held_behind [] ts whole p = p
held_behind (b ∷ bs) ts whole p = held_more b bs ts whole (is_blank b) refl (held_behind bs ts whole) p

-- what holds of the rest, behind the tokens found, holds of the line
pub record Ahead (line : List ℕ) (found : List Token) (rest : List ℕ) : Type 0 where
  pub held : (ts : List Token) (whole : Bool) → Holds rest ts whole → Holds line (found ++ ts) whole
  pub unblanked : Unblanked rest

pub ahead_start : (line : List ℕ) (found : List Token) (rest : List ℕ) → found ≡ [] → rest ≡ drop (prefix_len is_blank line) line → Ahead line found rest
ahead_start line found rest none behind = rw (none, behind) record { held = λ ts whole p. held_behind line ts whole p; unblanked = skipped line }

pub ahead_token : (line : List ℕ) (found more : List Token) (rest behind after : List ℕ) (t : Token) → Ahead line found rest → Longest t rest behind → more ≡ found ++ t ∷ [] →
    after ≡ drop (prefix_len is_blank behind) behind → Ahead line more after
ahead_token line found more rest behind after t a l same is = record {
  held = λ ts whole p. (let P : List Token → Type 0 = λ vs. Holds line vs whole in
      subst P (sym (ap (λ vs. vs ++ ts) same ∙ append_assoc found (t ∷ []) ts)) (a.held (t ∷ ts) whole (Holds.token l (held_behind behind ts whole (rw is at p)))));
  unblanked = rw is (skipped behind);
}

pub ahead_end : (line : List ℕ) (found : List Token) (rest : List ℕ) → Ahead line found rest → ends rest ≡ true → Holds line found true
ahead_end line found rest a h = let P : List Token → Type 0 = λ vs. Holds line vs true in subst P (append-nil found) (a.held [] true (Holds.end h))

stuck_there : (rest : List ℕ) → Unblanked rest → ends rest ≡ false → NoToken rest → Holds rest [] false
stuck_there [] u h none = cc
stuck_there (b ∷ bs) u h none = Holds.stuck u (grind (arith, nat_tests)) none

pub ahead_stuck : (line : List ℕ) (found : List Token) (rest : List ℕ) → Ahead line found rest → ends rest ≡ false → NoToken rest → Holds line found false
ahead_stuck line found rest a h none = let P : List Token → Type 0 = λ vs. Holds line vs false in subst P (append-nil found) (a.held [] false (stuck_there rest a.unblanked h none))

-- ---- the token at the front

pub token_there : (text : List ℕ) (b : ℕ) (rest : List ℕ) (n : ℕ) (t : Token) (behind : List ℕ) → text ≡ b ∷ rest → IsLongestFront is_token (b ∷ rest) n → ◌≡◌ {A = Option Token} (Some t) (token_of (take n text)) →
    behind ≡ drop n text → Longest t text behind
token_there text b rest n t behind e front is after = record { size = n; front = rw e front; is = sym is; behind = after }

pub token_passes : (text : List ℕ) (b : ℕ) (rest : List ℕ) (n : ℕ) (front : List ℕ) → text ≡ b ∷ rest → IsLongestFront is_token (b ∷ rest) n → front ≡ take n text → is_token front ≡ true
token_passes text b rest n front e long is = rw (is, e) long.passes

pub none_empty : (text : List ℕ) → text ≡ [] → NoToken text
none_empty text e n le = rw e (by n) where
  by : (k : ℕ) → is_token (take k []) ≡ false
  by zero = refl
  by (suc k) = refl

pub sized : (n : ℕ) (text : List ℕ) (t : Token) → token_of (take n text) ≡ Some t → length (drop n text) < length text
sized zero text t is = absurd (cc is)
sized (suc n) [] t is = absurd (cc is)
sized (suc n) (b ∷ bs) t is = omega (arith, length-drop n bs)

-- less follows a token and the blanks behind it
pub shorter : (text : List ℕ) (t : Token) (behind after : List ℕ) → Longest t text behind → after ≡ drop (prefix_len is_blank behind) behind → length after < length text
shorter text t behind after l is =
    let less : length (drop l.size text) < length text = sized l.size text t l.is in
    let first : length behind ≡ length (drop l.size text) = ap length l.behind in
    let second : length after ≡ length (drop (prefix_len is_blank behind) behind) = ap length is in
    omega (arith, length-drop (prefix_len is_blank behind) behind)
