-- Which token some bytes are.
use Rattle.std.proofs.Common.{◌≡◌, ℕ, ◌-◌, ◌<◌, ◌≤◌, Bool, true, false, cond, List, ◌∷◌, length, take, drop, get_or, Option, Some, None, IsUtf8, IsCharBoundary, refl, sym, ◌∙◌, arith, lit<}
use Rattle.std.specs.List.{list_all}
use Rattle.std.proofs.lemmas.Str.{IsCharBoundary-after_ascii, IsCharBoundary-before_ascii}
use Rattle.loop_tokens.specs.declared.token.Token.{Token}
use Rattle.loop_tokens.specs.declared.token.Token.TheVariants as t
use Rattle.loop_tokens.specs.Bytes.{is_letter, is_digit, is_word_byte}
use Rattle.loop_tokens.specs.Keywords.{keyword_of}
use Rattle.loop_tokens.specs.Tokens.{is_token, token_of, named, closes}
use Rattle.loop_tokens.proofs.FirstBytes.{letter_token, digit_token, quote_token}
use Rattle.loop_tokens.proofs.Ends.{closes_ends}

held : {X : Type 0} (s : Bool) (x : X) → s ≡ true → ◌≡◌ {A = Option X} (Some x) (cond s (Some x) None)
held s x h = rw h refl

pub letter_is : (fs : List ℕ) (b : ℕ) (bs : List ℕ) → fs ≡ b ∷ bs → is_letter b ≡ true → is_token fs ≡ true → ◌≡◌ {A = Option Token} (Some (named (keyword_of fs) fs)) (token_of fs)
letter_is fs b bs e l h = rw e (rw l (held (list_all is_word_byte bs) _ (sym (letter_token b bs l) ∙ (rw e at h))))

pub digit_is : (fs : List ℕ) (b : ℕ) (bs : List ℕ) → fs ≡ b ∷ bs → is_letter b ≡ false → is_digit b ≡ true → is_token fs ≡ true → ◌≡◌ {A = Option Token} (Some (t.Number fs)) (token_of fs)
digit_is fs b bs e l d h = rw e (rw (l, d) (held (list_all is_digit bs) _ (sym (digit_token b bs l d) ∙ (rw e at h))))

pub quote_is : (fs : List ℕ) (b : ℕ) (bs : List ℕ) → fs ≡ b ∷ bs → b ≡ 34 → is_token fs ≡ true → ◌≡◌ {A = Option Token} (Some (t.Text (take (length fs - 1 - 1) (drop 1 fs)))) (token_of fs)
quote_is fs b bs e q h =
    let shorter : length (b ∷ bs) - 1 - 1 ≡ length bs - 1 = omega arith in
    rw e (rw (shorter, q) (held (closes false bs) _ (sym (quote_token b bs q) ∙ (rw e at h))))

pub quote_start : (fs : List ℕ) (b : ℕ) (bs : List ℕ) → fs ≡ b ∷ bs → IsUtf8 fs → b ≡ 34 → IsCharBoundary fs 1
quote_start fs b bs e u q =
    let first : get_or fs 0 0 < 128 = rw (e, q) (lit< tt) in
    IsCharBoundary-after_ascii fs 0 u (rw e (omega arith)) first

pub quote_end : (fs : List ℕ) (b : ℕ) (bs : List ℕ) → fs ≡ b ∷ bs → b ≡ 34 → is_token fs ≡ true → (IsCharBoundary fs (length fs - 1)) × (1 ≤ length fs - 1)
quote_end fs b bs e q h =
    let both = closes_ends b bs (sym (quote_token b bs q) ∙ (rw e at h)) in
    let size : length fs - 1 ≡ length bs = rw e (omega arith) in
    let last : get_or fs (length fs - 1) 0 < 128 = rw (size, e, both.1) (lit< tt) in
    (IsCharBoundary-before_ascii fs (length fs - 1) (rw e (omega arith)) last, rw size both.0)
