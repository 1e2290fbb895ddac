-- The most parentheses that are open at one place, token by token.
use Rattle.std.proofs.Common.{◌≡◌, ℕ, ◌+◌, ◌-◌, ◌*◌, ◌<◌, ◌≤◌, max, List, [], ◌∷◌, length, drop, get_or, fold, ap, sym, ◌∙◌, arith}
use Rattle.std.proofs.lemmas.List.{at_drop_more, at_drop_all}
use Rattle.loop_tokens.specs.declared.token.Token.{Token}
use Rattle.loop_tokens.specs.declared.token.Token.TheVariants as token
use Rattle.loop_tokens.specs.declared.sign.Sign.TheVariants as s
use Rattle.loop_tokens.specs.Limits.{open_behind, most_open}
use Rattle.loop_tokens.specs.Literals.{number_of}

most_least : (n : ℕ) (ts : List Token) → n ≤ most_open n ts
most_least n [] = omega arith
most_least n (t ∷ ts) = omega arith

-- the first i tokens are counted
pub record Counted (ts : List Token) (i left most : ℕ) : Type 0 where
  pub left_in : left ≤ i
  pub left_most : left ≤ most
  pub deepest : max most (most_open left (drop i ts)) ≡ most_open 0 ts

pub counted_start : (ts : List Token) → Counted ts 0 0 0
counted_start ts = record { left_in = omega arith; left_most = omega arith; deepest = omega arith }

most_more : (most left : ℕ) (t : Token) (ts : List Token) → left ≤ most → max (max most (open_behind left t)) (most_open (open_behind left t) ts) ≡ max most (most_open left (t ∷ ts))
most_more most left t ts le = omega (arith, most_least (open_behind left t) ts)

grows_by_one : (left : ℕ) (t : Token) → open_behind left t ≤ left + 1
grows_by_one left (token.Sign s.Open) = omega arith
grows_by_one left (token.Sign s.Close) = omega arith
grows_by_one left _ = omega arith

pub counted_more : (ts : List Token) (i left most : ℕ) (t : Token) (left' most' : ℕ) → Counted ts i left most → i < length ts → t ≡ get_or ts i t → left' ≡ open_behind left t → most' ≡ max most left' → Counted ts (i + 1) left' most'
counted_more ts i left most t left' most' c lt is o m =
    let deep : most_open left (drop i ts) ≡ most_open left (get_or ts i t ∷ drop (i + 1) ts) = at_drop_more (most_open left) ts i t lt in
    let deep_same : most_open left (get_or ts i t ∷ drop (i + 1) ts) ≡ most_open left (t ∷ drop (i + 1) ts) = ap (λ (u : Token). most_open left (u ∷ drop (i + 1) ts)) (sym is) in
    let more : max (max most left') (most_open left' (drop (i + 1) ts)) ≡ max most (most_open left (t ∷ drop (i + 1) ts)) = rw o (most_more most left t (drop (i + 1) ts) c.left_most) in
    let by_one : open_behind left t ≤ left + 1 = grows_by_one left t in
    let before : left ≤ i = c.left_in in
    record {
      left_in = omega arith;
      left_most = omega arith;
      deepest = ap (λ n. max n (most_open left' (drop (i + 1) ts))) m ∙ more ∙ ap (λ n. max most n) (sym (deep ∙ deep_same)) ∙ c.deepest;
    }

pub counted_all : (ts : List Token) (i left most : ℕ) → Counted ts i left most → length ts ≤ i → most ≡ most_open 0 ts
counted_all ts i left most c end =
    let deep : most_open left (drop i ts) ≡ left = at_drop_all (most_open left) ts i end in
    let deepest = c.deepest in let le = c.left_most in omega arith

-- ---- digits

abbrev digit_step : ℕ → ℕ → ℕ
digit_step n d = 10 * n + (d - 48)

grows : (n : ℕ) (ds : List ℕ) → n ≤ fold digit_step n ds
grows n [] = omega arith
grows n (d ∷ ds) = omega (arith, grows (digit_step n d) ds)

pub too_wide : (ds items : List ℕ) (i n k : ℕ) → fold (λ m d. 10 * m + (d - 48)) n (drop i items) ≡ number_of ds → i < length items → 10 * n + (get_or items i 0 - 48) ≡ k → k ≤ number_of ds
too_wide ds items i n k ahead lt next =
    let more : fold digit_step n (drop i items) ≡ fold digit_step (digit_step n (get_or items i 0)) (drop (i + 1) items) = at_drop_more (fold digit_step n) items i 0 lt in
    let above = grows (digit_step n (get_or items i 0)) (drop (i + 1) items) in
    omega arith
