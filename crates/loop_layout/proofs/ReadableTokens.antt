-- Which tokens are read back from their own bytes.
use Rattle.std.proofs.Common.{◌≡◌, ℕ, ◌+◌, ◌*◌, ◌-◌, ◌/◌, ◌%◌, ◌<◌, ◌≤◌, ◌^◌, Bool, true, false, ◌&&◌, List, [], ◌∷◌, ◌++◌, length, take, Some, refl, ap, sym, ◌∙◌, arith, length-append}
use Rattle.std.specs.List.{list_all, fold}
use Rattle.std.specs.Fmt.{decimal}
use Rattle.std.proofs.lemmas.List.{take_at}
use Rattle.std.proofs.lemmas.List.Folds.{list_all-append}
use Rattle.std.proofs.lemmas.List.Sums.{fold-append}
use Rattle.std.proofs.lemmas.Bool.{and_from, and_parts}
use Rattle.std.proofs.lemmas.Bool.Decides.{nat_tests}
use Rattle.std.proofs.lemmas.Fmt.{decimal_by_steps}
use Rattle.loop_tokens.specs.declared.token.Token.{Token}
use Rattle.loop_tokens.specs.declared.token.Token.TheVariants as tok
use Rattle.loop_tokens.specs.Bytes.{is_letter, is_digit}
use Rattle.loop_tokens.specs.Tokens.{token_of, closes, Longest, Holds}
use Rattle.loop_tokens.specs.Literals.{number_of, escaped}
use Rattle.loop_tokens.proofs.FirstBytes.{digit_token}
use Rattle.loop_tokens.proofs.TokenOf.{digit_is}
use Rattle.loop_tokens.proofs.ReadBack.{escapes_close, escapes_mean}
use Rattle.loop_layout.specs.Laws.{IsReadable, AllReadable, ReadableTexts, ReadableNumbers, ReadableHeld}
use Rattle.loop_layout.proofs.TokenTexts.{token_bytes}

-- ---- texts

-- what closes with its quote is a text
pub readable_text : (raw : List ℕ) → closes false (raw ++ 34 ∷ []) ≡ true → IsReadable (tok.Text raw)
readable_text raw h =
    let size : length raw ≡ length (raw ++ 34 ∷ []) - 1 = omega (arith, length-append raw (34 ∷ [])) in
    rw h (ap (λ xs. Some (tok.Text xs)) (take_at raw (34 ∷ []) (length (raw ++ 34 ∷ []) - 1) size))

pub readable_texts : ReadableTexts
readable_texts text = (readable_text (escaped text) (escapes_close text), escapes_mean text)

-- ---- numbers

pub readable_digits : (ds : List ℕ) → 0 < length ds → list_all is_digit ds ≡ true → IsReadable (tok.Number ds)
readable_digits [] some h = absurd (omega arith)
readable_digits (b ∷ bs) some h =
    let parts = and_parts (is_digit b) (list_all is_digit bs) h in
    let d : is_digit b ≡ true = parts.0 in
    let l : is_letter b ≡ false = grind (arith, nat_tests) in
    sym (digit_is (b ∷ bs) b bs refl l d (digit_token b bs l d ∙ parts.1))

-- digits that spell n
pub record Spelled (n : ℕ) (ds : List ℕ) : Type 0 where
  pub some : 0 < length ds
  pub digits : list_all is_digit ds ≡ true
  pub value : number_of ds ≡ n

last_digit : (d : ℕ) → d < 10 → is_digit (48 + d) ≡ true
last_digit d lt = grind (arith, nat_tests)

spelled_one : (n : ℕ) → n < 10 → Spelled n ((48 + n) ∷ [])
spelled_one n lt = record { some = omega arith; digits = and_from (is_digit (48 + n)) true (last_digit n lt) refl; value = omega arith }

spelled_more : (n : ℕ) (ds : List ℕ) → 10 ≤ n → Spelled (n / 10) ds → Spelled n (ds ++ (48 + n % 10) ∷ [])
spelled_more n ds le s =
    let lt : n % 10 < 10 = omega arith in
    let value : fold (λ m d. 10 * m + (d - 48)) 0 (ds ++ (48 + n % 10) ∷ []) ≡ 10 * number_of ds + (48 + n % 10 - 48) = fold-append (λ m d. 10 * m + (d - 48)) 0 ds ((48 + n % 10) ∷ []) in
    let front : number_of ds ≡ n / 10 = s.value in
    record {
      some = omega (arith, length-append ds ((48 + n % 10) ∷ []));
      digits = list_all-append is_digit ds ((48 + n % 10) ∷ []) ∙ and_from (list_all is_digit ds) (is_digit (48 + n % 10) && true) s.digits (and_from (is_digit (48 + n % 10)) true (last_digit (n % 10) lt) refl);
      value = value ∙ omega arith;
    }

pub spelled_decimal : (n : ℕ) → n < 2 ^ 64 → Spelled n (decimal n)
spelled_decimal n lt = decimal_by_steps Spelled spelled_one spelled_more n lt

pub readable_numbers : ReadableNumbers
readable_numbers n lt = let s = spelled_decimal n lt in (readable_digits (decimal n) s.some s.digits, s.value)

-- ---- tokens of a line

pub longest_readable : (t : Token) (bytes rest : List ℕ) → Longest t bytes rest → IsReadable t
longest_readable t bytes rest l = ap token_of (token_bytes (take l.size bytes) t l.is) ∙ l.is

held : {bytes : List ℕ} {ts : List Token} {whole : Bool} → Holds bytes ts whole → AllReadable ts
held (Holds.end h) = tt
held (Holds.stuck n m none) = tt
held (Holds.blank h p) = held p
held (Holds.token {t = t} {bytes = bytes} {rest = rest} l p) = (longest_readable t bytes rest l, held p)

pub readable_held : ReadableHeld
readable_held bytes ts whole p = held p
