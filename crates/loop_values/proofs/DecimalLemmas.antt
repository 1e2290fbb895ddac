-- The decimal text of a number spells that number.
use Rattle.std.proofs.Common.{◌≡◌, ℕ, suc, ◌+◌, ◌-◌, ◌*◌, ◌/◌, ◌%◌, ◌^◌, ◌<◌, ◌≤◌, Bool, true, false, List, [], ◌∷◌, ◌++◌, reverse, Some, None, refl, ap, sym, ◌∙◌, arith}
use Rattle.std.specs.Prelude.{if◌then◌else◌, ◌==◌, ℤ, pos, negsuc, ◌≤ℤ◌}
use Rattle.std.specs.Char.{is_ascii_digit}
use Rattle.std.specs.Fmt.{decimal, signed_decimal}
use Rattle.std.proofs.lemmas.Fmt.{decimal_by_steps}
use Rattle.std.proofs.lemmas.Int.{ints}
use Rattle.std.proofs.lemmas.List.{reverse-append, reverse-reverse}
use Rattle.std.proofs.lemmas.Bool.Decides.{nat_tests}
use Rattle.loop_values.specs.Spelling.{is_blank, skip_blanks, skip_blanks_back, trimmed, natural_after, natural, up_to, positive, negative, signed, spelled}

-- ---- the digits of a number

digit_is : (d : ℕ) → d < 10 → is_ascii_digit (48 + d) ≡ true
digit_is d h = grind (arith, nat_tests)

after_digit : (n c : ℕ) → is_ascii_digit c ≡ true → natural_after n (c ∷ []) ≡ Some (10 * n + (c - 48))
after_digit n c h = ap (λ b. if b then Some (10 * n + (c - 48)) else None) h

after_more : (b : Bool) (n k c : ℕ) (ds : List ℕ) → (if b then natural_after n ds else None) ≡ Some k → (natural_after n ds ≡ Some k → natural_after n (ds ++ c ∷ []) ≡ natural_after k (c ∷ [])) → (if b then natural_after n (ds ++ c ∷ []) else None) ≡ natural_after k (c ∷ [])
after_more true n k c ds h more = more h
after_more false n k c ds h more = absurd (cc)

after-append : (ds : List ℕ) (n k c : ℕ) → natural_after n ds ≡ Some k → natural_after n (ds ++ c ∷ []) ≡ natural_after k (c ∷ [])
after-append [] n k c h = let e : n ≡ k = cc in ap (λ m. natural_after m (c ∷ [])) e
after-append (d ∷ ds) n k c h =
    after_more (is_ascii_digit d) (10 * n + (d - 48)) k c ds h (after-append ds (10 * n + (d - 48)) k c)

-- a text whose first and last bytes are digits, and which writes a number
record Writes (n : ℕ) (ds : List ℕ) : Type 0 where
  first : ℕ
  rest : List ℕ
  from_first : ds ≡ first ∷ rest
  first_digit : is_ascii_digit first ≡ true
  front : List ℕ
  last : ℕ
  to_last : ds ≡ front ++ last ∷ []
  last_digit : is_ascii_digit last ≡ true
  number : natural_after 0 ds ≡ Some n

writes_one : (n : ℕ) → n < 10 → Writes n ((48 + n) ∷ [])
writes_one n h = record {
  first = 48 + n;
  rest = [];
  from_first = refl;
  first_digit = digit_is n h;
  front = [];
  last = 48 + n;
  to_last = refl;
  last_digit = digit_is n h;
  number = let e : 10 * 0 + (48 + n - 48) ≡ n = omega arith in after_digit 0 (48 + n) (digit_is n h) ∙ ap (λ m. Some m) e;
}

writes_more : (n : ℕ) (ds : List ℕ) → 10 ≤ n → Writes (n / 10) ds → Writes n (ds ++ (48 + n % 10) ∷ [])
writes_more n ds h w =
    let small : n % 10 < 10 = omega arith in
    let value : 10 * (n / 10) + (48 + n % 10 - 48) ≡ n = omega arith in
    record {
      first = w.first;
      rest = w.rest ++ (48 + n % 10) ∷ [];
      from_first = ap (λ xs. xs ++ (48 + n % 10) ∷ []) w.from_first;
      first_digit = w.first_digit;
      front = ds;
      last = 48 + n % 10;
      to_last = refl;
      last_digit = digit_is (n % 10) small;
      number = after-append ds 0 (n / 10) (48 + n % 10) w.number ∙ after_digit (n / 10) (48 + n % 10) (digit_is (n % 10) small) ∙ ap (λ m. Some m) value;
    }

writes : (n : ℕ) → n < 2 ^ 64 → Writes n (decimal n)
writes n h = decimal_by_steps Writes writes_one writes_more n h

-- ---- no blank is taken off

not_blank : (c : ℕ) → is_ascii_digit c ≡ true → is_blank c ≡ false
not_blank c h = grind (arith, nat_tests)

kept_front : (c : ℕ) (cs bs : List ℕ) → bs ≡ c ∷ cs → is_blank c ≡ false → skip_blanks bs ≡ bs
kept_front c cs bs e h = ap skip_blanks e ∙ ap (λ b. if b then skip_blanks cs else c ∷ cs) h ∙ sym e

kept_back : (c : ℕ) (cs bs : List ℕ) → bs ≡ cs ++ c ∷ [] → is_blank c ≡ false → skip_blanks_back bs ≡ bs
kept_back c cs bs e h =
    ap reverse (kept_front c (reverse cs) (reverse bs) (ap reverse e ∙ reverse-append cs (c ∷ [])) h) ∙ reverse-reverse bs

kept : (c z : ℕ) (cs zs bs : List ℕ) → bs ≡ c ∷ cs → is_blank c ≡ false → bs ≡ zs ++ z ∷ [] → is_blank z ≡ false → trimmed bs ≡ bs
kept c z cs zs bs e h f k = ap skip_blanks_back (kept_front c cs bs e h) ∙ kept_back z zs bs f k

-- ---- the sign

within : (n most : ℕ) → n ≤ most → up_to most (Some n) ≡ Some n
within n most h = grind (arith, nat_tests)

not_sign : (c : ℕ) → is_ascii_digit c ≡ true → ((c == 45) ≡ false) × ((c == 43) ≡ false)
not_sign c h = (grind (arith, nat_tests), grind (arith, nat_tests))

natural-from : (c : ℕ) (cs ds : List ℕ) → ds ≡ c ∷ cs → natural ds ≡ natural_after 0 ds
natural-from c cs ds e = ap natural e ∙ ap (natural_after 0) (sym e)

unsigned : (c : ℕ) (cs : List ℕ) (a b : Bool) → (c == 45) ≡ a → (c == 43) ≡ b → a ≡ false → b ≡ false → signed (c ∷ cs) ≡ positive (up_to 9223372036854775807 (natural (c ∷ cs)))
unsigned c cs a b e f g h =
    ap (λ t. if t then negative (up_to 9223372036854775808 (natural cs)) else (if c == 43 then positive (up_to 9223372036854775807 (natural cs)) else positive (up_to 9223372036854775807 (natural (c ∷ cs))))) (e ∙ g)
    ∙ ap (λ t. if t then positive (up_to 9223372036854775807 (natural cs)) else positive (up_to 9223372036854775807 (natural (c ∷ cs)))) (f ∙ h)

spelled-pos : (n : ℕ) → n ≤ 9223372036854775807 → spelled (decimal n) ≡ Some (pos n)
spelled-pos n h =
    let w = writes n (omega arith) in
    let s = not_sign w.first w.first_digit in
    ap signed (kept w.first w.last w.rest w.front (decimal n) w.from_first (not_blank w.first w.first_digit) w.to_last (not_blank w.last w.last_digit))
    ∙ ap signed w.from_first
    ∙ unsigned w.first w.rest _ _ refl refl s.0 s.1
    ∙ ap (λ ds. positive (up_to 9223372036854775807 (natural ds))) (sym w.from_first)
    ∙ ap (λ o. positive (up_to 9223372036854775807 o)) (natural-from w.first w.rest (decimal n) w.from_first ∙ w.number)
    ∙ ap positive (within n 9223372036854775807 h)

spelled-negsuc : (n : ℕ) → n ≤ 9223372036854775807 → spelled (45 ∷ decimal (suc n)) ≡ Some (negsuc n)
spelled-negsuc n h =
    let w = writes (suc n) (omega arith) in
    ap signed (kept 45 w.last (decimal (suc n)) (45 ∷ w.front) (45 ∷ decimal (suc n)) refl refl (ap (λ ds. 45 ∷ ds) w.to_last) (not_blank w.last w.last_digit))
    ∙ ap (λ o. negative (up_to 9223372036854775808 o)) (natural-from w.first w.rest (decimal (suc n)) w.from_first ∙ w.number)
    ∙ ap negative (within (suc n) 9223372036854775808 (omega arith))

pub spelled-signed_decimal : (n : ℤ) → negsuc 9223372036854775807 ≤ℤ n → n ≤ℤ pos 9223372036854775807 → spelled (signed_decimal n) ≡ Some n
spelled-signed_decimal (pos n) low high = spelled-pos n (omega (arith, ints))
spelled-signed_decimal (negsuc n) low high = spelled-negsuc n (omega (arith, ints))
