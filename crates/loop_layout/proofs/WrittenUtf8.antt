-- What is laid out of UTF-8 is UTF-8.
use Rattle.std.proofs.Common.{◌≡◌, ℕ, zero, suc, ◌+◌, ◌-◌, ◌<◌, ◌≤◌, Bool, true, false, cond, List, [], ◌∷◌, ◌++◌, length, get_or, replicate, Option, Some, eqb, ltb, find, IsUtf8, encode_utf8, bytes_eq, refl, ap, sym, ◌∙◌, subst, ⊎_elim, arith, lit<, append-nil}
use Rattle.std.specs.List.{list_all}
use Rattle.std.specs.Str.{IsAscii, encode_utf8_all, all_scalars}
use Rattle.std.specs.Fmt.{decimal}
use Rattle.std.proofs.lemmas.List.Concat.{flat_map-append}
use Rattle.std.proofs.lemmas.Bool.{and_parts, cases_lt, ltb-true}
use Rattle.std.proofs.lemmas.Bool.Decides.{nat_tests}
use Rattle.std.proofs.lemmas.Str.{IsUtf8-nil, IsUtf8-append, IsUtf8-from_ascii, IsUtf8-encode, encode_ascii, inside_one}
use Rattle.std.proofs.lemmas.Fmt.{IsAscii-decimal}
use Rattle.loop_tokens.specs.declared.token.Token.{Token}
use Rattle.loop_tokens.specs.declared.token.Token.TheVariants as tok
use Rattle.loop_tokens.specs.declared.keyword.Keyword.{Keyword}
use Rattle.loop_tokens.specs.declared.keyword.AtWord.{AtWord}
use Rattle.loop_tokens.specs.declared.keyword.AtWord.TheVariants as at
use Rattle.loop_tokens.specs.declared.sign.Sign.{Sign}
use Rattle.loop_tokens.specs.declared.sign.Sign.TheVariants as sg
use Rattle.loop_tokens.specs.Keywords.{keyword_text, all_keywords, at_text}
use Rattle.loop_tokens.specs.Signs.{sign_text}
use Rattle.loop_tokens.specs.Literals.{escaped, escaped_byte}
use Rattle.loop_tokens.proofs.WordsBack.{words_read_back}
use Rattle.loop_layout.specs.Layout.{Mark, token_text, marks_text, tokens_in}
use Rattle.loop_layout.specs.Rows.{rows_text}
use Rattle.loop_layout.specs.Laws.{IsUtf8Token, AllUtf8, LaidOutUtf8, RowsUtf8, EscapedUtf8, NumbersUtf8}
use Rattle.loop_layout.proofs.TokenTexts.{same_some}

-- ---- ASCII bytes

one_ascii : (b : ℕ) → b < 128 → IsAscii (b ∷ [])
one_ascii b lt zero = lt
one_ascii b lt (suc i) = lit< tt

pub ascii_utf8 : (b : ℕ) (bs : List ℕ) → b < 128 → IsUtf8 bs → IsUtf8 (b ∷ bs)
ascii_utf8 b bs lt u = IsUtf8-append (b ∷ []) bs (IsUtf8-from_ascii (b ∷ []) (one_ascii b lt)) u

abbrev ascii : ℕ → Bool
ascii b = ltb b 128

all_ascii : (bs : List ℕ) → list_all ascii bs ≡ true → IsUtf8 bs
all_ascii [] h = IsUtf8-nil
all_ascii (b ∷ bs) h = let both = and_parts (ascii b) (list_all ascii bs) h in ascii_utf8 b bs (ltb-true b 128 both.0) (all_ascii bs both.1)

pub repeated_utf8 : (n b : ℕ) (bs : List ℕ) → b < 128 → IsUtf8 bs → IsUtf8 (replicate n b ++ bs)
repeated_utf8 zero b bs lt u = u
repeated_utf8 (suc n) b bs lt u = ascii_utf8 b (replicate n b ++ bs) lt (repeated_utf8 n b bs lt u)

-- ---- words and signs

passes_too : {X : Type 0} (q : X → Bool) (x y : X) (o : Option X) (t : Bool) → q x ≡ true → (o ≡ Some y → q y ≡ true) → cond t (Some x) o ≡ Some y → q y ≡ true
passes_too q x y o true here later h = ap q (sym (same_some x y h)) ∙ here
passes_too q x y o false here later h = later h

-- what is found passes each test that all elements pass
found_passes : {X : Type 0} (p q : X → Bool) (xs : List X) (y : X) → list_all q xs ≡ true → find p xs ≡ Some y → q y ≡ true
found_passes p q [] y all h = cc
found_passes p q (x ∷ xs) y all h = let both = and_parts (q x) (list_all q xs) all in passes_too q x y (find p xs) (p x) both.0 (found_passes p q xs y both.1) h

keyword_ascii : (w : Keyword) → list_all ascii (keyword_text w) ≡ true
keyword_ascii w = found_passes (λ v. bytes_eq (keyword_text v) (keyword_text w)) (λ v. list_all ascii (keyword_text v)) all_keywords w refl (words_read_back w)

at_ascii : (a : AtWord) → list_all ascii (at_text a) ≡ true
at_ascii at.Init = refl
at_ascii at.Keep = refl
at_ascii at.Reduce = refl

sign_ascii : (s : Sign) → list_all ascii (sign_text s) ≡ true
sign_ascii sg.PlusAssign = refl
sign_ascii sg.Equal = refl
sign_ascii sg.NotEqual = refl
sign_ascii sg.AtMost = refl
sign_ascii sg.AtLeast = refl
sign_ascii sg.Less = refl
sign_ascii sg.Greater = refl
sign_ascii sg.Assign = refl
sign_ascii sg.Plus = refl
sign_ascii sg.Minus = refl
sign_ascii sg.Star = refl
sign_ascii sg.Join = refl
sign_ascii sg.Colon = refl
sign_ascii sg.Comma = refl
sign_ascii sg.Open = refl
sign_ascii sg.Close = refl

-- ---- tokens and marks

pub token_utf8 : (t : Token) → IsUtf8Token t → IsUtf8 (token_text t)
token_utf8 (tok.Name n) u = u
token_utf8 (tok.Number n) u = u
token_utf8 (tok.Text raw) u = ascii_utf8 34 (raw ++ 34 ∷ []) (lit< tt) (IsUtf8-append raw (34 ∷ []) u (ascii_utf8 34 [] (lit< tt) IsUtf8-nil))
token_utf8 (tok.Keyword w) u = all_ascii (keyword_text w) (keyword_ascii w)
token_utf8 (tok.At a) u = all_ascii (at_text a) (at_ascii a)
token_utf8 (tok.Sign s) u = all_ascii (sign_text s) (sign_ascii s)

mark_utf8 : (a : Bool) (xs rest : List ℕ) → IsUtf8 xs → IsUtf8 rest → IsUtf8 (cond a (32 ∷ xs) xs ++ rest)
mark_utf8 true xs rest u v = ascii_utf8 32 (xs ++ rest) (lit< tt) (IsUtf8-append xs rest u v)
mark_utf8 false xs rest u v = IsUtf8-append xs rest u v

pub marks_utf8 : (ms : List Mark) → AllUtf8 (tokens_in ms) → IsUtf8 (marks_text ms)
marks_utf8 [] u = IsUtf8-nil
marks_utf8 (m ∷ ms) u = mark_utf8 m.apart (token_text m.token) (marks_text ms) (token_utf8 m.token u.0) (marks_utf8 ms u.1)

pub laid_out_utf8 : LaidOutUtf8
laid_out_utf8 indent ms u = repeated_utf8 indent 32 (marks_text ms) (lit< tt) (marks_utf8 ms u)

pub rows_utf8 : RowsUtf8
rows_utf8 n [] u = IsUtf8-nil
rows_utf8 n (r ∷ rs) u =
    repeated_utf8 (r.line - n) 10 (r.bytes ++ 10 ∷ rows_text (r.line + 1) rs) (lit< tt)
    (IsUtf8-append r.bytes (10 ∷ rows_text (r.line + 1) rs) u.0 (ascii_utf8 10 (rows_text (r.line + 1) rs) (lit< tt) (rows_utf8 (r.line + 1) rs u.1)))

pub numbers_utf8 : NumbersUtf8
numbers_utf8 n lt = IsUtf8-from_ascii (decimal n) (IsAscii-decimal n lt)

-- ---- escapes

-- no byte is ASCII
abbrev High : List ℕ → Type 0
High ys = (k : ℕ) → k < length ys → 128 ≤ get_or ys k 0

high_byte : (b : ℕ) → 128 ≤ b → escaped_byte b ≡ b ∷ []
high_byte b le =
    let q : eqb b 34 ≡ false = grind (arith, nat_tests) in
    let e : eqb b 92 ≡ false = grind (arith, nat_tests) in
    let n : eqb b 10 ≡ false = grind (arith, nat_tests) in
    let t : eqb b 9 ≡ false = grind (arith, nat_tests) in
    rw (q, e, n, t) refl

high_escaped : (ys : List ℕ) → High ys → escaped ys ≡ ys
high_escaped [] h = refl
high_escaped (y ∷ ys) h =
    let first : 128 ≤ y = h 0 (omega arith) in
    ap (λ xs. xs ++ escaped ys) (high_byte y first) ∙ ap (λ xs. y ∷ xs) (high_escaped ys (λ k lt. h (suc k) (omega arith)))

high_char : (c : ℕ) → 128 ≤ c → High (encode_utf8 c)
high_char c le k lt = ⊎_elim (λ low. absurd (inside c k le lt low)) (λ ge. ge) (cases_lt (get_or (encode_utf8 c) k 0) 128) where
  inside : (d j : ℕ) → 128 ≤ d → j < length (encode_utf8 d) → get_or (encode_utf8 d) j 0 < 128 → ⊥
  inside d j ge within low = let same : d ≡ get_or (encode_utf8 d) j 0 = inside_one d [] (encode_utf8 d) j (sym (append-nil (encode_utf8 d))) within low in omega arith

low_escaped : (q e n t : Bool) (c : ℕ) → c < 128 → IsUtf8 (cond q (92 ∷ 34 ∷ []) (cond e (92 ∷ 92 ∷ []) (cond n (92 ∷ 110 ∷ []) (cond t (92 ∷ 116 ∷ []) (c ∷ [])))) ++ [])
low_escaped true e n t c lt = all_ascii (92 ∷ 34 ∷ []) refl
low_escaped false true n t c lt = all_ascii (92 ∷ 92 ∷ []) refl
low_escaped false false true t c lt = all_ascii (92 ∷ 110 ∷ []) refl
low_escaped false false false true c lt = all_ascii (92 ∷ 116 ∷ []) refl
low_escaped false false false false c lt = ascii_utf8 c [] lt IsUtf8-nil

escaped_char : (c : ℕ) → all_scalars (c ∷ []) ≡ true → IsUtf8 (escaped (encode_utf8 c))
escaped_char c s = ⊎_elim low high (cases_lt c 128) where
  low : c < 128 → IsUtf8 (escaped (encode_utf8 c))
  low lt = subst (λ (ys : List ℕ). IsUtf8 (escaped ys)) (sym (encode_ascii c lt)) (low_escaped (eqb c 34) (eqb c 92) (eqb c 10) (eqb c 9) c lt)

  high : 128 ≤ c → IsUtf8 (escaped (encode_utf8 c))
  high le = subst IsUtf8 (sym (high_escaped (encode_utf8 c) (high_char c le))) (IsUtf8-encode c (and_parts _ true s).0)

escaped_chars : (cs : List ℕ) → all_scalars cs ≡ true → IsUtf8 (escaped (encode_utf8_all cs))
escaped_chars [] h = IsUtf8-nil
escaped_chars (c ∷ cs) h =
    let both = and_parts _ (all_scalars cs) h in
    let one : all_scalars (c ∷ []) ≡ true = rw both.0 refl in
    subst IsUtf8 (sym (flat_map-append escaped_byte (encode_utf8 c) (encode_utf8_all cs)))
    (IsUtf8-append (escaped (encode_utf8 c)) (escaped (encode_utf8_all cs)) (escaped_char c one) (escaped_chars cs both.1))

pub escaped_utf8 : EscapedUtf8
escaped_utf8 text u = subst (λ (ys : List ℕ). IsUtf8 (escaped ys)) u.1.1 (escaped_chars u.0 u.1.0)
