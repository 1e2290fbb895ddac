-- How tokens are laid out: each is one by itself, with a space before it where it needs one, and no more parentheses are open than there are other tokens.
use Rattle.std.proofs.Common.{◌≡◌, ℕ, ◌+◌, ◌-◌, ◌≤◌, ◌<◌, ◌^◌, max, Bool, true, false, cond, ◌||◌, List, [], ◌∷◌, ◌++◌, refl, ap, sym, ◌∙◌, subst, arith, if◌then◌else◌}
use Rattle.std.specs.List.{count_by}
use Rattle.std.proofs.lemmas.List.Recursion.{is_count_by}
use Rattle.loop_tokens.specs.declared.token.Token.{Token}
use Rattle.loop_tokens.specs.declared.token.Token.TheVariants as tok
use Rattle.loop_tokens.specs.declared.keyword.Keyword.{Keyword}
use Rattle.loop_tokens.specs.declared.keyword.AtWord.{AtWord}
use Rattle.loop_tokens.specs.declared.sign.Sign.{Sign}
use Rattle.loop_tokens.specs.declared.sign.Sign.TheVariants as sg
use Rattle.loop_tokens.specs.Literals.{text_of, escaped}
use Rattle.loop_tokens.specs.Limits.{is_no_parenthesis, open_behind, most_open}
use Rattle.loop_layout.specs.Layout.{Mark, tokens_in, is_edge, is_minus, AreReadable}
use Rattle.loop_layout.specs.Laws.{IsReadable, AllReadable, IsUtf8Token, AllUtf8}
use Rattle.loop_layout.specs.Canonical.{Written, first, glued, open_, close, in_parentheses, called}
use Rattle.loop_layout.proofs.ReadableWords.{readable_words, readable_at_words, readable_signs}
use Rattle.loop_layout.proofs.ReadableTokens.{readable_texts, readable_numbers}
use Rattle.loop_layout.proofs.WrittenUtf8.{numbers_utf8, escaped_utf8}
use Rattle.loop_layout.proofs.ReadUtf8.{meaning_utf8}
use Rattle.loop_writer.proofs.Numbers.{digits_of}
use Rattle.loop_writer.proofs.Expressions.{onto, onto-append}

-- ---- spaces

-- the token is one by itself, and is UTF-8
abbrev pub IsSound : Token → Type 0
IsSound t = IsReadable t × IsUtf8Token t

abbrev pub AllSound : List Token → Type 0
AllSound [] = Unit {0}
AllSound (t ∷ ts) = IsSound t × AllSound ts

pub all_sound : (ts : List Token) → AllReadable ts → AllUtf8 ts → AllSound ts
all_sound [] r u = tt
all_sound (t ∷ ts) r u = ((r.0, u.0), all_sound ts r.1 u.1)

pub word_sound : (k : Keyword) → IsSound (tok.Keyword k)
word_sound k = (readable_words k, tt)

pub at_sound : (a : AtWord) → IsSound (tok.At a)
at_sound a = (readable_at_words a, tt)

pub sign_sound : (s : Sign) → IsSound (tok.Sign s)
sign_sound s = (readable_signs s, tt)

pub number_sound : (n : ℕ) → n < 2 ^ 64 → IsSound (tok.Number (digits_of n))
number_sound n lt = ((readable_numbers n lt).0, numbers_utf8 n lt)

-- a text with the escapes that are written of what it stands for
pub text_sound : (raw : List ℕ) → IsSound (tok.Text raw) → IsSound (tok.Text (escaped (text_of raw)))
text_sound raw h = ((readable_texts (text_of raw)).0, escaped_utf8 (text_of raw) (meaning_utf8 raw h.1))

-- whether the next token may stand directly behind this one
abbrev pub is_loose : Token → Bool
is_loose t = is_edge t || is_minus t

-- Laid s ms: each token is sound, and stands apart where it needs to; s says whether the first may stand directly behind what comes before.
abbrev pub Laid : Bool → List Mark → Type 0
Laid s [] = Unit {0}
Laid s (m ∷ ms) = IsSound m.token × ((m.apart || (s || is_edge m.token)) ≡ true) × Laid (is_loose m.token) ms

pub laid_append : (s : Bool) (xs ys : List Mark) → Laid s xs → ((t : Bool) → Laid t ys) → Laid s (xs ++ ys)
laid_append s [] ys h g = g s
laid_append s (x ∷ xs) ys h g = (h.0, h.1, laid_append (is_loose x.token) xs ys h.2 g)

or_true : (a : Bool) → (a || true) ≡ true
or_true true = refl
or_true false = refl

-- a glued `(`, `)`, `,` or `:`
pub edge_laid : (s : Bool) (t : Token) (ms : List Mark) → IsSound t → is_edge t ≡ true → Laid (is_loose t) ms → Laid s (glued t ∷ ms)
edge_laid s t ms r e d = (r, ap (λ b. s || b) e ∙ or_true s, d)

start_ok : (a s e : Bool) → (a || s) ≡ true → (a || (s || e)) ≡ true
start_ok true s e h = refl
start_ok false true e h = refl
start_ok false false e h = absurd (cc)

pub first_laid : (a s : Bool) (t : Token) (ms : List Mark) → IsSound t → (a || s) ≡ true → Laid (is_loose t) ms → Laid s (first a t ∷ ms)
first_laid a s t ms r h d = (r, start_ok a s (is_edge t) h, d)

touches : (a e f m : Bool) → (a || ((e || m) || f)) ≡ true → (a || (e || (f || m))) ≡ true
touches true e f m h = refl
touches false true f m h = refl
touches false false true m h = refl
touches false false false true h = refl
touches false false false false h = absurd (cc)

pub readable_marks : (s : Bool) (ms : List Mark) → Laid s ms → AreReadable ms
readable_marks s [] h = AreReadable.none
readable_marks s (m ∷ []) h = AreReadable.last h.0.0
readable_marks s (m ∷ n ∷ ms) h = AreReadable.more h.0.0 (touches n.apart (is_edge m.token) (is_edge n.token) (is_minus m.token) h.2.1) (readable_marks (is_loose m.token) (n ∷ ms) h.2)

pub utf8_marks : (s : Bool) (ms : List Mark) → Laid s ms → AllUtf8 (tokens_in ms)
utf8_marks s [] h = tt
utf8_marks s (m ∷ ms) h = (h.0.1, utf8_marks (is_loose m.token) ms h.2)

-- ---- parentheses and other tokens

abbrev pub one_if : Bool → ℕ
one_if b = if b then 1 else 0

-- how many of the tokens are no parentheses
abbrev pub others : List Token → ℕ
others [] = 0
others (t ∷ ts) = one_if (is_no_parenthesis t) + others ts

one_or_none : (b : Bool) (n : ℕ) → one_if b + n ≡ cond b (1 + n) n
one_or_none true n = refl
one_or_none false n = omega arith

pub others_count : (ts : List Token) → others ts ≡ count_by is_no_parenthesis ts
others_count ts = is_count_by others is_no_parenthesis refl (λ t us. one_or_none (is_no_parenthesis t) (others us)) ts

abbrev pub others_in : List Mark → ℕ
others_in [] = 0
others_in (m ∷ ms) = one_if (is_no_parenthesis m.token) + others_in ms

pub others_there : (ms : List Mark) → others (tokens_in ms) ≡ others_in ms
others_there [] = refl
others_there (m ∷ ms) = ap (λ n. one_if (is_no_parenthesis m.token) + n) (others_there ms)

pub others-append : (xs ys : List Mark) → others_in (xs ++ ys) ≡ others_in xs + others_in ys
others-append [] ys = omega arith
others-append (x ∷ xs) ys = let h = others-append xs ys in omega (arith, h)

-- at most d more parentheses are open behind some of these tokens than before them, and none behind all
abbrev pub Opens : ℕ → List Mark → Type 0
Opens d ms = (n : ℕ) (rest : List Token) (b : ℕ) → n + d ≤ b → most_open n rest ≤ b → most_open n (onto ms rest) ≤ b

pub opens_more : (d e : ℕ) (ms : List Mark) → d ≤ e → Opens d ms → Opens e ms
opens_more d e ms le f n rest b h g = f n rest b (omega arith) g

pub opens_append : (d : ℕ) (xs ys : List Mark) → Opens d xs → Opens d ys → Opens d (xs ++ ys)
opens_append d xs ys f g n rest b h k =
    let P : List Token → Type 0 = λ ts. most_open n ts ≤ b in
    subst P (sym (onto-append xs ys rest)) (f n (onto ys rest) b h (g n rest b h k))

pub opens_none : (d : ℕ) → Opens d []
opens_none d n rest b h k = k

same_open : (n : ℕ) (t : Token) → is_no_parenthesis t ≡ true → open_behind n t ≡ n
same_open n (tok.Sign sg.Open) h = absurd (cc)
same_open n (tok.Sign sg.Close) h = absurd (cc)
same_open n _ h = refl

below_max : (n m b : ℕ) → n ≤ b → m ≤ b → max n m ≤ b
below_max n m b h k = omega arith

pub opens_token : (d : ℕ) (m : Mark) (ms : List Mark) → is_no_parenthesis m.token ≡ true → Opens d ms → Opens d (m ∷ ms)
opens_token d m ms h f n rest b le k =
    let P : ℕ → Type 0 = λ o. most_open o (onto ms rest) ≤ b in
    below_max n (most_open (open_behind n m.token) (onto ms rest)) b (omega arith) (subst P (sym (same_open n m.token h)) (f n rest b le k))

back : (n : ℕ) → n + 1 - 1 ≡ n
back n = omega arith

pub opens_parentheses : (d : ℕ) (a : Bool) (ms : List Mark) → Opens d ms → Opens (d + 1) (first a open_ ∷ ms ++ glued close ∷ [])
opens_parentheses d a ms f n rest b le k =
    let P : List Token → Type 0 = λ ts. most_open (n + 1) ts ≤ b in
    let Q : ℕ → Type 0 = λ o. most_open o rest ≤ b in
    let closed : most_open (n + 1) (close ∷ rest) ≤ b = below_max (n + 1) (most_open (n + 1 - 1) rest) b (omega arith) (subst Q (sym (back n)) k) in
    below_max n (most_open (n + 1) (onto (ms ++ glued close ∷ []) rest)) b (omega arith)
    (subst P (sym (onto-append ms (glued close ∷ []) rest)) (f (n + 1) (close ∷ rest) b (omega arith) closed))

-- ---- things that are written, with or without a space before them

-- m is laid out well, and has k tokens that are no parentheses; at most d parentheses are open in it
pub record IsTidy (k d : ℕ) (m : Written) : Type 0 where
  pub laid : (a s : Bool) → (a || s) ≡ true → Laid s (m a)
  pub size : (a : Bool) → others_in (m a) ≡ k
  pub opens : (a : Bool) → Opens d (m a)

pub tidy_more : (k d e : ℕ) (m : Written) → d ≤ e → IsTidy k d m → IsTidy k e m
tidy_more k d e m le h = record { laid = h.laid; size = h.size; opens = λ a. opens_more d e (m a) le (h.opens a) }

pub tidy_token : (t : Token) → IsSound t → is_no_parenthesis t ≡ true → IsTidy 1 0 (λ a. first a t ∷ [])
tidy_token t r h = record {
  laid = λ a s g. first_laid a s t [] r g tt;
  size = λ a. ap (λ b. one_if b + 0) h;
  opens = λ a. opens_token 0 (first a t) [] h (opens_none 0);
}

open_laid : (a s : Bool) (ms : List Mark) → (a || s) ≡ true → Laid true ms → Laid s (first a open_ ∷ ms ++ glued close ∷ [])
open_laid a s ms g d = first_laid a s open_ (ms ++ glued close ∷ []) (sign_sound sg.Open) g (laid_append true ms (glued close ∷ []) d (λ t. edge_laid t close [] (sign_sound sg.Close) refl tt))

closed_size : (ms : List Mark) (k : ℕ) → others_in ms ≡ k → others_in (ms ++ glued close ∷ []) ≡ k
closed_size ms k h = others-append ms (glued close ∷ []) ∙ (omega arith)

pub tidy_parentheses : (k d : ℕ) (m : Written) → IsTidy k d m → IsTidy k (d + 1) (in_parentheses m)
tidy_parentheses k d m h = record {
  laid = λ a s g. open_laid a s (m false) g (h.laid false true refl);
  size = λ a. let e : others_in (m false ++ glued close ∷ []) ≡ k = closed_size (m false) k (h.size false) in omega arith;
  opens = λ a. opens_parentheses d a (m false) (h.opens false);
}

-- marks between parentheses or behind a word that stands apart
pub record AreTidy (k d : ℕ) (ms : List Mark) : Type 0 where
  pub laid : Laid true ms
  pub size : others_in ms ≡ k
  pub opens : Opens d ms

pub tidy_inside : (k d : ℕ) (ms : List Mark) → AreTidy k d ms → IsTidy k (d + 1) (in_parentheses (λ a. ms))
tidy_inside k d ms h = record {
  laid = λ a s g. open_laid a s ms g h.laid;
  size = λ a. let e : others_in (ms ++ glued close ∷ []) ≡ k = closed_size ms k h.size in omega arith;
  opens = λ a. opens_parentheses d a ms h.opens;
}

pub tidy_called : (k d : ℕ) (w : Keyword) (ms : List Mark) → AreTidy k d ms → IsTidy (k + 1) (d + 1) (called (tok.Keyword w) ms)
tidy_called k d w ms h = record {
  laid = λ a s g. first_laid a s (tok.Keyword w) (glued open_ ∷ ms ++ glued close ∷ []) (word_sound w) g
      (edge_laid false open_ (ms ++ glued close ∷ []) (sign_sound sg.Open) refl (laid_append true ms (glued close ∷ []) h.laid (λ t. edge_laid t close [] (sign_sound sg.Close) refl tt)));
  size = λ a. let e : others_in (ms ++ glued close ∷ []) ≡ k = closed_size ms k h.size in omega arith;
  opens = λ a. opens_token (d + 1) (first a (tok.Keyword w)) (glued open_ ∷ ms ++ glued close ∷ []) refl (opens_parentheses d false ms h.opens);
}

pub tidy_at : (k d : ℕ) (m : Written) (a : Bool) → IsTidy k d m → AreTidy k d (m a)
tidy_at k d m a h = record { laid = h.laid a true (or_true a); size = h.size a; opens = h.opens a }
