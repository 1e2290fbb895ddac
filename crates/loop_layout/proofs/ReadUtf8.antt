-- The tokens of a line that is UTF-8 are UTF-8.
use Rattle.std.proofs.Common.{◌≡◌, ℕ, ◌<◌, Bool, true, false, cond, List, [], ◌∷◌, ◌++◌, length, take, eqb, IsUtf8, IsCharBoundary, encode_utf8, refl, sym, subst, arith, lit<}
use Rattle.std.specs.Char.{IsScalar}
use Rattle.std.specs.Str.{encode_utf8_all, all_scalars}
use Rattle.std.proofs.lemmas.List.{take_at}
use Rattle.std.proofs.lemmas.Bool.{and_parts, eqb-true, eqb-false}
use Rattle.std.proofs.lemmas.Str.{IsUtf8-nil, IsUtf8-append, IsUtf8-take, IsUtf8-drop, IsUtf8-encode, IsCharBoundary-after_ascii, IsCharBoundary-at_seam}
use Rattle.loop_tokens.specs.declared.token.Token.{Token}
use Rattle.loop_tokens.specs.declared.token.Token.TheVariants as tok
use Rattle.loop_tokens.specs.Literals.{meaning, unescaped}
use Rattle.loop_tokens.specs.Tokens.{Longest, Holds}
use Rattle.loop_tokens.proofs.Ends.{blank_ascii, token_cut}
use Rattle.loop_tokens.proofs.Meanings.{char_backslash, char_plain, char_escaped}
use Rattle.loop_layout.specs.Layout.{token_text}
use Rattle.loop_layout.specs.Laws.{IsUtf8Token, AllUtf8, HeldUtf8, MeaningUtf8}
use Rattle.loop_layout.proofs.TokenTexts.{token_bytes}
use Rattle.loop_layout.proofs.WrittenUtf8.{ascii_utf8}

-- ---- tokens

behind_ascii : (b : ℕ) (bs : List ℕ) → b < 128 → IsUtf8 (b ∷ bs) → IsUtf8 bs
behind_ascii b bs lt u = IsUtf8-drop (b ∷ bs) 1 u (IsCharBoundary-after_ascii (b ∷ bs) 0 u (omega arith) lt)

between_quotes : (raw : List ℕ) → IsUtf8 (34 ∷ raw ++ 34 ∷ []) → IsUtf8 raw
between_quotes raw u =
    let later : IsUtf8 (raw ++ 34 ∷ []) = behind_ascii 34 (raw ++ 34 ∷ []) (lit< tt) u in
    let cut : IsCharBoundary (raw ++ 34 ∷ []) (length raw) = IsCharBoundary-at_seam (raw ++ 34 ∷ []) raw (34 ∷ []) refl (ascii_utf8 34 [] (lit< tt) IsUtf8-nil) in
    subst IsUtf8 (take_at raw (34 ∷ []) (length raw) refl) (IsUtf8-take (raw ++ 34 ∷ []) (length raw) later cut)

text_utf8 : (t : Token) → IsUtf8 (token_text t) → IsUtf8Token t
text_utf8 (tok.Name n) u = u
text_utf8 (tok.Number n) u = u
text_utf8 (tok.Text raw) u = between_quotes raw u
text_utf8 _ u = tt

pub longest_utf8 : (t : Token) (bytes rest : List ℕ) → Longest t bytes rest → IsUtf8 bytes → IsUtf8Token t × IsUtf8 rest
longest_utf8 t bytes rest l u =
    let cut : IsCharBoundary bytes l.size = token_cut bytes l.size u l.front in
    (text_utf8 t (subst IsUtf8 (sym (token_bytes (take l.size bytes) t l.is)) (IsUtf8-take bytes l.size u cut)), subst IsUtf8 (sym l.behind) (IsUtf8-drop bytes l.size u cut))

pub tokens_utf8 : {bytes : List ℕ} {ts : List Token} {whole : Bool} → Holds bytes ts whole → IsUtf8 bytes → AllUtf8 ts
tokens_utf8 (Holds.end h) u = tt
tokens_utf8 (Holds.stuck n m none) u = tt
tokens_utf8 (Holds.blank {b = b} {bytes = bytes} h p) u = tokens_utf8 p (behind_ascii b bytes (blank_ascii b h) u)
tokens_utf8 (Holds.token {t = t} {bytes = bytes} {rest = rest} l p) u = let both = longest_utf8 t bytes rest l u in (both.0, tokens_utf8 p both.1)

pub held_utf8 : HeldUtf8
held_utf8 bytes ts whole u p = tokens_utf8 p u

-- ---- what a text stands for

unescaped_scalar : (c : ℕ) → IsScalar c → IsScalar (unescaped c)
unescaped_scalar c s = by (eqb c 110) (eqb c 116) where
  by : (n t : Bool) → IsScalar (cond n 10 (cond t 9 c))
  by true t = refl
  by false true = refl
  by false false = s

plain_char : (t : Bool) (c : ℕ) (xs : List ℕ) → eqb c 92 ≡ t → IsScalar c → IsUtf8 (meaning false xs) → IsUtf8 (meaning true xs) → IsUtf8 (meaning false (encode_utf8 c ++ xs))
plain_char true c xs is s u v = subst IsUtf8 (sym (char_backslash c xs (eqb-true c 92 is))) v
plain_char false c xs is s u v = subst IsUtf8 (sym (char_plain c xs (eqb-false c 92 is))) (IsUtf8-append (encode_utf8 c) (meaning false xs) (IsUtf8-encode c s) u)

meaning_chars : (cs : List ℕ) → all_scalars cs ≡ true → IsUtf8 (meaning false (encode_utf8_all cs)) × IsUtf8 (meaning true (encode_utf8_all cs))
meaning_chars [] h = (IsUtf8-nil, IsUtf8-nil)
meaning_chars (c ∷ cs) h =
    let both = and_parts _ (all_scalars cs) h in
    let later = meaning_chars cs both.1 in (
      plain_char (eqb c 92) c (encode_utf8_all cs) refl both.0 later.0 later.1,
      subst IsUtf8 (sym (char_escaped c (encode_utf8_all cs))) (IsUtf8-append (encode_utf8 (unescaped c)) (meaning false (encode_utf8_all cs)) (IsUtf8-encode (unescaped c) (unescaped_scalar c both.0)) later.0),
    )

pub meaning_utf8 : MeaningUtf8
meaning_utf8 raw u = subst (λ (ys : List ℕ). IsUtf8 (meaning false ys)) u.1.1 (meaning_chars u.0 u.1.0).0
