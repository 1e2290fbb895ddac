-- A text spells one program at most, has one first refusal at most, never both, and never neither: from the same of a line and of lines that nest.
use Rattle.std.proofs.Common.{◌≡◌, ◌⊎◌, inl, inr, ℕ, zero, suc, ◌+◌, ◌<◌, ◌≤◌, Bool, true, false, List, [], ◌∷◌, length, take, refl, ap, sym, subst, ◌∙◌, arith}
use Rattle.std.specs.Prelude.{IsUtf8}
use Rattle.std.specs.Str.{is_utf8}
use Rattle.std.proofs.lemmas.Bool.{cases_lt}
use Rattle.std.proofs.lemmas.Str.{IsUtf8-nil, IsUtf8-from_is_utf8, is_utf8-from_IsUtf8, utf8_valid_len-IsValidUpTo}
use Rattle.loop_tokens.specs.declared.token.Token.{Token}
use Rattle.loop_tokens.specs.Lines.{lines_of, IsBadByte}
use Rattle.loop_tokens.specs.Limits.{is_too_deep}
use Rattle.loop_tokens.specs.Laws.{SomeTokens}
use Rattle.loop_grammar.specs.declared.line.Line.{Line}
use Rattle.loop_grammar.specs.declared.line.NumberedLine.{NumberedLine}
use Rattle.loop_grammar.specs.declared.tree.ProgramTree.{ProgramTree}
use Rattle.loop_grammar.specs.declared.refusal.SyntaxRefusal.{SyntaxRefusal}
use Rattle.loop_grammar.specs.declared.refusal.SyntaxRefusal.TheVariants as refusal
use Rattle.loop_grammar.specs.LineForms.{SpellsLine, line_groups}
use Rattle.loop_grammar.specs.Nesting.{on, most_blocks, Nests, NestingRefusal}
use Rattle.loop_grammar.specs.Texts.{most_groups, LineRefusal, too_deep, not_a_line, too_wide, Verdict, blank, says, refused, TokensSay, deep, stuck, not_spelled, groups, wide, line, Says, AllSay, blank_line, FirstLineRefusal, here, after_blank, after_line, refusal_at, SpellsProgram, FirstRefusal, not_utf8, refused_line, nesting}

true_false : (b : Bool) → b ≡ true → b ≡ false → ⊥
true_false true e f = absurd (cc)
true_false false e f = absurd (cc)

take_all : (m : ℕ) (xs : List ℕ) → length xs ≤ m → take m xs ≡ xs
take_all zero [] le = refl
take_all (suc m) [] le = refl
take_all zero (x ∷ xs) le = absurd (omega arith)
take_all (suc m) (x ∷ xs) le = ap (λ l. x ∷ l) (take_all m xs (omega arith))

-- ---- lines

blank_says : (x : Line) → blank ≡ says x → ⊥
blank_says x e = absurd (cc)

blank_refused : (f : LineRefusal) → blank ≡ refused f → ⊥
blank_refused f e = absurd (cc)

says_refused : (x : Line) (f : LineRefusal) → says x ≡ refused f → ⊥
says_refused x f e = absurd (cc)

same_form : (x y : Line) → says x ≡ says y → x ≡ y
same_form x y e = cc

same_refusal : (f g : LineRefusal) → refused f ≡ refused g → f ≡ g
same_refusal f g e = cc

same_front : (n : ℕ) (x y : Line) (fs gs : List NumberedLine) → x ≡ y → fs ≡ gs → on n x ∷ fs ≡ on n y ∷ gs
same_front n x y fs gs e f = ap (λ z. on n z ∷ fs) e ∙ ap (λ l. on n y ∷ l) f

module _ (one_saying : (bytes : List ℕ) (a b : Verdict) → Says bytes a → Says bytes b → a ≡ b) where
  all_one : {n : ℕ} {lines : List (List ℕ)} {fs gs : List NumberedLine} → AllSay n lines fs → AllSay n lines gs → fs ≡ gs
  all_one AllSay.none AllSay.none = refl
  all_one (blank_line s a) (blank_line t b) = all_one a b
  all_one (blank_line s a) (AllSay.line t b) = absurd (blank_says _ (one_saying _ _ _ s t))
  all_one (AllSay.line s a) (blank_line t b) = absurd (blank_says _ (one_saying _ _ _ t s))
  all_one {n} (AllSay.line s a) (AllSay.line t b) = same_front n _ _ _ _ (same_form _ _ (one_saying _ _ _ s t)) (all_one a b)

  not_both_lines : {n : ℕ} {lines : List (List ℕ)} {fs : List NumberedLine} {r : SyntaxRefusal} → AllSay n lines fs → FirstLineRefusal n lines r → ⊥
  not_both_lines {r = r} (AllSay.none {n = n}) x5 = elim x5 [ ]
  not_both_lines (blank_line s a) (here t) = blank_refused _ (one_saying _ _ _ s t)
  not_both_lines (AllSay.line s a) (here t) = says_refused _ _ (one_saying _ _ _ s t)
  not_both_lines (blank_line s a) (after_blank t f) = not_both_lines a f
  not_both_lines (AllSay.line s a) (after_blank t f) = not_both_lines a f
  not_both_lines (blank_line s a) (after_line t f) = not_both_lines a f
  not_both_lines (AllSay.line s a) (after_line t f) = not_both_lines a f

  one_line_refusal : {n : ℕ} {lines : List (List ℕ)} {r q : SyntaxRefusal} → FirstLineRefusal n lines r → FirstLineRefusal n lines q → r ≡ q
  one_line_refusal {n} (here s) (here t) = ap (λ f. refusal_at f n) (same_refusal _ _ (one_saying _ _ _ s t))
  one_line_refusal (here s) (after_blank t f) = absurd (blank_refused _ (one_saying _ _ _ t s))
  one_line_refusal (here s) (after_line t f) = absurd (says_refused _ _ (one_saying _ _ _ t s))
  one_line_refusal (after_blank s f) (here t) = absurd (blank_refused _ (one_saying _ _ _ s t))
  one_line_refusal (after_line s f) (here t) = absurd (says_refused _ _ (one_saying _ _ _ s t))
  one_line_refusal (after_blank s f) (after_blank t g) = one_line_refusal f g
  one_line_refusal (after_blank s f) (after_line t g) = one_line_refusal f g
  one_line_refusal (after_line s f) (after_blank t g) = one_line_refusal f g
  one_line_refusal (after_line s f) (after_line t g) = one_line_refusal f g

  -- ---- texts

  module _ (one_tree : (forms : List NumberedLine) (p q : ProgramTree) → Nests most_blocks p forms → Nests most_blocks q forms → p ≡ q)
      (one_break : (forms : List NumberedLine) (end : ℕ) (r q : SyntaxRefusal) → NestingRefusal forms end r → NestingRefusal forms end q → r ≡ q)
      (not_both : (forms : List NumberedLine) (end : ℕ) (p : ProgramTree) (r : SyntaxRefusal) → Nests most_blocks p forms → NestingRefusal forms end r → ⊥) where
    pub one_program_of : (text : List ℕ) (p q : ProgramTree) → SpellsProgram text p → SpellsProgram text q → p ≡ q
    one_program_of text p q s t = one_tree t.forms p q (subst (λ fs. Nests most_blocks p fs) (all_one s.lines t.lines) s.nests) t.nests

    pub never_both_of : (text : List ℕ) (p : ProgramTree) (r : SyntaxRefusal) → SpellsProgram text p → FirstRefusal text r → ⊥
    never_both_of text p r s (not_utf8 n b) = n s.utf8
    never_both_of text p r s (refused_line u f) = not_both_lines s.lines f
    never_both_of text p r s (nesting {forms} u a n) = not_both forms _ p r (subst (λ fs. Nests most_blocks p fs) (all_one s.lines a) s.nests) n

    pub one_refusal_of : (text : List ℕ) (r q : SyntaxRefusal) → FirstRefusal text r → FirstRefusal text q → r ≡ q
    one_refusal_of text r q (not_utf8 n b) (not_utf8 m c) = ap refusal.NotUtf8 (b.1 ∙ ap (λ k. k + 1) (sym (utf8_valid_len-IsValidUpTo text b.0 b.2) ∙ utf8_valid_len-IsValidUpTo text c.0 c.2) ∙ sym c.1)
    one_refusal_of text r q (not_utf8 n b) (refused_line u f) = absurd (n u)
    one_refusal_of text r q (not_utf8 n b) (nesting u a x) = absurd (n u)
    one_refusal_of text r q (refused_line u f) (not_utf8 n b) = absurd (n u)
    one_refusal_of text r q (nesting u a x) (not_utf8 n b) = absurd (n u)
    one_refusal_of text r q (refused_line u f) (refused_line v g) = one_line_refusal f g
    one_refusal_of text r q (refused_line u f) (nesting v a x) = absurd (not_both_lines a f)
    one_refusal_of text r q (nesting u a x) (refused_line v g) = absurd (not_both_lines a g)
    one_refusal_of text r q (nesting {forms = fs} u a x) (nesting {forms = gs} v b y) = one_break gs (length (lines_of text) + 1) r q (subst (λ hs. NestingRefusal hs (length (lines_of text) + 1) r) (all_one a b) x) y

-- ---- none is neither

module _ (ts : List Token) (k : (v : Verdict) → TokensSay ts true v → ⊥) (fits : is_too_deep ts ≡ false) where
  not_wide : (x : Line) (w : Bool) → SpellsLine x w ts → line_groups x ≤ most_groups → ⊥
  not_wide x true s le = k (refused too_wide) (wide fits s le)
  not_wide x false s le = k (says x) (line fits s le)

  not_grouped : (x : Line) (w : Bool) → SpellsLine x w ts → (most_groups < line_groups x) ⊎ (line_groups x ≤ most_groups) → ⊥
  not_grouped x w s (inl lt) = k (refused too_deep) (groups fits s lt)
  not_grouped x w s (inr le) = not_wide x w s le

  not_spelled_at : (x : Line) (w : Bool) → SpellsLine x w ts → ⊥
  not_spelled_at x w s = not_grouped x w s (cases_lt most_groups (line_groups x))

whole_some : (ts : List Token) (deeply : Bool) → is_too_deep ts ≡ deeply → ((v : Verdict) → TokensSay ts true v → ⊥) → ⊥
whole_some ts true is k = k (refused too_deep) (deep is)
whole_some [] false is k = k blank TokensSay.none
whole_some (t ∷ ts) false is k = k (refused not_a_line) (not_spelled is (λ e. absurd (cc)) (not_spelled_at (t ∷ ts) k is))

cut_some : (ts : List Token) (deeply : Bool) → is_too_deep ts ≡ deeply → ((v : Verdict) → TokensSay ts false v → ⊥) → ⊥
cut_some ts true is k = k (refused too_deep) (deep is)
cut_some ts false is k = k (refused not_a_line) (stuck is)

tokens_some : (ts : List Token) (whole : Bool) → ((v : Verdict) → TokensSay ts whole v → ⊥) → ⊥
tokens_some ts true k = whole_some ts _ refl k
tokens_some ts false k = cut_some ts _ refl k

-- what is so of the lines behind a line is so of all
line_neither : (bytes : List ℕ) (lines : List (List ℕ)) (n : ℕ) → ((forms : List NumberedLine) → AllSay n (bytes ∷ lines) forms → ⊥) → ((r : SyntaxRefusal) → FirstLineRefusal n (bytes ∷ lines) r → ⊥) →
    (((forms : List NumberedLine) → AllSay (n + 1) lines forms → ⊥) → ((r : SyntaxRefusal) → FirstLineRefusal (n + 1) lines r → ⊥) → ⊥) → (v : Verdict) → Says bytes v → ⊥
line_neither bytes lines n a f rest blank s = rest (λ fs b. a fs (blank_line s b)) (λ r g. f r (after_blank s g))
line_neither bytes lines n a f rest (says x) s = rest (λ fs b. a (on n x ∷ fs) (AllSay.line s b)) (λ r g. f r (after_line s g))
line_neither bytes lines n a f rest (refused q) s = f (refusal_at q n) (here s)

module _ (some_tokens : SomeTokens) where
  says_some : (bytes : List ℕ) → ((v : Verdict) → Says bytes v → ⊥) → ⊥
  says_some bytes k = let h = some_tokens bytes in tokens_some h.0 h.1 (λ v t. k v (h.0, h.1, h.2, t))

  lines_neither : (lines : List (List ℕ)) (n : ℕ) → ((forms : List NumberedLine) → AllSay n lines forms → ⊥) → ((r : SyntaxRefusal) → FirstLineRefusal n lines r → ⊥) → ⊥
  lines_neither [] n a f = a [] AllSay.none
  lines_neither (bytes ∷ lines) n a f = says_some bytes (λ v s. line_neither bytes lines n a f (lines_neither lines (n + 1)) v s)

  -- the longest front that is UTF-8, if the first so many bytes hold it
  module _ (text : List ℕ) (bad : IsUtf8 text → ⊥) where
    short_at : (n : ℕ) → (n < length text) ⊎ (length text ≤ n) → IsUtf8 (take n text) → n < length text
    short_at n (inl lt) u = lt
    short_at n (inr le) u = absurd (bad (subst IsUtf8 (take_all n text le) u))

    above : (n : ℕ) → is_utf8 (take (suc n) text) ≡ false → ((m : ℕ) → suc n < m → IsUtf8 (take m text) → ⊥) → (m : ℕ) → (suc n < m) ⊎ (m ≤ suc n) → n < m → IsUtf8 (take m text) → ⊥
    above n is more m (inl lt) at u = more m lt u
    above n is more m (inr le) at u = let e : m ≡ suc n = omega arith in true_false _ (is_utf8-from_IsUtf8 (take m text) u) (ap (λ k. is_utf8 (take k text)) e ∙ is)

    found : (n : ℕ) → ((m : ℕ) → n < m → IsUtf8 (take m text) → ⊥) → IsUtf8 (take n text) → (byte : ℕ) × IsBadByte text byte
    found n more u = (n + 1, (n, refl, record { short = short_at n (cases_lt n (length text)) u; front = u; longest = more }))

    front_of : (n : ℕ) → ((m : ℕ) → n < m → IsUtf8 (take m text) → ⊥) → (b : Bool) → is_utf8 (take n text) ≡ b → (byte : ℕ) × IsBadByte text byte
    front_of n more true is = found n more (IsUtf8-from_is_utf8 (take n text) is)
    front_of zero more false is = found zero more IsUtf8-nil
    front_of (suc n) more false is = front_of n (λ m lt u. above n is more m (cases_lt (suc n) m) lt u) _ refl

    bad_byte : (byte : ℕ) × IsBadByte text byte
    bad_byte = front_of (length text) (λ m lt u. bad (subst IsUtf8 (take_all m text (omega arith)) u)) _ refl

  module _ (nests_neither : (forms : List NumberedLine) (end : ℕ) → ((p : ProgramTree) → Nests most_blocks p forms → ⊥) → ((r : SyntaxRefusal) → NestingRefusal forms end r → ⊥) → ⊥) where
    utf8_neither : (text : List ℕ) → IsUtf8 text → ((p : ProgramTree) → SpellsProgram text p → ⊥) → ((r : SyntaxRefusal) → FirstRefusal text r → ⊥) → ⊥
    utf8_neither text u p r = lines_neither (lines_of text) 1
        (λ fs a. nests_neither fs (length (lines_of text) + 1) (λ q n. p q (record { utf8 = u; forms = fs; lines = a; nests = n })) (λ q n. r q (nesting u a n)))
        (λ q f. r q (refused_line u f))

    never_neither_at : (text : List ℕ) (b : Bool) → is_utf8 text ≡ b → ((p : ProgramTree) → SpellsProgram text p → ⊥) → ((r : SyntaxRefusal) → FirstRefusal text r → ⊥) → ⊥
    never_neither_at text true is p r = utf8_neither text (IsUtf8-from_is_utf8 text is) p r
    never_neither_at text false is p r =
        let bad : IsUtf8 text → ⊥ = λ u. true_false _ (is_utf8-from_IsUtf8 text u) is in
        let b = bad_byte text bad in
        r (refusal.NotUtf8 b.0) (not_utf8 bad b.1)

    pub never_neither_of : (text : List ℕ) → ((p : ProgramTree) → SpellsProgram text p → ⊥) → ((r : SyntaxRefusal) → FirstRefusal text r → ⊥) → ⊥
    never_neither_of text p r = never_neither_at text _ refl p r
