-- Every program is well formed, the canonical text of a well-formed tree spells it, and no canonical line has too many open parentheses.
use Rattle.std.proofs.Common.{◌≡◌, ℕ, zero, suc, ◌+◌, ◌-◌, ◌<◌, ◌≤◌, nat_lt, nat_le, Bool, true, false, ◌&&◌, ◌||◌, List, [], ◌∷◌, map, IsUtf8, refl, sym, ◌∙◌, subst, arith}
use Rattle.std.specs.List.{count_by}
use Rattle.std.proofs.lemmas.Grind.{not_there}
use Rattle.std.proofs.lemmas.Bool.{both_ways, true_from_ne_false, and_parts, and_from, lt-ltb, ltb-true, le-leb, leb-true}
use Rattle.std.proofs.lemmas.Bool.Decides.{nat_tests}
use Rattle.std.proofs.lemmas.Str.{IsUtf8-nil}
use Rattle.loop_tokens.specs.declared.token.Token.{Token}
use Rattle.loop_tokens.specs.Tokens.{Holds}
use Rattle.loop_tokens.specs.Limits.{is_no_parenthesis, most_open, is_too_deep}
use Rattle.loop_grammar.specs.declared.line.Line.{Line}
use Rattle.loop_grammar.specs.declared.line.NumberedLine.{NumberedLine}
use Rattle.loop_grammar.specs.declared.tree.ProgramTree.{ProgramTree}
use Rattle.loop_grammar.specs.LineForms.{SpellsLine, line_groups}
use Rattle.loop_grammar.specs.LineSizes.{line_size, most_tokens}
use Rattle.loop_grammar.specs.Nesting.{most_blocks, Nests}
use Rattle.loop_grammar.specs.Texts.{most_groups, TokensSay, blank, says, Says, AllSay}
use Rattle.loop_grammar.specs.TreeLines.{tree_lines}
use Rattle.loop_grammar.specs.WellFormed.{is_form, is_within, are_lines, all_fit, statement_fits, most_inside, is_well_formed}
use Rattle.loop_layout.specs.Layout.{tokens_in}
use Rattle.loop_layout.specs.Canonical.{line_marks, line_text}
use Rattle.loop_layout.proofs.LongestTokens.{laid_out}
use Rattle.loop_layout.proofs.RowLines.{rows_are_lines}
use Rattle.loop_layout.proofs.ReadableTokens.{readable_held}
use Rattle.loop_layout.proofs.ReadUtf8.{held_utf8}
use Rattle.loop_layout.proofs.WrittenUtf8.{laid_out_utf8, rows_utf8}
use Rattle.loop_writer.specs.Programs.{row_of, placed}
use Rattle.loop_writer.proofs.Expressions.{onto-all, left_false}
use Rattle.loop_writer.proofs.SpelledLines.{line_spelled}
use Rattle.loop_writer.proofs.Tidy.{AllSound, all_sound, others_count, others_there, others_in}
use Rattle.loop_writer.proofs.TidyLines.{TidyLine, line_tidy, line_readable, line_utf8, line_narrow}
use Rattle.loop_writer.proofs.Placing.{numbered, AllNumbered, program_flat}
use Rattle.loop_writer.proofs.TextLines.{AllTexts, lines_utf8}
use Rattle.loop_writer.proofs.WrittenBack.{rows_back}
use Rattle.loop_syntax.specs.Programs.{IsProgram}
use Rattle.loop_syntax.specs.Laws.{ProgramsAreWellFormed, WellFormedIsSpelled, FewParentheses}
use Rattle.loop_syntax.proofs.LineSizeLemmas.{line_sized}
use Rattle.loop_syntax.proofs.KnownLines.{line_known}
use Rattle.loop_syntax.proofs.SomeLines.{line_whole}
use Rattle.loop_syntax.proofs.TreeLemmas.{tree_stands, tree_nests}

-- ---- parentheses

same_count : (x : Line) → count_by is_no_parenthesis (tokens_in (line_marks x)) ≡ others_in (line_marks x)
same_count x = sym (others_count (tokens_in (line_marks x))) ∙ others_there (line_marks x)

few_open : {x : Line} {ts : List Token} → TidyLine x ts → most_open 0 (tokens_in (line_marks x)) ≤ count_by is_no_parenthesis (tokens_in (line_marks x))
few_open {x = x} p =
    let ms = line_marks x in
    let low = p.low in
    let size = p.tidy.size in
    let count = same_count x in
    let P : List Token → Type 0 = λ us. most_open 0 us ≤ p.size in
    let few : most_open 0 (tokens_in ms) ≤ p.size = subst P (onto-all ms) (p.tidy.opens 0 [] p.size (omega (arith, low)) (omega arith)) in
    omega (arith, few, size, count)

pub few_parentheses : FewParentheses
few_parentheses form h = let d = line_whole form h in few_open (line_tidy d.spelled refl d.sound)

-- ---- what the lines of a text say is within the limits

not_below : (n m : ℕ) → nat_lt m n ≡ false → n ≤ m
not_below n m h = grind (arith, nat_tests)

not_above : (n m : ℕ) → n ≤ m → nat_lt m n ≡ false
not_above n m h = grind (arith, nat_tests)

within : {x : Line} {ts : List Token} → AllSound ts → is_too_deep ts ≡ false → SpellsLine x false ts → line_groups x ≤ most_groups → is_within x ≡ true
within {x = x} sound narrow d few =
    let tokens = tokens_in (line_marks x) in
    let kept : is_too_deep tokens ≡ false = line_narrow d refl sound narrow in
    let count : count_by is_no_parenthesis tokens ≤ 256 = not_below (count_by is_no_parenthesis tokens) 256 (left_false (nat_lt 256 (count_by is_no_parenthesis tokens)) (nat_lt 256 (most_open 0 tokens)) kept) in
    let same = same_count x in
    let size = line_sized x in
    and_from (is_form x) (nat_le (line_groups x) most_groups && nat_le (line_size x) most_tokens) (line_known d refl sound)
    (and_from (nat_le (line_groups x) most_groups) (nat_le (line_size x) most_tokens) (le-leb (line_groups x) most_groups few) (le-leb (line_size x) most_tokens (omega (arith, count, same, size))))

says_within : {x : Line} {ts : List Token} {whole : Bool} → AllSound ts → TokensSay ts whole (says x) → is_within x ≡ true
says_within sound (TokensSay.line narrow d few) = within sound narrow d few

line_within : {x : Line} (bytes : List ℕ) → IsUtf8 bytes → Says bytes (says x) → is_within x ≡ true
line_within bytes u h = says_within (all_sound h.0 (readable_held bytes h.0 h.1 h.2) (held_utf8 bytes h.0 h.1 u h.2)) h.3

lines_within : {n : ℕ} {lines : List (List ℕ)} {forms : List NumberedLine} → AllSay n lines forms → AllTexts lines → (m : ℕ) → m < n → are_lines m forms ≡ true
lines_within AllSay.none u m lt = refl
lines_within (AllSay.blank_line b h) u m lt = lines_within h u.1 m (omega (arith, lt))
lines_within (AllSay.line {n = n} {bytes = bytes} {x = x} {forms = forms} b h) u m lt =
    and_from (nat_lt m n) (is_within x && are_lines n forms) (lt-ltb m n lt) (and_from (is_within x) (are_lines n forms) (line_within bytes u.0 b) (lines_within h u.1 n (omega arith)))

numbered_from : {n : ℕ} {lines : List (List ℕ)} {forms : List NumberedLine} → AllSay n lines forms → 1 ≤ n → AllNumbered forms
numbered_from AllSay.none le = tt
numbered_from (AllSay.blank_line {n = n} b h) le = numbered_from h (omega arith)
numbered_from (AllSay.line {n = n} b h) le = ((λ (e : n ≡ 0). omega arith), numbered_from h (omega arith))

pub programs_are_well_formed : ProgramsAreWellFormed
programs_are_well_formed text p h =
    let t = tree_stands h.nests (numbered_from h.lines (omega arith)) in
    let lines : are_lines 0 (tree_lines p) ≡ true = subst (λ (forms : List NumberedLine). are_lines 0 forms ≡ true) t.same (lines_within h.lines (lines_utf8 text h.utf8) 0 (omega arith)) in
    and_from (are_lines 0 (tree_lines p)) (all_fit (map statement_fits p.body) most_inside) lines t.fit

-- what some loop file spells is well formed
pub spelled_well_formed : (p : ProgramTree) → IsProgram p → is_well_formed p ≡ true
spelled_well_formed p h = true_from_ne_false (is_well_formed p) (λ no. not_there h (λ s. both_ways (is_well_formed p) no (programs_are_well_formed s.0 p s.2)))

-- ---- lines that say what a tree's lines are

both_false : (a b : Bool) → a ≡ false → b ≡ false → (a || b) ≡ false
both_false true b h g = h
both_false false b h g = g

-- a line that says x
record LineOf (x : Line) : Type 0 where
  said : Says (line_text 0 x) (says x)
  utf8 : IsUtf8 (line_text 0 x)

line_of : (x : Line) → is_within x ≡ true → LineOf x
line_of x h =
    let p = and_parts (is_form x) (nat_le (line_groups x) most_groups && nat_le (line_size x) most_tokens) h in
    let q = and_parts (nat_le (line_groups x) most_groups) (nat_le (line_size x) most_tokens) p.1 in
    let d = line_whole x p.0 in
    let tokens = tokens_in (line_marks x) in
    let few = few_open (line_tidy d.spelled refl d.sound) in
    let same = same_count x in
    let size = line_sized x in
    let most : line_size x ≤ 256 = leb-true (line_size x) most_tokens q.1 in
    let narrow : is_too_deep tokens ≡ false = both_false (nat_lt 256 (count_by is_no_parenthesis tokens)) (nat_lt 256 (most_open 0 tokens))
    (not_above (count_by is_no_parenthesis tokens) 256 (omega (arith, same, size, most))) (not_above (most_open 0 tokens) 256 (omega (arith, few, same, size, most))) in
    record {
      said = (tokens, true, laid_out 0 (line_marks x) (line_readable d.spelled refl d.sound), TokensSay.line narrow (line_spelled d.spelled refl) (leb-true (line_groups x) most_groups q.0));
      utf8 = laid_out_utf8 0 (line_marks x) (line_utf8 d.spelled refl d.sound);
    }

-- lines that say these, the first of them being line n
record SomeLines (n : ℕ) (forms : List NumberedLine) : Type 0 where
  lines : List (List ℕ)
  said : AllSay n lines forms
  texts : AllTexts lines

empty_says : Says [] blank
empty_says = ([], true, Holds.end refl, TokensSay.none)

-- empty lines before them
after_empty : (k n : ℕ) (forms : List NumberedLine) → SomeLines (n + k) forms → SomeLines n forms
after_empty zero n forms h = let same : n + 0 ≡ n = omega arith in subst (λ m. SomeLines m forms) same h
after_empty (suc k) n forms h =
    let same : n + suc k ≡ n + 1 + k = omega arith in
    let more = after_empty k (n + 1) forms (subst (λ m. SomeLines m forms) same h) in
    record { lines = [] ∷ more.lines; said = AllSay.blank_line empty_says more.said; texts = (IsUtf8-nil, more.texts) }

some_lines : (m : ℕ) (forms : List NumberedLine) → are_lines m forms ≡ true → SomeLines (m + 1) forms
some_lines m [] h = record { lines = []; said = AllSay.none; texts = tt }
some_lines m (x ∷ forms) h =
    let p = and_parts (nat_lt m x.line) (is_within x.form && are_lines x.line forms) h in
    let q = and_parts (is_within x.form) (are_lines x.line forms) p.1 in
    let lt : m < x.line = ltb-true m x.line p.0 in
    let one = line_of x.form q.0 in
    let more = some_lines x.line forms q.1 in
    let here : SomeLines x.line (x ∷ forms) = record { lines = line_text 0 x.form ∷ more.lines; said = AllSay.line one.said more.said; texts = (one.utf8, more.texts) } in
    let gap : x.line ≡ m + 1 + (x.line - (m + 1)) = omega (arith, lt) in
    after_empty (x.line - (m + 1)) (m + 1) (x ∷ forms) (subst (λ k. SomeLines k (x ∷ forms)) gap here)

numbered_lines : (m : ℕ) (forms : List NumberedLine) → are_lines m forms ≡ true → AllNumbered forms
numbered_lines m [] h = tt
numbered_lines m (x ∷ forms) h =
    let p = and_parts (nat_lt m x.line) (is_within x.form && are_lines x.line forms) h in
    let lt : m < x.line = ltb-true m x.line p.0 in
    ((λ (e : x.line ≡ 0). omega (arith, lt, e)), numbered_lines x.line forms (and_parts (is_within x.form) (are_lines x.line forms) p.1).1)

pub well_formed_is_spelled : WellFormedIsSpelled
well_formed_is_spelled p h =
    let both = and_parts (are_lines 0 (tree_lines p)) (all_fit (map statement_fits p.body) most_inside) h in
    let ps = placed p in
    let nests : Nests most_blocks p (tree_lines p) = tree_nests most_inside p both.1 in
    let same : tree_lines p ≡ map numbered ps = program_flat nests (numbered_lines 0 (tree_lines p) both.0) in
    let some = some_lines 0 (tree_lines p) both.0 in
    let b = rows_back some.said some.texts ps same in
    let P : List (List ℕ) → Type 0 = λ ls. AllSay 1 ls (map numbered ps) in
    record {
      utf8 = rows_utf8 1 (map row_of ps) b.utf8;
      forms = map numbered ps;
      lines = subst P (sym (rows_are_lines 1 (map row_of ps) b.rows)) b.said;
      nests = subst (Nests most_blocks p) same nests;
    }
