-- What is written of one more of several things, and where an expression stands in parentheses.
use Rattle.std.proofs.Common.{◌≡◌, ℕ, ◌+◌, ◌<◌, nat_lt, take, get_or, arith, subst, Bool, true, false, ◌||◌, List, [], ◌∷◌, ◌++◌, length, map, Result, Ok, Err, OnOk, refl, ap, sym, ◌∙◌, append_assoc, if◌then◌else◌}
use Rattle.std.proofs.lemmas.Bool.Decides.{nat_tests}
use Rattle.std.proofs.lemmas.Grind.{flat_map-append}
use Rattle.std.proofs.lemmas.List.{append-nil, take_more, length-take, length-map, map-append}
use Rattle.loop_data.specs.declared.expr.Expr.{Expr}
use Rattle.loop_data.specs.declared.head.Inner.{Inner}
use Rattle.loop_tokens.specs.declared.token.Token.TheVariants as tok
use Rattle.loop_tokens.specs.declared.keyword.Keyword.{Keyword}
use Rattle.loop_tokens.specs.declared.keyword.Keyword.TheVariants as kw
use Rattle.loop_layout.specs.Layout.{Mark, mark_text, marks_text}
use Rattle.loop_layout.specs.Canonical.{Written, WrittenExpr, first, glued, apart, range_marks, open_, close, comma, called, after_comma, parts_marks, more_listed, listed, written_expr, expr_marks, inner_marks}

-- the comma before a thing that isn't the first
abbrev pub comma_marks : Bool → List Mark
comma_marks follows = if follows then glued comma ∷ [] else []

after_more : (ps : List WrittenExpr) (p : WrittenExpr) → after_comma (ps ++ p ∷ []) ≡ after_comma ps ++ (glued comma ∷ p.whole true)
after_more [] p = ap (λ ms. glued comma ∷ ms) (append-nil (p.whole true))
after_more (q ∷ qs) p = ap (λ ms. glued comma ∷ (q.whole true ++ ms)) (after_more qs p) ∙ sym (append_assoc (glued comma ∷ q.whole true) (after_comma qs) (glued comma ∷ p.whole true))

-- whether something stands before the next
abbrev some_before : {A : Type 0} → List A → Bool
some_before [] = false
some_before (x ∷ xs) = true

above_none : (n : ℕ) → true ≡ nat_lt 0 (n + 1)
above_none n = grind (arith, nat_tests)

before_there : {A : Type 0} (xs : List A) → some_before xs ≡ nat_lt 0 (length xs)
before_there [] = refl
before_there (x ∷ xs) = above_none (length xs) ∙ ap (nat_lt 0) (omega arith)

parts_more : (ps : List WrittenExpr) (p : WrittenExpr) → parts_marks (ps ++ p ∷ []) ≡ parts_marks ps ++ (comma_marks (some_before ps) ++ p.whole (some_before ps))
parts_more [] p = append-nil (p.whole false)
parts_more (q ∷ qs) p = ap (λ ms. q.whole false ++ ms) (after_more qs p) ∙ sym (append_assoc (q.whole false) (after_comma qs) (glued comma ∷ p.whole true))

more_more : (ms : List Written) (m : Written) → more_listed (ms ++ m ∷ []) ≡ more_listed ms ++ (glued comma ∷ m true)
more_more [] m = ap (λ ks. glued comma ∷ ks) (append-nil (m true))
more_more (n ∷ ns) m = ap (λ ks. glued comma ∷ (n true ++ ks)) (more_more ns m) ∙ sym (append_assoc (glued comma ∷ n true) (more_listed ns) (glued comma ∷ m true))

or_true : (a : Bool) → (a || true) ≡ true
or_true true = refl
or_true false = refl

or_false : (a : Bool) → (a || false) ≡ a
or_false true = refl
or_false false = refl

listed_more : (ms : List Written) (m : Written) (a : Bool) → listed (ms ++ m ∷ []) a ≡ listed ms a ++ (comma_marks (some_before ms) ++ m (a || some_before ms))
listed_more [] m a = append-nil (m a) ∙ ap m (sym (or_false a))
listed_more (n ∷ ns) m a =
    ap (λ ks. n a ++ ks) (more_more ns m) ∙ sym (append_assoc (n a) (more_listed ns) (glued comma ∷ m true)) ∙
    ap (λ b. (n a ++ more_listed ns) ++ (glued comma ∷ m b)) (sym (or_true a))

-- marks that are written one after another
pub marks_more : (old mid new : List ℕ) (ms ns : List Mark) → mid ≡ old ++ marks_text ms → new ≡ mid ++ marks_text ns → new ≡ old ++ marks_text (ms ++ ns)
marks_more old mid new ms ns p q =
    q ∙ ap (λ (bs : List ℕ). bs ++ marks_text ns) p ∙ append_assoc old (marks_text ms) (marks_text ns) ∙ ap (λ (bs : List ℕ). old ++ bs) (sym (flat_map-append mark_text ms ns))

-- one more item behind the first i
taken : {A B : Type 0} (f : A → B) (xs : List A) (i : ℕ) (x : A) → i < length xs → get_or xs i x ≡ x → map f (take (i + 1) xs) ≡ map f (take i xs) ++ f x ∷ []
taken f xs i x lt at = ap (map f) (take_more xs i x lt) ∙ map-append f (take i xs) (get_or xs i x ∷ []) ∙ ap (λ y. map f (take i xs) ++ f y ∷ []) at

front_size : {A B : Type 0} (f : A → B) (xs : List A) (i : ℕ) → i < length xs → length (map f (take i xs)) ≡ i
front_size f xs i lt = simp (length-map, length-take) (omega arith)

-- the part at i was written, with its comma
pub parts_step : (xs : List Expr) (i : ℕ) (x : Expr) (old out mid new : List ℕ) → i < length xs → get_or xs i x ≡ x → out ≡ old ++ marks_text (parts_marks (map written_expr (take i xs))) →
    mid ≡ out ++ marks_text (comma_marks (nat_lt 0 i)) → new ≡ mid ++ marks_text (expr_marks x (nat_lt 0 i)) → new ≡ old ++ marks_text (parts_marks (map written_expr (take (i + 1) xs)))
parts_step xs i x old out mid new lt at before comma_there part_there =
    let ws = map written_expr (take i xs) in
    let one = comma_marks (nat_lt 0 i) ++ expr_marks x (nat_lt 0 i) in
    let P : Bool → Type 0 = λ b. parts_marks (ws ++ written_expr x ∷ []) ≡ parts_marks ws ++ (comma_marks b ++ expr_marks x b) in
    let more : parts_marks (ws ++ written_expr x ∷ []) ≡ parts_marks ws ++ one = subst P (before_there ws ∙ ap (nat_lt 0) (front_size written_expr xs i lt)) (parts_more ws (written_expr x)) in
    marks_more old out new (parts_marks ws) one before (marks_more out mid new (comma_marks (nat_lt 0 i)) (expr_marks x (nat_lt 0 i)) comma_there part_there) ∙
    ap (λ ms. old ++ marks_text ms) (sym more ∙ ap parts_marks (sym (taken written_expr xs i x lt at)))

-- the thing at i was written, with its comma
pub listed_step : {A : Type 0} (f : A → Written) (xs : List A) (i : ℕ) (x : A) (a b : Bool) (old out mid new : List ℕ) → i < length xs → get_or xs i x ≡ x → b ≡ (a || nat_lt 0 i) →
    out ≡ old ++ marks_text (listed (map f (take i xs)) a) → mid ≡ out ++ marks_text (comma_marks (nat_lt 0 i)) → new ≡ mid ++ marks_text (f x b) →
    new ≡ old ++ marks_text (listed (map f (take (i + 1) xs)) a)
listed_step f xs i x a b old out mid new lt at is before comma_there thing_there =
    let ms = map f (take i xs) in
    let one = comma_marks (nat_lt 0 i) ++ f x b in
    let P : Bool → Type 0 = λ c. listed (ms ++ f x ∷ []) a ≡ listed ms a ++ (comma_marks c ++ f x (a || c)) in
    let more : listed (ms ++ f x ∷ []) a ≡ listed ms a ++ (comma_marks (nat_lt 0 i) ++ f x (a || nat_lt 0 i)) = subst P (before_there ms ∙ ap (nat_lt 0) (front_size f xs i lt)) (listed_more ms (f x) a) in
    marks_more old out new (listed ms a) one before (marks_more out mid new (comma_marks (nat_lt 0 i)) (f x b) comma_there thing_there) ∙
    ap (λ (c : Bool). old ++ marks_text (listed ms a ++ (comma_marks (nat_lt 0 i) ++ f x c))) is ∙
    ap (λ ks. old ++ marks_text ks) (sym more ∙ ap (λ ns. listed ns a) (sym (taken f xs i x lt at)))

inner_more : (hs : List Inner) (h : Inner) → inner_marks (hs ++ h ∷ []) ≡ inner_marks hs ++ inner_marks (h ∷ [])
inner_more [] h = refl
inner_more (g ∷ gs) h =
    let front = glued comma ∷ apart (tok.Name g.name) ∷ apart (tok.Keyword kw.In) ∷ range_marks g.range true in
    ap (λ ms. front ++ ms) (inner_more gs h) ∙ sym (append_assoc front (inner_marks gs) (inner_marks (h ∷ [])))

-- the further head at i was written
pub inner_step : (hs : List Inner) (i : ℕ) (h : Inner) (old out new : List ℕ) → i < length hs → get_or hs i h ≡ h → out ≡ old ++ marks_text (inner_marks (take i hs)) →
    new ≡ out ++ marks_text (inner_marks (h ∷ [])) → new ≡ old ++ marks_text (inner_marks (take (i + 1) hs))
inner_step hs i h old out new lt at before there =
    marks_more old out new (inner_marks (take i hs)) (inner_marks (h ∷ [])) before there ∙
    ap (λ ms. old ++ marks_text ms) (sym (inner_more (take i hs) h) ∙ ap inner_marks (ap (λ g. take i hs ++ g ∷ []) (sym at) ∙ sym (take_more hs i h lt)))

-- what holds where it is Ok is passed on
pub then_ok : {T E P Q : Type 0} (r : Result T E) → (P → Q) → OnOk r P → OnOk r Q
then_ok (Ok x) f h = f h
then_ok (Err e) f h = h

-- a word that is called with two things
pub pair_called : (word : Keyword) (a : Bool) (xs ys : List Mark) (old one two three four five new : List ℕ) → one ≡ old ++ marks_text (first a (tok.Keyword word) ∷ []) → two ≡ one ++ marks_text (glued open_ ∷ []) →
    three ≡ two ++ marks_text xs → four ≡ three ++ marks_text (glued comma ∷ []) → five ≡ four ++ marks_text ys → new ≡ five ++ marks_text (glued close ∷ []) →
    new ≡ old ++ marks_text (called (tok.Keyword word) (xs ++ glued comma ∷ ys) a)
pair_called word a xs ys old one two three four five new p q r s t u =
    let front : List Mark = first a (tok.Keyword word) ∷ glued open_ ∷ xs in
    marks_more old five new ((front ++ glued comma ∷ []) ++ ys) (glued close ∷ [])
    (marks_more old four five (front ++ glued comma ∷ []) ys
    (marks_more old three four front (glued comma ∷ [])
    (marks_more old two three (first a (tok.Keyword word) ∷ glued open_ ∷ []) xs (marks_more old one two (first a (tok.Keyword word) ∷ []) (glued open_ ∷ []) p q) r) s) t) u ∙
    ap (λ ms. old ++ marks_text (ms ++ glued close ∷ [])) (append_assoc front (glued comma ∷ []) ys)
