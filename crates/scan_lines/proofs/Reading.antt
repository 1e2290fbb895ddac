-- That a line can be taken apart in one way alone.
use Rattle.std.proofs.Common.{◌≡◌, ℕ, Bool, true, false, ◌||◌, ◌⊎◌, inl, inr, if◌then◌else◌, List, [], ◌∷◌, ◌++◌, refl, sym, ap, ap₂, ◌∙◌, subst}
use Rattle.std.specs.Prelude.{◌==◌}
use Rattle.std.proofs.lemmas.Bool.{eqb-true}
use Rattle.std.proofs.lemmas.List.{append_assoc}
use Rattle.scan_lines.specs.Fields.{asks_quotes, needs_quotes, quoted_byte, quoted_bytes, field_text, next_field, next_fields, line_text}

-- what parts a field from what comes after it: a comma or an LF
abbrev Parts : ℕ → Type 0
Parts byte = (byte ≡ 44) ⊎ (byte ≡ 10)

cons_same : (a b : ℕ) (s t : List ℕ) → a ∷ s ≡ b ∷ t → (a ≡ b) × (s ≡ t)
cons_same a b s t e = (cc, cc)

parts_asks : (byte : ℕ) → Parts byte → asks_quotes byte ≡ true
parts_asks byte (inl is) = rw is refl
parts_asks byte (inr is) = rw is refl

not_quote : (c : ℕ) → (c == 34) ≡ false → c ≡ 34 → ⊥
not_quote c not is = let wrong : true ≡ false = subst (λ x. (x == 34) ≡ false) is not in absurd cc

parts_differs : (byte : ℕ) → Parts byte → (byte == 34) ≡ false
parts_differs byte (inl is) = rw is refl
parts_differs byte (inr is) = rw is refl

parts_no_quote : (byte : ℕ) → Parts byte → byte ≡ 34 → ⊥
parts_no_quote byte parts e = not_quote byte (parts_differs byte parts) e

no_comma : (c : ℕ) → (c == 44) ≡ false → c ≡ 44 → ⊥
no_comma c not is = let wrong : true ≡ false = subst (λ x. (x == 44) ≡ false) is not in absurd cc

either_false : (a b : Bool) → (a || b) ≡ false → (a ≡ false) × (b ≡ false)
either_false true b e = absurd cc
either_false false b e = (refl, e)

-- a byte of a field without quotes doesn't ask for them
no_ask : (byte : ℕ) → asks_quotes byte ≡ false → asks_quotes byte ≡ true → ⊥
no_ask byte not asks = let wrong : false ≡ true = sym not ∙ asks in absurd cc

-- what two texts say that begin alike: the field, what parts it, and what follows
abbrev SameField : List ℕ → List ℕ → ℕ → ℕ → List ℕ → List ℕ → Type 0
SameField f g d e s t = (f ≡ g) × (d ≡ e) × (s ≡ t)

plain_once : (f g : List ℕ) (d e : ℕ) (s t : List ℕ) → needs_quotes f ≡ false → needs_quotes g ≡ false → Parts d → Parts e → f ++ d ∷ s ≡ g ++ e ∷ t → SameField f g d e s t
plain_once [] [] d e s t nf ng pd pe h = let same = cons_same d e s t h in (refl, same.0, same.1)
plain_once [] (c ∷ g) d e s t nf ng pd pe h =
    let same = cons_same d c s (g ++ e ∷ t) h in
    absurd (no_ask c (either_false (asks_quotes c) (needs_quotes g) ng).0 (subst (λ x. asks_quotes x ≡ true) same.0 (parts_asks d pd)))
plain_once (c ∷ f) [] d e s t nf ng pd pe h =
    let same = cons_same c e (f ++ d ∷ s) t h in
    absurd (no_ask c (either_false (asks_quotes c) (needs_quotes f) nf).0 (subst (λ x. asks_quotes x ≡ true) (sym same.0) (parts_asks e pe)))
plain_once (c ∷ f) (c' ∷ g) d e s t nf ng pd pe h =
    let same = cons_same c c' (f ++ d ∷ s) (g ++ e ∷ t) h in
    let more = plain_once f g d e s t (either_false (asks_quotes c) (needs_quotes f) nf).1 (either_false (asks_quotes c') (needs_quotes g) ng).1 pd pe same.1 in
    (ap₂ (λ x xs. x ∷ xs) same.0 more.0, more.1, more.2)

-- a byte between quotes, by whether it is one
abbrev byte_by : Bool → ℕ → List ℕ
byte_by b c = if b then 34 ∷ 34 ∷ [] else c ∷ []

-- a field's end is no byte of another
end_or_byte : (b : Bool) (c : ℕ) (g : List ℕ) (d e : ℕ) (s t : List ℕ) → (c == 34) ≡ b → Parts d → 34 ∷ d ∷ s ≡ (byte_by b c ++ quoted_bytes g) ++ 34 ∷ e ∷ t → ⊥
end_or_byte true c g d e s t is pd h =
    let tail = cons_same 34 34 (d ∷ s) (34 ∷ (quoted_bytes g ++ 34 ∷ e ∷ t)) h in
    parts_no_quote d pd (cons_same d 34 s (quoted_bytes g ++ 34 ∷ e ∷ t) tail.1).0
end_or_byte false c g d e s t is pd h =
    not_quote c is (sym (cons_same 34 c (d ∷ s) (quoted_bytes g ++ 34 ∷ e ∷ t) h).0)

-- two bytes that begin alike are the same, and what follows them is too
same_bytes : (b b' : Bool) (c c' : ℕ) (f g : List ℕ) (s t : List ℕ) → (c == 34) ≡ b → (c' == 34) ≡ b' → (byte_by b c ++ quoted_bytes f) ++ s ≡ (byte_by b' c' ++ quoted_bytes g) ++ t →
    (c ≡ c') × (quoted_bytes f ++ s ≡ quoted_bytes g ++ t)
same_bytes true true c c' f g s t is is' h =
    let tail = cons_same 34 34 (34 ∷ (quoted_bytes f ++ s)) (34 ∷ (quoted_bytes g ++ t)) h in
    (eqb-true c 34 is ∙ sym (eqb-true c' 34 is'), (cons_same 34 34 (quoted_bytes f ++ s) (quoted_bytes g ++ t) tail.1).1)
same_bytes true false c c' f g s t is is' h =
    absurd (not_quote c' is' (sym (cons_same 34 c' (34 ∷ (quoted_bytes f ++ s)) (quoted_bytes g ++ t) h).0))
same_bytes false true c c' f g s t is is' h =
    absurd (not_quote c is (cons_same c 34 (quoted_bytes f ++ s) (34 ∷ (quoted_bytes g ++ t)) h).0)
same_bytes false false c c' f g s t is is' h = cons_same c c' (quoted_bytes f ++ s) (quoted_bytes g ++ t) h

quoted_once : (f g : List ℕ) (d e : ℕ) (s t : List ℕ) → Parts d → Parts e → quoted_bytes f ++ 34 ∷ d ∷ s ≡ quoted_bytes g ++ 34 ∷ e ∷ t → SameField f g d e s t
quoted_once [] [] d e s t pd pe h = let same = cons_same d e s t (cons_same 34 34 (d ∷ s) (e ∷ t) h).1 in (refl, same.0, same.1)
quoted_once [] (c ∷ g) d e s t pd pe h = absurd (end_or_byte (c == 34) c g d e s t refl pd h)
quoted_once (c ∷ f) [] d e s t pd pe h = absurd (end_or_byte (c == 34) c f e d t s refl pe (sym h))
quoted_once (c ∷ f) (c' ∷ g) d e s t pd pe h =
    let same = same_bytes (c == 34) (c' == 34) c c' f g (34 ∷ d ∷ s) (34 ∷ e ∷ t) refl refl h in
    let more = quoted_once f g d e s t pd pe same.1 in
    (ap₂ (λ x xs. x ∷ xs) same.0 more.0, more.1, more.2)

-- a field between quotes is none without
quoted_or_plain : (f g : List ℕ) (s t : List ℕ) (e : ℕ) → needs_quotes g ≡ false → Parts e → 34 ∷ s ≡ g ++ e ∷ t → ⊥
quoted_or_plain f [] s t e ng pe h = parts_no_quote e pe (sym (cons_same 34 e s t h).0)
quoted_or_plain f (c ∷ g) s t e ng pe h =
    no_ask c (either_false (asks_quotes c) (needs_quotes g) ng).0 (subst (λ x. asks_quotes x ≡ true) (cons_same 34 c s (g ++ e ∷ t) h).0 refl)

abbrev text_by : Bool → List ℕ → List ℕ
text_by b f = if b then 34 ∷ (quoted_bytes f ++ 34 ∷ []) else f

field_by : (b b' : Bool) (f g : List ℕ) (d e : ℕ) (s t : List ℕ) → needs_quotes f ≡ b → needs_quotes g ≡ b' → Parts d → Parts e → text_by b f ++ d ∷ s ≡ text_by b' g ++ e ∷ t → SameField f g d e s t
field_by true true f g d e s t is is' pd pe h =
    let tail = (cons_same 34 34 ((quoted_bytes f ++ 34 ∷ []) ++ d ∷ s) ((quoted_bytes g ++ 34 ∷ []) ++ e ∷ t) h).1 in
    quoted_once f g d e s t pd pe (sym (append_assoc (quoted_bytes f) (34 ∷ []) (d ∷ s)) ∙ tail ∙ append_assoc (quoted_bytes g) (34 ∷ []) (e ∷ t))
field_by true false f g d e s t is is' pd pe h = absurd (quoted_or_plain f g ((quoted_bytes f ++ 34 ∷ []) ++ d ∷ s) t e is' pe h)
field_by false true f g d e s t is is' pd pe h = absurd (quoted_or_plain g f ((quoted_bytes g ++ 34 ∷ []) ++ e ∷ t) s d is pd (sym h))
field_by false false f g d e s t is is' pd pe h = plain_once f g d e s t is is' pd pe h

-- what follows a field in a line begins with what parts it
record Follows (text : List ℕ) : Type 0 where
  byte : ℕ
  after : List ℕ
  parts : Parts byte
  is : text ≡ byte ∷ after

abbrev after_field : List (List ℕ) → List ℕ → List ℕ
after_field more rest = (next_fields more ++ 10 ∷ []) ++ rest

follows : (more : List (List ℕ)) (rest : List ℕ) → Follows (after_field more rest)
follows [] rest = record { byte = 10; after = rest; parts = inr refl; is = refl }
follows (field ∷ more) rest =
    record { byte = 44; after = ((field_text field ++ next_fields more) ++ 10 ∷ []) ++ rest; parts = inl refl; is = refl }

field_once : (f g : List ℕ) (more more' : List (List ℕ)) (rest rest' : List ℕ) → field_text f ++ after_field more rest ≡ field_text g ++ after_field more' rest' → (f ≡ g) × (after_field more rest ≡ after_field more' rest')
field_once f g more more' rest rest' h =
    let one = follows more rest in
    let two = follows more' rest' in
    let same = field_by (needs_quotes f) (needs_quotes g) f g one.byte two.byte one.after two.after refl refl one.parts two.parts
    (ap (λ x. field_text f ++ x) (sym one.is) ∙ h ∙ ap (λ x. field_text g ++ x) two.is) in
    (same.0, one.is ∙ ap₂ (λ x xs. x ∷ xs) same.1 same.2 ∙ sym two.is)

-- a field more in front of what follows
regroup : (f : List ℕ) (more : List (List ℕ)) (rest : List ℕ) → ((field_text f ++ next_fields more) ++ 10 ∷ []) ++ rest ≡ field_text f ++ after_field more rest
regroup f more rest = ap (λ x. x ++ rest) (append_assoc (field_text f) (next_fields more) (10 ∷ [])) ∙ append_assoc (field_text f) (next_fields more ++ 10 ∷ []) rest

more_once : (more more' : List (List ℕ)) (rest rest' : List ℕ) → after_field more rest ≡ after_field more' rest' → (more ≡ more') × (rest ≡ rest')
more_once [] [] rest rest' h = (refl, (cons_same 10 10 rest rest' h).1)
more_once [] (g ∷ more') rest rest' h =
    absurd (no_comma 10 refl (cons_same 10 44 rest (((field_text g ++ next_fields more') ++ 10 ∷ []) ++ rest') h).0)
more_once (f ∷ more) [] rest rest' h =
    absurd (no_comma 10 refl (sym (cons_same 44 10 (((field_text f ++ next_fields more) ++ 10 ∷ []) ++ rest) rest' h).0))
more_once (f ∷ more) (g ∷ more') rest rest' h =
    let tail = (cons_same 44 44 (((field_text f ++ next_fields more) ++ 10 ∷ []) ++ rest) (((field_text g ++ next_fields more') ++ 10 ∷ []) ++ rest') h).1 in
    let one = field_once f g more more' rest rest' (sym (regroup f more rest) ∙ tail ∙ regroup g more' rest') in
    let all = more_once more more' rest rest' one.1 in
    (ap₂ (λ x xs. x ∷ xs) one.0 all.0, all.1)

pub line_once : (first first' : List ℕ) (more more' : List (List ℕ)) (rest rest' : List ℕ) → line_text first more ++ rest ≡ line_text first' more' ++ rest' → (first ≡ first') × (more ≡ more') × (rest ≡ rest')
line_once first first' more more' rest rest' h =
    let one = field_once first first' more more' rest rest' (sym (append_assoc (field_text first) (next_fields more ++ 10 ∷ []) rest) ∙ h ∙ append_assoc (field_text first') (next_fields more' ++ 10 ∷ []) rest') in
    let all = more_once more more' rest rest' one.1 in
    (one.0, all.0, all.1)
