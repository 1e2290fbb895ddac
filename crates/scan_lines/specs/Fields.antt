-- The text of a line of fields: fields parted by commas, with an LF, and quotes around a field where it must have them.
-- Source: this project; RFC 4180 has quotes so too.
use Rattle.std.specs.Prelude.{ℕ, Bool, false, ◌||◌, ◌==◌, if◌then◌else◌, List, [], ◌∷◌, ◌++◌, map, Vec}

-- a comma, a double quote, a CR or an LF makes its field stand between quotes
abbrev pub asks_quotes : ℕ → Bool
asks_quotes byte = byte == 44 || byte == 34 || byte == 13 || byte == 10

-- whether a field stands between quotes: one of its bytes asks for them
abbrev pub needs_quotes : List ℕ → Bool
needs_quotes [] = false
needs_quotes (byte ∷ field) = asks_quotes byte || needs_quotes field

-- a byte between quotes: a double quote is written twice
abbrev pub quoted_byte : ℕ → List ℕ
quoted_byte byte = if byte == 34 then 34 ∷ 34 ∷ [] else byte ∷ []

-- the bytes of a field between quotes
abbrev pub quoted_bytes : List ℕ → List ℕ
quoted_bytes [] = []
quoted_bytes (byte ∷ field) = quoted_byte byte ++ quoted_bytes field

-- a field as it stands in a line
abbrev pub field_text : List ℕ → List ℕ
field_text field = if needs_quotes field then 34 ∷ (quoted_bytes field ++ 34 ∷ []) else field

-- a comma and a field
abbrev pub next_field : List ℕ → List ℕ
next_field field = 44 ∷ field_text field

-- fields that come after a first one, each behind its comma
abbrev pub next_fields : List (List ℕ) → List ℕ
next_fields [] = []
next_fields (field ∷ fields) = next_field field ++ next_fields fields

-- the line of a field and those after it, with its LF
abbrev pub line_text : List ℕ → List (List ℕ) → List ℕ
line_text first more = field_text first ++ (next_fields more ++ 10 ∷ [])

-- fields that are held as bytes
abbrev pub fields_in : {A : Type 0} → List (Vec ℕ A) → List (List ℕ)
fields_in fields = map (λ field. field.items) fields
