-- How a field of CSV is read back (RFC 4180, section 2).
use Rattle.std.specs.Prelude.{
  ◌≡◌,
  ℕ,
  Bool,
  true,
  false,
  ◌==◌,
  ◌||◌,
  List,
  [],
  ◌∷◌,
  ◌++◌,
  Option,
  None,
  Some,
  if◌then◌else◌,
}
use Rattle.showing.specs.Csv.{field_text, is_special, quote, quoted}

-- A text that was read, and what comes after it.
abbrev pub Read : Type 0
Read = Option (List ℕ × List ℕ)

abbrev pub with_first : ℕ → Read → Read
with_first b None = None
with_first b (Some p) = Some (b ∷ p.0, p.1)

-- The text between quotes, after the first of them: a quote ends it, but two quotes denote one. `closed` says whether a
-- quote was just read.
abbrev pub read_quoted : Bool → List ℕ → Read
read_quoted true [] = Some ([], [])
read_quoted false [] = None
read_quoted true (b ∷ bs) = if b == quote then with_first quote (read_quoted false bs) else Some ([], b ∷ bs)
read_quoted false (b ∷ bs) = if b == quote then read_quoted true bs else with_first b (read_quoted false bs)

-- The text of a field without quotes: all up to a comma, a quote or a line break.
abbrev pub read_plain : List ℕ → Read
read_plain [] = Some ([], [])
read_plain (b ∷ bs) = if is_special b then Some ([], b ∷ bs) else with_first b (read_plain bs)

abbrev pub read_field : List ℕ → Read
read_field [] = read_plain []
read_field (b ∷ bs) = if b == quote then read_quoted false bs else read_plain (b ∷ bs)

-- a field ends where a comma, a line break or nothing follows
abbrev pub ends_field : List ℕ → Bool
ends_field [] = true
ends_field (b ∷ bs) = (b == 44) || (b == 13) || (b == 10)

-- The field of a text is read back as that text.
abbrev pub FieldsAreRead : Type 0
FieldsAreRead = (text rest : List ℕ) → ends_field rest ≡ true → read_field (field_text text ++ rest) ≡ Some (text, rest)

-- So is a text between quotes, as a list or a struct is written.
abbrev pub QuotedAreRead : Type 0
QuotedAreRead = (text rest : List ℕ) → ends_field rest ≡ true → read_field (quoted text ++ rest) ≡ Some (text, rest)

-- Only the field of a null has no byte.
abbrev pub TextsAreNoNulls : Type 0
TextsAreNoNulls = (text : List ℕ) → field_text text ≡ [] → ⊥
