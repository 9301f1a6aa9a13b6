-- CSV (RFC 4180, section 2): a field with a comma, a quote or a line break is written between quotes, and a quote in it
-- is doubled. So is an empty text, since a field without a byte is a null.
use Rattle.std.specs.Prelude.{ℕ, Bool, List, [], ◌∷◌, ◌++◌, ◌==◌, ◌||◌, if◌then◌else◌, length, flat_map}
use Rattle.std.specs.List.{list_any}

abbrev pub quote : ℕ
quote = 34

abbrev pub is_special : ℕ → Bool
is_special b = (b == quote) || (b == 44) || (b == 13) || (b == 10)

abbrev pub needs_quotes : List ℕ → Bool
needs_quotes text = (length text == 0) || list_any is_special text

abbrev pub doubled : ℕ → List ℕ
doubled b = if b == quote then quote ∷ quote ∷ [] else b ∷ []

abbrev pub quoted : List ℕ → List ℕ
quoted text = quote ∷ (flat_map doubled text ++ quote ∷ [])

abbrev pub field_text : List ℕ → List ℕ
field_text text = if needs_quotes text then quoted text else text
