-- A cell as JSON (RFC 8259). It is written with some text for each quote, so that it can be a field of CSV, where
-- quotes are doubled.
use Rattle.std.specs.Prelude.{ℕ, ℤ, false, List, [], ◌∷◌, ◌++◌, ◌==◌, ◌-◌, ◌^◌, codes, if◌then◌else◌, flat_map}
use Rattle.std.specs.Char.{encode_utf8}
use Rattle.std.specs.Fmt.{digits, format_spec, padded_integral, signed_decimal}
use Rattle.std.specs.Str.{chars}
use Rattle.values.specs.Datum.{Datum, null, truth, whole, text, bytes, list, structure, Items, no_items, item}
use Rattle.values.specs.Rose.{Rose, Roses, none, more}
use Rattle.values.specs.declared.col_type.ColType.{ColType}
use Rattle.values.specs.declared.col_type.ColType.TheVariants as col
use Rattle.schema_meta.specs.Entry.{Entry}
use Rattle.showing.specs.Digits.{hex_text}
use Rattle.showing.specs.Fields.{below, entry}
use Rattle.showing.specs.Joined.{joined}
use Rattle.showing.specs.Numbers.{number_text, truth_text}
use Rattle.showing.specs.Visible.{is_hidden}

-- the number of a character by four hexadecimal digits
abbrev pub four_digits : ℕ → List ℕ
four_digits c = padded_integral (format_spec 32 0 4 4 (2 ^ 64 - 1)) false [] (digits 16 false c)

-- a character of a string (section 7)
abbrev pub json_char : List ℕ → ℕ → List ℕ
json_char quote c = if c == 34 then 92 ∷ quote else if c == 92 then 92 ∷ 92 ∷ [] else if c == 10 then codes "\\n"
    else if c == 13 then codes "\\r"
    else if c == 9 then codes "\\t" else if is_hidden c then codes "\\u" ++ four_digits c else encode_utf8 c

abbrev pub json_string : List ℕ → List ℕ → List ℕ
json_string quote t = quote ++ (flat_map (json_char quote) (chars t) ++ quote)

-- A whole number is one of JSON (section 6). Any other is a string, so that no reader rounds it.
abbrev pub json_number : List ℕ → ColType → ℤ → List ℕ
json_number quote (col.Int w s) z = signed_decimal z
json_number quote t z = quote ++ (number_text t z ++ quote)

-- A list is an array (section 5), and its items are cells of the first field below that of the list. A struct is an
-- object (section 4) with the names of the fields.
abbrev mutual
  pub json : List ℕ → Rose Entry → Datum → List ℕ
  json quote field null = codes "null"
  json quote field (truth b) = truth_text b
  json quote field (whole z) = json_number quote (entry field).stored z
  json quote field (text t) = json_string quote t
  json quote field (bytes b) = quote ++ (hex_text b ++ quote)
  json quote field (list es) = codes "[" ++ (joined (codes ",") (items_of_first quote (below field) es) ++ codes "]")
  json quote field (structure es) = codes "{" ++ (joined (codes ",") (members quote (below field) es) ++ codes "}")

  pub items_of_first : List ℕ → Roses Entry → Items → List (List ℕ)
  items_of_first quote none es = []
  items_of_first quote (more f fs) no_items = []
  items_of_first quote (more f fs) (item d ds) = json quote f d ∷ items_of_first quote (more f fs) ds

  pub members : List ℕ → Roses Entry → Items → List (List ℕ)
  members quote none es = []
  members quote (more f fs) no_items = []
  members quote (more f fs) (item d ds) =
      (json_string quote (entry f).name ++ (codes ":" ++ json quote f d)) ∷ members quote fs ds

-- the object of a struct with these fields
abbrev pub json_object : List ℕ → Roses Entry → Items → List ℕ
json_object quote fields es = codes "{" ++ (joined (codes ",") (members quote fields es) ++ codes "}")
