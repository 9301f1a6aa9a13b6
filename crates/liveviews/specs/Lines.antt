-- What is printed of each message of a stream.
use Rattle.std.specs.Prelude.{
  ℕ,
  ℤ,
  Bool,
  true,
  false,
  List,
  [],
  ◌∷◌,
  ◌++◌,
  Option,
  None,
  Some,
  codes,
  flat_map,
  if◌then◌else◌,
  length,
}
use Rattle.std.specs.Fmt.{decimal, signed_decimal}
use Rattle.values.specs.Rose.{Rose, node, Roses, none, more}
use Rattle.values.specs.TypeText.{type_text}
use Rattle.values.specs.declared.col_type.ColType.{ColType}
use Rattle.values.specs.declared.col_type.ColType.TheVariants as stored
use Rattle.schema_meta.specs.Entry.{Entry}
use Rattle.schema_meta.specs.declared.encoding.DictionaryEncoding.{DictionaryEncoding}
use Rattle.feed.specs.Events.{Event, batch, dictionary, ended, schema}

-- a type whose text has those of its children
abbrev pub is_nested : ColType → Bool
is_nested (stored.List o) = true
is_nested stored.Struct = true
is_nested _ = false

-- The children of a struct are named, the items of a list aren't.
abbrev pub label_text : ColType → List ℕ → List ℕ
label_text stored.Struct name = name ++ codes ": "
label_text _ name = []

abbrev pub below_text : ColType → List ℕ → List ℕ
below_text s parts = if is_nested s then codes "[" ++ (parts ++ codes "]") else []

-- the parts of a type, each with a comma before it, but for the first, which has `comma`
abbrev pub parts_text : List ℕ → ColType → Roses Entry → List ℕ
parts_text comma s none = []
parts_text comma s (more (node e kids) ts) =
    comma ++ (label_text s e.name
    ++ ((type_text e.stored ++ below_text e.stored (parts_text [] e.stored kids)) ++ parts_text (codes ", ") s ts))

-- a field's type, with those of the fields below it
abbrev pub tree_text : Rose Entry → List ℕ
tree_text (node e kids) = type_text e.stored ++ below_text e.stored (parts_text [] e.stored kids)

abbrev pub newline : List ℕ
newline = 10 ∷ []

abbrev pub encoding_text : Option DictionaryEncoding → List ℕ
encoding_text None = []
encoding_text (Some c) = codes " dict=" ++ signed_decimal c.id

abbrev pub field_line : Rose Entry → List ℕ
field_line (node e kids) = codes "field "
    ++ (e.name ++ (codes " " ++ (tree_text (node e kids) ++ (encoding_text e.encoding ++ newline))))

abbrev pub fields_lines : List (Rose Entry) → List ℕ
fields_lines fields = flat_map field_line fields

abbrev pub bool_text : Bool → List ℕ
bool_text b = if b then codes "true" else codes "false"

abbrev pub count_line : ℕ → List ℕ
count_line n = codes "schema fields=" ++ (decimal n ++ newline)

abbrev pub schema_lines : List (Rose Entry) → List ℕ
schema_lines fields = count_line (length fields) ++ fields_lines fields

abbrev pub dictionary_line : ℤ → Bool → ℕ → List ℕ
dictionary_line id delta values =
    codes "dictionary id="
    ++ (signed_decimal id
    ++ (codes " delta=" ++ (bool_text delta ++ (codes " values=" ++ (decimal values ++ newline)))))

abbrev pub batch_line : ℕ → ℕ → List ℕ
batch_line rows body = codes "batch rows=" ++ (decimal rows ++ (codes " body=" ++ (decimal body ++ newline)))

abbrev pub event_lines : Event → List ℕ
event_lines (schema fields) = schema_lines fields
event_lines (dictionary id delta values) = dictionary_line id delta values
event_lines (batch columns rows body) = batch_line rows body
event_lines ended = codes "end" ++ newline

-- of what a push gave
abbrev pub given_lines : Option Event → List ℕ
given_lines None = []
given_lines (Some e) = event_lines e

abbrev pub is_end : Event → Bool
is_end ended = true
is_end (schema fields) = false
is_end (dictionary id delta values) = false
is_end (batch columns rows body) = false

-- The end mark was read, with this message or before.
abbrev pub ended_after : Bool → Option Event → Bool
ended_after before None = before
ended_after before (Some e) = is_end e
