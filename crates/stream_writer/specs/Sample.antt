-- A table whose stream is known from outside: two columns of whole numbers, `k` and `v`. And two columns for tables
-- without rows: texts, and lists of texts.
use Rattle.std.specs.Prelude.{ℕ, List, [], ◌∷◌, pos, true}
use Rattle.values.specs.Datum.{Datum, null, text, whole}
use Rattle.values.specs.Rose.{Rose, more, node, none}
use Rattle.values.specs.declared.layout.IntWidth.TheVariants as int
use Rattle.values.specs.declared.layout.OffsetWidth.TheVariants as offset
use Rattle.values.specs.Logical.{NamedType, item_name}
use Rattle.values.specs.declared.col_type.ColType.TheVariants as stored

abbrev pub sample_field : ℕ → Rose NamedType
sample_field letter = node (record { name = letter ∷ []; col_type = stored.Int int.Bits64 true }) none

abbrev pub sample_fields : List (Rose NamedType)
sample_fields = sample_field 107 ∷ sample_field 118 ∷ []

abbrev pub sample_rows : List (List Datum)
sample_rows =
    (whole (pos 1) ∷ whole (pos 10) ∷ []) ∷ (whole (pos 2) ∷ null ∷ []) ∷ (whole (pos 3) ∷ whole (pos 30) ∷ []) ∷ []

abbrev pub text_field : List ℕ → Rose NamedType
text_field name = node (record { name = name; col_type = stored.Utf8 offset.Bits32 }) none

abbrev pub text_fields : List (Rose NamedType)
text_fields =
    text_field (116 ∷ []) ∷ node (record { name = 108 ∷ []; col_type = stored.List offset.Bits32 })
    (more (text_field item_name) none) ∷ []

-- One column `c` of texts, whose stream with a dictionary is known from outside.

abbrev pub coded_sample_fields : List (Rose NamedType)
coded_sample_fields = text_field (99 ∷ []) ∷ []

abbrev pub coded_sample_rows : List (List Datum)
coded_sample_rows = (text (98 ∷ []) ∷ []) ∷ (null ∷ []) ∷ (text (98 ∷ []) ∷ []) ∷ (text (97 ∷ []) ∷ []) ∷ []
