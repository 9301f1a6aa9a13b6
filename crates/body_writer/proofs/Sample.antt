-- The rows of the format's own examples, as the definitions give them.
use Rattle.std.specs.Prelude.{◌≡◌, ℕ, pos, true, false, List, [], ◌∷◌, refl}
use Rattle.values.specs.Rose.{Rose, node, none, more}
use Rattle.values.specs.Datum.{Datum, null, truth, whole, text, list, structure, no_items, item}
use Rattle.values.specs.declared.layout.IntWidth.TheVariants as int
use Rattle.values.specs.declared.layout.OffsetWidth.TheVariants as offset
use Rattle.values.specs.declared.layout.Layout.{Layout}
use Rattle.values.specs.declared.layout.Layout.TheVariants.{Bool as Booleans, Int, Utf8, List as Listed, Struct}
use Rattle.array_layout.specs.declared.array.BufferRange.{BufferRange}
use Rattle.bitmaps.specs.Packed.{bytes_of}
use Rattle.body_writer.specs.Columns.{validity, truths, numbers, offsets_from, joined, items, offsets, buffers, nodes}
use Rattle.body_writer.specs.Body.{laid, ranges_from}
use Rattle.body_writer.specs.Law.{ColumnLaw}

abbrev four_times : List Datum → List Datum
four_times ds =
    truth true ∷ truth false ∷ truth true ∷ truth false ∷ truth true ∷ truth false ∷ truth true ∷ truth false ∷ ds

abbrev at : ℕ → ℕ → BufferRange
at from len = record { from = from; len = len }

pub ninth_null :
    laid (buffers (node Booleans none) (four_times (null ∷ [])))
    ≡ 255 ∷ 0 ∷ 0 ∷ 0 ∷ 0 ∷ 0 ∷ 0 ∷ 0 ∷ 85 ∷ 0 ∷ 0 ∷ 0 ∷ 0 ∷ 0 ∷ 0 ∷ 0 ∷ []
unfolding bytes_of validity truths
ninth_null = refl

ninth_ranges : ranges_from 0 (buffers (node Booleans none) (four_times (null ∷ []))) ≡ at 0 2 ∷ at 8 2 ∷ []
unfolding bytes_of validity truths
ninth_ranges = refl

no_null : laid (buffers (node Booleans none) (four_times (truth true ∷ []))) ≡ 85 ∷ 1 ∷ 0 ∷ 0 ∷ 0 ∷ 0 ∷ 0 ∷ 0 ∷ []
unfolding bytes_of validity truths
no_null = refl

abbrev pair : Rose Layout
pair = node Struct (more (node (Int int.Bits8 true) none) (more (node (Utf8 offset.Bits32) none) none))

abbrev pairs : List Datum
pairs = structure (item (whole (pos 5)) (item (text (120 ∷ [])) no_items)) ∷ null ∷ []

pair_nodes :
    nodes pair pairs ≡ record { length = 2; nulls = pos 1 } ∷ record {
      length = 2;
      nulls = pos 1;
    } ∷ record { length = 2; nulls = pos 1 } ∷ []
pair_nodes = refl

pair_ranges : ranges_from 0 (buffers pair pairs) ≡ at 0 1 ∷ at 8 1 ∷ at 16 2 ∷ at 24 1 ∷ at 32 12 ∷ at 48 1 ∷ []
unfolding bytes_of validity numbers offsets_from joined offsets
pair_ranges = refl

pair_bytes :
    buffers pair
    pairs ≡ (1 ∷ []) ∷ (1 ∷ []) ∷ (5 ∷ 0 ∷ []) ∷ (1 ∷ []) ∷ (0 ∷ 0 ∷ 0 ∷ 0 ∷ 1 ∷ 0 ∷ 0 ∷ 0 ∷ 1 ∷ 0 ∷ 0 ∷ 0 ∷ []) ∷
    (120 ∷ []) ∷ []
unfolding bytes_of validity numbers offsets_from joined offsets
pair_bytes = refl

abbrev shorts : Rose Layout
shorts = node (Listed offset.Bits32) (more (node (Int int.Bits16 true) none) none)

abbrev lists : List Datum
lists = list (item (whole (pos 2)) (item (whole (pos 3)) no_items)) ∷ list no_items ∷ []

list_nodes : nodes shorts lists ≡ record { length = 2; nulls = pos 0 } ∷ record { length = 2; nulls = pos 0 } ∷ []
unfolding items
list_nodes = refl

list_ranges : ranges_from 0 (buffers shorts lists) ≡ at 0 0 ∷ at 0 12 ∷ at 16 0 ∷ at 16 4 ∷ []
unfolding validity numbers offsets_from offsets items
list_ranges = refl

list_bytes :
    buffers shorts lists ≡ [] ∷ (0 ∷ 0 ∷ 0 ∷ 0 ∷ 2 ∷ 0 ∷ 0 ∷ 0 ∷ 2 ∷ 0 ∷ 0 ∷ 0 ∷ []) ∷ [] ∷ (2 ∷ 0 ∷ 3 ∷ 0 ∷ []) ∷ []
unfolding validity numbers offsets_from offsets items
list_bytes = refl

cited : Type 0
cited = ColumnLaw
