-- Arrays whose slots have no byte, however many they are: bytes of width 0, of which none is null. All cells are alike.
use Rattle.std.specs.Prelude.{ℕ, Bool, false, ◌==◌, ◌&&◌, Option, None, Some}
use Rattle.values.specs.Rose.{Rose, node}
use Rattle.values.specs.declared.layout.Layout.{Layout}
use Rattle.values.specs.declared.layout.Layout.TheVariants.{FixedSizeBinary}
use Rattle.array_layout.specs.declared.array.DictionaryValues.{DictionaryValues}
use Rattle.array_layout.specs.declared.array.ArrayData.{ArrayData}

abbrev pub has_no_width : Layout → Bool
has_no_width (FixedSizeBinary w) = w == 0
has_no_width l = false

-- by the array's dictionary, the length of its validity buffer, and its layout
abbrev pub has_no_bytes_by : Option DictionaryValues → ℕ → Layout → Bool
has_no_bytes_by None bits l = (bits == 0) && has_no_width l
has_no_bytes_by (Some w) bits l = false

abbrev pub has_no_bytes : Rose ArrayData → Bool
has_no_bytes (node p kids) = has_no_bytes_by p.dictionary p.validity.len p.layout
