-- The layouts of an array hold its cells.
use Rattle.std.proofs.Common.{ℕ, ◌<◌, All, List, arith, get_or, length, subst, sym}
use Rattle.std.proofs.lemmas.List.Elements.{All-from_get_or}
use Rattle.std.proofs.lemmas.Option.{get_or_from_slice_get}
use Rattle.values.specs.Datum.{Datum, null}
use Rattle.values.specs.Layouts.{Holds}
use Rattle.values.specs.Reading.{IsValid}
use Rattle.values.specs.Rose.{Rose}
use Rattle.values.proofs.Readings.{valid_Ok}
use Rattle.array_layout.specs.declared.array.ArrayData.{ArrayData}
use Rattle.array_layout.specs.Cells.{cell, cells, len_of}
use Rattle.array_layout.specs.Placing.{layout_of}
use Rattle.array_layout.specs.Sound.{IsSound}
use Rattle.array_layout.specs.Typed.{IsTyped}
use Rattle.arrays.specs.Checked.{valid_of}
use Rattle.arrays.proofs.ColumnCells.{cell-stands, cell-valid, cells-length}
use Rattle.arrays.proofs.TypeLemmas.{AreBytes, holds_cell}

pub cells_held : (b : List ℕ) (t : Rose ArrayData) → IsTyped t → AreBytes b → IsSound b t → IsValid (cells b t)
    → All (λ d. Holds (layout_of t) d) (valid_of (cells b t))
cells_held b t typed small sound valid =
    All-from_get_or (λ d. Holds (layout_of t) d) (valid_of (cells b t)) null (λ i below. held i below)
  where
    held : (i : ℕ) → i < length (valid_of (cells b t))
        → Holds (layout_of t) (get_or (valid_of (cells b t)) i null)
    held i below =
        let many = cells-length b t valid in
        let within : i < len_of t = omega (arith, below, many) in
        let read = valid_Ok (cell b t i) (cell-valid b t i valid within) in
        let stands = cell-stands b t i read.0 valid within read.1 in
        let P : Datum → Type 0 = λ d. Holds (layout_of t) d in
        subst P (sym (get_or_from_slice_get (valid_of (cells b t)) i read.0 null stands))
        (holds_cell b t i read.0 typed small sound within read.1)
