-- What holds of the cells of every array.
use Rattle.std.specs.Prelude.{◌≡◌, ℕ, ◌<◌, List, Ok}
use Rattle.values.specs.Rose.{Rose}
use Rattle.values.specs.Datum.{Datum}
use Rattle.values.specs.Layouts.{weight}
use Rattle.array_layout.specs.declared.array.ArrayData.{ArrayData}
use Rattle.array_layout.specs.Placing.{layout_of}
use Rattle.array_layout.specs.Sound.{IsSound}
use Rattle.array_layout.specs.Cells.{cell, len_of}
use Rattle.arrays.specs.Weights.{weight_at}

-- the weight of a cell where it lies is that of its value
abbrev pub WeighsAsRead : Type 0
WeighsAsRead =
    (body : List ℕ) (t : Rose ArrayData) (i : ℕ) (d : Datum) → IsSound body t → i < len_of t → cell body t i ≡ Ok d
    → weight_at body t i ≡ weight (layout_of t) d
