-- The weight of a cell where it lies.
use Rattle.std.specs.Prelude.{
  ◌≡◌,
  ℕ,
  zero,
  suc,
  ◌+◌,
  ◌-◌,
  ◌<◌,
  ◌≤◌,
  List,
  Option,
  None,
  Some,
  Ok,
  Err,
  if◌then◌else◌,
  nat_lt,
}
use Rattle.values.specs.Limits.{max_cell_weight}
use Rattle.values.specs.Reading.{Reading}
use Rattle.values.specs.Datum.{Datum}
use Rattle.values.specs.Rose.{Rose, node, Roses, none, more}
use Rattle.values.specs.declared.layout.OffsetWidth.{OffsetWidth}
use Rattle.values.specs.declared.layout.Layout.{Layout}
use Rattle.values.specs.declared.layout.Layout.TheVariants.{Utf8, Binary, List as Listed, Struct}
use Rattle.values.specs.Layouts.{null_weight, weight}
use Rattle.array_layout.specs.declared.array.DictionaryValues.{DictionaryValues}
use Rattle.array_layout.specs.declared.array.ArrayData.{ArrayData}
use Rattle.array_layout.specs.Placing.{bytes_of, layout_by, layouts_of}
use Rattle.array_layout.specs.Buffers.{is_null, offset_at}
use Rattle.array_layout.specs.Cells.{coded_by}

-- the sum over n numbers from i on
unfoldable pub sum_from : (ℕ → ℕ) → ℕ → ℕ → ℕ
sum_from f i zero = 0
sum_from f i (suc n) = f i + sum_from f (i + 1) n

-- how many bytes or items slot i has
abbrev pub extent : OffsetWidth → List ℕ → ℕ → ℕ
extent o offsets i = offset_at o offsets (i + 1) - offset_at o offsets i

-- A valid slot of an array of values, by layout: `here` weighs the slots of the first child, `beside` those of all
-- children at one index.
abbrev pub weight_by : Layout → List ℕ → ArrayData → ℕ → (ℕ → ℕ) → (ℕ → ℕ) → ℕ → ℕ
weight_by (Utf8 o) body p bare here beside i = 5 + extent o (bytes_of body p.offsets) i
weight_by (Binary o) body p bare here beside i = 5 + extent o (bytes_of body p.offsets) i
weight_by (Listed o) body p bare here beside i =
    5 + sum_from here (offset_at o (bytes_of body p.offsets) i) (extent o (bytes_of body p.offsets) i)
weight_by Struct body p bare here beside i = 1 + beside i
weight_by l body p bare here beside i = bare

-- A slot that is an index into a dictionary weighs what the value weighs.
abbrev pub encoded_weight : Layout → Reading Datum → ℕ
encoded_weight l (Ok d) = weight (node l none) d
encoded_weight l (Err fs) = null_weight (node l none)

-- the weight of the dictionary value to which slot i of an array of indices refers
abbrev pub indexed_weight : DictionaryValues → List ℕ → ArrayData → ℕ → ℕ
indexed_weight w body p i = encoded_weight w.layout (coded_by p.layout w.values (bytes_of body p.values) i)

-- a valid slot
abbrev pub slot_weight : Option DictionaryValues → List ℕ → ArrayData → ℕ → (ℕ → ℕ) → (ℕ → ℕ) → ℕ → ℕ
slot_weight None body p bare here beside i = weight_by p.layout body p bare here beside i
slot_weight (Some w) body p bare here beside i = indexed_weight w body p i

unfoldable pub weight_in : List ℕ → ArrayData → ℕ → (ℕ → ℕ) → (ℕ → ℕ) → ℕ → ℕ
weight_in body p bare here beside i =
    if is_null (bytes_of body p.validity) i then bare else slot_weight p.dictionary body p bare here beside i

abbrev mutual
  pub weight_at : List ℕ → Rose ArrayData → ℕ → ℕ
  weight_at body (node p kids) i =
      weight_in body p (null_weight (node (layout_by p.dictionary p.layout) (layouts_of kids)))
      (λ j. first_weight body kids j)
      (λ j. weight_beside body kids j) i

  pub first_weight : List ℕ → Roses ArrayData → ℕ → ℕ
  first_weight body none i = 0
  first_weight body (more t ts) i = weight_at body t i

  pub weight_beside : List ℕ → Roses ArrayData → ℕ → ℕ
  weight_beside body none i = 0
  weight_beside body (more t ts) i = weight_at body t i + weight_beside body ts i

-- a valid slot of an array of values that has these children
abbrev pub value_weight : List ℕ → ArrayData → Roses ArrayData → ℕ → ℕ
value_weight body p kids i =
    weight_by p.layout body p (null_weight (node p.layout (layouts_of kids))) (λ j. first_weight body kids j)
    (λ j. weight_beside body kids j) i

-- a valid list, by its items, which are slots of the first child
abbrev pub list_weight : OffsetWidth → List ℕ → ArrayData → Roses ArrayData → ℕ → ℕ
list_weight o body p kids i =
    5 + sum_from (λ j. first_weight body kids j) (offset_at o (bytes_of body p.offsets) i)
    (extent o (bytes_of body p.offsets) i)

-- a weight, exact up to the limit of a cell and 1 more where it is above
unfoldable pub capped : ℕ → ℕ
capped n = if nat_lt n (max_cell_weight + 1) then n else max_cell_weight + 1

-- r is the weight w where that is within the limit of a cell, and else above the limit, as w is
pub record Says (r w : ℕ) : Type 0 where
  pub exact : r ≤ max_cell_weight → r ≡ w
  pub heavy : max_cell_weight < r → max_cell_weight < w
  pub bound : r ≤ max_cell_weight + 1
