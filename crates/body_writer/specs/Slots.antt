-- What a cell gives to the buffers of its column. A null gives zeros, or nothing.
use Rattle.std.specs.Prelude.{
  ℕ,
  ℤ,
  pos,
  ◌+◌,
  Bool,
  true,
  false,
  if◌then◌else◌,
  List,
  [],
  ◌∷◌,
  get_or,
  length,
  map,
  replicate,
  Option,
  None,
  Some,
}
use denote.Ref.{Bor}
use Rattle.std.specs.Int.{w128}
use Rattle.byteorder.specs.Endian.{low_bytes}
use Rattle.values.specs.Datum.{Datum, null, truth, whole, text, bytes, list, structure, Items, no_items, item}

abbrev pub is_valid : Datum → Bool
is_valid null = false
is_valid _ = true

abbrev pub null_count : List Datum → ℕ
null_count [] = 0
null_count (c ∷ cs) = (if is_valid c then 0 else 1) + null_count cs

abbrev pub truth_in : Datum → Bool
truth_in (truth b) = b
truth_in _ = false

abbrev pub whole_in : Datum → ℤ
whole_in (whole z) = z
whole_in _ = pos 0

-- the low w bytes of a number, in two's complement
abbrev pub number_in : ℕ → Datum → ℕ
number_in w c = low_bytes w128 w (whole_in c)

abbrev pub fixed_in : ℕ → Datum → List ℕ
fixed_in w (bytes b) = b
fixed_in w _ = replicate w 0

abbrev pub bytes_in : Datum → List ℕ
bytes_in (text t) = t
bytes_in (bytes b) = b
bytes_in _ = []

abbrev pub listed : Items → List Datum
listed no_items = []
listed (item d es) = d ∷ listed es

abbrev pub items_in : Datum → List Datum
items_in (list es) = listed es
items_in _ = []

-- what a struct holds for child j: for a null, null
abbrev pub part : ℕ → Datum → Datum
part j (structure es) = get_or (listed es) j null
part j _ = null

-- how many bytes or items there are
abbrev pub length_in : Datum → ℕ
length_in (text t) = length t
length_in (bytes b) = length b
length_in (list es) = length (listed es)
length_in _ = 0

-- how many bytes or items all cells have
abbrev pub total_length : List Datum → ℕ
total_length [] = 0
total_length (c ∷ cs) = length_in c + total_length cs

-- the cell that a reference is to, or null where there is none
abbrev pub cell_of : Option (Bor Datum) → Datum
cell_of None = null
cell_of (Some value) = value.now

abbrev pub cells_of : List (Option (Bor Datum)) → List Datum
cells_of cells = map cell_of cells
