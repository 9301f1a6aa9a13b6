-- The parts of a store.
use Rattle.std.specs.Prelude.{
  ℕ,
  suc,
  ◌<◌,
  ◌≤◌,
  ◌^◌,
  false,
  if◌then◌else◌,
  nat_eq,
  List,
  [],
  ◌∷◌,
  get_or,
  map,
}
use Rattle.values.specs.declared.key.Key.{Key}
use Rattle.values.specs.declared.key.Key.TheVariants as key
use Rattle.row_keys.specs.Chunks.{AreChunks, stored_rows}
use Rattle.row_keys.specs.Listed.{listed}
use Rattle.row_keys.specs.Numbers.{AreDistinct, Numbered, no_row, numbered}
use Rattle.row_keys.specs.Store.{Store}
use Rattle.row_keys.specs.Stored.{IsStored, joined}
use Rattle.row_keys.specs.declared.numbers.RetainedEntry.{RetainedEntry}
use Rattle.row_keys.specs.declared.parts.RowParts.{RowParts}
use Rattle.row_keys.specs.declared.parts.StoreParts.{StoreParts}

-- the row of number n: a released one where none of these has it
abbrev pub numbered_at : List RowParts → ℕ → Numbered
numbered_at [] n = no_row
numbered_at (r ∷ rs) n = if nat_eq r.number n then numbered r.key r.is_live else numbered_at rs n

-- the rows of all numbers below `len`
abbrev pub numbers_in : List RowParts → ℕ → List Numbered
numbers_in rows len = listed (numbered_at rows) 0 len

-- Numbers rise, from `from` on and below `len`.
abbrev pub AreNumbered : ℕ → List RowParts → ℕ → Type 0
AreNumbered from [] len = from ≤ len
AreNumbered from (r ∷ rs) len = (from ≤ r.number) × AreNumbered (suc r.number) rs len

abbrev pub retracted_part : RowParts → RowParts
retracted_part r = record { number = r.number; key = r.key; is_live = false }

-- the same rows, all of them retracted
abbrev pub retracted_in : List RowParts → ℕ → List Numbered
retracted_in rows len = numbers_in (map retracted_part rows) len

-- what an entry stores of a row
abbrev pub part_of : List Key → RetainedEntry → RowParts
part_of keys k = record {
  number = k.number;
  key = get_or keys k.entry.key key.Null;
  is_live = k.entry.is_live;
}

-- the store that has these parts
abbrev pub store_with : StoreParts → Store
store_with p = record {
  table = p.table;
  slots = joined (stored_rows p.chunks.items p.appended) (numbers_in p.rows.items p.appended);
  visits = p.visits;
}

-- The rows are rows of the table or released, each with its own key, and no two live ones have the same.
pub record AreStoreParts (p : StoreParts) : Type 0 where
  pub chunks : AreChunks 0 p.chunks.items p.appended
  pub order : AreNumbered 0 p.rows.items p.appended
  pub bound : p.appended < 2 ^ 63
  pub stored : IsStored p.table (stored_rows p.chunks.items p.appended) (numbers_in p.rows.items p.appended)
  pub distinct : AreDistinct (numbers_in p.rows.items p.appended)
