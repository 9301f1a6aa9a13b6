-- A row of the main table that is visited.
use Rattle.std.proofs.Common.{◌≡◌, ℕ, ◌<◌, List, ap, arith, get_or, length, sym, ◌∙◌}
use Rattle.std.specs.Prelude.{slice_set}
use Rattle.values.specs.Datum.{Datum}
use Rattle.row_keys.specs.Slots.{Slot, row_of}
use Rattle.row_keys.specs.Store.{Store, visited}
use Rattle.upkeep.specs.StoreLaws.{rows_there, set_same, tables_length}
use Rattle.upkeep.specs.Stores.{Rows, rows_at, rows_in, tables_in}

module _ (stores now : List Store) (s s' read : Store) (n visit : ℕ) (row : List Datum) (is : s ≡ get_or stores 0 s)
    (main : 0 < length stores) (counted : s' ≡ visited 1 s) (set : now ≡ slice_set stores 0 s')
    (at : read ≡ get_or now 0 read) (number : visit ≡ n) (here : row ≡ row_of read.slots visit) where
  now_tables : tables_in now ≡ tables_in stores
  now_tables =
      ap tables_in set
      ∙ set_same (λ (x : Store). x.table) stores 0 s s' is (ap (λ (x : Store). x.table) counted)

  now_rows : rows_in now ≡ rows_in stores
  now_rows =
      ap rows_in set ∙ set_same (λ (x : Store). x.slots) stores 0 s s' is (ap (λ (x : Store). x.slots) counted)

  pub row_is : row ≡ row_of (rows_at (rows_in stores) 0) n
  row_is =
      let before = tables_length stores in
      let after = tables_length now in
      let same = ap length now_tables in
      let below : 0 < length now = omega (arith, main, before, after, same) in
      here ∙ ap (row_of read.slots) number
      ∙ ap (λ (ss : List Slot). row_of ss n) (sym (rows_there now 0 read at below))
      ∙ ap (λ (rs : Rows). row_of (rows_at rs 0) n) now_rows
