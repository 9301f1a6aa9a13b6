-- Runs of consecutive rows of a batch.
use Rattle.std.specs.Prelude.{ℕ, zero, suc, ◌+◌, ◌-◌, List, [], ◌∷◌}
use Rattle.body_writer.specs.declared.from_locations.cells.RowRun.{RowRun}
use Rattle.body_writer.specs.declared.from_locations.location.RowLocation.{RowLocation}

-- the locations of n rows of a batch, from this row on
abbrev pub run_places : ℕ → ℕ → ℕ → List RowLocation
run_places batch from zero = []
run_places batch from (suc n) = (record { batch = batch; row = from }) ∷ run_places batch (from + 1) n

abbrev pub places_in : RowRun → List RowLocation
places_in r = run_places r.batch r.from (r.to - r.from)
