-- The live rows of a store by their numbers, and the changes in which rows are deleted and inserted.
use Rattle.std.specs.Prelude.{ℕ, suc, if◌then◌else◌, List, [], ◌∷◌, Option, None, Some, get_or, map}
use Rattle.values.specs.Datum.{Datum}
use Rattle.view_lang.specs.Shifts.{NumberedRows, Shift, shift}
use Rattle.row_keys.specs.Slots.{Slot, no_slot, row_of}

-- the live rows by their numbers, where n is the first slot's
abbrev pub numbered_from : ℕ → List Slot → NumberedRows
numbered_from n [] = []
numbered_from n (s ∷ ss) = if s.live then (n, s.row) ∷ numbered_from (suc n) ss else numbered_from (suc n) ss

abbrev pub numbered : List Slot → NumberedRows
numbered slots = numbered_from 0 slots

-- a row, if it is live
abbrev pub live_row : Slot → Option (List Datum)
live_row s = if s.live then Some s.row else None

-- the live row of a number, if there is one
abbrev pub live_at : List Slot → ℕ → Option (List Datum)
live_at slots n = live_row (get_or slots n no_slot)

-- The rows of these numbers that are live are deleted.
abbrev pub gone : List Slot → List ℕ → List Shift
gone slots ns = map (λ n. shift n (live_at slots n) None) ns

-- The rows of these numbers are inserted.
abbrev pub come : List Slot → List ℕ → List Shift
come slots ns = map (λ n. shift n None (Some (row_of slots n))) ns
