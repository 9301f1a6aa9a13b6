-- The stream that is written of a view of the tables of a session.
use Rattle.std.specs.Prelude.{ℕ, List}
use Rattle.upkeep.specs.LiveParts.{LiveParts, view_at}
use Rattle.upkeep.specs.Stores.{rows_in, tables_in, world_of}
use Rattle.session.specs.Steps.{IsReadAsView, stream_of}

-- the canonical stream of the view at an index
abbrev pub stream_at : LiveParts → ℕ → List ℕ
stream_at t place = stream_of (tables_in t.stores) (view_at t.views place) (world_of (rows_in t.stores))

-- That stream is read as what the view shows.
abbrev pub IsReadBack : LiveParts → ℕ → Type 0
IsReadBack t place =
    IsReadAsView (tables_in t.stores) (view_at t.views place) (world_of (rows_in t.stores)) (stream_at t place)
