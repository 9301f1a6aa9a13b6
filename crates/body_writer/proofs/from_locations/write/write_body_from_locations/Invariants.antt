use Rattle.std.proofs.Common.{List, drop}
use Rattle.values.specs.Datum.{Datum}
use Rattle.values.specs.Rose.{kids_of}
use Rattle.body_writer.proofs.Rows.{Writing}
use Rattle.body_writer.specs.Locations.{MakeBatch}
use Rattle.body_writer.proofs.from_locations.write.write_body_from_locations.Given as goal

abbrev pub invariant-loop-j : goal.invariant-loop-j
invariant-loop-j l = (rows : List (List Datum)) → MakeBatch (kids_of l.layouts) l.columns rows
    → Writing l.j (kids_of (drop l.j l.layouts)) rows l.body (kids_of l.layouts)
