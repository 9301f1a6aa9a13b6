use Rattle.std.proofs.Common.{drop, take}
use Rattle.values.specs.Rose.{kids_of}
use Rattle.body_writer.proofs.Rows.{Writing}
use Rattle.stream_writer.specs.ViewedRows.{views_left}
use Rattle.stream_writer.proofs.viewed_rows.write_body.Given as goal

abbrev pub invariant-loop-j : goal.invariant-loop-j
invariant-loop-j l =
    Writing l.j (kids_of (drop l.j l.layouts)) (take l.count (views_left l.rows)) l.body (kids_of l.layouts)
