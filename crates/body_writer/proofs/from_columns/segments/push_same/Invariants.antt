use Rattle.std.proofs.Common.{◌≡◌, ◌++◌, List, ℕ}
use Rattle.std.specs.Prelude.{replicate}
use Rattle.body_writer.specs.Columns.{offsets_from}
use Rattle.body_writer.proofs.from_columns.segments.push_same.Given as goal

abbrev pub invariant-loop : goal.invariant-loop
invariant-loop l = (rest : List ℕ) → l.out.items ++ offsets_from l.width l.offset rest
    ≡ l.fn.out.items ++ offsets_from l.width l.offset (replicate l.counter 0 ++ rest)
