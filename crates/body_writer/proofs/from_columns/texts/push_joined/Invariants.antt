use Rattle.std.proofs.Common.{◌≡◌, ◌++◌, drop}
use Rattle.body_writer.specs.Columns.{joined}
use Rattle.body_writer.specs.Texts.{bytes_cells}
use Rattle.body_writer.proofs.from_columns.texts.push_joined.Given as goal

abbrev pub invariant-loop-text : goal.invariant-loop-text
invariant-loop-text l =
    l.out.items ++ joined (bytes_cells (drop l.text-index l.texts)) ≡ l.fn.out.items ++ joined (bytes_cells l.texts)
