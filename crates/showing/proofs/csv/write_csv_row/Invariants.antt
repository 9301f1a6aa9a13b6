use Rattle.std.proofs.Common.{drop}
use Rattle.std.specs.Prelude.{codes}
use denote.Shadow.{shadow}
use denote.Text.{Utf8}
use Rattle.showing.specs.Lines.{row_fields}
use Rattle.showing.specs.Joined.{joined, joined_behind}
use Rattle.showing.proofs.WrittenParts.{Leaves}
use Rattle.showing.proofs.csv.write_csv_row.Given as goal

abbrev pub invariant-loop-column : goal.invariant-loop-column
invariant-loop-column g l = record {
  text : shadow (Utf8 l.comma);
  wrote : Leaves (g.W.Write.contents l.initial.out) (g.W.Write.contents l.out)
      (joined_behind l.comma (codes ",") (row_fields l.fields (drop l.column-index l.columns) l.row))
      (joined (codes ",") (row_fields l.initial.fields l.columns l.row));
}
