use Rattle.std.proofs.Common.{drop}
use Rattle.std.specs.Prelude.{codes}
use denote.Shadow.{shadow}
use denote.Text.{Utf8}
use Rattle.showing.specs.Lines.{name_fields}
use Rattle.showing.specs.Joined.{joined, joined_behind}
use Rattle.showing.proofs.WrittenParts.{Leaves}
use Rattle.showing.proofs.csv.write_csv_names.Given as goal

abbrev pub invariant-loop-field : goal.invariant-loop-field
invariant-loop-field g l = record {
  text : shadow (Utf8 l.comma);
  wrote : Leaves (g.W.Write.contents l.initial.out) (g.W.Write.contents l.out)
      (joined_behind l.comma (codes ",") (name_fields (drop l.field-index l.fields)))
      (joined (codes ",") (name_fields l.fields));
}
