use Rattle.std.proofs.Common.{drop, map}
use Rattle.std.specs.Prelude.{codes}
use denote.Shadow.{shadow}
use denote.Text.{Utf8}
use Rattle.showing.specs.Joined.{joined, joined_behind}
use Rattle.showing.specs.Tables.{dashes}
use Rattle.showing.proofs.WrittenParts.{Leaves}
use Rattle.showing.proofs.table.Table.write_rule.Given as goal

abbrev pub invariant-loop-width : goal.invariant-loop-width
invariant-loop-width g l = record {
  text : shadow (Utf8 l.cross);
  wrote : Leaves (g.W.Write.contents l.initial.out) (g.W.Write.contents l.out)
      (joined_behind l.cross (codes "-+-") (map dashes (drop l.width-index l.self.widths.items)))
      (joined (codes "-+-") (map dashes l.self.widths.items));
}
