use Rattle.std.proofs.Common.{◌≡◌, [], drop}
use denote.Shadow.{shadow}
use denote.Text.{Utf8}
use Rattle.showing.specs.Tables.{IsLine, name_slots}
use Rattle.showing.proofs.Bars.{Begun}
use Rattle.showing.proofs.table.Table.write_names.Given as goal

abbrev pub invariant-loop-place : goal.invariant-loop-place
invariant-loop-place g l = record {
  text : shadow (Utf8 l.bar);
  same : l.self.widths.items ≡ l.initial.self.widths.items;
  begun : Begun (g.W.Write.contents l.initial.out) (g.W.Write.contents l.out) l.gap l.bar
      (name_slots l.initial.self.widths.items l.place (drop l.place l.fields))
      (IsLine 0 [] (name_slots l.initial.self.widths.items 0 l.fields));
}
