use Rattle.std.proofs.Common.{take}
use Rattle.showing.specs.Tables.{AreNameWidths}
use Rattle.showing.proofs.table.Table.new.Given as goal

abbrev pub invariant-loop-field : goal.invariant-loop-field
invariant-loop-field l = AreNameWidths (take l.field-index l.fields) l.widths.items
