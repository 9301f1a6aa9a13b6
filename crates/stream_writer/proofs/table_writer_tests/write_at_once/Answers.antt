use Rattle.std.proofs.Common.{List, arith, subst, sym}
use Rattle.std.specs.Prelude.{Vec, map}
use Rattle.std.specs.declared.alloc.Global.{Global}
use Rattle.values.specs.Datum.{Datum}
use Rattle.stream_writer.specs.Table.{IsTable}
use Rattle.stream_writer.proofs.PlainRows.{plain-table}
use Rattle.stream_writer.proofs.table_writer_tests.write_at_once.Goals as goal

pub write_table-requires : goal.write_table-requires
write_table-requires g c =
    let fs = c.in_ok-schema.schema.fields.items in
    let rows = c.in_ok-rows.rows.items in
    let many = c.in_ok-rows.ensures.many in
    let few = c.requires in
    subst (λ (rs : List (Vec Datum Global)). IsTable fs (map (λ (row : Vec Datum Global). row.items) rs))
    (sym c.deref.ensures.value)
    (plain-table fs rows c.in_ok-schema.ensures c.in_ok-rows.ensures.rows (omega (arith, many, few)))
