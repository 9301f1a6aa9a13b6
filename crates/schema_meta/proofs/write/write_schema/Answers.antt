use Rattle.std.proofs.Common.{◌≡◌, ℕ, ◌-◌, ◌<◌, length, arith, sym, subst}
use Rattle.std.specs.Prelude.{Vec}
use Rattle.std.specs.declared.alloc.Global.{Global}
use Rattle.std.proofs.lemmas.Result.{IfOk-weaker}
use Rattle.values.specs.Limits.{max_metadata_size}
use Rattle.flatbuf.specs.Tree.{Nodes, table}
use Rattle.flatbuf.specs.Written.{up, object_end, IsWritable}
use Rattle.flatbuf.specs.Built.{slots}
use Rattle.schema_meta.specs.declared.header.MessageKind.TheVariants as kind
use Rattle.schema_meta.specs.MessageTree.{message_slots}
use Rattle.schema_meta.proofs.SchemaFits.{schema-end, schema-writable, up8-le}
use Rattle.schema_meta.proofs.write.write_schema.Goals as goal

pub write_message-requires : goal.write_message-requires
write_message-requires c =
    let P : Nodes → Type 0 = λ s. IsWritable (message_slots kind.Schema s 0) in
    subst P (sym c.in_ok-table.ensures)
    (schema-writable c.args.coded.now c.args.schema.now.fields.items c.requires)

pub returns-clause-size : goal.returns-clause-size
returns-clause-size c =
    let E : Nodes → Type 0 = λ s. object_end 4 (table (message_slots kind.Schema s 0)) < max_metadata_size - 8 in
    let end =
    subst E (sym c.in_ok-table.ensures) (schema-end c.args.coded.now c.args.schema.now.fields.items c.requires) in
    let at : ℕ = object_end 4 (table (message_slots kind.Schema (slots c.in_ok-table.table) 0)) in
    let fill = up8-le at in
    let P : Vec ℕ Global → Type 0 = λ bytes. length bytes.items ≡ up 8 at in
    let Q : Vec ℕ Global → Type 0 = λ bytes. length bytes.items < max_metadata_size in
    IfOk-weaker c.write_message.result P Q (λ bytes same. omega (arith, same, fill, end)) c.write_message.ensures.size
