use Rattle.std.proofs.Common.{ℕ, ◌<◌, ◌^◌, ◌∙◌, List, arith, ap, sym, subst}
use Rattle.flatbuf.specs.Tree.{Nodes, table}
use Rattle.flatbuf.specs.Written.{IsWritable, object_end, whole}
use Rattle.flatbuf.specs.Built.{slots}
use Rattle.schema_meta.specs.declared.header.MessageKind.TheVariants as kind
use Rattle.schema_meta.specs.MessageTree.{message_slots}
use Rattle.schema_meta.proofs.SchemaFits.{up8-le}
use Rattle.stream_writer.specs.Batch.{batch_slots}
use Rattle.stream_writer.specs.DictionaryBatch.{dictionary_slots}
use Rattle.stream_writer.proofs.BatchFits.{dictionary-end, dictionary-writable}
use Rattle.stream_writer.proofs.messages.dictionary_metadata.Goals as goal

pub write_message-requires : goal.write_message-requires
write_message-requires c =
    let body = c.args.body.now in
    let P : Nodes → Type 0 = λ s. IsWritable (message_slots kind.Dictionary s c.len.result) in
    subst P (sym c.in_ok-header.ensures)
    (dictionary-writable c.args.id c.args.count c.len.result body.nodes.items body.ranges.items c.requires.nodes
    c.requires.ranges
    c.ranges.id.fits c.ranges.count.fits c.len.type_inv)

pub returns-clause-bytes : goal.returns-clause-bytes
returns-clause-bytes c =
    let F : Nodes → List ℕ = λ s. whole (message_slots kind.Dictionary s c.len.result) in
    let G : ℕ
    → List ℕ =
    λ n. whole
    (message_slots kind.Dictionary (dictionary_slots c.args.id
    (batch_slots c.args.count c.args.body.now.nodes.items c.args.body.now.ranges.items)) n) in
    c.in_ok-bytes.ensures.bytes ∙ ap F c.in_ok-header.ensures ∙ ap G (c.len.ensures ∙ c.args.body.now.bytes.ok.0)

pub returns-clause-size : goal.returns-clause-size
returns-clause-size c =
    let body = c.args.body.now in
    let E : Nodes → Type 0 = λ s. object_end 4 (table (message_slots kind.Dictionary s c.len.result)) < 2 ^ 17 in
    let end =
    subst E (sym c.in_ok-header.ensures)
    (dictionary-end c.args.id c.args.count c.len.result body.nodes.items body.ranges.items c.requires.nodes
    c.requires.ranges) in
    let at : ℕ = object_end 4 (table (message_slots kind.Dictionary (slots c.in_ok-header.header) c.len.result)) in
    let fill = up8-le at in
    let size = c.in_ok-bytes.ensures.size in
    omega (arith, size, fill, end)
