use Rattle.std.proofs.Common.{◌∷◌, ◌++◌, ◌∙◌, [], ap, arith, length, map, subst, sym}
use Rattle.std.proofs.lemmas.List.{length-map}
use Rattle.values.specs.Datum.{text}
use Rattle.body_writer.specs.Batch.{IsBatch, body_bytes, body_nodes, body_ranges}
use Rattle.body_writer.specs.Slots.{cell_of, cells_of}
use Rattle.body_writer.proofs.Rows.{cells_in}
use Rattle.stream_writer.specs.Coding.{AreTextCells, index_in, texts_after, values_at}
use Rattle.stream_writer.specs.DictionaryBatch.{text_layouts}
use Rattle.stream_writer.proofs.CodedRead.{part-cells}
use Rattle.stream_writer.proofs.DictionaryBodies.{dictionary-made, numbered-rows}
use Rattle.stream_writer.proofs.dictionary_batch.write_dictionary.Goals as goal

pub code_column-requires : goal.code_column-requires
code_column-requires c =
    let cells_is = ap cells_of c.deref.ensures.value ∙ c.in_ok-cells.ensures
    ∙ part-cells c.args.j (cells_in c.args.rows.now) in
    subst AreTextCells (sym cells_is) c.requires.texts

pub write_values-requires : goal.write_values-requires
write_values-requires c =
    let rows = cells_in c.args.rows.now in
    let cells_is = ap cells_of c.deref.ensures.value ∙ c.in_ok-cells.ensures ∙ part-cells c.args.j rows in
    let rows_is =
    numbered-rows c.args.j rows (cells_of c.deref.result.now) (cells_of c.deref-2.result.now) cells_is
    (ap cells_of c.deref-2.ensures.value ∙ c.in_ok-column.ensures.values) in
    subst (IsBatch text_layouts) (sym rows_is) c.requires.batch

pub returns-clause-indices : goal.returns-clause-indices
returns-clause-indices c =
    let cells_is = ap cells_of c.deref.ensures.value ∙ c.in_ok-cells.ensures
    ∙ part-cells c.args.j (cells_in c.args.rows.now) in
    c.in_ok-column.ensures.indices ∙ ap (λ cs. map (index_in (texts_after [] cs)) cs) cells_is

pub returns-clause-bytes : goal.returns-clause-bytes
returns-clause-bytes c =
    let j = c.args.j in
    let rows = cells_in c.args.rows.now in
    let cells_is = ap cells_of c.deref.ensures.value ∙ c.in_ok-cells.ensures ∙ part-cells j rows in
    let rows_is =
    numbered-rows j rows (cells_of c.deref.result.now) (cells_of c.deref-2.result.now) cells_is
    (ap cells_of c.deref-2.ensures.value ∙ c.in_ok-column.ensures.values) in
    let vs = values_at j rows in
    let body = c.in_ok-body.body in
    let count = c.len.ensures ∙ c.in_ok-column.column.values.ok.0 in
    let first = length-map c.in_ok-column.column.values.items cell_of in
    let second = ap length (c.in_ok-column.ensures.values ∙ ap (λ cs. map text (texts_after [] cs)) cells_is) in
    let third = length-map vs text in
    let fourth = length-map vs (λ t. text t ∷ []) in
    let made =
    dictionary-made j c.len.result vs body.nodes.items body.ranges.items body.bytes.items
    (omega (arith, count, first, second, third, fourth))
    (c.in_ok-body.ensures.nodes ∙ ap (body_nodes text_layouts) rows_is)
    (c.in_ok-body.ensures.ranges ∙ ap (body_ranges text_layouts) rows_is)
    (c.in_ok-body.ensures.bytes ∙ ap (body_bytes text_layouts) rows_is) in
    c.in_ok-append_dictionary.ensures.bytes ∙ ap (λ xs. c.args.bytes.now.items ++ xs) made
