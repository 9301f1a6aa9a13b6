use Rattle.std.proofs.Common.{◌≡◌, ◌∙◌, List, ap, arith, length, subst, sym}
use Rattle.std.specs.Prelude.{IfOk, Vec}
use Rattle.std.specs.declared.alloc.Global.{Global}
use Rattle.std.proofs.lemmas.List.{length-map}
use Rattle.values.specs.Datum.{Datum}
use Rattle.body_writer.specs.Slots.{cells_of}
use Rattle.body_writer.proofs.Rows.{cells_in}
use Rattle.stream_writer.specs.Coding.{cells_shown, indices_at}
use Rattle.stream_writer.proofs.CodedRead.{part-cells}
use Rattle.stream_writer.proofs.IndexedBodies.{indices-found, place-none, place-some}
use Rattle.stream_writer.proofs.coded_batch.column_shown.Goals as goal

pub returns-in-Some : goal.returns-in-Some
returns-in-Some c =
    let coded = c.args.coded.now in
    let columns = c.args.columns.now in
    let rows = cells_in c.args.rows.now in
    let j = c.args.j in
    let place = c.in-Some.place in
    let there = place-some j place coded (sym c.in-Some.ensures) in
    let many = ap length c.requires in
    let first = length-map columns (λ (column : Vec Datum Global). column.items) in
    let second = length-map coded (λ k. indices_at k rows) in
    let found =
    indices-found coded rows columns j place c.index-columns-place.result c.requires
    (omega (arith, many, first, second, there.0)) there.0 there.1 in
    let shown =
    c.deref.ensures.value ∙ ap (λ (column : Vec Datum Global). column.items) c.index-columns-place.is ∙ found
    ∙ ap (λ b. cells_shown b j rows) (sym there.2) in
    subst (λ (cs : List Datum). IfOk c.refs_of.result (λ cells. cells_of cells.items ≡ cs)) shown c.refs_of.ensures

pub returns-in-None : goal.returns-in-None
returns-in-None c =
    let rows = cells_in c.args.rows.now in
    let j = c.args.j in
    let none = place-none j c.args.coded.now (sym c.in-None.ensures) in
    let shown = part-cells j rows ∙ ap (λ b. cells_shown b j rows) (sym none) in
    subst (λ (cs : List Datum). IfOk c.column_cells.result (λ cells. cells_of cells.items ≡ cs)) shown
    c.column_cells.ensures
