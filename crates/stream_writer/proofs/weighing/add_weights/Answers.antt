use Rattle.std.proofs.Common.{◌≡◌, ◌<◌, ◌∙◌, ◌++◌, List, ap, arith, drop, inr, length, refl, subst}
use Rattle.std.proofs.lemmas.List.{length-map}
use Rattle.arrays.specs.Checked.{CheckedColumn}
use Rattle.schema_meta.specs.Rows.{rows_in}
use Rattle.body_writer.specs.Batch.{row_weight}
use Rattle.body_writer.specs.RowRanges.{cells_in, rows_of}
use Rattle.body_writer.specs.Heavy.{layouts_in}
use Rattle.stream_writer.specs.Weights.{weights_of}
use Rattle.stream_writer.proofs.BatchRowLemmas.{weighed-each, weighed-more}
use Rattle.stream_writer.proofs.FittingLemmas.{weights-left}
use Rattle.stream_writer.proofs.RowWeights.{weights-added}
use Rattle.stream_writer.proofs.Whole.{none-left, some-left}
use Rattle.stream_writer.proofs.weighing.add_weights.Goals as goal

pub returns-then-not-is_empty : goal.returns-then-not-is_empty
returns-then-not-is_empty c = λ ls before same light known.
    let b = c.args.batch.now in
    let ws = c.args.weights.now.items in
    let next = c.push_weights.new.weights.items in
    let rows = drop c.args.from (rows_of c.args.before.now) in
    let more = some-left c.is_empty.result c.args.weights.now.len c.is_empty.ensures c.if-not-is_empty.true in
    let some : 0 < length ws = omega (arith, more) in
    let P : List CheckedColumn → Type 0 =
    λ cs. next ≡ ws ++ weights_of (layouts_in cs) (rows_in b.rows (cells_in cs)) in
    inr (weights-added ls b ws next rows same (subst P c.deref.ensures.value c.in_ok-push_weights.ensures)
    (weighed-each ls ws rows known some))

pub returns-then-heaviest-le-MAX_LIGHT_ROW : goal.returns-then-heaviest-le-MAX_LIGHT_ROW
returns-then-heaviest-le-MAX_LIGHT_ROW c = λ ls before same light known.
    let ws = c.args.weights.now.items in
    let zero = none-left c.is_empty.result c.args.weights.now.len c.is_empty.ensures c.if-not-is_empty.false in
    let none : length ws ≡ 0 = omega (arith, zero) in
    weighed-more ls ws (drop c.args.from (rows_of c.args.before.now)) _ c.args.heaviest known none
    c.if-heaviest-le-MAX_LIGHT_ROW.true light

pub split_off-requires : goal.split_off-requires
split_off-requires c =
    let ls = c.requires.alike.0 in
    let many = ap length (c.in_ok-all.ensures ls c.requires.alike.1)
    ∙ length-map (rows_of c.args.before.now) (row_weight ls) in
    let place = c.requires.place in
    omega (arith, many, place)

pub returns : goal.returns
returns c = λ ls before same light known.
    let b = c.args.batch.now in
    let all = rows_of c.args.before.now in
    let rows = drop c.args.from all in
    let ws = c.in_ok-weights.field-0.items in
    let next = c.push_weights-2.new.weights.items in
    let P : List CheckedColumn → Type 0 =
    λ cs. next ≡ ws ++ weights_of (layouts_in cs) (rows_in b.rows (cells_in cs)) in
    inr (weights-added ls b ws next rows same (subst P c.deref-2.ensures.value c.in_ok-push_weights-2.ensures)
    (c.in_ok-weights.ensures.tail
    ∙ weights-left ls c.args.from all rows c.in_ok-all.all.items (c.in_ok-all.ensures ls before) refl))
