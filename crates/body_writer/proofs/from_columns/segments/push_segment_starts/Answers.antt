use Rattle.std.proofs.Common.{◌++◌, ap, sym, arith, ◌∙◌}
use Rattle.std.specs.Prelude.{map}
use Rattle.body_writer.specs.Slots.{length_in, total_length}
use Rattle.body_writer.specs.Columns.{offsets_from}
use Rattle.body_writer.specs.Segments.{segment_cells}
use Rattle.body_writer.proofs.NullLemmas.{nulls-lengths, nulls-total}
use Rattle.body_writer.proofs.from_columns.segments.push_segment_starts.Goals as goal

pub returns-in_ok-push_same-in-Nulls-clause-end : goal.returns-in_ok-push_same-in-Nulls-clause-end
returns-in_ok-push_same-in-Nulls-clause-end c =
    let none = ap (λ p. total_length (segment_cells p)) c.in-Nulls.is ∙ nulls-total c.in-Nulls.count in
    omega (arith, none)

pub returns-in_ok-push_same-in-Nulls-clause-bytes : goal.returns-in_ok-push_same-in-Nulls-clause-bytes
returns-in_ok-push_same-in-Nulls-clause-bytes c = λ rest.
    let same = ap (λ p. map length_in (segment_cells p)) c.in-Nulls.is ∙ nulls-lengths c.in-Nulls.count in
    c.in_ok-push_same-in-Nulls.ensures rest
    ∙ ap (λ ns. c.args.out.now.items ++ offsets_from c.args.wanted c.args.start (ns ++ rest)) (sym same)
