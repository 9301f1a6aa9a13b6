use Rattle.std.proofs.Common.{◌≡◌, ◌++◌, Bool, List, OnOk, sym, subst}
use Rattle.std.specs.Prelude.{map}
use Rattle.body_writer.specs.Slots.{is_valid}
use Rattle.body_writer.specs.Segments.{segment_cells}
use Rattle.body_writer.specs.declared.from_columns.segment.Segment.{Segment}
use Rattle.body_writer.proofs.NullLemmas.{nulls-map}
use Rattle.body_writer.proofs.from_columns.segments.push_segment_validity.Goals as goal

pub returns-in-Nulls : goal.returns-in-Nulls
returns-in-Nulls c =
    let P : List Bool → Type 0 = λ bs. OnOk c.push_clear.result (c.push_clear.new.bits ≡ c.args.valid.now ++ bs) in
    let Q : Segment → Type 0 = λ p. P (map is_valid (segment_cells p)) in
    subst Q (sym c.in-Nulls.is) (subst P (sym (nulls-map is_valid c.in-Nulls.count)) c.push_clear.ensures)
