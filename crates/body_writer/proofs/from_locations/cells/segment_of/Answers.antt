use Rattle.std.proofs.Common.{◌-◌, length, refl, ◌∙◌}
use Rattle.std.proofs.lemmas.Option.{slice_get_past, slice_get_read}
use Rattle.body_writer.proofs.RowRuns.{run-cells, run-column, run-nulls}
use Rattle.body_writer.proofs.from_locations.cells.segment_of.Goals as goal

pub slots_in-requires : goal.slots_in-requires
slots_in-requires c =
    let bs = c.args.batches.now in
    let r = c.args.run in
    let at = c.in-Some.ensures.lookup in
    let there = slice_get_read bs (length bs) r.batch c.in-Some.batch.now refl at.3.0 at.1 in
    run-column c.args.j bs r.batch r.from r.to c.in-Some.batch.now there c.requires.rows c.requires.have

pub returns-in-Some-clause-cells : goal.returns-in-Some-clause-cells
returns-in-Some-clause-cells c =
    let bs = c.args.batches.now in
    let r = c.args.run in
    let at = c.in-Some.ensures.lookup in
    let there = slice_get_read bs (length bs) r.batch c.in-Some.batch.now refl at.3.0 at.1 in
    c.slots_in.ensures.cells
    ∙ run-cells c.args.j bs r.batch r.from r.to c.in-Some.batch.now there c.requires.rows c.requires.have

pub returns-in-None-clause-cells : goal.returns-in-None-clause-cells
returns-in-None-clause-cells c =
    let bs = c.args.batches.now in
    let r = c.args.run in
    run-nulls c.args.j bs r.batch r.from (r.to - r.from) (slice_get_past bs r.batch c.in-None.ensures.lookup.3)
