use Rattle.std.proofs.Common.{◌++◌, ◌∙◌, ◌∷◌, [], ap}
use Rattle.body_writer.proofs.LocatedColumns.{cells-end, cells-step, placed-item}
use Rattle.body_writer.proofs.from_locations.cells.copies_at.Goals as goal

pub copy_cell-requires : goal.copy_cell-requires
copy_cell-requires c =
    let have = c.requires in (
      have.width,
      have.below,
      placed-item have.width c.args.batches.now c.args.locations.now c.loop-place.place-index _
          have.placed c.loop-place-test.true,
    )

pub loop-place-preserved : goal.loop-place-preserved
loop-place-preserved c =
    cells-step c.args.j c.args.batches.now c.args.locations.now c.loop-place.place-index _ c.loop-place.cells.items c.push.new.self.items _
    c.loop-place-test.true
    (c.in_ok-push.ensures.items ∙ ap (λ d. c.loop-place.cells.items ++ d ∷ []) c.in_ok-copy_cell.ensures)
    c.loop-place.invariant

pub returns : goal.returns
returns c =
    cells-end c.args.j c.args.batches.now c.args.locations.now c.loop-place.place-index c.loop-place.cells.items _ c.loop-place-test.false
    c.loop-place.invariant
