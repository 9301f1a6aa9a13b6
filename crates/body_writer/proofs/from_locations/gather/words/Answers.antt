use Rattle.std.proofs.Common.{◌++◌, ◌∷◌, [], ap, ◌∙◌}
use Rattle.body_writer.specs.Runs.{slot_bytes}
use Rattle.body_writer.proofs.GatheredCells.{fits-item, maps-end, maps-next}
use Rattle.body_writer.proofs.from_locations.gather.words.Goals as goal

pub word_at-requires : goal.word_at-requires
word_at-requires c = (
  c.requires.0,
  fits-item c.requires.0 c.args.arrays.now c.args.locations.now c.loop-place.place-index _ c.requires.1
      c.loop-place-test.true,
  c.requires.2,
)

pub loop-place-preserved : goal.loop-place-preserved
loop-place-preserved c = λ t all is.
    let here = fits-item t c.args.arrays.now c.args.locations.now c.loop-place.place-index _ all c.loop-place-test.true in
    maps-next (slot_bytes t) c.args.arrays.now c.args.locations.now c.loop-place.place-index _ c.loop-place.words.items
    c.push.new.self.items _ c.loop-place-test.true
    (c.in_ok-push.ensures.items
    ∙ ap (λ w. c.loop-place.words.items ++ w ∷ []) (c.word_at.ensures t here is))
    (c.loop-place.invariant t all is)

pub returns : goal.returns
returns c = λ t all is.
    maps-end (slot_bytes t) c.args.arrays.now c.args.locations.now c.loop-place.place-index c.loop-place.words.items _
    c.loop-place-test.false (c.loop-place.invariant t all is)
