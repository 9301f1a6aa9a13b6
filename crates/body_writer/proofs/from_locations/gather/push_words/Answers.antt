use Rattle.std.proofs.Common.{◌++◌, ap, ◌∙◌}
use Rattle.std.specs.List.{flat_map}
use Rattle.std.proofs.lemmas.List.Folds.{flat_map-map}
use Rattle.body_writer.specs.Runs.{slot_bytes}
use Rattle.body_writer.specs.Locations.{located_cells}
use Rattle.body_writer.proofs.from_locations.gather.push_words.Goals as goal

pub returns : goal.returns
returns c = λ l fits is.
    c.in_ok-extend_from_slice.ensures.items
    ∙ ap (λ bs. c.args.out.now.items ++ bs)
    (c.as_flattened.ensures.value
    ∙ ap (flat_map (λ x. x)) (c.deref.ensures.value ∙ c.in_ok-words.ensures l fits is)
    ∙ flat_map-map (λ x. x) (slot_bytes l) (located_cells c.args.arrays.now c.args.locations.now))
