use Rattle.std.proofs.Common.{ap, ◌∙◌}
use Rattle.body_writer.specs.Runs.{slot_bytes}
use Rattle.body_writer.proofs.from_locations.slots.word_at.Goals as goal

pub word_in-requires : goal.word_in-requires
word_in-requires c = (c.requires.0, (c.in-Some.ensures c.requires.0 c.requires.1).slot, c.requires.2)

pub returns-in-Some : goal.returns-in-Some
returns-in-Some c = λ l fits is.
    let there = c.in-Some.ensures l fits in c.word_in.ensures l there.slot is ∙ ap (slot_bytes l) there.holds
