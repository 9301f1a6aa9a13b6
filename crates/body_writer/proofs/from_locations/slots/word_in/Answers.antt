use Rattle.std.proofs.Common.{◌≢◌, length, subst, sym, ◌∙◌}
use Rattle.std.specs.Option.{MatchOption}
use Rattle.std.specs.Array.{IsWholeChunk}
use Rattle.body_writer.proofs.GatheredCells.{slot-missing, slot-room, slot-there, slot-zeros}
use Rattle.body_writer.proofs.from_locations.slots.word_in.Goals as goal

pub returns-then-is_null_at : goal.returns-then-is_null_at
returns-then-is_null_at c = λ l slot is.
    slot-zeros l 8 _ is (slot-missing l c.args.array.now c.args.i slot (sym c.is_null_at.ensures ∙ c.if-is_null_at.true))

pub fixed-requires : goal.fixed-requires
fixed-requires c = slot-room c.requires.0 c.args.array.now c.args.i 8 c.requires.1 c.requires.2

pub unwrap-requires : goal.unwrap-requires
unwrap-requires c = c.as_array.ensures.variant.1 c.fixed.ensures.size

pub returns : goal.returns
returns c = λ l slot is.
    let whole = subst (λ o. MatchOption o (length c.fixed.result.now ≢ 8) (λ y. IsWholeChunk c.fixed.result.now y.now 8))
    c.unwrap.ensures c.as_array.ensures.cases in
    whole.same ∙ c.fixed.ensures.value
    ∙ slot-there l c.args.array.now c.args.i 8 slot is (sym c.is_null_at.ensures ∙ c.if-is_null_at.false)
