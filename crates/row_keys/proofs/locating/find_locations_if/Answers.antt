use Rattle.std.proofs.Common.{Option, length, ◌<◌, ℕ}
use Rattle.std.specs.Prelude.{IfSome}
use Rattle.std.proofs.lemmas.List.Elements.{All-get_or}
use Rattle.row_keys.specs.Chunks.{row_in}
use Rattle.row_keys.proofs.LocatedRows.{place_all, place_next}
use Rattle.row_keys.proofs.locating.find_locations_if.Goals as goal

pub step_if-stretch-requires-clause-kept : goal.step_if-stretch-requires-clause-kept
step_if-stretch-requires-clause-kept c =
    let K : Option ℕ → Type 0 = λ o. IfSome o (λ n. 0 < length (row_in c.args.chunks.now n)) in
    All-get_or K c.args.numbers.now c.loop-number.number-index _ c.loop-number-test.true c.requires.kept

pub loop-number-preserved : goal.loop-number-preserved
loop-number-preserved c = record {
  places =
      place_next c.args.chunks.now c.args.numbers.now c.loop-number.number-index _ c.loop-number.locations.items
      c.push.new.self.items c.place_if.result c.loop-number-test.true c.in_ok-push.ensures.items c.place_if.ensures
      c.loop-number.invariant.places;
  stretch = c.step_if-stretch.ensures.stretch;
}

pub returns : goal.returns
returns c =
    place_all c.args.chunks.now c.args.numbers.now c.loop-number.number-index c.loop-number.locations.items
    c.loop-number-test.false c.loop-number.invariant.places
