use Rattle.std.proofs.Common.{get_or, subst, sym}
use Rattle.row_keys.specs.Chunks.{LiesAt}
use Rattle.row_keys.proofs.LocatedRows.{places_all, places_next}
use Rattle.row_keys.proofs.locating.find_locations.Goals as goal

pub loop-number-preserved : goal.loop-number-preserved
loop-number-preserved c =
    let cs = c.args.chunks.now in
    let numbers = c.args.numbers.now in
    let i = c.loop-number.number-index in
    let n = get_or numbers i 0 in
    let s = c.step-stretch.result in
    let at : LiesAt cs n s.chunk c.row_of.result =
    subst (λ k. LiesAt cs n s.chunk k) (sym c.row_of.ensures) (c.step-stretch.ensures.0.lies n c.step-stretch.ensures.1) in
    record {
      places =
          places_next cs numbers i c.loop-number.locations.items c.push.new.self.items _ c.loop-number-test.true
          c.in_ok-push.ensures.items at c.loop-number.invariant.places;
      stretch = c.step-stretch.ensures.0;
    }

pub returns : goal.returns
returns c =
    places_all c.args.chunks.now c.args.numbers.now c.loop-number.number-index c.loop-number.locations.items
    c.loop-number-test.false c.loop-number.invariant.places
