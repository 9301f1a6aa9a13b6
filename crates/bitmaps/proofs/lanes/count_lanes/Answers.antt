use Rattle.std.proofs.Common.{w8, Fits}
use Rattle.std.proofs.lemmas.Simd.{Each1-get_or}
use Rattle.bitmaps.proofs.CountLemmas.{count_words}
use Rattle.bitmaps.proofs.lanes.count_lanes.Goals as goal

pub returns-clause-value : goal.returns-clause-value
returns-clause-value c =
    let lanes = c.args.lanes in
    count_words lanes c.fits-lanes.0 (λ i below. (Each1-get_or (Fits w8) lanes i 0 below c.fits-lanes.1).fits)
