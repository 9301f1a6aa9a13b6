use Rattle.std.proofs.Common.{arith, w8, Fits}
use Rattle.std.specs.Prelude.{map}
use Rattle.std.specs.Int.{bit_not}
use Rattle.std.proofs.lemmas.List.{length-map, get_or-map}
use Rattle.std.proofs.lemmas.Simd.{Each1-get_or}
use Rattle.bitmaps.proofs.BlockLemmas.{not-bits}
use Rattle.bitmaps.proofs.lanes.not_lanes.Goals as goal

pub returns : goal.returns
returns c =
    let a = c.args.a in
    let long = length-map a (bit_not w8) in
    not-bits 256 a (map (bit_not w8) a)
    (λ i below. (Each1-get_or (Fits w8) a i 0 (omega (arith, long, below)) c.fits-a.1).fits)
    (omega (arith, long, c.fits-a.0))
    (λ i below. get_or-map (bit_not w8) a i 0 0 (omega (arith, long, below)))
