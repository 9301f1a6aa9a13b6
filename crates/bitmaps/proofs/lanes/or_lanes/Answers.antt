use Rattle.std.proofs.Common.{arith, bit_or}
use Rattle.std.proofs.lemmas.Simd.{length-zip2, get_or-zip2}
use Rattle.std.specs.Simd.Lanes.{zip2}
use Rattle.bitmaps.proofs.BlockLemmas.{or-bits}
use Rattle.bitmaps.proofs.lanes.or_lanes.Goals as goal

pub returns : goal.returns
returns c =
    let a = c.args.a in
    let b = c.args.b in
    let long = length-zip2 bit_or a b (omega (arith, c.fits-a.0, c.fits-b.0)) in
    or-bits 256 a b (zip2 bit_or a b) (omega (arith, long, c.fits-a.0))
    (λ i below. get_or-zip2 bit_or a b i 0 0 0 (omega (arith, long, below)) (omega (arith, long, below, c.fits-a.0, c.fits-b.0)))
