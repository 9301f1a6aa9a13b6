use Rattle.std.proofs.Common.{◌≡◌, ◌<◌, ap, arith, length, suc}
use Rattle.row_keys.specs.Chunks.{Chunk}
use Rattle.row_keys.proofs.ChunkedRows.{chunk_read, lies_in, lies_nowhere, lies_past}
use Rattle.row_keys.proofs.stored_rows.chunk_of.Goals as goal

pub returns-in_err-place : goal.returns-in_err-place
returns-in_err-place c =
    let none : c.count_from.result ≡ 0 = omega (arith, c.in_err-place.ensures) in
    rw c.from_residual.ensures
    (lies_nowhere c.args.chunks.now c.args.number c.count_from.result c.count_from.ensures.parted none)

pub bounds-chunks-place : goal.bounds-chunks-place
bounds-chunks-place c =
    let at = c.in_ok-place.ensures in
    let within = c.count_from.ensures.within in
    omega (arith, at, within)

pub returns-then-number-chunk : goal.returns-then-number-chunk
returns-then-number-chunk c =
    let at = c.in_ok-place.ensures in
    let within = c.count_from.ensures.within in
    let next : c.count_from.result ≡ suc c.in_ok-place.place = omega (arith, at) in
    let below : c.in_ok-place.place < length c.args.chunks.now = omega (arith, at, within) in
    let there = chunk_read c.args.chunks.now c.in_ok-place.place c.index-chunks-place.result c.index-chunks-place.is
    below in
    let first = ap (λ (x : Chunk). x.first) c.chunk.view_is in
    let many = ap (λ (x : Chunk). x.span) c.chunk.view_is in
    let inside = c.if-number-chunk.true in
    lies_in c.args.chunks.now c.requires.0 c.args.number c.count_from.result c.in_ok-place.place
    c.index-chunks-place.result c.requires.1 c.count_from.ensures.parted next there
    (omega (arith, first, many, inside))

pub returns-else-number-chunk : goal.returns-else-number-chunk
returns-else-number-chunk c =
    let at = c.in_ok-place.ensures in
    let within = c.count_from.ensures.within in
    let next : c.count_from.result ≡ suc c.in_ok-place.place = omega (arith, at) in
    let below : c.in_ok-place.place < length c.args.chunks.now = omega (arith, at, within) in
    let there = chunk_read c.args.chunks.now c.in_ok-place.place c.index-chunks-place.result c.index-chunks-place.is
    below in
    let first = ap (λ (x : Chunk). x.first) c.chunk.view_is in
    let many = ap (λ (x : Chunk). x.span) c.chunk.view_is in
    let past = c.if-number-chunk.false in
    lies_past c.args.chunks.now c.requires.0 c.args.number c.count_from.result c.in_ok-place.place
    c.index-chunks-place.result c.requires.1 c.count_from.ensures.parted next there
    (omega (arith, first, many, past))
