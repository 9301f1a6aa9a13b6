use Rattle.std.proofs.Common.{◌<◌, ◌∙◌, arith, subst, sym}
use Rattle.values.specs.Rose.{kids_of}
use Rattle.row_keys.specs.Chunks.{Chunk, IsLong}
use Rattle.row_keys.specs.RowsLeft.{IsTail}
use Rattle.row_keys.proofs.Tails.{is_there, other_default, split_done, tail_above}
use Rattle.row_keys.proofs.stored_rows.StoredRows.shed.Goals as goal

pub write_tail-requires-clause-long : goal.write_tail-requires-clause-long
write_tail-requires-clause-long c =
    let below = c.if-place-len.false in
    let many = c.len.ensures in
    let known = is_there (kids_of c.args.layouts.now) c.self.inside.chunks.items c.self.inside.len c.args.place
    c.index-chunk.result.now c.args.self.now c.self.invariant (omega arith) c.index-chunk.ensures
    (subst (λ n. c.args.place < n) c.self.inside.chunks.ok.0 (omega (arith, below, many))) c.self.view_is
    c.requires.held in
    known.long

pub write_tail-requires-clause-bound : goal.write_tail-requires-clause-bound
write_tail-requires-clause-bound c =
    let below = c.if-place-len.false in
    let many = c.len.ensures in
    let known = is_there (kids_of c.args.layouts.now) c.self.inside.chunks.items c.self.inside.len c.args.place
    c.index-chunk.result.now c.args.self.now c.self.invariant (omega arith) c.index-chunk.ensures
    (subst (λ n. c.args.place < n) c.self.inside.chunks.ok.0 (omega (arith, below, many))) c.self.view_is
    c.requires.held in
    known.bound

pub write_tail-requires-clause-held : goal.write_tail-requires-clause-held
write_tail-requires-clause-held c =
    let below = c.if-place-len.false in
    let many = c.len.ensures in
    let known = is_there (kids_of c.args.layouts.now) c.self.inside.chunks.items c.self.inside.len c.args.place
    c.index-chunk.result.now c.args.self.now c.self.invariant (omega arith) c.index-chunk.ensures
    (subst (λ n. c.args.place < n) c.self.inside.chunks.ok.0 (omega (arith, below, many))) c.self.view_is
    c.requires.held in
    known.held

pub split-requires-clause-below : goal.split-requires-clause-below
split-requires-clause-below c =
    let below = c.if-place-len.false in
    let many = c.len.ensures in
    let known = is_there (kids_of c.args.layouts.now) c.self.inside.chunks.items c.self.inside.len c.args.place
    c.index-chunk.result.now c.args.self.now c.self.invariant (omega arith) c.index-chunk.ensures
    (subst (λ n. c.args.place < n) c.self.inside.chunks.ok.0 (omega (arith, below, many))) c.self.view_is
    c.requires.held in
    let tail : IsTail c.index-chunk.result.now c.tail_start-from.result c.in-Ok-Some.tail =
    rw c.in-Ok-Some.field-0-is at c.in-Ok-Some.ensures in
    let P : Chunk → Type 0 = λ x. x.first < c.in-Ok-Some.tail.first in
    subst P (sym (other_default c.self.inside.chunks.items c.args.place c.index-chunk.result.now c.in-Ok-Some.tail known.there))
    (tail_above c.index-chunk.result.now c.in-Ok-Some.tail c.tail_start-from.result known.long (omega arith) tail)

pub split-requires-clause-long : goal.split-requires-clause-long
split-requires-clause-long c =
    let below = c.if-place-len.false in
    let many = c.len.ensures in
    let known = is_there (kids_of c.args.layouts.now) c.self.inside.chunks.items c.self.inside.len c.args.place
    c.index-chunk.result.now c.args.self.now c.self.invariant (omega arith) c.index-chunk.ensures
    (subst (λ n. c.args.place < n) c.self.inside.chunks.ok.0 (omega (arith, below, many))) c.self.view_is
    c.requires.held in
    subst IsLong
    (sym (other_default c.self.inside.chunks.items c.args.place c.index-chunk.result.now c.in-Ok-Some.tail known.there))
    known.long

pub invariant_of-self : goal.invariant_of-self
invariant_of-self c =
    let below = c.if-place-len.false in
    let many = c.len.ensures in
    let known = is_there (kids_of c.args.layouts.now) c.self.inside.chunks.items c.self.inside.len c.args.place
    c.index-chunk.result.now c.args.self.now c.self.invariant (omega arith) c.index-chunk.ensures
    (subst (λ n. c.args.place < n) c.self.inside.chunks.ok.0 (omega (arith, below, many))) c.self.view_is
    c.requires.held in
    let tail : IsTail c.index-chunk.result.now c.tail_start-from.result c.in-Ok-Some.tail =
    rw c.in-Ok-Some.field-0-is at c.in-Ok-Some.ensures in
    (split_done (kids_of c.args.layouts.now) c.self.inside.chunks.items c.split.new.chunks.items c.self.inside.len
    c.args.place c.tail_start-from.result c.index-chunk.result.now c.in-Ok-Some.tail c.split.result c.self.invariant known
    (omega arith) tail c.split.ensures.done c.split.ensures.refused).0

pub returns-in-Ok-Some : goal.returns-in-Ok-Some
returns-in-Ok-Some c =
    let below = c.if-place-len.false in
    let many = c.len.ensures in
    let known = is_there (kids_of c.args.layouts.now) c.self.inside.chunks.items c.self.inside.len c.args.place
    c.index-chunk.result.now c.args.self.now c.self.invariant (omega arith) c.index-chunk.ensures
    (subst (λ n. c.args.place < n) c.self.inside.chunks.ok.0 (omega (arith, below, many))) c.self.view_is
    c.requires.held in
    let tail : IsTail c.index-chunk.result.now c.tail_start-from.result c.in-Ok-Some.tail =
    rw c.in-Ok-Some.field-0-is at c.in-Ok-Some.ensures in
    (split_done (kids_of c.args.layouts.now) c.self.inside.chunks.items c.split.new.chunks.items c.self.inside.len
    c.args.place c.tail_start-from.result c.index-chunk.result.now c.in-Ok-Some.tail c.split.result c.self.invariant known
    (omega arith) tail c.split.ensures.done c.split.ensures.refused).1 ∙ c.self.view_is
