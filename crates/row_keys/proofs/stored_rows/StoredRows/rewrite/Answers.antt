use Rattle.std.proofs.Common.{ℕ, ◌-◌, ◌∙◌, List, ap, arith, drop, length, subst, sym, take}
use Rattle.values.specs.Rose.{kids_of}
use Rattle.row_keys.specs.Chunks.{AreChunks, Chunk, row_in}
use Rattle.row_keys.specs.RowsLeft.{IsHeld, IsMerged, IsPart}
use Rattle.row_keys.proofs.MergedChunks.{middle}
use Rattle.row_keys.proofs.stored_rows.StoredRows.rewrite.Goals as goal

pub merge-requires-clause-part : goal.merge-requires-clause-part
merge-requires-clause-part c =
    let cs = c.self.inside.chunks.items in
    let order = c.if-from-to.false in
    let end = c.if-to-len.false in
    let many = c.len.ensures in
    let long = c.deref.ensures.len in
    let same = ap length c.deref.ensures.value in
    let mid = middle (kids_of c.args.layouts.now) cs c.self.inside.len c.args.from c.args.to c.args.self.now
    c.self.invariant (omega arith) (omega (arith, order)) (omega (arith, end, many, long, same)) c.self.view_is
    c.requires.held in
    let P : List Chunk → Type 0 = λ xs. IsPart (take (c.args.to - c.args.from) (drop c.args.from xs)) in
    subst P (sym c.deref.ensures.value) mid.part

pub merge-requires-clause-held : goal.merge-requires-clause-held
merge-requires-clause-held c =
    let cs = c.self.inside.chunks.items in
    let order = c.if-from-to.false in
    let end = c.if-to-len.false in
    let many = c.len.ensures in
    let long = c.deref.ensures.len in
    let same = ap length c.deref.ensures.value in
    let mid = middle (kids_of c.args.layouts.now) cs c.self.inside.len c.args.from c.args.to c.args.self.now
    c.self.invariant (omega arith) (omega (arith, order)) (omega (arith, end, many, long, same)) c.self.view_is
    c.requires.held in
    λ n.
    let P : List Chunk → Type 0 =
    λ xs. IsHeld (kids_of c.args.layouts.now) (row_in (take (c.args.to - c.args.from) (drop c.args.from xs)) n) in
    subst P (sym c.deref.ensures.value) (mid.held n)

pub invariant_of-self : goal.invariant_of-self
invariant_of-self c =
    let cs = c.self.inside.chunks.items in
    let order = c.if-from-to.false in
    let end = c.if-to-len.false in
    let many = c.len.ensures in
    let long = c.deref.ensures.len in
    let same = ap length c.deref.ensures.value in
    let mid = middle (kids_of c.args.layouts.now) cs c.self.inside.len c.args.from c.args.to c.args.self.now
    c.self.invariant (omega arith) (omega (arith, order)) (omega (arith, end, many, long, same)) c.self.view_is
    c.requires.held in
    let P : List Chunk → Type 0 =
    λ xs. (low len : ℕ) → AreChunks low (take (c.args.to - c.args.from) (drop c.args.from xs)) len
    → IsMerged low (take (c.args.to - c.args.from) (drop c.args.from xs)) c.in-Ok-Some.chunk in
    (mid.replaced_by c.in-Ok-Some.chunk c.replace.new.chunks.items (subst P c.deref.ensures.value (rw c.in-Ok-Some.field-0-is at c.in-Ok-Some.ensures))
    c.replace.ensures).0

pub returns-in-Ok-Some : goal.returns-in-Ok-Some
returns-in-Ok-Some c =
    let cs = c.self.inside.chunks.items in
    let order = c.if-from-to.false in
    let end = c.if-to-len.false in
    let many = c.len.ensures in
    let long = c.deref.ensures.len in
    let same = ap length c.deref.ensures.value in
    let mid = middle (kids_of c.args.layouts.now) cs c.self.inside.len c.args.from c.args.to c.args.self.now
    c.self.invariant (omega arith) (omega (arith, order)) (omega (arith, end, many, long, same)) c.self.view_is
    c.requires.held in
    let P : List Chunk → Type 0 =
    λ xs. (low len : ℕ) → AreChunks low (take (c.args.to - c.args.from) (drop c.args.from xs)) len
    → IsMerged low (take (c.args.to - c.args.from) (drop c.args.from xs)) c.in-Ok-Some.chunk in
    (mid.replaced_by c.in-Ok-Some.chunk c.replace.new.chunks.items (subst P c.deref.ensures.value (rw c.in-Ok-Some.field-0-is at c.in-Ok-Some.ensures))
    c.replace.ensures).1
    ∙ c.self.view_is
