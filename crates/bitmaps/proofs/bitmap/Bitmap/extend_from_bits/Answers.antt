use Rattle.std.proofs.Common.{◌∷◌, [], arith, sym, append-nil}
use Rattle.bitmaps.proofs.GatherLemmas.{all-added, bytes-added}
use Rattle.bitmaps.proofs.bitmap.Bitmap.extend_from_bits.Goals as goal

pub loop-at-init : goal.loop-at-init
loop-at-init c = record { within = omega arith; added = sym (append-nil c.args.self.now) }

pub loop-at-preserved-then-len-at-ge256 : goal.loop-at-preserved-then-len-at-ge256
loop-at-preserved-then-len-at-ge256 c = record {
  within = omega (arith, c.len-then-len-eq0.ensures, c.if-len-at-ge256.true);
  added = bytes-added c.args.bits.now c.args.self.now c.loop-at.self c.push_bytes.new.self c.block.result c.loop-at.at
      256 c.loop-at.invariant.added c.block.ensures
      (omega (arith, c.len-then-len-eq0.ensures, c.if-len-at-ge256.true)) c.in_ok-push_bytes.ensures.pushed;
}

pub loop-at-preserved-then-len-at-ge8 : goal.loop-at-preserved-then-len-at-ge8
loop-at-preserved-then-len-at-ge8 c = record {
  within = omega (arith, c.len-then-len-eq0-2.ensures, c.if-len-at-ge8.true);
  added = bytes-added c.args.bits.now c.args.self.now c.loop-at.self c.push_bytes-then-len-at-ge8.new.self
      (c.byte.result ∷ []) c.loop-at.at
      8 c.loop-at.invariant.added c.byte.ensures
      (omega (arith, c.len-then-len-eq0-2.ensures, c.if-len-at-ge8.true)) c.in_ok-push_bytes-2.ensures.pushed;
}

pub returns : goal.returns
returns c =
    all-added c.args.bits.now c.args.self.now c.loop-at.self c.loop-at.at c.loop-at.invariant.added
    (omega (arith, c.loop-at-test.false, c.len.ensures))
