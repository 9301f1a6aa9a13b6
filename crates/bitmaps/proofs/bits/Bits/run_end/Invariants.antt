use Rattle.std.proofs.Common.{◌≡◌, ◌-◌, ◌<◌, ◌≤◌, ℕ, length, get_or}
use Rattle.std.specs.Prelude.{false}
use Rattle.bitmaps.proofs.bits.Bits.run_end.Given as goal

abbrev pub invariant-loop-end : goal.invariant-loop-end
invariant-loop-end l = record {
  past : l.from < l.end;
  within : l.end ≤ length l.self;
  same : (k : ℕ) → l.from ≤ k → k < l.end → get_or l.self k false ≡ l.first;
}

abbrev pub decreases-loop-end : goal.decreases-loop-end
decreases-loop-end l = length l.self - l.end
