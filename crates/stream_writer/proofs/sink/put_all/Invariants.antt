use Rattle.std.proofs.Common.{◌≡◌, ◌≤◌, ◌-◌, length, take}
use Rattle.std.specs.Io.KnownBytes.{Appends}
use Rattle.stream_writer.proofs.sink.put_all.Given as goal

abbrev pub invariant-loop-written : goal.invariant-loop-written
invariant-loop-written g l = record {
  bound : l.written ≤ length l.bytes;
  bytes : Appends (g.S.Sink.sunk l.fn.sink).taken (g.S.Sink.sunk l.sink).taken (take l.written l.bytes);
  failures : (g.S.Sink.sunk l.sink).failures ≡ (g.S.Sink.sunk l.fn.sink).failures;
}

abbrev pub decreases-loop-written : goal.decreases-loop-written
decreases-loop-written g l = length l.bytes - l.written
