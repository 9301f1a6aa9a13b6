use Rattle.std.proofs.Common.{None, take, refl, arith}
use Rattle.messages.specs.State.{known_of}
use Rattle.messages.proofs.Streams.{fresh_stream}
use Rattle.messages.proofs.stream.Framer.open.Goals as goal

pub invariant_of-result : goal.invariant_of-result
invariant_of-result c =
    record {
      within = omega arith;
      stream =
          fresh_stream (known_of (record { declared = c.args.declared; schema = None; counts = c.new-2.result }))
          (take 0 c.new-3.result.items) refl tt;
      ready = tt;
    }
