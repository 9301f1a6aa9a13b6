use Rattle.std.proofs.Common.{inl, inr, refl}
use Rattle.liveviews.specs.Program.{line_of}
use Rattle.liveviews.proofs.program.commands.recast.run.Goals as goal

pub returns-in-Ok-clause-done : goal.returns-in-Ok-clause-done
returns-in-Ok-clause-done g c = λ zero. record {
  path = c.in-Some.recast.from.now;
  text = line_of c.in_ok-written.written;
  comes = inr (inl (c.in_ok-written.written, c.in_ok-written.ensures, refl));
  printed = c.in-Ok.ensures.bytes;
}
