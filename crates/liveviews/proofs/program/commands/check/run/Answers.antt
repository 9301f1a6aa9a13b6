use Rattle.std.proofs.Common.{inr, refl}
use Rattle.liveviews.specs.Program.{counts_of}
use Rattle.liveviews.proofs.program.commands.check.run.Goals as goal

pub returns-in-Ok-clause-done : goal.returns-in-Ok-clause-done
returns-in-Ok-clause-done g c =
    let counts = c.in_ok-feeds.ensures in
    λ zero. record {
      path = c.in-Some.config.now;
      text = counts_of c.in_ok-feeds.feeds c.in_ok-feeds.views;
      comes = inr (inr (counts.sunk, (c.in_ok-feeds.feeds, c.in_ok-feeds.views, counts.counts, refl)));
      printed = c.in-Ok.ensures.bytes;
    }
