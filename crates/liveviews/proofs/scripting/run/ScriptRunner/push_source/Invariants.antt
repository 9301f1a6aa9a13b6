use Rattle.std.proofs.Common.{◌≤◌}
use Rattle.liveviews.proofs.scripting.run.ScriptRunner.push_source.Given as goal

abbrev pub invariant-loop : goal.invariant-loop
invariant-loop g l = l.left ≤ l.len
