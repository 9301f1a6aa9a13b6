use Rattle.liveviews.proofs.SourceLemmas.{inspects-file}
use Rattle.liveviews.proofs.program.commands.inspect.inspect_file.Goals as goal

pub returns-in-Ok-clause-complete : goal.returns-in-Ok-clause-complete
returns-in-Ok-clause-complete g c =
    inspects-file _ _ _ c.in-Ok.inspected.status c.in_ok-input.ensures.content c.in-Ok.ensures
