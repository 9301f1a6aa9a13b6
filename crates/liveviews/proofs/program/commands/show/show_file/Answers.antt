use Rattle.liveviews.proofs.Shows.{shows-file}
use Rattle.liveviews.proofs.program.commands.show.show_file.Goals as goal

pub returns-in-Ok-clause-valid : goal.returns-in-Ok-clause-valid
returns-in-Ok-clause-valid g c = λ zero.
    shows-file (g.F.Files.content c.args.files.now) _ _ _ c.in_ok-input.ensures.content c.in-Ok.ensures
