use Rattle.std.proofs.Common.{◌∙◌, sym}
use Rattle.scenario_tests.proofs.Shelves.{placed}
use Rattle.scenario_tests.proofs.shelf.ShelfFiles.place.Goals as goal

pub returns-in-Some-clause-content : goal.returns-in-Some-clause-content
returns-in-Some-clause-content c = λ bytes taken.
    placed c.args.path.now c.args.self.now.input.now bytes (sym c.eq.ensures ∙ c.if-eq.true)
