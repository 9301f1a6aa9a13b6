use Rattle.std.proofs.Common.{map, take}
use Rattle.view_lang.specs.Config.{tables_of}
use Rattle.session.specs.Shows.{ShowsEach}
use Rattle.session.specs.Steps.{opened}
use Rattle.session.proofs.session.open_feeds.Given as goal

abbrev pub invariant-loop-plan : goal.invariant-loop-plan
invariant-loop-plan l =
    ShowsEach (tables_of l.config) l.links.items (map (opened (tables_of l.config)) (take l.plan-index l.config.feeds))
