use Rattle.std.specs.Option.{option_map}
use Rattle.feed.specs.declared.condition.Condition.TheVariants as condition
use Rattle.std.proofs.Common.{None}
use Rattle.feed.proofs.FeedLemmas.{open-shows}
use Rattle.feed.proofs.feed.Feed.open.Goals as goal

pub returns-clause-shown : goal.returns-clause-shown
returns-clause-shown c =
    open-shows c.batches_law.ensures.none (option_map (λ s. s.fields.items) c.args.declared) c.open.result c.new.result
    None condition.Opened
    c.open.ensures.current c.new.ensures
