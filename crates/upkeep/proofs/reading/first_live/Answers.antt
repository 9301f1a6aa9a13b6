use Rattle.std.proofs.Common.{ap, ◌∙◌}
use Rattle.std.specs.Option.{unwrap_or}
use Rattle.std.proofs.lemmas.Result.{IfOk-weaker}
use Rattle.values.specs.Limits.{max_main_rows}
use Rattle.view_lang.specs.Config.{View}
use Rattle.upkeep.specs.StoreLaws.{rows_there}
use Rattle.upkeep.specs.Stores.{rows_at, rows_in}
use Rattle.upkeep.proofs.EachRow.{live_asked}
use Rattle.upkeep.proofs.reading.first_live.Goals as goal

pub returns : goal.returns
returns c =
    IfOk-weaker c.first_live_numbers.result _ _
    (λ numbers first. live_asked c.reading_law.ensures.live c.args.view.now (rows_at (rows_in c.args.stores.now) 0)
    c.index-stores-0.result.slots c.unwrap_or.result numbers.items
    (rows_there c.args.stores.now 0 c.index-stores-0.result c.index-stores-0.is c.requires)
    (c.unwrap_or.ensures ∙ ap (λ (v : View). unwrap_or v.first max_main_rows) c.view.view_is) first)
    c.first_live_numbers.ensures
