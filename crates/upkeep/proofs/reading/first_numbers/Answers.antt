use Rattle.std.proofs.Common.{ap, ◌∙◌}
use Rattle.std.specs.Option.{unwrap_or}
use Rattle.std.proofs.lemmas.Result.{IfOk-weaker}
use Rattle.values.specs.Limits.{max_main_rows}
use Rattle.view_lang.specs.Config.{View}
use Rattle.upkeep.proofs.MadeRows.{firsts_asked}
use Rattle.upkeep.proofs.reading.first_numbers.Goals as goal

pub returns : goal.returns
returns c =
    IfOk-weaker c.first_of_view.result _ _
    (λ numbers first. firsts_asked c.reading_law.ensures.first c.args.view.now c.args.order.now c.unwrap_or.result
    numbers.items (c.unwrap_or.ensures ∙ ap (λ (v : View). unwrap_or v.first max_main_rows) c.view.view_is) first)
    c.first_of_view.ensures
