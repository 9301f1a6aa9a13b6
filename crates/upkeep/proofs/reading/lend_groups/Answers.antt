use Rattle.std.proofs.Common.{ap, ◌∙◌, take, ℕ}
use Rattle.std.specs.Option.{unwrap_or}
use Rattle.std.proofs.lemmas.Option.{IfSome_then}
use Rattle.std.proofs.lemmas.Result.{IfOk-weaker}
use Rattle.values.specs.Limits.{max_main_rows}
use Rattle.view_lang.specs.Config.{View}
use Rattle.group_order.specs.Ranked.{ranked_rows}
use Rattle.upkeep.proofs.reading.lend_groups.Goals as goal

pub returns : goal.returns
returns c =
    let asked = c.unwrap_or.ensures ∙ ap (λ (v : View). unwrap_or v.first max_main_rows) c.view.view_is in
    let g = c.args.groups.now in
    IfOk-weaker c.first_group_rows.result _ _
    (λ found first. IfSome_then found first
    (λ made read tables side slots is.
    c.reading_law.ensures.groups tables c.args.view.now side slots g made.items is
    (λ rows k r. read rows k r
    ∙ ap (λ (m : ℕ). take m (ranked_rows g.groups.keys g.ranking rows)) asked)))
    c.first_group_rows.ensures
