use mir.Syntax.{w128}
use Rattle.std.proofs.Common.{sym, ap, ◌∙◌, ◌+◌}
use Rattle.std.proofs.lemmas.Int.{to_z-of_z}
use Rattle.showing.specs.Dates.{date_after, date_back}
use Rattle.showing.proofs.Calendar.{civil-back, civil-after}
use Rattle.showing.proofs.date.civil.Goals as goal

pub returns-then-is_negative : goal.returns-then-is_negative
returns-then-is_negative c =
    let same = to_z-of_z w128 c.args.days c.ranges.days in
    let sign = rw same at c.is_negative.ensures in
    let away = rw same at c.unsigned_abs.ensures.value in
    civil-back c.args.days _ (sym sign ∙ c.if-is_negative.true) (c.date_back.ensures ∙ ap date_back away)

pub returns-else-is_negative : goal.returns-else-is_negative
returns-else-is_negative c =
    let same = to_z-of_z w128 c.args.days c.ranges.days in
    let sign = rw same at c.is_negative.ensures in
    let away = rw same at c.unsigned_abs-else-is_negative.ensures.value in
    civil-after c.args.days _ (sym sign ∙ c.if-is_negative.false)
    (c.date_after.ensures ∙ ap (λ n. date_after (n + 719468)) away)
