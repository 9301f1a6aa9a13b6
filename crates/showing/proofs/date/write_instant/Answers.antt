use mir.Syntax.{w128}
use Rattle.std.proofs.Common.{rules, FitsSigned, ◌∙◌}
use Rattle.std.proofs.lemmas.Int.{to_z-of_z}
use Rattle.showing.specs.Dates.{scale_of}
use Rattle.showing.proofs.Calendar.{instant-written}
use Rattle.showing.proofs.date.write_instant.Goals as goal

pub returns : goal.returns
returns g c =
    let same = to_z-of_z w128 c.args.time c.ranges.time in
    let fits : FitsSigned w128 c.day_of.result = search rules in
    instant-written c.write_clock.result _ _ _ _ (scale_of c.args.unit) c.args.time _ _ c.in_ok-write_date.ensures
    c.in_ok-write_all.ensures.bytes c.write_clock.ensures
    (to_z-of_z w128 c.day_of.result fits ∙ rw same at c.day_of.ensures)
    (rw same at c.time_of_day.ensures)
