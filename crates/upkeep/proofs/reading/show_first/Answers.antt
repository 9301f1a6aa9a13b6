use Rattle.upkeep.specs.ViewStates.{ShowsEach}
use Rattle.upkeep.proofs.EachRow.{order_is_plain}
use Rattle.upkeep.proofs.reading.show_first.Goals as goal

pub show_numbers-requires-clause-view : goal.show_numbers-requires-clause-view
show_numbers-requires-clause-view c = c.requires.kept.viewed.view

pub show_numbers-requires-clause-plain : goal.show_numbers-requires-clause-plain
show_numbers-requires-clause-plain c =
    order_is_plain (ShowsEach c.args.view.now) c.args.view.now.outputs c.args.view.now.order c.args.order.now _
    c.requires.kept.kept

pub show_numbers-requires-clause-shown : goal.show_numbers-requires-clause-shown
show_numbers-requires-clause-shown c = c.in_ok-numbers.ensures _ _ _ c.requires.kept
