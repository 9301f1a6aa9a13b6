use Rattle.std.proofs.Common.{ap, ◌∙◌, take}
use Rattle.group_state.specs.Grouped.{Grouped}
use Rattle.group_state.specs.Aggregates.{seen_row}
use Rattle.group_state.proofs.GroupLaw.{all-read}
use Rattle.group_state.proofs.GroupReadings.{take-map}
use Rattle.group_state.proofs.Seen.{all-seen}
use Rattle.group_state.proofs.groups.Groups.first_rows.Goals as goal

pub returns : goal.returns
returns c = λ rows k r.
    let shown = seen_row c.as_slice.result.now c.args.outputs.now in
    c.in_ok-rows_of_first.ensures.read
    ∙ take-map shown c.args.most c.self.inside.groups.entries
    ∙ ap (take c.args.most)
    (all-read c.args.self.now c.args.outputs.now rows k r c.group_law.ensures.ask c.group_law.ensures.ascending
    c.group_law.ensures.of_rows _ _ _ (c.as_slice.ensures.value ∙ ap (λ (s : Grouped). s.columns) c.self.view_is)
    (ap (λ (s : Grouped). s.groups) c.self.view_is) c.in_ok-rows_of_first.ensures.ordered
    (all-seen c.as_slice.result.now c.args.outputs.now c.self.inside.groups.entries)
    c.requires)
