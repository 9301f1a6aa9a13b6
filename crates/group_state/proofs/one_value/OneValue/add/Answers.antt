use Rattle.std.proofs.Common.{◌∙◌, ap, arith, subst, sym}
use Rattle.group_state.specs.Counts.{put_times}
use Rattle.group_state.specs.OneValue.{CanTake}
use Rattle.group_state.proofs.FewValues.{Entries}
use Rattle.group_state.proofs.OneValue.{put_more}
use Rattle.group_state.proofs.one_value.OneValue.add.Goals as goal

pub returns-else-self-eq0 : goal.returns-else-self-eq0
returns-else-self-eq0 c =
    put_more c.args.key c.self.inside.key c.self.inside.count c.args.times (omega arith)
    (subst (λ (es : Entries). CanTake c.args.key es) (sym c.self.view_is) c.requires.alone)
    ∙ ap (λ (es : Entries). put_times c.args.key c.args.times es) c.self.view_is
