use Rattle.std.proofs.Common.{ap, map, ◌∙◌}
use Rattle.view_lang.specs.Shifts.{row_at}
use Rattle.top_rows.proofs.FirstRows.{first-sorted}
use Rattle.top_rows.proofs.ordered.Ordered.first_of_view.Goals as goal

pub returns : goal.returns
returns c = λ rows k.
    ap (map (λ n. row_at n rows)) c.in_ok-numbers.ensures.numbers
    ∙ first-sorted c.args.self.now rows c.args.most c.first.ensures.ascending k
