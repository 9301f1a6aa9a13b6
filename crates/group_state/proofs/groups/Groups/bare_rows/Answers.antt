use Rattle.std.proofs.Common.{ap, ◌∙◌, List, [], ◌∷◌, ◌++◌}
use Rattle.std.specs.Prelude.{Vec}
use Rattle.std.specs.declared.alloc.Global.{Global}
use Rattle.values.specs.Datum.{Datum}
use Rattle.view_lang.specs.Cells.{rows_of}
use Rattle.group_state.specs.Grouped.{Grouped}
use Rattle.group_state.proofs.GroupLaw.{bare-read}
use Rattle.group_state.proofs.Seen.{seen-read}
use Rattle.group_state.proofs.groups.Groups.bare_rows.Goals as goal

pub returns : goal.returns
returns c = λ rows k r.
    let own = ap (λ (s : Grouped). s.columns) c.self.view_is in
    bare-read c.args.self.now c.args.outputs.now rows k r _ _ _ _ c.in_ok-read_row.field-0.items _
    (c.as_slice.ensures.value ∙ own) (c.as_slice-2.ensures.value ∙ own) c.none.ensures
    c.in_ok-none.ensures
    (seen-read _ c.args.outputs.now _ c.in_ok-read_row.field-0.items c.in_ok-read_row.ensures)
    c.requires
    (ap rows_of c.in_ok-push.ensures.items
    ∙ ap (λ (l : List (Vec Datum Global)). rows_of (l ++ c.in_ok-read_row.field-0 ∷ [])) c.new-made.ensures.items)
