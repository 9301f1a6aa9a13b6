use Rattle.std.proofs.Common.{◌∙◌, ap, sym, subst}
use Rattle.group_state.specs.Grouped.{Grouped}
use Rattle.group_state.specs.Groups.{Keeps}
use Rattle.group_state.specs.Tuples.{tuple_of}
use Rattle.group_state.proofs.Members.{keeps-put, put-needs}
use Rattle.group_state.proofs.Touched.{others-stay}
use Rattle.group_state.proofs.groups.Groups.add_to.Goals as goal

pub put_row-requires : goal.put_row-requires
put_row-requires g c =
    let own = c.requires.tuple ∙ ap (λ (x : Grouped). tuple_of x.keys (g.R.RowView.cells c.args.row.now)) (sym c.self.view_is) in
    let k = subst (λ (x : Grouped). Keeps x c.requires.rows.0) (sym c.self.view_is) c.requires.rows.1.0 in
    rw (c.as_slice.ensures.value, own)
    (put-needs c.self.inside.keys.items c.self.inside.columns.items c.self.inside.groups.entries
    c.self.inside.groups.entries (g.R.RowView.cells c.args.row.now) c.requires.rows.0 k c.requires.rows.1.1)

pub returns-clause-kept : goal.returns-clause-kept
returns-clause-kept g c = λ rows k.
    let own = c.requires.tuple ∙ ap (λ (x : Grouped). tuple_of x.keys (g.R.RowView.cells c.args.row.now)) (sym c.self.view_is) in
    let v = subst (λ (x : Grouped). Keeps x rows) (sym c.self.view_is) k in
    let here = rw (c.as_slice.ensures.value, own) at c.in_ok-put_row.ensures.here in
    let others = rw own at c.in_ok-put_row.ensures.others in
    keeps-put c.self.inside.keys.items c.self.inside.columns.items c.self.inside.groups.entries
    c.put_row.new.groups.entries (g.R.RowView.cells c.args.row.now) rows others here v

pub returns-clause-others : goal.returns-clause-others
returns-clause-others g c =
    let own = c.requires.tuple ∙ ap (λ (x : Grouped). tuple_of x.keys (g.R.RowView.cells c.args.row.now)) (sym c.self.view_is) in
    let others = rw own at c.in_ok-put_row.ensures.others in
    others-stay c.self.inside.keys.items c.args.self.now.keys (g.R.RowView.cells c.args.row.now) c.self.inside.groups.entries
    c.put_row.new.groups.entries c.args.self.now.groups (ap (λ (g : Grouped). g.keys) c.self.view_is)
    (ap (λ (g : Grouped). g.groups) c.self.view_is) others
