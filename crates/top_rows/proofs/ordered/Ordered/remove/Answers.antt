use Rattle.std.proofs.Common.{refl, ap, ◌∙◌, List}
use Rattle.std.specs.Prelude.{false}
use Rattle.top_rows.proofs.InsertedKeys.{any-remove_key}
use Rattle.top_rows.proofs.OneRow.{stands-entry}
use Rattle.top_rows.specs.EntryOrder.{RowEntry, entry_total}
use Rattle.top_rows.specs.Places.{place_of, stands}
use Rattle.top_rows.proofs.ordered.Ordered.remove.Goals as goal

pub returns-clause-order_entries : goal.returns-clause-order_entries
returns-clause-order_entries g c = λ p.
    let entry = place_of c.as_slice.result.now c.args.number (g.R.RowView.cells c.args.row.now) in
    stands-entry false c.remove.new.self entry p
    (record { order = c.self.inside.order.items; order_entries = c.self.inside.order_entries }) c.args.self.now
    c.as_slice.result.now c.args.number (g.R.RowView.cells c.args.row.now)
    (ap (λ (es : List RowEntry). stands es p) c.in_ok-remove.ensures.ok
    ∙ any-remove_key entry_total entry p c.self.inside.order_entries c.ascending_law.ensures)
    refl c.as_slice.ensures.value c.self.view_is
