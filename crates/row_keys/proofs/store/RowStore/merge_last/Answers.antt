use Rattle.std.proofs.Common.{◌≤◌, List, sym, subst}
use Rattle.values.specs.Limits.{max_fields}
use Rattle.values.specs.Rose.{Rose, kids_of, roses_size}
use Rattle.values.specs.declared.layout.Layout.{Layout}
use Rattle.row_keys.proofs.Trees.{narrow_trees}
use Rattle.row_keys.proofs.store.RowStore.merge_last.Goals as goal

pub merge_last-requires-clause-narrow : goal.merge_last-requires-clause-narrow
merge_last-requires-clause-narrow c =
    let P : List (Rose Layout) → Type 0 = λ ts. roses_size (kids_of ts) ≤ max_fields in
    subst P (sym c.deref.ensures.value)
    (narrow_trees c.self.inside.table (kids_of c.in-Ok.layouts.items) c.self.invariant.table c.in-Ok.ensures)
