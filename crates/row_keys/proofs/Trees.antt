-- A table's layouts hold the rows of its store.
use Rattle.std.proofs.Common.{◌≡◌, inl, inr, suc, ◌≤◌, All, List, get_or, ap, refl, sym, subst, ◌∙◌, arith}
use Rattle.values.specs.Datum.{Datum, items_of}
use Rattle.values.specs.Layouts.{AreLayouts, HoldsEach}
use Rattle.values.specs.Limits.{max_fields}
use Rattle.values.specs.Rose.{Rose, node, Roses, none, more, kids_of, rose_size, roses_size}
use Rattle.view_lang.specs.Causes.{layouts_of}
use Rattle.view_lang.specs.Config.{Table}
use Rattle.view_lang.specs.TableRules.{IsTable}
use Rattle.row_keys.specs.RowsLeft.{IsHeld}
use Rattle.row_keys.specs.Stored.{IsRight}
use Rattle.values.specs.declared.layout.Layout.{Layout}
use Rattle.values.specs.Logical.{NamedType, tree_of, trees_of}

mutual
  tree_size : (f : Rose NamedType) → rose_size (tree_of f) ≡ rose_size f
  tree_size (node f kids) = ap suc (trees_size kids)

  trees_size : (fs : Roses NamedType) → roses_size (trees_of fs) ≡ roses_size fs
  trees_size none = refl
  trees_size (more f fs) = let here = tree_size f in let rest = trees_size fs in omega (arith, here, rest)

pub held_rows : (t : Table) (rows : List (List Datum)) (ls : Roses Layout) → All (IsRight t) rows → ls ≡ layouts_of t
    → All (IsHeld ls) rows
held_rows t rows ls right is k d below = elim (right k d below) [
  | inl gone ↦ inl gone
  | inr row ↦ inr (subst (λ us. HoldsEach us (items_of (get_or rows k d))) (sym is) row.held)
]

pub narrow_trees : (t : Table) (ls : Roses Layout) → IsTable t → ls ≡ layouts_of t → roses_size ls ≤ max_fields
narrow_trees t ls table is =
    let small = table.columns.small in
    let same = ap roses_size is ∙ trees_size (kids_of t.columns) in
    omega (arith, small, same)

pub sound_trees : (t : Table) (ls : Roses Layout) → IsTable t → ls ≡ layouts_of t → AreLayouts ls
sound_trees t ls table is = subst AreLayouts (sym is) table.columns.layouts
