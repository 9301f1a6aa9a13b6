-- The columns of a batch are of the types that were declared for its feed.
use Rattle.std.proofs.Common.{◌≡◌, ℕ, Option, Some, List, map, ap, sym, subst, ◌∙◌}
use Rattle.values.specs.Logical.{NamedType, trees_of}
use Rattle.values.specs.Rose.{Rose, Roses, none, more, kids_of}
use Rattle.values.specs.declared.layout.Layout.{Layout}
use Rattle.arrays.specs.Checked.{CheckedColumn}
use Rattle.schema_meta.specs.Entry.{Entry}
use Rattle.schema_meta.specs.Logical.{logical_field}
use Rattle.schema_meta.specs.LogicalLaw.{LogicalTrees, NarrowHolds, NarrowWeighs, narrow_trees}
use Rattle.feed.specs.Columns.{layouts_in}
use Rattle.feed.specs.Retained.{retained_of}
use Rattle.feed.specs.Shown.{HasColumns}
use Rattle.feed.specs.States.{FeedState, retained_in}
use Rattle.row_keys.specs.Batches.{AreAlike}
use Rattle.session.proofs.Declared.{declared_known}

module _ (trees : LogicalTrees) (holds : NarrowHolds) (weighs : NarrowWeighs) where
  narrow_alike : (ls : Roses Layout) → AreAlike (narrow_trees ls) ls
  narrow_alike none = tt
  narrow_alike (more t ts) = (record { holds = holds t; weighs = weighs t }, narrow_alike ts)

  pub batch_alike :
      (s : FeedState) (columns : List (Rose NamedType)) (fields : List (Rose Entry)) (cs : List CheckedColumn)
      (rows : ℕ)
      → s.declared ≡ Some columns → (retained_in s).known.schema ≡ Some fields → HasColumns fields cs rows
      → AreAlike (trees_of (kids_of columns)) (layouts_in cs)
  batch_alike s columns fields cs rows declared known has =
      let at : (retained_of (Some columns) s.bytes).known.schema ≡ Some fields =
      subst (λ (o : Option (List (Rose NamedType))). (retained_of o s.bytes).known.schema ≡ Some fields) declared
      known in
      let same : map logical_field fields ≡ columns = declared_known columns s.bytes fields at in
      let lie : trees_of (kids_of columns) ≡ narrow_trees (layouts_in cs) =
      ap (λ (xs : List (Rose NamedType)). trees_of (kids_of xs)) (sym same) ∙ trees fields
      ∙ ap narrow_trees (sym has.0) in
      subst (λ (ts : Roses Layout). AreAlike ts (layouts_in cs)) (sym lie) (narrow_alike (layouts_in cs))
