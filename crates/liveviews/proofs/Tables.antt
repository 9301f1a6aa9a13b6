-- The table at the end of a stream.
use Rattle.std.proofs.Common.{◌≡◌, ℕ, ◌<◌, ◌≤◌, Bool, true, false, Option, None, Some, Ok, Err, List, [], ◌∷◌, length, map, refl, ap, sym, subst, ◌∙◌, arith, append-nil}
use Rattle.std.specs.Prelude.{if◌then◌else◌, ◌==◌}
use Rattle.std.specs.Option.{option_map}
use Rattle.std.proofs.lemmas.Bool.{eqb-true}
use Rattle.values.specs.Limits.{max_row_weight}
use Rattle.values.specs.Datum.{Datum, items_of}
use Rattle.values.specs.Layouts.{AreLayouts, HoldsEach, row_weight}
use Rattle.values.specs.Reading.{FailsWith, Reading, one}
use Rattle.values.specs.Rose.{Rose, Roses}
use Rattle.values.specs.declared.layout.Layout.{Layout}
use Rattle.values.specs.declared.faults.StreamFault.TheVariants as fault
use Rattle.values.specs.declared.causes.Cause.TheVariants as cause
use Rattle.values.specs.Logical.{NamedType}
use Rattle.schema_meta.specs.Entry.{Entry}
use Rattle.schema_meta.specs.FieldLayouts.{layouts_of}
use Rattle.schema_meta.specs.FieldsLaw.{AreFields, ColumnsFit}
use Rattle.schema_meta.specs.Logical.{logical_field}
use Rattle.schema_meta.specs.LogicalLaw.{
  LogicalTrees,
  NarrowFits,
  NarrowHoldsEach,
  NarrowRowWeighs,
  logical_trees,
  narrow_trees,
}
use Rattle.schema_meta.specs.Story.{Story, story, ends, at_input_end, at_end_mark}
use Rattle.schema_meta.specs.Means.{Means}
use Rattle.stream_writer.specs.Table.{IsRow, IsTable}
use Rattle.feed.specs.Retained.{Retained, retained, retained_of}
use Rattle.feed.specs.Shown.{FeedParts, Shows}
use Rattle.feed.specs.States.{FeedState, fresh, retained_in}
use Rattle.feed.specs.StoryLaw.{IsBetween, rest_story}
use Rattle.liveviews.specs.Taken.{AreAccepted, IsAcceptedRow}
use Rattle.liveviews.specs.Buffered.{IsBuffered, IsBufferedSo}
use Rattle.liveviews.specs.declared.recasting.buffered_batches.BufferedBatches.{BufferedBatches}
use Rattle.liveviews.specs.Steps.{AreConsumedSo, IsComplete, Refuses}

-- What is known of the logical columns is handed in: it is the contract of `logical_law`.
module _ (trees : LogicalTrees) (fits : NarrowFits) (holds : NarrowHoldsEach) (weighs : NarrowRowWeighs) where
  -- rows that the columns hold as they are stored are rows of the logical columns
  pub row-fits : (fields : List (Rose Entry)) (row : List Datum) → IsAcceptedRow (layouts_of fields) row
      → IsRow (map logical_field fields) row
  row-fits fields row taken =
      let ls : Roses Layout = layouts_of fields in
      let same : logical_trees fields ≡ narrow_trees ls = trees fields in
      let P : Roses Layout → Type 0 = λ ts. HoldsEach ts (items_of row) in
      let Q : Roses Layout → Type 0 = λ ts. row_weight ts (items_of row) ≤ max_row_weight in
      let narrow : row_weight (narrow_trees ls) (items_of row) ≡ row_weight ls (items_of row) =
      weighs ls (items_of row) in
      let light : row_weight (narrow_trees ls) (items_of row) ≤ max_row_weight =
      omega (arith, narrow, taken.light.whole) in
      record { held = subst P (sym same) (holds ls (items_of row) taken.held); light = subst Q (sym same) light }

  pub table-fits :
      (columns : ColumnsFit) (fields : List (Rose Entry)) (rows : List (List Datum)) → AreFields fields
      → AreAccepted (layouts_of fields) rows
      → IsTable (map logical_field fields) rows
  table-fits columns fields rows sound taken = record {
    columns = columns fields sound;
    layouts = subst AreLayouts (sym (trees fields)) (fits (layouts_of fields) sound.layouts);
    few = taken.few;
    sound = λ k d below. row-fits fields _ (taken.each k d below);
  }

-- what was reported of a stream of these columns
complete-schema :
    (s : Story) (f : FeedParts) (rows : List (List Datum)) (o : Option (List (Rose Entry)))
    → ((t : FeedState) → Shows f t → o ≡ (retained_in t).known.schema)
    → (complete : IsComplete s f rows) → s.schema ≡ o
complete-schema s f rows o shown complete =
    ap (λ x. x.schema) complete.tells ∙ sym (shown complete.state complete.shows)

pub complete-means :
    (s : Story) (f : FeedParts) (rows cells : List (List Datum)) (fs : List (Rose Entry))
    (fields : List (Rose NamedType))
    → ((t : FeedState) → Shows f t → Some fs ≡ (retained_in t).known.schema) → fields ≡ map logical_field fs
    → cells ≡ rows → IsComplete s f rows
    → Means s fields cells
complete-means s f rows cells fs fields shown named same complete = record {
  whole = ap (λ x. x.end) complete.tells ∙ ap at_input_end (sym (shown complete.state complete.shows));
  columns = ap (option_map (λ gs. map logical_field gs)) (complete-schema s f rows (Some fs) shown complete)
      ∙ ap (λ xs. Some xs) (sym named);
  cells = ap (λ x. x.rows) complete.tells ∙ append-nil rows ∙ sym same;
}

-- what was read from it
pub complete-taken :
    (s : Story) (f : FeedParts) (rows : List (List Datum)) (fs : List (Rose Entry))
    → ((t : FeedState) → Shows f t → Some fs ≡ (retained_in t).known.schema)
    → IsComplete s f rows → AreAccepted (layouts_of fs) rows
complete-taken s f rows fs shown complete =
    subst (λ (o : Option (List (Rose Entry))). AreConsumedSo o rows) (complete-schema s f rows (Some fs) shown complete)
    complete.taken

-- what is stored with that
pub complete-kept :
    (s : Story) (f : FeedParts) (rows : List (List Datum)) (fs : List (Rose Entry)) (t : BufferedBatches)
    → ((u : FeedState) → Shows f u → Some fs ≡ (retained_in u).known.schema)
    → IsComplete s f rows → IsBufferedSo s.schema t → IsBuffered (length fs) (layouts_of fs) t
complete-kept s f rows fs t shown complete kept =
    subst (λ (o : Option (List (Rose Entry))). IsBufferedSo o t) (complete-schema s f rows (Some fs) shown complete) kept

-- without a schema there is no table
pub complete-lacks :
    (s : Story) (f : FeedParts) (rows : List (List Datum))
    → ((t : FeedState) → Shows f t → None ≡ (retained_in t).known.schema) → IsComplete s f rows
    → Refuses s cause.NoSchema
complete-lacks s f rows shown complete =
    let end : s.end ≡ Err (one fault.NoSchema) =
    ap (λ x. x.end) complete.tells ∙ ap at_input_end (sym (shown complete.state complete.shows)) in
    (fault.NoSchema, refl, subst (λ (m : Reading (Unit {0})). FailsWith m fault.NoSchema) (sym end) refl)

-- where reading begins
pub fresh-between : IsBetween (fresh None)
unfolding retained_of retained
fresh-between = record { goes_on = refl; none_held = refl }

pub taken-none : (o : Option (List (Rose Entry))) → AreConsumedSo o []
taken-none None = refl
taken-none (Some fields) = record { few = omega arith; each = λ k d below. absurd (omega (arith, below)) }

-- the end of the input, where nothing remains
pub nothing-tells : (k : Retained) (bytes : List ℕ) → length bytes ≤ 0
    → rest_story k bytes ≡ ends k.known (at_input_end k.known.schema)
unfolding story
nothing-tells k [] none = refl
nothing-tells k (b ∷ bs) none = absurd (omega (arith, none))

abbrev mark_by : Bool → Reading (Unit {0})
mark_by t = if t then Ok tt else Err (one fault.AfterEnd)

after-test : (n : ℕ) (t : Bool) → 0 < n → (n == 0) ≡ t → mark_by t ≡ Err (one fault.AfterEnd)
after-test n false some is = refl
after-test n true some is = let none : n ≡ 0 = eqb-true n 0 is in absurd (omega (arith, none, some))

pub after-by : (rest : List ℕ) → 0 < length rest → at_end_mark rest ≡ Err (one fault.AfterEnd)
after-by rest some = after-test (length rest) (length rest == 0) some refl
