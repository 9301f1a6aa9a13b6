-- How many values dictionaries have.
use Rattle.std.specs.Prelude.{ℕ, ℤ, ◌<◌, ◌≤◌, List, Option, None, Some}
use Rattle.std.specs.Ordering.{int_eq}
use Rattle.values.specs.Limits.{max_dictionary_values}
use Rattle.indexmap.specs.IndexMap.{insert_entry}
use Rattle.messages.specs.declared.counts.Count.{Count}
use Rattle.schema_meta.specs.declared.header.Header.{Header}
use Rattle.schema_meta.specs.declared.header.Header.TheVariants as header
use Rattle.schema_meta.specs.DictionaryBatch.{count_after}

-- the counts where one of them is set
abbrev pub counted : List (ℤ × ℕ) → Option Count → List (ℤ × ℕ)
counted counts None = counts
counted counts (Some c) = insert_entry int_eq counts c.id c.values

-- After a batch its dictionary has no more values than it may have.
abbrev pub IsCounted : List (ℤ × ℕ) → Header → Type 0
IsCounted counts header.Schema = Unit {0}
IsCounted counts (header.Dictionary d) = count_after counts d.id d.is_delta d.batch.rows ≤ max_dictionary_values
IsCounted counts (header.Batch b) = Unit {0}
IsCounted counts header.End = Unit {0}

-- There is capacity to set a count, if one is to be set: for `room` more ids no memory is taken.
abbrev pub HasRoom : Option Count → ℕ → Type 0
HasRoom None room = Unit {0}
HasRoom (Some c) room = 0 < room
