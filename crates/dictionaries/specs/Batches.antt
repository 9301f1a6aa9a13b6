-- The values of dictionaries after some dictionary batches (Arrow Columnar Format, "Dictionary Messages").
use Rattle.std.specs.Prelude.{ℤ, Bool, not, if◌then◌else◌, List, [], ◌∷◌, Option, None, Some, filter, flat_map}
use Rattle.std.specs.List.{list_any}
use Rattle.std.specs.Ordering.{int_eq}
use Rattle.values.specs.Datum.{Datum}

-- a dictionary batch: values for an id, which replace those before them or, in a delta, come after those
pub record DictionaryBatch : Type 0 where
  pub id : ℤ
  pub is_delta : Bool
  pub values : List Datum

abbrev pub batch : ℤ → Bool → List Datum → DictionaryBatch
batch id is_delta values = record { id = id; is_delta = is_delta; values = values }

-- a batch is of this id
abbrev pub is_of : ℤ → DictionaryBatch → Bool
is_of id b = int_eq b.id id

abbrev pub is_whole : DictionaryBatch → Bool
is_whole b = not b.is_delta

-- from the last that isn't a delta on, or from the first where all are deltas
abbrev pub since_last_whole : List DictionaryBatch → List DictionaryBatch
since_last_whole [] = []
since_last_whole (b ∷ bs) = if list_any is_whole bs then since_last_whole bs else b ∷ bs

-- the values of an id after some batches
abbrev pub dictionary_after : List DictionaryBatch → ℤ → List Datum
dictionary_after bs id = flat_map (λ b. b.values) (since_last_whole (filter (is_of id) bs))

-- those values, if the id had a batch
abbrev pub found_after : List DictionaryBatch → ℤ → Option (List Datum)
found_after bs id = if list_any (is_of id) bs then Some (dictionary_after bs id) else None
