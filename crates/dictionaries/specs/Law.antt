-- Dictionaries to which batches are applied one after the other have the values of the definition.
use Rattle.std.specs.Prelude.{◌≡◌, ℤ, List, [], ◌∷◌, ◌++◌, Some, if◌then◌else◌, unwrap_or}
use Rattle.std.specs.Ordering.{int_eq}
use Rattle.dictionaries.specs.Batches.{DictionaryBatch, dictionary_after, found_after}
use Rattle.dictionaries.specs.Table.{Table, Takes, found, values_in}

-- each id has its values after the batches
abbrev pub HoldsAfter : List DictionaryBatch → Table → Type 0
HoldsAfter bs t = (id : ℤ) → found t id ≡ found_after bs id

abbrev pub NoneAtFirst : Type 0
NoneAtFirst = (t : Table) → t.entries ≡ [] → HoldsAfter [] t

abbrev pub TakingIsOneMore : Type 0
TakingIsOneMore = (bs : List DictionaryBatch) (b : DictionaryBatch) (old new : Table) → HoldsAfter bs old
    → Takes old new b → HoldsAfter (bs ++ b ∷ []) new

-- what an id has after one more batch
abbrev pub OneMore : Type 0
OneMore =
    (bs : List DictionaryBatch) (b : DictionaryBatch) (id : ℤ)
    → found_after (bs ++ b ∷ []) id
    ≡ (if int_eq b.id id then Some (if b.is_delta then unwrap_or (found_after bs b.id) [] ++ b.values else b.values)
    else found_after bs id)

-- The dictionary of an id that is looked up has these values.
abbrev pub ValuesAfter : Type 0
ValuesAfter = (bs : List DictionaryBatch) (t : Table) → HoldsAfter bs t → (id : ℤ)
    → values_in t id ≡ dictionary_after bs id
