-- Dictionaries by id as they are at one time, and what a batch changes.
use Rattle.std.specs.Prelude.{◌≡◌, ℕ, ℤ, ◌++◌, ◌<◌, if◌then◌else◌, List, [], Option, Some, refl, unwrap_or}
use Rattle.std.specs.Coded.{Coded, code_by, coded×, coded_ℕ, coded_ℤ, coded_list}
use Rattle.std.specs.Map.{lookup}
use Rattle.std.specs.Ordering.{int_eq}
use Rattle.values.specs.Datum.{Datum, datum_code}
use Rattle.dictionaries.specs.Batches.{DictionaryBatch}

-- the values by id, and how many more ids fit without an allocation
pub record Table : Type 0 where
  pub entries : List (ℤ × List Datum)
  pub room : ℕ

abbrev pub table : List (ℤ × List Datum) → ℕ → Table
table entries room = record { entries = entries; room = room }

-- an id and all the values that it is to have
pub record Change : Type 0 where
  pub id : ℤ
  pub values : List Datum

abbrev pub change : ℤ → List Datum → Change
change id values = record { id = id; values = values }

abbrev pub table_code : Coded Table
table_code =
    code_by (List (ℤ × List Datum)
    × ℕ) (coded× (coded_list (coded× coded_ℤ (coded_list datum_code))) coded_ℕ) (λ t. (t.entries, t.room))
    (λ v. table v.0 v.1) (λ t. refl)

abbrev pub change_code : Coded Change
change_code =
    code_by (ℤ × List Datum) (coded× coded_ℤ (coded_list datum_code)) (λ c. (c.id, c.values)) (λ v. change v.0 v.1)
    (λ c. refl)

abbrev pub HasRoom : Table → Type 0
HasRoom t = 0 < t.room

-- the values of an id, if it had a batch
abbrev pub found : Table → ℤ → Option (List Datum)
found t id = lookup (int_eq id) t.entries

-- the values of an id, none where it had no batch
abbrev pub values_in : Table → ℤ → List Datum
values_in t id = unwrap_or (found t id) []

-- a delta adds to the values that are there, or to none
abbrev pub change_of : Table → DictionaryBatch → Change
change_of t b = change b.id (if b.is_delta then values_in t b.id ++ b.values else b.values)

-- the id has those values, and each other id has what it had
abbrev pub Changes : Table → Table → Change → Type 0
Changes old new c = (id : ℤ) → found new id ≡ (if int_eq c.id id then Some c.values else found old id)

-- the batch is applied
abbrev pub Takes : Table → Table → DictionaryBatch → Type 0
Takes old new b = Changes old new (change_of old b)
