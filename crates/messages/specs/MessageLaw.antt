-- What holds of each complete message.
use Rattle.std.specs.Prelude.{◌≡◌, ℕ, ◌≤◌, List, length, map, Option, None, Some, Ok}
use Rattle.values.specs.Rose.{Rose}
use Rattle.schema_meta.specs.Entry.{Entry}
use Rattle.schema_meta.specs.Logical.{logical_field}
use Rattle.schema_meta.specs.SchemaTree.{AreColumns}
use Rattle.schema_meta.specs.FieldsLaw.{AreFields}
use Rattle.schema_meta.specs.declared.header.Header.{Header}
use Rattle.schema_meta.specs.declared.header.Header.TheVariants as header
use Rattle.schema_meta.specs.Stage.{Known, Whole, end_of}
use Rattle.schema_meta.specs.Framing.{first}

-- A Schema message comes where no schema is known, and its columns are within the limits.
pub record BringsSchema (known brought : Option (List (Rose Entry))) : Type 0 where
  pub fields : List (Rose Entry)
  pub read : AreFields fields
  pub sound : AreColumns (map logical_field fields)
  pub new : known ≡ None
  pub is : brought ≡ Some fields

-- No other message has a schema.
abbrev pub Brings : Option (List (Rose Entry)) → Option (List (Rose Entry)) → Header → Type 0
Brings known brought header.Schema = BringsSchema known brought
Brings known brought (header.Dictionary d) = brought ≡ None
Brings known brought (header.Batch b) = brought ≡ None
Brings known brought header.End = brought ≡ None

-- Its body begins after its first eight bytes, it lies within the bytes, and it has a schema or none.
pub record IsMessage (known : Known) (bytes : List ℕ) (w : Whole) : Type 0 where
  pub framed : 8 ≤ w.front
  pub within : end_of w ≤ length bytes
  pub brings : Brings known.schema w.meta.schema w.meta.header

abbrev pub MessageLaw : Type 0
MessageLaw = (known : Known) (bytes : List ℕ) (w : Whole) → first known bytes ≡ Ok (Some w) → IsMessage known bytes w
