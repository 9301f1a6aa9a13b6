-- What is known of a stream before a message, and what a message's metadata says.
use Rattle.std.specs.Prelude.{ℕ, ℤ, ◌+◌, List, Option, None}
use Rattle.values.specs.Rose.{Rose}
use Rattle.values.specs.Logical.{NamedType}
use Rattle.schema_meta.specs.Entry.{Entry}
use Rattle.schema_meta.specs.declared.header.Header.{Header}
use Rattle.schema_meta.specs.declared.header.Header.TheVariants as header

-- the schema that was declared for the stream, if any, the one that was read, if it was, and how many values each
-- dictionary has that had a batch
pub record Known : Type 0 where
  pub declared : Option (List (Rose NamedType))
  pub schema : Option (List (Rose Entry))
  pub counts : List (ℤ × ℕ)

-- the header, the length of the body, and the schema in the message
pub record Meta : Type 0 where
  pub header : Header
  pub body : ℕ
  pub schema : Option (List (Rose Entry))

abbrev pub end_meta : Meta
end_meta = record { header = header.End; body = 0; schema = None }

-- a message that is there whole: where its body begins, and its metadata
pub record Whole : Type 0 where
  pub front : ℕ
  pub meta : Meta

abbrev pub end_of : Whole → ℕ
end_of w = w.front + w.meta.body
