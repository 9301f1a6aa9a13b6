-- Framing: Arrow Columnar Format, "Encapsulated message format" and "IPC Streaming Format". A message is four bytes FF,
-- the size of the metadata in 32 bits, the metadata, and the body, whose length the metadata gives. The size 0 marks
-- the end of the stream.
use Rattle.std.specs.Prelude.{
  ℕ,
  ◌+◌,
  Ok,
  Err,
  List,
  length,
  drop,
  slice_range,
  Option,
  None,
  Some,
  is_some,
  nat_lt,
  nat_le,
  ◌==◌,
  if◌then◌else◌,
}
use Rattle.byteorder.specs.Endian.{little_number}
use Rattle.values.specs.Limits.{max_metadata_size}
use Rattle.values.specs.declared.faults.StreamFault.TheVariants as fault
use Rattle.values.specs.Reading.{Reading, ◌>>=◌, both, second, one}
use Rattle.schema_meta.specs.Stage.{Known, Meta, Whole, end_meta}
use Rattle.schema_meta.specs.Message.{meta_of}

-- the four bytes FF
abbrev pub mark_of : ℕ → Reading (Unit {0})
mark_of mark = if mark == 4294967295 then Ok tt else Err (one fault.NoContinuation)

-- A negative size is above 2^31 when it is read without a sign.
abbrev pub size_of : ℕ → Reading ℕ
size_of size = if nat_le size max_metadata_size then Ok size else Err (one fault.BadSize)

-- the metadata's size, by the first two numbers of a message
unfoldable pub framed : ℕ → ℕ → Reading ℕ
framed mark size = both second (mark_of mark) (size_of size)

-- the message is whole once its body is there; `len` bytes are there
abbrev pub body_at : ℕ → ℕ → Meta → Reading (Option Whole)
body_at len front m = if nat_lt len (front + m.body) then Ok None else Ok (Some (record { front = front; meta = m }))

-- The metadata is checked once it is all there.
unfoldable pub message_at : ℕ → ℕ → Reading Meta → Reading (Option Whole)
message_at len front meta = if nat_lt len front then Ok None else (meta >>= body_at len front)

-- an end mark, which is no message of a stream without a schema
abbrev pub end_mark : Known → Reading (Option Whole)
end_mark known = if is_some known.schema then Ok (Some (record { front = 8; meta = end_meta }))
    else Err (one fault.NoSchema)

abbrev pub sized : ℕ → Reading (Option Whole) → (ℕ → Reading Meta) → ℕ → Reading (Option Whole)
sized len end meta size = if size == 0 then end else message_at len (8 + size) (meta size)

-- The sizes are checked once both are there.
unfoldable pub staged : ℕ → Reading ℕ → Reading (Option Whole) → (ℕ → Reading Meta) → Reading (Option Whole)
staged len size end meta = if nat_lt len 8 then Ok None else (size >>= sized len end meta)

-- The first message of the bytes, if it is there whole; a fault of the first stage that has one, also before it is.
unfoldable pub first : Known → List ℕ → Reading (Option Whole)
first known bytes =
    staged (length bytes) (framed (little_number 4 bytes) (little_number 4 (drop 4 bytes))) (end_mark known)
    (λ size. meta_of known (slice_range bytes 8 (8 + size)))
