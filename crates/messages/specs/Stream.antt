-- A stream between two pieces, what a push does to it, and the stream after a prepared piece.
use Rattle.std.specs.Prelude.{
  ◌≡◌,
  ℕ,
  ℤ,
  ◌+◌,
  List,
  [],
  ◌++◌,
  length,
  slice_range,
  Option,
  None,
  Some,
  Ok,
  Err,
  IfSome,
  refl,
}
use Rattle.std.specs.Coded.{Coded, code_by, coded×, coded_ℕ, coded_ℤ, coded_list, coded_option}
use Rattle.values.specs.Logical.{NamedType, logical_code}
use Rattle.values.specs.Reading.{Reading}
use Rattle.values.specs.Rose.{Rose, rose_code}
use Rattle.schema_meta.specs.Entry.{Entry, entry_code}
use Rattle.messages.specs.declared.headers.Framed.{Framed}
use Rattle.messages.specs.Handed.{MessageView}
use Rattle.schema_meta.specs.Stage.{Known, Whole, end_of}
use Rattle.schema_meta.specs.SchemaLaw.{before}
use Rattle.schema_meta.specs.Sound.{IsFitting, after}
use Rattle.schema_meta.specs.Story.{fields_of}
use Rattle.messages.specs.State.{IsRead}
use Rattle.messages.specs.Wanted.{Wants, followed}
use Rattle.schema_meta.specs.Framing.{first}

-- what is known of it, and the bytes of an incomplete message
pub record Stream : Type 0 where
  pub known : Known
  pub held : List ℕ

abbrev pub Stored : Type 0
Stored = Option (List (Rose NamedType)) × (Option (List (Rose Entry)) × (List (ℤ × ℕ) × List ℕ))

abbrev pub stored_code : Coded Stored
stored_code =
    coded× (coded_option (coded_list (rose_code logical_code)))
    (coded× (coded_option (coded_list (rose_code entry_code)))
    (coded× (coded_list (coded× coded_ℤ coded_ℕ)) (coded_list coded_ℕ)))

abbrev pub stream_code : Coded Stream
stream_code =
    code_by Stored stored_code (λ s. (s.known.declared, (s.known.schema, (s.known.counts, s.held))))
    (λ p. record { known = record { declared = p.0; schema = p.1.0; counts = p.1.1.0 }; held = p.1.1.1 }) (λ _. refl)

-- a stream now, and as it will be once the prepared change is committed
pub record FramerState : Type 0 where
  pub current : Stream
  pub prepared : Stream

abbrev pub framer_code : Coded FramerState
framer_code =
    code_by (Stream × Stream) (coded× stream_code stream_code) (λ f. (f.current, f.prepared))
    (λ p. record { current = p.0; prepared = p.1 }) (λ _. refl)

-- the held bytes are no whole message, and have no fault, nor do fewer than `wanted` bytes more complete one
pub record IsStream (known : Known) (held : List ℕ) (wanted : ℕ) : Type 0 where
  pub partial : first known held ≡ Ok None
  pub small : IsRead known.schema
  pub wants : Wants (followed known held) wanted

-- a stream of which nothing was read; these columns are declared for it, if any are
abbrev pub opened : Option (List (Rose NamedType)) → Stream
opened declared = record { known = before declared; held = [] }

-- a message that is returned, out of all bytes
abbrev pub message_of : Known → Whole → List ℕ → MessageView
message_of known w bytes =
    record {
      schema = fields_of (after known w.meta);
      header = w.meta.header;
      body = slice_range bytes w.front (end_of w);
    }

-- What a push answers, where the first message of what was held and the piece is this: without a message all of the
-- piece is held, else the message is returned.
abbrev pub Frames : Reading (Option Whole) → Stream → List ℕ → Framed → Stream → Type 0
Frames (Ok None) old piece f new =
    (f.used ≡ length piece) × (f.message ≡ None) × (new ≡ record { known = old.known; held = old.held ++ piece })
Frames (Ok (Some w)) old piece f new =
    (f.used + length old.held ≡ end_of w) × (f.message ≡ Some (message_of old.known w (old.held ++ piece)))
    × (new ≡ record { known = after old.known w.meta; held = [] })
Frames (Err fs) old piece f new = ⊥

-- the first message of what is held and of a piece
abbrev pub first_in : Stream → List ℕ → Reading (Option Whole)
first_in s piece = first s.known (s.held ++ piece)

-- A push of the piece answers this, and leads to this stream.
abbrev pub Takes : Stream → List ℕ → Framed → Stream → Type 0
Takes old piece f new = Frames (first_in old piece) old piece f new

-- No byte was used, and there is no message.
abbrev pub IsNothing : Framed → Type 0
IsNothing f = (f.used ≡ 0) × (f.message ≡ None)

-- A message that is returned has the schema that is known then, and fits it.
abbrev pub HasSchema : Option (List (Rose Entry)) → Framed → Type 0
HasSchema schema f = IfSome f.message (λ m. schema ≡ Some m.schema)

abbrev pub FitsSchema : Option (List (Rose Entry)) → Framed → Type 0
FitsSchema schema f = IfSome f.message (λ m. IsFitting schema m.header (length m.body))
