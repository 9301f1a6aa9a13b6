-- The schema of a message: a schema is read once, from a Schema table, and no other message has one.
use Rattle.std.proofs.Common.{
  ◌≡◌,
  inl,
  inr,
  ℕ,
  ◌+◌,
  Bool,
  true,
  false,
  Option,
  None,
  Some,
  Ok,
  Err,
  List,
  length,
  drop,
  refl,
  ap,
  subst,
  ◌∙◌,
}
use Rattle.std.specs.Prelude.{map, slice_range, is_some, if◌then◌else◌}
use Rattle.byteorder.specs.Endian.{little_number}
use Rattle.flatbuf.specs.Layout.{Table}
use Rattle.values.specs.declared.faults.StreamFault.TheVariants as fault
use Rattle.values.specs.Reading.{Reading, ◌>>=◌, second, one, refused_if}
use Rattle.values.specs.Rose.{Rose}
use Rattle.values.proofs.Readings.{both_Ok, bind_Ok, mapped_Ok}
use Rattle.schema_meta.specs.Entry.{Entry}
use Rattle.schema_meta.specs.Schema.{schema_of}
use Rattle.schema_meta.specs.declared.header.MessageKind.{MessageKind}
use Rattle.schema_meta.specs.declared.header.MessageKind.TheVariants as kind
use Rattle.schema_meta.specs.declared.header.Header.TheVariants as header
use Rattle.schema_meta.specs.Stage.{Known, Meta, Whole, end_meta}
use Rattle.schema_meta.specs.Message.{
  expected,
  new_schema,
  header_table,
  header_of,
  record_batch,
  dictionary_batch,
  brings_schema,
  brings_batch,
  brings_dictionary,
  meta_of,
}
use Rattle.schema_meta.specs.Framing.{framed, end_mark, first}
use Rattle.messages.proofs.Stages.{staged_from}
use Rattle.schema_meta.specs.Logical.{logical_field}
use Rattle.schema_meta.specs.SchemaTree.{AreColumns}
use Rattle.messages.specs.Laws.{FirstMessageLaw}
use Rattle.messages.specs.MessageLaw.{Brings, MessageLaw}
use Rattle.messages.proofs.Facts.{expected_same, meta_header}
use Rattle.schema_meta.proofs.FieldFacts.{fields_known}
use Rattle.schema_meta.proofs.LogicalFits.{columns_fit}
use Rattle.messages.proofs.Messages.{first_within}
use Rattle.messages.proofs.Lawful.{whole_law, within_law, fault_law, faults_law, alone_law, none_law}

columns-sound : (t : Table) (fs : List (Rose Entry)) → schema_of t ≡ Ok fs → AreColumns (map logical_field fs)
columns-sound t fs e = columns_fit fs (fields_known t fs e)

unknown_by : (o : Option (List (Rose Entry))) (b : Bool) (u : Unit {0}) → is_some o ≡ b
    → refused_if fault.SecondSchema b ≡ Ok u → b ≡ false
unknown_by o true u s e = absurd (cc)
unknown_by o false u s e = refl

none_of : (o : Option (List (Rose Entry))) → is_some o ≡ false → o ≡ None
none_of None e = refl
none_of (Some fs) e = absurd (cc)

new_from : (known : Known) (t : Table) (fs : List (Rose Entry)) → new_schema known t ≡ Ok fs
    → (known.schema ≡ None) × (schema_of t ≡ Ok fs)
unfolding new_schema
new_from known t fs e =
    let p = both_Ok second (refused_if fault.SecondSchema (is_some known.schema)) (schema_of t
    >>= expected known.declared) fs e in
    let q = bind_Ok (schema_of t) (expected known.declared) p.1 p.3 in
    let k : q.0 ≡ fs = expected_same known.declared q.0 p.1 q.2 ∙ p.4 in
    (none_of known.schema (unknown_by known.schema (is_some known.schema) p.0 refl p.2), q.1 ∙ ap (λ x. Ok x) k)

header_brings :
    (known : Known) (t : Table) (k : MessageKind) (body : ℕ) (m : Meta) → header_of known t k body ≡ Ok m
    → Brings known.schema m.schema m.header
unfolding header_of
header_brings known t kind.Schema body m e =
    let p = mapped_Ok (brings_schema body) (header_table t >>= new_schema known) m e in
    let q = bind_Ok (header_table t) (new_schema known) p.0 p.1 in
    let r = new_from known q.0 p.0 q.2 in
    let made : Brings known.schema (Some p.0) header.Schema =
    record { fields = p.0; read = fields_known q.0 p.0 r.1; sound = columns-sound q.0 p.0 r.1; new = r.0; is = refl } in
    subst (λ (x : Meta). Brings known.schema x.schema x.header) p.2 made
header_brings known t kind.Batch body m e =
    let p = mapped_Ok (brings_batch body) (record_batch known body t) m e in
    subst (λ (x : Meta). Brings known.schema x.schema x.header) p.2 refl
header_brings known t kind.Dictionary body m e =
    let p = mapped_Ok (brings_dictionary body) (dictionary_batch known body t) m e in
    subst (λ (x : Meta). Brings known.schema x.schema x.header) p.2 refl

meta_brings : (known : Known) (bytes : List ℕ) (m : Meta) → meta_of known bytes ≡ Ok m
    → Brings known.schema m.schema m.header
meta_brings known bytes m e =
    let p = meta_header known bytes m e in
    header_brings known p.0 p.1 p.2 m p.3

end_brings_by :
    (known : Known) (w : Whole) (b : Bool)
    → (if b then Ok (Some (record { front = 8; meta = end_meta })) else Err (one fault.NoSchema)) ≡ Ok (Some w)
    → Brings known.schema w.meta.schema w.meta.header
end_brings_by known w true e =
    let k : record { front = 8; meta = end_meta } ≡ w = cc in
    subst (λ (v : Whole). Brings known.schema v.meta.schema v.meta.header) k refl
end_brings_by known w false e = absurd (cc)

first_brings : (known : Known) (bytes : List ℕ) (w : Whole) → first known bytes ≡ Ok (Some w)
    → Brings known.schema w.meta.schema w.meta.header
unfolding first
first_brings known bytes w e =
    let f : ℕ → Reading Meta = λ n. meta_of known (slice_range bytes 8 (8 + n)) in
    elim
    (staged_from (length bytes) (framed (little_number 4 bytes) (little_number 4 (drop 4 bytes))) (end_mark known) f w
    e) [
      | inl m ↦ end_brings_by known w (is_some known.schema) m
      | inr r ↦ meta_brings known (slice_range bytes 8 (8 + r.0)) w.meta r.1
    ]

pub message-law : MessageLaw
message-law known bytes w e =
    let there = first_within known bytes w e in
    record { framed = there.0; within = there.1; brings = first_brings known bytes w e }

pub first-message-law : FirstMessageLaw
first-message-law = record {
  whole = whole_law;
  within = within_law;
  fault = fault_law;
  faults = faults_law;
  alone = alone_law;
  none = none_law;
  message = message-law;
}

pub ruleset message_laws = (message-law, first-message-law)
