-- The header of a batch that is written is read as it is meant.
use Rattle.std.proofs.Common.{
  ◌≡◌,
  ℕ,
  ◌+◌,
  ◌*◌,
  ◌^◌,
  ◌<◌,
  ◌≤◌,
  true,
  false,
  ℤ,
  List,
  [],
  ◌∷◌,
  ◌++◌,
  length,
  drop,
  Some,
  None,
  Ok,
  refl,
  ap,
  sym,
  subst,
  ◌∙◌,
  arith,
  append_assoc,
  length-append,
}
use Rattle.std.specs.Prelude.{pos, replicate}
use Rattle.std.specs.Int.{w64}
use Rattle.std.proofs.lemmas.Bool.{eq-eqb, le-leb}
use Rattle.std.proofs.lemmas.Int.{to_z_pos}
use Rattle.std.proofs.lemmas.List.{drop-drop, drop_at}
use Rattle.byteorder.specs.Endian.{little_bytes, little_number, low_bytes}
use Rattle.byteorder.specs.Numbers.{length-bytes_low_first, little_number-reads_back}
use Rattle.flatbuf.specs.Tree.{number}
use Rattle.flatbuf.specs.Layout.{Table, slot_of, subtable_of, table_in}
use Rattle.flatbuf.specs.Held.{Held, NodeHeld}
use Rattle.flatbuf.proofs.ReaderAnswers.{number-read, signed-read, structs-read, subtable-read}
use Rattle.values.specs.Limits.{max_batch_length, max_body_size, max_dictionary_values, max_node_length}
use Rattle.field_types.specs.Reads.{bool_of}
use Rattle.values.specs.Reading.{each}
use Rattle.values.specs.Rose.{Rose, Roses, roses_size}
use Rattle.values.specs.Datum.{Datum}
use Rattle.values.specs.declared.layout.Layout.{Layout}
use Rattle.array_layout.specs.declared.array.FieldNode.{FieldNode}
use Rattle.array_layout.specs.declared.array.BufferRange.{BufferRange}
use Rattle.array_layout.specs.Placing.{ranges_below}
use Rattle.schema_meta.specs.declared.header.MessageKind.TheVariants as kind
use Rattle.schema_meta.specs.Entry.{Entry}
use Rattle.schema_meta.specs.BatchHead.{BatchHead}
use Rattle.schema_meta.specs.FieldLayouts.{slot_layouts_of}
use Rattle.schema_meta.specs.Batch.{
  long_at,
  node_of,
  range_of,
  rows_of,
  nodes_in,
  nodes_of,
  lengths_fit,
  ranges_in,
  ranges_of,
  plain,
  batch,
  batch_of,
}
use Rattle.schema_meta.specs.Stage.{Known}
use Rattle.schema_meta.specs.Message.{
  header_table,
  dictionary_batch,
  record_batch,
  header_of,
  meta_of,
  brings_batch,
  brings_dictionary,
}
use Rattle.schema_meta.specs.MessageFbs as message_fbs
use Rattle.values.specs.Coded.{utf8}
use Rattle.schema_meta.specs.Dictionaries.{value_type}
use Rattle.schema_meta.specs.DictionaryBatch.{data_of, dictionary_of, id_of, values_batch}
use Rattle.schema_meta.specs.declared.header.DictionaryHeader.{DictionaryHeader}
use Rattle.schema_meta.specs.SchemaLaw.{stored_fields}
use Rattle.schema_meta.proofs.SchemaRead.{meta-read}
use Rattle.schema_meta.proofs.Plain.{slots-are}
use Rattle.body_writer.specs.Body.{laid, padded, padding, ranges_from}
use Rattle.body_writer.specs.Batch.{IsBatch, body_bytes, body_buffers, body_ranges, body_nodes}
use Rattle.body_writer.proofs.Rows.{body-short}
use Rattle.stream_writer.specs.Batch.{node_bytes, range_bytes, batch_slots, batch_metadata}
use Rattle.stream_writer.specs.BatchLaw.{BatchLaw, head_by}
use Rattle.stream_writer.specs.DictionaryLaw.{dictionary_head}
use Rattle.stream_writer.specs.Stream.{trees}
use Rattle.stream_writer.specs.Coding.{value_rows}
use Rattle.stream_writer.specs.DictionaryBatch.{dictionary_metadata, dictionary_slots, text_layouts, values_body}
use Rattle.stream_writer.proofs.BatchFits.{batch-writable, dictionary-writable, node_bytes-length, range_bytes-length}
use Rattle.stream_writer.proofs.Counts.{
  body_nodes-length,
  body_buffers-length,
  body_ranges-length,
  body_nodes-few,
  body_ranges-few,
}
use Rattle.stream_writer.proofs.Lengths.{AreSmall, IsSmall, body-small, lengths-fit}

-- a pair of numbers

number-back : (w a : ℕ) (bytes rest : List ℕ) (p : ℕ) → a < 256 ^ w → drop p bytes ≡ little_bytes w a ++ rest
    → little_number w (drop p bytes) ≡ a
number-back w a bytes rest p small e = ap (little_number w) e ∙ little_number-reads_back w a rest small

number-next : (w a : ℕ) (bytes rest : List ℕ) (p : ℕ) → drop p bytes ≡ little_bytes w a ++ rest
    → drop (p + w) bytes ≡ rest
number-next w a bytes rest p e =
    sym (drop-drop w p bytes) ∙ ap (drop w) e ∙ drop_at (little_bytes w a) rest w (length-bytes_low_first 0 w a)

record IsPair (bytes : List ℕ) (p a b : ℕ) (after : List ℕ) : Type 0 where
  low : long_at bytes p ≡ a
  high : long_at bytes (p + 8) ≡ b
  rest : drop (p + 16) bytes ≡ after

pair-read : (bytes : List ℕ) (p a b : ℕ) (after : List ℕ) → a < 2 ^ 64 → b < 2 ^ 64
    → drop p bytes ≡ (little_bytes 8 a ++ little_bytes 8 b) ++ after → IsPair bytes p a b after
unfolding long_at
pair-read bytes p a b after small little e =
    let first : drop p bytes ≡ little_bytes 8 a ++ (little_bytes 8 b ++ after) =
    e ∙ append_assoc (little_bytes 8 a) (little_bytes 8 b) after in
    let second : drop (p + 8) bytes ≡ little_bytes 8 b ++ after =
    number-next 8 a bytes (little_bytes 8 b ++ after) p first in
    let third : drop (p + 8 + 8) bytes ≡ after = number-next 8 b bytes after (p + 8) second in
    let far : p + 8 + 8 ≡ p + 16 = omega arith in
    let P : ℕ → Type 0 = λ n. drop n bytes ≡ after in
    record {
      low = number-back 8 a bytes (little_bytes 8 b ++ after) p small first;
      high = number-back 8 b bytes after (p + 8) little second;
      rest = subst P far third;
    }

-- nodes

low-small : (k : ℕ) → k < 2 ^ 31 → low_bytes w64 8 (pos k) ≡ k
low-small k h = omega (arith, h)

node-back : (bytes : List ℕ) (i : ℕ) (x : FieldNode) → IsSmall x → long_at bytes (16 * i) ≡ x.length
    → long_at bytes (16 * i + 8) ≡ low_bytes w64 8 x.nulls → node_of bytes i ≡ Ok x
unfolding node_of
node-back bytes i x small low high =
    let k : ℕ = small.1.0 in
    let is : x.nulls ≡ pos k = small.1.1 in
    let count : long_at bytes (16 * i + 8) ≡ k = high ∙ ap (low_bytes w64 8) is ∙ low-small k small.1.2 in
    let few = small.1.2 in
    rw (low, le-leb x.length max_node_length small.0, count, to_z_pos w64 k (omega (arith, few)))
    (ap (λ z. Ok (record { length = x.length; nulls = z })) (sym is))

nodes-back : (bytes : List ℕ) (i : ℕ) (ns : List FieldNode) → AreSmall ns → drop (16 * i) bytes ≡ node_bytes ns
    → each (node_of bytes) i (length ns) ≡ Ok ns
unfolding each
nodes-back bytes i [] small e = refl
nodes-back bytes i (x ∷ ns) small e =
    let length_small = small.0.0 in
    let nulls : ℕ = low_bytes w64 8 x.nulls in
    let few = small.0.1.2 in
    let count : nulls ≡ small.0.1.0 = ap (low_bytes w64 8) small.0.1.1 ∙ low-small small.0.1.0 few in
    let pair =
    pair-read bytes (16 * i) x.length nulls (node_bytes ns) (omega (arith, length_small))
    (omega (arith, few, count)) e in
    let next : 16 * i + 16 ≡ 16 * (i + 1) = omega arith in
    let P : ℕ → Type 0 = λ n. drop n bytes ≡ node_bytes ns in
    let others = nodes-back bytes (i + 1) ns small.1 (subst P next pair.rest) in
    rw (node-back bytes i x small.0 pair.low pair.high, others) refl

-- buffer ranges

range-back : (body : ℕ) (bytes : List ℕ) (i from len : ℕ) → from + len ≤ body → long_at bytes (16 * i) ≡ from
    → long_at bytes (16 * i + 8) ≡ len
    → range_of body bytes i ≡ Ok (record { from = from; len = len })
unfolding range_of
range-back body bytes i from len within low high = rw (low, high, le-leb (from + len) body within) refl

ranges-back : (body : ℕ) (bytes : List ℕ) (i at : ℕ) (xs : List (List ℕ)) → body < 2 ^ 63 → at + length (laid xs) ≤ body
    → drop (16 * i) bytes ≡ range_bytes (ranges_from at xs)
    → each (range_of body bytes) i (length xs) ≡ Ok (ranges_from at xs)
unfolding each
ranges-back body bytes i at [] short within e = refl
ranges-back body bytes i at (x ∷ xs) short within e =
    let all = length-append (padded x) (laid xs) in
    let own = length-append x (replicate (padding (length x)) 0) in
    let next_at : ℕ = at + length (padded x) in
    let pair =
    pair-read bytes (16 * i) at (length x) (range_bytes (ranges_from next_at xs)) (omega (arith, short, within))
    (omega (arith, short, within, all, own)) e in
    let next : 16 * i + 16 ≡ 16 * (i + 1) = omega arith in
    let P : ℕ → Type 0 = λ n. drop n bytes ≡ range_bytes (ranges_from next_at xs) in
    let others =
    ranges-back body bytes (i + 1) next_at xs short (omega (arith, within, all)) (subst P next pair.rest) in
    rw (range-back body bytes i at (length x) (omega (arith, within, all, own)) pair.low pair.high, others) refl

-- the header's table

batch-back : (ls : Roses Layout) (rows body : ℕ) (h : Table) (ns : List FieldNode) (ss : List BufferRange) →
    rows ≤ max_batch_length → length ns ≡ roses_size ls → length ss ≡ ranges_below ls →
    nodes_in (roses_size ls) (node_bytes ns) ≡ Ok ns → lengths_fit rows ls ns ≡ true
    → ranges_in (ranges_below ls) body (range_bytes ss) ≡ Ok ss
    → Held h.bytes (slot_of h) 0 (batch_slots rows ns ss) → slot_of h 3 ≡ Some None
    → batch_of ls body h ≡ Ok (batch rows ns ss)
unfolding batch_of plain rows_of nodes_of ranges_of
batch-back ls rows body h ns ss few en es n fit s held none =
    let small : rows < 2 ^ 63 = omega (arith, few) in
    let nl : length (node_bytes ns) ≡ 16 * roses_size ls = node_bytes-length ns ∙ ap (λ k. 16 * k) en in
    let sl : length (range_bytes ss) ≡ 16 * ranges_below ls = range_bytes-length ss ∙ ap (λ k. 16 * k) es in
    let first = structs-read 16 (node_bytes ns) h 1 held.1.0 in
    let second = structs-read 16 (range_bytes ss) h 2 held.1.1.0 in
    rw (
      none,
      signed-read w64 rows h 0 held.0,
      to_z_pos w64 rows small,
      le-leb rows max_batch_length few,
      first,
      eq-eqb (length (node_bytes ns)) (16 * roses_size ls) nl,
      n,
      fit,
      second,
      eq-eqb (length (range_bytes ss)) (16 * ranges_below ls) sl,
      s,
    ) refl

batch-means : (known : Known) (t h : Table) (fields : List (Rose Entry)) (ls : Roses Layout) (body : ℕ) (b : BatchHead)
    → known.schema ≡ Some fields → header_table t ≡ Ok h
    → slot_layouts_of fields ≡ ls → batch_of ls body h ≡ Ok b
    → header_of known t kind.Batch body ≡ Ok (brings_batch body b)
unfolding header_of record_batch
batch-means known t h fields ls body b e found same read = rw (e, found, same, read) refl

body-nodes : (ls : Roses Layout) (rows : List (List Datum)) → IsBatch ls rows
    → nodes_in (roses_size ls) (node_bytes (body_nodes ls rows)) ≡ Ok (body_nodes ls rows)
unfolding nodes_in
body-nodes ls rows b =
    let ns = body_nodes ls rows in
    let P : ℕ → Type 0 = λ k. each (node_of (node_bytes ns)) 0 k ≡ Ok ns in
    subst P (body_nodes-length ls rows) (nodes-back (node_bytes ns) 0 ns (body-small ls rows b) refl)

body-ranges : (ls : Roses Layout) (rows : List (List Datum)) → length (body_bytes ls rows) ≤ max_body_size →
    ranges_in (ranges_below ls) (length (body_bytes ls rows)) (range_bytes (body_ranges ls rows)) ≡ Ok
    (body_ranges ls rows)
unfolding ranges_in body_ranges body_bytes
body-ranges ls rows short =
    let xs = body_buffers ls rows in
    let P : ℕ
    → Type 0 =
    λ k. each (range_of (length (laid xs)) (range_bytes (ranges_from 0 xs))) 0 k ≡ Ok (ranges_from 0 xs) in
    subst P (body_buffers-length ls rows)
    (ranges-back (length (laid xs)) (range_bytes (ranges_from 0 xs)) 0 0 xs (omega (arith, short)) (omega arith)
    refl)

head-read : (ls : Roses Layout) (rows : List (List Datum)) (h : Table) → IsBatch ls rows →
    Held h.bytes (slot_of h) 0 (batch_slots (length rows) (body_nodes ls rows) (body_ranges ls rows))
    → slot_of h 3 ≡ Some None
    → batch_of ls (length (body_bytes ls rows)) h ≡ Ok (batch (length rows) (body_nodes ls rows) (body_ranges ls rows))
head-read ls rows h b held none =
    let few = b.few in
    batch-back ls (length rows) (length (body_bytes ls rows)) h (body_nodes ls rows) (body_ranges ls rows)
    (omega (arith, few))
    (body_nodes-length ls rows) (body_ranges-length ls rows) (body-nodes ls rows b) (lengths-fit ls rows)
    (body-ranges ls rows (body-short ls rows b)) held none

pub batch-law-by :
    (known : Known) (fields : List (Rose Entry)) (ls : Roses Layout) (rows : List (List Datum))
    → slot_layouts_of fields ≡ ls → IsBatch ls rows → known.schema ≡ Some fields
    → meta_of known (batch_metadata ls rows) ≡ Ok (brings_batch (length (body_bytes ls rows)) (head_by ls rows))
unfolding batch_metadata
batch-law-by known fields ls rows same b e =
    let few = b.few in
    let short = body-short ls rows b in
    let ns = body_nodes ls rows in
    let ss = body_ranges ls rows in
    let body : ℕ = length (body_bytes ls rows) in
    meta-read known kind.Batch (batch_slots (length rows) ns ss) body (brings_batch body (head_by ls rows)) short
    (batch-writable (length rows) body ns ss (body_nodes-few ls rows b) (body_ranges-few ls rows b) (omega (arith, few))
    (omega (arith, short)))
    (λ t h found held beyond. batch-means known t h fields ls body (head_by ls rows) e found same
    (head-read ls rows h b held (beyond 3 (omega arith))))

pub batch-law : BatchLaw
batch-law known fs rows b e = batch-law-by known (stored_fields fs) (trees fs) rows (slots-are fs) b e

-- dictionary batches

id-read : (h : Table) (j : ℕ) → j < 2 ^ 63 → NodeHeld h.bytes (slot_of h message_fbs.dictionary_id) (number 8 j)
    → id_of h ≡ Ok (pos j)
unfolding id_of
id-read h j small held = rw (signed-read w64 j h message_fbs.dictionary_id held, to_z_pos w64 j small) refl

no-delta : (h : Table) → NodeHeld h.bytes (slot_of h message_fbs.is_delta) (number 1 0)
    → bool_of h message_fbs.is_delta ≡ Ok false
unfolding bool_of
no-delta h held = rw (number-read 1 0 h message_fbs.is_delta held) refl

data-found : (h t : Table) → subtable_of h message_fbs.batch_data ≡ Some (Some t) → data_of h ≡ Ok t
unfolding data_of
data-found h t e = rw e refl

values-batch-read :
    (h : Table) (j : ℕ) (values : List (List ℕ)) → IsBatch text_layouts (value_rows values)
    → Held h.bytes (slot_of h) 0 (dictionary_slots j (batch_slots (length (value_rows values))
    (body_nodes text_layouts (value_rows values)) (body_ranges text_layouts (value_rows values))))
    → values_batch (length (values_body values)) h (pos j) utf8 ≡ Ok (dictionary_head j values)
unfolding values_batch
values-batch-read h j values b held =
    let rows = value_rows values in
    let inner = batch_slots (length rows) (body_nodes text_layouts rows) (body_ranges text_layouts rows) in
    let r = subtable-read inner h message_fbs.batch_data held.1.0 in
    let t : Table = table_in h.bytes r.place in
    let read = head-read text_layouts rows t b r.slots (r.beyond 3 (omega arith)) in
    rw (no-delta h held.1.1.0, data-found h t r.is, read) refl

dictionary-of-read :
    (fields : List (Rose Entry)) (counts : List (ℤ × ℕ)) (h : Table) (j : ℕ) (values : List (List ℕ)) → j < 2 ^ 63
    → value_type fields (pos j) ≡ Some utf8 → IsBatch text_layouts (value_rows values)
    → Held h.bytes (slot_of h) 0 (dictionary_slots j (batch_slots (length (value_rows values))
    (body_nodes text_layouts (value_rows values)) (body_ranges text_layouts (value_rows values))))
    → dictionary_of fields counts (length (values_body values)) h ≡ Ok (dictionary_head j values)
unfolding dictionary_of
dictionary-of-read fields counts h j values small type b held =
    let few = b.few in
    let within : 0 + length (value_rows values) ≤ max_dictionary_values = omega (arith, few) in
    rw (
      id-read h j small held.0,
      type,
      values-batch-read h j values b held,
      le-leb (0 + length (value_rows values)) max_dictionary_values within,
    ) refl

dictionary-means :
    (known : Known) (t h : Table) (fields : List (Rose Entry)) (body : ℕ) (d : DictionaryHeader)
    → known.schema ≡ Some fields → header_table t ≡ Ok h → dictionary_of fields known.counts body h ≡ Ok d
    → header_of known t kind.Dictionary body ≡ Ok (brings_dictionary body d)
unfolding header_of dictionary_batch
dictionary-means known t h fields body d e found read = rw (e, found, read) refl

-- A dictionary batch that is written is read as its id and its values' header.
pub dictionary-read :
    (known : Known) (fields : List (Rose Entry)) (j : ℕ) (values : List (List ℕ)) → j < 2 ^ 63
    → known.schema ≡ Some fields → value_type fields (pos j) ≡ Some utf8 → IsBatch text_layouts (value_rows values)
    → meta_of known (dictionary_metadata j values) ≡ Ok
    (brings_dictionary (length (values_body values)) (dictionary_head j values))
unfolding dictionary_metadata
dictionary-read known fields j values small e type b =
    let rows = value_rows values in
    let few = b.few in
    let short = body-short text_layouts rows b in
    let ns = body_nodes text_layouts rows in
    let ss = body_ranges text_layouts rows in
    let body : ℕ = length (values_body values) in
    meta-read known kind.Dictionary (dictionary_slots j (batch_slots (length rows) ns ss)) body
    (brings_dictionary body (dictionary_head j values)) short
    (dictionary-writable j (length rows) body ns ss (body_nodes-few text_layouts rows b)
    (body_ranges-few text_layouts rows b) (omega (arith, small)) (omega (arith, few)) (omega (arith, short)))
    (λ t h found held beyond. dictionary-means known t h fields body (dictionary_head j values) e found
    (dictionary-of-read fields known.counts h j values small type b held))
