-- Each batch within the limits has a header that can be written.
use Rattle.std.proofs.Common.{
  ◌≡◌,
  ℕ,
  ◌+◌,
  ◌*◌,
  ◌^◌,
  ◌<◌,
  ◌≤◌,
  List,
  [],
  ◌∷◌,
  ◌++◌,
  length,
  get_or,
  drop,
  append_assoc,
  refl,
  ap,
  sym,
  ◌∙◌,
  arith,
}
use Rattle.std.proofs.lemmas.List.{drop_more}
use Rattle.std.specs.Int.{w64}
use Rattle.values.specs.Limits.{max_fields}
use Rattle.byteorder.specs.Endian.{little_bytes, low_bytes}
use Rattle.flatbuf.specs.Tree.{structs, table}
use Rattle.flatbuf.specs.Written.{object_end, table_end, items_place, Fits, IsWritable}
use Rattle.schema_meta.specs.declared.header.MessageKind.TheVariants as kind
use Rattle.schema_meta.specs.MessageTree.{message_slots}
use Rattle.schema_meta.proofs.SchemaFits.{items_place-le, number-fits, table_place-le}
use Rattle.array_layout.specs.declared.array.FieldNode.{FieldNode}
use Rattle.array_layout.specs.declared.array.BufferRange.{BufferRange}
use Rattle.stream_writer.specs.Batch.{batch_slots, node_bytes, range_bytes}
use Rattle.stream_writer.specs.DictionaryBatch.{dictionary_slots}

pub node_bytes-length : (ns : List FieldNode) → length (node_bytes ns) ≡ 16 * length ns
node_bytes-length [] = refl
node_bytes-length (n ∷ ns) = let rest = node_bytes-length ns in omega (arith, rest)

pub range_bytes-length : (ss : List BufferRange) → length (range_bytes ss) ≡ 16 * length ss
range_bytes-length [] = refl
range_bytes-length (s ∷ ss) = let rest = range_bytes-length ss in omega (arith, rest)

whole-structs : (n : ℕ) (xs : List ℕ) → length xs ≡ 16 * n → Fits (structs 16 xs)
whole-structs n xs e = (omega arith, omega (arith, e))

pub batch-end : (rows body : ℕ) (ns : List FieldNode) (ss : List BufferRange) → length ns ≤ max_fields
    → length ss ≤ 3 * max_fields
    → object_end 4 (table (message_slots kind.Batch (batch_slots rows ns ss) body)) < 2 ^ 17
batch-end rows body ns ss few fewer =
    let message : ℕ = table_end 4 (message_slots kind.Batch (batch_slots rows ns ss) body) in
    let begin : message ≤ 64 = omega arith in
    let header : ℕ = table_end message (batch_slots rows ns ss) in
    let place = table_place-le message (batch_slots rows ns ss) in
    let nodes = items_place-le header in
    let ranges = items_place-le (items_place header + length (node_bytes ns)) in
    omega (arith, begin, place, nodes, ranges, few, fewer, node_bytes-length ns, range_bytes-length ss)

pub batch-writable : (rows body : ℕ) (ns : List FieldNode) (ss : List BufferRange) → length ns ≤ max_fields
    → length ss ≤ 3 * max_fields → rows < 2 ^ 64 → body < 2 ^ 64
    → IsWritable (message_slots kind.Batch (batch_slots rows ns ss) body)
batch-writable rows body ns ss few fewer high higher =
    let end = batch-end rows body ns ss few fewer in
    let nodes : Fits (structs 16 (node_bytes ns)) = whole-structs (length ns) (node_bytes ns) (node_bytes-length ns) in
    let ranges : Fits (structs 16 (range_bytes ss)) =
    whole-structs (length ss) (range_bytes ss) (range_bytes-length ss) in
    let fits : Fits (table (batch_slots rows ns ss)) =
    (omega arith, omega arith, (number-fits 8 rows (omega arith) (omega arith) high, (nodes, (ranges, tt)))) in
    record {
      fits = (
        omega arith,
        omega arith,
        (
          number-fits 2 4 (omega arith) (omega arith) (omega arith),
          (
            number-fits 1 3 (omega arith) (omega arith) (omega arith),
            (fits, (number-fits 8 body (omega arith) (omega arith) higher, tt)),
          ),
        ),
      );
      short = omega (arith, end);
    }

-- and so does a dictionary batch

pub dictionary-end : (id rows body : ℕ) (ns : List FieldNode) (ss : List BufferRange) → length ns ≤ max_fields
    → length ss ≤ 3 * max_fields
    → object_end 4 (table (message_slots kind.Dictionary (dictionary_slots id (batch_slots rows ns ss)) body)) < 2 ^ 17
dictionary-end id rows body ns ss few fewer =
    let message : ℕ = table_end 4 (message_slots kind.Dictionary (dictionary_slots id (batch_slots rows ns ss)) body) in
    let begin : message ≤ 64 = omega arith in
    let header : ℕ = table_end message (dictionary_slots id (batch_slots rows ns ss)) in
    let place = table_place-le message (dictionary_slots id (batch_slots rows ns ss)) in
    let values : ℕ = table_end header (batch_slots rows ns ss) in
    let inner = table_place-le header (batch_slots rows ns ss) in
    let nodes = items_place-le values in
    let ranges = items_place-le (items_place values + length (node_bytes ns)) in
    omega (arith, begin, place, inner, nodes, ranges, few, fewer, node_bytes-length ns, range_bytes-length ss)

pub dictionary-writable : (id rows body : ℕ) (ns : List FieldNode) (ss : List BufferRange) → length ns ≤ max_fields
    → length ss ≤ 3 * max_fields → id < 2 ^ 64 → rows < 2 ^ 64 → body < 2 ^ 64
    → IsWritable (message_slots kind.Dictionary (dictionary_slots id (batch_slots rows ns ss)) body)
dictionary-writable id rows body ns ss few fewer low high higher =
    let end = dictionary-end id rows body ns ss few fewer in
    let nodes : Fits (structs 16 (node_bytes ns)) = whole-structs (length ns) (node_bytes ns) (node_bytes-length ns) in
    let ranges : Fits (structs 16 (range_bytes ss)) =
    whole-structs (length ss) (range_bytes ss) (range_bytes-length ss) in
    let values : Fits (table (batch_slots rows ns ss)) =
    (omega arith, omega arith, (number-fits 8 rows (omega arith) (omega arith) high, (nodes, (ranges, tt)))) in
    let fits : Fits (table (dictionary_slots id (batch_slots rows ns ss))) = (
      omega arith,
      omega arith,
      (
        number-fits 8 id (omega arith) (omega arith) low,
        (values, (number-fits 1 0 (omega arith) (omega arith) (omega arith), tt)),
      ),
    ) in
    record {
      fits = (
        omega arith,
        omega arith,
        (
          number-fits 2 4 (omega arith) (omega arith) (omega arith),
          (
            number-fits 1 2 (omega arith) (omega arith) (omega arith),
            (fits, (number-fits 8 body (omega arith) (omega arith) higher, tt)),
          ),
        ),
      );
      short = omega (arith, end);
    }

-- one more node, one more range

pub nodes-more : (out : List ℕ) (ns : List FieldNode) (i : ℕ) (d : FieldNode) → i < length ns →
    (out ++ (little_bytes 8 (get_or ns i d).length ++ little_bytes 8 (low_bytes w64 8 (get_or ns i d).nulls)))
    ++ node_bytes (drop (i + 1) ns) ≡ out ++ node_bytes (drop i ns)
nodes-more out ns i d h =
    let pair = little_bytes 8 (get_or ns i d).length ++ little_bytes 8 (low_bytes w64 8 (get_or ns i d).nulls) in
    append_assoc out pair (node_bytes (drop (i + 1) ns)) ∙ ap (λ xs. out ++ node_bytes xs) (sym (drop_more ns i d h))

pub ranges-more : (out : List ℕ) (ss : List BufferRange) (i : ℕ) (d : BufferRange) → i < length ss →
    (out ++ (little_bytes 8 (get_or ss i d).from ++ little_bytes 8 (get_or ss i d).len))
    ++ range_bytes (drop (i + 1) ss) ≡ out ++ range_bytes (drop i ss)
ranges-more out ss i d h =
    let pair = little_bytes 8 (get_or ss i d).from ++ little_bytes 8 (get_or ss i d).len in
    append_assoc out pair (range_bytes (drop (i + 1) ss)) ∙ ap (λ xs. out ++ range_bytes xs) (sym (drop_more ss i d h))
