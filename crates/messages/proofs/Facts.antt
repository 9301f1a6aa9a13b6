-- What holds of the header that is read: the reading's own tests, opened.
use Rattle.std.proofs.Common.{
  ◌≡◌,
  ℕ,
  ◌+◌,
  ◌*◌,
  ◌≤◌,
  Bool,
  true,
  false,
  Option,
  None,
  Some,
  Ok,
  Err,
  List,
  length,
  ℤ,
  pos,
  negsuc,
  refl,
  ap,
  sym,
  subst,
  ◌∙◌,
  arith,
}
use Rattle.std.specs.Prelude.{All, IsSomeAnd, nat_le, if◌then◌else◌, is_some}
use Rattle.std.proofs.lemmas.Bool.{leb-true}
use Rattle.flatbuf.specs.Layout.{Table, root_of}
use Rattle.values.specs.Limits.{max_dictionary_values, max_batch_length, max_node_length}
use Rattle.values.specs.declared.faults.StreamFault.{StreamFault}
use Rattle.values.specs.declared.faults.StreamFault.TheVariants as fault
use Rattle.values.specs.Reading.{Reading, ◌>>=◌, both, second, must, one, refused_if, each}
use Rattle.values.proofs.Readings.{both_Ok, bind_Ok, mapped_Ok, must_Ok, each_length, each_all}
use Rattle.values.specs.Rose.{Rose, Roses, roses_size}
use Rattle.schema_meta.specs.Entry.{Entry}
use Rattle.schema_meta.specs.Schema.{schema_of}
use Rattle.array_layout.specs.declared.array.FieldNode.{FieldNode}
use Rattle.array_layout.specs.declared.array.BufferRange.{BufferRange}
use Rattle.schema_meta.specs.BatchHead.{BatchHead}
use Rattle.schema_meta.specs.Counts.{within, count_in}
use Rattle.schema_meta.specs.Batch.{
  fitting,
  lengths_fit,
  long_at,
  node_made,
  node_of,
  range_of,
  structs_in,
  rows_of,
  nodes_in,
  nodes_of,
  ranges_in,
  ranges_of,
  plain,
  batch,
  batch_of,
}
use Rattle.values.specs.Logical.{NamedType}
use Rattle.schema_meta.specs.SameColumns.{is_declared}
use Rattle.schema_meta.specs.declared.header.MessageKind.{MessageKind}
use Rattle.schema_meta.specs.declared.header.MessageKind.TheVariants as kind
use Rattle.schema_meta.specs.Stage.{Known, Meta}
use Rattle.schema_meta.specs.Message.{
  expected,
  new_schema,
  header_table,
  header_of,
  record_batch,
  dictionary_batch,
  brings_schema,
  brings_batch,
  brings_dictionary,
  version_of,
  body_of,
  kind_of,
  meta_of,
}
use Rattle.schema_meta.specs.Dictionaries.{value_type}
use Rattle.schema_meta.specs.DictionaryBatch.{
  count_after,
  data_of,
  dictionary,
  dictionary_of,
  id_of,
  limited,
  value_layouts,
  values_batch,
}
use Rattle.schema_meta.specs.declared.header.DictionaryHeader.{DictionaryHeader}
use Rattle.schema_meta.specs.Sound.{Fits, FitsValues, IsFitting, schema_after}
use Rattle.messages.specs.Counts.{IsCounted}
use Rattle.messages.specs.State.{IsRead}
use Rattle.schema_meta.specs.FieldLayouts.{slot_layouts_of}
use Rattle.schema_meta.specs.FieldsLaw.{AreFields}
use Rattle.schema_meta.proofs.FieldFacts.{fields_known}
use Rattle.schema_meta.proofs.ValuesFit.{values-fit}
use Rattle.values.specs.Layouts.{AreLayouts}
use Rattle.field_types.specs.Reads.{long_of, bool_of, checked}
use Rattle.values.specs.declared.col_type.ColType.{ColType}
use Rattle.values.specs.declared.layout.Layout.{Layout}
use Rattle.array_layout.specs.Placing.{ranges_below}

-- numbers
pos_bound :
    (c : StreamFault) (most m n : ℕ) (t : Bool) → nat_le m most ≡ t → (if t then Ok m else Err (one c)) ≡ Ok n
    → n ≤ most
pos_bound c most m n true h e = let k : m ≡ n = cc in let l : m ≤ most = leb-true m most h in omega arith
pos_bound c most m n false h e = absurd (cc)

within_bound : (c : StreamFault) (most : ℕ) (z : ℤ) (n : ℕ) → within c most z ≡ Ok n → n ≤ most
within_bound c most (pos m) n e = pos_bound c most m n (nat_le m most) refl e
within_bound c most (negsuc m) n e = absurd (cc)

count_bound : (c : StreamFault) (most : ℕ) (t : Table) (s n : ℕ) → count_in c most t s ≡ Ok n → n ≤ most
count_bound c most t s n e =
    let p = bind_Ok (long_of t s) (within c most) n e in within_bound c most p.0 n p.2

-- nodes and buffer ranges
node_small : (bytes : List ℕ) (i : ℕ) (n : FieldNode) → node_of bytes i ≡ Ok n → n.length ≤ max_node_length
unfolding node_of
node_small bytes i n e = by_test (nat_le (long_at bytes (16 * i)) max_node_length) refl e where
  by_test :
      (b : Bool) → nat_le (long_at bytes (16 * i)) max_node_length ≡ b
      → (if b then Ok (node_made bytes (16 * i)) else Err (one fault.BadLength)) ≡ Ok n → n.length ≤ max_node_length
  by_test true small e =
      let is : node_made bytes (16 * i) ≡ n = cc in
      let same : long_at bytes (16 * i) ≡ n.length = ap (λ m. m.length) is in
      let below : long_at bytes (16 * i) ≤ max_node_length = leb-true (long_at bytes (16 * i)) max_node_length small in
      omega (arith, same, below)
  by_test false large e = absurd (cc)

range_bound :
    (body from len : ℕ) (s : BufferRange) (t : Bool) → nat_le (from + len) body ≡ t
    → (if t then Ok (record { from = from; len = len }) else Err (one fault.BufferRange)) ≡ Ok s → s.from + s.len ≤ body
range_bound body from len s true h e =
    let k : record { from = from; len = len } ≡ s = cc in
    subst (λ (r : BufferRange). r.from + r.len ≤ body) k (leb-true (from + len) body h)
range_bound body from len s false h e = absurd (cc)

range_in_body : (body : ℕ) (bytes : List ℕ) (i : ℕ) (s : BufferRange) → range_of body bytes i ≡ Ok s
    → s.from + s.len ≤ body
unfolding range_of
range_in_body body bytes i s e =
    range_bound body (long_at bytes (16 * i)) (long_at bytes (16 * i + 8)) s
    (nat_le (long_at bytes (16 * i) + long_at bytes (16 * i + 8)) body) refl e

-- Ok where the counts are right
rows_bound : (t : Table) (n : ℕ) → rows_of t ≡ Ok n → n ≤ max_batch_length
unfolding rows_of
rows_bound t n e = count_bound fault.BadLength max_batch_length t 0 n e

fitting_same : (rows : ℕ) (ls : Roses Layout) (ns ms : List FieldNode) → fitting rows ls ns ≡ Ok ms
    → (ns ≡ ms) × (lengths_fit rows ls ns ≡ true)
fitting_same rows ls ns ms e = by_test (lengths_fit rows ls ns) refl e where
  by_test :
      (b : Bool) → lengths_fit rows ls ns ≡ b → (if b then Ok ns else Err (one fault.BadLength)) ≡ Ok ms
      → (ns ≡ ms) × (lengths_fit rows ls ns ≡ true)
  by_test true fit e = (cc, fit)
  by_test false fit e = absurd (cc)

record NodesFit (ls : Roses Layout) (rows : ℕ) (ns : List FieldNode) : Type 0 where
  count : length ns ≡ roses_size ls
  small : All (λ n. n.length ≤ max_node_length) ns
  long : lengths_fit rows ls ns ≡ true

nodes_facts : (ls : Roses Layout) (rows : ℕ) (t : Table) (ns : List FieldNode) → nodes_of ls rows t ≡ Ok ns
    → NodesFit ls rows ns
unfolding nodes_of nodes_in
nodes_facts ls rows t ns e =
    let n : ℕ = roses_size ls in
    let judged =
    bind_Ok (structs_in fault.NodeCount n t 1 >>= λ bytes. each (node_of bytes) 0 n) (fitting rows ls) ns e in
    let read = bind_Ok (structs_in fault.NodeCount n t 1) (λ bytes. each (node_of bytes) 0 n) judged.0 judged.1 in
    let fit = fitting_same rows ls judged.0 ns judged.2 in
    subst (NodesFit ls rows) fit.0 (record {
      count = each_length (node_of read.0) 0 n judged.0 read.2;
      small = each_all (λ m. m.length ≤ max_node_length) (node_of read.0) n judged.0 read.2
          (λ k m. node_small read.0 k m);
      long = fit.1;
    })

ranges_facts :
    (n body : ℕ) (t : Table) (ss : List BufferRange) → ranges_of n body t ≡ Ok ss
    → (length ss ≡ n) × All (λ s. s.from + s.len ≤ body) ss
unfolding ranges_of ranges_in
ranges_facts n body t ss e =
    let p = bind_Ok (structs_in fault.BufferCount n t 2) (λ bytes. each (range_of body bytes) 0 n) ss e in (
      each_length (range_of body p.0) 0 n ss p.2,
      each_all (λ s. s.from + s.len ≤ body) (range_of body p.0) n ss p.2 (λ k s. range_in_body body p.0 k s),
    )

pub batch_fits :
    (ls : Roses Layout) (body : ℕ) (t : Table) (b : BatchHead) → AreLayouts ls → batch_of ls body t ≡ Ok b
    → Fits ls body b
unfolding batch_of
batch_fits ls body t b known e =
    let f : ℕ → Reading BatchHead =
    λ rows. both (batch rows) (nodes_of ls rows t) (ranges_of (ranges_below ls) body t) in
    let whole = both_Ok second (plain t) (rows_of t >>= f) b e in
    let some = bind_Ok (rows_of t) f whole.1 whole.3 in
    let parts = both_Ok (batch some.0) (nodes_of ls some.0 t) (ranges_of (ranges_below ls) body t) whole.1 some.2 in
    let nodes = nodes_facts ls some.0 t parts.0 parts.2 in
    let ranges = ranges_facts (ranges_below ls) body t parts.1 parts.3 in
    let made : Fits ls body (batch some.0 parts.0 parts.1) =
    record {
      rows = rows_bound t some.0 some.1;
      nodes = nodes.count;
      small = nodes.small;
      lengths = nodes.long;
      ranges = ranges.0;
      within = ranges.1;
      layouts = known;
    } in
    subst (λ (x : BatchHead). Fits ls body x) (parts.4 ∙ whole.4) made

-- the metadata's header
declared_same :
    (fs gs : List (Rose Entry)) (t : Bool) → (if t then Ok fs else Err (one fault.SchemaMismatch)) ≡ Ok gs → fs ≡ gs
declared_same fs gs true e = cc
declared_same fs gs false e = absurd (cc)

pub expected_same :
    (o : Option (List (Rose NamedType))) (fs gs : List (Rose Entry)) → expected o fs ≡ Ok gs → fs ≡ gs
expected_same None fs gs e = cc
expected_same (Some cs) fs gs e = declared_same fs gs (is_declared cs fs) e

new_known :
    (known : Known) (t : Table) (fs : List (Rose Entry)) → new_schema known t ≡ Ok fs → AreFields fs
unfolding new_schema
new_known known t fs e =
    let p = both_Ok second (refused_if fault.SecondSchema (is_some known.schema)) (schema_of t
    >>= expected known.declared) fs e in
    let q = bind_Ok (schema_of t) (expected known.declared) p.1 p.3 in
    let k : q.0 ≡ fs = expected_same known.declared q.0 p.1 q.2 ∙ p.4 in
    subst AreFields k (fields_known t q.0 q.1)

-- a dictionary batch
values_fit :
    (fields : List (Rose Entry)) (body : ℕ) (t : Table) (id : ℤ) (s : ColType) (d : DictionaryHeader) → AreFields fields
    → value_type fields id ≡ Some s → values_batch body t id s ≡ Ok d → FitsValues fields body d
unfolding values_batch
values_fit fields body t id s d known type e =
    let p = both_Ok (dictionary id) (bool_of t 2) (data_of t >>= batch_of (value_layouts s) body) d e in
    let q = bind_Ok (data_of t) (batch_of (value_layouts s) body) p.1 p.3 in
    let made : FitsValues fields body (dictionary id p.0 p.1) =
    record {
      stored = s;
      type = type;
      fits = batch_fits (value_layouts s) body q.0 p.1 (values-fit fields id s known type) q.2;
    } in
    subst (λ (x : DictionaryHeader). FitsValues fields body x) p.4 made

limited_by :
    (n : ℕ) (d e : DictionaryHeader) (b : Bool) → nat_le n max_dictionary_values ≡ b
    → checked fault.DictionaryTooLarge b d ≡ Ok e
    → (d ≡ e) × (n ≤ max_dictionary_values)
limited_by n d e true few k = (cc, leb-true n max_dictionary_values few)
limited_by n d e false few k = absurd (cc)

limited_few :
    (counts : List (ℤ × ℕ)) (d e : DictionaryHeader) → limited counts d ≡ Ok e
    → (d ≡ e) × (count_after counts e.id e.is_delta e.batch.rows ≤ max_dictionary_values)
limited_few counts d e k =
    let n : ℕ = count_after counts d.id d.is_delta d.batch.rows in
    let p = limited_by n d e (nat_le n max_dictionary_values) refl k in (
      p.0,
      subst (λ (x : DictionaryHeader). count_after counts x.id x.is_delta x.batch.rows ≤ max_dictionary_values) p.0
          p.1,
    )

record DictionaryFacts (fields : List (Rose Entry)) (counts : List (ℤ × ℕ)) (body : ℕ) (t : Table)
    (d : DictionaryHeader) : Type 0 where
  id : ℤ
  stored : ColType
  type : value_type fields id ≡ Some stored
  read : values_batch body t id stored ≡ Ok d
  few : count_after counts d.id d.is_delta d.batch.rows ≤ max_dictionary_values

dictionary_facts :
    (fields : List (Rose Entry)) (counts : List (ℤ × ℕ)) (body : ℕ) (t : Table) (d : DictionaryHeader)
    → dictionary_of fields counts body t ≡ Ok d → DictionaryFacts fields counts body t d
unfolding dictionary_of
dictionary_facts fields counts body t d e =
    let g : ℤ → ColType → Reading DictionaryHeader = λ id s. values_batch body t id s >>= limited counts in
    let f : ℤ → Reading DictionaryHeader = λ id. must fault.UnknownDictionary (value_type fields id) >>= g id in
    let a = bind_Ok (id_of t) f d e in
    let b = bind_Ok (must fault.UnknownDictionary (value_type fields a.0)) (g a.0) d a.2 in
    let c = bind_Ok (values_batch body t a.0 b.0) (limited counts) d b.2 in
    let k = limited_few counts c.0 d c.2 in
    record {
      id = a.0;
      stored = b.0;
      type = must_Ok fault.UnknownDictionary (value_type fields a.0) b.0 b.1;
      read = c.1 ∙ ap (λ x. Ok x) k.0;
      few = k.1;
    }

record BatchFacts (known : Known) (body : ℕ) (d : DictionaryHeader) : Type 0 where
  fields : List (Rose Entry)
  table : Table
  here : known.schema ≡ Some fields
  facts : DictionaryFacts fields known.counts body table d

batch_facts :
    (known : Known) (body : ℕ) (t : Table) (d : DictionaryHeader) → dictionary_batch known body t ≡ Ok d
    → BatchFacts known body d
unfolding dictionary_batch
batch_facts known body t d e =
    let f : List (Rose Entry) → Reading DictionaryHeader =
    λ fields. header_table t >>= dictionary_of fields known.counts body in
    let q = bind_Ok (must fault.NoSchema known.schema) f d e in
    let r = bind_Ok (header_table t) (dictionary_of q.0 known.counts body) d q.2 in
    record {
      fields = q.0;
      table = r.0;
      here = must_Ok fault.NoSchema known.schema q.0 q.1;
      facts = dictionary_facts q.0 known.counts body r.0 d r.2;
    }

-- The header that is read fits what is known, and only a Schema message has a schema.
pub header_sound :
    (known : Known) (t : Table) (k : MessageKind) (body : ℕ) (m : Meta) → IsRead known.schema
    → header_of known t k body ≡ Ok m
    → IsFitting (schema_after known.schema m.schema) m.header m.body
unfolding header_of record_batch
header_sound known t kind.Schema body m read e =
    let p = mapped_Ok (brings_schema body) (header_table t >>= new_schema known) m e in
    let q = bind_Ok (header_table t) (new_schema known) p.0 p.1 in
    subst (λ (x : Meta). IsFitting (schema_after known.schema x.schema) x.header x.body) p.2 refl
header_sound known t kind.Batch body m read e =
    let p = mapped_Ok (brings_batch body) (record_batch known body t) m e in
    let f : List (Rose Entry) → Reading BatchHead =
    λ fields. header_table t >>= batch_of (slot_layouts_of fields) body in
    let q = bind_Ok (must fault.NoSchema known.schema) f p.0 p.1 in
    let r = bind_Ok (header_table t) (batch_of (slot_layouts_of q.0) body) p.0 q.2 in
    let here : known.schema ≡ Some q.0 = must_Ok fault.NoSchema known.schema q.0 q.1 in
    let read_so : AreFields q.0 = subst IsRead here read in
    let fits : Fits (slot_layouts_of q.0) body p.0 = batch_fits (slot_layouts_of q.0) body r.0 p.0 read_so.slots r.2 in
    let some : IsSomeAnd known.schema (λ fields. Fits (slot_layouts_of fields) body p.0) =
    subst (λ (o : Option (List (Rose Entry))). IsSomeAnd o (λ fields. Fits (slot_layouts_of fields) body p.0))
    (sym here) fits in
    subst (λ (x : Meta). IsFitting (schema_after known.schema x.schema) x.header x.body) p.2 some
header_sound known t kind.Dictionary body m read e =
    let p = mapped_Ok (brings_dictionary body) (dictionary_batch known body t) m e in
    let q = batch_facts known body t p.0 p.1 in
    let fits : FitsValues q.fields body p.0 =
    values_fit q.fields body q.table q.facts.id q.facts.stored p.0 (subst IsRead q.here read) q.facts.type
    q.facts.read in
    let some : IsSomeAnd known.schema (λ fields. FitsValues fields body p.0) =
    subst (λ (o : Option (List (Rose Entry))). IsSomeAnd o (λ fields. FitsValues fields body p.0)) (sym q.here) fits in
    subst (λ (x : Meta). IsFitting (schema_after known.schema x.schema) x.header x.body) p.2 some

-- A dictionary has no more values than it may have.
header_counted :
    (known : Known) (t : Table) (k : MessageKind) (body : ℕ) (m : Meta) → header_of known t k body ≡ Ok m
    → IsCounted known.counts m.header
unfolding header_of
header_counted known t kind.Schema body m e =
    let p = mapped_Ok (brings_schema body) (header_table t >>= new_schema known) m e in
    subst (λ (x : Meta). IsCounted known.counts x.header) p.2 tt
header_counted known t kind.Batch body m e =
    let p = mapped_Ok (brings_batch body) (record_batch known body t) m e in
    subst (λ (x : Meta). IsCounted known.counts x.header) p.2 tt
header_counted known t kind.Dictionary body m e =
    let p = mapped_Ok (brings_dictionary body) (dictionary_batch known body t) m e in
    let q = batch_facts known body t p.0 p.1 in
    subst (λ (x : Meta). IsCounted known.counts x.header) p.2 q.facts.few

-- and the fields of its schema are as they are read
header_read :
    (known : Known) (t : Table) (k : MessageKind) (body : ℕ) (m : Meta) → header_of known t k body ≡ Ok m
    → IsRead m.schema
unfolding header_of
header_read known t kind.Schema body m e =
    let p = mapped_Ok (brings_schema body) (header_table t >>= new_schema known) m e in
    let q = bind_Ok (header_table t) (new_schema known) p.0 p.1 in
    subst (λ (x : Meta). IsRead x.schema) p.2 (new_known known q.0 p.0 q.2)
header_read known t kind.Batch body m e =
    let p = mapped_Ok (brings_batch body) (record_batch known body t) m e in
    subst (λ (x : Meta). IsRead x.schema) p.2 tt
header_read known t kind.Dictionary body m e =
    let p = mapped_Ok (brings_dictionary body) (dictionary_batch known body t) m e in
    subst (λ (x : Meta). IsRead x.schema) p.2 tt

-- the metadata that is read: its header is, and the length of its body
pub meta_header :
    (known : Known) (bytes : List ℕ) (m : Meta) → meta_of known bytes ≡ Ok m
    → (t : Table) × (k : MessageKind) × (body : ℕ) × (header_of known t k body ≡ Ok m)
    × (must fault.BadTable (root_of bytes) ≡ Ok t) × (body_of t ≡ Ok body)
unfolding meta_of
meta_header known bytes m e =
    let g : Table → MessageKind → Reading Meta =
    λ t k. both second (version_of t) (body_of t >>= header_of known t k) in
    let f : Table → Reading Meta = λ t. kind_of t >>= g t in
    let a = bind_Ok (must fault.BadTable (root_of bytes)) f m e in
    let b = bind_Ok (kind_of a.0) (g a.0) m a.2 in
    let c = both_Ok second (version_of a.0) (body_of a.0 >>= header_of known a.0 b.0) m b.2 in
    let d = bind_Ok (body_of a.0) (header_of known a.0 b.0) c.1 c.3 in
    (a.0, b.0, d.0, d.2 ∙ ap (λ x. Ok x) c.4, a.1, d.1)

pub meta_sound :
    (known : Known) (bytes : List ℕ) (m : Meta) → IsRead known.schema → meta_of known bytes ≡ Ok m
    → IsFitting (schema_after known.schema m.schema) m.header m.body
meta_sound known bytes m read e =
    let p = meta_header known bytes m e in
    header_sound known p.0 p.1 p.2 m read p.3

pub meta_read : (known : Known) (bytes : List ℕ) (m : Meta) → meta_of known bytes ≡ Ok m → IsRead m.schema
meta_read known bytes m e =
    let p = meta_header known bytes m e in
    header_read known p.0 p.1 p.2 m p.3

pub meta_counted : (known : Known) (bytes : List ℕ) (m : Meta) → meta_of known bytes ≡ Ok m
    → IsCounted known.counts m.header
meta_counted known bytes m e =
    let p = meta_header known bytes m e in
    header_counted known p.0 p.1 p.2 m p.3
