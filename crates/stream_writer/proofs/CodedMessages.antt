-- The messages of a batch with coded columns, each by itself, and a batch without.
use Rattle.std.proofs.Common.{◌≡◌, ℕ, suc, List, [], ◌∷◌, refl, ap, ◌∙◌, arith}
use Rattle.std.specs.Prelude.{map}
use Rattle.values.specs.Datum.{Datum}
use Rattle.values.specs.Rose.{Roses, more, node, none}
use Rattle.values.specs.declared.layout.Layout.{Layout}
use Rattle.schema_meta.specs.SchemaLaw.{coded_fields}
use Rattle.schema_meta.proofs.CodedFields.{coded-type}
use Rattle.stream_writer.specs.BatchLaw.{CodedBatchLaw, NoneCodedBatch}
use Rattle.stream_writer.specs.Coding.{indexed_from, indexed_layouts, indexed_rows, values_at}
use Rattle.stream_writer.specs.DictionaryLaw.{DictionaryLaw, ValuesLaw}
use Rattle.stream_writer.specs.RowsLaw.{CodedRowsLaw}
use Rattle.stream_writer.specs.Stream.{batch_message, batch_messages, trees}
use Rattle.stream_writer.proofs.BatchRead.{batch-law-by, dictionary-read}
use Rattle.stream_writer.proofs.CodedRead.{
  coded-slots,
  coded-text-at,
  coded-trees,
  rows-coded,
  text-small,
  values-read,
}
use Rattle.stream_writer.proofs.IndexedRows.{indexed-batch, values-batch}

pub coded-batch-law : CodedBatchLaw
coded-batch-law known fs coded rows b c e =
    batch-law-by known (coded_fields coded fs) (indexed_layouts coded 0 (trees fs)) (indexed_rows coded rows)
    (coded-slots coded fs) (indexed-batch coded (trees fs) rows (coded-trees coded fs c) b) e

pub coded-rows-law : CodedRowsLaw
coded-rows-law values fs coded rows b c of = rows-coded values fs coded rows c b of

pub dictionary-law : DictionaryLaw
dictionary-law known fs coded rows j b c is e =
    let there = coded-text-at coded fs j c is in
    let few = b.narrow in
    let small = text-small j (trees fs) there in
    dictionary-read known (coded_fields coded fs) j (values_at j rows) (omega (arith, few, small)) e
    (coded-type coded fs j c is) (values-batch j (trees fs) rows there b)

pub values-law : ValuesLaw
values-law fs coded rows j b c is =
    values-read (coded_fields coded fs) j (values_at j rows) (coded-type coded fs j c is)
    (values-batch j (trees fs) rows (coded-text-at coded fs j c is) b)

-- without coded columns

layouts-plain : (j : ℕ) (ts : Roses Layout) → indexed_layouts [] j ts ≡ ts
layouts-plain j none = refl
layouts-plain j (more (node l kids) ts) = ap (λ us. more (node l kids) us) (layouts-plain (suc j) ts)

row-plain : (values : ℕ → List (List ℕ)) (j : ℕ) (row : List Datum) → indexed_from [] values j row ≡ row
row-plain values j [] = refl
row-plain values j (c ∷ cs) = ap (λ ds. c ∷ ds) (row-plain values (suc j) cs)

rows-plain : (values : ℕ → List (List ℕ)) (rows : List (List Datum)) → map (indexed_from [] values 0) rows ≡ rows
rows-plain values [] = refl
rows-plain values (row ∷ rows) = rw (row-plain values 0 row, rows-plain values rows) refl

pub none-coded-batch : NoneCodedBatch
unfolding batch_messages
none-coded-batch ls rows =
    ap (λ ts. batch_message ts (indexed_rows [] rows)) (layouts-plain 0 ls)
    ∙ ap (batch_message ls) (rows-plain (λ j. values_at j rows) rows)
