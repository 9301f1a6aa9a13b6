-- What a batch and a dictionary batch hold, from the laws of how their arrays lie.
use Rattle.std.proofs.Common.{
  ◌≡◌,
  ℕ,
  ℤ,
  Result,
  Vec,
  IfOk,
  Bool,
  true,
  false,
  List,
  [],
  ◌++◌,
  Option,
  None,
  Some,
  Ok,
  Err,
  All,
  length,
  refl,
  ap,
  sym,
  subst,
  ◌∙◌,
}
use Rattle.std.specs.Prelude.{if◌then◌else◌, unwrap_or}
use Rattle.std.specs.Cmp.{signed_Decides}
use Rattle.std.specs.Map.{lookup}
use Rattle.std.specs.Ordering.{int_eq}
use Rattle.std.proofs.lemmas.List.Elements.{All-append}
use Rattle.values.specs.Datum.{Datum}
use Rattle.values.specs.Layouts.{Holds}
use Rattle.values.specs.Reading.{Answers}
use Rattle.values.specs.Rose.{Rose, Roses}
use Rattle.values.specs.declared.layout.Layout.{Layout}
use Rattle.std.specs.declared.alloc.Global.{Global}
use Rattle.values.specs.declared.faults.StreamFault.{StreamFault}
use Rattle.array_layout.specs.declared.array.ArrayData.{ArrayData}
use Rattle.array_layout.specs.Placing.{layouts_of as layouts_of_arrays}
use Rattle.arrays.specs.Checked.{CheckedColumn}
use Rattle.dictionaries.specs.Batches.{batch}
use Rattle.dictionaries.specs.Table.{Table, change_of, found, values_in}
use Rattle.values.specs.declared.col_type.ColType.{ColType}
use Rattle.schema_meta.specs.Entry.{Entry}
use Rattle.schema_meta.specs.BatchHead.{BatchHead}
use Rattle.schema_meta.specs.declared.header.DictionaryHeader.{DictionaryHeader}
use Rattle.schema_meta.specs.Dictionaries.{value_type}
use Rattle.schema_meta.specs.DictionaryBatch.{value_layout, value_layouts}
use Rattle.schema_meta.specs.FieldLayouts.{slot_layouts_of}
use Rattle.schema_meta.specs.Parts.{arrays_of}
use Rattle.schema_meta.specs.PlaceLaw.{AreValues, HaveLength, PlaceLaw}
use Rattle.schema_meta.specs.Rows.{columns_in}
use Rattle.schema_meta.specs.Sound.{Fits, FitsValues}
use Rattle.feed.specs.Columns.{cells_in, layouts_in}
use Rattle.feed.specs.Shown.{HasColumns, HasValues, values_next}
use Rattle.feed.proofs.GatherLemmas.{columns-whole}

pub batch-columns :
    (law : PlaceLaw) (values : ℤ → List Datum) (body : List ℕ) (fields : List (Rose Entry)) (head : BatchHead)
    (columns : List CheckedColumn) → Fits (slot_layouts_of fields) (length body) head
    → columns_in body (arrays_of values fields head) ≡ Ok (cells_in columns)
    → layouts_in columns ≡ layouts_of_arrays (arrays_of values fields head)
    → HasColumns fields columns head.rows
batch-columns law values body fields head columns fits read typed =
    let placed = law values fields body head fits in
    (typed ∙ placed.2, columns-whole head.rows body (arrays_of values fields head) columns placed.1 read)

pub checked-columns :
    (law : PlaceLaw) (values : ℤ → List Datum) (body : List ℕ) (fields : List (Rose Entry)) (head : BatchHead)
    (result : Result (Vec CheckedColumn Global) StreamFault) → Fits (slot_layouts_of fields) (length body) head
    → Answers (λ cs. cells_in cs.items) result (columns_in body (arrays_of values fields head))
    → IfOk result (λ cs. layouts_in cs.items ≡ layouts_of_arrays (arrays_of values fields head))
    → IfOk result (λ cs. HasColumns fields cs.items head.rows)
checked-columns law values body fields head (Ok cs) fits read typed =
    batch-columns law values body fields head cs.items fits read typed
checked-columns law values body fields head (Err c) fits read typed = tt

some-same : (m : Option ColType) (a b : ColType) → m ≡ Some a → m ≡ Some b → a ≡ b
some-same (Some x) a b p q = cc
some-same None a b p q = absurd (cc)

-- the type that is found is the one that the header fits
pub fits-type : (fields : List (Rose Entry)) (n : ℕ) (d : DictionaryHeader) (s : ColType) → FitsValues fields n d
    → value_type fields d.id ≡ Some s
    → Fits (value_layouts s) n d.batch
fits-type fields n d s fits is =
    let same : fits.stored ≡ s = some-same (value_type fields d.id) fits.stored s fits.type is in
    subst (λ t. Fits (value_layouts t) n d.batch) same fits.fits

pub values-typed :
    (fields : List (Rose Entry)) (d : DictionaryHeader) (s : ColType) (layouts : Rose Layout) (vs : List Datum)
    → value_type fields d.id ≡ Some s → layouts ≡ value_layout s
    → All (Holds layouts) vs → (t : ColType) → value_type fields d.id ≡ Some t → All (Holds (value_layout t)) vs
values-typed fields d s layouts vs is lie held t there =
    let same : s ≡ t = some-same (value_type fields d.id) s t is there in
    subst (λ l. All (Holds l) vs) (lie ∙ ap value_layout same) held

held-change :
    (fields : List (Rose Entry)) (old : Table) (d : DictionaryHeader) (values : List Datum) (id : ℤ) (s : ColType)
    (delta : Bool)
    → AreValues fields (values_in old) → value_type fields d.id ≡ Some s → All (Holds (value_layout s)) values
    → All (Holds (value_layout s)) (if delta then unwrap_or (found old d.id) [] ++ values else values)
held-change fields old d values id s true before there held =
    All-append (Holds (value_layout s)) (values_in old d.id) values (before d.id s there) held
held-change fields old d values id s false before there held = held

held-next :
    (fields : List (Rose Entry)) (old new : Table) (d : DictionaryHeader) (values : List Datum) (id : ℤ) (s : ColType)
    (t : Bool) → int_eq d.id id ≡ t
    → new.entries ≡ old.entries → AreValues fields (values_in old)
    → ((u : ColType) → value_type fields d.id ≡ Some u → All (Holds (value_layout u)) values)
    → value_type fields id ≡ Some s
    → All (Holds (value_layout s)) (if t then (if d.is_delta then unwrap_or (found old d.id) [] ++ values else values)
    else values_in new id)
held-next fields old new d values id s true is same before held there =
    let one : d.id ≡ id = (signed_Decides d.id id).0 is in
    let here : value_type fields d.id ≡ Some s = ap (value_type fields) one ∙ there in
    held-change fields old d values id s d.is_delta before here (held s here)
held-next fields old new d values id s false is same before held there =
    subst (All (Holds (value_layout s))) (ap (λ es. unwrap_or (lookup (int_eq id) es) []) (sym same))
    (before id s there)

pub has-next :
    (fields : List (Rose Entry)) (old new : Table) (d : DictionaryHeader) (values : List Datum)
    → new.entries ≡ old.entries
    → HasValues (Some fields) (values_in old)
    → ((u : ColType) → value_type fields d.id ≡ Some u → All (Holds (value_layout u)) values)
    → HasValues (Some fields) (values_next new (Some (change_of old (batch d.id d.is_delta values))))
has-next fields old new d values same has held =
    (has.0, λ id s there. held-next fields old new d values id s (int_eq d.id id) refl same has.1 held there)
