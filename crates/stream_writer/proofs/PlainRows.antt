-- Batches of a table without columns.
use Rattle.std.proofs.Common.{◌≡◌, ℕ, zero, suc, ◌+◌, ◌<◌, ◌≤◌, All, List, [], ◌∷◌, length, ap, sym, subst, arith}
use Rattle.std.specs.Prelude.{Vec, map}
use Rattle.std.specs.declared.alloc.Global.{Global}
use Rattle.std.proofs.lemmas.List.{length-map}
use Rattle.std.proofs.lemmas.List.Elements.{All-cons, All-head, All-nil, All-tail, All-weaker}
use Rattle.values.specs.Limits.{max_main_rows}
use Rattle.values.specs.Datum.{Datum}
use Rattle.values.specs.Layouts.{AreLayouts}
use Rattle.values.specs.Logical.{NamedType}
use Rattle.values.specs.Rose.{Rose, none}
use Rattle.arrays.specs.Checked.{CheckedColumn}
use Rattle.schema_meta.specs.Rows.{row_at, rows_from, rows_in}
use Rattle.schema_meta.specs.SchemaTree.{AreColumns}
use Rattle.body_writer.specs.Batch.{row_weight}
use Rattle.body_writer.specs.declared.from_columns.batch.Batch.{Batch}
use Rattle.body_writer.specs.RowRanges.{batch_rows, cells_in}
use Rattle.body_writer.specs.Heavy.{IsLight}
use Rattle.stream_writer.specs.Stream.{trees}
use Rattle.stream_writer.specs.Table.{IsRow, IsTable}
use Rattle.stream_writer.specs.TableWriters.{MayCome}
use Rattle.body_writer.specs.Heavy.{layouts_in}

plain-row : IsRow [] []
plain-row = record { held = tt; light = omega arith }

all-plain : (i n : ℕ) → All (IsRow []) (rows_from [] i n)
unfolding rows_from
all-plain i zero = All-nil (IsRow [])
all-plain i (suc n) = All-cons (IsRow []) [] (rows_from [] (i + 1) n) plain-row (all-plain (i + 1) n)

-- a table of no columns
pub plain-columns : (fs : List (Rose NamedType)) → fs ≡ [] → AreColumns fs
plain-columns fs none_there = subst AreColumns (sym none_there) (record { few = omega arith; within = tt })

pub plain-layouts : (fs : List (Rose NamedType)) → fs ≡ [] → AreLayouts (trees fs)
plain-layouts fs none_there = subst (λ (gs : List (Rose NamedType)). AreLayouts (trees gs)) (sym none_there) tt

pub plain-table : (fs : List (Rose NamedType)) (rows : List (Vec Datum Global)) → fs ≡ []
    → All (λ (row : Vec Datum Global). row.items ≡ []) rows → length rows ≤ max_main_rows
    → IsTable fs (map (λ (row : Vec Datum Global). row.items) rows)
plain-table fs rows none_there plain few =
    let items : Vec Datum Global → List Datum = λ row. row.items in
    let many = length-map rows items in
    subst (λ (gs : List (Rose NamedType)). IsTable gs (map items rows)) (sym none_there) (record {
      columns = record { few = omega arith; within = tt };
      layouts = tt;
      few = omega (arith, many, few);
      sound = each-plain rows plain;
    })
  where
    each-plain : (rows : List (Vec Datum Global)) → All (λ (row : Vec Datum Global). row.items ≡ []) rows
        → All (IsRow []) (map (λ (row : Vec Datum Global). row.items) rows)
    each-plain [] plain = All-nil (IsRow [])
    each-plain (row ∷ rows) plain =
        let P : Vec Datum Global → Type 0 = λ r. r.items ≡ [] in
        All-cons (IsRow []) row.items (map (λ (r : Vec Datum Global). r.items) rows)
        (subst (IsRow []) (sym (All-head P row rows plain)) plain-row) (each-plain rows (All-tail P row rows plain))

-- a batch of no columns may follow other rows without cells
pub plain-comes : (rows : List (List Datum)) (b : Batch) (heaviest : ℕ) → b.columns.items ≡ []
    → length rows + b.rows ≤ max_main_rows → MayCome [] rows b heaviest
plain-comes rows b heaviest none_there few =
    let R : List CheckedColumn → Type 0 = λ cs. All (IsRow []) (rows_in b.rows (cells_in cs)) in
    let L : List CheckedColumn → Type 0 =
    λ cs. (k : ℕ) → k < b.rows → IsLight (layouts_in cs) (row_at (cells_in cs) k) in
    let S : List CheckedColumn → Type 0 = λ cs. All (λ (c : CheckedColumn). length c.cells ≡ b.rows) cs in
    let sound : All (IsRow []) (batch_rows b) = subst R (sym none_there) (all-plain 0 b.rows) in
    record {
      sized = record {
        columns = ap length none_there;
        cells = subst S (sym none_there) (All-nil (λ (c : CheckedColumn). length c.cells ≡ b.rows));
      };
      sound = sound;
      light = subst L (sym none_there) (λ k below. record { cells = tt; whole = omega arith });
      alike = λ row. ap (λ cs. row_weight (layouts_in cs) row) none_there;
      bound = All-weaker (IsRow []) (λ (row : List Datum). row_weight none row ≤ heaviest) (λ row h. omega arith)
          (batch_rows b) sound;
      few = few;
    }
