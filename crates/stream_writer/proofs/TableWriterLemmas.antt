-- A batch is added to a writer, and closed batches leave it.
use Rattle.std.proofs.Common.{
  ◌≡◌,
  ℕ,
  ◌+◌,
  ◌-◌,
  ◌^◌,
  ◌<◌,
  ◌≤◌,
  List,
  [],
  ◌∷◌,
  ◌++◌,
  length,
  get_or,
  drop,
  refl,
  ap,
  sym,
  ◌∙◌,
  arith,
  append-nil,
  length-append,
  length-drop,
  subst,
  All,
  inl,
}
use Rattle.std.specs.Prelude.{Vec, min}
use Rattle.std.specs.declared.alloc.Global.{Global}
use Rattle.std.proofs.lemmas.List.{drop-append-le, drop-drop, drop_all}
use Rattle.std.proofs.lemmas.List.Concat.{flat_map-append}
use Rattle.std.proofs.lemmas.List.Elements.{All-append, All-cons, All-head, All-nil, All-tail, All-weaker}
use Rattle.values.specs.Datum.{Datum}
use Rattle.values.specs.Layouts.{AreLayouts}
use Rattle.values.specs.Rose.{Rose, Roses, kids_of}
use Rattle.values.specs.declared.layout.Layout.{Layout}
use Rattle.values.specs.Limits.{max_batch_rows}
use Rattle.values.specs.Logical.{NamedType}
use Rattle.schema_meta.specs.SchemaTree.{AreColumns}
use Rattle.body_writer.specs.Batch.{row_weight}
use Rattle.body_writer.specs.declared.from_columns.batch.Batch.{Batch}
use Rattle.body_writer.specs.RowRanges.{IsSized, batch_rows, rows_of}
use Rattle.stream_writer.specs.BatchRows.{AreWeighed, FitsBatches, HasRows, IsInFirst, max_light_row}
use Rattle.stream_writer.specs.Progress.{HasPut, IsHeld, StopsIn, last_rows}
use Rattle.stream_writer.specs.Sinks.{Sunk}
use Rattle.stream_writer.specs.Stream.{trees}
use Rattle.stream_writer.specs.Table.{IsRow}
use Rattle.stream_writer.specs.TableWriters.{Holds, IsWeighable, IsWriting, MayCome, rows_held}
use Rattle.stream_writer.specs.Weights.{HasSizes, IsLightBatch, WeighsAs}
use Rattle.stream_writer.specs.declared.batch_rows.BatchRows.{BatchRows}
use Rattle.stream_writer.specs.declared.faults.WriteFault.TheVariants.{Memory}
use Rattle.stream_writer.specs.declared.table_writer.TableWriter.{TableWriter}
use Rattle.stream_writer.proofs.BatchRowLemmas.{as-many, batch-long, rows-split, weighed-left}
use Rattle.stream_writer.proofs.ProgressLemmas.{held-more, put-more, stops-memory}

-- the rows with those of one more batch
pub rows-push : (bs all : List Batch) (b : Batch) (from : ℕ) → from ≤ length (rows_of bs) → all ≡ bs ++ b ∷ []
    → drop from (rows_of all) ≡ drop from (rows_of bs) ++ batch_rows b
rows-push bs all b from h e =
    ap (λ xs. drop from (rows_of xs)) e
    ∙ ap (drop from) (flat_map-append batch_rows bs (b ∷ []) ∙ ap (λ cs. rows_of bs ++ cs) (append-nil (batch_rows b)))
    ∙ drop-append-le from (rows_of bs) (batch_rows b) h

push-long : (bs all : List Batch) (b : Batch) (n : ℕ) → all ≡ bs ++ b ∷ [] → n ≤ length (rows_of bs)
    → n ≤ length (rows_of all)
push-long bs all b n e h =
    let is = ap length (ap rows_of e ∙ flat_map-append batch_rows bs (b ∷ [])) in
    let both = length-append (rows_of bs) (rows_of (b ∷ [])) in
    omega (arith, is, both, h)

-- what is known of the held batches

pub held-sizes : (ls : List (Rose Layout)) (bs : List Batch) → All (IsWeighable ls) bs → All HasSizes bs
held-sizes ls bs each = All-weaker (IsWeighable ls) HasSizes (λ b h. h.sized.cells) bs each

pub held-light : (ls : List (Rose Layout)) (bs : List Batch) → All (IsWeighable ls) bs → All IsLightBatch bs
held-light ls bs each = All-weaker (IsWeighable ls) IsLightBatch (λ b h. h.light) bs each

pub held-alike : (ls : List (Rose Layout)) (bs : List Batch) → All (IsWeighable ls) bs → All (WeighsAs (kids_of ls)) bs
held-alike ls bs each = All-weaker (IsWeighable ls) (WeighsAs (kids_of ls)) (λ b h. h.alike) bs each

held-sized : (ls : List (Rose Layout)) (bs : List Batch) → All (IsWeighable ls) bs → All (IsSized (length ls)) bs
held-sized ls bs each = All-weaker (IsWeighable ls) (IsSized (length ls)) (λ b h. h.sized) bs each

pub comes-weighable : (fs : List (Rose NamedType)) (rows : List (List Datum)) (b : Batch) (heaviest : ℕ)
    (ls : List (Rose Layout)) → kids_of ls ≡ trees fs → MayCome fs rows b heaviest → IsWeighable ls b
comes-weighable fs rows b heaviest ls same comes = record {
  sized = subst (λ (n : ℕ). IsSized n b) (sym (as-many ls fs same)) comes.sized;
  light = comes.light;
  alike = subst (λ (us : Roses Layout). WeighsAs us b) (sym same) comes.alike;
}

pub comes-bound : (fs : List (Rose NamedType)) (rows : List (List Datum)) (b : Batch) (heaviest : ℕ)
    (ls : List (Rose Layout)) → kids_of ls ≡ trees fs → MayCome fs rows b heaviest
    → All (λ (row : List Datum). row_weight (kids_of ls) row ≤ heaviest) (batch_rows b)
comes-bound fs rows b heaviest ls same comes =
    subst (λ (us : Roses Layout). All (λ (row : List Datum). row_weight us row ≤ heaviest) (batch_rows b)) (sym same)
    comes.bound

-- what is held with one more batch

first-push : (bs : List Batch) (b : Batch) (from : ℕ) → from ≤ length (rows_of bs) → IsInFirst from bs → HasRows b
    → IsInFirst from (bs ++ b ∷ [])
first-push [] b from place first some = omega (arith, place, some)
first-push (x ∷ xs) b from place first some = first

pub holds-more :
    (start now : Sunk) (fs : List (Rose NamedType)) (rows : List (List Datum)) (w : TableWriter) (b : Batch)
    (heaviest : ℕ) (v : TableWriter) → Holds start now fs rows w → MayCome fs rows b heaviest
    → v.held.items ≡ w.held.items ++ b ∷ [] → v.layouts ≡ w.layouts → v.from ≡ w.from → v.left ≡ w.left + b.rows
    → v.written ≡ w.written → AreWeighed (kids_of w.layouts.items) v.weights.items (rows_held w ++ batch_rows b)
    → HasRows b → Holds start now fs (rows ++ batch_rows b) v
holds-more start now fs rows w b heaviest v holds comes is same from left written known some =
    let ls = w.layouts.items in
    let grown : rows_held v ≡ rows_held w ++ batch_rows b =
    ap (λ k. drop k (rows_of v.held.items)) from ∙ rows-push w.held.items v.held.items b w.from holds.place is in
    let long = batch-long b in
    let both = length-append rows (batch_rows b) in
    let here = length-append (rows_held w) (batch_rows b) in
    let size = ap length grown in
    let few = comes.few in
    let counted = holds.counted in
    let within = holds.within in
    let put = put-more start now w.written fs [] rows (rows_held w) (batch_rows b) holds.put comes.sound in
    let held = held-more fs ls rows (rows_held w) (batch_rows b) w.written holds.held comes.sound
    (omega (arith, few, long)) in
    let one = comes-weighable fs rows b heaviest ls holds.held.layouts comes in
    record {
      put = subst (λ (rs : List (List Datum)). HasPut start now v.written fs [] (rows ++ batch_rows b) rs) (sym grown)
          (subst (λ (n : ℕ). HasPut start now n fs [] (rows ++ batch_rows b) (rows_held w ++ batch_rows b))
          (sym written) put);
      held = subst (λ (rs : List (List Datum)). IsHeld fs v.layouts.items (rows ++ batch_rows b) rs v.written)
          (sym grown)
          (subst (λ (us : Vec (Rose Layout) Global). IsHeld fs us.items (rows ++ batch_rows b) (rows_held w ++
          batch_rows b) v.written) (sym same)
          (subst (λ (n : ℕ). IsHeld fs ls (rows ++ batch_rows b) (rows_held w ++ batch_rows b) n) (sym written) held));
      each = subst (λ (us : Vec (Rose Layout) Global). All (IsWeighable us.items) v.held.items) (sym same)
          (subst (All (IsWeighable ls)) (sym is) (All-append (IsWeighable ls) w.held.items (b ∷ []) holds.each
          (All-cons (IsWeighable ls) b [] one (All-nil (IsWeighable ls)))));
      weighed = subst (λ (us : Vec (Rose Layout) Global). AreWeighed (kids_of us.items) v.weights.items (rows_held v))
          (sym same)
          (subst (λ (rs : List (List Datum)). AreWeighed (kids_of ls) v.weights.items rs) (sym grown) known);
      counted = omega (arith, size, here, long, counted, left);
      within = omega (arith, both, long, within, from, left);
      place = subst (λ (n : ℕ). n ≤ length (rows_of v.held.items)) (sym from)
          (push-long w.held.items v.held.items b w.from is holds.place);
      filled = subst (All HasRows) (sym is) (All-append HasRows w.held.items (b ∷ []) holds.filled
          (All-cons HasRows b [] some (All-nil HasRows)));
      first = subst (λ (n : ℕ). IsInFirst n v.held.items) (sym from)
          (subst (IsInFirst w.from) (sym is)
          (first-push w.held.items b w.from holds.place holds.first some));
    }

-- the same where the batch has no rows

no-rows : (b : Batch) → b.rows ≡ 0 → batch_rows b ≡ []
no-rows b none = let long = batch-long b in drop_all 0 (batch_rows b) (omega (arith, long, none))

pub holds-none :
    (start now : Sunk) (fs : List (Rose NamedType)) (rows : List (List Datum)) (w : TableWriter) (b : Batch)
    → Holds start now fs rows w → b.rows ≡ 0 → Holds start now fs (rows ++ batch_rows b) w
holds-none start now fs rows w b holds none =
    subst (λ (rs : List (List Datum)). Holds start now fs rs w)
    (sym (ap (λ more. rows ++ more) (no-rows b none) ∙ append-nil rows)) holds

-- the held rows as they are written

pub source-fits :
    (start now : Sunk) (fs : List (Rose NamedType)) (rows : List (List Datum)) (w : TableWriter) (r : BatchRows)
    → Holds start now fs rows w → r.batches.now ≡ w.held.items → r.from ≡ w.from → r.left ≡ w.left
    → r.weights.now ≡ w.weights.items → FitsBatches w.layouts.items r
source-fits start now fs rows w r holds is from left weights =
    let ls = w.layouts.items in
    let same : drop r.from (rows_of r.batches.now) ≡ rows_held w =
    ap (λ bs. drop r.from (rows_of bs)) is ∙ ap (λ k. drop k (rows_of w.held.items)) from in
    let size = ap length same in
    let counted = holds.counted in
    let within = holds.within in
    let few = holds.held.few in
    record {
      sized = subst (All (IsSized (length ls))) (sym is) (held-sized ls w.held.items holds.each);
      weighed = subst (λ (ws : List ℕ). AreWeighed (kids_of ls) ws (drop r.from (rows_of r.batches.now)))
          (sym weights)
          (subst (λ (rs : List (List Datum)). AreWeighed (kids_of ls) w.weights.items rs) (sym same) holds.weighed);
      left = omega (arith, size, counted, left);
      small = omega (arith, from, left, within, few);
    }

pub source-held :
    (fs : List (Rose NamedType)) (ls us : List (Rose Layout)) (rows held left : List (List Datum)) (written : ℕ)
    → us ≡ ls → left ≡ held → IsHeld fs ls rows held written → IsHeld fs us rows left written
source-held fs ls us rows held left written same is h =
    subst (λ (ts : List (Rose Layout)). IsHeld fs ts rows left written) (sym same)
    (subst (λ (rs : List (List Datum)). IsHeld fs ls rows rs written) (sym is) h)

-- what is held after closed batches were put

pub holds-last :
    (start now new : Sunk) (fs : List (Rose NamedType)) (rows : List (List Datum)) (w v : TableWriter) (gone : ℕ)
    → Holds start now fs rows w → v.layouts ≡ w.layouts
    → HasPut start new v.written fs [] rows (drop gone (rows_held w))
    → IsHeld fs w.layouts.items rows (drop gone (rows_held w)) v.written → gone ≤ w.left → v.left ≡ w.left - gone
    → rows_held v ≡ drop gone (rows_held w) → ((us : List (Rose Layout)) → All (IsWeighable us) w.held.items → All (IsWeighable us) v.held.items)
    → v.weights.items ≡ drop (min gone (length w.weights.items)) w.weights.items
    → v.from ≤ length (rows_of v.held.items) → v.from ≤ w.from + gone → All HasRows v.held.items
    → IsInFirst v.from v.held.items → Holds start new fs rows v
holds-last start now new fs rows w v gone holds same put held few left is each weights place bound filled first =
    let ls = w.layouts.items in
    let size = ap length is in
    let behind = length-drop gone (rows_held w) in
    let counted = holds.counted in
    let within = holds.within in
    let known : AreWeighed (kids_of ls) v.weights.items (rows_held v) =
    subst (λ (ws : List ℕ). AreWeighed (kids_of ls) ws (rows_held v)) (sym weights)
    (weighed-left (kids_of ls) w.weights.items (rows_held w) (rows_held v) gone (min gone (length w.weights.items))
    holds.weighed is (omega (arith, few, counted)) refl) in
    record {
      put = subst (λ (rs : List (List Datum)). HasPut start new v.written fs [] rows rs) (sym is) put;
      held = subst (λ (us : Vec (Rose Layout) Global). IsHeld fs us.items rows (rows_held v) v.written) (sym same)
          (subst (λ (rs : List (List Datum)). IsHeld fs ls rows rs v.written) (sym is) held);
      each = subst (λ (us : Vec (Rose Layout) Global). All (IsWeighable us.items) v.held.items) (sym same)
          (each ls holds.each);
      weighed = subst (λ (us : Vec (Rose Layout) Global). AreWeighed (kids_of us.items) v.weights.items (rows_held v))
          (sym same) known;
      counted = omega (arith, size, behind, counted, left);
      within = omega (arith, within, bound, few, left);
      place = place;
      filled = filled;
      first = first;
    }

-- how many batches have these rows

many-rows : (bs : List Batch) → All HasRows bs → length bs ≤ length (rows_of bs)
many-rows [] filled = omega arith
many-rows (b ∷ bs) filled =
    let long = batch-long b in
    let both = length-append (batch_rows b) (rows_of bs) in
    let rest = many-rows bs (All-tail HasRows b bs filled) in
    let some : 0 < b.rows = All-head HasRows b bs filled in
    omega (arith, long, both, rest, some)

few-batches : (bs : List Batch) (from : ℕ) → All HasRows bs → IsInFirst from bs
    → length bs ≤ length (drop from (rows_of bs))
few-batches [] from filled first = omega arith
few-batches (b ∷ bs) from filled first =
    let long = batch-long b in
    let both = length-append (batch_rows b) (rows_of bs) in
    let behind = length-drop from (rows_of (b ∷ bs)) in
    let rest = many-rows bs (All-tail HasRows b bs filled) in
    omega (arith, long, both, behind, rest, first)

last-held : (src held : List (List Datum)) (left all : ℕ) → src ≡ held → all ≡ length held
    → last_rows left src ≡ drop (all - left) held
last-held src held left all same counted =
    ap (last_rows left) same ∙ ap (λ n. drop (n - left) held) (sym counted)

pub released-writes :
    (start now new : Sunk) (fs : List (Rose NamedType)) (rows : List (List Datum)) (w v : TableWriter)
    (src : List (List Datum)) (left written : ℕ) → Holds start now fs rows w → src ≡ rows_held w → left ≤ length src
    → left < max_batch_rows → HasPut start new written fs [] rows (last_rows left src)
    → IsHeld fs w.layouts.items rows (last_rows left src) written → v.layouts ≡ w.layouts → v.left ≡ left
    → v.written ≡ written → rows_held v ≡ drop (w.left - left) (rows_held w)
    → ((us : List (Rose Layout)) → All (IsWeighable us) w.held.items → All (IsWeighable us) v.held.items)
    → v.weights.items ≡ drop (min (w.left - left) (length w.weights.items)) w.weights.items
    → v.from ≤ length (rows_of v.held.items) → v.from ≤ w.from + (w.left - left)
    → (All HasRows w.held.items → All HasRows v.held.items)
    → (IsInFirst w.from w.held.items → IsInFirst v.from v.held.items) → IsWriting start new fs rows v
released-writes start now new fs rows w v src left written holds same within few put held layouts is out rest each
    weights place bound filled first =
    let counted = holds.counted in
    let last = last-held src (rows_held w) left w.left same counted in
    let size = ap length same in
    let put_there : HasPut start new v.written fs [] rows (drop (w.left - left) (rows_held w)) =
    subst (λ (n : ℕ). HasPut start new n fs [] rows (drop (w.left - left) (rows_held w))) (sym out)
    (subst (λ (rs : List (List Datum)). HasPut start new written fs [] rows rs) last put) in
    let held_there : IsHeld fs w.layouts.items rows (drop (w.left - left) (rows_held w)) v.written =
    subst (λ (n : ℕ). IsHeld fs w.layouts.items rows (drop (w.left - left) (rows_held w)) n) (sym out)
    (subst (λ (rs : List (List Datum)). IsHeld fs w.layouts.items rows rs written) last held) in
    let last_holds = holds-last start now new fs rows w v (w.left - left) holds layouts put_there held_there (omega arith)
    (omega (arith, is, within, size, counted)) rest each weights place bound (filled holds.filled) (first holds.first) in
    let many = few-batches v.held.items v.from last_holds.filled last_holds.first in
    let all = last_holds.counted in
    record { holds = last_holds; few = omega (arith, is, few); batches = omega (arith, many, all) }

-- memory was refused before anything of the batch was put

pub stops-before :
    (start now : Sunk) (fs : List (Rose NamedType)) (rows : List (List Datum)) (w : TableWriter) (b : Batch)
    (heaviest written : ℕ) → Holds start now fs rows w → MayCome fs rows b heaviest → written ≡ w.written
    → StopsIn start now (Memory written) fs [] (rows ++ batch_rows b)
stops-before start now fs rows w b heaviest written holds comes is =
    subst (λ (n : ℕ). StopsIn start now (Memory n) fs [] (rows ++ batch_rows b)) (sym is)
    (stops-memory start now w.written fs [] (rows ++ batch_rows b) (rows_held w ++ batch_rows b)
    (put-more start now w.written fs [] rows (rows_held w) (batch_rows b) holds.put comes.sound))

-- a row's position is in the batches from it on
pub within-step : (bs : List Batch) (i : ℕ) (b : Batch) (start : ℕ) → i < length bs → b ≡ get_or bs i b
    → b.rows ≤ start → start ≤ length (rows_of (drop i bs)) → start - b.rows ≤ length (rows_of (drop (i + 1) bs))
within-step bs i b start h e past within =
    let split = ap length (rows-split bs i b h e) in
    let both = length-append (batch_rows b) (rows_of (drop (i + 1) bs)) in
    let long = batch-long b in
    omega (arith, split, both, long, past, within)

-- the rows from a position on, where some more are dropped
pub released : (bs held : List Batch) (from count p start : ℕ) (sliced : List Batch) → sliced ≡ bs
    → drop start (rows_of (drop p sliced)) ≡ drop (from + count) (rows_of sliced) → held ≡ drop p bs
    → drop start (rows_of held) ≡ drop count (drop from (rows_of bs))
released bs held from count p start sliced e place kept =
    ap (λ h. drop start (rows_of h)) (kept ∙ ap (drop p) (sym e)) ∙ place
    ∙ ap (λ xs. drop (from + count) (rows_of xs)) e ∙ sym (drop-drop count from (rows_of bs))

-- a writer without rows
pub begins :
    (start now : Sunk) (fs : List (Rose NamedType)) (w : TableWriter) → HasPut start now w.written fs [] [] []
    → kids_of w.layouts.items ≡ trees fs → AreColumns fs → AreLayouts (trees fs) → w.held.items ≡ []
    → w.weights.items ≡ [] → w.from ≡ 0 → w.left ≡ 0 → w.written ≤ 2 ^ 39 → IsWriting start now fs [] w
begins start now fs w put same columns known none weights from left small =
    let no_rows : rows_held w ≡ [] = ap (λ bs. drop w.from (rows_of bs)) none ∙ ap (λ k. drop k []) from in
    let R : List Datum → Type 0 = λ row. row_weight (kids_of w.layouts.items) row ≤ max_light_row in
    let size = ap length no_rows in
    let held : IsHeld fs w.layouts.items [] [] w.written = record {
      layouts = same;
      columns = columns;
      known = known;
      sound = All-nil (IsRow fs);
      few = omega arith;
      short = omega (arith, small);
    } in
    record {
      holds = record {
        put = subst (λ (rs : List (List Datum)). HasPut start now w.written fs [] [] rs) (sym no_rows) put;
        held = subst (λ (rs : List (List Datum)). IsHeld fs w.layouts.items [] rs w.written) (sym no_rows) held;
        each = subst (All (IsWeighable w.layouts.items)) (sym none) (All-nil (IsWeighable w.layouts.items));
        weighed = inl (weights, subst (λ (rs : List (List Datum)). All R rs) (sym no_rows) (All-nil R));
        counted = left ∙ sym size;
        within = omega (arith, left, from);
        place = omega (arith, from);
        filled = subst (All HasRows) (sym none) (All-nil HasRows);
        first = subst (IsInFirst w.from) (sym none) tt;
      };
      few = omega (arith, left);
      batches = let size = ap length none in omega (arith, size);
    }
