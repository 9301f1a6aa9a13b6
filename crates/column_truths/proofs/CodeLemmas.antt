-- Truths by code.
use Rattle.std.proofs.Common.{◌≡◌, ℕ, ◌<◌, true, false, List, Ok, Some, None, length, get_or, refl, ap, sym, subst, ◌∙◌, arith}
use Rattle.std.specs.Prelude.{ℤ, pos, negsuc, ◌<ℤ◌, ◌≤ℤ◌, Bool, Option, if◌then◌else◌, map, slice_get}
use Rattle.std.specs.List.{range_with_len}
use Rattle.std.proofs.lemmas.List.{get_or_past, get_or-map, length-map}
use Rattle.std.proofs.lemmas.List.FromFn.{fill_by_all}
use Rattle.std.proofs.lemmas.Option.{get_or_from_slice_get, slice_get_within}
use Rattle.bitmaps.specs.Truths.{Truth}
use Rattle.values.specs.Datum.{Datum, null}
use Rattle.values.specs.Reading.{Reading, IsValid}
use Rattle.values.specs.Rose.{Rose, node, Roses}
use Rattle.values.specs.Layouts.{bytes_in}
use Rattle.values.specs.declared.faults.StreamFault.TheVariants as fault
use Rattle.values.specs.declared.layout.IntWidth.{IntWidth}
use Rattle.values.specs.declared.layout.Layout.{Layout}
use Rattle.values.specs.declared.layout.Layout.TheVariants.{Int}
use Rattle.values.proofs.Readings.{valid_Ok, must_Ok}
use Rattle.array_layout.specs.declared.array.ArrayData.{ArrayData}
use Rattle.array_layout.specs.declared.array.DictionaryValues.{DictionaryValues}
use Rattle.array_layout.specs.Placing.{bytes_of}
use Rattle.array_layout.specs.Buffers.{is_null, number_at}
use Rattle.array_layout.specs.Cells.{cell, cell_by, cells, coded_by, first_cell, indexed, row, slot_by}
use Rattle.arrays.specs.Checked.{valid_of}
use Rattle.arrays.proofs.ColumnCells.{cell-valid, cell-stands, cells-length}
use Rattle.view_lang.specs.Truth.{compared}
use Rattle.view_lang.specs.declared.filter.Comparison.{Comparison}
use Rattle.column_truths.specs.Compared.{compared_with, indexed_truth, slot_truth}

pub index_negative : (ts : List Truth) (z : ℤ) → z <ℤ pos 0 → None ≡ indexed_truth ts z
index_negative ts (pos n) h = absurd (grind arith)
index_negative ts (negsuc n) h = refl

pub index_past : (ts : List Truth) (z : ℤ) → pos (length ts) ≤ℤ z → None ≡ indexed_truth ts z
index_past ts (pos n) h = sym (get_or_past ts n None (grind arith))
index_past ts (negsuc n) h = refl

pub index_here : (ts : List Truth) (z : ℤ) (n : ℕ) (t : Truth) → pos n ≡ z → t ≡ get_or ts n None
    → t ≡ indexed_truth ts z
index_here ts z n t is found = let P : ℤ → Type 0 = λ x. t ≡ indexed_truth ts x in subst P is found

pub ruleset index_laws = (index_negative, index_past, index_here)

-- the truth of a value that an index has
value_truth : (c : Comparison) (k : Datum) (ds : List Datum) (z : ℤ) (d : Datum) → indexed ds z ≡ Ok d
    → compared c d k ≡ indexed_truth (compared_with c k ds) z
value_truth c k ds (pos n) d read =
    let f : Datum → Truth = λ e. compared c e k in
    let found : slice_get ds n ≡ Some d = must_Ok fault.DictionaryIndex (slice_get ds n) d read in
    ap f (sym (get_or_from_slice_get ds n d null found))
    ∙ sym (get_or-map f ds n null None (slice_get_within ds n d found))
value_truth c k ds (negsuc n) d read = cc

-- a slot that isn't null
coded_truth : (l : Layout) (w : IntWidth) (s : Bool) (c : Comparison) (k : Datum) (ds : List Datum) (indices : List ℕ)
    (i : ℕ) (d : Datum)
    → l ≡ Int w s → coded_by l ds indices i ≡ Ok d
    → compared c d k ≡ indexed_truth (compared_with c k ds) (number_at s (bytes_in w) indices i)
coded_truth l w s c k ds indices i d is read =
    let P : Layout → Type 0 = λ m. coded_by m ds indices i ≡ Ok d in
    value_truth c k ds (number_at s (bytes_in w) indices i) d (subst P is read)

-- a slot of an array with a dictionary
slot_by_truth : (o : Option DictionaryValues) (v : DictionaryValues) (body : List ℕ) (p : ArrayData)
    (item : ℕ → Reading Datum)
    (children : ℕ → Reading (List Datum)) (w : IntWidth) (s : Bool) (c : Comparison) (k : Datum) (i : ℕ) (d : Datum)
    → o ≡ Some v → p.layout ≡ Int w s → slot_by o body p item children i ≡ Ok d
    → compared c d k
    ≡ indexed_truth (compared_with c k v.values) (number_at s (bytes_in w) (bytes_of body p.values) i)
slot_by_truth o v body p item children w s c k i d has is read =
    let P : Option DictionaryValues → Type 0 = λ m. slot_by m body p item children i ≡ Ok d in
    coded_truth p.layout w s c k v.values (bytes_of body p.values) i d is (subst P has read)

pub by_null : (b : Bool) (m : Reading Datum) (c : Comparison) (k d : Datum) (t : Truth)
    → (if b then Ok null else m) ≡ Ok d → (m ≡ Ok d → compared c d k ≡ t) → compared c d k ≡ (if b then None else t)
by_null true m c k d t read known =
    let same : null ≡ d = cc in
    ap (λ e. compared c e k) (sym same)
by_null false m c k d t read known = known read

pub cell_truth : (body : List ℕ) (p : ArrayData) (kids : Roses ArrayData) (v : DictionaryValues) (w : IntWidth)
    (s : Bool) (c : Comparison) (k : Datum) (i : ℕ) (d : Datum)
    → p.dictionary ≡ Some v → p.layout ≡ Int w s → cell body (node p kids) i ≡ Ok d
    → compared c d k
    ≡ slot_truth (bytes_of body p.validity) (bytes_of body p.values) w s (compared_with c k v.values) i
unfolding cell_by slot_truth
cell_truth body p kids v w s c k i d has is read =
    by_null (is_null (bytes_of body p.validity) i)
    (slot_by p.dictionary body p (λ j. first_cell body kids j) (λ j. row body kids j) i) c k d
    (indexed_truth (compared_with c k v.values) (number_at s (bytes_in w) (bytes_of body p.values) i)) read
    (slot_by_truth p.dictionary v body p (λ j. first_cell body kids j) (λ j. row body kids j) w s c k i d has is)

-- all slots
pub codes_compared : (body bits indices : List ℕ) (p : ArrayData) (kids : Roses ArrayData) (v : DictionaryValues)
    (w : IntWidth) (s : Bool) (c : Comparison) (k : Datum) (ts : List Truth)
    → IsValid (cells body (node p kids)) → p.dictionary ≡ Some v → p.layout ≡ Int w s
    → bits ≡ bytes_of body p.validity → indices ≡ bytes_of body p.values → ts ≡ compared_with c k v.values
    → map (slot_truth bits indices w s ts) (range_with_len 0 p.len)
    ≡ compared_with c k (valid_of (cells body (node p kids)))
codes_compared body bits indices p kids v w s c k ts valid has is eb ei et =
    let t : Rose ArrayData = node p kids in
    let ds = valid_of (cells body t) in
    let f : Datum → Truth = λ d. compared c d k in
    let all = cells-length body t valid in
    let F : ℕ → Truth = slot_truth (bytes_of body p.validity) (bytes_of body p.values) w s (compared_with c k v.values) in
    let each : (i : ℕ) → i < p.len → get_or (compared_with c k ds) i (f null) ≡ F i =
    λ i below.
    let read = valid_Ok (cell body t i) (cell-valid body t i valid below) in
    let stands = cell-stands body t i read.0 valid below read.1 in
    get_or-map f ds i null (f null) (omega (arith, below, all))
    ∙ ap f (get_or_from_slice_get ds i read.0 null stands)
    ∙ cell_truth body p kids v w s c k i read.0 has is read.1 in
    ap (λ bs. map (slot_truth bs indices w s ts) (range_with_len 0 p.len)) eb
    ∙ ap (λ is. map (slot_truth (bytes_of body p.validity) is w s ts) (range_with_len 0 p.len)) ei
    ∙ ap (λ us. map (slot_truth (bytes_of body p.validity) (bytes_of body p.values) w s us) (range_with_len 0 p.len)) et
    ∙ sym (fill_by_all F (compared_with c k ds) p.len (f null) (length-map ds f ∙ all) each)
