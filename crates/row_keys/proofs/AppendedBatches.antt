-- A batch that is appended, and why one isn't.
use Rattle.std.proofs.Common.{
  ◌≡◌,
  inr,
  ℕ,
  zero,
  suc,
  ◌+◌,
  ◌<◌,
  ◌≤◌,
  ◌||◌,
  Bool,
  true,
  false,
  List,
  [],
  ◌∷◌,
  ◌++◌,
  None,
  Some,
  All,
  length,
  drop,
  get_or,
  map,
  refl,
  ap,
  sym,
  subst,
  ◌∙◌,
  arith,
}
use Rattle.std.specs.Prelude.{slice_get, nat_lt, if◌then◌else◌}
use Rattle.std.proofs.lemmas.List.{drop_all, drop_more, length-map}
use Rattle.std.proofs.lemmas.List.Elements.{All-append, All-get_or}
use Rattle.std.proofs.lemmas.Bool.{ltb-false}
use Rattle.std.proofs.lemmas.Option.{none-some}
use Rattle.values.specs.Datum.{Datum, is_null, null}
use Rattle.values.specs.Keys.{datum_of_key}
use Rattle.values.specs.Logical.{NamedType, tree_of, trees_of}
use Rattle.values.specs.ColTypes.{IsSingle}
use Rattle.values.specs.Rose.{Rose, kids_of}
use Rattle.values.specs.declared.key.Key.{Key}
use Rattle.values.specs.declared.layout.Layout.{Layout}
use Rattle.arrays.specs.Checked.{CheckedColumn}
use Rattle.schema_meta.specs.Rows.{row_at, rows_from}
use Rattle.view_lang.specs.Causes.{any_among, any_heavy, cause_of, has_null, has_repeated, layouts_of}
use Rattle.view_lang.specs.Cells.{cell_at}
use Rattle.view_lang.specs.Config.{Table}
use Rattle.view_lang.specs.Contents.{Contents, key_in, keys_in}
use Rattle.view_lang.specs.Edits.{append}
use Rattle.view_lang.specs.TableRules.{IsTable, type_of}
use Rattle.view_lang.specs.declared.unfit.Unfit.TheVariants as unfit
use Rattle.row_keys.specs.declared.faults.EditFault.{EditFault}
use Rattle.row_keys.specs.declared.faults.EditFault.TheVariants as fault
use Rattle.row_keys.specs.Batches.{AreAlike, HoldsCells, IsAlike, IsBatch, batch_rows, cells_in, layouts_in}
use Rattle.row_keys.specs.RefusedRows.{RefusesRows, are_many}
use Rattle.row_keys.specs.KeyColumns.{HoldsKeys, PushesKeys, RefusesKeys, fresh}
use Rattle.row_keys.specs.Numbers.{Numbered, live_count, numbered}
use Rattle.row_keys.specs.Slots.{CanRevert, Slot, contents_of, live, new_slot, reverted}
use Rattle.row_keys.specs.Store.{Refuses}
use Rattle.row_keys.specs.Stored.{AreGiven, AreKeyed, IsRight, IsStored, joined, live_keys}
use Rattle.row_keys.proofs.LightRows.{none_heavy}
use Rattle.row_keys.proofs.HeavyRows.{alike_any}
use Rattle.row_keys.proofs.HeldRows.{rows_held}
use Rattle.row_keys.proofs.JoinedNumbers.{
  can_take_added,
  joined_added,
  keyed_added,
  keyed_length,
  keys_live,
  live_counted,
  taken_added,
}
use Rattle.row_keys.proofs.KeyCells.{held_key}
use Rattle.row_keys.proofs.KeyFacts.{neither}
use Rattle.row_keys.proofs.Places.{some_same}

-- What a column of a single type holds is a key.

alike_at :
    (fs : List (Rose NamedType)) (columns : List CheckedColumn) (k : ℕ) (f : Rose NamedType) (c : CheckedColumn)
    → AreAlike (trees_of (kids_of fs)) (layouts_in columns) → slice_get fs k ≡ Some f
    → (k < length columns) × IsAlike (tree_of f) ((get_or columns k c).layouts)
alike_at [] columns k f c alike there = absurd (none-some f there)
alike_at (g ∷ fs) [] k f c alike there = absurd alike
alike_at (g ∷ fs) (d ∷ columns) zero f c alike there =
    let P : Rose NamedType → Type 0 = λ x. IsAlike (tree_of x) d.layouts in (omega arith, subst P (cc there) alike.0)
alike_at (g ∷ fs) (d ∷ columns) (suc k) f c alike there = let r = alike_at fs columns k f c alike.1 there in
    (omega (arith, r.0), r.1)

pub key_within : (t : Table) (columns : List CheckedColumn) (rows : ℕ) → IsTable t → IsBatch t rows columns
    → t.key < length columns
key_within t columns rows is batch = (alike_within t.columns columns t.key is.key.0 batch.alike is.key.1)
  where
    alike_within : (fs : List (Rose NamedType)) (cs : List CheckedColumn) (k : ℕ) (f : Rose NamedType)
        → AreAlike (trees_of (kids_of fs)) (layouts_in cs) → slice_get fs k ≡ Some f → k < length cs
    alike_within [] cs k f alike there = absurd (none-some f there)
    alike_within (g ∷ fs) [] k f alike there = absurd alike
    alike_within (g ∷ fs) (d ∷ cs) zero f alike there = omega arith
    alike_within (g ∷ fs) (d ∷ cs) (suc k) f alike there = let r = alike_within fs cs k f alike.1 there in
        omega (arith, r)

pub single_holds : (f : Rose NamedType) (u : Rose Layout) → IsSingle (type_of f) → IsAlike (tree_of f) u → HoldsKeys u
single_holds f u single alike = λ d held. held_key f d single (alike.holds d held)

pub key_column :
    (t : Table) (columns : List CheckedColumn) (rows : ℕ) (c : CheckedColumn) → IsTable t → IsBatch t rows columns
    → c ≡ get_or columns t.key c → HoldsKeys c.layouts
key_column t columns rows c is batch read =
    let P : CheckedColumn → Type 0 = λ x. HoldsKeys x.layouts in
    subst P (sym read)
    (single_holds is.key.0 (get_or columns t.key c).layouts is.key.2
    (alike_at t.columns columns t.key is.key.0 c batch.alike is.key.1).1)

-- The keys of the rows are the cells of the key column.

cell_in_row : (columns : List CheckedColumn) (k i : ℕ) (c : CheckedColumn) → k < length columns
    → cell_at (row_at (cells_in columns) i) k ≡ get_or ((get_or columns k c).cells) i null
cell_in_row [] k i c below = absurd (omega (arith, below))
cell_in_row (d ∷ columns) zero i c below = refl
cell_in_row (d ∷ columns) (suc k) i c below = cell_in_row columns k i c (omega (arith, below))

keys_from :
    (t : Table) (columns : List CheckedColumn) (i n : ℕ) (c : CheckedColumn) → t.key < length columns
    → c ≡ get_or columns t.key c → i + n ≡ length c.cells
    → keys_in t (rows_from (cells_in columns) i n) ≡ drop i c.cells
unfolding rows_from
keys_from t columns i zero c below read all = sym (drop_all i c.cells (omega (arith, all)))
keys_from t columns i (suc n) c below read all =
    let here : key_in t (row_at (cells_in columns) i) ≡ get_or c.cells i null =
    cell_in_row columns t.key i c below ∙ ap (λ x. get_or x.cells i null) (sym read) in
    ap (λ d. d ∷ keys_in t (rows_from (cells_in columns) (i + 1) n)) here
    ∙ ap (λ ds. get_or c.cells i null ∷ ds) (keys_from t columns (i + 1) n c below read (omega (arith, all)))
    ∙ sym (drop_more c.cells i null (omega (arith, all)))

pub keys_of_rows :
    (t : Table) (columns : List CheckedColumn) (rows : ℕ) (c : CheckedColumn) → IsTable t → IsBatch t rows columns
    → c ≡ get_or columns t.key c
    → c.cells ≡ keys_in t (batch_rows rows columns)
keys_of_rows t columns rows c is batch read =
    let below : t.key < length columns = key_within t columns rows is batch in
    let P : CheckedColumn → Type 0 = λ x. length x.cells ≡ rows in
    let long : length c.cells ≡ rows = subst P (sym read) (All-get_or P columns t.key c below batch.long) in
    sym (keys_from t columns 0 rows c below read (omega (arith, long)))

rows_counted : (columns : List (List Datum)) (i n : ℕ) → length (rows_from columns i n) ≡ n
unfolding rows_from
rows_counted columns i zero = refl
rows_counted columns i (suc n) = ap suc (rows_counted columns (i + 1) n)

pub batch_counted : (columns : List CheckedColumn) (n : ℕ) → length (batch_rows n columns) ≡ n
batch_counted columns n = rows_counted (cells_in columns) 0 n

-- The rows have the keys that they are numbered by.
keyed_new : (t : Table) (rows : List (List Datum)) (ks : List Key) → map datum_of_key ks ≡ keys_in t rows
    → AreKeyed t rows (map fresh ks)
keyed_new t [] [] h = tt
keyed_new t [] (k ∷ ks) h = absurd (cc h)
keyed_new t (r ∷ rs) [] h = absurd (cc h)
keyed_new t (r ∷ rs) (k ∷ ks) h = (cc h, keyed_new t rs ks (cc h))

pub count_added : (xs : List Numbered) (ks : List Key) → live_count (xs ++ map fresh ks) ≡ live_count xs + length ks
count_added [] [] = refl
count_added [] (k ∷ ks) = let c = count_added [] ks in omega (arith, c)
count_added (x ∷ xs) ks = by x.live (count_added xs ks)
  where
    by : (b : Bool) → live_count (xs ++ map fresh ks) ≡ live_count xs + length ks
        → (if b then suc (live_count (xs ++ map fresh ks)) else live_count (xs ++ map fresh ks)) ≡ (if b
        then suc (live_count xs) else live_count xs) + length ks
    by true h = omega (arith, h)
    by false h = h

-- No key of a row that is added is null.
given_added : (xs : List Numbered) (ks : List Key) → AreGiven xs → has_null (map datum_of_key ks) ≡ false
    → AreGiven (xs ++ map fresh ks)
unfolding has_null
given_added [] [] given none n k at = given n k at
given_added [] (j ∷ ks) given none zero k at =
    let a = neither (is_null (datum_of_key j)) (has_null (map datum_of_key ks)) none in
    ap (λ x. is_null (datum_of_key x.key)) (sym (some_same (fresh j) (numbered k true) at)) ∙ a.0
given_added [] (j ∷ ks) given none (suc n) k at =
    let a = neither (is_null (datum_of_key j)) (has_null (map datum_of_key ks)) none in
    given_added [] ks given a.1 n k at
given_added (x ∷ xs) ks given none zero k at = given 0 k at
given_added (x ∷ xs) ks given none (suc n) k at = given_added xs ks (λ m j there. given (suc m) j there) none n k at

-- the causes

cause_none :
    (t : Table) (w : Contents) (rows : List (List Datum)) → has_null (keys_in t rows) ≡ false
    → (has_repeated (keys_in t rows) || any_among (keys_in t rows) (keys_in t w.live)) ≡ false
    → are_many t.max_rows (length w.live) w.appended (length rows) ≡ false
    → any_heavy (layouts_of t) rows ≡ false → cause_of t w (append rows) ≡ None
unfolding cause_of
cause_none t w rows a b c d = rw (a, b, c, d) refl

cause_null : (t : Table) (w : Contents) (rows : List (List Datum)) → has_null (keys_in t rows) ≡ true
    → cause_of t w (append rows) ≡ Some unfit.NullKey
unfolding cause_of
cause_null t w rows a = rw a refl

cause_repeated :
    (t : Table) (w : Contents) (rows : List (List Datum)) → has_null (keys_in t rows) ≡ false
    → (has_repeated (keys_in t rows) || any_among (keys_in t rows) (keys_in t w.live)) ≡ true
    → cause_of t w (append rows) ≡ Some unfit.DuplicateKey
unfolding cause_of
cause_repeated t w rows a b = rw (a, b) refl

cause_many :
    (t : Table) (w : Contents) (rows : List (List Datum)) → has_null (keys_in t rows) ≡ false
    → (has_repeated (keys_in t rows) || any_among (keys_in t rows) (keys_in t w.live)) ≡ false
    → are_many t.max_rows (length w.live) w.appended (length rows) ≡ true
    → cause_of t w (append rows) ≡ Some unfit.TooManyRows
unfolding cause_of
cause_many t w rows a b c = rw (a, b, c) refl

cause_heavy :
    (t : Table) (w : Contents) (rows : List (List Datum)) → has_null (keys_in t rows) ≡ false
    → (has_repeated (keys_in t rows) || any_among (keys_in t rows) (keys_in t w.live)) ≡ false
    → are_many t.max_rows (length w.live) w.appended (length rows) ≡ false
    → any_heavy (layouts_of t) rows ≡ true → cause_of t w (append rows) ≡ Some unfit.CellTooHeavy
unfolding cause_of
cause_heavy t w rows a b c d = rw (a, b, c, d) refl

pub live_keys_are :
    (t : Table) (stored : List (List Datum)) (xs : List Numbered) → IsStored t stored xs
    → live_keys xs ≡ keys_in t (live (joined stored xs))
live_keys_are t stored xs is = sym (keys_live t stored xs is.keyed)

pub keys_unfit :
    (t : Table) (stored : List (List Datum)) (xs : List Numbered) (rows : List (List Datum))
    (e : EditFault) → IsStored t stored xs
    → RefusesKeys (keys_in t rows) xs e → Refuses (cause_of t (contents_of (joined stored xs)) (append rows)) e
keys_unfit t stored xs rows (fault.Unfit unfit.NullKey) is h = cause_null t (contents_of (joined stored xs))
    rows h
keys_unfit t stored xs rows (fault.Unfit unfit.DuplicateKey) is h =
    cause_repeated t (contents_of (joined stored xs)) rows h.0
    (ap (λ ks. has_repeated (keys_in t rows) || any_among (keys_in t rows) ks) (sym (live_keys_are t stored xs is))
    ∙ h.1)
keys_unfit t stored xs rows fault.Memory is h = tt
keys_unfit t stored xs rows (fault.Unfit u) is h = absurd h

single_keys :
    (t : Table) (stored : List (List Datum)) (xs new : List Numbered)
    (rows : List (List Datum))
    → IsStored t stored xs
    → PushesKeys (keys_in t rows) xs new
    → (has_repeated (keys_in t rows)
    || any_among (keys_in t rows) (keys_in t (live (joined stored xs)))) ≡ false
single_keys t stored xs new rows is p =
    ap (λ b. b || any_among (keys_in t rows) (keys_in t (live (joined stored xs)))) p.single
    ∙ ap (λ ks. any_among (keys_in t rows) ks) (sym (live_keys_are t stored xs is)) ∙ p.unused

many_same :
    (t : Table) (stored : List (List Datum)) (xs : List Numbered)
    (columns : List CheckedColumn)
    (n : ℕ) (b : Bool) → IsStored t stored xs
    → are_many t.max_rows (live_count xs) (length xs) n ≡ b
    → are_many t.max_rows (length (live (joined stored xs))) (length (joined stored xs))
    (length (batch_rows n columns)) ≡ b
many_same t stored xs columns n b is h =
    ap (λ m. are_many t.max_rows m (length (joined stored xs)) (length (batch_rows n columns)))
    (live_counted t stored xs is.keyed)
    ∙ ap (λ m. are_many t.max_rows (live_count xs) m (length (batch_rows n columns)))
    (keyed_length t stored xs is.keyed).1
    ∙ ap (λ m. are_many t.max_rows (live_count xs) (length xs) m) (batch_counted columns n) ∙ h

-- A batch whose keys are pushed, and what holds of its rows
module _ {t : Table} {stored : List (List Datum)} {xs new : List Numbered} {columns : List CheckedColumn} {n : ℕ}
    (is : IsStored t stored xs) (batch : IsBatch t n columns)
    (pushed : PushesKeys (keys_in t (batch_rows n columns)) xs new) where
  rows_keyed : AreKeyed t (batch_rows n columns) (map fresh pushed.keys)
  rows_keyed = keyed_new t (batch_rows n columns) pushed.keys pushed.are

  pub slots_appended : joined (stored ++ batch_rows n columns) new
      ≡ joined stored xs ++ map new_slot (batch_rows n columns)
  slots_appended =
      ap (λ ys. joined (stored ++ batch_rows n columns) ys) pushed.pushed
      ∙ joined_added t stored (batch_rows n columns) xs pushed.keys is.keyed rows_keyed

  pub stored_appended : (appended : ℕ) → are_many t.max_rows (live_count xs) appended n ≡ false
      → any_heavy (layouts_in columns) (batch_rows n columns) ≡ false → All HoldsCells columns
      → IsStored t (stored ++ batch_rows n columns) new
  stored_appended appended few light holds =
      let held = rows_held t columns n 0 n batch.alike holds batch.long (omega arith) in
      let lights = none_heavy t (batch_rows n columns)
      (alike_any (layouts_of t) (layouts_in columns) (batch_rows n columns) batch.alike ∙ light) in
      let N : List Datum → Type 0 = λ ds. has_null ds ≡ false in
      let parts = neither (nat_lt t.max_rows (live_count xs + n)) _ few in
      let within : live_count xs + n ≤ t.max_rows = ltb-false t.max_rows (live_count xs + n) parts.0 in
      let many : length pushed.keys ≡ n =
      sym (length-map pushed.keys datum_of_key) ∙ ap length pushed.are ∙ length-map (batch_rows n columns) (key_in t)
      ∙ batch_counted columns n in
      let counted : live_count new ≡ live_count xs + length pushed.keys =
      ap live_count pushed.pushed ∙ count_added xs pushed.keys in
      record {
        table = is.table;
        right = All-append (IsRight t) stored (batch_rows n columns) is.right
            (λ k d below. inr (record { held = held k d below; light = lights k d below }));
        given = subst AreGiven (sym pushed.pushed)
            (given_added xs pushed.keys is.given (subst N (sym pushed.are) pushed.given));
        keyed = subst (AreKeyed t (stored ++ batch_rows n columns)) (sym pushed.pushed)
            (keyed_added t stored (batch_rows n columns) xs (map fresh pushed.keys) is.keyed rows_keyed);
        few = omega (arith, counted, many, within);
      }

  pub batch_fits : are_many t.max_rows (live_count xs) (length xs) n ≡ false
      → any_heavy (layouts_in columns) (batch_rows n columns) ≡ false
      → cause_of t (contents_of (joined stored xs)) (append (batch_rows n columns)) ≡ None
  batch_fits few light =
      cause_none t (contents_of (joined stored xs)) (batch_rows n columns) pushed.given
      (single_keys t stored xs new (batch_rows n columns) is pushed)
      (many_same t stored xs columns n false is few)
      (alike_any (layouts_of t) (layouts_in columns) (batch_rows n columns) batch.alike ∙ light)

  pub rows_unfit : (e : EditFault) → RefusesRows t.max_rows (live_count xs) (length xs) n columns e
      → Refuses (cause_of t (contents_of (joined stored xs)) (append (batch_rows n columns))) e
  rows_unfit (fault.Unfit unfit.TooManyRows) h =
      cause_many t (contents_of (joined stored xs)) (batch_rows n columns) pushed.given
      (single_keys t stored xs new (batch_rows n columns) is pushed)
      (many_same t stored xs columns n true is h)
  rows_unfit (fault.Unfit unfit.CellTooHeavy) h =
      cause_heavy t (contents_of (joined stored xs)) (batch_rows n columns) pushed.given
      (single_keys t stored xs new (batch_rows n columns) is pushed)
      (many_same t stored xs columns n false is h.0)
      (alike_any (layouts_of t) (layouts_in columns) (batch_rows n columns) batch.alike ∙ h.1)
  rows_unfit fault.Memory h = tt
  rows_unfit (fault.Unfit u) h = absurd h

pub appended_back :
    (slots new : List Slot) (columns : List CheckedColumn) (n : ℕ) → new ≡ slots ++ map new_slot (batch_rows n columns)
    → CanRevert n new × (reverted n new ≡ slots)
appended_back slots new columns n is =
    let P : ℕ → Type 0 = λ m. CanRevert m (slots ++ map new_slot (batch_rows n columns))
    × (reverted m (slots ++ map new_slot (batch_rows n columns)) ≡ slots) in
    let Q : List Slot → Type 0 = λ ss. CanRevert n ss × (reverted n ss ≡ slots) in
    subst Q (sym is)
    (subst P (batch_counted columns n) (
      can_take_added slots (batch_rows n columns),
      taken_added slots (batch_rows n columns),
    ))
