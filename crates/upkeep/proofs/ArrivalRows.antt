-- What is known of rows of a batch, and of the rows of a table that they become.
use Rattle.std.proofs.Common.{
  ◌≡◌,
  ℕ,
  zero,
  suc,
  ◌+◌,
  ◌-◌,
  ◌<◌,
  ◌≤◌,
  All,
  Bool,
  true,
  false,
  if◌then◌else◌,
  List,
  [],
  ◌∷◌,
  ◌++◌,
  Option,
  None,
  Some,
  arith,
  cond,
  count_by,
  get_or,
  length,
  map,
  refl,
  ap,
  ap₂,
  not,
  ◌&&◌,
  ◌||◌,
  true≢false,
  sym,
  subst,
  take,
  ◌∙◌,
}
use Rattle.std.specs.List.{AllByRecursion, list_any}
use Rattle.std.specs.Option.{option_and_then, option_map}
use Rattle.std.proofs.lemmas.List.{
  get_or-append-add,
  get_or-map,
  length-append,
  length-map,
  take-take,
}
use Rattle.std.proofs.lemmas.List.FromFn.{get_or-map-range_with_len, length-map-range_with_len}
use Rattle.std.proofs.lemmas.List.Sums.{count_by-le-length, count_by_more_no, count_by_more_yes, sum_by-take-le}
use Rattle.std.proofs.lemmas.Simd.{map-map}
use Rattle.std.proofs.lemmas.List.Elements.{All-get_or}
use Rattle.std.proofs.lemmas.Bool.{lt-ltb}
use Rattle.std.proofs.lemmas.Option.{slice_get-get_or}
use Rattle.std.specs.Prelude.{slice_set}
use Rattle.values.specs.Datum.{Datum, null}
use Rattle.arrays.specs.Checked.{CheckedColumn}
use Rattle.bitmaps.specs.Truths.{Truth}
use Rattle.schema_meta.specs.Rows.{rows_from}
use Rattle.view_lang.specs.Cells.{cell_at}
use Rattle.view_lang.specs.Config.{View}
use Rattle.view_lang.specs.Filter.{Filter, Filters, all_of, compare, negation, no_part, null_in, one_of, part}
use Rattle.view_lang.specs.declared.filter.Operand.{Operand}
use Rattle.view_lang.specs.declared.filter.Operand.TheVariants as operand
use Rattle.view_lang.specs.Joined.{Side, joined_by, joined_row, looked_up, or_missing}
use Rattle.view_lang.specs.Outputs.{Outputs, columns, groups}
use Rattle.view_lang.specs.Truth.{is_true, passes, truth}
use Rattle.view_lang.specs.Views.{passing_row, shown_row}
use Rattle.view_lang.specs.declared.view.Lookup.{Lookup}
use Rattle.column_truths.specs.RowTruths.{AreWithin, IsWithin, OperandIsWithin, TruthIsOfFirstCells, row_at as cells_of_row, truths_in}
use Rattle.sub_groups.specs.FilterParts.{
  fails_other,
  is_main,
  is_main_part,
  name_only,
  operand_names,
  parts_in,
  parts_of_filter,
  passes_main,
  passes_others,
}
use Rattle.sub_groups.proofs.FilterSplit.{passes_both}
use Rattle.row_keys.specs.Batches.{batch_rows, cells_in}
use Rattle.row_keys.specs.NumberLaws.{with_new}
use Rattle.row_keys.specs.Slots.{Slot, new_slot, no_slot, row_of}
use Rattle.row_keys.specs.Store.{Store}
use Rattle.upkeep.specs.Arrivals.{
  AreReferring,
  Describes,
  DescribesSome,
  EachDescribes,
  IsDropped,
  last_rows,
  opened_at,
  opened_first,
  rows_of_numbers,
}
use Rattle.upkeep.specs.Stores.{rows_at, rows_in}
use Rattle.upkeep.specs.ViewStates.{IsDroppedLink, link_row, projected_by, projected_row, referring_row}
use Rattle.upkeep.specs.declared.view_state.Links.{Links}
use Rattle.upkeep.specs.declared.view_state.Links.TheVariants as links
use Rattle.upkeep.specs.declared.arrivals.Arrival.{Arrival}
use Rattle.upkeep.proofs.ChangedStores.{rows_now}
use Rattle.upkeep.proofs.MainTable.{batch_length}

-- The rows of a batch

row-from : (batch : List CheckedColumn) (i n k : ℕ) → k < n
    → get_or (rows_from (cells_in batch) i n) k [] ≡ cells_of_row batch (i + k)
unfolding rows_from
row-from batch i zero k below = absurd (omega (arith, below))
row-from batch i (suc n) zero below =
    map-map (λ (c : List Datum). get_or c i null) (λ (c : CheckedColumn). c.cells) batch
    ∙ ap (cells_of_row batch) (omega arith)
row-from batch i (suc n) (suc k) below =
    row-from batch (i + 1) n k (omega (arith, below)) ∙ ap (cells_of_row batch) (omega arith)

batch-row : (batch : List CheckedColumn) (n k : ℕ) → k < n
    → get_or (batch_rows n batch) k [] ≡ cells_of_row batch k
batch-row batch n k below = row-from batch 0 n k below ∙ ap (cells_of_row batch) (omega arith)

-- A row that a filter drops, whatever follows it

module _ (law : TruthIsOfFirstCells) (f : Filter) (o : Option Filter) (row : List Datum) (is : o ≡ Some f)
    (within : IsWithin (length row) f) (isnt : is_true (truth row f) ≡ false) where
  keep : List Datum → Option (List Datum)
  keep r = cond (passes o r) (Some r) None

  not-kept : (r : List Datum) → truth r f ≡ truth row f → keep r ≡ None
  unfolding passes keep
  not-kept r same =
      ap (λ p. cond (passes p r) (Some r) None) is ∙ ap (λ t. cond (is_true t) (Some r) None) same
      ∙ ap (λ b. cond b (Some r) None) isnt

  not-joined : (more : Option (List Datum)) → option_and_then keep (option_map (λ cells. row ++ cells) more) ≡ None
  not-joined None = refl
  not-joined (Some cells) = not-kept (row ++ cells) (law row cells f within)

  not-found : (l : Option Lookup) (cells : Option (List Datum)) → option_and_then keep (joined_by l row cells) ≡ None
  not-found None cells = not-kept row refl
  not-found (Some l) cells = not-joined (or_missing l.missing l.columns cells)

dropped : (law : TruthIsOfFirstCells) (v : View) (f : Filter) (row : List Datum) → v.filter ≡ Some f
    → IsWithin (length row) f → is_true (truth row f) ≡ false → IsDropped v row
unfolding joined_row keep
dropped law v f row is within isnt side =
    not-found law f v.filter row is within isnt v.lookup (looked_up v.lookup side row)

-- It fails the part that the main table decides alone: no conjunct names another column.

within_operand : (n : ℕ) (o : Operand) → OperandIsWithin n o → operand_names (is_main n) o ≡ true
within_operand n (operand.Constant d) within = refl
within_operand n (operand.Column k) within = lt-ltb k n within

both_are : (a b : Bool) → a ≡ true → b ≡ true → (a && b) ≡ true
both_are a b x y = ap₂ (λ c d. c && d) x y

mutual
  within_names : (n : ℕ) (f : Filter) → IsWithin n f → is_main_part n f ≡ true
  within_names n (compare c k o) within =
      both_are (is_main n k) (operand_names (is_main n) o) (lt-ltb k n within.0) (within_operand n o within.1)
  within_names n (null_in k) within = lt-ltb k n within
  within_names n (negation f) within = within_names n f within
  within_names n (all_of fs) within = within_each n fs within
  within_names n (one_of fs) within = within_each n fs within

  within_each : (n : ℕ) (fs : Filters) → AreWithin n fs → name_only (is_main n) fs ≡ true
  within_each n no_part within = refl
  within_each n (part f fs) within =
      both_are (is_main_part n f) (name_only (is_main n) fs) (within_names n f within.0) (within_each n fs within.1)

each_main : (n : ℕ) (fs : Filters) → AreWithin n fs → AllByRecursion (λ g. is_main_part n g ≡ true) (parts_in fs)
each_main n no_part within = tt
each_main n (part f fs) within = (within_names n f within.0, each_main n fs within.1)

parts_main : (n : ℕ) (f : Filter) → IsWithin n f
    → AllByRecursion (λ g. is_main_part n g ≡ true) (parts_of_filter f)
parts_main n (compare c k o) within = (within_names n (compare c k o) within, tt)
parts_main n (null_in k) within = (within_names n (null_in k) within, tt)
parts_main n (negation f) within = (within_names n (negation f) within, tt)
parts_main n (all_of fs) within = each_main n fs within
parts_main n (one_of fs) within = (within_names n (one_of fs) within, tt)

no_other : (n : ℕ) (row : List Datum) (gs : List Filter) → AllByRecursion (λ g. is_main_part n g ≡ true) gs
    → list_any (fails_other n row) gs ≡ false
no_other n row [] main = refl
no_other n row (g ∷ gs) main =
    ap₂ (λ a b. (not a && not (is_true (truth row g))) || b) main.0 (no_other n row gs main.1)

left_false : (a b : Bool) → b ≡ true → (a && b) ≡ false → a ≡ false
left_false true b is both = absurd (true≢false (sym is ∙ both))
left_false false b is both = refl

fails_alone : (n : ℕ) (o : Option Filter) (f : Filter) (row : List Datum) → o ≡ Some f → IsWithin n f
    → is_true (truth row f) ≡ false → passes_main n o row ≡ false
unfolding passes
fails_alone n o f row is within isnt =
    left_false (passes_main n o row) (passes_others n o row)
    (ap (λ x. passes_others n x row) is ∙ ap not (no_other n row (parts_of_filter f) (parts_main n f within)))
    (sym (passes_both n o row) ∙ ap (λ x. passes x row) is ∙ isnt)

pub batch_tells :
    (law : TruthIsOfFirstCells) (v : View) (f : Filter) (batch : List CheckedColumn) (n : ℕ) (a : Arrival)
    → v.filter ≡ Some f → IsWithin (length batch) f → a.truths ≡ truths_in n batch f
    → AreReferring v.lookup (batch_rows n batch) a.looked_up.items → Describes v (batch_rows n batch) (Some a)
batch_tells law v f batch n a is within truths refers k below =
    let inside : k < n = subst (λ m. k < m) (batch_length (cells_in batch) n) below in
    let here : get_or a.truths k None ≡ truth (cells_of_row batch k) f =
    ap (λ (ts : List Truth). get_or ts k None) truths
    ∙ get_or-map-range_with_len (λ i. truth (cells_of_row batch i) f) 0 n k k None inside (omega arith) in
    let long : length (cells_of_row batch k) ≡ length batch =
    length-map batch (λ (c : CheckedColumn). get_or c.cells k null) in
    record {
      there = subst (λ m. k < m)
          (sym (ap length truths ∙ length-map-range_with_len (λ i. truth (cells_of_row batch i) f) 0 n)) inside;
      dropped = λ isnt.
          subst (IsDropped v) (sym (batch-row batch n k inside))
          (dropped law v f (cells_of_row batch k) is (subst (λ m. IsWithin m f) (sym long) within)
          (ap is_true (sym here) ∙ isnt));
      apart = λ isnt.
          subst (λ (row : List Datum). passes_main (length row) v.filter row ≡ false) (sym (batch-row batch n k inside))
          (fails_alone (length (cells_of_row batch k)) v.filter f (cells_of_row batch k) is
          (subst (λ m. IsWithin m f) (sym long) within) (ap is_true (sym here) ∙ isnt));
      refers = refers k below;
    }

pub none_refers : (n : ℕ) (batch : List CheckedColumn) → AreReferring None (batch_rows n batch) []
none_refers n batch k below = refl

pub cells_refer :
    (n : ℕ) (batch : List CheckedColumn) (l : Lookup) (column : CheckedColumn) (cells : List Datum)
    → l.on < length batch → column ≡ get_or batch l.on column → All (λ c. length c.cells ≡ n) batch
    → cells ≡ column.cells
    → AreReferring (Some l) (batch_rows n batch) cells
cells_refer n batch l column cells at there long same k below =
    let inside : k < n = subst (λ m. k < m) (batch_length (cells_in batch) n) below in
    let is : get_or batch l.on column ≡ column = sym there in
    let many : length cells ≡ n =
    ap length same
    ∙ subst (λ (c : CheckedColumn). length c.cells ≡ n) is
    (All-get_or (λ (c : CheckedColumn). length c.cells ≡ n) batch l.on column at long) in
    let cell : cell_at (get_or (batch_rows n batch) k []) l.on ≡ get_or cells k null =
    ap (λ (row : List Datum). cell_at row l.on) (batch-row batch n k inside)
    ∙ get_or-map (λ (c : CheckedColumn). get_or c.cells k null) batch l.on column null at
    ∙ ap (λ (c : CheckedColumn). get_or c.cells k null) is
    ∙ ap (λ (ds : List Datum). get_or ds k null) (sym same) in
    ap (λ d. Some (d ∷ [])) cell
    ∙ ap (option_map (λ d. d ∷ [])) (sym (slice_get-get_or cells k null (omega (arith, inside, many))))

-- The same rows once they are stored

pub stored_tells :
    (v : View) (o : Option Arrival) (old slots : List Slot) (rows : List (List Datum)) (n : ℕ)
    → slots ≡ with_new old rows → length rows ≡ n → Describes v rows o → Describes v (last_rows n slots) o
stored_tells v o old slots rows n is long tells k below =
    let first : ℕ = length slots - n in
    let inside : k < n = subst (λ m. k < m) (length-map-range_with_len (row_of slots) first n) below in
    let all : length (with_new old rows) ≡ length old + length (map new_slot rows) =
    length-append old (map new_slot rows) in
    let many : length (map new_slot rows) ≡ length rows = length-map rows new_slot in
    let total : length slots ≡ length (with_new old rows) = ap length is in
    let number : first + k ≡ length old + k = omega (arith, all, many, total, long) in
    let here : get_or (last_rows n slots) k [] ≡ get_or rows k [] =
    get_or-map-range_with_len (row_of slots) first n k (length old + k) [] inside number
    ∙ ap (λ (ss : List Slot). row_of ss (length old + k)) is
    ∙ ap (λ (s : Slot). s.row)
    (get_or-append-add old (map new_slot rows) k no_slot
    ∙ get_or-map new_slot rows k [] no_slot (omega (arith, inside, long))) in
    subst (DescribesSome v o k) (sym here) (tells k (omega (arith, inside, long)))

pub each_stored :
    (views : List View) (os : List (Option Arrival)) (old slots : List Slot) (rows : List (List Datum)) (n : ℕ)
    → slots ≡ with_new old rows → length rows ≡ n → EachDescribes views rows os → EachDescribes views (last_rows n slots) os
each_stored views [] old slots rows n is long each = tt
each_stored [] (o ∷ os) old slots rows n is long each = tt
each_stored (v ∷ vs) (o ∷ os) old slots rows n is long each = (
  stored_tells v o old slots rows n is long each.0,
  each_stored vs os old slots rows n is long each.1,
)

pub appended_tells :
    (stores : List Store) (views us vs : List View) (os ps : List (Option Arrival)) (s t : Store)
    (rows given : List (List Datum)) (n : ℕ) → us ≡ views → vs ≡ views → ps ≡ os → given ≡ rows → 0 < length stores
    → t.slots ≡ with_new s.slots rows → length rows ≡ n → EachDescribes us given os
    → EachDescribes vs (last_rows n (rows_at (rows_in (slice_set stores 0 t)) 0)) ps
appended_tells stores views us vs os ps s t rows given n first after same is main made long each =
    let slots : List Slot = rows_at (rows_in (slice_set stores 0 t)) 0 in
    let told : EachDescribes us rows os = subst (λ rs. EachDescribes us rs os) is each in
    let stored : EachDescribes us (last_rows n slots) os =
    each_stored us os s.slots slots rows n (rows_now stores 0 t main ∙ made) long told in
    subst (λ (ws : List View). EachDescribes ws (last_rows n slots) ps) (first ∙ sym after)
    (subst (EachDescribes us (last_rows n slots)) (sym same) stored)

-- Views one after the other

pub each_push :
    (views : List View) (rows : List (List Datum)) (os : List (Option Arrival)) (v : View) (o : Option Arrival)
    → v ≡ get_or views (length os) v → Describes v rows o → EachDescribes views rows os
    → EachDescribes views rows (os ++ o ∷ [])
each_push [] rows [] v o at tells each = tt
each_push [] rows (p ∷ ps) v o at tells each = tt
each_push (w ∷ ws) rows [] v o at tells each = (subst (λ (x : View). Describes x rows o) at tells, tt)
each_push (w ∷ ws) rows (p ∷ ps) v o at tells each = (each.0, each_push ws rows ps v o at tells each.1)

none_tells : (v : View) (rows : List (List Datum)) (o : Option Arrival) → o ≡ None → Describes v rows o
none_tells v rows o is k below = subst (λ p. DescribesSome v p k (get_or rows k [])) (sym is) tt

pub each_at :
    (views : List View) (rows : List (List Datum)) (os : List (Option Arrival)) (place : ℕ) (v : View)
    (o : Option Arrival) → v ≡ get_or views place v → o ≡ get_or os place None → place < length views
    → EachDescribes views rows os → Describes v rows o
each_at [] rows os place v o at is below each = absurd (omega (arith, below))
each_at (w ∷ ws) rows [] place v o at is below each = none_tells v rows o is
each_at (w ∷ ws) rows (p ∷ ps) zero v o at is below each =
    subst (λ (x : View). Describes x rows o) (sym at) (subst (Describes w rows) (sym is) each.0)
each_at (w ∷ ws) rows (p ∷ ps) (suc place) v o at is below each =
    each_at ws rows ps place v o at is (omega (arith, below)) each.1

-- A row of those with these numbers
pub tells_one :
    (v : View) (o : Option Arrival) (slots : List Slot) (ns : List ℕ) (k : ℕ) → k < length ns
    → Describes v (rows_of_numbers slots ns) o → DescribesSome v o k (row_of slots (get_or ns k 0))
tells_one v o slots ns k below tells =
    let long : length (rows_of_numbers slots ns) ≡ length ns = length-map ns (row_of slots) in
    subst (DescribesSome v o k) (get_or-map (row_of slots) ns k 0 [] below) (tells k (omega (arith, below, long)))

-- The projected row of a row that is dropped
pub made-none : (os : Outputs) (o : Option (List Datum)) → o ≡ None → projected_by os o ≡ None
made-none (columns outputs) o is = ap (option_map (shown_row outputs)) is
made-none (groups by outputs having) o is = is

pub made_none : (v : View) (side : Side) (row : List Datum) → IsDropped v row → projected_row v side row ≡ None
made_none v side row dropped = made-none v.outputs (passing_row v side row) (dropped side)

-- What links store of it
pub dropped_link :
    (l : Links) (v : View) (row : List Datum) (cell : Option Datum) → referring_row v row ≡ option_map (λ d. d ∷ []) cell
    → passes_main (length row) v.filter row ≡ false → IsDroppedLink l cell (link_row l v row)
dropped_link (links.Rows r) v row cell refers apart = refers
dropped_link (links.SubGroups s) v row cell refers apart = ap (λ b. cond b (Some row) None) apart

-- How many rows are opened

first-more : (p : Truth → Bool) (ts : List Truth) (k : ℕ) (b : Bool) → p (get_or ts k None) ≡ b → k < length ts
    → count_by p (take (k + 1) ts) ≡ count_by p (take k ts) + (if b then 1 else 0)
first-more p ts k true is below = count_by_more_yes p ts k None below is
first-more p ts k false is below =
    let same = count_by_more_no p ts k None below is in omega (arith, same)

pub opened_next : (v : View) (o : Option Arrival) (k : ℕ) (row : List Datum) → DescribesSome v o k row
    → opened_first o (k + 1) ≡ opened_first o k + opened_at o k
opened_next v None k row tells = refl
opened_next v (Some a) k row tells =
    first-more is_true a.truths k (is_true (get_or a.truths k None)) refl tells.there

pub opened_grows : (o : Option Arrival) (k n : ℕ) → k ≤ n → opened_first o k ≤ opened_first o n
opened_grows None k n few = few
opened_grows (Some a) k n few =
    subst (λ (ts : List Truth). count_by is_true ts ≤ count_by is_true (take n a.truths)) (take-take k n a.truths few)
    (sum_by-take-le (λ t. cond (is_true t) 1 0) (take n a.truths) k)

taken-few : {X : Type 0} (n : ℕ) (xs : List X) → length (take n xs) ≤ n
taken-few zero xs = omega arith
taken-few (suc n) [] = omega arith
taken-few (suc n) (x ∷ xs) = let rest = taken-few n xs in omega (arith, rest)

pub opened_few : (o : Option Arrival) (n : ℕ) → opened_first o n ≤ n
opened_few None n = omega arith
opened_few (Some a) n =
    let few = count_by-le-length is_true (take n a.truths) in
    let short = taken-few n a.truths in omega (arith, few, short)

pub ruleset batch_laws = (batch_tells, none_refers, cells_refer)

pub ruleset dropped_laws = (made_none)

pub ruleset opened_laws = (opened_few)
