-- Stores by number, and the tables and rows that they hold.
use Rattle.std.proofs.Common.{
  ◌≡◌,
  ℕ,
  zero,
  suc,
  ◌<◌,
  All,
  List,
  [],
  ◌∷◌,
  drop,
  length,
  get_or,
  map,
  refl,
  ap,
  subst,
  sym,
  ◌∙◌,
  arith,
}
use Rattle.std.specs.Prelude.{slice_set}
use Rattle.std.proofs.lemmas.List.{length-map}
use Rattle.std.proofs.lemmas.List.Elements.{All-get_or}
use Rattle.view_lang.specs.TableRules.{IsSideTable}
use Rattle.view_lang.specs.World.{no_table, table_at}
use Rattle.row_keys.specs.Slots.{Slot}
use Rattle.row_keys.specs.Store.{Store}
use Rattle.upkeep.specs.Stores.{Rows, rows_at, rows_in, tables_in}

pub at_mapped : {X Y : Type 0} (f : X → Y) (xs : List X) (n : ℕ) (x : X) (d : Y) → x ≡ get_or xs n x → n < length xs
    → get_or (map f xs) n d ≡ f x
at_mapped f [] n x d is below = absurd (omega (arith, below))
at_mapped f (y ∷ ys) zero x d is below = ap f (sym is)
at_mapped f (y ∷ ys) (suc n) x d is below = at_mapped f ys n x d is (omega (arith, below))

pub set_mapped : {X Y : Type 0} (f : X → Y) (xs : List X) (n : ℕ) (x : X) → map f (slice_set xs n x) ≡ slice_set (map f
    xs) n (f x)
set_mapped f [] n x = refl
set_mapped f (y ∷ ys) zero x = refl
set_mapped f (y ∷ ys) (suc n) x = ap (λ zs. f y ∷ zs) (set_mapped f ys n x)

-- setting an element to what it was changes nothing
pub set_same : {X Y : Type 0} (f : X → Y) (xs : List X) (n : ℕ) (x y : X) → x ≡ get_or xs n x → f y ≡ f x
    → map f (slice_set xs n y) ≡ map f xs
set_same f [] n x y is same = refl
set_same f (z ∷ zs) zero x y is same = ap (λ w. w ∷ map f zs) (same ∙ ap f is)
set_same f (z ∷ zs) (suc n) x y is same = ap (λ ws. f z ∷ ws) (set_same f zs n x y is same)

pub table_there : (stores : List Store) (n : ℕ) (s : Store) → s ≡ get_or stores n s → n < length stores
    → table_at (tables_in stores) n ≡ s.table
table_there stores n s is below = at_mapped (λ (x : Store). x.table) stores n s _ is below

-- each table after the first is a side table
pub is_side : (stores : List Store) (n : ℕ) (s : Store) → All IsSideTable (drop 1 (tables_in stores)) → 0 < n
    → n < length stores → s ≡ get_or stores n s → IsSideTable s.table
is_side [] n s sides after below is = absurd (omega (arith, below))
is_side (t ∷ ts) zero s sides after below is = absurd (omega (arith, after))
is_side (t ∷ ts) (suc n) s sides after below is =
    let there : n < length ts = omega (arith, below) in
    let many = length-map ts (λ (x : Store). x.table) in
    subst IsSideTable (table_there ts n s is there)
    (All-get_or IsSideTable (tables_in ts) n no_table (omega (arith, there, many)) sides)

pub rows_there : (stores : List Store) (n : ℕ) (s : Store) → s ≡ get_or stores n s → n < length stores
    → rows_at (rows_in stores) n ≡ s.slots
rows_there stores n s is below = at_mapped (λ (x : Store). x.slots) stores n s [] is below

pub tables_set : (stores : List Store) (n : ℕ) (s t : Store) → s ≡ get_or stores n s → t.table ≡ s.table
    → tables_in (slice_set stores n t) ≡ tables_in stores
tables_set stores n s t is same = set_same (λ (x : Store). x.table) stores n s t is same

pub rows_set : (stores : List Store) (n : ℕ) (t : Store)
    → rows_in (slice_set stores n t) ≡ slice_set (rows_in stores) n t.slots
rows_set stores n t = set_mapped (λ (x : Store). x.slots) stores n t

pub rows_length : (stores : List Store) → length (rows_in stores) ≡ length stores
rows_length stores = length-map stores (λ (x : Store). x.slots)

pub tables_length : (stores : List Store) → length (tables_in stores) ≡ length stores
tables_length stores = length-map stores (λ (x : Store). x.table)

-- Rows by number

pub rows_located : (rows : Rows) (n : ℕ) (slots : List Slot) → n < length rows → rows_at (slice_set rows n slots) n ≡
    slots
rows_located [] n slots below = absurd (omega (arith, below))
rows_located (r ∷ rs) zero slots below = refl
rows_located (r ∷ rs) (suc n) slots below = rows_located rs n slots (omega (arith, below))

pub length_placed : (rows : Rows) (n : ℕ) (slots : List Slot) → length (slice_set rows n slots) ≡ length rows
length_placed [] n slots = refl
length_placed (r ∷ rs) zero slots = refl
length_placed (r ∷ rs) (suc n) slots = ap suc (length_placed rs n slots)

-- restoring what was there
pub rows_restored :
    (rows : Rows) (n : ℕ) (new : List Slot) (f : List Slot → List Slot) → f new ≡ rows_at rows n
    → slice_set (slice_set rows n new) n (f (rows_at (slice_set rows n new) n)) ≡ rows
rows_restored [] n new f is = refl
rows_restored (r ∷ rs) zero new f is = ap (λ x. x ∷ rs) is
rows_restored (r ∷ rs) (suc n) new f is = ap (λ xs. r ∷ xs) (rows_restored rs n new f is)

pub rows_kept : (rows : Rows) (n : ℕ) (slots : List Slot) → slots ≡ rows_at rows n → slice_set rows n slots ≡ rows
rows_kept [] n slots is = refl
rows_kept (r ∷ rs) zero slots is = ap (λ x. x ∷ rs) is
rows_kept (r ∷ rs) (suc n) slots is = ap (λ xs. r ∷ xs) (rows_kept rs n slots is)
