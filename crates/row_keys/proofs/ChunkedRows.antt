-- The rows of all numbers, when chunks are added, removed, and changed.
use Rattle.std.proofs.Common.{◌≡◌, inl, inr, ℕ, zero, suc, ◌+◌, ◌-◌, ◌<◌, ◌≤◌, Bool, true, false, All, Some, List, [], ◌∷◌, ◌++◌, filter, get_or, length, length-append, take, refl, ap, sym, subst, ◌∙◌, append-nil, arith, min, true≢false}
use Rattle.std.specs.Prelude.{if◌then◌else◌, nat_le, replicate, slice_get, slice_set}
use Rattle.std.specs.List.Sorted.{IsPartitionPoint, IsPartitionedBy}
use Rattle.std.proofs.lemmas.List.Sorted.{IsPartitionedBy-leb}
use Rattle.std.proofs.lemmas.Bool.{leb-true, ltb-false, ltb-true}
use Rattle.std.proofs.lemmas.Bool.Decides.{leb_tells}
use Rattle.std.proofs.lemmas.List.{length-set, length-take}
use Rattle.std.proofs.lemmas.List.Elements.{All-nil}
use Rattle.std.proofs.lemmas.Option.{get_or_from_slice_get, slice_get_within}
use Rattle.values.specs.Datum.{Datum}
use Rattle.arrays.specs.Checked.{CheckedColumn}
use Rattle.schema_meta.specs.Rows.{row_at, rows_from}
use Rattle.row_keys.specs.Batches.{batch_rows, cells_in}
use Rattle.row_keys.specs.Chunks.{
  AreChunks,
  AreRising,
  Chunk,
  EndsAbove,
  IsCut,
  IsLong,
  IsNoneOf,
  IsPlaceOf,
  IsShortened,
  LiesAt,
  LiesIn,
  Releases,
  ReleasesAt,
  chunk,
  chunk_row,
  has_columns,
  in_turn,
  number_row,
  place_in,
  row_in,
  stored_rows,
}
use Rattle.row_keys.proofs.Places.{some_same, take_init}
use Rattle.row_keys.proofs.RowPlaces.{first_or_not, here_first, in_turn_place, in_turn_rising, not_first, place_is, place_within, places_differ, rising_within, turn_long}
use Rattle.row_keys.specs.Listed.{listed}
use Rattle.row_keys.proofs.ListedItems.{
  listed_add,
  listed_at,
  listed_long,
  listed_past,
  listed_same,
  listed_set,
  listed_take,
  listed_whole,
}
use Rattle.row_keys.proofs.RowsOfChunks.{IsInPlace, at_none, at_point, chunk_long, chunks_less, chunks_more, chunks_set, listed_cells, lt_or_le, no_columns, none_past, row_after, row_before, row_front, row_here, row_last, row_other, row_rest, row_within, swept}

-- the row of a number
pub stored_at : (cs : List Chunk) (len n : ℕ) → AreChunks 0 cs len → get_or (stored_rows cs len) n [] ≡ row_in cs n
stored_at cs len n are = elim (lt_or_le n len) [
  | inl below ↦ let e : 0 + n ≡ n = omega arith in listed_at (row_in cs) 0 len n [] below ∙ ap (row_in cs) e
  | inr past ↦ listed_past (row_in cs) 0 len n [] past ∙ sym (none_past 0 len n cs are past)
]

pub stored_long : (cs : List Chunk) (len : ℕ) → length (stored_rows cs len) ≡ len
stored_long cs len = listed_long (row_in cs) 0 len

-- Rows are added.

-- flags of rows of which none is released
pub flag_at : (n i : ℕ) → i < n → get_or (replicate n false) i true ≡ false
flag_at zero i below = absurd (omega (arith, below))
flag_at (suc n) zero below = refl
flag_at (suc n) (suc i) below = flag_at n i (omega (arith, below))

pub flags_long : (n : ℕ) → length (replicate n false) ≡ n
flags_long zero = refl
flags_long (suc n) = ap suc (flags_long n)

abbrev fresh : ℕ → ℕ → List CheckedColumn → Chunk
fresh first n columns = chunk first n (in_turn first n) n columns (replicate n false)

fresh_row : (first n : ℕ) (columns : List CheckedColumn) (i : ℕ) → i < n
    → chunk_row (fresh first n columns) i ≡ row_at (cells_in columns) i
fresh_row first n columns i below =
    ap (λ b. if b then [] else row_at (cells_in columns) i) (flag_at n i below)

fresh_chunks :
    (cs : List Chunk) (len n : ℕ) (columns : List CheckedColumn) → AreChunks 0 cs len
    → All (λ c. length c.cells ≡ n) columns → AreChunks 0 (cs ++ fresh len n columns ∷ []) (len + n)
fresh_chunks cs len n columns are long =
    let many = flags_long n in
    let each = turn_long len n in
    chunks_more 0 len (len + n) cs (fresh len n columns) are (omega arith)
    (record { long = long; few = omega (arith, many); each = omega (arith, many, each); rise = in_turn_rising len n })
    (omega arith)

module _ (cs : List Chunk) (len n : ℕ) (columns : List CheckedColumn) (are : AreChunks 0 cs len) where
  old_rows : listed (row_in (cs ++ fresh len n columns ∷ [])) 0 len ≡ listed (row_in cs) 0 len
  old_rows =
      listed_same (row_in (cs ++ fresh len n columns ∷ [])) (row_in cs) 0 len
      (λ i low high. row_front cs (fresh len n columns) i (omega (arith, high)))

  new_row : (j : ℕ) → j < n → row_in (cs ++ fresh len n columns ∷ []) (len + j) ≡ row_at (cells_in columns) j
  new_row j below =
      let place : place_in (in_turn len n) (len + j) ≡ j =
      in_turn_place len n (len + j) (omega arith) (omega (arith, below)) ∙ take_off len j in
      row_last 0 len cs (fresh len n columns) (len + j) are (omega arith)
      ∙ row_within (fresh len n columns) [] (len + j) (omega arith) (omega (arith, below))
      ∙ ap (chunk_row (fresh len n columns)) place
      ∙ fresh_row len n columns j below
    where
      take_off : (a b : ℕ) → (a + b) - a ≡ b
      take_off a b = omega arith

  new_rows : listed (row_in (cs ++ fresh len n columns ∷ [])) (0 + len) n ≡ batch_rows n columns
  new_rows =
      let from : 0 + len ≡ len + 0 = omega arith in
      ap (λ k. listed (row_in (cs ++ fresh len n columns ∷ [])) k n) from
      ∙ listed_cells (row_in (cs ++ fresh len n columns ∷ [])) (cells_in columns) len 0 n
      (λ j low high. new_row j (omega (arith, high)))

  pub rows_come : stored_rows (cs ++ fresh len n columns ∷ []) (len + n) ≡ stored_rows cs len ++ batch_rows n columns
  rows_come =
      listed_add (row_in (cs ++ fresh len n columns ∷ [])) 0 len n (len + n) refl
      ∙ ap (λ rs. rs ++ listed (row_in (cs ++ fresh len n columns ∷ [])) (0 + len) n) old_rows
      ∙ ap (λ rs. listed (row_in cs) 0 len ++ rs) new_rows

pub chunks_come :
    (cs all : List Chunk) (len n m : ℕ) (columns : List CheckedColumn) (gone : List Bool) → AreChunks 0 cs len
    → All (λ c. length c.cells ≡ n) columns → gone ≡ replicate n false
    → all ≡ cs ++ chunk len n (in_turn len (length gone)) n columns gone ∷ [] → m ≡ len + n
    → AreChunks 0 all m × (stored_rows all m ≡ stored_rows cs len ++ batch_rows n columns)
chunks_come cs all len n m columns gone are long flags is more =
    let whole : all ≡ cs ++ fresh len n columns ∷ [] =
    is ∙ ap (λ gs. cs ++ chunk len n (in_turn len (length gs)) n columns gs ∷ []) flags
    ∙ ap (λ k. cs ++ chunk len n (in_turn len k) n columns (replicate n false) ∷ []) (flags_long n) in
    let P : List Chunk → Type 0 = λ xs. AreChunks 0 xs m
    × (stored_rows xs m ≡ stored_rows cs len ++ batch_rows n columns) in
    let Q : ℕ → Type 0 = λ k. AreChunks 0 (cs ++ fresh len n columns ∷ []) k
    × (stored_rows (cs ++ fresh len n columns ∷ []) k ≡ stored_rows cs len ++ batch_rows n columns) in
    subst P (sym whole) (subst Q (sym more) (fresh_chunks cs len n columns are long, rows_come cs len n columns are))

-- A row is released.

flag_set : (gs : List Bool) (i : ℕ) → i < length gs → get_or (slice_set gs i true) i true ≡ true
flag_set [] i below = absurd (omega (arith, below))
flag_set (g ∷ gs) zero below = refl
flag_set (g ∷ gs) (suc i) below = flag_set gs i (omega (arith, below))

flag_other : (gs : List Bool) (i j : ℕ) → (i ≡ j → ⊥) → get_or (slice_set gs j true) i true ≡ get_or gs i true
flag_other [] i j other = refl
flag_other (g ∷ gs) zero zero other = absurd (other refl)
flag_other (g ∷ gs) zero (suc j) other = refl
flag_other (g ∷ gs) (suc i) zero other = refl
flag_other (g ∷ gs) (suc i) (suc j) other = flag_other gs i j (λ e. other (ap suc e))

pub flag_past : (gs : List Bool) (i : ℕ) → length gs ≤ i → get_or gs i true ≡ true
flag_past [] i past = refl
flag_past (g ∷ gs) zero past = absurd (omega (arith, past))
flag_past (g ∷ gs) (suc i) past = flag_past gs i (omega (arith, past))

all_set : (gs : List Bool) (i : ℕ) → All (λ g. g ≡ true) gs → get_or gs i true ≡ true
all_set gs i all = elim (lt_or_le i (length gs)) [
  | inl below ↦ all i true below
  | inr past ↦ flag_past gs i past
]

pub flag_gone : (c : Chunk) (i : ℕ) → get_or c.gone i true ≡ true → chunk_row c i ≡ []
flag_gone c i is = ap (λ b. if b then [] else row_at (cells_in c.columns) i) is

-- a number that no row has
pub no_number : (c : Chunk) (n : ℕ) → IsLong c → IsNoneOf c.numbers n → number_row c n ≡ []
no_number c n long none =
    let each = long.each in flag_gone c (place_in c.numbers n) (flag_past c.gone (place_in c.numbers n) (omega (arith, each, none)))

module _ (old new : Chunk) (j : ℕ) (is : Releases old j new) where
  many_left : length new.gone ≡ length old.gone
  many_left = ap length is.gone ∙ length-set old.gone j true

  pub in_place : IsLong old → IsInPlace old new
  in_place long = record {
    first = is.first;
    span = is.span;
    long =
        let many = many_left in
        let few = long.few in
        let each = long.each in
        let rows = is.rows in
        record {
          long =
              let P : List CheckedColumn → Type 0 = λ ks. All (λ k. length k.cells ≡ new.rows) ks in
              elim is.columns [
                | inl same ↦
                    subst P (sym same) (subst (λ r. All (λ k. length k.cells ≡ r) old.columns) (sym rows) long.long)
                | inr none ↦ subst P (sym none.0) (All-nil (λ k. length k.cells ≡ new.rows))
              ];
          few = omega (arith, few, many, rows);
          each = ap length is.numbers ∙ long.each ∙ sym many;
          rise =
              let Q : ℕ → ℕ → List ℕ → Type 0 = λ f s ns. AreRising f ns (f + s) in
              subst (λ f. Q f new.span new.numbers) (sym is.first)
              (subst (λ s. Q old.first s new.numbers) (sym is.span) (subst (Q old.first old.span) (sym is.numbers) long.rise));
        };
  }

  others_left : (i : ℕ) → (i ≡ j → ⊥) → chunk_row new i ≡ chunk_row old i
  others_left i other =
      let flag : get_or new.gone i true ≡ get_or old.gone i true =
      ap (λ gs. get_or gs i true) is.gone ∙ flag_other old.gone i j other in
      elim is.columns [
        | inl same ↦
            ap (λ b. if b then [] else row_at (cells_in new.columns) i) flag
            ∙ ap (λ ks. if get_or old.gone i true then [] else row_at (cells_in ks) i) same
        | inr none ↦
            no_columns new i none.0 ∙ sym (flag_gone old i (sym flag ∙ all_set new.gone i none.1))
      ]

  place_same : (n : ℕ) → number_row new n ≡ chunk_row new (place_in old.numbers n)
  place_same n = ap (λ ns. chunk_row new (place_in ns n)) is.numbers

  pub number_left : (n : ℕ) → (place_in old.numbers n ≡ j → ⊥) → number_row new n ≡ number_row old n
  number_left n other = place_same n ∙ others_left (place_in old.numbers n) other

  pub row_left : (n : ℕ) → place_in old.numbers n ≡ j → j < length old.gone → number_row new n ≡ []
  row_left n here below =
      place_same n ∙ ap (chunk_row new) here
      ∙ flag_gone new j (ap (λ gs. get_or gs j true) is.gone ∙ flag_set old.gone j below)

pub row_goes :
    (cs all : List Chunk) (len n p i : ℕ) → AreChunks 0 cs len → LiesAt cs n p i → ReleasesAt cs p i all
    → AreChunks 0 all len × (stored_rows all len ≡ slice_set (stored_rows cs len) n [])
row_goes cs all len n p i are at is =
    let c : Chunk = is.chunk in
    let lies = at.lies in
    let same : lies.chunk ≡ c = some_same lies.chunk c (sym lies.there ∙ is.there) in
    let low : c.first ≤ n = subst (λ (x : Chunk). x.first ≤ n) same lies.from in
    let high : n < c.first + c.span = subst (λ (x : Chunk). n < x.first + x.span) same lies.below in
    let long : IsLong c = subst IsLong same lies.long in
    let here : place_in c.numbers n ≡ i = subst (λ (x : Chunk). place_in x.numbers n ≡ i) same at.place in
    let within : i < length c.gone = subst (λ (x : Chunk). i < length x.gone) same at.within in
    let each = long.each in
    let place : IsInPlace c is.left = in_place c is.left i is.releases long in
    let number : 0 + n ≡ n = omega arith in
    let gone : row_in (slice_set cs p is.left) (0 + n) ≡ [] =
    ap (row_in (slice_set cs p is.left)) number
    ∙ row_here 0 len p cs c is.left n are is.there place low high
    ∙ row_left c is.left i is.releases n here within in
    let P : List Chunk → Type 0 = λ xs. AreChunks 0 xs len
    × (stored_rows xs len ≡ slice_set (stored_rows cs len) n []) in
    subst P (sym is.new_is) (
      chunks_set 0 len p cs c is.left are is.there place,
      listed_set (row_in cs) (row_in (slice_set cs p is.left)) 0 len n []
          (λ m other. row_other p cs c is.left m is.there place
          (number_left c is.left i is.releases m
          (λ e. places_differ c.numbers n m (omega (arith, here, within, each)) (λ same_number. other (same_number ∙ sym number))
          (e ∙ sym here))))
          gone,
    )

-- a row that doesn't exist
pub none_goes : (cs : List Chunk) (len n : ℕ) → row_in cs n ≡ [] → stored_rows cs len ≡ slice_set (stored_rows cs len) n []
none_goes cs len n none =
    let number : 0 + n ≡ n = omega arith in
    listed_set (row_in cs) (row_in cs) 0 len n [] (λ i other. refl) (ap (row_in cs) number ∙ none)

-- Chunks are swept.
pub rows_swept : (cs : List Chunk) (len : ℕ) → AreChunks 0 cs len
    → AreChunks 0 (filter has_columns cs) len × (stored_rows (filter has_columns cs) len ≡ stored_rows cs len)
rows_swept cs len are = (
  (swept 0 len 0 cs are).0,
  listed_same (row_in (filter has_columns cs)) (row_in cs) 0 len (λ i low high. (swept 0 len i cs are).1),
)

-- The last rows are removed.
pub rows_cut : (cs all : List Chunk) (len m : ℕ) → m ≤ len → IsCut cs m all
    → stored_rows all m ≡ take m (stored_rows cs len)
rows_cut cs all len m le is =
    listed_same (row_in all) (row_in cs) 0 m (λ i low high. is.rows i (omega (arith, high)))
    ∙ sym (listed_take (row_in cs) 0 len m le)

pub rows_whole : (cs : List Chunk) (len m : ℕ) → len ≤ m → stored_rows cs len ≡ take m (stored_rows cs len)
rows_whole cs len m le = sym (listed_whole (row_in cs) 0 len m le)

-- what remains to be removed
pub record IsCutSoFar (old : List Chunk) (len : ℕ) (now : List Chunk) : Type 0 where
  pub end : ℕ
  pub chunks : AreChunks 0 now end
  pub above : len ≤ end
  pub rows : (i : ℕ) → i < len → row_in now i ≡ row_in old i

pub cut_more : (old now new : List Chunk) (len : ℕ) (last : Chunk) → IsCutSoFar old len now → now ≡ new ++ last ∷ []
    → len ≤ last.first → IsCutSoFar old len new
cut_more old now new len last so_far split above =
    let P : List Chunk → Type 0 = λ xs. AreChunks 0 xs so_far.end in
    let less = chunks_less 0 so_far.end new last (subst P split so_far.chunks) in
    record {
      end = last.first;
      chunks = less.0;
      above = above;
      rows = λ i below.
          sym (row_front new last i (omega (arith, below, above))) ∙ sym (ap (λ xs. row_in xs i) split)
          ∙ so_far.rows i below;
    }

pub cut_none : (old : List Chunk) (len : ℕ) (now : List Chunk) → IsCutSoFar old len now → now ≡ [] → IsCut old len now
cut_none old len now so_far none = record {
  chunks = let P : List Chunk → Type 0 = λ xs. AreChunks 0 xs len in subst P (sym none) (omega arith);
  rows = so_far.rows;
}

-- the last chunk is shortened
flag_taken : (gs : List Bool) (k i : ℕ) → i < k → get_or (take k gs) i true ≡ get_or gs i true
flag_taken [] zero i below = refl
flag_taken [] (suc k) i below = refl
flag_taken (g ∷ gs) zero i below = absurd (omega (arith, below))
flag_taken (g ∷ gs) (suc k) zero below = refl
flag_taken (g ∷ gs) (suc k) (suc i) below = flag_taken gs k i (omega (arith, below))

place_taken : (ns : List ℕ) (k n : ℕ) → place_in ns n < k → place_in (take k ns) n ≡ place_in ns n
place_taken [] zero n below = refl
place_taken [] (suc k) n below = refl
place_taken (m ∷ ms) zero n below = absurd (omega (arith, below))
place_taken (m ∷ ms) (suc k) n below = elim (first_or_not m n) [
  | inl is ↦ here_first m n (take k ms) is ∙ sym (here_first m n ms is)
  | inr other ↦
      let e = not_first m n ms other in
      not_first m n (take k ms) other ∙ ap suc (place_taken ms k n (omega (arith, e, below))) ∙ sym e
]

none_taken : (ns : List ℕ) (k n : ℕ) → IsNoneOf ns n → IsNoneOf (take k ns) n
none_taken [] zero n none = refl
none_taken [] (suc k) n none = refl
none_taken (m ∷ ms) zero n none = refl
none_taken (m ∷ ms) (suc k) n none = elim (first_or_not m n) [
  | inl is ↦ let e = here_first m n ms is in absurd (omega (arith, e, none))
  | inr other ↦
      let e = not_first m n ms other in
      not_first m n (take k ms) other ∙ ap suc (none_taken ms k n (omega (arith, e, none)))
]

rising_taken : (from end n : ℕ) (ns : List ℕ) (k : ℕ) → AreRising from ns end
    → ((i d : ℕ) → i < length ns → i < k → get_or ns i d < n) → from ≤ n → AreRising from (take k ns) (min end n)
rising_taken from end n [] zero are below low = omega (arith, are, low)
rising_taken from end n [] (suc k) are below low = omega (arith, are, low)
rising_taken from end n (m ∷ ms) zero are below low =
    let rest = rising_within (suc m) end ms are.1 in
    let first = are.0 in
    omega (arith, first, rest, low)
rising_taken from end n (m ∷ ms) (suc k) are below low =
    let first = below 0 0 (omega arith) (omega arith) in (
      are.0,
      rising_taken (suc m) end n ms k are.1 (λ i d inside few. below (suc i) d (omega (arith, inside)) (omega (arith, few)))
          (omega (arith, first)),
    )

module _ (len : ℕ) (c d : Chunk) (below : c.first < len) (long : IsLong c) (is : IsShortened len c d) where
  abbrev left : Chunk
  left =
      chunk c.first (min c.span (len - c.first)) (take is.many c.numbers) c.rows c.columns (take is.many c.gone)

  under : (i e : ℕ) → i < length c.numbers → i < is.many → get_or c.numbers i e < len
  under i e inside few = ltb-true (get_or c.numbers i e) len (is.below.0 i e (omega arith) few)

  kept_row : (i : ℕ) → i < len → number_row left i ≡ number_row c i
  kept_row i inside =
      let each = long.each in
      let cut : length (take is.many c.gone) ≡ min is.many (length c.gone) = length-take is.many c.gone in
      elim (lt_or_le (place_in c.numbers i) is.many) [
        | inl early ↦
            let same : place_in (take is.many c.numbers) i ≡ place_in c.numbers i = place_taken c.numbers is.many i early in
            ap (chunk_row left) same
            ∙ ap (λ b. if b then [] else row_at (cells_in c.columns) (place_in c.numbers i))
            (flag_taken c.gone is.many (place_in c.numbers i) early)
        | inr late ↦
            let none : IsNoneOf c.numbers i = elim (lt_or_le (place_in c.numbers i) (length c.numbers)) [
              | inl there ↦
                  let here = place_is c.numbers i i there in
                  let above = ltb-false (get_or c.numbers (place_in c.numbers i) i) len
                  (is.below.1 (place_in c.numbers i) i late there) in
                  absurd (omega (arith, here, above, inside))
              | inr past ↦ let within = place_within c.numbers i in omega (arith, within, past)
            ] in
            let gone = none_taken c.numbers is.many i none in
            let short : length (take is.many c.numbers) ≡ min is.many (length c.numbers) =
            length-take is.many c.numbers in
            flag_gone left (place_in (take is.many c.numbers) i)
            (flag_past (take is.many c.gone) (place_in (take is.many c.numbers) i)
            (omega (arith, gone, short, cut, each)))
            ∙ sym (no_number c i long none)
      ]

  shortened_row : (i : ℕ) → i < len → row_in (left ∷ []) i ≡ row_in (c ∷ []) i
  shortened_row i inside = elim (lt_or_le i c.first) [
    | inl before ↦ row_before left [] i before ∙ sym (row_before c [] i before)
    | inr low ↦ elim (lt_or_le i (c.first + c.span)) [
      | inl high ↦
          row_within left [] i low (omega (arith, low, high, inside))
          ∙ kept_row i inside ∙ sym (row_within c [] i low high)
      | inr after ↦ row_after left [] i (omega (arith, after)) ∙ sym (row_after c [] i after)
    ]
  ]

  shortened_long : IsLong left
  shortened_long =
      let each = long.each in
      let few = long.few in
      let flags = length-take is.many c.gone in
      let numbers = length-take is.many c.numbers in
      let end : min (c.first + c.span) len ≡ c.first + min c.span (len - c.first) = omega (arith, below) in
      record {
        long = long.long;
        few = omega (arith, flags, few);
        each = omega (arith, flags, numbers, each);
        rise =
            subst (λ e. AreRising c.first (take is.many c.numbers) e) end
            (rising_taken c.first (c.first + c.span) len c.numbers is.many long.rise under (omega (arith, below)));
      }

  pub shortened_chunks : (front : List Chunk) (end : ℕ) → AreChunks 0 (front ++ c ∷ []) end
      → AreChunks 0 (front ++ d ∷ []) len
  shortened_chunks front end are =
      let less = chunks_less 0 end front c are in
      let P : Chunk → Type 0 = λ x. AreChunks 0 (front ++ x ∷ []) len in
      subst P (sym is.new_is)
      (chunks_more 0 c.first len front left less.0 (omega arith) shortened_long (omega (arith, below)))

  pub shortened_rows : (front : List Chunk) (i : ℕ) → i < len
      → row_in (front ++ d ∷ []) i ≡ row_in (front ++ c ∷ []) i
  shortened_rows [] i inside = ap (λ (x : Chunk). row_in (x ∷ []) i) is.new_is ∙ shortened_row i inside
  shortened_rows (e ∷ es) i inside = row_rest e (es ++ d ∷ []) (es ++ c ∷ []) i (shortened_rows es i inside)

pub cut_last :
    (old : List Chunk) (len : ℕ) (now new front : List Chunk) (c d : Chunk) → IsCutSoFar old len now
    → now ≡ front ++ c ∷ [] → c.first < len → IsShortened len c d → new ≡ front ++ d ∷ [] → IsCut old len new
cut_last old len now new front c d so_far split below short is =
    let P : List Chunk → Type 0 = λ xs. AreChunks 0 xs so_far.end in
    let Q : List Chunk → Type 0 = λ xs. AreChunks 0 xs len in
    let long : IsLong c = (chunks_less 0 so_far.end front c (subst P split so_far.chunks)).1.0 in
    record {
      chunks = subst Q (sym is) (shortened_chunks len c d below long short front so_far.end (subst P split so_far.chunks));
      rows = λ i inside.
          ap (λ xs. row_in xs i) is ∙ shortened_rows len c d below long short front i inside
          ∙ sym (ap (λ xs. row_in xs i) split) ∙ so_far.rows i inside;
    }

-- the last of a list is changed
pub set_last : (front : List Chunk) (c d : Chunk) → slice_set (front ++ c ∷ []) (length front) d ≡ front ++ d ∷ []
set_last [] c d = refl
set_last (x ∷ xs) c d = ap (λ ys. x ∷ ys) (set_last xs c d)

-- The chunk of a number

pub lies_at :
    (cs : List Chunk) (len n place p : ℕ) (c : Chunk) → AreChunks 0 cs len
    → IsPartitionPoint (λ x. nat_le x.first n ≡ true) (λ x. nat_le x.first n ≡ false) cs place → place ≡ suc p
    → slice_get cs p ≡ Some c
    → (c.first ≤ n) × (row_in cs n ≡ row_in (c ∷ []) n)
lies_at cs len n place p c are point is there =
    let within = slice_get_within cs p c there in
    let here : get_or cs p c ≡ c = get_or_from_slice_get cs p c c there in
    let P : Chunk → Type 0 = λ x. nat_le x.first n ≡ true in
    let low : c.first ≤ n = leb-true c.first n (subst P here (point.0 p c (omega arith) (omega (arith, is)))) in (
      low,
      at_point 0 len p cs c n are there low
          (λ d at.
          let far = slice_get_within cs (suc p) d at in
          let Q : Chunk → Type 0 = λ x. nat_le x.first n ≡ false in
          let same : get_or cs (suc p) d ≡ d = get_or_from_slice_get cs (suc p) d d at in
          above d (subst Q same (point.1 (suc p) d (omega (arith, is)) far))),
    )
  where
    above : (d : Chunk) → nat_le d.first n ≡ false → n < d.first
    above d fails = elim (leb_tells d.first n) [
      | inl t ↦ absurd (true≢false (sym t.0 ∙ fails))
      | inr t ↦ t.1
    ]

pub lies_nowhere :
    (cs : List Chunk) (n place : ℕ)
    → IsPartitionPoint (λ x. nat_le x.first n ≡ true) (λ x. nat_le x.first n ≡ false) cs place → place ≡ 0
    → row_in cs n ≡ []
lies_nowhere cs n place point is =
    at_none cs n
    (λ d at.
    let far = slice_get_within cs 0 d at in
    let Q : Chunk → Type 0 = λ x. nat_le x.first n ≡ false in
    let same : get_or cs 0 d ≡ d = get_or_from_slice_get cs 0 d d at in
    above d (subst Q same (point.1 0 d (omega (arith, is)) far)))
  where
    above : (d : Chunk) → nat_le d.first n ≡ false → n < d.first
    above d fails = elim (leb_tells d.first n) [
      | inl t ↦ absurd (true≢false (sym t.0 ∙ fails))
      | inr t ↦ t.1
    ]

pub lies_in :
    (cs : List Chunk) (len n place p : ℕ) (c : Chunk) → AreChunks 0 cs len
    → IsPartitionPoint (λ x. nat_le x.first n ≡ true) (λ x. nat_le x.first n ≡ false) cs place → place ≡ suc p
    → slice_get cs p ≡ Some c → n - c.first < c.span → LiesIn cs n p
lies_in cs len n place p c are point is there below =
    let at = lies_at cs len n place p c are point is there in
    let low = at.0 in
    record {
      chunk = c;
      there = there;
      from = at.0;
      below = omega (arith, low, below);
      long = chunk_long 0 len p cs c are there;
      row = at.1 ∙ row_within c [] n at.0 (omega (arith, low, below));
    }

pub lies_past :
    (cs : List Chunk) (len n place p : ℕ) (c : Chunk) → AreChunks 0 cs len
    → IsPartitionPoint (λ x. nat_le x.first n ≡ true) (λ x. nat_le x.first n ≡ false) cs place → place ≡ suc p
    → slice_get cs p ≡ Some c → c.span ≤ n - c.first → row_in cs n ≡ []
lies_past cs len n place p c are point is there past =
    let at = lies_at cs len n place p c are point is there in
    let low = at.0 in
    at.1 ∙ row_after c [] n (omega (arith, low, past))

-- chunks by their first numbers
firsts_rise : (from len : ℕ) (cs : List Chunk) → AreChunks from cs len
    → (i j : ℕ) (d : Chunk) → i ≤ j → j < length cs → (get_or cs i d).first ≤ (get_or cs j d).first
firsts_rise from len [] are i j d le below = absurd (omega (arith, below))
firsts_rise from len (c ∷ cs) are zero zero d le below = omega arith
firsts_rise from len (c ∷ cs) are zero (suc j) d le below =
    let all = starts_from (c.first + c.span) cs are.2 j d (omega (arith, below)) in omega (arith, all)
  where
    starts_from : (low : ℕ) (xs : List Chunk) → AreChunks low xs len → (k : ℕ) (e : Chunk) → k < length xs
        → low ≤ (get_or xs k e).first
    starts_from low [] all k e within = absurd (omega (arith, within))
    starts_from low (x ∷ xs) all zero e within = all.0
    starts_from low (x ∷ xs) all (suc k) e within =
        let rest = starts_from (x.first + x.span) xs all.2 k e (omega (arith, within)) in
        omega (arith, rest, all.0)
firsts_rise from len (c ∷ cs) are (suc i) zero d le below = absurd (omega (arith, le))
firsts_rise from len (c ∷ cs) are (suc i) (suc j) d le below =
    firsts_rise (c.first + c.span) len cs are.2 i j d (omega (arith, le)) (omega (arith, below))

pub chunks_parted : (cs : List Chunk) (len n : ℕ) → AreChunks 0 cs len → IsPartitionedBy (λ x. nat_le x.first n) cs
chunks_parted cs len n are = IsPartitionedBy-leb (λ (x : Chunk). x.first) cs n (firsts_rise 0 len cs are)

-- a chunk that is read
pub chunk_read : (cs : List Chunk) (p : ℕ) (c : Chunk) → c ≡ get_or cs p c → p < length cs → slice_get cs p ≡ Some c
chunk_read [] p c is below = absurd (omega (arith, below))
chunk_read (x ∷ xs) zero c is below = ap Some (sym is)
chunk_read (x ∷ xs) (suc p) c is below = chunk_read xs p c is (omega (arith, below))

-- what holds of the chunk in which a number lies
pub record Lies (cs : List Chunk) (n : ℕ) (c : Chunk) : Type 0 where
  pub long : IsLong c
  pub row : row_in cs n ≡ number_row c n

pub lies_there : (cs : List Chunk) (n p : ℕ) (c : Chunk) → LiesIn cs n p → c ≡ get_or cs p c → Lies cs n c
lies_there cs n p c lies is =
    let same : lies.chunk ≡ c = sym (is ∙ get_or_from_slice_get cs p lies.chunk c lies.there) in
    subst (Lies cs n) same (record { long = lies.long; row = lies.row })

pub lies_nowhere_in : (cs : List Chunk) (n p : ℕ) (c : Chunk) → LiesIn cs n p → c ≡ get_or cs p c → IsNoneOf c.numbers n
    → row_in cs n ≡ []
lies_nowhere_in cs n p c lies is none =
    let there = lies_there cs n p c lies is in there.row ∙ no_number c n there.long none

pub located : (cs : List Chunk) (n p i : ℕ) (c : Chunk) → LiesIn cs n p → c ≡ get_or cs p c → IsPlaceOf c.numbers n i
    → LiesAt cs n p i
located cs n p i c lies is place =
    let same : c ≡ lies.chunk = is ∙ get_or_from_slice_get cs p lies.chunk c lies.there in
    let P : Chunk → Type 0 = λ x. IsPlaceOf x.numbers n i in
    let at : IsPlaceOf lies.chunk.numbers n i = subst P same place in
    let inside = at.0 in
    let each = lies.long.each in
    record { lies = lies; place = at.1; within = omega (arith, inside, each) }

-- the row that lies there
pub record IsRead (cs : List Chunk) (n i : ℕ) (c : Chunk) : Type 0 where
  pub within : i < length c.gone
  pub long : IsLong c
  pub row : row_in cs n ≡ chunk_row c i

pub row_read : (cs : List Chunk) (n p i : ℕ) (c : Chunk) → LiesAt cs n p i → c ≡ get_or cs p c → IsRead cs n i c
row_read cs n p i c at is =
    let lies = at.lies in
    let same : lies.chunk ≡ c = sym (is ∙ get_or_from_slice_get cs p lies.chunk c lies.there) in
    subst (IsRead cs n i) same (record {
      within = at.within;
      long = lies.long;
      row = lies.row ∙ ap (chunk_row lies.chunk) at.place;
    })

pub lies_within : (cs : List Chunk) (n p : ℕ) → LiesIn cs n p → p < length cs
lies_within cs n p lies = slice_get_within cs p lies.chunk lies.there

-- no row is added
pub none_come : (rows : List (List Datum)) (n : ℕ) (columns : List CheckedColumn) → n ≡ 0
    → rows ≡ rows ++ batch_rows n columns
unfolding rows_from
none_come rows n columns none = sym (append-nil rows) ∙ ap (λ m. rows ++ batch_rows m columns) (sym none)

-- the rest of a list whose last chunk is removed
pub popped : (now new front : List Chunk) (c : Chunk) (n : ℕ) → n ≡ length now → new ≡ take (n - 1) now
    → now ≡ front ++ c ∷ [] → now ≡ new ++ c ∷ []
popped now new front c n long rest split =
    let same : new ≡ front =
    rest ∙ ap (λ m. take (m - 1) now) long ∙ ap (λ xs. take (length xs - 1) xs) split ∙ sym (take_init front c) in
    split ∙ ap (λ xs. xs ++ c ∷ []) (sym same)

last_at : (front : List Chunk) (c x : Chunk) → get_or (front ++ c ∷ []) (length front) x ≡ c
last_at [] c x = refl
last_at (y ∷ ys) c x = last_at ys c x

pub cut_end :
    (old now : List Chunk) (len k : ℕ) (x new : Chunk) → IsCutSoFar old len now → EndsAbove now len false
    → k ≡ length now → 0 < k → x ≡ get_or now (k - 1) x → IsShortened len x new
    → IsCut old len (slice_set now (k - 1) new)
cut_end old now len k x new so_far ends long some is short = elim ends [
  | inl none ↦ let few = ap length none in absurd (omega (arith, long, some, few))
  | inr last ↦
      let many = length-append last.0 (last.1 ∷ []) in
      let all = ap length last.2 in
      let place : k - 1 ≡ length last.0 = omega (arith, long, many, all) in
      let same : x ≡ last.1 =
      is ∙ ap (λ j. get_or now j x) place ∙ ap (λ xs. get_or xs (length last.0) x) last.2 ∙ last_at last.0 last.1 x in
      let set : slice_set now (k - 1) new ≡ last.0 ++ new ∷ [] =
      ap (λ j. slice_set now j new) place ∙ ap (λ xs. slice_set xs (length last.0) new) last.2
      ∙ set_last last.0 last.1 new in
      let P : Chunk → Type 0 = λ y. IsShortened len y new in
      cut_last old len now (slice_set now (k - 1) new) last.0 last.1 new so_far last.2 last.3 (subst P same short) set
]

-- what is known of the chunk that is shortened
pub record IsLast (now : List Chunk) (len : ℕ) (x : Chunk) : Type 0 where
  pub below : x.first < len
  pub long : IsLong x

pub last_is :
    (old now : List Chunk) (len k : ℕ) (x : Chunk) → IsCutSoFar old len now → EndsAbove now len false
    → k ≡ length now → 0 < k → x ≡ get_or now (k - 1) x → IsLast now len x
last_is old now len k x so_far ends long some is = elim ends [
  | inl none ↦ let few = ap length none in absurd (omega (arith, long, some, few))
  | inr last ↦
      let many = length-append last.0 (last.1 ∷ []) in
      let all = ap length last.2 in
      let place : k - 1 ≡ length last.0 = omega (arith, long, many, all) in
      let same : x ≡ last.1 =
      is ∙ ap (λ j. get_or now j x) place ∙ ap (λ xs. get_or xs (length last.0) x) last.2 ∙ last_at last.0 last.1 x in
      let P : List Chunk → Type 0 = λ xs. AreChunks 0 xs so_far.end in
      subst (IsLast now len) (sym same)
      (record { below = last.3; long = (chunks_less 0 so_far.end last.0 last.1 (subst P last.2 so_far.chunks)).1.0 })
]
