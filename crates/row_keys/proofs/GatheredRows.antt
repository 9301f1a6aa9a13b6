-- What is gathered from chunks, to be rewritten.
use Rattle.std.proofs.Common.{◌≡◌, ℕ, zero, suc, ◌+◌, ◌-◌, ◌^◌, ◌<◌, ◌≤◌, Bool, true, false, All, List, [], ◌∷◌, ◌++◌, drop, get_or, length, take, refl, ap, sym, subst, ◌∙◌, append_assoc, append-nil, arith}
use Rattle.std.specs.Prelude.{if◌then◌else◌}
use Rattle.std.proofs.lemmas.List.{drop_all, drop_more}
use Rattle.std.proofs.lemmas.List.Concat.{flat_map-append}
use Rattle.std.proofs.lemmas.List.Elements.{All-append, All-cons, All-nil}
use Rattle.values.specs.Datum.{Datum}
use Rattle.schema_meta.specs.Rows.{rows_from, rows_in}
use Rattle.body_writer.specs.RowRanges.{IsRange, IsSized, batch_rows, cells_in, range_rows, ranges_rows}
use Rattle.body_writer.specs.declared.from_columns.batch.Batch.{Batch}
use Rattle.body_writer.specs.declared.from_columns.batch.RowRange.{RowRange}
use Rattle.row_keys.specs.Chunks.{AreChunks, Chunk, IsLong, in_turn, numbers_by}
use Rattle.row_keys.specs.RowsLeft.{IsPart, IsWide, all_numbers, all_rows, numbers_left, rows_left, unflagged}
use Rattle.row_keys.proofs.RowsOfChunks.{ends_within}
use Rattle.row_keys.proofs.RowPlaces.{rising_at}

abbrev Row : Type 0
Row = List Datum

drop_none : {X : Type 0} (xs : List X) → drop 0 xs ≡ xs
drop_none [] = refl
drop_none (x ∷ xs) = refl

take_none : {X : Type 0} (xs : List X) → take 0 xs ≡ []
take_none [] = refl
take_none (x ∷ xs) = refl

-- one flag more
one : {X : Type 0} (gs : List Bool) (xs : List X) (i : ℕ) (g : Bool) (d : X) → i < length gs → length gs ≤ length xs
    → get_or gs i g ≡ g
    → unflagged (drop i gs) (drop i xs)
    ≡ (if g then unflagged (drop (i + 1) gs) (drop (i + 1) xs)
    else get_or xs i d ∷ unflagged (drop (i + 1) gs) (drop (i + 1) xs))
one gs xs i g d below few flag =
    ap (λ hs. unflagged hs (drop i xs)) (drop_more gs i g below)
    ∙ ap (λ ys. unflagged (get_or gs i g ∷ drop (i + 1) gs) ys) (drop_more xs i d (omega (arith, below, few)))
    ∙ ap (λ b. if b then unflagged (drop (i + 1) gs) (drop (i + 1) xs)
    else get_or xs i d ∷ unflagged (drop (i + 1) gs) (drop (i + 1) xs)) flag

same_flag : (gs : List Bool) (i : ℕ) (d e : Bool) → i < length gs → get_or gs i d ≡ get_or gs i e
same_flag [] i d e below = absurd (omega (arith, below))
same_flag (g ∷ gs) zero d e below = refl
same_flag (g ∷ gs) (suc i) d e below = same_flag gs i d e (omega (arith, below))

skipped : {X : Type 0} (gs : List Bool) (xs : List X) (i k : ℕ) (d : X)
    → ((j : ℕ) → i ≤ j → j < i + k → get_or gs j false ≡ true) → i + k ≤ length gs → length gs ≤ length xs
    → unflagged (drop i gs) (drop i xs) ≡ unflagged (drop (i + k) gs) (drop (i + k) xs)
skipped gs xs i zero d flags within few =
    let e : i ≡ i + 0 = omega arith in ap (λ j. unflagged (drop j gs) (drop j xs)) e
skipped gs xs i (suc k) d flags within few =
    let e : (i + 1) + k ≡ i + suc k = omega arith in
    let inside : i < length gs = omega (arith, within) in
    one gs xs i true d inside few (same_flag gs i true false inside ∙ flags i (omega arith) (omega arith))
    ∙ skipped gs xs (i + 1) k d (λ j low high. flags j (omega (arith, low)) (omega (arith, high))) (omega (arith, within)) few
    ∙ ap (λ j. unflagged (drop j gs) (drop j xs)) e

run : {X : Type 0} (gs : List Bool) (xs : List X) (i k : ℕ) (d : X)
    → ((j : ℕ) → i ≤ j → j < i + k → get_or gs j true ≡ false) → i + k ≤ length gs → length gs ≤ length xs
    → unflagged (drop i gs) (drop i xs) ≡ take k (drop i xs) ++ unflagged (drop (i + k) gs) (drop (i + k) xs)
run gs xs i zero d flags within few =
    let e : i ≡ i + 0 = omega arith in
    ap (λ j. unflagged (drop j gs) (drop j xs)) e
    ∙ sym (ap (λ ys. ys ++ unflagged (drop (i + 0) gs) (drop (i + 0) xs)) (take_none (drop i xs)))
run gs xs i (suc k) d flags within few =
    let e : (i + 1) + k ≡ i + suc k = omega arith in
    let inside : i < length gs = omega (arith, within) in
    one gs xs i false d inside few (same_flag gs i false true inside ∙ flags i (omega arith) (omega arith))
    ∙ ap (λ ys. get_or xs i d ∷ ys)
    (run gs xs (i + 1) k d (λ j low high. flags j (omega (arith, low)) (omega (arith, high))) (omega (arith, within)) few)
    ∙ ap (λ j. get_or xs i d ∷ (take k (drop (i + 1) xs) ++ unflagged (drop j gs) (drop j xs))) e
    ∙ ap (λ ys. take (suc k) ys ++ unflagged (drop (i + suc k) gs) (drop (i + suc k) xs))
    (sym (drop_more xs i d (omega (arith, inside, few))))

-- the rows of a batch

pub rows_counted : (cells : List (List Datum)) (i n : ℕ) → length (rows_from cells i n) ≡ n
unfolding rows_from
rows_counted cells i zero = refl
rows_counted cells i (suc n) = ap suc (rows_counted cells (i + 1) n)

-- what is pushed so far, of the rows from one on
pub record IsPushed (b : Batch) (gs : List Bool) (from : ℕ) (old : List RowRange) (i : ℕ) (now : List RowRange) : Type 0 where
  pub rows :
      ranges_rows now ++ unflagged (drop i gs) (drop i (batch_rows b))
      ≡ ranges_rows old ++ unflagged (drop from gs) (drop from (batch_rows b))
  pub within : i ≤ length gs
  pub left : i < length gs → get_or gs i true ≡ false
  pub sized : (n : ℕ) → IsSized n b → All (IsRange n) old → All (IsRange n) now

pub pushed_first :
    (b : Batch) (gs : List Bool) (from : ℕ) (old : List RowRange) (i : ℕ) → length gs ≤ b.rows → from ≤ i → i ≤ length gs
    → ((k : ℕ) → from ≤ k → k < i → get_or gs k false ≡ true) → (i < length gs → get_or gs i true ≡ false)
    → IsPushed b gs from old i old
pushed_first b gs from old i few low within flags left =
    let many = rows_counted (cells_in b.columns.items) 0 b.rows in
    let X : List Row = batch_rows b in
    let k : ℕ = i - from in
    let e : from + k ≡ i = omega (arith, low) in
    let all : unflagged (drop from gs) (drop from X) ≡ unflagged (drop (from + k) gs) (drop (from + k) X) =
    skipped gs X from k [] (λ j above below. flags j above (omega (arith, below, e))) (omega (arith, within, e))
    (omega (arith, many, few)) in
    record {
      rows = ap (λ rs. ranges_rows old ++ rs) (sym (ap (λ j. unflagged (drop j gs) (drop j X)) e) ∙ sym all);
      within = within;
      left = left;
      sized = λ n sized all_old. all_old;
    }

pub pushed_more :
    (b : Batch) (gs : List Bool) (from_row : ℕ) (old now new : List RowRange) (r : RowRange) (i to next : ℕ)
    → length gs ≤ b.rows → IsPushed b gs from_row old i now → i < length gs → new ≡ now ++ r ∷ [] → r.batch.now ≡ b → r.from ≡ i → r.to ≡ to
    → i ≤ to → to ≤ length gs → ((k : ℕ) → i ≤ k → k < to → get_or gs k true ≡ false) → to ≤ next → next ≤ length gs
    → ((k : ℕ) → to ≤ k → k < next → get_or gs k false ≡ true) → (next < length gs → get_or gs next true ≡ false)
    → IsPushed b gs from_row old next new
pushed_more b gs from_row old now new r i to next few is below push batch from end low high flags after inside gone left =
    let many = rows_counted (cells_in b.columns.items) 0 b.rows in
    let X : List Row = batch_rows b in
    let U : ℕ → List Row = λ j. unflagged (drop j gs) (drop j X) in
    let whole : length gs ≤ length X = omega (arith, many, few) in
    let k : ℕ = to - i in
    let to_is : i + k ≡ to = omega (arith, low) in
    let m : ℕ = next - to in
    let next_is : to + m ≡ next = omega (arith, after) in
    let here : range_rows r ≡ take k (drop i X) =
    ap (λ x. take (r.to - r.from) (drop r.from (batch_rows x))) batch
    ∙ ap (λ f. take (r.to - f) (drop f X)) from ∙ ap (λ t. take (t - i) (drop i X)) end in
    let first : U i ≡ take k (drop i X) ++ U to =
    run gs X i k [] (λ j from_i below_j. flags j from_i (omega (arith, below_j, to_is))) (omega (arith, to_is, high)) whole
    ∙ ap (λ j. take k (drop i X) ++ U j) to_is in
    let rest : U to ≡ U next =
    skipped gs X to m [] (λ j from_to below_j. gone j from_to (omega (arith, below_j, next_is)))
    (omega (arith, next_is, inside)) whole
    ∙ ap U next_is in
    record {
      rows =
          ap (λ rs. ranges_rows rs ++ U next) push
          ∙ ap (λ rs. rs ++ U next) (flat_map-append range_rows now (r ∷ []))
          ∙ ap (λ rs. (ranges_rows now ++ rs) ++ U next) (append-nil (range_rows r) ∙ here)
          ∙ append_assoc (ranges_rows now) (take k (drop i X)) (U next)
          ∙ ap (λ rs. ranges_rows now ++ (take k (drop i X) ++ rs)) (sym rest)
          ∙ ap (λ rs. ranges_rows now ++ rs) (sym first) ∙ is.rows;
      within = inside;
      left = left;
      sized = λ n sized all_old.
          let P : List RowRange → Type 0 = λ rs. All (IsRange n) rs in
          subst P (sym push)
          (All-append (IsRange n) now (r ∷ []) (is.sized n sized all_old)
          (All-cons (IsRange n) r [] (record {
            sized = subst (IsSized n) (sym batch) sized;
            order = omega (arith, from, end, low);
            within = let rows = ap (λ (x : Batch). x.rows) batch in omega (arith, end, high, few, rows);
          }) (All-nil (IsRange n))));
    }

pub pushed_end :
    (b : Batch) (gs : List Bool) (from : ℕ) (old : List RowRange) (i : ℕ) (now : List RowRange)
    → IsPushed b gs from old i now → length gs ≤ i
    → ranges_rows now ≡ ranges_rows old ++ unflagged (drop from gs) (drop from (batch_rows b))
pushed_end b gs from old i now is end =
    sym (append-nil (ranges_rows now))
    ∙ ap (λ hs. ranges_rows now ++ unflagged hs (drop i (batch_rows b))) (sym (drop_all i gs end)) ∙ is.rows

-- the numbers of a chunk

pub numbered_more :
    (gs : List Bool) (ns now new : List ℕ) (i : ℕ) (whole : List ℕ) → i < length gs → length ns ≡ length gs
    → (get_or gs i true ≡ true → new ≡ now) → (get_or gs i true ≡ false → new ≡ now ++ get_or ns i 0 ∷ [])
    → now ++ unflagged (drop i gs) (drop i ns) ≡ whole
    → new ++ unflagged (drop (i + 1) gs) (drop (i + 1) ns) ≡ whole
numbered_more gs ns now new i whole below same gone left is = by (get_or gs i true) refl
  where
    by : (b : Bool) → get_or gs i true ≡ b → new ++ unflagged (drop (i + 1) gs) (drop (i + 1) ns) ≡ whole
    by true flag =
        ap (λ xs. xs ++ unflagged (drop (i + 1) gs) (drop (i + 1) ns)) (gone flag)
        ∙ ap (λ xs. now ++ xs) (sym (one gs ns i true 0 below (omega (arith, same)) flag)) ∙ is
    by false flag =
        ap (λ xs. xs ++ unflagged (drop (i + 1) gs) (drop (i + 1) ns)) (left flag)
        ∙ append_assoc now (get_or ns i 0 ∷ []) (unflagged (drop (i + 1) gs) (drop (i + 1) ns))
        ∙ ap (λ xs. now ++ xs)
        (sym (one gs ns i false 0 below (omega (arith, same)) (same_flag gs i false true below ∙ flag)))
        ∙ is

pub numbered_end : (gs : List Bool) (ns now : List ℕ) (i : ℕ) (whole : List ℕ) → length gs ≤ i
    → now ++ unflagged (drop i gs) (drop i ns) ≡ whole → now ≡ whole
numbered_end gs ns now i whole end is =
    sym (append-nil now) ∙ ap (λ hs. now ++ unflagged hs (drop i ns)) (sym (drop_all i gs end)) ∙ is

-- several chunks

pub record IsGathered (part : List Chunk) (i : ℕ) (ranges : List RowRange) (numbers : List ℕ) : Type 0 where
  pub rows : ranges_rows ranges ++ all_rows (drop i part) ≡ all_rows part
  pub numbers_are : numbers ++ all_numbers (drop i part) ≡ all_numbers part
  pub sized : (n : ℕ) → All (IsWide n) part → All (IsRange n) ranges

pub gathered_first : (part : List Chunk) (ranges : List RowRange) (numbers : List ℕ) → ranges ≡ [] → numbers ≡ []
    → IsGathered part 0 ranges numbers
gathered_first part ranges numbers none nothing = record {
  rows = ap (λ rs. ranges_rows rs ++ all_rows (drop 0 part)) none ∙ ap all_rows (drop_none part);
  numbers_are = ap (λ ns. ns ++ all_numbers (drop 0 part)) nothing ∙ ap all_numbers (drop_none part);
  sized = λ n wide. let P : List RowRange → Type 0 = λ rs. All (IsRange n) rs in subst P (sym none) (All-nil (IsRange n));
}

-- what is known of the next chunk
pub record IsNext (part : List Chunk) (i : ℕ) (b : Batch) (gs : List Bool) (c : Chunk) : Type 0 where
  pub here : drop i part ≡ c ∷ drop (i + 1) part
  pub rows : unflagged (drop 0 gs) (drop 0 (batch_rows b)) ≡ rows_left c
  pub numbers : unflagged (drop 0 c.gone) (drop 0 c.numbers) ≡ numbers_left c
  pub few : length gs ≤ b.rows
  pub long : IsLong c
  pub bound : c.first + c.span < 2 ^ 64
  pub wide : (n : ℕ) → All (IsWide n) part → IsSized n b

part_at : (from len : ℕ) (part : List Chunk) (i : ℕ) (d : Chunk) → AreChunks from part len → i < length part
    → IsLong (get_or part i d) × ((get_or part i d).first + (get_or part i d).span ≤ len)
part_at from len [] i d are below = absurd (omega (arith, below))
part_at from len (c ∷ cs) zero d are below = (are.1, ends_within (c.first + c.span) len cs are.2)
part_at from len (c ∷ cs) (suc i) d are below = part_at (c.first + c.span) len cs i d are.2 (omega (arith, below))

pub next_in :
    (part : List Chunk) (i : ℕ) (c : Chunk) (b : Batch) (gs : List Bool) → IsPart part → c ≡ get_or part i c
    → i < length part → c.rows ≡ b.rows → c.columns ≡ b.columns.items → c.gone ≡ gs → IsNext part i b gs c
next_in part i c b gs is at below rows columns gone =
    let known = part_at is.0 is.1 part i c is.2 below in
    let long : IsLong c = subst IsLong (sym at) known.0 in
    let end : c.first + c.span ≤ is.1 = subst (λ (x : Chunk). x.first + x.span ≤ is.1) (sym at) known.1 in
    let few = long.few in
    let flags = ap length gone in
    let most = is.3 in
    record {
      here = drop_more part i c below ∙ ap (λ x. x ∷ drop (i + 1) part) (sym at);
      rows =
          ap (λ hs. unflagged hs (drop 0 (batch_rows b))) (drop_none gs) ∙ ap (unflagged gs) (drop_none (batch_rows b))
          ∙ ap (λ hs. unflagged hs (batch_rows b)) (sym gone)
          ∙ ap (λ n. unflagged c.gone (rows_in n (cells_in b.columns.items))) (sym rows)
          ∙ ap (λ ks. unflagged c.gone (rows_in c.rows (cells_in ks))) (sym columns);
      numbers = ap (λ hs. unflagged hs (drop 0 c.numbers)) (drop_none c.gone) ∙ ap (unflagged c.gone) (drop_none c.numbers);
      few = omega (arith, few, flags, rows);
      long = long;
      bound = omega (arith, end, most);
      wide = λ n wide. record {
        columns = ap length (sym columns) ∙ subst (IsWide n) (sym at) (wide i c below);
        cells =
            subst (λ ks. All (λ k. length k.cells ≡ b.rows) ks) columns
            (subst (λ m. All (λ k. length k.cells ≡ m) c.columns) rows long.long);
      };
    }

pub gathered_more :
    (part : List Chunk) (i : ℕ) (c : Chunk) (b : Batch) (gs : List Bool) (ranges more_ranges : List RowRange)
    (numbers more_numbers : List ℕ) → IsNext part i b gs c
    → ranges_rows more_ranges ≡ ranges_rows ranges ++ unflagged (drop 0 gs) (drop 0 (batch_rows b))
    → ((n : ℕ) → IsSized n b → All (IsRange n) ranges → All (IsRange n) more_ranges)
    → more_numbers ≡ numbers ++ unflagged (drop 0 c.gone) (drop 0 c.numbers) → IsGathered part i ranges numbers
    → IsGathered part (i + 1) more_ranges more_numbers
gathered_more part i c b gs ranges more_ranges numbers more_numbers next rows sized listed is = record {
  rows =
      ap (λ rs. rs ++ all_rows (drop (i + 1) part)) (rows ∙ ap (λ rs. ranges_rows ranges ++ rs) next.rows)
      ∙ append_assoc (ranges_rows ranges) (rows_left c) (all_rows (drop (i + 1) part))
      ∙ ap (λ cs. ranges_rows ranges ++ all_rows cs) (sym next.here) ∙ is.rows;
  numbers_are =
      ap (λ ns. ns ++ all_numbers (drop (i + 1) part)) (listed ∙ ap (λ ns. numbers ++ ns) next.numbers)
      ∙ append_assoc numbers (numbers_left c) (all_numbers (drop (i + 1) part))
      ∙ ap (λ cs. numbers ++ all_numbers cs) (sym next.here) ∙ is.numbers_are;
  sized = λ n wide. sized n (next.wide n wide) (is.sized n wide);
}

pub gathered_end : (part : List Chunk) (i : ℕ) (ranges : List RowRange) (numbers : List ℕ) → IsGathered part i ranges numbers
    → length part ≤ i → (ranges_rows ranges ≡ all_rows part) × (numbers ≡ all_numbers part)
gathered_end part i ranges numbers is end =
    let none = drop_all i part end in (
      sym (append-nil (ranges_rows ranges)) ∙ ap (λ cs. ranges_rows ranges ++ all_rows cs) (sym none) ∙ is.rows,
      sym (append-nil numbers) ∙ ap (λ cs. numbers ++ all_numbers cs) (sym none) ∙ is.numbers_are,
    )

-- Consecutive numbers

pub turn_end : (ns : List ℕ) (first : ℕ) → ((k : ℕ) → k < length ns → get_or ns k 0 ≡ first + k)
    → ns ≡ in_turn first (length ns)
turn_end [] first each = refl
turn_end (n ∷ ns) first each =
    let e : first + 0 ≡ first = omega arith in
    ap (λ m. m ∷ ns) (each 0 (omega arith) ∙ e)
    ∙ ap (λ ms. first ∷ ms)
    (turn_end ns (suc first)
    (λ k below. let s : first + suc k ≡ suc first + k = omega arith in each (suc k) (omega (arith, below)) ∙ s))

pub numbers_whole : (ns : List ℕ) (first : ℕ) → numbers_by ns first (length ns) ≡ ns
numbers_whole [] first = refl
numbers_whole (n ∷ ns) first = refl

-- a number that isn't listed

turn_at : (first count i d : ℕ) → i < count → get_or (in_turn first count) i d ≡ first + i
turn_at first zero i d below = absurd (omega (arith, below))
turn_at first (suc count) zero d below = omega arith
turn_at first (suc count) (suc i) d below =
    let e : suc first + i ≡ first + suc i = omega arith in turn_at (suc first) count i d (omega (arith, below)) ∙ e

pub unlisted : (ms : List ℕ) (first n i d : ℕ) → length ms ≡ 0 → i < n → first + i ≡ get_or (numbers_by ms first n) i d
unlisted [] first n i d none below = sym (turn_at first n i d below)
unlisted (m ∷ ms) first n i d none below = absurd (omega (arith, none))

pub unlisted_fits :
    (c : Chunk) (ms : List ℕ) (first n i : ℕ) → IsLong c → numbers_by ms first n ≡ c.numbers → n ≡ length c.gone
    → length ms ≡ 0 → i < length c.gone → first + i < c.first + c.span
unlisted_fits c ms first n i long numbers many none below =
    let each = long.each in
    let at = unlisted ms first n i 0 none (omega (arith, many, below)) in
    let same : get_or (numbers_by ms first n) i 0 ≡ get_or c.numbers i 0 = ap (λ ns. get_or ns i 0) numbers in
    let high = (rising_at c.first (c.first + c.span) c.numbers i 0 long.rise (omega (arith, each, below))).1 in
    omega (arith, at, same, high)
