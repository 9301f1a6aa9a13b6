-- The last rows of a chunk, in a chunk of their own.
use Rattle.std.proofs.Common.{◌≡◌, inl, inr, ℕ, zero, suc, ◌+◌, ◌-◌, ◌^◌, ◌<◌, ◌≤◌, Bool, true, false, All, Some, List, [], ◌∷◌, ◌++◌, drop, get_or, length, take, refl, ap, sym, subst, ◌∙◌, arith}
use Rattle.std.specs.Prelude.{if◌then◌else◌, Err, IfOk, IfSome, None, Ok, Option, Result, slice_get, slice_set}
use Rattle.std.proofs.lemmas.List.Elements.{All-drop}
use Rattle.std.proofs.lemmas.Option.{get_or_from_slice_get, none-some, slice_get_within}
use Rattle.values.specs.Datum.{items_of}
use Rattle.values.specs.Layouts.{HoldsEach}
use Rattle.values.specs.Rose.{Rose, Roses, kids_of}
use Rattle.values.specs.declared.layout.Layout.{Layout}
use Rattle.body_writer.specs.RowRanges.{IsSized, batch_rows as rows_in_batch, ranges_rows}
use Rattle.body_writer.specs.declared.from_columns.batch.Batch.{Batch}
use Rattle.body_writer.specs.declared.from_columns.batch.RowRange.{RowRange}
use Rattle.row_keys.specs.Batches.{batch_rows}
use Rattle.row_keys.specs.Chunks.{AreChunks, AreRising, Chunk, IsLong, IsShortened, number_row, row_in, stored_rows}
use Rattle.row_keys.specs.RowsLeft.{IsHeld, IsMadeIn, IsPart, IsSplit, IsTail, IsWide, end_of, rows_left, tail_numbers, tail_rows, unflagged}
use Rattle.row_keys.proofs.AppendedBatches.{batch_counted}
use Rattle.row_keys.proofs.ChunkedRows.{chunk_read, shortened_chunks, shortened_rows}
use Rattle.row_keys.proofs.RowsOfChunks.{lt_or_le, row_after, row_before, row_rest, row_within}
use Rattle.row_keys.proofs.Places.{some_same}
use Rattle.row_keys.proofs.ListedItems.{listed_same}
use Rattle.row_keys.proofs.MergedChunks.{HasWidth, Row, as_many_left, drop_none, front_chunks, length_dropped, look, look_at, look_there, made_left, made_long, middle, no_layouts, rising_left, row_left, set_end, split_chunks, take_none, wide_left, wide_rows}
use Rattle.row_keys.proofs.RowPlaces.{rising_at}

rising_dropped : (from end : ℕ) (ns : List ℕ) (i : ℕ) → AreRising from ns end → i < length ns
    → AreRising (get_or ns i 0) (drop i ns) end
rising_dropped from end [] i are below = absurd (omega (arith, below))
rising_dropped from end (n ∷ ns) zero are below = (omega arith, are.1)
rising_dropped from end (n ∷ ns) (suc i) are below = rising_dropped (suc n) end ns i are.1 (omega (arith, below))

-- the row of a number that isn't below that of row i
look_tail :
    (from end : ℕ) (gs : List Bool) (ns : List ℕ) (rows : List Row) (i n : ℕ) → AreRising from ns end → i < length ns
    → length ns ≡ length gs → length gs ≤ length rows → get_or ns i 0 ≤ n
    → look (unflagged gs ns) (unflagged gs rows) n
    ≡ look (unflagged (drop i gs) (drop i ns)) (unflagged (drop i gs) (drop i rows)) n
look_tail from end gs ns rows zero n are below same few low =
    sym (ap (λ hs. look (unflagged hs (drop 0 ns)) (unflagged hs (drop 0 rows)) n) (drop_none gs)
    ∙ ap (λ ms. look (unflagged gs ms) (unflagged gs (drop 0 rows)) n) (drop_none ns)
    ∙ ap (λ rs. look (unflagged gs ns) (unflagged gs rs) n) (drop_none rows))
look_tail from end [] [] rows (suc i) n are below same few low = absurd (omega (arith, below))
look_tail from end [] (m ∷ ms) rows (suc i) n are below same few low = absurd (omega (arith, same))
look_tail from end (g ∷ gs) [] rows (suc i) n are below same few low = absurd (omega (arith, same))
look_tail from end (g ∷ gs) (m ∷ ms) [] (suc i) n are below same few low = absurd (omega (arith, few))
look_tail from end (g ∷ gs) (m ∷ ms) (r ∷ rs) (suc i) n are below same few low =
    by g ∙ look_tail (suc m) end gs ms rs i n are.1 (omega (arith, below)) (omega (arith, same)) (omega (arith, few)) low
  where
    above : m ≡ n → ⊥
    above is =
        let high = (rising_at (suc m) end ms i 0 are.1 (omega (arith, below))).0 in omega (arith, high, is, low)

    by : (b : Bool)
        → look (if b then unflagged gs ms else m ∷ unflagged gs ms) (if b then unflagged gs rs else r ∷ unflagged gs rs) n
        ≡ look (unflagged gs ms) (unflagged gs rs) n
    by true = refl
    by false = look_there m n (unflagged gs ms) r (unflagged gs rs) above

module _ (c : Chunk) (i : ℕ) (long : IsLong c) (within : i < length c.gone) where
  inside : i < length c.numbers
  inside = let each = long.each in omega (arith, each, within)

  tail_rising : AreRising (get_or c.numbers i 0) (tail_numbers c i) (c.first + c.span)
  tail_rising =
      rising_left (get_or c.numbers i 0) (c.first + c.span) (drop i c.gone) (drop i c.numbers)
      (rising_dropped c.first (c.first + c.span) c.numbers i long.rise inside)

  pub tail_long : length (tail_numbers c i) ≡ length (tail_rows c i)
  tail_long =
      let each = long.each in
      let few = long.few in
      let many = batch_counted c.columns c.rows in
      let flags = length_dropped i c.gone in
      let numbers = length_dropped i c.numbers in
      let rows = length_dropped i (batch_rows c.rows c.columns) in
      as_many_left (drop i c.gone) (drop i c.numbers) (drop i (batch_rows c.rows c.columns))
      (omega (arith, flags, numbers, each)) (omega (arith, flags, rows, few, many))

  tail_looked : (n : ℕ) → get_or c.numbers i 0 ≤ n → number_row c n ≡ look (tail_numbers c i) (tail_rows c i) n
  tail_looked n low =
      let few = long.few in
      let many = batch_counted c.columns c.rows in
      row_left c n long
      ∙ look_tail c.first (c.first + c.span) c.gone c.numbers (batch_rows c.rows c.columns) i n long.rise inside long.each
      (omega (arith, few, many)) low

  pub number_inside : (c.first ≤ get_or c.numbers i 0) × (get_or c.numbers i 0 < c.first + c.span)
  number_inside = rising_at c.first (c.first + c.span) c.numbers i 0 long.rise inside

  pub is_tail :
      (first span : ℕ) (ks : List ℕ) (rs : List Row) (t : Chunk) → first ≡ get_or c.numbers i 0
      → span ≡ (c.first + c.span) - first → ks ≡ tail_numbers c i → rs ≡ tail_rows c i → IsMadeIn first span ks rs t
      → IsTail c i t
  is_tail first span ks rs t first_is span_is numbers rows made =
      let low = number_inside.1 in
      let start = made.first_is in
      let size = made.span_is in
      let end : first + span ≡ c.first + c.span = omega (arith, low, first_is, span_is) in
      let are : AreRising first ks (first + span) =
      subst (λ f. AreRising f ks (first + span)) (sym first_is)
      (subst (λ e. AreRising (get_or c.numbers i 0) ks e) (sym end)
      (subst (λ ns. AreRising (get_or c.numbers i 0) ns (c.first + c.span)) (sym numbers) tail_rising)) in
      let whole = made_long first span ks rs t start size made.made are in
      let same : length ks ≡ length rs = ap length numbers ∙ tail_long ∙ sym (ap length rows) in
      let left = made_left ks rs t made.made same in
      record {
        within = within;
        first = start ∙ first_is;
        long = whole;
        end = omega (arith, start, size, end);
        rows = λ n above.
            row_left t n whole ∙ ap (λ ns. look ns (rows_left t) n) (left.0 ∙ numbers)
            ∙ ap (λ xs. look (tail_numbers c i) xs n) (left.1 ∙ rows)
            ∙ sym (tail_looked n (omega (arith, above, start, first_is)));
      }

  pub tail_held :
      (trees : List (Rose Layout)) (rows : List Row) → IsWide (length trees) c
      → ((n : ℕ) → IsHeld (kids_of trees) (row_in (c ∷ []) n)) → rows ≡ tail_rows c i
      → All (λ row. HoldsEach (kids_of trees) (items_of row)) rows
  tail_held trees rows wide held rows_are =
      let P : List Row → Type 0 = λ xs. All (λ row. HoldsEach (kids_of trees) (items_of row)) xs in
      subst P (sym rows_are) (λ j e below.
      let many = tail_long in
      let n : ℕ = get_or (tail_numbers c i) j 0 in
      let place = rising_at (get_or c.numbers i 0) (c.first + c.span) (tail_numbers c i) j 0 tail_rising (omega (arith, below, many)) in
      let low = place.0 in
      let from = number_inside.0 in
      let here : row_in (c ∷ []) n ≡ get_or (tail_rows c i) j e =
      row_within c [] n (omega (arith, low, from)) place.1 ∙ tail_looked n low
      ∙ look_at (get_or c.numbers i 0) (c.first + c.span) (tail_numbers c i) (tail_rows c i) j 0 e tail_rising many below in
      elim (held n) [
        | inl empty ↦ no_layouts trees (get_or (tail_rows c i) j e) (sym here ∙ empty) (wide_tail trees wide j e below)
        | inr holds ↦ subst (λ row. HoldsEach (kids_of trees) (items_of row)) here holds
      ])
    where
      wide_tail : (ts : List (Rose Layout)) → IsWide (length ts) c → All (HasWidth (length ts)) (tail_rows c i)
      wide_tail ts is_wide =
          wide_left (drop i c.gone) (length ts) (drop i (batch_rows c.rows c.columns))
          (All-drop (HasWidth (length ts)) i (batch_rows c.rows c.columns)
          (wide_rows c.columns (length ts) is_wide 0 c.rows))

-- what is gathered of a chunk's last rows

pub tail_sized :
    (c : Chunk) (b : Batch) (n : ℕ) → IsLong c → b.rows ≡ c.rows → b.columns.items ≡ c.columns → IsWide n c → IsSized n b
tail_sized c b n long rows columns wide = record {
  columns = ap length columns ∙ wide;
  cells =
      subst (λ ks. All (λ k. length k.cells ≡ b.rows) ks) (sym columns)
      (subst (λ m. All (λ k. length k.cells ≡ m) c.columns) (sym rows) long.long);
}

pub tail_gathered :
    (c : Chunk) (b : Batch) (gs : List Bool) (i : ℕ) (none made : List RowRange) → b.rows ≡ c.rows
    → b.columns.items ≡ c.columns → gs ≡ c.gone → none ≡ []
    → ranges_rows made ≡ ranges_rows none ++ unflagged (drop i gs) (drop i (rows_in_batch b))
    → ranges_rows made ≡ tail_rows c i
tail_gathered c b gs i none made rows columns gone empty gathered =
    gathered ∙ ap (λ rs. ranges_rows rs ++ unflagged (drop i gs) (drop i (rows_in_batch b))) empty
    ∙ ap (λ hs. unflagged (drop i hs) (drop i (rows_in_batch b))) gone
    ∙ ap (λ n. unflagged (drop i c.gone) (drop i (batch_rows n b.columns.items))) rows
    ∙ ap (λ ks. unflagged (drop i c.gone) (drop i (batch_rows c.rows ks))) columns

pub tail_numbered :
    (c : Chunk) (i : ℕ) (none made : List ℕ) → none ≡ [] → made ≡ none ++ tail_numbers c i → made ≡ tail_numbers c i
tail_numbered c i none made empty gathered = gathered ∙ ap (λ ns. ns ++ tail_numbers c i) empty

pub tail_of :
    {E : Type 0} (c : Chunk) (i first span : ℕ) (ks : List ℕ) (rs : List Row) (made : Result (Option Chunk) E) → IsLong c
    → i < length c.gone → first ≡ get_or c.numbers i 0 → span ≡ (c.first + c.span) - first → ks ≡ tail_numbers c i
    → rs ≡ tail_rows c i → IfOk made (λ m. IfSome m (IsMadeIn first span ks rs)) → IfOk made (λ m. IfSome m (IsTail c i))
tail_of c i first span ks rs (Err e) long within first_is span_is numbers rows made = made
tail_of c i first span ks rs (Ok None) long within first_is span_is numbers rows made = made
tail_of c i first span ks rs (Ok (Some t)) long within first_is span_is numbers rows made =
    is_tail c i long within first span ks rs t first_is span_is numbers rows made

-- A chunk is split.

rising_past : (from end : ℕ) (ns : List ℕ) (i d : ℕ) → AreRising from ns end → i < length ns → from + i ≤ get_or ns i d
rising_past from end [] i d are below = absurd (omega (arith, below))
rising_past from end (n ∷ ns) zero d are below = let low = are.0 in omega (arith, low)
rising_past from end (n ∷ ns) (suc i) d are below =
    let low = are.0 in
    let rest = rising_past (suc n) end ns i d are.1 (omega (arith, below)) in
    omega (arith, low, rest)

pub tail_above : (c t : Chunk) (i : ℕ) → IsLong c → 0 < i → IsTail c i t → c.first < t.first
tail_above c t i long some is =
    let each = long.each in
    let within = is.within in
    let past = rising_past c.first (c.first + c.span) c.numbers i 0 long.rise (omega (arith, each, within)) in
    let first = is.first in
    omega (arith, past, first, some)

join_chunks : (from mid len : ℕ) (cs ds : List Chunk) → AreChunks from cs mid → end_of from cs ≤ mid → AreChunks (end_of from cs) ds len
    → AreChunks from (cs ++ ds) len
join_chunks from mid len [] ds are end rest = rest
join_chunks from mid len (c ∷ cs) ds are end rest =
    (are.0, are.1, join_chunks (c.first + c.span) mid len cs ds are.2 end rest)

rows_behind : (front xs ys : List Chunk) (n : ℕ) → row_in xs n ≡ row_in ys n → row_in (front ++ xs) n ≡ row_in (front ++ ys) n
rows_behind [] xs ys n same = same
rows_behind (c ∷ cs) xs ys n same = row_rest c (cs ++ xs) (cs ++ ys) n (rows_behind cs xs ys n same)

module _ (c left t : Chunk) (i : ℕ) (long : IsLong c) (below : c.first < t.first) (tail : IsTail c i t) (short : IsShortened t.first c left) where
  starts : left.first ≡ c.first
  starts = ap (λ (x : Chunk). x.first) short.new_is

  alone_left : AreChunks 0 (left ∷ []) t.first
  alone_left =
      shortened_chunks t.first c left below long short [] (c.first + c.span) (omega arith, long, omega arith)

  split_rows : (ds : List Chunk) (n : ℕ) → row_in (left ∷ t ∷ ds) n ≡ row_in (c ∷ ds) n
  split_rows ds n =
      let end = tail.end in
      let first_end = alone_left.2 in
      elim (lt_or_le n t.first) [
        | inl before ↦
            row_rest left (t ∷ ds) [] n (row_before t ds n before)
            ∙ shortened_rows t.first c left below long short [] n before
            ∙ elim (lt_or_le n c.first) [
              | inl under ↦ row_before c [] n under ∙ sym (row_before c ds n under)
              | inr low ↦
                  row_within c [] n low (omega (arith, before, end)) ∙ sym (row_within c ds n low (omega (arith, before, end)))
            ]
        | inr from ↦
            row_after left (t ∷ ds) n (omega (arith, first_end, from))
            ∙ elim (lt_or_le n (t.first + t.span)) [
              | inl within ↦
                  row_within t ds n from within ∙ tail.rows n from
                  ∙ sym (row_within c ds n (omega (arith, below, from)) (omega (arith, within, end)))
              | inr past ↦ row_after t ds n past ∙ sym (row_after c ds n (omega (arith, past, end)))
            ]
      ]

  split_here : (from len : ℕ) (ds : List Chunk) → AreChunks from (c ∷ ds) len → AreChunks from (left ∷ t ∷ ds) len
  split_here from len ds are =
      let low = are.0 in
      let start = starts in
      let end = tail.end in
      (omega (arith, low, start), alone_left.1, (alone_left.2, tail.long, subst (λ e. AreChunks e ds len) (sym end) are.2))

-- the part before an index, the chunk there, and the part after it
at_place : (cs : List Chunk) (p : ℕ) (c : Chunk) → slice_get cs p ≡ Some c → cs ≡ take p cs ++ c ∷ drop (p + 1) cs
at_place [] p c there = absurd (none-some c there)
at_place (x ∷ xs) zero c there = ap (λ y. y ∷ xs) (some_same x c there) ∙ sym (ap (λ ys. c ∷ ys) (drop_none xs))
at_place (x ∷ xs) (suc p) c there =
    let e : suc p + 1 ≡ suc (p + 1) = omega arith in
    ap (λ ys. x ∷ ys) (at_place xs p c there) ∙ sym (ap (λ k. x ∷ (take p xs ++ c ∷ drop k (x ∷ xs))) e)

pub one_cut : (cs : List Chunk) (p : ℕ) (c : Chunk) → slice_get cs p ≡ Some c → take ((p + 1) - p) (drop p cs) ≡ c ∷ []
one_cut cs p c there =
    let one : (p + 1) - p ≡ 1 = omega arith in
    ap (λ k. take k (drop p cs)) one ∙ first_of cs p there
  where
    first_of : (xs : List Chunk) (k : ℕ) → slice_get xs k ≡ Some c → take 1 (drop k xs) ≡ c ∷ []
    first_of [] k at = absurd (none-some c at)
    first_of (x ∷ xs) zero at = ap (λ y. y ∷ take 0 xs) (some_same x c at) ∙ ap (λ ys. c ∷ ys) (take_none xs)
    first_of (x ∷ xs) (suc k) at = first_of xs k at

pub split_at :
    (cs new : List Chunk) (len p i : ℕ) (t : Chunk) → AreChunks 0 cs len → IsSplit cs p t new
    → ((c : Chunk) → slice_get cs p ≡ Some c → IsLong c × (c.first < t.first) × IsTail c i t)
    → AreChunks 0 new len × (stored_rows new len ≡ stored_rows cs len)
split_at cs new len p i t are split known =
    let c = split.chunk in
    let front : List Chunk = take p cs in
    let ds : List Chunk = drop (p + 1) cs in
    let at = known c split.there in
    let whole : cs ≡ front ++ c ∷ ds = at_place cs p c split.there in
    let all : AreChunks 0 (front ++ c ∷ ds) len = subst (λ xs. AreChunks 0 xs len) whole are in
    let e : ℕ = end_of 0 front in
    let here = split_here c split.left t i at.0 at.1 at.2 split.shortened e len ds (split_chunks 0 len front (c ∷ ds) all) in
    let P : List Chunk → Type 0 = λ xs. AreChunks 0 xs len × (stored_rows xs len ≡ stored_rows cs len) in
    subst P (sym split.new_is) (
      join_chunks 0 e len front (split.left ∷ t ∷ ds) (front_chunks 0 len front (c ∷ ds) all) (omega arith) here,
      listed_same (row_in (front ++ split.left ∷ t ∷ ds)) (row_in cs) 0 len
          (λ n low inside. rows_behind front (split.left ∷ t ∷ ds) (c ∷ ds) n
          (split_rows c split.left t i at.0 at.1 at.2 split.shortened ds n) ∙ ap (λ xs. row_in xs n) (sym whole)),
    )

-- what is done to the list: the tail is inserted after the index, and the chunk there is shortened
pub split_list :
    (cs mid new : List Chunk) (p : ℕ) (c left t : Chunk) → slice_get cs p ≡ Some c
    → mid ≡ take (p + 1) cs ++ t ∷ drop (p + 1) cs → new ≡ slice_set mid p left → IsShortened t.first c left
    → IsSplit cs p t new
split_list cs mid new p c left t there put set short = record {
  chunk = c;
  left = left;
  there = there;
  shortened = short;
  new_is =
      let e : p + 1 ≡ suc p = omega arith in
      let below = slice_get_within cs p c there in
      set ∙ ap (λ xs. slice_set xs p left) (put ∙ ap (λ k. take k cs ++ t ∷ drop (p + 1) cs) e)
      ∙ set_end cs (t ∷ drop (p + 1) cs) p left below;
}

-- the chunk at the index after which one was inserted
pub place_kept : (cs mid : List Chunk) (p : ℕ) (t x : Chunk) → p < length cs → mid ≡ take (p + 1) cs ++ t ∷ drop (p + 1) cs
    → get_or mid p x ≡ get_or cs p x
place_kept cs mid p t x below put =
    let e : p + 1 ≡ suc p = omega arith in
    ap (λ xs. get_or xs p x) (put ∙ ap (λ k. take k cs ++ t ∷ drop (p + 1) cs) e) ∙ kept cs p below
  where
    kept : (xs : List Chunk) (k : ℕ) → k < length xs → get_or (take (suc k) xs ++ t ∷ drop (p + 1) cs) k x ≡ get_or xs k x
    kept [] k inside = absurd (omega (arith, inside))
    kept (y ∷ ys) zero inside = refl
    kept (y ∷ ys) (suc k) inside = kept ys k (omega (arith, inside))

-- what is known of the chunk at an index
pub record IsThere (ls : Roses Layout) (cs : List Chunk) (p : ℕ) (c : Chunk) : Type 0 where
  pub there : slice_get cs p ≡ Some c
  pub long : IsLong c
  pub bound : c.first + c.span < 2 ^ 64
  pub held : (n : ℕ) → IsHeld ls (row_in (c ∷ []) n)

pub is_there :
    (ls : Roses Layout) (cs : List Chunk) (len p : ℕ) (c : Chunk) (rows : List Row) → AreChunks 0 cs len → len < 2 ^ 64
    → c ≡ get_or cs p c → p < length cs → stored_rows cs len ≡ rows → All (IsHeld ls) rows → IsThere ls cs p c
is_there ls cs len p c rows are high is below view held =
    let there = chunk_read cs p c is below in
    let mid = middle ls cs len p (p + 1) rows are high (omega arith) (omega (arith, below)) view held in
    let one = one_cut cs p c there in
    let part : IsPart (c ∷ []) = subst IsPart one mid.part in
    let end = part.2.2 in
    let most = part.3 in
    record {
      there = there;
      long = part.2.1;
      bound = omega (arith, end, most);
      held = let P : List Chunk → Type 0 = λ xs. (n : ℕ) → IsHeld ls (row_in xs n) in subst P one mid.held;
    }

pub other_default : (cs : List Chunk) (p : ℕ) (c t : Chunk) → slice_get cs p ≡ Some c → get_or cs p t ≡ c
other_default cs p c t there = get_or_from_slice_get cs p c t there

pub split_done :
    (ls : Roses Layout) (cs new : List Chunk) (len p i : ℕ) (c t : Chunk) (done : Bool) → AreChunks 0 cs len
    → IsThere ls cs p c → 0 < i → IsTail c i t → (done ≡ true → IsSplit cs p t new) → (done ≡ false → new ≡ cs)
    → AreChunks 0 new len × (stored_rows new len ≡ stored_rows cs len)
split_done ls cs new len p i c t true are known some tail split refused =
    split_at cs new len p i t are (split refl)
    (λ d there.
    let same : c ≡ d = some_same c d (sym known.there ∙ there) in
    let P : Chunk → Type 0 = λ x. IsLong x × (x.first < t.first) × IsTail x i t in
    subst P same (known.long, tail_above c t i known.long some tail, tail))
split_done ls cs new len p i c t false are known some tail split refused =
    let P : List Chunk → Type 0 = λ xs. AreChunks 0 xs len × (stored_rows xs len ≡ stored_rows cs len) in
    subst P (sym (refused refl)) (are, refl)
