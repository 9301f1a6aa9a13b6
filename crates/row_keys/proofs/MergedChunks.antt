-- Chunks that are rewritten, and the rows that are found in them.
use Rattle.std.proofs.Common.{◌≡◌, ◌⊎◌, inl, inr, ℕ, zero, suc, ◌+◌, ◌-◌, ◌^◌, ◌<◌, ◌≤◌, Bool, true, false, All, List, [], ◌∷◌, ◌++◌, drop, get_or, length, length-append, take, refl, ap, sym, subst, ◌∙◌, arith}
use Rattle.std.specs.Prelude.{IfOk, IfSome, Option, None, Some, Result, Ok, Err, if◌then◌else◌, nat_eq, nat_lt, replicate, slice_set}
use Rattle.std.proofs.lemmas.List.Elements.{All-append, All-cons, All-head, All-nil, All-tail}
use Rattle.std.proofs.lemmas.Bool.{ne_eqb}
use Rattle.std.proofs.lemmas.Bool.Decides.{eqb_tells}
use Rattle.std.proofs.lemmas.List.{drop-drop}
use Rattle.values.specs.Datum.{Datum, items_of}
use Rattle.values.specs.Layouts.{AreLayouts, HoldsEach}
use Rattle.values.specs.Limits.{max_batch_rows, max_batch_weight, max_fields}
use Rattle.values.specs.Rose.{Rose, Roses, kids_of, roses_size}
use Rattle.values.specs.declared.layout.Layout.{Layout}
use Rattle.arrays.specs.Checked.{CheckedColumn}
use Rattle.body_writer.specs.Batch.{IsBatch, rows_weight}
use Rattle.schema_meta.specs.Rows.{row_at, rows_from}
use Rattle.row_keys.specs.Batches.{batch_rows, cells_in}
use Rattle.row_keys.specs.Chunks.{AreChunks, AreRising, Chunk, IsLong, number_row, place_in, row_in, stored_rows}
use Rattle.row_keys.specs.RowsLeft.{IsHeld, IsMade, IsMadeIn, IsMerged, IsPart, IsWide, all_numbers, all_rows, end_of, numbers_left, rows_left, unflagged}
use Rattle.row_keys.proofs.AppendedBatches.{batch_counted}
use Rattle.row_keys.proofs.ChunkedRows.{flags_long, stored_at, stored_long}
use Rattle.row_keys.proofs.ListedItems.{listed_same}
use Rattle.row_keys.proofs.RowsOfChunks.{ends_within, lt_or_le, none_before, none_past, row_after, row_before, row_within}
use Rattle.row_keys.proofs.RowPlaces.{first_or_not, here_first, not_first, rising_at, rising_from, rising_within}

abbrev pub Row : Type 0
Row = List Datum

-- the row of a number
abbrev pub look : List ℕ → List Row → ℕ → Row
look [] rs n = []
look (k ∷ ks) [] n = []
look (k ∷ ks) (r ∷ rs) n = if nat_eq k n then r else look ks rs n

look_here : (k n : ℕ) (ks : List ℕ) (r : Row) (rs : List Row) → k ≡ n → look (k ∷ ks) (r ∷ rs) n ≡ r
look_here k n ks r rs is = ap (λ b. if b then r else look ks rs n) (elim (eqb_tells k n) [
  | inl t ↦ t.0
  | inr t ↦ absurd (t.1 is)
])

pub look_there : (k n : ℕ) (ks : List ℕ) (r : Row) (rs : List Row) → (k ≡ n → ⊥) → look (k ∷ ks) (r ∷ rs) n ≡ look ks rs n
look_there k n ks r rs other = ap (λ b. if b then r else look ks rs n) (ne_eqb k n other)

look_under : (from end : ℕ) (ks : List ℕ) (rs : List Row) (n : ℕ) → AreRising from ks end → n < from → look ks rs n ≡ []
look_under from end [] rs n are below = refl
look_under from end (k ∷ ks) [] n are below = refl
look_under from end (k ∷ ks) (r ∷ rs) n are below =
    let low = are.0 in
    look_there k n ks r rs (λ e. omega (arith, e, low, below))
    ∙ look_under (suc k) end ks rs n are.1 (omega (arith, low, below))

look_over : (from end : ℕ) (ks : List ℕ) (rs : List Row) (n : ℕ) → AreRising from ks end → end ≤ n → look ks rs n ≡ []
look_over from end [] rs n are past = refl
look_over from end (k ∷ ks) [] n are past = refl
look_over from end (k ∷ ks) (r ∷ rs) n are past =
    let rest = rising_within (suc k) end ks are.1 in
    look_there k n ks r rs (λ e. omega (arith, e, rest, past)) ∙ look_over (suc k) end ks rs n are.1 past

look_first : (ks ls : List ℕ) (rs qs : List Row) (n : ℕ) → length ks ≡ length rs → look ls qs n ≡ []
    → look (ks ++ ls) (rs ++ qs) n ≡ look ks rs n
look_first [] ls [] qs n same empty = empty
look_first [] ls (r ∷ rs) qs n same empty = absurd (omega (arith, same))
look_first (k ∷ ks) ls [] qs n same empty = absurd (omega (arith, same))
look_first (k ∷ ks) ls (r ∷ rs) qs n same empty =
    ap (λ x. if nat_eq k n then r else x) (look_first ks ls rs qs n (omega (arith, same)) empty)

look_later :
    (from end : ℕ) (ks ls : List ℕ) (rs qs : List Row) (n : ℕ) → length ks ≡ length rs → AreRising from ks end → end ≤ n
    → look (ks ++ ls) (rs ++ qs) n ≡ look ls qs n
look_later from end [] ls [] qs n same are past = refl
look_later from end [] ls (r ∷ rs) qs n same are past = absurd (omega (arith, same))
look_later from end (k ∷ ks) ls [] qs n same are past = absurd (omega (arith, same))
look_later from end (k ∷ ks) ls (r ∷ rs) qs n same are past =
    let rest = rising_within (suc k) end ks are.1 in
    look_there k n (ks ++ ls) r (rs ++ qs) (λ e. omega (arith, e, rest, past))
    ∙ look_later (suc k) end ks ls rs qs n (omega (arith, same)) are.1 past

pub look_at : (from end : ℕ) (ks : List ℕ) (rs : List Row) (j d : ℕ) (e : Row) → AreRising from ks end → length ks ≡ length rs
    → j < length rs → look ks rs (get_or ks j d) ≡ get_or rs j e
look_at from end [] [] j d e are same below = absurd (omega (arith, below))
look_at from end [] (r ∷ rs) j d e are same below = absurd (omega (arith, same))
look_at from end (k ∷ ks) [] j d e are same below = absurd (omega (arith, below))
look_at from end (k ∷ ks) (r ∷ rs) zero d e are same below = look_here k k ks r rs refl
look_at from end (k ∷ ks) (r ∷ rs) (suc j) d e are same below =
    let above = (rising_at (suc k) end ks j d are.1 (omega (arith, same, below))).0 in
    look_there k (get_or ks j d) ks r rs (λ is. omega (arith, is, above))
    ∙ look_at (suc k) end ks rs j d e are.1 (omega (arith, same)) (omega (arith, below))

-- what isn't flagged

pub rising_left : (from end : ℕ) (gs : List Bool) (ns : List ℕ) → AreRising from ns end → AreRising from (unflagged gs ns) end
rising_left from end [] ns are = rising_within from end ns are
rising_left from end (g ∷ gs) [] are = are
rising_left from end (g ∷ gs) (n ∷ ns) are = by g (rising_left (suc n) end gs ns are.1)
  where
    by : (b : Bool) → AreRising (suc n) (unflagged gs ns) end
        → AreRising from (if b then unflagged gs ns else n ∷ unflagged gs ns) end
    by true rest = let low = are.0 in rising_from (suc n) from end (unflagged gs ns) rest (omega (arith, low))
    by false rest = (are.0, rest)

pub as_many_left : {X Y : Type 0} (gs : List Bool) (xs : List X) (ys : List Y) → length gs ≤ length xs → length gs ≤ length ys
    → length (unflagged gs xs) ≡ length (unflagged gs ys)
as_many_left [] xs ys few less = refl
as_many_left (g ∷ gs) [] ys few less = absurd (omega (arith, few))
as_many_left (g ∷ gs) (x ∷ xs) [] few less = absurd (omega (arith, less))
as_many_left (g ∷ gs) (x ∷ xs) (y ∷ ys) few less =
    by g (as_many_left gs xs ys (omega (arith, few)) (omega (arith, less)))
  where
    by : (b : Bool) → length (unflagged gs xs) ≡ length (unflagged gs ys)
        → length (if b then unflagged gs xs else x ∷ unflagged gs xs)
        ≡ length (if b then unflagged gs ys else y ∷ unflagged gs ys)
    by true same = same
    by false same = ap suc same

all_left : {X : Type 0} (xs : List X) → unflagged (replicate (length xs) false) xs ≡ xs
all_left [] = refl
all_left (x ∷ xs) = ap (λ ys. x ∷ ys) (all_left xs)

look_left :
    (gs : List Bool) (ns : List ℕ) (cells : List (List Datum)) (i m from end n : ℕ) → AreRising from ns end
    → length ns ≡ length gs → length gs ≤ m
    → (if get_or gs (place_in ns n) true then [] else row_at cells (i + place_in ns n))
    ≡ look (unflagged gs ns) (unflagged gs (rows_from cells i m)) n
unfolding rows_from
look_left [] [] cells i m from end n are same few = refl
look_left [] (k ∷ ks) cells i m from end n are same few = absurd (omega (arith, same))
look_left (g ∷ gs) [] cells i m from end n are same few = absurd (omega (arith, same))
look_left (g ∷ gs) (k ∷ ks) cells i zero from end n are same few = absurd (omega (arith, few))
look_left (g ∷ gs) (k ∷ ks) cells i (suc m) from end n are same few = elim (first_or_not k n) [
  | inl is ↦
      let e : i + 0 ≡ i = omega arith in
      ap (λ p. if get_or (g ∷ gs) p true then [] else row_at cells (i + p)) (here_first k n ks is)
      ∙ ap (λ j. if g then [] else row_at cells j) e ∙ here is g
  | inr other ↦
      let p : ℕ = place_in ks n in
      let e : i + suc p ≡ (i + 1) + p = omega arith in
      ap (λ q. if get_or (g ∷ gs) q true then [] else row_at cells (i + q)) (not_first k n ks other)
      ∙ ap (λ j. if get_or gs p true then [] else row_at cells j) e
      ∙ look_left gs ks cells (i + 1) m (suc k) end n are.1 (omega (arith, same)) (omega (arith, few))
      ∙ there other g
]
  where
    rest : List Row
    rest = unflagged gs (rows_from cells (i + 1) m)

    here : k ≡ n → (b : Bool) → (if b then [] else row_at cells i)
        ≡ look (if b then unflagged gs ks else k ∷ unflagged gs ks)
        (if b then unflagged gs (rows_from cells (i + 1) m) else row_at cells i ∷ unflagged gs (rows_from cells (i + 1) m)) n
    here is true =
        sym (look_under (suc k) end (unflagged gs ks) (unflagged gs (rows_from cells (i + 1) m)) n
        (rising_left (suc k) end gs ks are.1) (omega (arith, is)))
    here is false =
        sym (look_here k n (unflagged gs ks) (row_at cells i) (unflagged gs (rows_from cells (i + 1) m)) is)

    there : (k ≡ n → ⊥) → (b : Bool) → look (unflagged gs ks) (unflagged gs (rows_from cells (i + 1) m)) n
        ≡ look (if b then unflagged gs ks else k ∷ unflagged gs ks)
        (if b then unflagged gs (rows_from cells (i + 1) m) else row_at cells i ∷ unflagged gs (rows_from cells (i + 1) m)) n
    there other true = refl
    there other false =
        sym (look_there k n (unflagged gs ks) (row_at cells i) (unflagged gs (rows_from cells (i + 1) m)) other)

-- the rows of a chunk

left_long : (c : Chunk) → IsLong c → length (numbers_left c) ≡ length (rows_left c)
left_long c long =
    let each = long.each in
    let few = long.few in
    let many = batch_counted c.columns c.rows in
    as_many_left c.gone c.numbers (batch_rows c.rows c.columns) (omega (arith, each)) (omega (arith, few, many))

left_rising : (c : Chunk) → IsLong c → AreRising c.first (numbers_left c) (c.first + c.span)
left_rising c long = rising_left c.first (c.first + c.span) c.gone c.numbers long.rise

pub row_left : (c : Chunk) (n : ℕ) → IsLong c → number_row c n ≡ look (numbers_left c) (rows_left c) n
row_left c n long =
    let e : place_in c.numbers n ≡ 0 + place_in c.numbers n = omega arith in
    ap (λ j. if get_or c.gone (place_in c.numbers n) true then [] else row_at (cells_in c.columns) j) e
    ∙ look_left c.gone c.numbers (cells_in c.columns) 0 c.rows c.first (c.first + c.span) n long.rise long.each long.few

-- those of several

rising_add : (from mid end : ℕ) (ks ls : List ℕ) → AreRising from ks mid → AreRising mid ls end → AreRising from (ks ++ ls) end
rising_add from mid end [] ls first second = rising_from mid from end ls second first
rising_add from mid end (k ∷ ks) ls first second = (first.0, rising_add (suc k) mid end ks ls first.1 second)

pub all_rising : (from len : ℕ) (cs : List Chunk) → AreChunks from cs len → AreRising from (all_numbers cs) len
all_rising from len [] are = are
all_rising from len (c ∷ cs) are =
    rising_add from (c.first + c.span) len (numbers_left c) (all_numbers cs)
    (rising_from c.first from (c.first + c.span) (numbers_left c) (left_rising c are.1) are.0)
    (all_rising (c.first + c.span) len cs are.2)

pub all_long : (from len : ℕ) (cs : List Chunk) → AreChunks from cs len → length (all_numbers cs) ≡ length (all_rows cs)
all_long from len [] are = refl
all_long from len (c ∷ cs) are =
    let here = left_long c are.1 in
    let rest = all_long (c.first + c.span) len cs are.2 in
    let numbers = length-append (numbers_left c) (all_numbers cs) in
    let rows = length-append (rows_left c) (all_rows cs) in
    omega (arith, here, rest, numbers, rows)

rows_looked : (from len : ℕ) (cs : List Chunk) (n : ℕ) → AreChunks from cs len
    → row_in cs n ≡ look (all_numbers cs) (all_rows cs) n
rows_looked from len [] n are = refl
rows_looked from len (c ∷ cs) n are =
    let e : ℕ = c.first + c.span in
    let rest = all_rising e len cs are.2 in
    elim (lt_or_le n c.first) [
      | inl before ↦
          row_before c cs n before
          ∙ sym (look_under c.first len (all_numbers (c ∷ cs)) (all_rows (c ∷ cs)) n
          (rising_add c.first e len (numbers_left c) (all_numbers cs) (left_rising c are.1) rest) before)
      | inr low ↦ elim (lt_or_le n e) [
        | inl high ↦
            row_within c cs n low high ∙ row_left c n are.1
            ∙ sym (look_first (numbers_left c) (all_numbers cs) (rows_left c) (all_rows cs) n (left_long c are.1)
            (look_under e len (all_numbers cs) (all_rows cs) n rest high))
        | inr past ↦
            row_after c cs n past ∙ rows_looked e len cs n are.2
            ∙ sym (look_later c.first e (numbers_left c) (all_numbers cs) (rows_left c) (all_rows cs) n
            (left_long c are.1) (left_rising c are.1) past)
      ]
    ]

-- A chunk made of them has the same rows.

pub made_long : (first span : ℕ) (ks : List ℕ) (rs : List Row) (c : Chunk) → c.first ≡ first → c.span ≡ span
    → IsMade ks rs c → AreRising first ks (first + span) → IsLong c
made_long first span ks rs c first_is span_is made are =
    let flags : length c.gone ≡ length ks = ap length made.gone ∙ flags_long (length ks) in
    let many = made.many in
    let numbers = ap length made.numbers_are in
    let P : ℕ → ℕ → List ℕ → Type 0 = λ f s ns. AreRising f ns (f + s) in
    record {
      long = subst (λ r. All (λ k. length k.cells ≡ r) c.columns) (sym many) made.long;
      few = omega (arith, flags, many);
      each = omega (arith, flags, numbers);
      rise =
          subst (λ f. P f c.span c.numbers) (sym first_is)
          (subst (λ s. P first s c.numbers) (sym span_is) (subst (P first span) (sym made.numbers_are) are));
    }

pub made_left : (ks : List ℕ) (rs : List Row) (c : Chunk) → IsMade ks rs c → length ks ≡ length rs
    → (numbers_left c ≡ ks) × (rows_left c ≡ rs)
made_left ks rs c made same =
    let few : replicate (length ks) false ≡ replicate (length rs) false = ap (λ n. replicate n false) same in (
      ap (λ gs. unflagged gs c.numbers) made.gone ∙ ap (unflagged (replicate (length ks) false)) made.numbers_are
          ∙ all_left ks,
      ap (λ gs. unflagged gs (batch_rows c.rows c.columns)) made.gone
          ∙ ap (λ n. unflagged (replicate (length ks) false) (batch_rows n c.columns)) made.many
          ∙ ap (unflagged (replicate (length ks) false)) made.rows_are
          ∙ ap (λ gs. unflagged gs rs) few ∙ all_left rs,
    )

-- the rows of one chunk alone
alone : (c : Chunk) (n : ℕ) → IsLong c → row_in (c ∷ []) n ≡ look (numbers_left c) (rows_left c) n
alone c n long =
    let rise = left_rising c long in
    elim (lt_or_le n c.first) [
      | inl before ↦
          row_before c [] n before ∙ sym (look_under c.first (c.first + c.span) (numbers_left c) (rows_left c) n rise before)
      | inr low ↦ elim (lt_or_le n (c.first + c.span)) [
        | inl high ↦ row_within c [] n low high ∙ row_left c n long
        | inr past ↦
            row_after c [] n past ∙ sym (look_over c.first (c.first + c.span) (numbers_left c) (rows_left c) n rise past)
      ]
    ]

end_within : (from len : ℕ) (cs : List Chunk) → AreChunks from cs len → AreChunks from cs (end_of from cs)
end_within from len [] are = omega arith
end_within from len (c ∷ cs) are = (are.0, are.1, end_within (c.first + c.span) len cs are.2)

pub merged :
    (from len : ℕ) (d : Chunk) (ds : List Chunk) (first span : ℕ) (ks : List ℕ) (rs : List Row) (c : Chunk)
    → AreChunks from (d ∷ ds) len → first ≡ d.first → first + span ≡ end_of from (d ∷ ds) → c.first ≡ first
    → c.span ≡ span → ks ≡ all_numbers (d ∷ ds) → rs ≡ all_rows (d ∷ ds) → IsMade ks rs c → IsMerged from (d ∷ ds) c
merged from len d ds first span ks rs c are start end first_is span_is numbers rows made =
    let same : length ks ≡ length rs = ap length numbers ∙ all_long from len (d ∷ ds) are ∙ sym (ap length rows) in
    let e : ℕ = end_of (d.first + d.span) ds in
    let all : AreRising d.first (all_numbers (d ∷ ds)) e =
    all_rising d.first e (d ∷ ds) (omega arith, are.1, end_within (d.first + d.span) len ds are.2) in
    let turned : AreRising first ks (first + span) =
    subst (λ f. AreRising f ks (first + span)) (sym start)
    (subst (λ x. AreRising d.first ks x) (sym end) (subst (λ ns. AreRising d.first ns e) (sym numbers) all)) in
    let long = made_long first span ks rs c first_is span_is made turned in
    let left = made_left ks rs c made same in
    let low = are.0 in
    record {
      first = omega (arith, low, start, first_is);
      long = long;
      end = ap (λ f. f + c.span) first_is ∙ ap (λ x. first + x) span_is ∙ end;
      rows = λ n.
          alone c n long ∙ ap (λ ns. look ns (rows_left c) n) (left.0 ∙ numbers)
          ∙ ap (λ xs. look (all_numbers (d ∷ ds)) xs n) (left.1 ∙ rows) ∙ sym (rows_looked from len (d ∷ ds) n are);
    }

-- the numbers above the last
pub end_at : (from len k : ℕ) (cs : List Chunk) (c : Chunk) → AreChunks from cs len → k + 1 ≡ length cs
    → c ≡ get_or cs k c → (c.first + c.span ≡ end_of from cs) × (c.first + c.span ≤ len)
end_at from len k [] c are last is = absurd (omega (arith, last))
end_at from len zero (d ∷ []) c are last is =
    (ap (λ (x : Chunk). x.first + x.span) is, subst (λ (x : Chunk). x.first + x.span ≤ len) (sym is) are.2)
end_at from len zero (d ∷ e ∷ es) c are last is = absurd (omega (arith, last))
end_at from len (suc k) (d ∷ ds) c are last is = end_at (d.first + d.span) len k ds c are.2 (omega (arith, last)) is

pub first_below : (from len k : ℕ) (cs : List Chunk) (c d : Chunk) → AreChunks from cs len → k < length cs
    → c ≡ get_or cs 0 c → d ≡ get_or cs k d → c.first ≤ d.first + d.span
first_below from len k [] c d are below first is = absurd (omega (arith, below))
first_below from len zero (x ∷ xs) c d are below first is =
    subst (λ (y : Chunk). c.first ≤ y.first + y.span) (sym is)
    (subst (λ (y : Chunk). y.first ≤ x.first + x.span) (sym first) (omega arith))
first_below from len (suc k) (x ∷ xs) c d are below first is =
    let rest = later (x.first + x.span) k xs are.2 (omega (arith, below)) is in
    let at = ap (λ (y : Chunk). y.first) first in
    omega (arith, rest, at)
  where
    later : (low i : ℕ) (ys : List Chunk) → AreChunks low ys len → i < length ys → d ≡ get_or ys i d
        → low ≤ d.first + d.span
    later low i [] all inside at = absurd (omega (arith, inside))
    later low zero (y ∷ ys) all inside at =
        let first_low = all.0 in
        subst (λ (z : Chunk). low ≤ z.first + z.span) (sym at) (omega (arith, first_low))
    later low (suc i) (y ∷ ys) all inside at =
        let more_low = later (y.first + y.span) i ys all.2 (omega (arith, inside)) at in
        let first_low = all.0 in
        omega (arith, first_low, more_low)

-- Some chunks are replaced by one.

pub split_chunks : (from len : ℕ) (cs ds : List Chunk) → AreChunks from (cs ++ ds) len → AreChunks (end_of from cs) ds len
split_chunks from len [] ds are = are
split_chunks from len (c ∷ cs) ds are = split_chunks (c.first + c.span) len cs ds are.2

pub front_chunks : (from len : ℕ) (cs ds : List Chunk) → AreChunks from (cs ++ ds) len → AreChunks from cs (end_of from cs)
front_chunks from len [] ds are = omega arith
front_chunks from len (c ∷ cs) ds are = (are.0, are.1, front_chunks (c.first + c.span) len cs ds are.2)

pub rows_early : (from len : ℕ) (cs ds : List Chunk) (n : ℕ) → AreChunks from (cs ++ ds) len → n < end_of from cs
    → row_in (cs ++ ds) n ≡ row_in cs n
rows_early from len [] ds n are early = none_before from len n ds are early
rows_early from len (c ∷ cs) ds n are early = elim (lt_or_le n c.first) [
  | inl before ↦ row_before c (cs ++ ds) n before ∙ sym (row_before c cs n before)
  | inr low ↦ elim (lt_or_le n (c.first + c.span)) [
    | inl high ↦ row_within c (cs ++ ds) n low high ∙ sym (row_within c cs n low high)
    | inr past ↦
        row_after c (cs ++ ds) n past ∙ rows_early (c.first + c.span) len cs ds n are.2 early
        ∙ sym (row_after c cs n past)
  ]
]

pub rows_late : (from len : ℕ) (cs ds : List Chunk) (n : ℕ) → AreChunks from (cs ++ ds) len → end_of from cs ≤ n
    → row_in (cs ++ ds) n ≡ row_in ds n
rows_late from len [] ds n are late = refl
rows_late from len (c ∷ cs) ds n are late =
    let above = ends_within (c.first + c.span) (end_of (c.first + c.span) cs) cs
    (front_chunks (c.first + c.span) len cs ds are.2) in
    row_after c (cs ++ ds) n (omega (arith, above, late)) ∙ rows_late (c.first + c.span) len cs ds n are.2 late

replaced_here : (from len : ℕ) (mid ds : List Chunk) (m : Chunk) → AreChunks from (mid ++ ds) len → IsMerged from mid m
    → AreChunks from (m ∷ ds) len × ((n : ℕ) → row_in (m ∷ ds) n ≡ row_in (mid ++ ds) n)
replaced_here from len mid ds m are is =
    let end = is.end in
    let late = split_chunks from len mid ds are in
    let after : AreChunks (m.first + m.span) ds len = subst (λ e. AreChunks e ds len) (sym end) late in
    let whole : AreChunks from (m ∷ ds) len = (is.first, is.long, after) in (
      whole,
      λ n. elim (lt_or_le n (end_of from mid)) [
        | inl early ↦
            rows_early from len (m ∷ []) ds n whole (omega (arith, early, end)) ∙ is.rows n
            ∙ sym (rows_early from len mid ds n are early)
        | inr past ↦ row_after m ds n (omega (arith, past, end)) ∙ sym (rows_late from len mid ds n are past)
      ],
    )

pub replaced : (from len : ℕ) (front mid ds : List Chunk) (m : Chunk) → AreChunks from (front ++ (mid ++ ds)) len
    → IsMerged (end_of from front) mid m
    → AreChunks from (front ++ m ∷ ds) len × ((n : ℕ) → row_in (front ++ m ∷ ds) n ≡ row_in (front ++ (mid ++ ds)) n)
replaced from len [] mid ds m are is = replaced_here from len mid ds m are is
replaced from len (c ∷ cs) mid ds m are is =
    let rest = replaced (c.first + c.span) len cs mid ds m are.2 is in
    ((are.0, are.1, rest.0), λ n. ap (λ r. if nat_lt n c.first then [] else (if nat_lt n (c.first + c.span) then number_row c n else r)) (rest.1 n))

halves : (k : ℕ) (xs : List Chunk) → xs ≡ take k xs ++ drop k xs
halves zero [] = refl
halves (suc k) [] = refl
halves zero (x ∷ xs) = refl
halves (suc k) (x ∷ xs) = ap (λ ys. x ∷ ys) (halves k xs)

-- the part of them from index p on, up to q
pub cut_out : (cs : List Chunk) (p q : ℕ) → p ≤ q → cs ≡ take p cs ++ (take (q - p) (drop p cs) ++ drop q cs)
cut_out cs p q le =
    let e : p + (q - p) ≡ q = omega (arith, le) in
    halves p cs
    ∙ ap (λ xs. take p cs ++ xs)
    (halves (q - p) (drop p cs)
    ∙ ap (λ xs. take (q - p) (drop p cs) ++ xs) (drop-drop (q - p) p cs ∙ ap (λ k. drop k cs) e))

-- The remaining rows are those of the table.

abbrev pub HasWidth : ℕ → Row → Type 0
HasWidth w row = length row ≡ w

pub map_long : (columns : List CheckedColumn) (i : ℕ) → length (row_at (cells_in columns) i) ≡ length columns
map_long [] i = refl
map_long (c ∷ cs) i = ap suc (map_long cs i)

pub wide_rows : (columns : List CheckedColumn) (w : ℕ) → length columns ≡ w → (i n : ℕ) → All (HasWidth w) (rows_from (cells_in columns) i n)
unfolding rows_from
wide_rows columns w wide i zero = All-nil (HasWidth w)
wide_rows columns w wide i (suc n) =
    All-cons (HasWidth w) (row_at (cells_in columns) i) (rows_from (cells_in columns) (i + 1) n)
    (map_long columns i ∙ wide) (wide_rows columns w wide (i + 1) n)

pub wide_left : (gs : List Bool) (w : ℕ) (rows : List Row) → All (HasWidth w) rows → All (HasWidth w) (unflagged gs rows)
wide_left [] w rows wide = All-nil (HasWidth w)
wide_left (g ∷ gs) w [] wide = All-nil (HasWidth w)
wide_left (g ∷ gs) w (r ∷ rs) wide = by g (wide_left gs w rs (All-tail (HasWidth w) r rs wide))
  where
    by : (b : Bool) → All (HasWidth w) (unflagged gs rs)
        → All (HasWidth w) (if b then unflagged gs rs else r ∷ unflagged gs rs)
    by true rest = rest
    by false rest = All-cons (HasWidth w) r (unflagged gs rs) (All-head (HasWidth w) r rs wide) rest

all_wide : (w : ℕ) (cs : List Chunk) → All (IsWide w) cs → All (HasWidth w) (all_rows cs)
all_wide w [] wide = All-nil (HasWidth w)
all_wide w (c ∷ cs) wide =
    All-append (HasWidth w) (rows_left c) (all_rows cs)
    (wide_left c.gone w (batch_rows c.rows c.columns)
    (wide_rows c.columns w (All-head (IsWide w) c cs wide) 0 c.rows))
    (all_wide w cs (All-tail (IsWide w) c cs wide))

pub no_layouts : (trees : List (Rose Layout)) (row : Row) → row ≡ [] → length row ≡ length trees
    → HoldsEach (kids_of trees) (items_of row)
no_layouts [] [] empty same = tt
no_layouts [] (d ∷ ds) empty same = absurd (omega (arith, same))
no_layouts (t ∷ ts) [] empty same = absurd (omega (arith, same))
no_layouts (t ∷ ts) (d ∷ ds) empty same = absurd (let few = ap length empty in omega (arith, few))

pub all_held :
    (from len : ℕ) (cs : List Chunk) (trees : List (Rose Layout)) → AreChunks from cs len
    → All (IsWide (length trees)) cs → ((n : ℕ) → IsHeld (kids_of trees) (row_in cs n))
    → All (λ row. HoldsEach (kids_of trees) (items_of row)) (all_rows cs)
all_held from len cs trees are wide held j e below =
    let same = all_long from len cs are in
    let n : ℕ = get_or (all_numbers cs) j 0 in
    let here : row_in cs n ≡ get_or (all_rows cs) j e =
    rows_looked from len cs n are
    ∙ look_at from len (all_numbers cs) (all_rows cs) j 0 e (all_rising from len cs are) same below in
    elim (held n) [
      | inl empty ↦
          no_layouts trees (get_or (all_rows cs) j e) (sym here ∙ empty)
          (all_wide (length trees) cs wide j e below)
      | inr holds ↦ subst (λ row. HoldsEach (kids_of trees) (items_of row)) here holds
    ]

pub few_rows :
    (ls : Roses Layout) (rows : List Row) (many : ℕ) → many ≡ length rows → many ≤ max_batch_rows
    → All (λ row. HoldsEach ls (items_of row)) rows → roses_size ls ≤ max_fields → AreLayouts ls
    → rows_weight ls rows ≤ max_batch_weight → IsBatch ls rows
few_rows ls rows many counted few held narrow layouts light = record {
  few = omega (arith, counted, few);
  held = held;
  narrow = narrow;
  layouts = layouts;
  light = light;
}

pub held_of :
    (part : List Chunk) (trees : List (Rose Layout)) (rows : List Row) → IsPart part → All (IsWide (length trees)) part
    → ((n : ℕ) → IsHeld (kids_of trees) (row_in part n)) → rows ≡ all_rows part
    → All (λ row. HoldsEach (kids_of trees) (items_of row)) rows
held_of part trees rows is wide held rows_are =
    let P : List Row → Type 0 = λ xs. All (λ row. HoldsEach (kids_of trees) (items_of row)) xs in
    subst P (sym rows_are) (all_held is.0 is.1 part trees is.2 wide held)

pub made_of :
    (first span : ℕ) (ks : List ℕ) (made rows : List Row) (c : Chunk) → made ≡ rows → c.first ≡ first → c.span ≡ span
    → IsMade ks made c → IsMadeIn first span ks rows c
made_of first span ks made rows c same first_is span_is is =
    record { first_is = first_is; span_is = span_is; made = subst (λ xs. IsMade ks xs c) same is }

pub as_many : (part : List Chunk) (numbers : List ℕ) (rows : List Row) → IsPart part → numbers ≡ all_numbers part
    → rows ≡ all_rows part → length numbers ≡ length rows
as_many part numbers rows is numbers_are rows_are =
    ap length numbers_are ∙ all_long is.0 is.1 part is.2 ∙ sym (ap length rows_are)

end_same : (from low : ℕ) (part : List Chunk) → 0 < length part → end_of from part ≡ end_of low part
end_same from low [] some = absurd (omega (arith, some))
end_same from low (c ∷ cs) some = refl

pub span_end :
    (part : List Chunk) (k : ℕ) (head last : Chunk) (span : ℕ) → IsPart part → 0 < length part → k + 1 ≡ length part
    → head ≡ get_or part 0 head → last ≡ get_or part k last → span ≡ (last.first + last.span) - head.first
    → (first : Chunk) → first ≡ get_or part 0 first → (from : ℕ) → first.first + span ≡ end_of from part
span_end part k head last span is some end first_is last_is span_is first at from =
    let high = (end_at is.0 is.1 k part last is.2 end last_is).0 in
    let below = first_below is.0 is.1 k part head last is.2 (omega (arith, end)) first_is last_is in
    let same : first.first ≡ head.first = ap (λ (x : Chunk). x.first) (at ∙ other part some ∙ sym first_is) in
    let all = end_same from is.0 part some in
    omega (arith, high, below, same, all, span_is)
  where
    other : (cs : List Chunk) → 0 < length cs → get_or cs 0 first ≡ get_or cs 0 head
    other [] more_than = absurd (omega (arith, more_than))
    other (c ∷ cs) more_than = refl

-- the numbers fit into a machine word
pub span_fits :
    (part : List Chunk) (k : ℕ) (head last : Chunk) → IsPart part → k + 1 ≡ length part → head ≡ get_or part 0 head
    → last ≡ get_or part k last → (last.first + last.span < 2 ^ 64) × (head.first ≤ last.first + last.span)
span_fits part k head last is end first_is last_is =
    let high = (end_at is.0 is.1 k part last is.2 end last_is).1 in
    let most = is.3 in
    let below = first_below is.0 is.1 k part head last is.2 (omega (arith, end)) first_is last_is in
    (omega (arith, high, most), below)

pub merged_part :
    (from len : ℕ) (part : List Chunk) (head : Chunk) (first span : ℕ) (ks : List ℕ) (rs : List Row) (c : Chunk)
    → AreChunks from part len → 0 < length part → head ≡ get_or part 0 head → first ≡ head.first
    → first + span ≡ end_of from part → c.first ≡ first → c.span ≡ span → ks ≡ all_numbers part → rs ≡ all_rows part
    → IsMade ks rs c → IsMerged from part c
merged_part from len [] head first span ks rs c are some at start = absurd (omega (arith, some))
merged_part from len (d ∷ ds) head first span ks rs c are some at start =
    merged from len d ds first span ks rs c are (start ∙ ap (λ (x : Chunk). x.first) at)

-- The chunks from index p up to q are replaced by one.

pub drop_none : {X : Type 0} (xs : List X) → drop 0 xs ≡ xs
drop_none [] = refl
drop_none (x ∷ xs) = refl

pub take_none : {X : Type 0} (xs : List X) → take 0 xs ≡ []
take_none [] = refl
take_none (x ∷ xs) = refl

pub before_end : (xs ys : List Chunk) (n : ℕ) → n < length xs → take n (take (suc n) xs ++ ys) ≡ take n xs
before_end [] ys n below = absurd (omega (arith, below))
before_end (x ∷ xs) ys zero below = refl
before_end (x ∷ xs) ys (suc n) below = ap (λ zs. x ∷ zs) (before_end xs ys n (omega (arith, below)))

behind_end : (xs ys : List Chunk) (n : ℕ) → n < length xs → drop (suc n) (take (suc n) xs ++ ys) ≡ ys
behind_end [] ys n below = absurd (omega (arith, below))
behind_end (x ∷ xs) ys zero below = ap (λ zs. drop 0 (zs ++ ys)) (take_none xs) ∙ drop_none ys
behind_end (x ∷ xs) ys (suc n) below = behind_end xs ys n (omega (arith, below))

pub set_end : (xs ys : List Chunk) (n : ℕ) (m : Chunk) → n < length xs → slice_set (take (suc n) xs ++ ys) n m ≡ take n xs ++ m ∷ ys
set_end [] ys n m below = absurd (omega (arith, below))
set_end (x ∷ xs) ys zero m below = ap (λ zs. m ∷ (zs ++ ys)) (take_none xs)
set_end (x ∷ xs) ys (suc n) m below = ap (λ zs. x ∷ zs) (set_end xs ys n m (omega (arith, below)))

pub none_removed : (old : List Chunk) (k q : ℕ) → k + 1 ≡ q → q ≤ length old → old ≡ take (k + 1) old ++ drop q old
none_removed old k q is within = halves q old ∙ ap (λ j. take j old ++ drop q old) (sym is)

pub one_removed :
    (old now new : List Chunk) (k q : ℕ) → q ≤ length old → k < q → now ≡ take (k + 1) old ++ drop q old
    → new ≡ take k now ++ drop (k + 1) now → new ≡ take ((k - 1) + 1) old ++ drop q old ⊎ (k ≡ 0)
one_removed old now new zero q within below so_far removed = inr refl
one_removed old now new (suc k) q within below so_far removed =
    let e : suc k + 1 ≡ suc (suc k) = omega arith in
    let less : suc k ≡ (suc k - 1) + 1 = omega arith in
    let whole : now ≡ take (suc (suc k)) old ++ drop q old = so_far ∙ ap (λ j. take j old ++ drop q old) e in
    inl (removed
    ∙ ap (λ j. take (suc k) now ++ drop j now) e
    ∙ ap (λ xs. take (suc k) xs ++ drop (suc (suc k)) xs) whole
    ∙ ap (λ xs. xs ++ drop (suc (suc k)) (take (suc (suc k)) old ++ drop q old))
    (before_end old (drop q old) (suc k) (omega (arith, below, within)))
    ∙ ap (λ xs. take (suc k) old ++ xs) (behind_end old (drop q old) (suc k) (omega (arith, below, within)))
    ∙ ap (λ j. take j old ++ drop q old) less)

pub put_in_place :
    (old now : List Chunk) (k p q : ℕ) (m : Chunk) → p < q → q ≤ length old → k ≡ p → now ≡ take (k + 1) old ++ drop q old
    → slice_set now p m ≡ take p old ++ m ∷ drop q old
put_in_place old now k p q m below within end so_far =
    let e : k + 1 ≡ suc p = omega (arith, end) in
    ap (λ xs. slice_set xs p m) (so_far ∙ ap (λ j. take j old ++ drop q old) e)
    ∙ set_end old (drop q old) p m (omega (arith, below, within))

-- the rows of those in the middle
middle_rows : (from len : ℕ) (front mid ds : List Chunk) (n : ℕ) → AreChunks from (front ++ (mid ++ ds)) len
    → (row_in mid n ≡ []) ⊎ (row_in mid n ≡ row_in (front ++ (mid ++ ds)) n)
middle_rows from len front mid ds n are =
    let after = split_chunks from len front (mid ++ ds) are in
    let e : ℕ = end_of from front in
    let here = front_chunks e len mid ds after in
    elim (lt_or_le n e) [
      | inl before ↦ inl (none_before e (end_of e mid) n mid here before)
      | inr low ↦ elim (lt_or_le n (end_of e mid)) [
        | inl high ↦ inr (sym (rows_late from len front (mid ++ ds) n are low ∙ rows_early e len mid ds n after high))
        | inr past ↦ inl (none_past e (end_of e mid) n mid here past)
      ]
    ]

-- what is known of them
pub record IsMiddle (ls : Roses Layout) (cs : List Chunk) (len p q : ℕ) (mid : List Chunk) : Type 0 where
  pub part : IsPart mid
  pub some : 0 < length mid
  pub held : (n : ℕ) → IsHeld ls (row_in mid n)
  pub replaced_by :
      (m : Chunk) (new : List Chunk) → ((from end : ℕ) → AreChunks from mid end → IsMerged from mid m)
      → new ≡ take p cs ++ m ∷ drop q cs → AreChunks 0 new len × (stored_rows new len ≡ stored_rows cs len)

length_taken : (k : ℕ) (xs : List Chunk) → k ≤ length xs → length (take k xs) ≡ k
length_taken zero [] le = refl
length_taken zero (x ∷ xs) le = refl
length_taken (suc k) [] le = absurd (omega (arith, le))
length_taken (suc k) (x ∷ xs) le = ap suc (length_taken k xs (omega (arith, le)))

pub length_dropped : {X : Type 0} (k : ℕ) (xs : List X) → length (drop k xs) ≡ length xs - k
length_dropped zero [] = let e : zero ≡ zero - 0 = omega arith in e
length_dropped zero (x ∷ xs) = let e : length (x ∷ xs) ≡ length (x ∷ xs) - 0 = omega arith in e
length_dropped (suc k) [] = let e : zero ≡ zero - suc k = omega arith in e
length_dropped (suc k) (x ∷ xs) = let rest = length_dropped k xs in omega (arith, rest)

pub middle :
    (ls : Roses Layout) (cs : List Chunk) (len p q : ℕ) (rows : List Row) → AreChunks 0 cs len → len < 2 ^ 64 → p < q
    → q ≤ length cs → stored_rows cs len ≡ rows → All (IsHeld ls) rows
    → IsMiddle ls cs len p q (take (q - p) (drop p cs))
middle ls cs len p q rows are high below within view held =
    let front : List Chunk = take p cs in
    let mid : List Chunk = take (q - p) (drop p cs) in
    let ds : List Chunk = drop q cs in
    let split : cs ≡ front ++ (mid ++ ds) = cut_out cs p q (omega (arith, below)) in
    let all : AreChunks 0 (front ++ (mid ++ ds)) len = subst (λ xs. AreChunks 0 xs len) split are in
    let after = split_chunks 0 len front (mid ++ ds) all in
    let e : ℕ = end_of 0 front in
    let here = front_chunks e len mid ds after in
    let last = ends_within (end_of e mid) len ds (split_chunks e len mid ds after) in
    let long = length_dropped p cs in
    record {
      part = (e, end_of e mid, here, omega (arith, last, high));
      some = let many = length_taken (q - p) (drop p cs) (omega (arith, long, within, below)) in omega (arith, many, below);
      held = λ n. elim (middle_rows 0 len front mid ds n all) [
        | inl gone ↦ inl gone
        | inr same ↦
            let row : row_in mid n ≡ row_in cs n = same ∙ ap (λ xs. row_in xs n) (sym split) in
            subst (IsHeld ls) (sym row) (elim (lt_or_le n len) [
              | inl inside ↦
                  let many = stored_long cs len in
                  let same_rows = ap length view in
                  subst (IsHeld ls)
                  (ap (λ (xs : List Row). get_or xs n []) (sym view) ∙ stored_at cs len n are)
                  (held n [] (omega (arith, inside, many, same_rows)))
              | inr past ↦ inl (none_past 0 len n cs are past)
            ])
      ];
      replaced_by = λ m new merged_is new_is.
          let made = replaced 0 len front mid ds m all (merged_is e (end_of e mid) here) in
          let P : List Chunk → Type 0 = λ xs. AreChunks 0 xs len × (stored_rows xs len ≡ stored_rows cs len) in
          subst P (sym new_is) (
            made.0,
            listed_same (row_in (front ++ m ∷ ds)) (row_in cs) 0 len
                (λ i low inside. made.1 i ∙ ap (λ xs. row_in xs i) (sym split)),
          );
    }

pub merged_of :
    {E : Type 0} (part : List Chunk) (head : Chunk) (first span : ℕ) (ks : List ℕ) (rs : List Row)
    (made : Result (Option Chunk) E) → IsPart part → 0 < length part → head ≡ get_or part 0 head
    → first ≡ head.first
    → ((d : Chunk) → d ≡ get_or part 0 d → (from : ℕ) → d.first + span ≡ end_of from part) → ks ≡ all_numbers part
    → rs ≡ all_rows part → IfOk made (λ c. IfSome c (IsMadeIn first span ks rs))
    → IfOk made (λ c. IfSome c (λ m. (from len : ℕ) → AreChunks from part len → IsMerged from part m))
merged_of part head first span ks rs (Err e) is some at start end numbers rows made = made
merged_of part head first span ks rs (Ok None) is some at start end numbers rows made = made
merged_of part head first span ks rs (Ok (Some c)) is some at start end numbers rows made = λ from len are.
    merged_part from len part head first span ks rs c are some at start
    (ap (λ f. f + span) start ∙ end head at from) made.first_is made.span_is numbers rows made.made
