-- The rows of chunks, by number.
use Rattle.std.proofs.Common.{◌≡◌, ◌⊎◌, inl, inr, ℕ, zero, suc, ◌+◌, ◌<◌, ◌≤◌, Bool, true, false, Some, List, [], ◌∷◌, ◌++◌, cond, filter, get_or, length, refl, ap, sym, subst, ◌∙◌, arith}
use Rattle.std.specs.Prelude.{if◌then◌else◌, nat_lt, slice_get, slice_set}
use Rattle.std.proofs.lemmas.Bool.{lt-ltb, ltb-false}
use Rattle.std.proofs.lemmas.Bool.Decides.{leb_tells}
use Rattle.std.proofs.lemmas.Option.{none-some}
use Rattle.values.specs.Datum.{Datum}
use Rattle.arrays.specs.Checked.{CheckedColumn}
use Rattle.schema_meta.specs.Rows.{row_at, rows_from}
use Rattle.row_keys.specs.Batches.{cells_in}
use Rattle.row_keys.specs.Chunks.{
  AreChunks,
  Chunk,
  IsLong,
  chunk_row,
  has_columns,
  number_row,
  place_in,
  row_in,
}
use Rattle.row_keys.specs.Listed.{listed}
use Rattle.row_keys.proofs.Places.{some_same}

abbrev Row : Type 0
Row = List Datum

pub listed_cells :
    (f : ℕ → Row) (cells : List (List Datum)) (first i n : ℕ)
    → ((j : ℕ) → i ≤ j → j < i + n → f (first + j) ≡ row_at cells j)
    → listed f (first + i) n ≡ rows_from cells i n
unfolding rows_from
listed_cells f cells first i zero same = refl
listed_cells f cells first i (suc n) same =
    let e : suc (first + i) ≡ first + (i + 1) = omega arith in
    ap (λ r. r ∷ listed f (suc (first + i)) n) (same i (omega arith) (omega arith))
    ∙ ap (λ k. row_at cells i ∷ listed f k n) e
    ∙ ap (λ rs. row_at cells i ∷ rs)
    (listed_cells f cells first (i + 1) n (λ j from below. same j (omega (arith, from)) (omega (arith, below))))

-- Where a number lies

pub lt_or_le : (i j : ℕ) → (i < j) ⊎ (j ≤ i)
lt_or_le i j = elim (leb_tells (suc i) j) [ inl t ↦ inl (omega (arith, t.1)) | inr t ↦ inr (omega (arith, t.1)) ]

not_lt : (a b : ℕ) → b ≤ a → nat_lt a b ≡ false
not_lt a b le = elim (leb_tells (suc a) b) [ inl t ↦ absurd (omega (arith, t.1, le)) | inr t ↦ t.0 ]

pub row_before : (c : Chunk) (cs : List Chunk) (n : ℕ) → n < c.first → row_in (c ∷ cs) n ≡ []
row_before c cs n before =
    ap (λ b. if b then [] else (if nat_lt n (c.first + c.span) then number_row c n else row_in cs n))
    (lt-ltb n c.first before)

pub row_within : (c : Chunk) (cs : List Chunk) (n : ℕ) → c.first ≤ n → n < c.first + c.span
    → row_in (c ∷ cs) n ≡ number_row c n
row_within c cs n from below =
    ap (λ b. if b then [] else (if nat_lt n (c.first + c.span) then number_row c n else row_in cs n))
    (not_lt n c.first from)
    ∙ ap (λ b. if b then number_row c n else row_in cs n) (lt-ltb n (c.first + c.span) below)

pub row_after : (c : Chunk) (cs : List Chunk) (n : ℕ) → c.first + c.span ≤ n → row_in (c ∷ cs) n ≡ row_in cs n
row_after c cs n after =
    ap (λ b. if b then [] else (if nat_lt n (c.first + c.span) then number_row c n else row_in cs n))
    (not_lt n c.first (omega (arith, after)))
    ∙ ap (λ b. if b then number_row c n else row_in cs n) (not_lt n (c.first + c.span) after)

pub row_rest : (c : Chunk) (cs ds : List Chunk) (n : ℕ) → row_in cs n ≡ row_in ds n → row_in (c ∷ cs) n ≡ row_in (c ∷ ds) n
row_rest c cs ds n same =
    ap (λ r. if nat_lt n c.first then [] else (if nat_lt n (c.first + c.span) then number_row c n else r)) same

pub ends_within : (from len : ℕ) (cs : List Chunk) → AreChunks from cs len → from ≤ len
ends_within from len [] are = are
ends_within from len (c ∷ cs) are =
    let rest = ends_within (c.first + c.span) len cs are.2 in omega (arith, rest, are.0)

pub none_before : (from len n : ℕ) (cs : List Chunk) → AreChunks from cs len → n < from → row_in cs n ≡ []
none_before from len n [] are before = refl
none_before from len n (c ∷ cs) are before = row_before c cs n (omega (arith, before, are.0))

pub none_past : (from len n : ℕ) (cs : List Chunk) → AreChunks from cs len → len ≤ n → row_in cs n ≡ []
none_past from len n [] are past = refl
none_past from len n (c ∷ cs) are past =
    let rest = ends_within (c.first + c.span) len cs are.2 in
    row_after c cs n (omega (arith, rest, past)) ∙ none_past (c.first + c.span) len n cs are.2 past

pub chunks_from : (from low len : ℕ) (cs : List Chunk) → AreChunks from cs len → low ≤ from → AreChunks low cs len
chunks_from from low len [] are le = omega (arith, are, le)
chunks_from from low len (c ∷ cs) are le = (omega (arith, are.0, le), are.1, are.2)

pub chunks_upto : (from len more : ℕ) (cs : List Chunk) → AreChunks from cs len → len ≤ more → AreChunks from cs more
chunks_upto from len more [] are le = omega (arith, are, le)
chunks_upto from len more (c ∷ cs) are le = (are.0, are.1, chunks_upto (c.first + c.span) len more cs are.2 le)

-- a chunk more

pub row_front : (cs : List Chunk) (c : Chunk) (n : ℕ) → n < c.first → row_in (cs ++ c ∷ []) n ≡ row_in cs n
row_front [] c n before = row_before c [] n before
row_front (d ∷ ds) c n before = row_rest d (ds ++ c ∷ []) ds n (row_front ds c n before)

pub row_last : (from len : ℕ) (cs : List Chunk) (c : Chunk) (n : ℕ) → AreChunks from cs len → len ≤ n
    → row_in (cs ++ c ∷ []) n ≡ row_in (c ∷ []) n
row_last from len [] c n are past = refl
row_last from len (d ∷ ds) c n are past =
    let rest = ends_within (d.first + d.span) len ds are.2 in
    row_after d (ds ++ c ∷ []) n (omega (arith, rest, past)) ∙ row_last (d.first + d.span) len ds c n are.2 past

pub chunks_more :
    (from len end : ℕ) (cs : List Chunk) (c : Chunk) → AreChunks from cs len → len ≤ c.first → IsLong c
    → c.first + c.span ≤ end → AreChunks from (cs ++ c ∷ []) end
chunks_more from len end [] c are le long within = (omega (arith, are, le), long, within)
chunks_more from len end (d ∷ ds) c are le long within =
    (are.0, are.1, chunks_more (d.first + d.span) len end ds c are.2 le long within)

-- a chunk less
pub chunks_less : (from len : ℕ) (cs : List Chunk) (c : Chunk) → AreChunks from (cs ++ c ∷ []) len
    → AreChunks from cs c.first × (IsLong c × (c.first + c.span ≤ len))
chunks_less from len [] c are = (are.0, (are.1, are.2))
chunks_less from len (d ∷ ds) c are =
    let rest = chunks_less (d.first + d.span) len ds c are.2 in ((are.0, are.1, rest.0), rest.1)

-- one chunk that is another

pub chunk_long : (from len p : ℕ) (cs : List Chunk) (c : Chunk) → AreChunks from cs len → slice_get cs p ≡ Some c
    → IsLong c
chunk_long from len p [] c are there = absurd (none-some c there)
chunk_long from len zero (d ∷ ds) c are there = subst IsLong (some_same d c there) are.1
chunk_long from len (suc p) (d ∷ ds) c are there = chunk_long (d.first + d.span) len p ds c are.2 there

pub first_from : (from len p : ℕ) (cs : List Chunk) (c : Chunk) → AreChunks from cs len → slice_get cs p ≡ Some c
    → from ≤ c.first
first_from from len p [] c are there = absurd (none-some c there)
first_from from len zero (d ∷ ds) c are there = subst (λ x. from ≤ x.first) (some_same d c there) are.0
first_from from len (suc p) (d ∷ ds) c are there =
    let rest = first_from (d.first + d.span) len p ds c are.2 there in omega (arith, rest, are.0)

-- of the same numbers
pub record IsInPlace (old new : Chunk) : Type 0 where
  pub first : new.first ≡ old.first
  pub span : new.span ≡ old.span
  pub long : IsLong new

pub chunks_set :
    (from len p : ℕ) (cs : List Chunk) (old new : Chunk) → AreChunks from cs len → slice_get cs p ≡ Some old
    → IsInPlace old new → AreChunks from (slice_set cs p new) len
chunks_set from len p [] old new are there is = are
chunks_set from len zero (d ∷ ds) old new are there is =
    let same : d ≡ old = some_same d old there in
    let first : new.first ≡ d.first = is.first ∙ ap (λ x. x.first) (sym same) in
    let span : new.span ≡ d.span = is.span ∙ ap (λ x. x.span) (sym same) in
    let end : d.first + d.span ≡ new.first + new.span = omega (arith, first, span) in
    (omega (arith, are.0, first), is.long, subst (λ e. AreChunks e ds len) end are.2)
chunks_set from len (suc p) (d ∷ ds) old new are there is =
    (are.0, are.1, chunks_set (d.first + d.span) len p ds old new are.2 there is)

-- The row of another number is what it was,
pub row_other :
    (p : ℕ) (cs : List Chunk) (old new : Chunk) (n : ℕ) → slice_get cs p ≡ Some old → IsInPlace old new
    → number_row new n ≡ number_row old n → row_in (slice_set cs p new) n ≡ row_in cs n
row_other p [] old new n there is same = refl
row_other zero (d ∷ ds) old new n there is same =
    let P : Chunk → Type 0 = λ x. row_in (new ∷ ds) n ≡ row_in (x ∷ ds) n in
    let first = is.first in
    let span = is.span in
    subst P (sym (some_same d old there))
    (elim (lt_or_le n old.first) [
      | inl before ↦ row_before new ds n (omega (arith, before, first)) ∙ sym (row_before old ds n before)
      | inr from ↦ elim (lt_or_le n (old.first + old.span)) [
        | inl below ↦
            row_within new ds n (omega (arith, from, first)) (omega (arith, below, first, span))
            ∙ same ∙ sym (row_within old ds n from below)
        | inr after ↦ row_after new ds n (omega (arith, after, first, span)) ∙ sym (row_after old ds n after)
      ]
    ])
row_other (suc p) (d ∷ ds) old new n there is same =
    row_rest d (slice_set ds p new) ds n (row_other p ds old new n there is same)

-- and that of this one is the new one.
pub row_here :
    (from len p : ℕ) (cs : List Chunk) (old new : Chunk) (n : ℕ) → AreChunks from cs len → slice_get cs p ≡ Some old
    → IsInPlace old new → old.first ≤ n → n < old.first + old.span
    → row_in (slice_set cs p new) n ≡ number_row new n
row_here from len p [] old new n are there is low high = absurd (none-some old there)
row_here from len zero (d ∷ ds) old new n are there is low high =
    let first = is.first in
    let span = is.span in
    row_within new ds n (omega (arith, low, first)) (omega (arith, high, first, span))
row_here from len (suc p) (d ∷ ds) old new n are there is low high =
    let after = first_from (d.first + d.span) len p ds old are.2 there in
    row_after d (slice_set ds p new) n (omega (arith, after, low))
    ∙ row_here (d.first + d.span) len p ds old new n are.2 there is low high

-- The chunk of a number is the last that begins at it or below.

pub at_none : (cs : List Chunk) (n : ℕ) → ((c : Chunk) → slice_get cs 0 ≡ Some c → n < c.first) → row_in cs n ≡ []
at_none [] n above = refl
at_none (c ∷ cs) n above = row_before c cs n (above c refl)

pub at_point :
    (from len p : ℕ) (cs : List Chunk) (c : Chunk) (n : ℕ) → AreChunks from cs len → slice_get cs p ≡ Some c
    → c.first ≤ n → ((d : Chunk) → slice_get cs (suc p) ≡ Some d → n < d.first) → row_in cs n ≡ row_in (c ∷ []) n
at_point from len p [] c n are there low above = absurd (none-some c there)
at_point from len zero (d ∷ ds) c n are there low above =
    let P : Chunk → Type 0 = λ x. row_in (x ∷ ds) n ≡ row_in (c ∷ []) n in
    subst P (sym (some_same d c there)) (row_rest c ds [] n (at_none ds n above))
at_point from len (suc p) (d ∷ ds) c n are there low above =
    let after = first_from (d.first + d.span) len p ds c are.2 there in
    row_after d ds n (omega (arith, after, low)) ∙ at_point (d.first + d.span) len p ds c n are.2 there low above

-- Chunks without columns have no rows.

none_there : (ks : List CheckedColumn) → nat_lt 0 (length ks) ≡ false → ks ≡ []
none_there [] is = refl
none_there (k ∷ ks) is = absurd (omega (arith, ltb-false 0 (length (k ∷ ks)) is))

no_cells : (b : Bool) (i : ℕ) → (if b then [] else row_at (cells_in []) i) ≡ []
no_cells true i = refl
no_cells false i = refl

pub no_columns : (c : Chunk) (i : ℕ) → c.columns ≡ [] → chunk_row c i ≡ []
no_columns c i is =
    ap (λ ks. if get_or c.gone i true then [] else row_at (cells_in ks) i) is ∙ no_cells (get_or c.gone i true) i

pub swept : (from len n : ℕ) (cs : List Chunk) → AreChunks from cs len
    → AreChunks from (filter has_columns cs) len × (row_in (filter has_columns cs) n ≡ row_in cs n)
swept from len n [] are = (are, refl)
swept from len n (c ∷ cs) are =
    by (has_columns c) refl (swept (c.first + c.span) len n cs are.2)
  where
    dropped : has_columns c ≡ false → AreChunks (c.first + c.span) (filter has_columns cs) len
        → row_in (filter has_columns cs) n ≡ row_in cs n → row_in (filter has_columns cs) n ≡ row_in (c ∷ cs) n
    dropped is rest same = elim (lt_or_le n (c.first + c.span)) [
      | inr after ↦ same ∙ sym (row_after c cs n after)
      | inl below ↦
          none_before (c.first + c.span) len n (filter has_columns cs) rest below
          ∙ sym (elim (lt_or_le n c.first) [
            | inl before ↦ row_before c cs n before
            | inr low ↦ row_within c cs n low below ∙ no_columns c (place_in c.numbers n) (none_there c.columns is)
          ])
    ]

    by : (b : Bool) → has_columns c ≡ b
        → AreChunks (c.first + c.span) (filter has_columns cs) len
        × (row_in (filter has_columns cs) n ≡ row_in cs n)
        → AreChunks from (cond b (c ∷ filter has_columns cs) (filter has_columns cs)) len
        × (row_in (cond b (c ∷ filter has_columns cs) (filter has_columns cs)) n ≡ row_in (c ∷ cs) n)
    by true is rest = (
      (are.0, are.1, rest.0),
      row_rest c (filter has_columns cs) cs n rest.1,
    )
    by false is rest = (
      chunks_from (c.first + c.span) from len (filter has_columns cs) rest.0 (omega (arith, are.0)),
      dropped is rest.0 rest.1,
    )
