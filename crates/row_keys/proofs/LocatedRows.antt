-- Rows of chunks by their locations.
use Rattle.std.proofs.Common.{◌≡◌, ℕ, zero, suc, ◌+◌, ◌<◌, ◌≤◌, All, Bool, true, false, Some, List, [], ◌∷◌, ◌++◌, get_or, length, take, refl, ap, ap₂, sym, subst, ◌∙◌, arith}
use Rattle.std.specs.Prelude.{IfSome, None, Option, if◌then◌else◌, map, slice_get}
use Rattle.std.proofs.lemmas.List.Elements.{All-cons, All-head, All-nil, All-tail}
use Rattle.std.proofs.lemmas.List.{take_all, take_more}
use Rattle.std.proofs.lemmas.Option.{none-some, slice_get_past, slice_get_within}
use denote.Ref.{Bor}
use Rattle.values.specs.Datum.{Datum}
use Rattle.schema_meta.specs.Rows.{row_at}
use Rattle.body_writer.specs.Locations.{HasRow, IsLocated, IsRowAt, located_row as row_at_place, located_rows, row_in as batch_row}
use Rattle.body_writer.specs.declared.from_columns.batch.Batch.{Batch}
use Rattle.body_writer.specs.declared.from_locations.location.RowLocation.{RowLocation}
use Rattle.row_keys.specs.Batches.{cells_in}
use Rattle.row_keys.specs.Chunks.{Chunk, IsLong, LiesAt, chunk_row, row_in}
use Rattle.row_keys.specs.Locations.{AreAtLocations, AreBatches, IsAtLocation, IsBatchOf, MayBeAtLocations, row_if}
use Rattle.row_keys.proofs.Places.{some_same}
use Rattle.row_keys.proofs.RunRows.{cells_many}

-- the batch of a chunk
record BatchAt (bs : List (Bor Batch)) (p : ℕ) (c : Chunk) : Type 0 where
  batch : Bor Batch
  there : slice_get bs p ≡ Some batch
  is : IsBatchOf c batch

batch_at : (cs : List Chunk) (bs : List (Bor Batch)) (p : ℕ) (c : Chunk) → AreBatches cs bs → slice_get cs p ≡ Some c
    → BatchAt bs p c
batch_at [] [] p c are there = absurd (none-some c there)
batch_at [] (b ∷ bs) p c are there = absurd are
batch_at (d ∷ cs) [] p c are there = absurd are
batch_at (d ∷ cs) (b ∷ bs) zero c are there =
    record { batch = b; there = refl; is = subst (λ x. IsBatchOf x b) (some_same d c there) are.0 }
batch_at (d ∷ cs) (b ∷ bs) (suc p) c are there =
    let at = batch_at cs bs p c are.1 there in
    record { batch = at.batch; there = at.there; is = at.is }

-- a row that is retained
kept_row : (cs : List Chunk) (n p i : ℕ) (at : LiesAt cs n p i) → 0 < length (row_in cs n)
    → row_in cs n ≡ row_at (cells_in at.lies.chunk.columns) i
kept_row cs n p i at kept = by (get_or c.gone i true) (at.lies.row ∙ ap (chunk_row c) at.place) where
  c : Chunk
  c = at.lies.chunk

  by : (b : Bool) → row_in cs n ≡ (if b then [] else row_at (cells_in c.columns) i)
      → row_in cs n ≡ row_at (cells_in c.columns) i
  by true row = let none = ap length row in absurd (omega (arith, none, kept))
  by false row = row

pub placed_row : (cs : List Chunk) (bs : List (Bor Batch)) (n : ℕ) (p : RowLocation) → AreBatches cs bs
    → LiesAt cs n p.batch p.row → 0 < length (row_in cs n) → row_at_place bs p ≡ row_in cs n
placed_row cs bs n p are at kept =
    let c : Chunk = at.lies.chunk in
    let b = batch_at cs bs p.batch c are at.lies.there in
    ap (λ o. batch_row o p.row) b.there ∙ ap (λ ks. row_at (cells_in ks) p.row) (sym b.is.columns)
    ∙ sym (kept_row cs n p.batch p.row at kept)

pub placed_there : (cs : List Chunk) (bs : List (Bor Batch)) (n w : ℕ) (p : RowLocation) → AreBatches cs bs
    → LiesAt cs n p.batch p.row → 0 < length (row_in cs n) → length (row_in cs n) ≡ w → IsRowAt w bs p
placed_there cs bs n w p are at kept wide =
    let c : Chunk = at.lies.chunk in
    let b = batch_at cs bs p.batch c are at.lies.there in
    let long : IsLong c = at.lies.long in
    let few = long.few in
    let many = cells_many c.columns p.row in
    let row = ap length (kept_row cs n p.batch p.row at kept) in
    let columns = ap length b.is.columns in
    record {
      batch = b.batch;
      there = b.there;
      row = record {
        sized = record {
          columns = omega (arith, columns, many, row, wide);
          cells = subst (λ ks. All (λ k. length k.cells ≡ b.batch.now.rows) ks) b.is.columns
              (subst (λ m. All (λ k. length k.cells ≡ m) c.columns) b.is.rows long.long);
        };
        within = omega (arith, at.within, few, b.is.rows);
      };
    }

-- all of them

pub rows_located : (cs : List Chunk) (bs : List (Bor Batch)) (ns : List ℕ) (ps : List RowLocation) → AreBatches cs bs
    → AreAtLocations cs ns ps → All (λ n. 0 < length (row_in cs n)) ns → located_rows bs ps ≡ map (row_in cs) ns
rows_located cs bs [] [] are at kept = refl
rows_located cs bs [] (p ∷ ps) are at kept = absurd at
rows_located cs bs (n ∷ ns) [] are at kept = absurd at
rows_located cs bs (n ∷ ns) (p ∷ ps) are at kept =
    let K : ℕ → Type 0 = λ m. 0 < length (row_in cs m) in
    ap₂ (λ r rs. r ∷ rs) (placed_row cs bs n p are at.0 (All-head K n ns kept))
    (rows_located cs bs ns ps are at.1 (All-tail K n ns kept))

pub all_placed : (cs : List Chunk) (bs : List (Bor Batch)) (ns : List ℕ) (ps : List RowLocation) (w : ℕ)
    → AreBatches cs bs → AreAtLocations cs ns ps → All (λ n. 0 < length (row_in cs n)) ns
    → All (λ n. length (row_in cs n) ≡ w) ns → All (IsRowAt w bs) ps
all_placed cs bs [] [] w are at kept wide = All-nil (IsRowAt w bs)
all_placed cs bs [] (p ∷ ps) w are at kept wide = absurd at
all_placed cs bs (n ∷ ns) [] w are at kept wide = absurd at
all_placed cs bs (n ∷ ns) (p ∷ ps) w are at kept wide =
    let K : ℕ → Type 0 = λ m. 0 < length (row_in cs m) in
    let W : ℕ → Type 0 = λ m. length (row_in cs m) ≡ w in
    All-cons (IsRowAt w bs) p ps
    (placed_there cs bs n w p are at.0 (All-head K n ns kept) (All-head W n ns wide))
    (all_placed cs bs ns ps w are at.1 (All-tail K n ns kept) (All-tail W n ns wide))

-- one more

pub places_more : (cs : List Chunk) (ns : List ℕ) (ps : List RowLocation) (n : ℕ) (p : RowLocation) → AreAtLocations cs ns ps
    → LiesAt cs n p.batch p.row → AreAtLocations cs (ns ++ n ∷ []) (ps ++ p ∷ [])
places_more cs [] [] n p at here = (here, tt)
places_more cs [] (q ∷ ps) n p at here = absurd at
places_more cs (m ∷ ns) [] n p at here = absurd at
places_more cs (m ∷ ns) (q ∷ ps) n p at here = (at.0, places_more cs ns ps n p at.1 here)

pub batches_more : (cs : List Chunk) (bs : List (Bor Batch)) (c : Chunk) (b : Bor Batch) → AreBatches cs bs
    → IsBatchOf c b → AreBatches (cs ++ c ∷ []) (bs ++ b ∷ [])
batches_more [] [] c b are here = (here, tt)
batches_more [] (d ∷ bs) c b are here = absurd are
batches_more (d ∷ cs) [] c b are here = absurd are
batches_more (d ∷ cs) (e ∷ bs) c b are here = (are.0, batches_more cs bs c b are.1 here)

pub places_next : (cs : List Chunk) (numbers : List ℕ) (i : ℕ) (made next : List RowLocation) (p : RowLocation)
    → i < length numbers → next ≡ made ++ p ∷ [] → LiesAt cs (get_or numbers i 0) p.batch p.row
    → AreAtLocations cs (take i numbers) made → AreAtLocations cs (take (i + 1) numbers) next
places_next cs numbers i made next p h n here at =
    subst (AreAtLocations cs (take (i + 1) numbers)) (sym n)
    (subst (λ ns. AreAtLocations cs ns (made ++ p ∷ [])) (sym (take_more numbers i 0 h))
    (places_more cs (take i numbers) made (get_or numbers i 0) p at here))

pub places_all : (cs : List Chunk) (numbers : List ℕ) (i : ℕ) (made : List RowLocation) → length numbers ≤ i
    → AreAtLocations cs (take i numbers) made → AreAtLocations cs numbers made
places_all cs numbers i made h at = subst (λ ns. AreAtLocations cs ns made) (take_all i numbers h) at

pub batches_next : (cs : List Chunk) (i : ℕ) (c : Chunk) (made next : List (Bor Batch)) (b : Bor Batch)
    → next ≡ made ++ b ∷ [] → c ≡ get_or cs i c → i < length cs → IsBatchOf c b → AreBatches (take i cs) made
    → AreBatches (take (i + 1) cs) next
batches_next cs i c made next b n at h is are =
    subst (AreBatches (take (i + 1) cs)) (sym n)
    (subst (λ xs. AreBatches xs (made ++ b ∷ [])) (sym (take_more cs i c h))
    (batches_more (take i cs) made (get_or cs i c) b are (subst (λ x. IsBatchOf x b) at is)))

pub batches_all : (cs : List Chunk) (i : ℕ) (made : List (Bor Batch)) → length cs ≤ i
    → AreBatches (take i cs) made → AreBatches cs made
batches_all cs i made h are = subst (λ xs. AreBatches xs made) (take_all i cs h) are

-- rows that may exist or not

batches_many : (cs : List Chunk) (bs : List (Bor Batch)) → AreBatches cs bs → length bs ≡ length cs
batches_many [] [] are = refl
batches_many [] (b ∷ bs) are = absurd are
batches_many (c ∷ cs) [] are = absurd are
batches_many (c ∷ cs) (b ∷ bs) are = ap suc (batches_many cs bs are.1)

placed_if : (cs : List Chunk) (bs : List (Bor Batch)) (o : Option ℕ) (p : RowLocation) → AreBatches cs bs
    → IsAtLocation cs o p → IfSome o (λ n. 0 < length (row_in cs n)) → row_at_place bs p ≡ row_if (row_in cs) o
placed_if cs bs None p are at kept =
    let many = batches_many cs bs are in
    ap (λ b. batch_row b p.row) (slice_get_past bs p.batch (omega (arith, many, at)))
placed_if cs bs (Some n) p are at kept = placed_row cs bs n p are at kept

there_if : (cs : List Chunk) (bs : List (Bor Batch)) (o : Option ℕ) (w : ℕ) (p : RowLocation) → AreBatches cs bs
    → IsAtLocation cs o p → IfSome o (λ n. 0 < length (row_in cs n)) → IfSome o (λ n. length (row_in cs n) ≡ w)
    → IsLocated w bs p
there_if cs bs None w p are at kept wide b there =
    let many = batches_many cs bs are in
    let inside = slice_get_within bs p.batch b there in
    absurd (omega (arith, many, at, inside))
there_if cs bs (Some n) w p are at kept wide b there =
    let is = placed_there cs bs n w p are at kept wide in
    subst (λ (x : Bor Batch). HasRow w p.row x.now) (some_same is.batch b (sym is.there ∙ there)) is.row

pub rows_placed_if : (cs : List Chunk) (bs : List (Bor Batch)) (os : List (Option ℕ)) (ps : List RowLocation)
    → AreBatches cs bs → MayBeAtLocations cs os ps → All (λ o. IfSome o (λ n. 0 < length (row_in cs n))) os
    → located_rows bs ps ≡ map (row_if (row_in cs)) os
rows_placed_if cs bs [] [] are at kept = refl
rows_placed_if cs bs [] (p ∷ ps) are at kept = absurd at
rows_placed_if cs bs (o ∷ os) [] are at kept = absurd at
rows_placed_if cs bs (o ∷ os) (p ∷ ps) are at kept =
    let K : Option ℕ → Type 0 = λ x. IfSome x (λ n. 0 < length (row_in cs n)) in
    ap₂ (λ r rs. r ∷ rs) (placed_if cs bs o p are at.0 (All-head K o os kept))
    (rows_placed_if cs bs os ps are at.1 (All-tail K o os kept))

pub all_placed_if : (cs : List Chunk) (bs : List (Bor Batch)) (os : List (Option ℕ)) (ps : List RowLocation) (w : ℕ)
    → AreBatches cs bs → MayBeAtLocations cs os ps → All (λ o. IfSome o (λ n. 0 < length (row_in cs n))) os
    → All (λ o. IfSome o (λ n. length (row_in cs n) ≡ w)) os → All (IsLocated w bs) ps
all_placed_if cs bs [] [] w are at kept wide = All-nil (IsLocated w bs)
all_placed_if cs bs [] (p ∷ ps) w are at kept wide = absurd at
all_placed_if cs bs (o ∷ os) [] w are at kept wide = absurd at
all_placed_if cs bs (o ∷ os) (p ∷ ps) w are at kept wide =
    let K : Option ℕ → Type 0 = λ x. IfSome x (λ n. 0 < length (row_in cs n)) in
    let W : Option ℕ → Type 0 = λ x. IfSome x (λ n. length (row_in cs n) ≡ w) in
    All-cons (IsLocated w bs) p ps
    (there_if cs bs o w p are at.0 (All-head K o os kept) (All-head W o os wide))
    (all_placed_if cs bs os ps w are at.1 (All-tail K o os kept) (All-tail W o os wide))

place_after : (cs : List Chunk) (os : List (Option ℕ)) (ps : List RowLocation) (o : Option ℕ) (p : RowLocation)
    → MayBeAtLocations cs os ps → IsAtLocation cs o p → MayBeAtLocations cs (os ++ o ∷ []) (ps ++ p ∷ [])
place_after cs [] [] o p at here = (here, tt)
place_after cs [] (q ∷ ps) o p at here = absurd at
place_after cs (m ∷ os) [] o p at here = absurd at
place_after cs (m ∷ os) (q ∷ ps) o p at here = (at.0, place_after cs os ps o p at.1 here)

pub place_next : (cs : List Chunk) (numbers : List (Option ℕ)) (i : ℕ) (o : Option ℕ) (made next : List RowLocation)
    (p : RowLocation) → i < length numbers → next ≡ made ++ p ∷ [] → IsAtLocation cs (get_or numbers i o) p
    → MayBeAtLocations cs (take i numbers) made → MayBeAtLocations cs (take (i + 1) numbers) next
place_next cs numbers i o made next p h n here at =
    subst (MayBeAtLocations cs (take (i + 1) numbers)) (sym n)
    (subst (λ os. MayBeAtLocations cs os (made ++ p ∷ [])) (sym (take_more numbers i o h))
    (place_after cs (take i numbers) made (get_or numbers i o) p at here))

pub place_all : (cs : List Chunk) (numbers : List (Option ℕ)) (i : ℕ) (made : List RowLocation) → length numbers ≤ i
    → MayBeAtLocations cs (take i numbers) made → MayBeAtLocations cs numbers made
place_all cs numbers i made h at = subst (λ os. MayBeAtLocations cs os made) (take_all i numbers h) at

pub mapped_if : (f g : ℕ → List Datum) (os : List (Option ℕ)) → ((n : ℕ) → f n ≡ g n)
    → map (row_if f) os ≡ map (row_if g) os
mapped_if f g [] same = refl
mapped_if f g (None ∷ os) same = ap (λ rs. [] ∷ rs) (mapped_if f g os same)
mapped_if f g (Some n ∷ os) same = ap₂ (λ r rs. r ∷ rs) (same n) (mapped_if f g os same)
