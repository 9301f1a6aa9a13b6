-- The weights bound the bytes of a column.
use Rattle.std.proofs.Common.{
  ◌≡◌,
  ℕ,
  suc,
  ◌+◌,
  ◌*◌,
  ◌≤◌,
  List,
  [],
  ◌∷◌,
  ◌++◌,
  length,
  get_or,
  All,
  refl,
  arith,
  length-append,
}
use Rattle.std.specs.Prelude.{Bool, map, replicate}
use Rattle.std.proofs.lemmas.List.{length-map, length-replicate}
use Rattle.values.specs.Rose.{node, Roses, none, more}
use Rattle.values.specs.Datum.{Datum, null}
use Rattle.values.specs.declared.layout.OffsetWidth.{OffsetWidth}
use Rattle.values.specs.declared.layout.OffsetWidth.TheVariants as offset
use Rattle.values.specs.declared.layout.Layout.{Layout}
use Rattle.values.specs.declared.layout.Layout.TheVariants.{
  Bool as Booleans,
  Int,
  Decimal,
  FixedSizeBinary,
  Utf8,
  Binary,
  List as Listed,
  Struct,
}
use Rattle.values.specs.declared.layout.IntWidth.{IntWidth}
use Rattle.values.specs.Layouts.{bytes_in as width_of, AreLayouts, Holds}
use Rattle.array_layout.specs.Placing.{own_ranges, ranges_below}
use Rattle.body_writer.specs.Slots.{fixed_in, length_in}
use Rattle.body_writer.specs.Columns.{offsets, own_buffers, child_cells, buffers, buffers_below}
use Rattle.body_writer.specs.Body.{padding, padded, laid}
use Rattle.body_writer.specs.Law.{SizeLaw, BatchSizeLaw}
use Rattle.body_writer.proofs.CellBytes.{HaveWidth}
use Rattle.body_writer.proofs.Validity.{validity-length, truths-length}
use Rattle.body_writer.proofs.NumbersRead.{numbers-length, fixed-length}
use Rattle.body_writer.proofs.Offsets.{offsets-length}
use Rattle.body_writer.proofs.Held.{HeldEach, kids-held}
use Rattle.body_writer.proofs.WeightLemmas.{own_weights, weights_each, weights-split, text-long, bytes-long}
use Rattle.body_writer.proofs.OwnRead.{fixed-width}
use Rattle.body_writer.proofs.ColumnRead.{struct-node}

-- bytes without padding
abbrev pub bytes : List (List ℕ) → ℕ
bytes [] = 0
bytes (x ∷ xs) = length x + bytes xs

laid-short : (xs : List (List ℕ)) → length (laid xs) ≤ bytes xs + 7 * length xs
laid-short [] = omega arith
laid-short (x ∷ xs) =
    let rest = laid-short xs in
    let fill = length-replicate {A = ℕ} (padding (length x)) 0 in
    omega (arith, rest, fill, length-append (padded x) (laid xs), length-append x (replicate (padding (length x)) 0))

laid-append : (xs ys : List (List ℕ)) → length (laid (xs ++ ys)) ≡ length (laid xs) + length (laid ys)
laid-append [] ys = omega arith
laid-append (x ∷ xs) ys =
    let rest = laid-append xs ys in
    omega (arith, rest, length-append (padded x) (laid (xs ++ ys)), length-append (padded x) (laid xs))

-- the weights of slots of one width

bits-weights : (cs : List Datum) → own_weights Booleans cs ≡ 2 * length cs
bits-weights [] = refl
bits-weights (c ∷ cs) = let rest = bits-weights cs in omega (arith, rest)

number-weights : (w : IntWidth) (s : Bool) (cs : List Datum)
    → own_weights (Int w s) cs ≡ length cs + width_of w * length cs
number-weights w s [] = omega arith
number-weights w s (c ∷ cs) =
    let rest = number-weights w s cs in
    let more : width_of w * suc (length cs) ≡ width_of w + width_of w * length cs = omega arith in
    omega (arith, rest, more)

decimal-weights : (p : ℕ) (cs : List Datum) → own_weights (Decimal p) cs ≡ 17 * length cs
decimal-weights p [] = refl
decimal-weights p (c ∷ cs) = let rest = decimal-weights p cs in omega (arith, rest)

fixed-weights : (w : ℕ) (cs : List Datum) → own_weights (FixedSizeBinary w) cs ≡ length cs + w * length cs
fixed-weights w [] = omega arith
fixed-weights w (c ∷ cs) =
    let rest = fixed-weights w cs in
    let more : w * suc (length cs) ≡ w + w * length cs = omega arith in
    omega (arith, rest, more)

list-weights : (o : OffsetWidth) (cs : List Datum) → own_weights (Listed o) cs ≡ 5 * length cs
list-weights o [] = refl
list-weights o (c ∷ cs) = let rest = list-weights o cs in omega (arith, rest)

pub struct-weights : (cs : List Datum) → own_weights Struct cs ≡ length cs
struct-weights [] = refl
struct-weights (c ∷ cs) = let rest = struct-weights cs in omega (arith, rest)

offsets-short : (o : OffsetWidth) (cs : List Datum) → length (offsets o cs) ≤ 8 * length cs + 8
unfolding offsets
offsets-short offset.Bits32 cs =
    let long = offsets-length offset.Bits32 0 (map length_in cs) in
    let same = length-map cs length_in in
    omega (arith, long, same)
offsets-short offset.Bits64 cs =
    let long = offsets-length offset.Bits64 0 (map length_in cs) in
    let same = length-map cs length_in in
    omega (arith, long, same)

own-size :
    (l : Layout) (kids : Roses Layout) (cs : List Datum) → All (Holds (node l kids)) cs
    → 4 * length (laid (own_buffers l cs)) ≤ 7 * own_weights l cs + 64 * own_ranges l
own-size Booleans kids cs held =
    let v = validity-length cs in
    omega (arith, laid-short (own_buffers Booleans cs), v, truths-length cs, bits-weights cs)
own-size (Int w s) kids cs held =
    let v = validity-length cs in
    omega (arith, laid-short (own_buffers (Int w s) cs), v, numbers-length (width_of w) cs, number-weights w s cs)
own-size (Decimal p) kids cs held =
    let v = validity-length cs in
    omega (arith, laid-short (own_buffers (Decimal p) cs), v, numbers-length 16 cs, decimal-weights p cs)
own-size (FixedSizeBinary w) kids cs held =
    let v = validity-length cs in
    let even : HaveWidth (fixed_in w) w cs = λ k l. fixed-width w (get_or cs k null) (held k null l) in
    omega (arith, laid-short (own_buffers (FixedSizeBinary w) cs), v, fixed-length w cs even, fixed-weights w cs)
own-size (Utf8 o) kids cs held =
    let v = validity-length cs in
    omega (arith, laid-short (own_buffers (Utf8 o) cs), v, offsets-short o cs, text-long o cs)
own-size (Binary o) kids cs held =
    let v = validity-length cs in
    omega (arith, laid-short (own_buffers (Binary o) cs), v, offsets-short o cs, bytes-long o cs)
own-size (Listed o) kids cs held =
    let v = validity-length cs in
    omega (arith, laid-short (own_buffers (Listed o) cs), v, offsets-short o cs, list-weights o cs)
own-size Struct kids cs held =
    let v = validity-length cs in
    omega (arith, laid-short (own_buffers Struct cs), v, struct-weights cs)

mutual
  pub size-law : SizeLaw
  size-law (node l kids) cs is held =
      let own = own-size l kids cs held in
      let others = below-size l 0 kids cs is.1 (kids-held l kids cs is.0 held) in
      let split = weights-split l kids cs is.0 held in
      omega (arith, own, others, split, laid-append (own_buffers l cs) (buffers_below l 0 kids cs))

  below-size :
      (l : Layout) (j : ℕ) (ts : Roses Layout) (cs : List Datum) → AreLayouts ts → HeldEach l j ts cs
      → 4 * length (laid (buffers_below l j ts cs)) ≤ 7 * weights_each l j ts cs + 64 * ranges_below ts
  below-size l j none cs is held = omega arith
  below-size l j (more t ts) cs is held =
      let here = size-law t (child_cells l j cs) is.0 held.0 in
      let others = below-size l (suc j) ts cs is.1 held.1 in
      omega (arith, here, others, laid-append (buffers t (child_cells l j cs)) (buffers_below l (suc j) ts cs))

pub batch-size-law : BatchSizeLaw
batch-size-law ts rows is held light few =
    let split = weights-split Struct ts rows (struct-node ts) held in
    let own = struct-weights rows in
    let all = below-size Struct 0 ts rows is (kids-held Struct ts rows (struct-node ts) held) in
    omega (arith, split, own, all, light, few)

pub ruleset sizes = (size-law, batch-size-law)
