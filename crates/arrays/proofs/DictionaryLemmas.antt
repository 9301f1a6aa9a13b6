-- What is read from slots that are indices into a dictionary.
use Rattle.std.proofs.Common.{
  ◌≡◌,
  ℕ,
  ℤ,
  pos,
  negsuc,
  List,
  ◌+◌,
  ◌*◌,
  ◌<◌,
  ◌≤◌,
  ◌<ℤ◌,
  ◌≤ℤ◌,
  length,
  All,
  refl,
  ap,
  sym,
  subst,
  ◌∙◌,
  arith,
}
use Rattle.std.specs.Prelude.{Option, None, Some, Ok, Err, Bool, slice_get}
use Rattle.std.proofs.lemmas.Option.{slice_get_past, slice_get_within, get_or_from_slice_get}
use Rattle.std.proofs.lemmas.List.Elements.{All-get_or}
use Rattle.std.proofs.Math.Nat.{mul-le-mul_left}
use Rattle.values.specs.declared.faults.StreamFault.TheVariants as fault
use Rattle.values.specs.Reading.{Reading, one, must, IsValid}
use Rattle.values.proofs.Readings.{must_Ok}
use Rattle.values.specs.Rose.{node, Roses, none, more}
use Rattle.values.specs.Datum.{Datum}
use Rattle.values.specs.declared.layout.IntWidth.{IntWidth}
use Rattle.values.specs.declared.layout.Layout.{Layout}
use Rattle.values.specs.declared.layout.Layout.TheVariants.{
  Bool as Booleans,
  Int,
  Decimal,
  FixedSizeBinary,
  Utf8,
  Binary,
  List as Listed,
  Struct,
}
use Rattle.values.specs.Layouts.{bytes_in, IsNode, Holds, null_weight, weight}
use Rattle.array_layout.specs.declared.array.DictionaryValues.{DictionaryValues}
use Rattle.array_layout.specs.declared.array.ArrayData.{ArrayData}
use Rattle.array_layout.specs.Buffers.{number_at, number_by, unsigned_at}
use Rattle.array_layout.specs.Placing.{bytes_of}
use Rattle.array_layout.specs.Sound.{first_len, HasRoom, IsSound}
use Rattle.array_layout.specs.Cells.{coded_by, indexed}
use Rattle.arrays.specs.Encoded.{HasIndex, HasIndices}
use Rattle.arrays.proofs.RangeLemmas.{buffer_long}
use Rattle.arrays.specs.Weights.{capped, encoded_weight}

-- an index and its value
pub index_negative : (ds : List Datum) (z : ℤ) → z <ℤ pos 0 → Err (one fault.DictionaryIndex) ≡ indexed ds z
index_negative ds (pos n) h = absurd (grind arith)
index_negative ds (negsuc n) h = refl

pub index_past : (ds : List Datum) (z : ℤ) → pos (length ds) ≤ℤ z → Err (one fault.DictionaryIndex) ≡ indexed ds z
index_past ds (pos n) h = ap (must fault.DictionaryIndex) (sym (slice_get_past ds n (grind arith)))
index_past ds (negsuc n) h = absurd (grind arith)

-- the index of a slot
pub number_here : (p : ArrayData) (w : IntWidth) (s : Bool) (i : ℕ) → HasIndex p.layout p i → p.layout ≡ Int w s
    → bytes_in w * (i + 1) ≤ p.values.len
number_here p w s i room is = let P : Layout → Type 0 = λ l. HasIndex l p i in subst P is room

pub coded_number :
    (l : Layout) (ds : List Datum) (indices : List ℕ) (i : ℕ) (w : IntWidth) (s : Bool) (x : ℕ) (m : Reading Datum)
    → l ≡ Int w s → x ≡ unsigned_at (bytes_in w) indices i → m ≡ indexed ds (number_by s (bytes_in w) x)
    → m ≡ coded_by l ds indices i
unfolding number_at
coded_number l ds indices i w s x m is at read =
    let P : Layout → Type 0 = λ k. m ≡ coded_by k ds indices i in
    let Q : ℕ → Type 0 = λ y. m ≡ indexed ds (number_by s (bytes_in w) y) in
    subst P (sym is) (subst Q at read)

pub ruleset encoded_laws = (number_here, coded_number)

indices_less : (l : Layout) (indices : List ℕ) (n m : ℕ) → HasIndices l indices n → m ≤ n → HasIndices l indices m
indices_less Booleans indices n m room less = tt
indices_less (Int w s) indices n m room less =
    let most : bytes_in w * m ≤ bytes_in w * n = mul-le-mul_left (bytes_in w) less in omega (arith, room, most)
indices_less (Decimal d) indices n m room less = tt
indices_less (FixedSizeBinary w) indices n m room less = tt
indices_less (Utf8 o) indices n m room less = tt
indices_less (Binary o) indices n m room less = tt
indices_less (Listed o) indices n m room less = tt
indices_less Struct indices n m room less = tt

rooms_by_layout :
    (l : Layout) (b : List ℕ) (p : ArrayData) (indices : List ℕ) (n : ℕ) → HasRoom l b p n
    → length indices ≡ p.values.len → HasIndices l indices p.len
rooms_by_layout Booleans b p indices n room long = tt
rooms_by_layout (Int w s) b p indices n room long = omega (arith, room, long)
rooms_by_layout (Decimal d) b p indices n room long = tt
rooms_by_layout (FixedSizeBinary w) b p indices n room long = tt
rooms_by_layout (Utf8 o) b p indices n room long = tt
rooms_by_layout (Binary o) b p indices n room long = tt
rooms_by_layout (Listed o) b p indices n room long = tt
rooms_by_layout Struct b p indices n room long = tt

pub index_rooms :
    (b : List ℕ) (p : ArrayData) (kids : Roses ArrayData) (indices : List ℕ) (n : ℕ) → IsSound b (node p kids)
    → indices ≡ bytes_of b p.values → n ≤ p.len
    → HasIndices p.layout indices n
index_rooms b p kids indices n sound is less =
    let long : length indices ≡ p.values.len = ap length is ∙ buffer_long b p.values sound.0.own.values in
    indices_less p.layout indices p.len n (rooms_by_layout p.layout b p indices (first_len kids) sound.0.room long) less

-- where there is an index for each slot
room_by_layout :
    (l : Layout) (b : List ℕ) (p : ArrayData) (n i : ℕ) → HasRoom l b p n → i < p.len → HasIndex l p i
room_by_layout Booleans b p n i room below = tt
room_by_layout (Int w s) b p n i room below =
    let less : i + 1 ≤ p.len = omega (arith, below) in
    let most : bytes_in w * (i + 1) ≤ bytes_in w * p.len = mul-le-mul_left (bytes_in w) less in
    omega (arith, room, most)
room_by_layout (Decimal d) b p n i room below = tt
room_by_layout (FixedSizeBinary w) b p n i room below = tt
room_by_layout (Utf8 o) b p n i room below = tt
room_by_layout (Binary o) b p n i room below = tt
room_by_layout (Listed o) b p n i room below = tt
room_by_layout Struct b p n i room below = tt

pub index_room : (b : List ℕ) (p : ArrayData) (kids : Roses ArrayData) (i : ℕ) → IsSound b (node p kids) → i < p.len
    → HasIndex p.layout p i
index_room b p kids i sound below = room_by_layout p.layout b p (first_len kids) i sound.0.room below

-- an array of indices has no children
indexed_Ok : (ds : List Datum) (z : ℤ) (d : Datum) → indexed ds z ≡ Ok d → (n : ℕ) × (slice_get ds n ≡ Some d)
indexed_Ok ds (pos n) d read = (n, must_Ok fault.DictionaryIndex (slice_get ds n) d read)
indexed_Ok ds (negsuc n) d read = cc

pub coded_leaf :
    (l : Layout) (ds : List Datum) (indices : List ℕ) (i : ℕ) (d : Datum) (kids : Roses Layout)
    → coded_by l ds indices i ≡ Ok d → IsNode l kids
    → (kids ≡ none) × ((n : ℕ) × (slice_get ds n ≡ Some d))
coded_leaf Booleans ds indices i d kids read is = cc
coded_leaf (Int w s) ds indices i d none read is = (refl, indexed_Ok ds (number_at s (bytes_in w) indices i) d read)
coded_leaf (Int w s) ds indices i d (more t ts) read is = absurd is
coded_leaf (Decimal p) ds indices i d kids read is = cc
coded_leaf (FixedSizeBinary w) ds indices i d kids read is = cc
coded_leaf (Utf8 o) ds indices i d kids read is = cc
coded_leaf (Binary o) ds indices i d kids read is = cc
coded_leaf (Listed o) ds indices i d kids read is = cc
coded_leaf Struct ds indices i d kids read is = cc

all_get : (P : Datum → Type 0) (ds : List Datum) (n : ℕ) (d : Datum) → All P ds → slice_get ds n ≡ Some d → P d
all_get P ds n d all found =
    subst P (get_or_from_slice_get ds n d d found) (All-get_or P ds n d (slice_get_within ds n d found) all)

pub coded_holds :
    (l : Layout) (w : DictionaryValues) (indices : List ℕ) (i : ℕ) (d : Datum) (kids : Roses Layout)
    → coded_by l w.values indices i ≡ Ok d → IsNode l kids
    → All (Holds (node w.layout none)) w.values → Holds (node w.layout kids) d
coded_holds l w indices i d kids read is held =
    let facts = coded_leaf l w.values indices i d kids read is in
    let P : Roses Layout → Type 0 = λ ks. Holds (node w.layout ks) d in
    subst P (sym facts.0) (all_get (Holds (node w.layout none)) w.values facts.1.0 d held facts.1.1)

pub coded_weighs :
    (l : Layout) (w : DictionaryValues) (indices : List ℕ) (i : ℕ) (d : Datum) (kids : Roses Layout)
    → coded_by l w.values indices i ≡ Ok d → IsNode l kids
    → encoded_weight w.layout (coded_by l w.values indices i) ≡ weight (node w.layout kids) d
coded_weighs l w indices i d kids read is =
    let facts = coded_leaf l w.values indices i d kids read is in
    let P : Roses Layout → Type 0 =
    λ ks. encoded_weight w.layout (coded_by l w.values indices i) ≡ weight (node w.layout ks) d in
    subst P (sym facts.0) (ap (encoded_weight w.layout) read)

-- the weight of a slot is that of its value, or that of a null where it has none
pub found_weighs :
    (l : Layout) (o : Option Datum) (d : Datum) (m : Reading Datum) (n r : ℕ) → must fault.DictionaryIndex o ≡ m
    → o ≡ Some d
    → n ≡ weight (node l none) d → r ≡ capped n → r ≡ capped (encoded_weight l m)
found_weighs l o d m n r is some own h =
    let P : Option Datum → Type 0 = λ x. must fault.DictionaryIndex x ≡ m in
    let read : Ok d ≡ m = subst P some is in
    h ∙ ap capped own ∙ ap (λ x. capped (encoded_weight l x)) read

pub missing_weighs :
    (l : Layout) (o : Option Datum) (m : Reading Datum) (n r : ℕ) → must fault.DictionaryIndex o ≡ m → o ≡ None
    → n ≡ null_weight (node l none)
    → r ≡ capped n → r ≡ capped (encoded_weight l m)
missing_weighs l o m n r is missing own h =
    let P : Option Datum → Type 0 = λ x. must fault.DictionaryIndex x ≡ m in
    let read : Err (one fault.DictionaryIndex) ≡ m = subst P missing is in
    h ∙ ap capped own ∙ ap (λ x. capped (encoded_weight l x)) read

pub ruleset weight_laws = (found_weighs, missing_weighs)

-- a valid slot has a value
pub encoded_some : (o : Option Datum) (m : Reading Datum) → must fault.DictionaryIndex o ≡ m → IsValid m
    → (d : Datum) × (o ≡ Some d) × (m ≡ Ok d)
encoded_some None m is valid = absurd (subst IsValid (sym is) valid)
encoded_some (Some d) m is valid = (d, refl, sym is)

pub ruleset copy_laws = (encoded_some)
