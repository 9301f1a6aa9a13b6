-- Offsets that are written are read back, and what they cut.
use Rattle.std.proofs.Common.{
  ◌≡◌,
  ℕ,
  zero,
  suc,
  ◌+◌,
  ◌*◌,
  ◌-◌,
  ◌^◌,
  ◌<◌,
  ◌≤◌,
  ◌==◌,
  List,
  [],
  ◌∷◌,
  ◌++◌,
  length,
  drop,
  get_or,
  true,
  false,
  Bool,
  Ok,
  refl,
  ap,
  sym,
  subst,
  ◌∙◌,
  arith,
  append-nil,
  length-append,
}
use Rattle.std.specs.Prelude.{if◌then◌else◌, map}
use Rattle.std.specs.List.{flat_map}
use Rattle.std.proofs.lemmas.Bool.{le-leb, le-ltb, lt-ltb}
use Rattle.std.proofs.lemmas.List.{drop-drop, drop_at, take_at, length-map}
use Rattle.byteorder.specs.Endian.{little_bytes, little_number}
use Rattle.byteorder.specs.Numbers.{little_number-reads_back, length-bytes_low_first}
use Rattle.values.specs.Reading.{Reading}
use Rattle.values.specs.Datum.{Datum, null}
use Rattle.values.specs.declared.layout.OffsetWidth.{OffsetWidth}
use Rattle.values.specs.declared.layout.OffsetWidth.TheVariants as offset
use Rattle.values.specs.Layouts.{offset_bytes}
use Rattle.array_layout.specs.Buffers.{unsigned_at, offset_at, is_rising, slice_at}
use Rattle.array_layout.specs.Sound.{offsets_of}
use Rattle.array_layout.specs.Cells.{items_at}
use Rattle.body_writer.specs.Slots.{bytes_in, items_in, length_in}
use Rattle.body_writer.specs.Columns.{offsets_from, offsets, joined, items}
use Rattle.body_writer.proofs.CellBytes.{
  start,
  total,
  start-le,
  start-after,
  lengths,
  total-lengths,
  lengths-at,
  segment-at,
  each-run,
}

pub offsets-length : (o : OffsetWidth) (at : ℕ) (ns : List ℕ)
    → length (offsets_from o at ns) ≡ offset_bytes o * (length ns + 1)
unfolding offsets_from
offsets-length offset.Bits32 at [] = refl
offsets-length offset.Bits64 at [] = refl
offsets-length offset.Bits32 at (n ∷ ns) =
    let rest = offsets-length offset.Bits32 (at + n) ns in
    omega (arith, rest, length-append (little_bytes 4 at) (offsets_from offset.Bits32 (at + n) ns))
offsets-length offset.Bits64 at (n ∷ ns) =
    let rest = offsets-length offset.Bits64 (at + n) ns in
    omega (arith, rest, length-append (little_bytes 8 at) (offsets_from offset.Bits64 (at + n) ns))

skipped : (w n a : ℕ) (rest : List ℕ) → drop (w + n) (little_bytes w a ++ rest) ≡ drop n rest
skipped w n a rest = sym (drop-drop n w (little_bytes w a ++ rest))
    ∙ ap (drop n) (drop_at (little_bytes w a) rest w (length-bytes_low_first 0 w a))

unsigned-small : (o : OffsetWidth) (n : ℕ) → n < 2 ^ 31 → n < 256 ^ offset_bytes o
unsigned-small offset.Bits32 n h = omega (arith, h)
unsigned-small offset.Bits64 n h = omega (arith, h)

offset-back :
    (o : OffsetWidth) (at i : ℕ) (ns : List ℕ) → i ≤ length ns → at + total ns < 2 ^ 31
    → little_number (offset_bytes o) (drop (offset_bytes o * i) (offsets_from o at ns)) ≡ at + start i ns
unfolding offsets_from start total
offset-back o at zero [] h short =
    let w : ℕ = offset_bytes o in
    let e : at ≡ at + 0 = omega arith in
    let z : w * 0 ≡ 0 = omega arith in
    let P : ℕ → Type 0 = λ n. little_number w (drop n (little_bytes w at)) ≡ at + 0 in
    subst P (sym z) (ap (little_number w) (sym (append-nil (little_bytes w at)))
    ∙ little_number-reads_back w at [] (unsigned-small o at (omega (arith, short))) ∙ e)
offset-back o at (suc i) [] h short = absurd (omega (arith, h))
offset-back o at zero (n ∷ ns) h short =
    let w : ℕ = offset_bytes o in
    let e : at ≡ at + 0 = omega arith in
    let z : w * 0 ≡ 0 = omega arith in
    let P : ℕ → Type 0 = λ k. little_number w (drop k (little_bytes w at ++ offsets_from o (at + n) ns)) ≡ at + 0 in
    subst P (sym z)
    (little_number-reads_back w at (offsets_from o (at + n) ns) (unsigned-small o at (omega (arith, short))) ∙ e)
offset-back o at (suc i) (n ∷ ns) h short =
    let w : ℕ = offset_bytes o in
    let e : w * suc i ≡ w + w * i = omega arith in
    let rest = offset-back o (at + n) i ns (omega (arith, h)) (omega (arith, short)) in
    let P : ℕ
    → Type 0 =
    λ k. little_number w (drop k (little_bytes w at ++ offsets_from o (at + n) ns)) ≡ at + (n + start i ns) in
    let sum : at + n + start i ns ≡ at + (n + start i ns) = omega arith in
    subst P (sym e) (ap (little_number w) (skipped w (w * i) at (offsets_from o (at + n) ns)) ∙ rest ∙ sum)

pub offset-read : (o : OffsetWidth) (ns : List ℕ) (i : ℕ) → total ns < 2 ^ 31 → i ≤ length ns
    → offset_at o (offsets_from o 0 ns) i ≡ start i ns
unfolding offset_at unsigned_at
offset-read o ns i short h =
    let e = offset-back o 0 i ns h (omega (arith, short)) in
    let z : 0 + start i ns ≡ start i ns = omega arith in
    e ∙ z

rising-read : (o : OffsetWidth) (ns : List ℕ) (n : ℕ) → total ns < 2 ^ 31 → n ≤ length ns
    → is_rising o (offsets_from o 0 ns) n ≡ true
unfolding is_rising
rising-read o ns zero short h = refl
rising-read o ns (suc n) short h =
    let all = offsets_from o 0 ns in
    let first = offset-read o ns n short (omega (arith, h)) in
    let second = offset-read o ns (n + 1) short (omega (arith, h)) in
    let next = start-after n ns in
    let le : offset_at o all n ≤ offset_at o all (n + 1) = omega (arith, first, second, next) in
    rw (rising-read o ns n short (omega (arith, h)), le-leb (offset_at o all n) (offset_at o all (n + 1)) le) refl

either : {A : Type 0} (b : Bool) (x : A) → (if b then x else x) ≡ x
either true x = refl
either false x = refl

half : (o : OffsetWidth) (n : ℕ) → n < 2 ^ 31 → n < 2 ^ (8 * offset_bytes o - 1)
half offset.Bits32 n h = h
half offset.Bits64 n h = omega (arith, h)

pub offsets-sound : (o : OffsetWidth) (ns : List ℕ) (limit : ℕ) → total ns < 2 ^ 31 → total ns ≡ limit
    → offsets_of o (offsets_from o 0 ns) (length ns) limit ≡ Ok tt
unfolding offsets_of
offsets-sound o ns limit short is =
    let n : ℕ = length ns in
    let all = offsets_from o 0 ns in
    let long = offsets-length o 0 ns in
    let last = offset-read o ns n short (omega arith) in
    let le = start-le n ns in
    let below : offset_at o all n < 2 ^ 31 = omega (arith, last, le, short) in
    let within : offset_at o all n ≤ limit = omega (arith, last, le, is) in
    rw (
      le-ltb (length all) (offset_bytes o * (n + 1)) (omega (arith, long)),
      rising-read o ns n short (omega arith),
      lt-ltb (offset_at o all n) (2 ^ (8 * offset_bytes o - 1)) (half o (offset_at o all n) below),
      le-leb (offset_at o all n) limit within,
    ) (either (n == 0) (Ok tt))

-- by the cells

sound-by :
    {A : Type 0} (f : Datum → List A) (o : OffsetWidth) (cs : List Datum) → length (flat_map f cs) < 2 ^ 31
    → offsets_of o (offsets_from o 0 (lengths f cs)) (length cs) (length (flat_map f cs)) ≡ Ok tt
sound-by f o cs short =
    let sum = total-lengths f cs in
    let count = length-map cs (λ c. length (f c)) in
    let P : ℕ → Type 0 = λ n. offsets_of o (offsets_from o 0 (lengths f cs)) n (length (flat_map f cs)) ≡ Ok tt in
    subst P count (offsets-sound o (lengths f cs) (length (flat_map f cs)) (omega (arith, short, sum)) sum)

from-by :
    {A : Type 0} (f : Datum → List A) (o : OffsetWidth) (cs : List Datum) (i : ℕ) → length (flat_map f cs) < 2 ^ 31
    → i < length cs
    → offset_at o (offsets_from o 0 (lengths f cs)) i ≡ start i (lengths f cs)
from-by f o cs i short h =
    let sum = total-lengths f cs in
    let count = length-map cs (λ c. length (f c)) in
    offset-read o (lengths f cs) i (omega (arith, short, sum)) (omega (arith, h, count))

to-by :
    {A : Type 0} (f : Datum → List A) (o : OffsetWidth) (cs : List Datum) (i : ℕ) → length (flat_map f cs) < 2 ^ 31
    → i < length cs
    → offset_at o (offsets_from o 0 (lengths f cs)) (i + 1) ≡ start i (lengths f cs) + length (f (get_or cs i null))
to-by f o cs i short h =
    let sum = total-lengths f cs in
    let count = length-map cs (λ c. length (f c)) in
    offset-read o (lengths f cs) (i + 1) (omega (arith, short, sum)) (omega (arith, h, count))
    ∙ start-after i (lengths f cs)
    ∙ ap (λ n. start i (lengths f cs) + n) (lengths-at f cs i h)

-- the runs are as long as the cells say
abbrev pub HaveLengths : {A : Type 0} → (Datum → List A) → List Datum → Type 0
HaveLengths f cs = (i : ℕ) → i < length cs → length_in (get_or cs i null) ≡ length (f (get_or cs i null))

same-lengths : {A : Type 0} (f : Datum → List A) (cs : List Datum) → HaveLengths f cs → map length_in cs ≡ lengths f cs
same-lengths f [] have = refl
same-lengths f (c ∷ cs) have =
    let here = have 0 (omega arith) in
    let there = same-lengths f cs (λ i h. have (suc i) (omega (arith, h))) in
    rw (here, there) refl

pub joined-sound :
    (o : OffsetWidth) (cs : List Datum) → HaveLengths bytes_in cs → length (joined cs) < 2 ^ 31
    → offsets_of o (offsets o cs) (length cs) (length (joined cs)) ≡ Ok tt
unfolding joined offsets
joined-sound o cs have short = rw (same-lengths bytes_in cs have) (sound-by bytes_in o cs short)

pub items-sound :
    (o : OffsetWidth) (cs : List Datum) → HaveLengths items_in cs → length (items cs) < 2 ^ 31
    → offsets_of o (offsets o cs) (length cs) (length (items cs)) ≡ Ok tt
unfolding items offsets
items-sound o cs have short = rw (same-lengths items_in cs have) (sound-by items_in o cs short)

pub joined-back :
    (o : OffsetWidth) (cs : List Datum) (i : ℕ) → HaveLengths bytes_in cs → length (joined cs) < 2 ^ 31 → i < length cs
    → slice_at o (offsets o cs) (joined cs) i ≡ bytes_in (get_or cs i null)
unfolding slice_at joined offsets
joined-back o cs i have short h =
    let bytes = bytes_in (get_or cs i null) in
    let from : ℕ = start i (lengths bytes_in cs) in
    let p = segment-at bytes_in cs i h in
    let n : from + length bytes - from ≡ length bytes = omega arith in
    rw (same-lengths bytes_in cs have, from-by bytes_in o cs i short h, to-by bytes_in o cs i short h, n, p.1)
    (take_at bytes p.0 (length bytes) refl)

pub items-back :
    (o : OffsetWidth) (cs : List Datum) (i : ℕ) (item : ℕ → Reading Datum) → HaveLengths items_in cs
    → length (items cs) < 2 ^ 31
    → i < length cs → ((j : ℕ) → j < length (items cs) → item j ≡ Ok (get_or (items cs) j null))
    → items_at item o (offsets o cs) i ≡ Ok (items_in (get_or cs i null))
unfolding items offsets
items-back o cs i item have short h read =
    let run = items_in (get_or cs i null) in
    let from : ℕ = start i (lengths items_in cs) in
    let p = segment-at items_in cs i h in
    let n : from + length run - from ≡ length run = omega arith in
    rw (same-lengths items_in cs have, from-by items_in o cs i short h, to-by items_in o cs i short h, n)
    (each-run item null (flat_map items_in cs) run p.0 from p.1 read)
