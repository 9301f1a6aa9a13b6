-- Numbers that are written are read back.
use Rattle.std.proofs.Common.{
  ◌≡◌,
  ℕ,
  suc,
  ◌+◌,
  ◌*◌,
  ◌-◌,
  ◌^◌,
  ◌<◌,
  ◌≤◌,
  List,
  length,
  take,
  drop,
  get_or,
  true,
  false,
  Bool,
  Ok,
  refl,
  ap,
  ◌∙◌,
  arith,
}
use Rattle.std.specs.Prelude.{pos, negsuc, ℤ, nat_abs, ◌-ℤ◌}
use Rattle.std.specs.Int.{w128, cast_unsigned}
use Rattle.std.specs.List.{flat_map}
use Rattle.std.proofs.lemmas.Bool.{le-ltb, lt-ltb}
use Rattle.std.proofs.lemmas.Int.{ints}
use Rattle.std.proofs.Math.Nat.{mod-lt, pow-le-pow_right}
use Rattle.std.proofs.lemmas.List.{take_at}
use Rattle.byteorder.specs.Endian.{little_bytes, little_number, low_bytes, twos_complement}
use Rattle.byteorder.specs.Numbers.{little_number-reads_back, length-bytes_low_first}
use Rattle.values.specs.Limits.{max_precision}
use Rattle.values.specs.Datum.{Datum, null, whole}
use Rattle.values.specs.declared.layout.IntWidth.{IntWidth}
use Rattle.values.specs.declared.layout.IntWidth.TheVariants as int
use Rattle.values.specs.Layouts.{bytes_in as width_of, FitsIn}
use Rattle.array_layout.specs.Buffers.{unsigned_at, number_by, number_at, fixed_at}
use Rattle.array_layout.specs.Sound.{slots_of}
use Rattle.body_writer.specs.Slots.{whole_in, number_in, fixed_in}
use Rattle.body_writer.specs.Columns.{numbers, fixed}
use Rattle.body_writer.proofs.CellBytes.{HaveWidth, even-at, length-even}

abbrev number_bytes : ℕ → Datum → List ℕ
number_bytes w c = little_bytes w (number_in w c)

one-width : (w : ℕ) (cs : List Datum) → HaveWidth (number_bytes w) w cs
one-width w cs = λ i h. length-bytes_low_first 0 w (number_in w (get_or cs i null))

pub numbers-length : (w : ℕ) (cs : List Datum) → length (numbers w cs) ≡ w * length cs
unfolding numbers
numbers-length w cs = length-even (number_bytes w) w cs (one-width w cs)

abbrev IsSmall : ℕ → Type 0
IsSmall w = (c : Datum) → number_in w c < 256 ^ w

pub unsigned-read : (w : ℕ) (cs : List Datum) (i : ℕ) → IsSmall w → i < length cs
    → unsigned_at w (numbers w cs) i ≡ number_in w (get_or cs i null)
unfolding unsigned_at numbers
unsigned-read w cs i small h =
    let p = even-at (number_bytes w) w cs i h (one-width w cs) in
    ap (little_number w) p.1
    ∙ little_number-reads_back w (number_in w (get_or cs i null)) p.0 (small (get_or cs i null))

small-1 : IsSmall 1
small-1 c = mod-lt (cast_unsigned w128 (whole_in c)) {m = 2 ^ 8} (omega arith)

small-2 : IsSmall 2
small-2 c = mod-lt (cast_unsigned w128 (whole_in c)) {m = 2 ^ 16} (omega arith)

small-4 : IsSmall 4
small-4 c = mod-lt (cast_unsigned w128 (whole_in c)) {m = 2 ^ 32} (omega arith)

small-8 : IsSmall 8
small-8 c = mod-lt (cast_unsigned w128 (whole_in c)) {m = 2 ^ 64} (omega arith)

small-16 : IsSmall 16
small-16 c = mod-lt (cast_unsigned w128 (whole_in c)) {m = 2 ^ 128} (omega arith)

small : (w : IntWidth) → IsSmall (width_of w)
small int.Bits8 = small-1
small int.Bits16 = small-2
small int.Bits32 = small-4
small int.Bits64 = small-8

-- the number of its low bytes

unsigned-back : (w : IntWidth) (z : ℤ) → FitsIn false (width_of w) z → pos (low_bytes w128 (width_of w) z) ≡ z
unsigned-back w (negsuc k) h = absurd (omega (arith, ints, h.0))
unsigned-back int.Bits8 (pos k) h = ap pos (omega (arith, ints, h.1))
unsigned-back int.Bits16 (pos k) h = ap pos (omega (arith, ints, h.1))
unsigned-back int.Bits32 (pos k) h = ap pos (omega (arith, ints, h.1))
unsigned-back int.Bits64 (pos k) h = ap pos (omega (arith, ints, h.1))

low-half : (w x : ℕ) → x < 2 ^ (8 * w - 1) → twos_complement w x ≡ pos x
low-half w x h = rw (lt-ltb x (2 ^ (8 * w - 1)) h) refl

high-half : (w x : ℕ) → 2 ^ (8 * w - 1) ≤ x → twos_complement w x ≡ pos x -ℤ pos (2 ^ (8 * w))
high-half w x h = rw (le-ltb x (2 ^ (8 * w - 1)) h) refl

below : (x k m : ℕ) → x + suc k ≡ m → pos x -ℤ pos m ≡ negsuc k
below x k m e = omega (arith, ints, e)

back-low : (w x k : ℕ) → x ≡ k → k < 2 ^ (8 * w - 1) → twos_complement w x ≡ pos k
back-low w x k e h = ap (twos_complement w) e ∙ low-half w k h

back-high : (w x k : ℕ) → x + suc k ≡ 2 ^ (8 * w) → 2 ^ (8 * w - 1) ≤ x → twos_complement w x ≡ negsuc k
back-high w x k e h = high-half w x h ∙ below x k (2 ^ (8 * w)) e

abbrev IsBack : ℕ → Type 0
IsBack w = (z : ℤ) → FitsIn true w z → twos_complement w (low_bytes w128 w z) ≡ z

back-1 : IsBack 1
back-1 (pos k) h = back-low 1 (low_bytes w128 1 (pos k)) k (omega (arith, ints, h.1)) (omega (arith, ints, h.1))
back-1 (negsuc k) h = back-high 1 (low_bytes w128 1 (negsuc k)) k (omega (arith, ints, h.0)) (omega (arith, ints, h.0))

back-2 : IsBack 2
back-2 (pos k) h = back-low 2 (low_bytes w128 2 (pos k)) k (omega (arith, ints, h.1)) (omega (arith, ints, h.1))
back-2 (negsuc k) h = back-high 2 (low_bytes w128 2 (negsuc k)) k (omega (arith, ints, h.0)) (omega (arith, ints, h.0))

back-4 : IsBack 4
back-4 (pos k) h = back-low 4 (low_bytes w128 4 (pos k)) k (omega (arith, ints, h.1)) (omega (arith, ints, h.1))
back-4 (negsuc k) h = back-high 4 (low_bytes w128 4 (negsuc k)) k (omega (arith, ints, h.0)) (omega (arith, ints, h.0))

back-8 : IsBack 8
back-8 (pos k) h = back-low 8 (low_bytes w128 8 (pos k)) k (omega (arith, ints, h.1)) (omega (arith, ints, h.1))
back-8 (negsuc k) h = back-high 8 (low_bytes w128 8 (negsuc k)) k (omega (arith, ints, h.0)) (omega (arith, ints, h.0))

back-16 : IsBack 16
back-16 (pos k) h = back-low 16 (low_bytes w128 16 (pos k)) k (omega (arith, ints, h.1)) (omega (arith, ints, h.1))
back-16 (negsuc k) h =
    back-high 16 (low_bytes w128 16 (negsuc k)) k (omega (arith, ints, h.0)) (omega (arith, ints, h.0))

signed-back : (w : IntWidth) → IsBack (width_of w)
signed-back int.Bits8 = back-1
signed-back int.Bits16 = back-2
signed-back int.Bits32 = back-4
signed-back int.Bits64 = back-8

low-back : (s : Bool) (w : IntWidth) (z : ℤ) → FitsIn s (width_of w) z
    → number_by s (width_of w) (low_bytes w128 (width_of w) z) ≡ z
low-back true w z h = signed-back w z h
low-back false w z h = unsigned-back w z h

pub number-back :
    (s : Bool) (w : IntWidth) (cs : List Datum) (i : ℕ) (z : ℤ) → i < length cs → get_or cs i null ≡ whole z
    → FitsIn s (width_of w) z
    → number_at s (width_of w) (numbers (width_of w) cs) i ≡ z
unfolding number_at
number-back s w cs i z h e fits =
    ap (number_by s (width_of w)) (unsigned-read (width_of w) cs i (small w) h ∙ ap (number_in (width_of w)) e)
    ∙ low-back s w z fits

-- decimals have less than 2^127
digits : (p : ℕ) → p ≤ max_precision → 10 ^ p ≤ 10 ^ max_precision
digits p h = pow-le-pow_right (omega arith) h

decimal-fits : (p : ℕ) (z : ℤ) → p ≤ max_precision → nat_abs z < 10 ^ p → FitsIn true 16 z
decimal-fits p (pos k) h small = let most = digits p h in
    (omega (arith, ints, most, small), omega (arith, ints, most, small))
decimal-fits p (negsuc k) h small = let most = digits p h in
    (omega (arith, ints, most, small), omega (arith, ints, most, small))

pub decimal-back :
    (p : ℕ) (cs : List Datum) (i : ℕ) (z : ℤ) → p ≤ max_precision → i < length cs → get_or cs i null ≡ whole z
    → nat_abs z < 10 ^ p
    → number_at true 16 (numbers 16 cs) i ≡ z
unfolding number_at
decimal-back p cs i z most h e fits =
    ap (twos_complement 16) (unsigned-read 16 cs i small-16 h ∙ ap (number_in 16) e)
    ∙ back-16 z (decimal-fits p z most fits)

-- bytes for each slot

pub room-sound : (w : ℕ) (xs : List ℕ) (n : ℕ) → length xs ≡ w * n → slots_of w xs n ≡ Ok tt
unfolding slots_of
room-sound w xs n e = rw (le-ltb (length xs) (w * n) (omega (arith, e))) refl

pub numbers-sound : (w : ℕ) (cs : List Datum) → slots_of w (numbers w cs) (length cs) ≡ Ok tt
numbers-sound w cs = room-sound w (numbers w cs) (length cs) (numbers-length w cs)

-- bytes of one width

pub fixed-length : (w : ℕ) (cs : List Datum) → HaveWidth (fixed_in w) w cs → length (fixed w cs) ≡ w * length cs
unfolding fixed
fixed-length w cs even = length-even (fixed_in w) w cs even

pub fixed-sound : (w : ℕ) (cs : List Datum) → HaveWidth (fixed_in w) w cs → slots_of w (fixed w cs) (length cs) ≡ Ok tt
fixed-sound w cs even = room-sound w (fixed w cs) (length cs) (fixed-length w cs even)

pub fixed-back : (w : ℕ) (cs : List Datum) (i : ℕ) → i < length cs → HaveWidth (fixed_in w) w cs
    → fixed_at w (fixed w cs) i ≡ fixed_in w (get_or cs i null)
unfolding fixed_at fixed
fixed-back w cs i h even =
    let p = even-at (fixed_in w) w cs i h even in
    let n : w * i + w - w * i ≡ w = omega arith in
    ap (λ k. take k (drop (w * i) (flat_map (fixed_in w) cs))) n ∙ ap (take w) p.1
    ∙ take_at (fixed_in w (get_or cs i null)) p.0 w (even i h)
