-- Slots that are null, or valid, as the bits of their run are.
use Rattle.std.proofs.Common.{◌≡◌, ℕ, ◌+◌, ◌-◌, ◌<◌, ◌≤◌, List, length, refl, get_or, ap, sym, ◌∙◌, arith}
use Rattle.std.specs.Prelude.{Bool, true, false, not, if◌then◌else◌, ◌==◌}
use Rattle.std.proofs.lemmas.Bool.Decides.{nat_tests}
use Rattle.bitmaps.specs.Bits.{bit_at, bits_at}
use Rattle.bitmaps.proofs.Runs.{get_or-bits_at}
use Rattle.array_layout.specs.Buffers.{is_null}

pub none-null : (bits : List ℕ) (k : ℕ) → length bits ≡ 0 → is_null bits k ≡ false
unfolding is_null
none-null bits k e = rw e refl

pub no-bytes : (n : ℕ) (b : Bool) → b ≡ (n == 0) → b ≡ true → n ≡ 0
no-bytes n b e is = grind (arith, nat_tests)

-- the bits of a run, from its first on
pub alike-null : (bits : List ℕ) (from n len : ℕ) → len ≤ n
    → ((k : ℕ) → 0 ≤ k → k < len → get_or (bits_at bits from n) k false ≡ get_or (bits_at bits from n) 0 false)
    → (k : ℕ) → from ≤ k → k < from + len → is_null bits k ≡ is_null bits from
unfolding is_null
alike-null bits from n len within same k above below =
    let here : bit_at bits k ≡ get_or (bits_at bits from n) (k - from) false =
    ap (bit_at bits) (omega (arith, above))
    ∙ sym (get_or-bits_at bits from n (k - from) (omega (arith, above, below, within))) in
    let first : bit_at bits from ≡ get_or (bits_at bits from n) 0 false =
    ap (bit_at bits) (omega arith) ∙ sym (get_or-bits_at bits from n 0 (omega (arith, above, below, within))) in
    let alike : bit_at bits k ≡ bit_at bits from =
    here ∙ same (k - from) (omega arith) (omega (arith, above, below)) ∙ sym first in
    ap (λ b. if length bits == 0 then false else not b) alike
