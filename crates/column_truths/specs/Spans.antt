-- Ranges of whole numbers, and their bits.
use Rattle.std.specs.Prelude.{
  ◌≡◌,
  ◌⊎◌,
  ℕ,
  ℤ,
  pos,
  ◌+◌,
  ◌*◌,
  ◌-◌,
  ◌%◌,
  ◌^◌,
  ◌+ℤ◌,
  ◌&&◌,
  Bool,
  true,
  false,
  not,
  if◌then◌else◌,
  List,
  nat_le,
  int_le,
  map,
}
use Rattle.std.specs.List.{range_with_len}
use Rattle.values.specs.Layouts.{bytes_in}
use Rattle.values.specs.declared.layout.IntWidth.{IntWidth}
use Rattle.array_layout.specs.Buffers.{is_null, unsigned_at}
use Rattle.column_truths.specs.declared.spans.Span.{Span}

-- u is one of the span + 1 numbers of w bits from low on, where 0 comes after the greatest
abbrev pub in_span : ℕ → ℕ → ℕ → ℕ → Bool
in_span w low span u = nat_le ((u + (2 ^ w - low)) % 2 ^ w) span

-- from ≤ z ≤ to
abbrev pub is_between : ℤ → ℤ → ℤ → Bool
is_between from to z = int_le from z && int_le z to

-- how many numbers a width has
abbrev pub numbers_in : IntWidth → ℕ
numbers_in w = 2 ^ (8 * bytes_in w)

-- u are the bits of the number z, one of m numbers
abbrev pub AreBitsOfNumber : ℕ → ℕ → ℤ → Type 0
AreBitsOfNumber m u z = (z ≡ pos u) ⊎ (z +ℤ pos m ≡ pos u)

-- one of the numbers of a span, or of all others
abbrev pub passes_span : IntWidth → Span → ℕ → Bool
passes_span w s u =
    if s.inside then in_span (8 * bytes_in w) s.low s.span u else not (in_span (8 * bytes_in w) s.low s.span u)

-- whether number i of those in these bytes lies in a span
unfoldable pub lies_in : IntWidth → ℕ → ℕ → List ℕ → ℕ → Bool
lies_in w low span bytes i = in_span (8 * bytes_in w) low span (unsigned_at (bytes_in w) bytes i)

-- which of the first n numbers lie in a span
unfoldable pub lying_in : IntWidth → ℕ → ℕ → List ℕ → ℕ → List Bool
lying_in w low span bytes n = map (lies_in w low span bytes) (range_with_len 0 n)

-- which of the first n numbers are those of a span, or of all others
unfoldable pub passing_span : IntWidth → Span → List ℕ → ℕ → List Bool
passing_span w s bytes n = map (λ i. passes_span w s (unsigned_at (bytes_in w) bytes i)) (range_with_len 0 n)

-- which of the first n slots are null
unfoldable pub nulls_by : List ℕ → ℕ → List Bool
nulls_by bits n = map (is_null bits) (range_with_len 0 n)
