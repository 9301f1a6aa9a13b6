-- Entries of rows whose sort keys are short.
use Rattle.std.proofs.Common.{◌≡◌, refl, ap₂, ◌∙◌}
use Rattle.std.specs.Ordering.{ordering_then}
use Rattle.std.specs.Int.{w64}
use Rattle.std.specs.Prelude.{◌∷◌, ◌≤◌, ℕ, zero, suc, FitsSigned, [], List, length}
use Rattle.std.specs.declared.cmp.Ordering.{Ordering}
use Rattle.std.specs.declared.cmp.Ordering.TheVariants.{Equal, Greater, Less}
use Rattle.values.specs.declared.key.Key.{Key}
use Rattle.values.specs.declared.key.Key.TheVariants as key
use Rattle.top_rows.specs.EntryOrder.{sort_key_cmp, sort_keys_cmp}
use Rattle.top_rows.specs.contracts.short_key.ShortKeyOrd.TheImpl as order
use Rattle.top_rows.specs.declared.short_key.ShortKey.{ShortKey}
use Rattle.top_rows.specs.declared.short_key.ShortKey.TheVariants as short_key
use Rattle.top_rows.specs.declared.sort_key.SortKey.{SortKey}
use Rattle.top_rows.specs.declared.sort_key.SortKey.TheVariants as sort_key

-- the sort key that is stored as a short one
abbrev pub sort_key_of_short : ShortKey → SortKey
sort_key_of_short (short_key.AscendingNumber n) = sort_key.Ascending (key.Int n)
sort_key_of_short (short_key.AscendingText t) = sort_key.Ascending (key.Utf8 t)
sort_key_of_short (short_key.DescendingText t) = sort_key.Descending (record { 0 = key.Utf8 t.0 })
sort_key_of_short (short_key.DescendingNumber n) = sort_key.Descending (record { 0 = key.Int n.0 })
sort_key_of_short short_key.Missing = sort_key.Missing

-- A key has a short form if it is a whole number of 64 bits or a text of at most 14 bytes.
abbrev pub IsShort : Key → Type 0
IsShort (key.Int n) = FitsSigned w64 n
IsShort (key.Utf8 t) = length t ≤ 14
IsShort k = ⊥

-- A sort key has a short form if its key has one, or if it is missing.
abbrev pub IsShortKey : SortKey → Type 0
IsShortKey (sort_key.Ascending k) = IsShort k
IsShortKey (sort_key.Descending k) = IsShort k.0
IsShortKey sort_key.Missing = Unit {0}

-- There are so many sort keys, and each has a short form.
abbrev pub AreShort : ℕ → List SortKey → Type 0
AreShort zero [] = Unit {0}
AreShort (suc n) (k ∷ ks) = IsShortKey k × AreShort n ks
AreShort n ks = ⊥

-- the sort keys that are stored as one short key, and as two
abbrev pub sort_keys_of_one : ShortKey → List SortKey
sort_keys_of_one k = sort_key_of_short k ∷ []

abbrev pub sort_keys_of_two : ShortKey × ShortKey → List SortKey
sort_keys_of_two k = sort_key_of_short k.0 ∷ sort_key_of_short k.1 ∷ []

-- the entry of a row of some name whose sort keys are stored as a value of K, which stands for these
abbrev pub short_entry : {K N : Type 0} → (K → List SortKey) → K × N → List SortKey × N
short_entry sort_keys p = (sort_keys p.0, p.1)

-- Short keys are ordered as the sort keys are that they stand for.
short-ordered : (x y : ShortKey) → sort_key_cmp (sort_key_of_short x) (sort_key_of_short y) ≡ order.ghosts.cmp x y
short-ordered (short_key.AscendingNumber x) (short_key.AscendingNumber y) = refl
short-ordered (short_key.AscendingNumber x) (short_key.AscendingText y) = refl
short-ordered (short_key.AscendingNumber x) (short_key.DescendingText y) = refl
short-ordered (short_key.AscendingNumber x) (short_key.DescendingNumber y) = refl
short-ordered (short_key.AscendingNumber x) short_key.Missing = refl
short-ordered (short_key.AscendingText x) (short_key.AscendingNumber y) = refl
short-ordered (short_key.AscendingText x) (short_key.AscendingText y) = refl
short-ordered (short_key.AscendingText x) (short_key.DescendingText y) = refl
short-ordered (short_key.AscendingText x) (short_key.DescendingNumber y) = refl
short-ordered (short_key.AscendingText x) short_key.Missing = refl
short-ordered (short_key.DescendingText x) (short_key.AscendingNumber y) = refl
short-ordered (short_key.DescendingText x) (short_key.AscendingText y) = refl
short-ordered (short_key.DescendingText x) (short_key.DescendingText y) = refl
short-ordered (short_key.DescendingText x) (short_key.DescendingNumber y) = refl
short-ordered (short_key.DescendingText x) short_key.Missing = refl
short-ordered (short_key.DescendingNumber x) (short_key.AscendingNumber y) = refl
short-ordered (short_key.DescendingNumber x) (short_key.AscendingText y) = refl
short-ordered (short_key.DescendingNumber x) (short_key.DescendingText y) = refl
short-ordered (short_key.DescendingNumber x) (short_key.DescendingNumber y) = refl
short-ordered (short_key.DescendingNumber x) short_key.Missing = refl
short-ordered short_key.Missing (short_key.AscendingNumber y) = refl
short-ordered short_key.Missing (short_key.AscendingText y) = refl
short-ordered short_key.Missing (short_key.DescendingText y) = refl
short-ordered short_key.Missing (short_key.DescendingNumber y) = refl
short-ordered short_key.Missing short_key.Missing = refl

then-equal : (o : Ordering) → ordering_then o Equal ≡ o
then-equal Less = refl
then-equal Equal = refl
then-equal Greater = refl

pub one-ordered : (x y : ShortKey) → sort_keys_cmp (sort_keys_of_one x) (sort_keys_of_one y) ≡ order.ghosts.cmp x y
one-ordered x y = then-equal (sort_key_cmp (sort_key_of_short x) (sort_key_of_short y)) ∙ short-ordered x y

pub two-ordered : (x y : ShortKey × ShortKey) → sort_keys_cmp (sort_keys_of_two x) (sort_keys_of_two y)
    ≡ ordering_then (order.ghosts.cmp x.0 y.0) (order.ghosts.cmp x.1 y.1)
two-ordered x y = ap₂ ordering_then (short-ordered x.0 y.0) (one-ordered x.1 y.1)
