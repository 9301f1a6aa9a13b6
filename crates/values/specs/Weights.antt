-- Weights in 64 bits, and what they are counted from.
use Rattle.std.specs.Prelude.{ℕ, ◌+◌, ◌-◌, ◌^◌, nat_lt, if◌then◌else◌, List, [], ◌∷◌}
use Rattle.values.specs.Rose.{Rose}
use Rattle.values.specs.Datum.{Datum, text, bytes, list, Items, no_items}
use Rattle.values.specs.declared.layout.Layout.{Layout}
use Rattle.values.specs.Layouts.{weight}

-- a weight in 64 bits: 2^64 - 1 where it is more
unfoldable pub saturated : ℕ → ℕ
saturated n = if nat_lt n (2 ^ 64) then n else 2 ^ 64 - 1

-- the weights of values of one layout, summed
abbrev pub weights : Rose Layout → List Datum → ℕ
weights t [] = 0
weights t (c ∷ cs) = weight t c + weights t cs

-- what texts, bytes and lists hold beyond their slots

abbrev pub text_in : Datum → List ℕ
text_in (text b) = b
text_in _ = []

abbrev pub blob_in : Datum → List ℕ
blob_in (bytes b) = b
blob_in _ = []

abbrev pub items_in : Datum → Items
items_in (list es) = es
items_in _ = no_items
