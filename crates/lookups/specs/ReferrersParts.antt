-- Rows by key, taken apart.
use Rattle.lookups.specs.Refers.{RowsByKey}
use Rattle.lookups.specs.declared.parts.KeyNumbers.{KeyNumbers}
use Rattle.lookups.specs.declared.parts.ReferrersParts.{ReferrersParts}
use Rattle.std.specs.Prelude.{ℕ, List, map}
use Rattle.values.specs.declared.key.Key.{Key}

abbrev pub entry_with : KeyNumbers → Key × List ℕ
entry_with k = (k.key, k.numbers.items)

-- the numbers by key that have these parts
abbrev pub rows_with : ReferrersParts → RowsByKey
rows_with p = map entry_with p.keys.items
