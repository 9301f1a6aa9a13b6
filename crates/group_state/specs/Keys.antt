-- Keys and grouping tuples: their order, and the values of which they are the keys.
use Rattle.std.specs.Prelude.{List, None, Option, Some, map}
use Rattle.std.specs.Option.{unwrap_or}
use Rattle.values.specs.Datum.{Datum, null}
use Rattle.values.specs.Keys.{datum_of_key, key_of}
use Rattle.values.specs.declared.key.Key.TheVariants as key
use Rattle.std.specs.Cmp.{IsTotalOrder}
use Rattle.std.specs.Cmp.Lexicographic.{slice_cmp, lists_total}
use Rattle.std.specs.declared.cmp.Ordering.{Ordering}
use Rattle.values.specs.declared.key.Key.{Key}
use Rattle.values.specs.contracts.key.KeyOrd.TheImpl as order
use Rattle.values.specs.contracts.key.KeyOrd.TheImpl.Laws.{total-law}

abbrev pub key_cmp : Key → Key → Ordering
key_cmp = order.ghosts.cmp

pub key_total : IsTotalOrder key_cmp
key_total = total-law

abbrev pub tuple_cmp : List Key → List Key → Ordering
tuple_cmp = slice_cmp key_cmp

pub tuple_total : IsTotalOrder tuple_cmp
tuple_total = lists_total key_total

-- the key in a cell; a null where it is a list or a struct
abbrev pub key_in : Datum → Key
key_in d = unwrap_or (key_of d) key.Null

-- the tuple of keys
abbrev pub data_of : List Key → List Datum
data_of t = map datum_of_key t

abbrev pub datum_in : Option Key → Datum
datum_in None = null
datum_in (Some k) = datum_of_key k
