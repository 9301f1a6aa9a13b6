-- Keys, and the values that they are.
use Rattle.std.specs.Prelude.{Option, None, Some}
use Rattle.values.specs.Datum.{Datum, null, truth, whole, text, bytes, list, structure}
use Rattle.values.specs.declared.key.Key.{Key}
use Rattle.values.specs.declared.key.Key.TheVariants as key

-- the key of a value; lists and structs have none
abbrev pub key_of : Datum → Option Key
key_of null = Some key.Null
key_of (truth b) = Some (key.Bool b)
key_of (whole n) = Some (key.Int n)
key_of (text t) = Some (key.Utf8 t)
key_of (bytes b) = Some (key.Binary b)
key_of (list es) = None
key_of (structure es) = None

abbrev pub datum_of_key : Key → Datum
datum_of_key key.Null = null
datum_of_key (key.Bool b) = truth b
datum_of_key (key.Int n) = whole n
datum_of_key (key.Utf8 t) = text t
datum_of_key (key.Binary b) = bytes b
