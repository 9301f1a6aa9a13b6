-- The cells that are keys, and those that aren't.
use Rattle.std.proofs.Common.{◌≡◌, false, None, refl, sym}
use Rattle.std.specs.Prelude.{IsSome}
use Rattle.std.proofs.lemmas.Option.{none-some}
use Rattle.values.specs.ColTypes.{IsSingle, layout_of}
use Rattle.values.specs.Datum.{Datum, bytes, list, null, structure, text, truth, whole}
use Rattle.values.specs.Keys.{datum_of_key, key_of}
use Rattle.values.specs.Layouts.{Holds}
use Rattle.values.specs.Logical.{NamedType, tree_of}
use Rattle.values.specs.Rose.{Rose, Roses, node}
use Rattle.values.specs.declared.col_type.ColType.{ColType}
use Rattle.values.specs.declared.key.Key.{Key}
use Rattle.values.specs.declared.key.Key.TheVariants as key
use Rattle.values.specs.declared.layout.Layout.{Layout}
use Rattle.values.proofs.SingleCells.{no_list, no_structure}
use Rattle.view_lang.specs.Contents.{same_key}
use Rattle.view_lang.specs.TableRules.{type_of}

single_key : (t : ColType) (kids : Roses Layout) (d : Datum) → IsSingle t → Holds (node (layout_of t) kids) d
    → IsSome (key_of d)
single_key t kids (list es) single held = absurd (no_list t kids es single held)
single_key t kids (structure es) single held = absurd (no_structure t kids es single held)
single_key t kids d single held = refl

pub held_key : (f : Rose NamedType) (d : Datum) → IsSingle (type_of f) → Holds (tree_of f) d → IsSome (key_of d)
held_key (node f kids) d single held = single_key f.col_type _ d single held

-- A list or a struct is no row's key.
pub keyless : (d : Datum) (k : Key) → key_of d ≡ None → same_key d (datum_of_key k) ≡ false
keyless null k h = absurd (none-some key.Null (sym h))
keyless (truth b) k h = absurd (none-some (key.Bool b) (sym h))
keyless (whole n) k h = absurd (none-some (key.Int n) (sym h))
keyless (text s) k h = absurd (none-some (key.Utf8 s) (sym h))
keyless (bytes b) k h = absurd (none-some (key.Binary b) (sym h))
keyless (list es) (key.Bool b) h = refl
keyless (list es) (key.Int n) h = refl
keyless (list es) (key.Utf8 s) h = refl
keyless (list es) (key.Binary b) h = refl
keyless (list es) key.Null h = refl
keyless (structure es) (key.Bool b) h = refl
keyless (structure es) (key.Int n) h = refl
keyless (structure es) (key.Utf8 s) h = refl
keyless (structure es) (key.Binary b) h = refl
keyless (structure es) key.Null h = refl
