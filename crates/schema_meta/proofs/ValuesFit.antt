-- The values of a dictionary lie in one array.
use Rattle.std.proofs.Common.{◌≡◌, inl, inr, ℤ, List, Option, None, Some}
use Rattle.values.specs.Rose.{Rose, node, Roses, none, more, kids_of}
use Rattle.values.specs.Layouts.{IsNode, AreLayouts}
use Rattle.values.specs.ColTypes.{IsSingle, IsType, layout_of as layout_by}
use Rattle.values.specs.declared.col_type.ColType.{ColType}
use Rattle.values.specs.declared.col_type.ColType.TheVariants as stored
use Rattle.schema_meta.specs.declared.encoding.DictionaryEncoding.{DictionaryEncoding}
use Rattle.schema_meta.specs.ClashLaw.{IsOwn, Uses, UsesBelow}
use Rattle.schema_meta.specs.Dictionaries.{value_type}
use Rattle.schema_meta.specs.DictionaryBatch.{value_layouts}
use Rattle.schema_meta.specs.Entry.{Entry}
use Rattle.schema_meta.specs.FieldsLaw.{AreFields, IsDictionaryType, IsGoodField, AreGoodFields}
use Rattle.schema_meta.proofs.OneType.{used}

single-node : (s : ColType) → IsSingle s → IsType s → IsNode (layout_by s) none
single-node stored.Bool is t = tt
single-node (stored.Int w s) is t = tt
single-node (stored.Decimal p s) is t = t.1
single-node (stored.Date u) is t = tt
single-node (stored.Time u) is t = tt
single-node (stored.Timestamp u z) is t = tt
single-node (stored.Duration u) is t = tt
single-node (stored.Utf8 o) is t = tt
single-node (stored.Binary o) is t = tt
single-node (stored.FixedSizeBinary w) is t = tt
single-node (stored.List o) is t = absurd is
single-node stored.Struct is t = absurd is

own-node : (id : ℤ) (s : ColType) (c : Option DictionaryEncoding) (t : ColType) → IsDictionaryType c t → IsType t
    → IsOwn id s c t → IsNode (layout_by s) none
own-node id s None t is type u = absurd u
own-node id s (Some c) t is type u = let same = u.1 in rw same (single-node t is type)

mutual
  used-node : (id : ℤ) (s : ColType) (f : Rose Entry) → IsGoodField f → Uses id s f → IsNode (layout_by s) none
  used-node id s (node e kids) valid (inl a) = own-node id s e.encoding e.stored valid.3 valid.2 a
  used-node id s (node e kids) valid (inr b) = used-below id s kids valid.4 b

  used-below : (id : ℤ) (s : ColType) (fs : Roses Entry) → AreGoodFields fs → UsesBelow id s fs
      → IsNode (layout_by s) none
  used-below id s none valid u = absurd u
  used-below id s (more f fs) valid (inl a) = used-node id s f valid.0 a
  used-below id s (more f fs) valid (inr b) = used-below id s fs valid.1 b

-- the layout of the values of a schema's dictionary is one
pub values-fit :
    (fields : List (Rose Entry)) (id : ℤ) (s : ColType) → AreFields fields → value_type fields id ≡ Some s
    → AreLayouts (value_layouts s)
values-fit fields id s known e = ((used-below id s (kids_of fields) known.valid (used fields id s e), tt), tt)
