-- The logical fields of what was read can be written, and are read back.
use Rattle.std.proofs.Common.{
  ◌≡◌,
  ℕ,
  zero,
  suc,
  ◌<◌,
  ◌≤◌,
  true,
  List,
  [],
  ◌∷◌,
  length,
  map,
  refl,
  ap,
  ◌∙◌,
  slice_index,
  arith,
}
use Rattle.std.specs.Str.{is_utf8}
use Rattle.std.proofs.lemmas.Str.{is_utf8-from_IsUtf8, IsUtf8-from_ascii}
use Rattle.values.specs.Limits.{max_name_len}
use Rattle.values.specs.Rose.{Rose, node, Roses, none, more, kids_of, roses_size, roses_depth}
use Rattle.values.specs.declared.layout.Layout.{Layout}
use Rattle.values.specs.ColTypes.{IsType}
use Rattle.values.specs.Logical.{narrow, child_name, item_name, logical_below, AreLogical}
use Rattle.values.proofs.Logicals.{narrow-again, child-again, are-narrow}
use Rattle.values.specs.declared.col_type.ColType.{ColType}
use Rattle.values.specs.declared.col_type.ColType.TheVariants as stored
use Rattle.schema_meta.specs.Entry.{Entry}
use Rattle.schema_meta.specs.Logical.{logical_field, named_below}
use Rattle.schema_meta.specs.FieldLayouts.{layouts_of, null_weight_fits, null_weights_fit}
use Rattle.schema_meta.specs.FieldsLaw.{AreGoodFields, ColumnsFit, ColumnsNamed}
use Rattle.schema_meta.specs.LogicalLaw.{narrow_tree, narrow_trees}
use Rattle.schema_meta.specs.SchemaTree.{AreWithin}
use Rattle.schema_meta.proofs.NarrowLemmas.{logical-trees, narrow-fits, null_weight-narrow}

narrow-type : (s : ColType) → IsType s → IsType (narrow s)
narrow-type stored.Bool h = tt
narrow-type (stored.Int w s) h = tt
narrow-type (stored.Decimal p s) h = h
narrow-type (stored.Date u) h = tt
narrow-type (stored.Time u) h = tt
narrow-type (stored.Timestamp u z) h = h
narrow-type (stored.Duration u) h = tt
narrow-type (stored.Utf8 o) h = tt
narrow-type (stored.Binary o) h = tt
narrow-type (stored.FixedSizeBinary w) h = h
narrow-type (stored.List o) h = tt
narrow-type stored.Struct h = tt

child-name : (s : ColType) (n : List ℕ) → length n ≤ max_name_len → length (child_name s n) ≤ max_name_len
child-name stored.Bool n h = h
child-name (stored.Int w s) n h = h
child-name (stored.Decimal p s) n h = h
child-name (stored.Date u) n h = h
child-name (stored.Time u) n h = h
child-name (stored.Timestamp u z) n h = h
child-name (stored.Duration u) n h = h
child-name (stored.Utf8 o) n h = h
child-name (stored.Binary o) n h = h
child-name (stored.FixedSizeBinary w) n h = h
child-name (stored.List o) n h = omega arith
child-name stored.Struct n h = h

below-within : (s : ColType) (fs : Roses Entry) → AreGoodFields fs → AreWithin (logical_below s (named_below fs))
below-within s none h = tt
below-within s (more (node e kids) fs) h =
    ((child-name s e.name h.0.0, narrow-type e.stored h.0.2, below-within e.stored kids h.0.4), below-within s fs h.1)

below-size : (s : ColType) (fs : Roses Entry) → roses_size (logical_below s (named_below fs)) ≡ roses_size fs
below-size s none = refl
below-size s (more (node e kids) fs) =
    let kids-same = below-size e.stored kids in let rest = below-size s fs in omega (arith, kids-same, rest)

all-within : (fs : List (Rose Entry)) → AreGoodFields (kids_of fs) → AreWithin (kids_of (map logical_field fs))
all-within [] h = tt
all-within (node e kids ∷ fs) h =
    ((h.0.0, narrow-type e.stored h.0.2, below-within e.stored kids h.0.4), all-within fs h.1)

pub all-size : (fs : List (Rose Entry)) → roses_size (kids_of (map logical_field fs)) ≡ roses_size (kids_of fs)
all-size [] = refl
all-size (node e kids ∷ fs) = let kids-same = below-size e.stored kids in let rest = all-size fs in
    omega (arith, kids-same, rest)

pub columns_fit : ColumnsFit
columns_fit fields known =
    record { few = omega (arith, all-size fields, known.few); within = all-within fields known.valid }

-- names, and the width of offsets

item-text : is_utf8 item_name ≡ true
item-text = is_utf8-from_IsUtf8 item_name (IsUtf8-from_ascii item_name ascii)
  where
    ascii : (i : ℕ) → slice_index item_name i < 128
    ascii zero = omega arith
    ascii (suc zero) = omega arith
    ascii (suc (suc zero)) = omega arith
    ascii (suc (suc (suc zero))) = omega arith
    ascii (suc (suc (suc (suc i)))) = omega arith

child-text : (s : ColType) (n : List ℕ) → is_utf8 n ≡ true → is_utf8 (child_name s n) ≡ true
child-text stored.Bool n h = h
child-text (stored.Int w s) n h = h
child-text (stored.Decimal p s) n h = h
child-text (stored.Date u) n h = h
child-text (stored.Time u) n h = h
child-text (stored.Timestamp u z) n h = h
child-text (stored.Duration u) n h = h
child-text (stored.Utf8 o) n h = h
child-text (stored.Binary o) n h = h
child-text (stored.FixedSizeBinary w) n h = h
child-text (stored.List o) n h = item-text
child-text stored.Struct n h = h

below-logical : (s : ColType) (fs : Roses Entry) → AreGoodFields fs → AreLogical s (logical_below s (named_below fs))
below-logical s none h = tt
below-logical s (more (node e kids) fs) h = (
  (
    child-text s e.name h.0.1,
    child-again s e.name,
    narrow-again e.stored,
    are-narrow e.stored _ (below-logical e.stored kids h.0.4),
  ),
  below-logical s fs h.1,
)

-- the columns below none, as those below a struct
columns-below : (fs : List (Rose Entry))
    → kids_of (map logical_field fs) ≡ logical_below stored.Struct (named_below (kids_of fs))
columns-below [] = refl
columns-below (f ∷ fs) = ap (λ r. more (logical_field f) r) (columns-below fs)

-- the depth stays

below-depth : (s : ColType) (fs : Roses Entry) → roses_depth (logical_below s (named_below fs)) ≡ roses_depth fs
below-depth s none = refl
below-depth s (more (node e kids) fs) = rw (below-depth e.stored kids, below-depth s fs) refl

-- so do the null weights

mutual
  null_weight_within-narrow : (t : Rose Layout) → null_weight_fits (narrow_tree t) ≡ null_weight_fits t
  null_weight_within-narrow (node l kids) = rw (null_weight-narrow (node l kids), null_weights_within-narrow kids) refl

  null_weights_within-narrow : (ts : Roses Layout) → null_weights_fit (narrow_trees ts) ≡ null_weights_fit ts
  null_weights_within-narrow none = refl
  null_weights_within-narrow (more t ts) = rw (null_weight_within-narrow t, null_weights_within-narrow ts) refl

pub columns-named : ColumnsNamed
columns-named fields known =
    let below = columns-below fields in
    let trees = logical-trees fields in
    record {
      logical = rw below (below-logical stored.Struct (kids_of fields) known.valid);
      layouts = rw trees (narrow-fits (layouts_of fields) known.layouts);
      shallow = rw below (let same = below-depth stored.Struct (kids_of fields) in omega (arith, same, known.shallow));
      null_weight_within = rw trees (null_weights_within-narrow (layouts_of fields) ∙ known.null_weight_within);
    }
