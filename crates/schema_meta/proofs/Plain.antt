-- Fields without dictionaries.
use Rattle.std.proofs.Common.{◌≡◌, ℕ, ℤ, ◌+◌, List, [], ◌∷◌, true, Option, refl, ap, sym, ◌∙◌}
use Rattle.values.specs.Datum.{Datum}
use Rattle.values.specs.Rose.{Rose, node, Roses, none, more, kids_of, rose_size}
use Rattle.array_layout.specs.declared.array.FieldNode.{FieldNode}
use Rattle.array_layout.specs.declared.array.BufferRange.{BufferRange}
use Rattle.array_layout.specs.Placing.{placed, placed_all, ranges_in}
use Rattle.values.specs.Logical.{NamedType, tree_of, trees_of}
use Rattle.values.specs.declared.col_type.ColType.{ColType}
use Rattle.schema_meta.specs.Dictionaries.{agree, are_consistent, value_type}
use Rattle.schema_meta.specs.FieldLayouts.{slot_layout_of, slot_layouts_below, slot_layouts_of}
use Rattle.schema_meta.specs.Parts.{decoded, decoded_all, arrays_of}
use Rattle.schema_meta.specs.PlainLaw.{PlainSlots, PlainArrays}
use Rattle.schema_meta.specs.SchemaLaw.{stored_field, stored_below, stored_fields}
use Rattle.schema_meta.proofs.SoundFields.{layouts-read}

-- what is read from the fields, from their list
stored-kids : (fs : List (Rose NamedType)) → kids_of (stored_fields fs) ≡ stored_below (kids_of fs)
stored-kids [] = refl
stored-kids (f ∷ fs) = ap (λ r. more (stored_field f) r) (stored-kids fs)

mutual
  slot-plain : (f : Rose NamedType) → slot_layout_of (stored_field f) ≡ tree_of f
  slot-plain (node f kids) = rw (slots-plain kids) refl

  pub slots-plain : (fs : Roses NamedType) → slot_layouts_below (stored_below fs) ≡ trees_of fs
  slots-plain none = refl
  slots-plain (more f fs) = rw (slot-plain f, slots-plain fs) refl

pub slots-are : (fs : List (Rose NamedType)) → slot_layouts_of (stored_fields fs) ≡ trees_of (kids_of fs)
slots-are fs = ap slot_layouts_below (stored-kids fs) ∙ slots-plain (kids_of fs)

pub plain-slots : PlainSlots
plain-slots fs = slots-are fs ∙ sym (layouts-read fs)

mutual
  pub plain-array :
      (values : ℤ → List Datum) (nodes : List FieldNode) (ranges : List BufferRange) (n b : ℕ) (f : Rose NamedType)
      → decoded values (stored_field f) (placed nodes ranges n b (tree_of f)) ≡ placed nodes ranges n b (tree_of f)
  plain-array values nodes ranges n b (node f kids) = rw (plain-below values nodes ranges (n + 1) _ kids) refl

  plain-below :
      (values : ℤ → List Datum) (nodes : List FieldNode) (ranges : List BufferRange) (n b : ℕ) (fs : Roses NamedType)
      → decoded_all values (stored_below fs) (placed_all nodes ranges n b (trees_of fs)) ≡ placed_all nodes ranges n b
      (trees_of fs)
  plain-below values nodes ranges n b none = refl
  plain-below values nodes ranges n b (more f fs) =
      rw (
        plain-array values nodes ranges n b f,
        plain-below values nodes ranges (n + rose_size (tree_of f)) (b + ranges_in (tree_of f)) fs,
      ) refl

pub plain-arrays : PlainArrays
unfolding arrays_of
plain-arrays values fs head =
    rw (slots-are fs, layouts-read fs, stored-kids fs) (plain-below values head.nodes head.ranges 0 0 (kids_of fs))

-- There are no ids that could clash.
pub plain-agree : (known : ℤ → Option ColType) (fs : Roses NamedType) → agree known (stored_below fs) ≡ true
plain-agree known none = refl
plain-agree known (more (node f kids) fs) = rw (plain-agree known kids, plain-agree known fs) refl
