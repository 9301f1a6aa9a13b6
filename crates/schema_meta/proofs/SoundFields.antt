-- What a schema within the limits says of fields that lie at a level, and what is read from them.
use Rattle.std.proofs.Common.{◌≡◌, ℕ, suc, ◌≤◌, true, List, [], ◌∷◌, refl, ap, subst, arith}
use Rattle.std.specs.Prelude.{max}
use Rattle.flatbuf.specs.Tree.{count}
use Rattle.values.specs.Rose.{Rose, node, Roses, none, more, kids_of, roses_depth}
use Rattle.values.specs.Layouts.{AreLayouts}
use Rattle.field_types.specs.Kinds.{may_have, kind_of_type}
use Rattle.values.specs.Logical.{NamedType, AreLogical, tree_of, trees_of}
use Rattle.field_types.specs.StoredLaws.{kids_count}
use Rattle.values.specs.declared.col_type.ColType.{ColType}
use Rattle.field_types.proofs.Children.{children-fit}
use Rattle.schema_meta.specs.Entry.{Entry}
use Rattle.schema_meta.specs.FieldLayouts.{layout_of, layouts_below, layouts_of}
use Rattle.values.specs.Coded.{is_coded, utf8}
use Rattle.schema_meta.specs.SchemaTree.{column_tables, field_tables, AreWithin}
use Rattle.schema_meta.specs.SchemaLaw.{coded_from, coded_fields, stored_field, stored_below, stored_fields}

-- the fields below one of this type, nested to at most this many levels
pub record Sound (depth : ℕ) (parent : ColType) (fs : Roses NamedType) : Type 0 where
  pub within : AreWithin fs
  pub logical : AreLogical parent fs
  pub layouts : AreLayouts (trees_of fs)
  pub shallow : roses_depth fs ≤ depth

max-left : (a b d : ℕ) → max a b ≤ d → a ≤ d
max-left a b d h = omega (arith, h)

max-right : (a b d : ℕ) → max a b ≤ d → b ≤ d
max-right a b d h = omega (arith, h)

pub no-level : (p : ColType) (f : Rose NamedType) (fs : Roses NamedType) → ¬ (Sound 0 p (more f fs))
no-level p (node f kids) fs s =
    let first = max-left (suc (roses_depth kids)) (roses_depth fs) 0 s.shallow in
    absurd (omega (arith, first))

pub sound-below :
    (depth : ℕ) (p : ColType) (f : NamedType) (kids fs : Roses NamedType) → Sound (suc depth) p (more (node f kids) fs)
    → Sound depth f.col_type kids
sound-below depth p f kids fs s =
    let first = max-left (suc (roses_depth kids)) (roses_depth fs) (suc depth) s.shallow in
    record { within = s.within.0.2; logical = s.logical.0.3; layouts = s.layouts.0.1; shallow = omega (arith, first) }

pub sound-rest :
    (depth : ℕ) (p : ColType) (f : NamedType) (kids fs : Roses NamedType) → Sound depth p (more (node f kids) fs)
    → Sound depth p fs
sound-rest depth p f kids fs s =
    record {
      within = s.within.1;
      logical = s.logical.1;
      layouts = s.layouts.1;
      shallow = max-right (suc (roses_depth kids)) (roses_depth fs) depth s.shallow;
    }

-- children

trees-count : (fs : Roses NamedType) → kids_count (trees_of fs) ≡ kids_count fs
trees-count none = refl
trees-count (more f fs) = ap suc (trees-count fs)

pub tables-count : (fs : Roses NamedType) → count (field_tables fs) ≡ kids_count fs
tables-count none = refl
tables-count (more f fs) = let rest = tables-count fs in omega (arith, rest)

pub may-have :
    (depth : ℕ) (p : ColType) (f : NamedType) (kids fs : Roses NamedType) → Sound depth p (more (node f kids) fs)
    → may_have (kind_of_type f.col_type) (kids_count kids) ≡ true
may-have depth p f kids fs s =
    let P : ℕ → Type 0 = λ n. may_have (kind_of_type f.col_type) n ≡ true in
    subst P (trees-count kids) ((children-fit f.col_type s.within.0.1 (trees_of kids)).0 s.layouts.0.0)

pub columns-count : (coded : List ℕ) (j : ℕ) (fs : List (Rose NamedType))
    → count (column_tables coded j fs) ≡ kids_count (kids_of fs)
columns-count coded j [] = refl
columns-count coded j (node f kids ∷ fs) = let rest = columns-count coded (suc j) fs in omega (arith, rest)

-- of the columns from position j on, those that are coded hold texts
abbrev pub TextsFrom : List ℕ → ℕ → List (Rose NamedType) → Type 0
TextsFrom coded j [] = Unit {0}
TextsFrom coded j (node f kids ∷ fs) = (is_coded coded j ≡ true → f.col_type ≡ utf8) × TextsFrom coded (suc j) fs

-- what is read, as a list

abbrev pub entries : Roses NamedType → List (Rose Entry)
entries none = []
entries (more f fs) = stored_field f ∷ entries fs

pub entries-below : (fs : Roses NamedType) → kids_of (entries fs) ≡ stored_below fs
entries-below none = refl
entries-below (more f fs) = ap (λ r. more (stored_field f) r) (entries-below fs)

-- layouts

mutual
  layout-stored : (f : Rose NamedType) → layout_of (stored_field f) ≡ tree_of f
  layout-stored (node f kids) = rw (layouts-stored kids) refl

  layouts-stored : (fs : Roses NamedType) → layouts_below (stored_below fs) ≡ trees_of fs
  layouts-stored none = refl
  layouts-stored (more f fs) = rw (layout-stored f, layouts-stored fs) refl

pub layouts-read : (fs : List (Rose NamedType)) → layouts_of (stored_fields fs) ≡ trees_of (kids_of fs)
layouts-read [] = refl
layouts-read (f ∷ fs) = rw (layout-stored f, layouts-read fs) refl

layouts-coded : (coded : List ℕ) (j : ℕ) (fs : List (Rose NamedType))
    → layouts_of (coded_from coded j fs) ≡ trees_of (kids_of fs)
layouts-coded coded j [] = refl
layouts-coded coded j (node f kids ∷ fs) = rw (layouts-stored kids, layouts-coded coded (suc j) fs) refl

pub coded-layouts-read : (coded : List ℕ) (fs : List (Rose NamedType))
    → layouts_of (coded_fields coded fs) ≡ trees_of (kids_of fs)
coded-layouts-read coded fs = layouts-coded coded 0 fs
