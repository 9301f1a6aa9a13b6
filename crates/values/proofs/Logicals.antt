-- The logical fields of any fields.
use Rattle.std.proofs.Common.{◌≡◌, ℕ, true, String, List, [], ◌∷◌, ◌++◌, map, refl, ap, sym, ◌∙◌}
use Rattle.std.specs.Prelude.{string_bytes}
use Rattle.std.specs.declared.alloc.Global.{Global}
use Rattle.std.specs.Str.{is_utf8}
use Rattle.std.proofs.lemmas.Str.{IsUtf8-string_bytes, is_utf8-from_IsUtf8}
use Rattle.std.proofs.lemmas.List.{map-append}
use Rattle.values.specs.Rose.{Rose, node, Roses, none, more, kids_of}
use Rattle.values.specs.Logical.{NamedType, child_name, narrow, logical_in, logical_below, IsLogical, AreLogical}
use Rattle.values.specs.declared.col_type.ColType.{ColType}
use Rattle.values.specs.declared.col_type.ColType.TheVariants as col

pub narrow-again : (s : ColType) → narrow (narrow s) ≡ narrow s
narrow-again col.Bool = refl
narrow-again (col.Int w s) = refl
narrow-again (col.Decimal p s) = refl
narrow-again (col.Date u) = refl
narrow-again (col.Time u) = refl
narrow-again (col.Timestamp u z) = refl
narrow-again (col.Duration u) = refl
narrow-again (col.Utf8 o) = refl
narrow-again (col.Binary o) = refl
narrow-again (col.FixedSizeBinary w) = refl
narrow-again (col.List o) = refl
narrow-again col.Struct = refl

pub child-again : (s : ColType) (name : List ℕ) → child_name s (child_name s name) ≡ child_name s name
child-again col.Bool name = refl
child-again (col.Int w s) name = refl
child-again (col.Decimal p s) name = refl
child-again (col.Date u) name = refl
child-again (col.Time u) name = refl
child-again (col.Timestamp u z) name = refl
child-again (col.Duration u) name = refl
child-again (col.Utf8 o) name = refl
child-again (col.Binary o) name = refl
child-again (col.FixedSizeBinary w) name = refl
child-again (col.List o) name = refl
child-again col.Struct name = refl

-- children are named alike below a type and below its narrow form
child-narrow : (s : ColType) (name : List ℕ) → child_name (narrow s) name ≡ child_name s name
child-narrow col.Bool name = refl
child-narrow (col.Int w s) name = refl
child-narrow (col.Decimal p s) name = refl
child-narrow (col.Date u) name = refl
child-narrow (col.Time u) name = refl
child-narrow (col.Timestamp u z) name = refl
child-narrow (col.Duration u) name = refl
child-narrow (col.Utf8 o) name = refl
child-narrow (col.Binary o) name = refl
child-narrow (col.FixedSizeBinary w) name = refl
child-narrow (col.List o) name = refl
child-narrow col.Struct name = refl

pub are-narrow : (s : ColType) (fs : Roses NamedType) → AreLogical s fs → AreLogical (narrow s) fs
are-narrow s none h = tt
are-narrow s (more (node f kids) fs) h = ((h.0.0, rw (child-narrow s f.name) h.0.1, h.0.2, h.0.3), are-narrow s fs h.1)

pub are-more : (s : ColType) (fs : List (Rose NamedType)) (f : Rose NamedType) → AreLogical s (kids_of fs)
    → IsLogical s f → AreLogical s (kids_of (fs ++ f ∷ []))
are-more s [] f h here = (here, tt)
are-more s (g ∷ fs) f h here = (h.0, are-more s fs f h.1 here)

-- one field more
pub logical-step :
    (s : ColType) (made new seen : List (Rose NamedType)) (f n : Rose NamedType) → new ≡ made ++ n ∷ []
    → n ≡ logical_in s f → IsLogical s n
    → (made ≡ map (logical_in s) seen) × AreLogical s (kids_of made)
    → (new ≡ map (logical_in s) (seen ++ f ∷ [])) × AreLogical s (kids_of new)
logical-step s made new seen f n is here logical before =
    let all : made ++ n ∷ [] ≡ map (logical_in s) (seen ++ f ∷ []) =
    rw (before.0, here) (sym (map-append (logical_in s) seen (f ∷ []))) in
    (is ∙ all, rw is (are-more s made n before.1 logical))

pub below-all : (s : ColType) (fs : List (Rose NamedType))
    → kids_of (map (logical_in s) fs) ≡ logical_below s (kids_of fs)
below-all s [] = refl
below-all s (f ∷ fs) = ap (λ r. more (logical_in s f) r) (below-all s fs)

-- what is logical already stays
mutual
  pub is-same : (s : ColType) (f : Rose NamedType) → IsLogical s f → logical_in s f ≡ f
  is-same s (node f kids) h = rw (h.1, h.2, are-same f.col_type kids h.3) refl

  pub are-same : (s : ColType) (fs : Roses NamedType) → AreLogical s fs → logical_below s fs ≡ fs
  are-same s none h = refl
  are-same s (more f fs) h = rw (is-same s f h.0, are-same s fs h.1) refl

pub is-text : (name : String Global) → is_utf8 (string_bytes name) ≡ true
is-text name = is_utf8-from_IsUtf8 (string_bytes name) (IsUtf8-string_bytes name)

pub ruleset logicals = (narrow-again, child-again, are-narrow, below-all, is-text)
