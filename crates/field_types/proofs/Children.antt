-- The number of children that a field may have is that of its layout.
use Rattle.std.proofs.Common.{◌≡◌, ℕ, suc, true, refl, arith}
use Rattle.std.specs.Prelude.{◌↔◌, ◌==◌}
use Rattle.values.specs.Rose.{Rose, Roses, none, more}
use Rattle.values.specs.Layouts.{IsNode}
use Rattle.values.specs.declared.layout.Layout.{Layout}
use Rattle.values.specs.declared.layout.Layout.TheVariants as layout
use Rattle.values.specs.declared.col_type.ColType.TheVariants as stored
use Rattle.values.specs.ColTypes.{layout_of}
use Rattle.field_types.specs.StoredLaws.{kids_count, ChildrenFit}

not-none : (n : ℕ) → ¬ ((suc n == 0) ≡ true)
not-none n h = grind arith

not-one : (n : ℕ) → ¬ ((suc (suc n) == 1) ≡ true)
not-one n h = grind arith

-- a layout without children
leaf : (l : Layout) (kids : Roses Layout) → IsNode l none
    → ((t : Rose Layout) (ts : Roses Layout) → ¬ (IsNode l (more t ts)))
    → IsNode l kids ↔ ((kids_count kids == 0) ≡ true)
leaf l none fits alone = (λ h. refl, λ h. fits)
leaf l (more t ts) fits alone = (λ h. absurd (alone t ts h), λ h. absurd (not-none (kids_count ts) h))

listed : (l : Layout) (kids : Roses Layout) → ((t : Rose Layout) → IsNode l (more t none)) → ¬ (IsNode l none) →
    ((t u : Rose Layout) (ts : Roses Layout) → ¬ (IsNode l (more t (more u ts))))
    → IsNode l kids ↔ ((kids_count kids == 1) ≡ true)
listed l none one some few = (λ h. absurd (some h), λ h. absurd (cc))
listed l (more t none) one some few = (λ h. refl, λ h. one t)
listed l (more t (more u ts)) one some few = (λ h. absurd (few t u ts h), λ h. absurd (not-one (kids_count ts) h))

pub children-fit : ChildrenFit
children-fit stored.Bool fit kids = leaf layout.Bool kids tt (λ t ts h. h)
children-fit (stored.Int w s) fit kids = leaf (layout.Int w s) kids tt (λ t ts h. h)
children-fit (stored.Decimal p s) fit kids = leaf (layout.Decimal p) kids fit.1 (λ t ts h. h)
children-fit (stored.Date u) fit kids = leaf (layout_of (stored.Date u)) kids tt (λ t ts h. h)
children-fit (stored.Time u) fit kids = leaf (layout_of (stored.Time u)) kids tt (λ t ts h. h)
children-fit (stored.Timestamp u z) fit kids = leaf (layout_of (stored.Timestamp u z)) kids tt (λ t ts h. h)
children-fit (stored.Duration u) fit kids = leaf (layout_of (stored.Duration u)) kids tt (λ t ts h. h)
children-fit (stored.Utf8 o) fit kids = leaf (layout.Utf8 o) kids tt (λ t ts h. h)
children-fit (stored.Binary o) fit kids = leaf (layout.Binary o) kids tt (λ t ts h. h)
children-fit (stored.FixedSizeBinary w) fit kids = leaf (layout.FixedSizeBinary w) kids tt (λ t ts h. h)
children-fit (stored.List o) fit kids = listed (layout.List o) kids (λ t. tt) (λ h. h) (λ t u ts h. h)
children-fit stored.Struct fit none = (λ h. refl, λ h. tt)
children-fit stored.Struct fit (more t ts) = (λ h. refl, λ h. tt)
