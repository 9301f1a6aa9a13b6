-- As many layouts as columns, and as fields.
use Rattle.std.proofs.Common.{◌≡◌, ℕ, ◌+◌, List, [], ◌∷◌, length, refl, ap, sym, ◌∙◌, arith}
use Rattle.std.specs.Prelude.{map}
use Rattle.std.proofs.lemmas.List.{length-map}
use Rattle.values.specs.Rose.{Rose, Roses, none, more, kids_of}
use Rattle.arrays.specs.Checked.{CheckedColumn}
use Rattle.schema_meta.specs.Entry.{Entry}
use Rattle.schema_meta.specs.FieldLayouts.{layouts_below, layouts_of}
use Rattle.feed.specs.Columns.{layouts_in}

abbrev count : {A : Type 0} → Roses A → ℕ
count none = 0
count (more t ts) = 1 + count ts

count-kids : {A : Type 0} (ts : List (Rose A)) → count (kids_of ts) ≡ length ts
count-kids [] = refl
count-kids (t ∷ ts) = let rest = count-kids ts in omega (arith, rest)

count-layouts : (fs : Roses Entry) → count (layouts_below fs) ≡ count fs
count-layouts none = refl
count-layouts (more f fs) = let rest = count-layouts fs in omega (arith, rest)

pub as-many : (columns : List CheckedColumn) (fs : List (Rose Entry)) → layouts_in columns ≡ layouts_of fs
    → length columns ≡ length fs
as-many columns fs e =
    sym (length-map columns (λ (c : CheckedColumn). c.layouts))
    ∙ sym (count-kids (map (λ (c : CheckedColumn). c.layouts) columns))
    ∙ ap count e ∙ count-layouts (kids_of fs) ∙ count-kids fs
