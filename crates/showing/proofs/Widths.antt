-- How wide columns are.
use Rattle.std.proofs.Common.{◌≡◌, inl, inr, ℕ, List, [], ◌∷◌, ◌++◌, ◌+◌, ◌<◌, length, take, get_or, refl, ap, sym, subst, ◌∙◌, arith}
use Rattle.std.proofs.lemmas.List.{take_more}
use Rattle.values.specs.Datum.{Datum}
use Rattle.values.specs.Rose.{Rose}
use Rattle.schema_meta.specs.Entry.{Entry}
use Rattle.arrays.specs.Checked.{CheckedColumn}
use Rattle.showing.specs.Shown.{cell_in}
use Rattle.showing.specs.Tables.{AreNameWidths, IsAsWide, IsNameWidth, IsWider, cell_text, width_of}

pub names-more :
    (fs : List (Rose Entry)) (ws : List ℕ) (f : Rose Entry) (w : ℕ) → AreNameWidths fs ws → IsNameWidth f w
    → AreNameWidths (fs ++ f ∷ []) (ws ++ w ∷ [])
names-more [] [] f w are is = (is, refl)
names-more [] (v ∷ ws) f w are is = cc
names-more (g ∷ fs) [] f w are is = absurd are
names-more (g ∷ fs) (v ∷ ws) f w are is = (are.0, names-more fs ws f w are.1 is)

pub names-taken :
    (fs : List (Rose Entry)) (ws vs : List ℕ) (k : ℕ) (f : Rose Entry) (w : ℕ) → AreNameWidths (take k fs) ws
    → f ≡ get_or fs k f → k < length fs → IsNameWidth f w → vs ≡ ws ++ w ∷ []
    → AreNameWidths (take (k + 1) fs) vs
names-taken fs ws vs k f w are is below wide pushed =
    let more : AreNameWidths (take k fs ++ f ∷ []) (ws ++ w ∷ []) = names-more (take k fs) ws f w are wide in
    let taken : take (k + 1) fs ≡ take k fs ++ f ∷ [] =
    take_more fs k f below ∙ ap (λ x. take k fs ++ x ∷ []) (sym is) in
    subst (λ gs. AreNameWidths gs vs) (sym taken) (subst (AreNameWidths (take k fs ++ f ∷ [])) (sym pushed) more)

pub wider-none : (f : Rose Entry) (c : CheckedColumn) (w : ℕ) → IsWider f c 0 w w
wider-none f c w = (omega arith, inl refl)

pub wider-more :
    (f : Rose Entry) (c : CheckedColumn) (row w m n : ℕ) (d : Datum) → IsWider f c row w m → IsAsWide f d m n
    → d ≡ cell_in c row
    → IsWider f c (row + 1) w n
wider-more f c row w m n d so more here = (
  omega (arith, so.0, more.0),
  elim more.1 [
    | inl same ↦ elim so.1 [
      | inl first ↦ inl (same ∙ first)
      | inr found ↦ inr (found.0, omega (arith, found.1), same ∙ found.2)
    ]
    | inr wide ↦ inr (row, omega arith, wide ∙ ap (λ x. width_of (cell_text f x)) here)
  ],
)
