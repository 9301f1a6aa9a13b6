-- Rows that are in no sub-group.
use Rattle.std.proofs.Common.{◌≡◌, ℕ, Bool, true, false, cond, List, [], ◌∷◌, Option, None, Some, is_some, refl, ap, sym, subst, ◌∙◌, true≢false}
use Rattle.std.specs.BTreeMap.{is_at}
use Rattle.std.specs.Map.{lookup, remove_entry, values_of}
use Rattle.std.specs.Ordering.{nat_cmp}
use Rattle.values.specs.Datum.{Datum}
use Rattle.view_lang.specs.Shifts.{NumberedRows, row_at, with_at}
use Rattle.group_state.specs.Grouped.{Grouped}
use Rattle.group_state.specs.Groups.{Keeps}

absent_by : (b : Bool) (e : ℕ × List Datum) (es rest : NumberedRows) (o : Option (List Datum))
    → (o ≡ None → rest ≡ es) → cond b (Some e.1) o ≡ None → cond b es (e ∷ rest) ≡ e ∷ es
absent_by true e es rest o same some = absurd (true≢false (ap is_some some))
absent_by false e es rest o same none = ap (λ xs. e ∷ xs) (same none)

absent : (test : ℕ → Bool) (es : NumberedRows) → lookup test es ≡ None → remove_entry test es ≡ es
absent test [] h = refl
absent test (e ∷ es) h =
    absent_by (test e.0) e es (remove_entry test es) (lookup test es) (λ n. absent test es n) h

-- What is stored for the rows stays where no row is inserted, and none was there.
pub none_kept : (s : Grouped) (n : ℕ) (rows : NumberedRows) (row : Option (List Datum)) → row ≡ None → row_at n rows ≡ None
    → Keeps s (values_of rows) → Keeps s (values_of (with_at n row rows))
none_kept s n rows row none free kept =
    subst (λ (o : Option (List Datum)). Keeps s (values_of (with_at n o rows))) (sym none)
    (subst (λ (es : NumberedRows). Keeps s (values_of es)) (sym (absent (is_at (nat_cmp n)) rows free)) kept)

pub ruleset absent_laws = (none_kept)
