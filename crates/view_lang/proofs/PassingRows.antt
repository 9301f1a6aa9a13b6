-- Rows of which a filter is true, taken one after the other.
use Rattle.std.proofs.Common.{◌≡◌, Bool, true, false, List, [], ◌∷◌, ◌++◌, filter, sym, ap, ◌∙◌, append_assoc}
use Rattle.std.specs.Prelude.{Vec}
use Rattle.std.specs.declared.alloc.Global.{Global}
use Rattle.std.proofs.lemmas.List.{map_push}
use Rattle.values.specs.Datum.{Datum}
use Rattle.view_lang.specs.Cells.{rows_of}

pub passing_row :
    (p : List Datum → Bool) (kept next rest left : List (Vec Datum Global)) (row : Vec Datum Global)
    (w : List (List Datum)) → rest ≡ row ∷ left → next ≡ kept ++ row ∷ [] → p row.items ≡ true
    → rows_of kept ++ filter p (rows_of rest) ≡ w → rows_of next ++ filter p (rows_of left) ≡ w
passing_row p kept next rest left row w is pushed true_of so_far =
    ap (λ l. rows_of l ++ filter p (rows_of left)) pushed
    ∙ ap (λ l. l ++ filter p (rows_of left)) (map_push (λ (v : Vec Datum Global). v.items) kept row)
    ∙ append_assoc (rows_of kept) (row.items ∷ []) (filter p (rows_of left))
    ∙ rw true_of at (ap (λ l. rows_of kept ++ filter p (rows_of l)) (sym is) ∙ so_far)

pub left_row :
    (p : List Datum → Bool) (kept rest left : List (Vec Datum Global)) (row : Vec Datum Global)
    (w : List (List Datum)) → rest ≡ row ∷ left → p row.items ≡ false
    → rows_of kept ++ filter p (rows_of rest) ≡ w → rows_of kept ++ filter p (rows_of left) ≡ w
left_row p kept rest left row w is false_of so_far =
    rw false_of at (ap (λ l. rows_of kept ++ filter p (rows_of l)) (sym is) ∙ so_far)

pub ruleset passing_steps = (passing_row, left_row)
