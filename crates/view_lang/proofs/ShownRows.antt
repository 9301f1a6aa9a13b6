-- Rows that a view shows, cell by cell and row by row.
use Rattle.std.proofs.Common.{◌≡◌, ℕ, ◌+◌, ◌<◌, List, [], ◌∷◌, ◌++◌, length, take, get_or, sym, ap, ◌∙◌}
use Rattle.std.proofs.lemmas.List.{take_more, map_push}
use Rattle.values.specs.Datum.{Datum}
use Rattle.view_lang.specs.Cells.{cell_at}
use Rattle.view_lang.specs.Outputs.{Output}
use Rattle.view_lang.specs.Views.{output_cell, shown_row}

pub cell_step :
    (outputs : List Output) (row : List Datum) (k : ℕ) (o d : Output) (e : Datum) (done next : List Datum)
    → o ≡ get_or outputs k d → k < length outputs → e ≡ cell_at row o.column → next ≡ done ++ e ∷ []
    → done ≡ shown_row (take k outputs) row → next ≡ shown_row (take (k + 1) outputs) row
cell_step outputs row k o d e done next is below here pushed so_far =
    pushed ∙ ap (λ l. l ++ e ∷ []) so_far
    ∙ ap (λ x. shown_row (take k outputs) row ++ x ∷ []) (here ∙ ap (output_cell row) is)
    ∙ sym (map_push (output_cell row) (take k outputs) (get_or outputs k d))
    ∙ ap (λ l. shown_row l row) (sym (take_more outputs k d below))

pub ruleset cell_steps = (cell_step)
