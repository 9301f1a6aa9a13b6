-- What edits leave of the tables.
use Rattle.std.specs.Prelude.{ℕ, List, [], ◌∷◌, get_or, map, slice_set}
use Rattle.view_lang.specs.Config.{Table}
use Rattle.view_lang.specs.Contents.{Contents, applied, no_contents}
use Rattle.view_lang.specs.Edits.{Edit}

-- what each table holds, by number
abbrev pub World : Type 0
World = List Contents

-- the result where there is no table of a number
abbrev pub no_table : Table
no_table = record { key = 0; max_rows = 0; columns = [] }

abbrev pub table_at : List Table → ℕ → Table
table_at tables n = get_or tables n no_table

abbrev pub contents_at : World → ℕ → Contents
contents_at w n = get_or w n no_contents

-- the world after one more edit
abbrev pub edited : List Table → Edit → World → World
edited tables e w = slice_set w e.table (applied (table_at tables e.table) e.change (contents_at w e.table))

-- the world after these edits, of which the first is the newest
unfoldable pub world : List Table → List Edit → World
world tables [] = map (λ _. no_contents) tables
world tables (e ∷ es) = edited tables e (world tables es)
