-- Views over a few rows, and what they show.
use Rattle.std.specs.Prelude.{ℕ, pos, negsuc, List, [], ◌∷◌, codes, Option, None, Some}
use Rattle.values.specs.Datum.{Datum, null, text, whole}
use Rattle.view_lang.specs.Config.{View}
use Rattle.view_lang.specs.Filter.{Filter, compare, negation}
use Rattle.view_lang.specs.Joined.{Side, side_of}
use Rattle.view_lang.specs.Outputs.{GroupOutput, Output, Outputs, columns, groups}
use Rattle.view_lang.specs.declared.filter.Comparison.TheVariants as than
use Rattle.view_lang.specs.declared.filter.Operand.TheVariants as operand
use Rattle.view_lang.specs.declared.aggregate.Aggregate.{Aggregate}
use Rattle.view_lang.specs.declared.aggregate.Aggregate.TheVariants as aggregate
use Rattle.view_lang.specs.declared.view.Direction.{Direction}
use Rattle.view_lang.specs.declared.view.Direction.TheVariants as direction
use Rattle.view_lang.specs.declared.view.Lookup.{Lookup}
use Rattle.view_lang.specs.declared.view.Missing.{Missing}
use Rattle.view_lang.specs.declared.view.Missing.TheVariants as missing
use Rattle.view_lang.specs.declared.view.OrderBy.{OrderBy}

abbrev pub number : ℕ → Datum
number n = whole (pos n)

abbrev pub shown : ℕ → Output
shown k = record { name = codes "shown"; column = k }

abbrev pub made : Aggregate → GroupOutput
made a = record { name = codes "made"; aggregate = a }

abbrev pub view_by : Option Lookup → Option Filter → Outputs → List OrderBy → Option ℕ → View
view_by l f outputs order first = record {
  name = codes "view";
  lookup = l;
  filter = f;
  outputs = outputs;
  order = order;
  first = first;
  coded_outputs = [];
}

abbrev pub by_column : ℕ → Direction → List OrderBy
by_column k d = record { column = k; direction = d } ∷ []

abbrev pub no_side : Side
no_side _ = None

-- Numbers and amounts, of which one is null and one below zero. `not` of at least zero is true of the latter alone.

abbrev pub amounts : List (List Datum)
amounts = (number 1 ∷ number 5 ∷ []) ∷ (number 2 ∷ null ∷ []) ∷ (number 3 ∷ whole (negsuc 0) ∷ []) ∷ []

abbrev pub at_least_zero : Filter
at_least_zero = compare than.AtLeast 1 (operand.Constant (number 0))

abbrev pub not_at_least_zero : View
not_at_least_zero = view_by None (Some (negation at_least_zero)) (columns (shown 0 ∷ [])) [] None

-- Descending, with nulls last.

abbrev pub three_amounts : List (List Datum)
three_amounts = (null ∷ []) ∷ (number 3 ∷ []) ∷ (number 1 ∷ []) ∷ []

abbrev pub falling : Option ℕ → View
falling first = view_by None None (columns (shown 0 ∷ [])) (by_column 0 direction.Descending) first

-- Rows that tie stay in their order.

abbrev pub tied_rows : List (List Datum)
tied_rows = (number 1 ∷ number 5 ∷ []) ∷ (number 2 ∷ number 5 ∷ []) ∷ (number 3 ∷ number 5 ∷ []) ∷ []

abbrev pub first_two : View
first_two = view_by None None (columns (shown 0 ∷ shown 1 ∷ [])) (by_column 1 direction.Ascending) (Some 2)

-- Three rows of one group.

abbrev pub grouped_rows : List (List Datum)
grouped_rows =
    (number 1 ∷ text (codes "p") ∷ number 9 ∷ []) ∷ (number 2 ∷ text (codes "p") ∷ number 9 ∷ [])
    ∷ (number 3 ∷ text (codes "p") ∷ number 4 ∷ []) ∷ []

abbrev pub text_outputs : List GroupOutput
text_outputs =
    made (aggregate.Key 0) ∷ made aggregate.Count ∷ made (aggregate.Sum 2) ∷ made (aggregate.Greatest 2) ∷ []

abbrev pub by_text : View
by_text = view_by None None (groups (1 ∷ []) text_outputs None) [] None

-- Of two groups one has two distinct amounts. It alone is shown, and is the first row.

abbrev pub paired_rows : List (List Datum)
paired_rows =
    (number 4 ∷ text (codes "a") ∷ number 1 ∷ []) ∷ (number 5 ∷ text (codes "a") ∷ null ∷ []) ∷ grouped_rows

abbrev pub pair_outputs : List GroupOutput
pair_outputs = made (aggregate.Key 0) ∷ made aggregate.Count ∷ made (aggregate.Distinct 2) ∷ []

abbrev pub at_least_two : Filter
at_least_two = compare than.AtLeast 2 (operand.Constant (number 2))

abbrev pub first_pair : View
first_pair = view_by None None (groups (1 ∷ []) pair_outputs (Some at_least_two)) [] (Some 1)

-- Without grouping columns there is one row, also over none.

abbrev pub in_all : View
in_all = view_by None None (groups [] (made aggregate.Count ∷ made (aggregate.Sum 2) ∷ []) None) [] None

-- A side table with one row.

abbrev pub zones : Side
zones =
    side_of (record { key = 0; max_rows = 1; columns = [] })
    (record { live = (text (codes "p") ∷ text (codes "x") ∷ []) ∷ []; appended = 1 })

abbrev pub placed_rows : List (List Datum)
placed_rows = (number 1 ∷ text (codes "p") ∷ []) ∷ (number 2 ∷ text (codes "q") ∷ []) ∷ (number 3 ∷ null ∷ []) ∷ []

abbrev pub with_zones : Missing → View
with_zones m =
    view_by (Some (record { side = 0; on = 1; missing = m; columns = 2 })) None (columns (shown 0 ∷ shown 3 ∷ [])) []
    None

abbrev pub with_nulls : View
with_nulls = with_zones missing.Null

abbrev pub without_missing : View
without_missing = with_zones missing.Drop
