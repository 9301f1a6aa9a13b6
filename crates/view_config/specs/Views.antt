-- The views of a configuration.
use Rattle.std.specs.Prelude.{codes, ℕ, ℤ, pos, nat_abs, int_le, ◌&&◌, Option, None, Some, Ok, Err, List, [], ◌∷◌}
use Rattle.std.specs.Prelude.{if◌then◌else◌, map}
use Rattle.std.specs.Str.{bytes_eq}
use Rattle.toml.specs.Data.{as_str, Data, integer, Members, get_member}
use Rattle.values.specs.Logical.{NamedType}
use Rattle.values.specs.Reading.{◌>>=◌, mapped, must, one}
use Rattle.values.specs.Rose.{Rose}
use Rattle.view_lang.specs.Config.{SideTable, Table, View}
use Rattle.view_lang.specs.Filter.{Filter}
use Rattle.view_lang.specs.Limits.{max_views}
use Rattle.view_lang.specs.Outputs.{Outputs, columns, groups}
use Rattle.view_lang.specs.ViewColumns.{output_fields}
use Rattle.view_lang.specs.declared.view.Direction.{Direction}
use Rattle.view_lang.specs.declared.view.Direction.TheVariants as direction
use Rattle.view_lang.specs.declared.view.Lookup.{Lookup}
use Rattle.view_lang.specs.declared.view.OrderBy.{OrderBy}
use Rattle.view_config.specs.Dict.{dict_in}
use Rattle.view_config.specs.Entries.{each_entry, entry_name}
use Rattle.view_config.specs.Filters.{whole_filter}
use Rattle.view_config.specs.Limits.{max_first}
use Rattle.view_config.specs.Lookups.{Looked, lookup_of}
use Rattle.view_config.specs.Outputs.{distinct_numbers, group_of, outputs_of}
use Rattle.view_config.specs.Reading.{Reading}
use Rattle.view_config.specs.Scope.{Scope, fields_of, group_scope, joined_scope}
use Rattle.view_config.specs.Tables.{key_of}
use Rattle.view_config.specs.Tree.{each_item, items_in, members_in, needed, only, pair_in}
use Rattle.view_config.specs.declared.faults.ConfigFault.TheVariants as fault

-- what an entry means that may be absent
abbrev pub perhaps : {X : Type 0} → (Data → Reading X) → Option Data → Reading (Option X)
perhaps f None = Ok None
perhaps f (Some d) = mapped (λ x. Some x) (f d)

-- having: a filter of rows of groups, which names outputs
unfoldable pub having_in : List (Rose NamedType) → Outputs → Option Data → Reading Outputs
having_in fields os None = Ok os
having_in fields (columns outputs) (Some d) = Err (one fault.Shape)
having_in fields (groups by outputs having) (Some d) =
    mapped (λ f. groups by outputs (Some f)) (whole_filter (group_scope fields) d)

-- order: outputs by their names, none of them twice
abbrev pub direction_by : List ℕ → Option Direction
direction_by w =
    if bytes_eq w (codes "asc") then Some direction.Ascending
    else if bytes_eq w (codes "desc") then Some direction.Descending else None

abbrev pub sorted_by : Direction → ℕ → OrderBy
sorted_by towards column = record { column = column; direction = towards }

-- [output name, "asc" or "desc"]
unfoldable pub order_by_of : List (Rose NamedType) → Data → Reading OrderBy
order_by_of outputs d = do
  parts ← must fault.Shape (pair_in d)
  name ← must fault.Shape (as_str parts.0)
  word ← must fault.Shape (as_str parts.1)
  towards ← must fault.Shape (direction_by word)
  mapped (sorted_by towards) (key_of outputs name)

abbrev pub numbers_of : List OrderBy → List ℕ
numbers_of os = map (λ o. o.column) os

unfoldable pub order_of : List (Rose NamedType) → Data → Reading (List OrderBy)
order_of outputs d = do
  ds ← items_in d
  os ← each_item (order_by_of outputs) ds
  _ ← distinct_numbers (numbers_of os)
  Ok os

abbrev pub order_in : List (Rose NamedType) → Option Data → Reading (List OrderBy)
order_in outputs None = Ok []
order_in outputs (Some d) = order_of outputs d

-- first: 0 to 2^24
abbrev pub first_within : ℤ → Reading ℕ
first_within n = if int_le (pos 0) n && int_le n (pos max_first) then Ok (nat_abs n) else Err (one fault.OverLimit)

abbrev pub first_of : Data → Reading ℕ
first_of (integer n) = first_within n
first_of d = Err (one fault.Shape)

-- [view.NAME]
abbrev pub view_entries : List (List ℕ)
view_entries =
    codes "lookup" ∷ codes "filter" ∷ codes "group" ∷ codes "columns" ∷ codes "having" ∷ codes "order"
    ∷ codes "first" ∷ codes "dict" ∷ []

abbrev pub view_named :
    List ℕ → Option Lookup → Option Filter → Outputs → List OrderBy → List ℕ → Option ℕ → View
view_named name lookup filter outputs order coded n = record {
  name = name;
  lookup = lookup;
  filter = filter;
  outputs = outputs;
  order = order;
  first = n;
  coded_outputs = coded;
}

-- the parts of a view that may name columns, once its lookup is read
unfoldable pub view_in : Scope → List ℕ → Option Lookup → Members → Reading View
view_in s name lookup ms = do
  filter ← perhaps (whole_filter s) (get_member (codes "filter") ms)
  group ← perhaps (group_of s) (get_member (codes "group") ms)
  all ← needed (codes "columns") ms >>= outputs_of s group
  outputs ← having_in (output_fields (fields_of s) all) all (get_member (codes "having") ms)
  order ← order_in (output_fields (fields_of s) outputs) (get_member (codes "order") ms)
  coded ← dict_in (output_fields (fields_of s) outputs) (get_member (codes "dict") ms)
  mapped (view_named name lookup filter outputs order coded) (perhaps first_of (get_member (codes "first") ms))

abbrev pub lookup_alone : Option Looked → Option Lookup
lookup_alone None = None
lookup_alone (Some l) = Some l.0

abbrev pub scope_of : Table → Option Looked → Scope
scope_of main None = joined_scope main.columns []
scope_of main (Some l) = joined_scope main.columns l.1.table.columns

unfoldable pub view_of : Table → List SideTable → List ℕ → Data → Reading View
view_of main sides key d = do
  ms ← members_in d
  _ ← only view_entries ms
  name ← entry_name key
  looked ← perhaps (lookup_of main sides) (get_member (codes "lookup") ms)
  view_in (scope_of main looked) name (lookup_alone looked) ms

-- at most 32 views of these tables
abbrev pub views_of : Table → List SideTable → Members → Reading (List View)
views_of main sides ms = each_entry max_views (view_of main sides) (get_member (codes "view") ms)
