-- Which outputs of a view are written with dictionaries.
use Rattle.std.specs.Prelude.{ℕ, Option, None, Some, Ok, Err, List, [], length, filter, if◌then◌else◌}
use Rattle.std.specs.List.{range_with_len}
use Rattle.toml.specs.Data.{as_str, Data}
use Rattle.values.specs.Logical.{NamedType}
use Rattle.values.specs.Reading.{◌>>=◌, must, one}
use Rattle.values.specs.Rose.{Rose}
use Rattle.view_lang.specs.TableRules.{type_of}
use Rattle.view_config.specs.Columns.{find, is_text}
use Rattle.view_config.specs.Outputs.{distinct_numbers}
use Rattle.view_config.specs.Numbers.{is_number_in}
use Rattle.view_config.specs.Reading.{Reading}
use Rattle.view_config.specs.Scope.{Column}
use Rattle.view_config.specs.Tree.{each_item, items_in}
use Rattle.view_config.specs.declared.faults.ConfigFault.TheVariants as fault

-- a column that must hold texts
abbrev pub coded : Column → Reading ℕ
coded c = if is_text (type_of c.1) then Ok c.0 else Err (one fault.DictType)

-- the output of a name
unfoldable pub coded_output : List (Rose NamedType) → Data → Reading ℕ
coded_output outputs d = do
  name ← must fault.Shape (as_str d)
  output ← must fault.UnknownName (find 0 name outputs)
  coded output

-- those of the numbers below n that are among these
abbrev pub ascending : List ℕ → ℕ → List ℕ
ascending ns n = filter (is_number_in ns) (range_with_len 0 n)

-- dict: outputs by their names, none of them twice, whatever their order
unfoldable pub dict_of : List (Rose NamedType) → Data → Reading (List ℕ)
dict_of outputs d = do
  ds ← items_in d
  ns ← each_item (coded_output outputs) ds
  _ ← distinct_numbers ns
  Ok (ascending ns (length outputs))

abbrev pub dict_in : List (Rose NamedType) → Option Data → Reading (List ℕ)
dict_in outputs None = Ok []
dict_in outputs (Some d) = dict_of outputs d
