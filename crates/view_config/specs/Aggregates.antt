-- What a view of groups shows, by its word and the columns after it.
use Rattle.std.specs.Prelude.{codes, ℕ, ◌==◌, nat_le, Bool, true, false, Ok, Err, List, if◌then◌else◌}
use Rattle.std.specs.Str.{bytes_eq}
use Rattle.toml.specs.Data.{Items}
use Rattle.values.specs.Reading.{◌>>=◌, mapped, must, one}
use Rattle.values.specs.declared.col_type.ColType.{ColType}
use Rattle.values.specs.declared.col_type.ColType.TheVariants as col
use Rattle.view_lang.specs.Limits.{max_sum_precision}
use Rattle.view_lang.specs.TableRules.{type_of}
use Rattle.view_lang.specs.declared.aggregate.Aggregate.{Aggregate}
use Rattle.view_lang.specs.declared.aggregate.Aggregate.TheVariants as aggregate
use Rattle.view_config.specs.Numbers.{place_of}
use Rattle.view_config.specs.Reading.{Reading}
use Rattle.view_config.specs.Scope.{Column, Scope, ordered_reference, reference}
use Rattle.view_config.specs.Tree.{count_items, sole}
use Rattle.view_config.specs.declared.faults.ConfigFault.TheVariants as fault

abbrev pub sole_reference : Scope → Items → Reading Column
sole_reference s ds = must fault.Shape (sole ds) >>= reference s

abbrev pub sole_ordered : Scope → Items → Reading Column
sole_ordered s ds = must fault.Shape (sole ds) >>= ordered_reference s

-- a grouping column as an output, by its index among the grouping columns; the number must be that of one
abbrev pub key_of_group : List ℕ → ℕ → Reading Aggregate
key_of_group by n = mapped aggregate.Key (must fault.UnknownName (place_of 0 n by))

abbrev pub count_by : Scope → Items → Reading Aggregate
count_by s ds =
    if count_items ds == 0 then Ok aggregate.Count else mapped (λ c. aggregate.CountOf c.0) (sole_reference s ds)

abbrev pub can_be_summed : ColType → Bool
can_be_summed (col.Int w s) = true
can_be_summed (col.Decimal p s) = nat_le p max_sum_precision
can_be_summed t = false

abbrev pub sum_of_column : Column → Reading Aggregate
sum_of_column c = if can_be_summed (type_of c.1) then Ok (aggregate.Sum c.0) else Err (one fault.SumType)

unfoldable pub aggregate_by : Scope → List ℕ → List ℕ → Items → Reading Aggregate
aggregate_by s by w ds =
    if bytes_eq w (codes "col") then (sole_reference s ds >>= λ c. key_of_group by c.0)
    else if bytes_eq w (codes "count") then count_by s ds
    else if bytes_eq w (codes "distinct") then mapped (λ c. aggregate.Distinct c.0) (sole_ordered s ds)
    else if bytes_eq w (codes "sum") then sole_reference s ds >>= sum_of_column
    else if bytes_eq w (codes "least") then mapped (λ c. aggregate.Least c.0) (sole_ordered s ds)
    else if bytes_eq w (codes "greatest") then mapped (λ c. aggregate.Greatest c.0) (sole_ordered s ds)
    else Err (one fault.Shape)
