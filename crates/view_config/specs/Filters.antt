-- The filters of views, as a configuration writes them.
use Rattle.std.specs.Prelude.{codes, ℕ, zero, suc, nat_lt, Option, None, Some, Ok, Err, List, if◌then◌else◌}
use Rattle.std.specs.Str.{bytes_eq}
use Rattle.toml.specs.Data.{Data, array, Items, no_items}
use Rattle.values.specs.Reading.{◌>>=◌, mapped, must, one, refused_if}
use Rattle.values.specs.declared.col_type.ColType.{ColType}
use Rattle.values.specs.contracts.col_type.ColTypePartialEq.TheImpl as equality
use Rattle.view_lang.specs.Filter.{Filter, all_of, compare, filter_size, negation, null_in, one_of, parts_of}
use Rattle.view_lang.specs.TableRules.{type_of}
use Rattle.view_lang.specs.declared.filter.Comparison.{Comparison}
use Rattle.view_lang.specs.declared.filter.Comparison.TheVariants as than
use Rattle.view_lang.specs.declared.filter.Operand.{Operand}
use Rattle.view_lang.specs.declared.filter.Operand.TheVariants as operand
use Rattle.view_config.specs.Constants.{constant_of}
use Rattle.view_config.specs.Limits.{max_filter_depth, max_filter_parts}
use Rattle.view_config.specs.Reading.{Reading}
use Rattle.view_config.specs.Scope.{Column, Scope, ordered_reference, reference}
use Rattle.view_config.specs.Tree.{each_item, headed, pair, sole}
use Rattle.view_config.specs.declared.faults.ConfigFault.TheVariants as fault

abbrev pub comparison_by : List ℕ → Option Comparison
comparison_by w =
    if bytes_eq w (codes "eq") then Some than.Equal else if bytes_eq w (codes "ne") then Some than.Different
    else if bytes_eq w (codes "lt") then Some than.Below else if bytes_eq w (codes "le") then Some than.AtMost
    else if bytes_eq w (codes "gt") then Some than.Above else if bytes_eq w (codes "ge") then Some than.AtLeast
    else None

-- Two columns that are compared have the same type.
abbrev pub alike : ColType → Column → Reading Operand
alike t c = if equality.ghosts.eq t (type_of c.1) then Ok (operand.Column c.0) else Err (one fault.ConstantType)

-- what a column of this type is compared with: an array is a reference, all else a constant
unfoldable pub operand_of : Scope → ColType → Data → Reading Operand
operand_of s t (array ds) = ordered_reference s (array ds) >>= alike t
operand_of s t d = mapped operand.Constant (constant_of t d)

-- [op, REF, X]
unfoldable pub comparison_of : Scope → Comparison → Items → Reading Filter
comparison_of s c ds = do
  parts ← must fault.Shape (pair ds)
  column ← ordered_reference s parts.0
  mapped (compare c column.0) (operand_of s (type_of column.1) parts.1)

-- ["is_null", REF]
unfoldable pub null_of : Scope → Items → Reading Filter
null_of s ds = do
  d ← must fault.Shape (sole ds)
  mapped (λ c. null_in c.0) (reference s d)

-- `below` reads a filter inside this one.

-- ["not", F]
unfoldable pub negation_of : (Data → Reading Filter) → Items → Reading Filter
negation_of below ds = must fault.Shape (sole ds) >>= λ d. mapped negation (below d)

-- the parts of ["and", F, ...] and of ["or", F, ...], one or more
abbrev pub filters_in : (Data → Reading Filter) → Items → Reading (List Filter)
filters_in below no_items = Err (one fault.Shape)
filters_in below ds = each_item below ds

abbrev pub conjunction : List Filter → Filter
conjunction fs = all_of (parts_of fs)

abbrev pub disjunction : List Filter → Filter
disjunction fs = one_of (parts_of fs)

unfoldable pub filter_by : Scope → (Data → Reading Filter) → List ℕ → Items → Reading Filter
filter_by s below w ds =
    if bytes_eq w (codes "not") then negation_of below ds
    else if bytes_eq w (codes "and") then mapped conjunction (filters_in below ds)
    else if bytes_eq w (codes "or") then mapped disjunction (filters_in below ds)
    else if bytes_eq w (codes "is_null") then null_of s ds
    else (must fault.Shape (comparison_by w) >>= λ c. comparison_of s c ds)

unfoldable pub filter_with : Scope → (Data → Reading Filter) → Data → Reading Filter
filter_with s below (array ds) = must fault.Shape (headed ds) >>= λ p. filter_by s below p.0 p.1
filter_with s below d = Err (one fault.Shape)

-- A filter nested to at most this many levels. What lies deeper isn't read.
unfoldable pub filter_of : ℕ → Scope → Data → Reading Filter
filter_of zero s d = Err (one fault.OverLimit)
filter_of (suc depth) s d = filter_with s (filter_of depth s) d

-- A filter consists of at most 256 filters, itself among them.
unfoldable pub whole_filter : Scope → Data → Reading Filter
whole_filter s d = do
  f ← filter_of max_filter_depth s d
  _ ← refused_if fault.OverLimit (nat_lt max_filter_parts (filter_size f))
  Ok f
