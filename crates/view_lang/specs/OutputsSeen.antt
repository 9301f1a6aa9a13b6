-- The `Outputs` as which contracts see outputs in memory.
use Rattle.view_lang.specs.Outputs.{Outputs, columns, groups}
use Rattle.view_lang.specs.declared.view.Outputs.{Outputs as Stored}
use Rattle.view_lang.specs.declared.view.Outputs.TheVariants.{Columns, Groups}

abbrev pub outputs_of : Stored → Outputs
outputs_of (Columns outputs) = columns outputs.items
outputs_of (Groups by outputs having) = groups by.items outputs.items having
