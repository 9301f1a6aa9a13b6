-- The columns of a batch: those of a schema, or one of a dictionary's values.
use Rattle.values.specs.Rose.{node, Roses, none, more}
use Rattle.values.specs.declared.layout.Layout.{Layout}
use Rattle.messages.specs.declared.columns.Columns.{Columns}
use Rattle.messages.specs.declared.columns.Columns.TheVariants as columns
use Rattle.schema_meta.specs.FieldLayouts.{slot_layouts_of}
use Rattle.schema_meta.specs.FieldsLaw.{AreFields}

-- the layouts of its arrays
abbrev pub layouts_wanted : Columns → Roses Layout
layouts_wanted (columns.Fields s) = slot_layouts_of s.now.fields.items
layouts_wanted (columns.Values l) = more (node l none) none

-- The fields of a schema meet the conditions that reading checks (`AreFields`).
abbrev pub AreRead : Columns → Type 0
AreRead (columns.Fields s) = AreFields s.now.fields.items
AreRead (columns.Values l) = Unit {0}
