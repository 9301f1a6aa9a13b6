-- A field of a schema, and the fields below it.
use Rattle.values.specs.Rose.{Rose, node, Roses}
use Rattle.schema_meta.specs.Entry.{Entry}

abbrev pub entry : Rose Entry → Entry
entry (node e kids) = e

abbrev pub below : Rose Entry → Roses Entry
below (node e kids) = kids
