-- The cause of a stream's fault: the one of its name.
use Rattle.values.specs.declared.causes.Cause.{Cause}
use Rattle.values.specs.declared.causes.Cause.TheVariants as cause
use Rattle.values.specs.declared.faults.StreamFault.{StreamFault}
use Rattle.values.specs.declared.faults.StreamFault.TheVariants as fault

abbrev pub cause_of : StreamFault → Cause
cause_of fault.NoContinuation = cause.NoContinuation
cause_of fault.BadSize = cause.BadSize
cause_of fault.BadTable = cause.BadTable
cause_of fault.BadName = cause.BadName
cause_of fault.Version = cause.Version
cause_of fault.HeaderKind = cause.HeaderKind
cause_of fault.BodySize = cause.BodySize
cause_of fault.NoSchema = cause.NoSchema
cause_of fault.SecondSchema = cause.SecondSchema
cause_of fault.BigEndian = cause.BigEndian
cause_of fault.UnsupportedType = cause.UnsupportedType
cause_of fault.BadType = cause.BadType
cause_of fault.TooManyFields = cause.TooManyFields
cause_of fault.Compressed = cause.Compressed
cause_of fault.DictionaryClash = cause.DictionaryClash
cause_of fault.UnknownDictionary = cause.UnknownDictionary
cause_of fault.DictionaryTooLarge = cause.DictionaryTooLarge
cause_of fault.NodeCount = cause.NodeCount
cause_of fault.BufferCount = cause.BufferCount
cause_of fault.BadLength = cause.BadLength
cause_of fault.BufferRange = cause.BufferRange
cause_of fault.BufferShort = cause.BufferShort
cause_of fault.NullCount = cause.NullCount
cause_of fault.Offsets = cause.Offsets
cause_of fault.NotUtf8 = cause.NotUtf8
cause_of fault.DictionaryIndex = cause.DictionaryIndex
cause_of fault.DecimalRange = cause.DecimalRange
cause_of fault.SchemaMismatch = cause.SchemaMismatch
cause_of fault.AfterEnd = cause.AfterEnd
cause_of fault.Truncated = cause.Truncated
cause_of fault.Memory = cause.Memory
