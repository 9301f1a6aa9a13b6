-- The numbers and names of the causes, as they are printed: 1 to 30 refuse a stream, 41 to 45 an edit, 51 to 56 a call,
-- and 61 to 70 a configuration.
use Rattle.std.specs.Prelude.{ℕ, List, codes}
use Rattle.values.specs.declared.causes.Cause.{Cause}
use Rattle.values.specs.declared.causes.Cause.TheVariants as cause

-- the number and the name, in one table
abbrev pub printed : Cause → ℕ × List ℕ
printed cause.NoContinuation = (1, codes "NoContinuation")
printed cause.BadSize = (2, codes "BadSize")
printed cause.BadTable = (3, codes "BadTable")
printed cause.BadName = (4, codes "BadName")
printed cause.Version = (5, codes "Version")
printed cause.HeaderKind = (6, codes "HeaderKind")
printed cause.BodySize = (7, codes "BodySize")
printed cause.NoSchema = (8, codes "NoSchema")
printed cause.SecondSchema = (9, codes "SecondSchema")
printed cause.BigEndian = (10, codes "BigEndian")
printed cause.UnsupportedType = (11, codes "UnsupportedType")
printed cause.BadType = (12, codes "BadType")
printed cause.TooManyFields = (13, codes "TooManyFields")
printed cause.Compressed = (14, codes "Compressed")
printed cause.DictionaryClash = (15, codes "DictionaryClash")
printed cause.UnknownDictionary = (16, codes "UnknownDictionary")
printed cause.DictionaryTooLarge = (17, codes "DictionaryTooLarge")
printed cause.NodeCount = (18, codes "NodeCount")
printed cause.BufferCount = (19, codes "BufferCount")
printed cause.BadLength = (20, codes "BadLength")
printed cause.BufferRange = (21, codes "BufferRange")
printed cause.BufferShort = (22, codes "BufferShort")
printed cause.NullCount = (23, codes "NullCount")
printed cause.Offsets = (24, codes "Offsets")
printed cause.NotUtf8 = (25, codes "NotUtf8")
printed cause.DictionaryIndex = (26, codes "DictionaryIndex")
printed cause.DecimalRange = (27, codes "DecimalRange")
printed cause.SchemaMismatch = (28, codes "SchemaMismatch")
printed cause.AfterEnd = (29, codes "AfterEnd")
printed cause.Truncated = (30, codes "Truncated")
printed cause.NullKey = (41, codes "NullKey")
printed cause.DuplicateKey = (42, codes "DuplicateKey")
printed cause.UnknownKey = (43, codes "UnknownKey")
printed cause.TooManyRows = (44, codes "TooManyRows")
printed cause.CellTooHeavy = (45, codes "CellTooHeavy")
printed cause.NothingToUndo = (51, codes "NothingToUndo")
printed cause.FeedBroken = (52, codes "FeedBroken")
printed cause.UnknownFeed = (53, codes "UnknownFeed")
printed cause.UnknownView = (54, codes "UnknownView")
printed cause.Memory = (55, codes "Memory")
printed cause.Device = (56, codes "Device")
printed cause.NotToml = (61, codes "NotToml")
printed cause.UnknownName = (62, codes "UnknownName")
printed cause.DuplicateColumn = (63, codes "DuplicateColumn")
printed cause.TypeText = (64, codes "TypeText")
printed cause.ConstantType = (65, codes "ConstantType")
printed cause.SumType = (66, codes "SumType")
printed cause.OrderType = (67, codes "OrderType")
printed cause.OverLimit = (68, codes "OverLimit")
printed cause.Shape = (69, codes "Shape")
printed cause.DictType = (70, codes "DictType")

abbrev pub number_of : Cause → ℕ
number_of c = (printed c).0

abbrev pub name_of : Cause → List ℕ
name_of c = (printed c).1
