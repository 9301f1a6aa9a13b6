-- Apache Arrow Message.fbs: the slots of its tables, numbered in the order of their fields, where a union takes two,
-- and the numbers of its unions.
use Rattle.std.specs.Prelude.{ℕ}

-- table Message
abbrev pub version : ℕ
version = 0

abbrev pub header_kind : ℕ
header_kind = 1

abbrev pub header : ℕ
header = 2

abbrev pub body_length : ℕ
body_length = 3

-- table RecordBatch
abbrev pub batch_length : ℕ
batch_length = 0

abbrev pub nodes : ℕ
nodes = 1

abbrev pub buffers : ℕ
buffers = 2

abbrev pub compression : ℕ
compression = 3

-- table DictionaryBatch
abbrev pub dictionary_id : ℕ
dictionary_id = 0

abbrev pub batch_data : ℕ
batch_data = 1

abbrev pub is_delta : ℕ
is_delta = 2

-- union MessageHeader
abbrev pub header_schema : ℕ
header_schema = 1

abbrev pub header_dictionary_batch : ℕ
header_dictionary_batch = 2

abbrev pub header_record_batch : ℕ
header_record_batch = 3
