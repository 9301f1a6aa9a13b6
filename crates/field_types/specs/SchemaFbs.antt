-- Apache Arrow Schema.fbs: the slots of its tables, numbered in the order of their fields, where a union takes two, and
-- the numbers of its unions and enums.
use Rattle.std.specs.Prelude.{ℕ}

-- table Schema
abbrev pub endianness : ℕ
endianness = 0

abbrev pub fields : ℕ
fields = 1

-- table Field
abbrev pub name : ℕ
name = 0

abbrev pub nullable : ℕ
nullable = 1

abbrev pub type_kind : ℕ
type_kind = 2

abbrev pub type_table : ℕ
type_table = 3

abbrev pub dictionary : ℕ
dictionary = 4

abbrev pub children : ℕ
children = 5

-- table DictionaryEncoding
abbrev pub dictionary_id : ℕ
dictionary_id = 0

abbrev pub index_type : ℕ
index_type = 1

abbrev pub dictionary_kind : ℕ
dictionary_kind = 3

-- table Int
abbrev pub bit_width : ℕ
bit_width = 0

abbrev pub is_signed : ℕ
is_signed = 1

-- table Decimal
abbrev pub precision : ℕ
precision = 0

abbrev pub scale : ℕ
scale = 1

abbrev pub decimal_bits : ℕ
decimal_bits = 2

-- tables Date, Time, Timestamp and Duration
abbrev pub unit : ℕ
unit = 0

-- table Time
abbrev pub time_bits : ℕ
time_bits = 1

-- table Timestamp
abbrev pub timezone : ℕ
timezone = 1

-- table FixedSizeBinary
abbrev pub byte_width : ℕ
byte_width = 0

-- union Type
abbrev pub type_int : ℕ
type_int = 2

abbrev pub type_binary : ℕ
type_binary = 4

abbrev pub type_utf8 : ℕ
type_utf8 = 5

abbrev pub type_bool : ℕ
type_bool = 6

abbrev pub type_decimal : ℕ
type_decimal = 7

abbrev pub type_date : ℕ
type_date = 8

abbrev pub type_time : ℕ
type_time = 9

abbrev pub type_timestamp : ℕ
type_timestamp = 10

abbrev pub type_list : ℕ
type_list = 12

abbrev pub type_struct : ℕ
type_struct = 13

abbrev pub type_fixed_size_binary : ℕ
type_fixed_size_binary = 15

abbrev pub type_duration : ℕ
type_duration = 18

abbrev pub type_large_binary : ℕ
type_large_binary = 19

abbrev pub type_large_utf8 : ℕ
type_large_utf8 = 20

abbrev pub type_large_list : ℕ
type_large_list = 21

-- enum MetadataVersion
abbrev pub v4 : ℕ
v4 = 3

abbrev pub v5 : ℕ
v5 = 4

-- enum Endianness
abbrev pub little_endian : ℕ
little_endian = 0

-- enum DictionaryKind
abbrev pub dense_array : ℕ
dense_array = 0
