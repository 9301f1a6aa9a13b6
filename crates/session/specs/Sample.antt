-- A configuration of two tables of two columns of whole numbers each, `k` and `v`, of which `k` is the key. A feed
-- `add` appends to the main table, `put` puts rows to the side table `s`, and `drop` retracts some. The view `t` has
-- both columns of the main table, `keys` its key, and `named` its key with the cells that are looked up in the side
-- table. And some states.
use Rattle.std.specs.Prelude.{ℕ, List, [], ◌∷◌, Option, None, Some, pos}
use Rattle.values.specs.Datum.{null, whole}
use Rattle.values.specs.Limits.{max_main_rows}
use Rattle.stream_writer.specs.Sample.{sample_fields}
use Rattle.feed.specs.Events.{Event as Message, batch}
use Rattle.view_lang.specs.Config.{Config, FeedConfig, SideTable, Table, View, tables_of}
use Rattle.view_lang.specs.Edits.{append, edit_at}
use Rattle.view_lang.specs.Limits.{max_side_rows}
use Rattle.view_lang.specs.Outputs.{Output, columns}
use Rattle.view_lang.specs.declared.config.Role.{Role}
use Rattle.view_lang.specs.declared.config.Role.TheVariants as role
use Rattle.view_lang.specs.declared.view.Lookup.{Lookup}
use Rattle.view_lang.specs.declared.view.Missing.TheVariants as missing
use Rattle.session.specs.Steps.{Past}

abbrev pub sample_main : Table
sample_main = record { key = 0; max_rows = max_main_rows; columns = sample_fields }

abbrev pub sample_side : SideTable
sample_side = record { name = 115 ∷ []; table = record { key = 0; max_rows = max_side_rows; columns = sample_fields } }

abbrev pub feed_named : List ℕ → Role → FeedConfig
feed_named name r = record { name = name; role = r }

abbrev pub add_feed : FeedConfig
add_feed = feed_named (97 ∷ 100 ∷ 100 ∷ []) role.Append

abbrev pub put_feed : FeedConfig
put_feed = feed_named (112 ∷ 117 ∷ 116 ∷ []) (role.Put 0)

abbrev pub drop_feed : FeedConfig
drop_feed = feed_named (100 ∷ 114 ∷ 111 ∷ 112 ∷ []) (role.Drop 0)

abbrev pub sample_feeds : List FeedConfig
sample_feeds = add_feed ∷ put_feed ∷ drop_feed ∷ []

abbrev pub output : ℕ → ℕ → Output
output letter column = record { name = letter ∷ []; column = column }

abbrev pub plain_view : List ℕ → Option Lookup → List Output → View
plain_view name l outputs =
    record {
      name = name;
      lookup = l;
      filter = None;
      outputs = columns outputs;
      order = [];
      first = None;
      coded_outputs = [];
    }

abbrev pub both_view : View
both_view = plain_view (116 ∷ []) None (output 107 0 ∷ output 118 1 ∷ [])

abbrev pub keys_view : View
keys_view = plain_view (107 ∷ 101 ∷ 121 ∷ 115 ∷ []) None (output 107 0 ∷ [])

abbrev pub sample_lookup : Lookup
sample_lookup = record { side = 0; on = 0; missing = missing.Drop; columns = 2 }

abbrev pub named_view : View
named_view = plain_view (110 ∷ 97 ∷ 109 ∷ 101 ∷ 100 ∷ []) (Some sample_lookup) (output 107 0 ∷ output 118 3 ∷ [])

abbrev pub sample_views : List View
sample_views = both_view ∷ keys_view ∷ named_view ∷ []

abbrev pub sample_config : Config
sample_config =
    record {
      main = sample_main;
      sides = sample_side ∷ [];
      feeds = sample_feeds;
      views = sample_views;
    }

abbrev pub sample_tables : List Table
sample_tables = tables_of sample_config

-- a message of two rows, and one that names the second key again
abbrev pub two_rows : Message
two_rows = batch ((whole (pos 1) ∷ whole (pos 2) ∷ []) ∷ (whole (pos 10) ∷ null ∷ []) ∷ []) 2 40

abbrev pub row_again : Message
row_again = batch ((whole (pos 3) ∷ whole (pos 2) ∷ []) ∷ (null ∷ null ∷ []) ∷ []) 2 40

-- the past once the first is accepted
abbrev pub after_two : Past
after_two =
    record {
      edits = edit_at 0 (append ((whole (pos 1) ∷ whole (pos 10) ∷ []) ∷ (whole (pos 2) ∷ null ∷ []) ∷ [])) ∷ [];
      depth = 1;
    }
