-- A session, taken apart.
use Rattle.std.specs.Prelude.{◌≤◌, length, map, string_bytes}
use Rattle.view_lang.specs.Limits.{max_undo_depth}
use Rattle.upkeep.specs.TablesParts.{AreLiveParts, live_with}
use Rattle.session.specs.Shows.{IsSession, SessionParts, columns_of}
use Rattle.session.specs.declared.parts.SessionParts.{SessionParts as Taken}

-- what contracts see of the session that has these parts
abbrev pub session_with : Taken → SessionParts
session_with p =
    record {
      sides = map string_bytes p.sides.items;
      feeds = p.feeds.items;
      links = p.links.items;
      tables = live_with p.tables;
      records = p.records.items;
    }

-- They are those of a session: it represents some state, and each view is stale, or what is stored for it is computed
-- from the live rows of the stores.
pub record AreParts (p : Taken) : Type 0 where
  pub tables : AreLiveParts p.tables
  pub few : length p.records.items ≤ max_undo_depth
  pub session : IsSession (session_with p) max_undo_depth (columns_of p.schemas.items)
