-- Feeds, each with its role.
use Rattle.std.specs.Prelude.{codes, ℕ, Ok, Err, List, [], ◌∷◌, if◌then◌else◌}
use Rattle.std.specs.Str.{bytes_eq}
use Rattle.toml.specs.Data.{Data, Members, get_member}
use Rattle.values.specs.Reading.{◌>>=◌, both, mapped, one}
use Rattle.view_config.specs.Entries.{each_entry, entry_name}
use Rattle.view_config.specs.Reading.{Reading}
use Rattle.view_config.specs.Sides.{side_called}
use Rattle.view_config.specs.Tree.{members_in, text_in, needed, only}
use Rattle.view_lang.specs.Config.{FeedConfig, SideTable}
use Rattle.view_lang.specs.Limits.{max_feeds}
use Rattle.view_lang.specs.declared.config.Role.{Role}
use Rattle.view_lang.specs.declared.config.Role.TheVariants as role
use Rattle.view_config.specs.declared.faults.ConfigFault.TheVariants as fault

-- A feed for rows of the main table names no side table.
abbrev pub sideless : Role → Members → Reading Role
sideless r ms = only (codes "role" ∷ []) ms >>= λ _. Ok r

-- the number of the side table that a feed changes
unfoldable pub side_number : List SideTable → Members → Reading ℕ
side_number sides ms = do
  name ← needed (codes "side") ms >>= text_in
  mapped (λ s. s.0) (side_called sides name)

unfoldable pub role_by : List SideTable → Members → List ℕ → Reading Role
role_by sides ms w =
    if bytes_eq w (codes "append") then sideless role.Append ms
    else if bytes_eq w (codes "retract") then sideless role.Retract ms
    else if bytes_eq w (codes "put") then mapped role.Put (side_number sides ms)
    else if bytes_eq w (codes "drop") then mapped role.Drop (side_number sides ms) else Err (one fault.Shape)

unfoldable pub role_of : List SideTable → Members → Reading Role
role_of sides ms = needed (codes "role") ms >>= text_in >>= role_by sides ms

-- [feed.NAME]
abbrev pub feed_entries : List (List ℕ)
feed_entries = codes "role" ∷ codes "side" ∷ []

abbrev pub feed_named : List ℕ → Role → FeedConfig
feed_named name r = record { name = name; role = r }

unfoldable pub feed_of : List SideTable → List ℕ → Data → Reading FeedConfig
feed_of sides key d = do
  ms ← members_in d
  _ ← only feed_entries ms
  both feed_named (entry_name key) (role_of sides ms)

-- at most 16 feeds
abbrev pub feeds_of : List SideTable → Members → Reading (List FeedConfig)
feeds_of sides ms = each_entry max_feeds (feed_of sides) (get_member (codes "feed") ms)
