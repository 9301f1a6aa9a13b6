-- The configuration that a TOML document means, and the causes for which it means none.
use Rattle.std.specs.Prelude.{codes, ℕ, List, [], ◌∷◌}
use Rattle.toml.specs.Data.{Members}
use Rattle.toml.specs.Parse.{parse_document}
use Rattle.values.specs.Reading.{◌>>=◌, both, must}
use Rattle.view_lang.specs.Config.{Config, FeedConfig, SideTable, Table, View}
use Rattle.view_config.specs.Reading.{Reading}
use Rattle.view_config.specs.Tree.{only}
use Rattle.view_config.specs.Tables.{main_of}
use Rattle.view_config.specs.Sides.{sides_of}
use Rattle.view_config.specs.Feeds.{feeds_of}
use Rattle.view_config.specs.Views.{views_of}
use Rattle.view_config.specs.declared.faults.ConfigFault.TheVariants as fault

abbrev pub config_by : Table → List SideTable → List FeedConfig → List View → Config
config_by main sides feeds views = record { main = main; sides = sides; feeds = feeds; views = views }

-- [main], [side.NAME], [feed.NAME] and [view.NAME]
abbrev pub config_entries : List (List ℕ)
config_entries = codes "main" ∷ codes "side" ∷ codes "feed" ∷ codes "view" ∷ []

unfoldable pub config_of : Members → Reading Config
config_of ms = do
  _ ← only config_entries ms
  main ← main_of ms
  sides ← sides_of ms
  both (config_by main sides) (feeds_of sides ms) (views_of main sides ms)

-- what a text means
unfoldable pub text_means : List ℕ → Reading Config
text_means text = must fault.NotToml (parse_document text) >>= config_of
