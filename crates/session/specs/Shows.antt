-- Which states a session in memory represents.
use Rattle.std.specs.Prelude.{◌≡◌, ℕ, ◌<◌, All, List, [], ◌∷◌, Some, drop, length, map, refl, slice_set}
use Rattle.std.specs.Coded.{Coded, code_by, coded×, coded_ℕ, coded_list}
use Rattle.feed.specs.Shown.{Shows as FeedShows}
use Rattle.values.specs.Logical.{NamedType}
use Rattle.values.specs.Rose.{Rose}
use Rattle.values.specs.declared.schema.Schema.{Schema}
use Rattle.view_lang.specs.Config.{Config, FeedConfig, SideTable, Table, View, feed_code}
use Rattle.view_lang.specs.ConfigRules.{IsView}
use Rattle.view_lang.specs.Edits.{Edit, table_of}
use Rattle.view_lang.specs.Limits.{max_undo_depth}
use Rattle.view_lang.specs.TableRules.{IsTable}
use Rattle.view_lang.specs.ViewColumns.{feed_columns, view_columns}
use Rattle.view_lang.specs.World.{table_at, world}
use Rattle.upkeep.specs.LiveParts.{LiveParts, live_code}
use Rattle.upkeep.specs.Stores.{Rows, rows_at, rows_in, tables_in, world_of}
use Rattle.row_keys.specs.TableChanges.{CanGoBack, IsChangeOf, back}
use Rattle.session.specs.Steps.{Channel, Past, State}
use Rattle.session.specs.contracts.link.Link as link_type
use Rattle.session.specs.contracts.undo.UndoRecord as record_type
use Rattle.session.specs.declared.calls.Step.{Step}
use Rattle.session.specs.declared.calls.Step.TheVariants as step
use Rattle.session.specs.declared.link.Link.{Link}
use Rattle.session.specs.declared.undo.UndoRecord.{UndoRecord}

-- the rows once an accepted edit is undone
abbrev pub before : UndoRecord → Rows → Rows
before r rows = slice_set rows r.table (back r.change (rows_at rows r.table))

abbrev pub CanUndo : List Table → UndoRecord → Rows → Type 0
CanUndo tables r rows =
    (r.table < length rows) × IsChangeOf r.table r.change
    × CanGoBack (table_at tables r.table) r.change (rows_at rows r.table)

-- The rows are the world that the edits leave.
pub record AreWorld (tables : List Table) (rows : Rows) (edits : List Edit) : Type 0 where
  pub same : world_of rows ≡ world tables edits

-- The same, and going back along the records the rows hold what remains of the edits, one less at each.
abbrev pub HoldsBack : List Table → Rows → List UndoRecord → List Edit → Type 0
HoldsBack tables rows [] edits = AreWorld tables rows edits
HoldsBack tables rows (r ∷ rs) [] = ⊥
HoldsBack tables rows (r ∷ rs) (e ∷ es) =
    AreWorld tables rows (e ∷ es) × CanUndo tables r rows × HoldsBack tables (before r rows) rs es

-- Whatever edits are held going back from the old rows along the records are held going back from the new ones along
-- those that remain.
abbrev pub StillHolds : List Table → Rows → List UndoRecord → Rows → List UndoRecord → Type 0
StillHolds tables old records new left =
    (edits : List Edit) → HoldsBack tables old records edits → HoldsBack tables new left edits

-- The newest record comes first.
pub record ShowsPast (tables : List Table) (rows : Rows) (records : List UndoRecord) (past : Past) : Type 0 where
  pub holds : HoldsBack tables rows records past.edits
  pub depth : past.depth ≡ length records

-- A feed of one of the tables represents its channel, of which these columns were declared.
pub record ShowsChannel (tables : List Table) (l : Link) (c : Channel) : Type 0 where
  pub role : l.role ≡ c.role
  pub there : table_of c.role < length tables
  pub feed : FeedShows l.feed c.fed
  pub declared : c.fed.declared ≡ Some (feed_columns tables c.role)

abbrev pub ShowsEach : List Table → List Link → List Channel → Type 0
ShowsEach tables [] [] = Unit {0}
ShowsEach tables [] (c ∷ cs) = ⊥
ShowsEach tables (l ∷ ls) [] = ⊥
ShowsEach tables (l ∷ ls) (c ∷ cs) = ShowsChannel tables l c × ShowsEach tables ls cs

-- The parts of a session: the names of its side tables, the declarations of its feeds, its feeds, its tables and views,
-- and the undo records of the latest edits.
pub record SessionParts : Type 0 where
  pub sides : List (List ℕ)
  pub feeds : List FeedConfig
  pub links : List Link
  pub tables : LiveParts
  pub records : List UndoRecord

abbrev pub session_parts : List (List ℕ) → List FeedConfig → List Link → LiveParts → List UndoRecord → SessionParts
session_parts sides feeds links tables records =
    record { sides = sides; feeds = feeds; links = links; tables = tables; records = records }

abbrev pub named_sides : List (List ℕ) → List Table → List SideTable
named_sides names [] = []
named_sides [] (t ∷ ts) = record { name = []; table = t } ∷ named_sides [] ts
named_sides (n ∷ ns) (t ∷ ts) = record { name = n; table = t } ∷ named_sides ns ts

-- its configuration
abbrev pub config_of : SessionParts → Config
config_of p =
    record {
      main = table_at (tables_in p.tables.stores) 0;
      sides = named_sides p.sides (drop 1 (tables_in p.tables.stores));
      feeds = p.feeds;
      views = p.tables.views;
    }

abbrev pub parts_code : Coded SessionParts
parts_code =
    code_by (List (List ℕ) × (List FeedConfig × (List Link × (LiveParts × List UndoRecord))))
    (coded× (coded_list (coded_list coded_ℕ))
    (coded× (coded_list feed_code)
    (coded× (coded_list link_type.the_row.coded)
    (coded× live_code (coded_list record_type.the_row.coded)))))
    (λ s. (s.sides, (s.feeds, (s.links, (s.tables, s.records)))))
    (λ p. record { sides = p.0; feeds = p.1.0; links = p.1.1.0; tables = p.1.1.1.0; records = p.1.1.1.1 })
    (λ _. refl)

-- A session represents a state. It has a main table, a name for each side table, and for each feed that is declared, in
-- order, a link with its role. It stores neither the edits nor the bytes that came.
pub record Shows (p : SessionParts) (s : State) : Type 0 where
  pub main : 0 < length p.tables.stores
  pub sides : length p.sides ≡ length (drop 1 (tables_in p.tables.stores))
  pub links : map (λ l. l.role) p.links ≡ map (λ f. f.role) p.feeds
  pub past : ShowsPast (tables_in p.tables.stores) (rows_in p.tables.stores) p.records s.past
  pub channels : ShowsEach (tables_in p.tables.stores) p.links s.channels

abbrev pub columns_of : List Schema → List (List (Rose NamedType))
columns_of schemas = map (λ s. s.fields.items) schemas

-- views of right tables, and their columns
abbrev pub AreShown : List Table → List View → List (List (Rose NamedType)) → Type 0
AreShown tables views columns =
    All IsTable tables × All (IsView tables) views × (columns ≡ map (view_columns tables) views)

-- What holds of each session: it represents some state, so each feed has its link, and the views are of its tables and
-- have these columns.
pub record IsSession (p : SessionParts) (capacity : ℕ) (columns : List (List (Rose NamedType))) : Type 0 where
  pub capacity_is : capacity ≡ max_undo_depth
  pub views : AreShown (tables_in p.tables.stores) p.tables.views columns
  pub some : (s : State) × Shows p s

-- From any state that is represented a call takes such a step, and what it leaves represents the state to which that
-- leads.
abbrev pub IsStep : SessionParts → (State → State → Type 0) → SessionParts → Type 0
IsStep old step new = (s : State) → Shows old s → (t : State) × step s t × Shows new t

-- the sink of a step is one of n
abbrev pub IsWithin : ℕ → Step → Type 0
IsWithin n (step.Write view sink) = sink < n
IsWithin n _ = Unit {0}
