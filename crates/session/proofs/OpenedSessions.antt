-- A session as it is opened.
use Rattle.std.proofs.Common.{
  ◌≡◌,
  Bool,
  ℕ,
  ◌+◌,
  ◌<◌,
  All,
  Some,
  List,
  [],
  ◌∷◌,
  ◌++◌,
  drop,
  length,
  get_or,
  map,
  take,
  refl,
  ap,
  sym,
  subst,
  ◌∙◌,
  add-one,
  arith,
}
use Rattle.std.proofs.Math.Seq.{take-suc}
use Rattle.std.proofs.lemmas.List.{length-map, map-append}
use Rattle.std.proofs.lemmas.List.Elements.{All-cons, All-get_or, All-map}
use Rattle.values.specs.Logical.{NamedType}
use Rattle.values.specs.Rose.{Rose}
use Rattle.feed.specs.Shown.{FeedParts, Shows as FeedShows}
use Rattle.feed.specs.States.{fresh}
use Rattle.view_lang.specs.Config.{Config, FeedConfig, SideTable, Table, View, tables_of}
use Rattle.view_lang.specs.ConfigRules.{IsConfig, IsFeed, IsView}
use Rattle.view_lang.specs.Contents.{no_contents}
use Rattle.view_lang.specs.Edits.{table_of}
use Rattle.view_lang.specs.Limits.{max_undo_depth}
use Rattle.view_lang.specs.TableRules.{IsSideTable, IsTable}
use Rattle.view_lang.specs.ViewColumns.{feed_columns, view_columns}
use Rattle.view_lang.specs.World.{world}
use Rattle.view_lang.specs.declared.config.Role.{Role}
use Rattle.row_keys.specs.Slots.{live}
use Rattle.row_keys.specs.Store.{Store, no_rows}
use Rattle.upkeep.specs.LiveParts.{AreOf, LiveParts}
use Rattle.upkeep.specs.Stores.{rows_at, rows_in, tables_in, world_of}
use Rattle.session.specs.Shows.{
  AreShown,
  IsSession,
  SessionParts,
  Shows,
  ShowsChannel,
  ShowsEach,
  config_of,
  named_sides,
}
use Rattle.session.specs.Steps.{Channel, opened, start}
use Rattle.session.specs.declared.link.Link.{Link}
use Rattle.session.specs.declared.undo.UndoRecord.{UndoRecord}

each_more :
    (tables : List Table) (ls : List Link) (cs : List Channel) (l : Link) (c : Channel) → ShowsEach tables ls cs
    → ShowsChannel tables l c
    → ShowsEach tables (ls ++ l ∷ []) (cs ++ c ∷ [])
each_more tables [] [] l c h s = (s, tt)
each_more tables [] (d ∷ cs) l c h s = absurd h
each_more tables (m ∷ ls) [] l c h s = absurd h
each_more tables (m ∷ ls) (d ∷ cs) l c h s = (h.0, each_more tables ls cs l c h.1 s)

channel_opened :
    (tables : List Table) (role : Role) (plan : FeedConfig) (fields : List (Rose NamedType)) (f : FeedParts)
    → role ≡ plan.role
    → fields ≡ feed_columns tables role → FeedShows f (fresh (Some fields)) → table_of plan.role < length tables
    → ShowsChannel tables (record { role = role; feed = f }) (opened tables plan)
channel_opened tables role plan fields f same columns shown there =
    let is : fields ≡ feed_columns tables plan.role = columns ∙ ap (feed_columns tables) same in
    record {
      role = same;
      there = there;
      feed = subst (λ (fs : List (Rose NamedType)). FeedShows f (fresh (Some fs))) is shown;
      declared = refl;
    }

pub one_opened :
    (tables : List Table) (feeds : List FeedConfig) (i : ℕ) (ls ms : List Link) (role : Role) (plan : FeedConfig)
    (fields : List (Rose NamedType))
    (f : FeedParts) → ShowsEach tables ls (map (opened tables) (take i feeds)) → i < length feeds
    → plan ≡ get_or feeds i plan → role ≡ plan.role
    → fields ≡ feed_columns tables role → FeedShows f (fresh (Some fields)) → table_of plan.role < length tables
    → ms ≡ ls ++ record { role = role; feed = f } ∷ []
    → ShowsEach tables ms (map (opened tables) (take (i + 1) feeds))
one_opened tables feeds i ls ms role plan fields f so_far below is same columns shown there more =
    let next : take (i + 1) feeds ≡ take i feeds ++ plan ∷ [] =
    ap (λ n. take n feeds) (add-one i) ∙ take-suc feeds i plan below ∙ ap (λ x. take i feeds ++ x ∷ []) (sym is) in
    let channels : map (opened tables) (take (i + 1) feeds) ≡ map (opened tables) (take i feeds) ++ opened tables plan
    ∷ [] =
    ap (map (opened tables)) next ∙ map-append (opened tables) (take i feeds) (plan ∷ []) in
    let l : Link = record { role = role; feed = f } in
    let made : ShowsEach tables (ls ++ l ∷ []) (map (opened tables) (take i feeds) ++ opened tables plan ∷ []) =
    each_more tables ls (map (opened tables) (take i feeds)) l (opened tables plan) so_far
    (channel_opened tables role plan fields f same columns shown there) in
    let placed : ShowsEach tables ms (map (opened tables) (take i feeds) ++ opened tables plan ∷ []) =
    subst (λ (xs : List Link). ShowsEach tables xs (map (opened tables) (take i feeds) ++ opened tables plan ∷ []))
    (sym more)
    made in
    subst (λ (cs : List Channel). ShowsEach tables ms cs) (sym channels) placed

-- the tables of a configuration, without rows

abbrev pub empty_stores : Config → List Store
empty_stores conf = no_rows conf.main ∷ map (λ s. no_rows s.table) conf.sides

sides_empty : (sides : List SideTable) → tables_in (map (λ s. no_rows s.table) sides) ≡ map (λ s. s.table) sides
sides_empty [] = refl
sides_empty (s ∷ ss) = ap (λ ts. s.table ∷ ts) (sides_empty ss)

tables_empty : (conf : Config) → tables_in (empty_stores conf) ≡ tables_of conf
tables_empty conf = ap (λ ts. conf.main ∷ ts) (sides_empty conf.sides)

none_there : (sides : List SideTable)
    → world_of (rows_in (map (λ s. no_rows s.table) sides)) ≡ map (λ _. no_contents) (map (λ s. s.table) sides)
unfolding live
none_there [] = refl
none_there (s ∷ ss) = ap (λ w. no_contents ∷ w) (none_there ss)

world_empty : (conf : Config) → world_of (rows_in (empty_stores conf)) ≡ world (tables_of conf) []
unfolding live world
world_empty conf = ap (λ w. no_contents ∷ w) (none_there conf.sides)

names_given : (sides : List SideTable) → named_sides (map (λ s. s.name) sides) (map (λ s. s.table) sides) ≡ sides
names_given [] = refl
names_given (s ∷ ss) = ap (λ xs. s ∷ xs) (names_given ss)

abbrev pub opened_parts : Config → List (List ℕ) → List Link → LiveParts → List UndoRecord → SessionParts
opened_parts conf names links tables records =
    record { sides = names; feeds = conf.feeds; links = links; tables = tables; records = records }

-- those tables, and the views of the configuration
abbrev pub opened_tables : Config → List Bool → LiveParts
opened_tables conf stale = record { stores = empty_stores conf; views = conf.views; stale = stale }

tables_are : (conf : Config) (tables : LiveParts) → tables.stores ≡ empty_stores conf → tables.views ≡ conf.views
    → tables ≡ opened_tables conf tables.stale
tables_are conf tables stores views =
    ap (λ ss. record { stores = ss; views = tables.views; stale = tables.stale }) stores
    ∙ ap (λ vs. record { stores = empty_stores conf; views = vs; stale = tables.stale }) views

pub opened_config :
    (conf : Config) (names : List (List ℕ)) (links : List Link) (tables : LiveParts) (records : List UndoRecord)
    → names ≡ map (λ s. s.name) conf.sides → tables.stores ≡ empty_stores conf → tables.views ≡ conf.views
    → config_of (opened_parts conf names links tables records) ≡ conf
opened_config conf names links tables records named stores views =
    ap (λ ts. config_of (opened_parts conf names links ts records)) (tables_are conf tables stores views)
    ∙ ap (λ ns. config_of (opened_parts conf ns links (opened_tables conf tables.stale) records)) named
    ∙ ap (λ ts. record {
      main = conf.main;
      sides = named_sides (map (λ s. s.name) conf.sides) ts;
      feeds = conf.feeds;
      views = conf.views;
    })
    (sides_empty conf.sides)
    ∙ ap (λ ss. record { main = conf.main; sides = ss; feeds = conf.feeds; views = conf.views })
    (names_given conf.sides)

links_opened :
    (tables : List Table) (links : List Link) (feeds : List FeedConfig)
    → ShowsEach tables links (map (opened tables) feeds) → map (λ l. l.role) links ≡ map (λ f. f.role) feeds
links_opened tables [] [] h = refl
links_opened tables [] (f ∷ fs) h = absurd h
links_opened tables (l ∷ ls) [] h = absurd h
links_opened tables (l ∷ ls) (f ∷ fs) h =
    ap (λ r. r ∷ map (λ (x : Link). x.role) ls) h.0.role ∙ ap (λ rs. f.role ∷ rs) (links_opened tables ls fs h.1)

names_counted : (conf : Config) (names : List (List ℕ)) → names ≡ map (λ s. s.name) conf.sides
    → length names ≡ length (drop 1 (tables_in (empty_stores conf)))
names_counted conf names named =
    ap length named ∙ length-map conf.sides (λ (s : SideTable). s.name)
    ∙ sym (length-map conf.sides (λ (s : SideTable). s.table)) ∙ sym (ap length (sides_empty conf.sides))

pub opened_shown :
    (conf : Config) (names : List (List ℕ)) (links : List Link) (tables : LiveParts) (records : List UndoRecord)
    → names ≡ map (λ s. s.name) conf.sides → tables.stores ≡ empty_stores conf → tables.views ≡ conf.views
    → records ≡ []
    → ShowsEach (tables_of conf) links (map (opened (tables_of conf)) conf.feeds)
    → Shows (opened_parts conf names links tables records) (start conf)
opened_shown conf names links tables records named stores views none each =
    let P : List Table → Type 0 = λ ts. ShowsEach ts links (map (opened (tables_of conf)) conf.feeds) in
    let Q : List Table → Type 0 = λ ts. world_of (rows_in (empty_stores conf)) ≡ world ts [] in
    let given : LiveParts = opened_tables conf tables.stale in
    let begun : Shows (opened_parts conf names links given []) (start conf) =
    record {
      main = omega arith;
      sides = names_counted conf names named;
      links = links_opened (tables_of conf) links conf.feeds each;
      past = record { holds = record { same = subst Q (sym (tables_empty conf)) (world_empty conf) }; depth = refl };
      channels = subst P (sym (tables_empty conf)) each;
    } in
    let filled : Shows (opened_parts conf names links given records) (start conf) =
    subst (λ (rs : List UndoRecord). Shows (opened_parts conf names links given rs) (start conf)) (sym none) begun in
    subst (λ (ts : LiveParts). Shows (opened_parts conf names links ts records) (start conf))
    (sym (tables_are conf tables stores views)) filled

sides_right : (sides : List SideTable) → All (λ s. IsTable s.table) sides → All IsTable (map (λ s. s.table) sides)
sides_right sides right = All-map IsTable (λ (s : SideTable). s.table) sides (λ k d below. right k d below)

sides_bounded : (sides : List SideTable) → All (λ s. IsSideTable s.table) sides
    → All IsSideTable (map (λ s. s.table) sides)
sides_bounded sides bounded = All-map IsSideTable (λ (s : SideTable). s.table) sides (λ k d below. bounded k d below)

pub tables_right : (conf : Config) → IsConfig conf → All IsTable (tables_of conf)
tables_right conf right =
    All-cons IsTable conf.main (map (λ s. s.table) conf.sides) right.main (sides_right conf.sides right.sides)

pub opened_session :
    (conf : Config) (names : List (List ℕ)) (links : List Link) (tables : LiveParts) (records : List UndoRecord)
    (capacity : ℕ) (columns : List (List (Rose NamedType))) → IsConfig conf → capacity ≡ max_undo_depth
    → names ≡ map (λ s. s.name) conf.sides → tables.stores ≡ empty_stores conf → tables.views ≡ conf.views
    → records ≡ []
    → ShowsEach (tables_of conf) links (map (opened (tables_of conf)) conf.feeds)
    → columns ≡ map (view_columns (tables_of conf)) conf.views
    → IsSession (opened_parts conf names links tables records) capacity columns
opened_session conf names links tables records capacity columns right is named stores views none each shown =
    let P : List Table → Type 0 = λ ts. AreShown ts conf.views columns in
    let Q : List View → Type 0 = λ vs. AreShown (tables_in tables.stores) vs columns in
    record {
      capacity_is = is;
      views = subst Q (sym views)
          (subst P (sym (ap tables_in stores ∙ tables_empty conf)) (tables_right conf right, right.views, shown));
      some = (start conf, opened_shown conf names links tables records named stores views none each);
    }

-- the tables and views of a configuration, without rows
pub opened_right : (conf : Config) (stores : List Store) → IsConfig conf → stores ≡ empty_stores conf
    → AreOf stores conf.views
opened_right conf stores right empty =
    let P : List Table → Type 0 = λ ts. All IsTable ts × All IsSideTable (drop 1 ts) × All (IsView ts) conf.views in
    let own = subst P (sym (ap tables_in empty ∙ tables_empty conf))
    (tables_right conf right, sides_bounded conf.sides right.side_rows, right.views) in
    let many = ap length empty in
    record { main = omega (arith, many); right = own.0; sides = own.1; of_these = own.2 }

pub opened_none : (conf : Config) (stores : List Store) → stores ≡ empty_stores conf → rows_at (rows_in stores) 0 ≡ []
opened_none conf stores empty = ap (λ ss. rows_at (rows_in ss) 0) empty

-- what a feed or a view of a configuration names exists
pub feed_there :
    (conf : Config) (i : ℕ) (plan : FeedConfig) (role : Role) → IsConfig conf → i < length conf.feeds
    → plan ≡ get_or conf.feeds i plan → role ≡ plan.role → table_of role < length (tables_of conf)
feed_there conf i plan role right below is same =
    let there : table_of (get_or conf.feeds i plan).role < length (tables_of conf) =
    All-get_or (IsFeed (tables_of conf)) conf.feeds i plan below right.feeds in
    subst (λ r. table_of r < length (tables_of conf)) (sym (same ∙ ap (λ (f : FeedConfig). f.role) is)) there

pub view_there :
    (conf : Config) (i : ℕ) (v : View) → IsConfig conf → i < length conf.views → v ≡ get_or conf.views i v
    → IsView (tables_of conf) v
view_there conf i v right below is =
    subst (IsView (tables_of conf)) (sym is) (All-get_or (IsView (tables_of conf)) conf.views i v below right.views)

pub view_opened :
    (conf : Config) (i : ℕ) (v : View) (before after : List (List (Rose NamedType))) (fields : List (Rose NamedType))
    → before ≡ map (view_columns (tables_of conf)) (take i conf.views) → i < length conf.views
    → v ≡ get_or conf.views i v → fields ≡ view_columns (tables_of conf) v → after ≡ before ++ fields ∷ []
    → after ≡ map (view_columns (tables_of conf)) (take (i + 1) conf.views)
view_opened conf i v before after fields so_far below is named more =
    let f : View → List (Rose NamedType) = view_columns (tables_of conf) in
    more ∙ ap (λ xs. xs ++ fields ∷ []) so_far
    ∙ ap (λ x. map f (take i conf.views) ++ x ∷ []) (named ∙ ap f is)
    ∙ sym (ap (λ n. map f (take n conf.views)) (add-one i) ∙ ap (map f) (take-suc conf.views i v below)
    ∙ map-append f (take i conf.views) (get_or conf.views i v ∷ []))
