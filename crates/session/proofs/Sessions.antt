-- The calls of a session as steps of the definition, by its parts.
use Rattle.std.proofs.Common.{
  ◌≡◌,
  ℕ,
  zero,
  suc,
  Bool,
  true,
  false,
  ◌<◌,
  ◌≤◌,
  Option,
  None,
  Some,
  Result,
  Err,
  List,
  [],
  ◌∷◌,
  drop,
  length,
  get_or,
  map,
  refl,
  ap,
  sym,
  subst,
  ◌∙◌,
  arith,
}
use Rattle.std.specs.Prelude.{slice_get, slice_set}
use Rattle.std.proofs.lemmas.List.{length-map}
use Rattle.std.proofs.lemmas.List.Elements.{All-get_or}
use Rattle.std.proofs.lemmas.Option.{slice_get-get_or}
use Rattle.values.specs.declared.causes.Cause.TheVariants as cause
use Rattle.stream_writer.specs.Sinks.{Sunk}
use Rattle.values.specs.Logical.{NamedType}
use Rattle.values.specs.Rose.{Rose}
use Rattle.view_lang.specs.Config.{FeedConfig, Table, View, tables_of}
use Rattle.view_lang.specs.Limits.{max_undo_depth}
use Rattle.view_lang.specs.World.{World, contents_at, table_at, world}
use Rattle.values.specs.declared.schema.Schema.{Schema}
use Rattle.view_lang.specs.ConfigRules.{IsView}
use Rattle.view_lang.specs.Contents.{Contents}
use Rattle.view_lang.specs.ViewColumns.{view_columns}
use Rattle.view_lang.specs.declared.config.Role.{Role}
use Rattle.feed.specs.States.{is_broken}
use Rattle.row_keys.specs.Slots.{Slot, live}
use Rattle.row_keys.specs.Store.{Store}
use Rattle.session.specs.Names.{place_of}
use Rattle.session.specs.Refusals.{refused}
use Rattle.session.specs.Changes.{Ended, EndsTo, Pushed, PushesTo}
use Rattle.upkeep.specs.LiveParts.{LiveParts, store_at, view_at}
use Rattle.upkeep.specs.Stores.{Rows, rows_at, rows_in, tables_in, world_of}
use Rattle.session.specs.Shows.{
  AreShown,
  AreWorld,
  IsSession,
  IsStep,
  SessionParts,
  Shows,
  ShowsChannel,
  ShowsEach,
  ShowsPast,
  columns_of,
  config_of,
  named_sides,
}
use Rattle.session.specs.Steps.{
  Channel,
  FinishBy,
  FinishStep,
  FinishTo,
  IsReadIfWhole,
  Past,
  PushBy,
  PushStep,
  PushTo,
  State,
  UndoTo,
  Undoes,
  WriteAnswers,
  WriteStep,
  WritesView,
  moved,
  stream_of,
  view_in,
}
use Rattle.session.specs.declared.calls.Fault.{Fault}
use Rattle.session.specs.declared.calls.Pushed.{Pushed as Came}
use Rattle.session.specs.declared.calls.ViewFault.{ViewFault}
use Rattle.session.specs.declared.link.Link.{Link}
use Rattle.session.specs.declared.undo.UndoRecord.{UndoRecord}
use Rattle.session.proofs.Channels.{each_get, each_none, each_set}
use Rattle.session.proofs.Pasts.{contents_there, holds_world}
use Rattle.upkeep.specs.StoreLaws.{at_mapped, rows_length, rows_there, tables_length}

abbrev pub parts : List (List ℕ) → List FeedConfig → List Link → LiveParts → List UndoRecord → SessionParts
parts sides feeds links tables records =
    record { sides = sides; feeds = feeds; links = links; tables = tables; records = records }

-- The tables of the configuration are those of the stores.

sides_named : (names : List (List ℕ)) (ts : List Table) → map (λ s. s.table) (named_sides names ts) ≡ ts
sides_named names [] = refl
sides_named [] (t ∷ ts) = ap (λ us. t ∷ us) (sides_named [] ts)
sides_named (n ∷ ns) (t ∷ ts) = ap (λ us. t ∷ us) (sides_named ns ts)

told : (names : List (List ℕ)) (ts : List Table) → 0 < length ts
    → table_at ts 0 ∷ map (λ s. s.table) (named_sides names (drop 1 ts)) ≡ ts
told names [] some = absurd (omega (arith, some))
told names (t ∷ ts) some = ap (λ us. t ∷ us) (sides_named names ts)

pub tables_told : (p : SessionParts) → 0 < length p.tables.stores → tables_of (config_of p) ≡ tables_in p.tables.stores
tables_told p some = let many = tables_length p.tables.stores in told p.sides (tables_in p.tables.stores) (omega
    (arith, many, some))

main_moved : (p q : SessionParts) → tables_in q.tables.stores ≡ tables_in p.tables.stores
    → 0 < length p.tables.stores → 0 < length q.tables.stores
main_moved p q same some =
    let one = tables_length p.tables.stores in
    let two = tables_length q.tables.stores in
    let equal = ap length same in
    omega (arith, one, two, equal, some)

-- The names of the side tables and the declarations of the feeds stay.
abbrev pub Declares : SessionParts → SessionParts → Type 0
Declares p q = (q.sides ≡ p.sides) × (q.feeds ≡ p.feeds)

sides_moved :
    (p q : SessionParts) → Declares p q → tables_in q.tables.stores ≡ tables_in p.tables.stores
    → length p.sides ≡ length (drop 1 (tables_in p.tables.stores))
    → length q.sides ≡ length (drop 1 (tables_in q.tables.stores))
sides_moved p q same tables named = ap length same.0 ∙ named ∙ sym (ap (λ ts. length (drop 1 ts)) tables)

abbrev roles_of : List Link → List Role
roles_of links = map (λ l. l.role) links

abbrev declared_roles : List FeedConfig → List Role
declared_roles feeds = map (λ f. f.role) feeds

links_moved :
    (p q : SessionParts) → Declares p q → roles_of q.links ≡ roles_of p.links
    → roles_of p.links ≡ declared_roles p.feeds → roles_of q.links ≡ declared_roles q.feeds
links_moved p q same roles linked = roles ∙ linked ∙ sym (ap declared_roles same.1)

-- a link replaced by one with its role
roles_set :
    (links : List Link) (k : ℕ) (l m : Link) → l ≡ get_or links k l → k < length links → m.role ≡ l.role
    → roles_of (slice_set links k m) ≡ roles_of links
roles_set [] k l m is below same = refl
roles_set (x ∷ xs) zero l m is below same = ap (λ r. r ∷ roles_of xs) (same ∙ ap (λ (y : Link). y.role) is)
roles_set (x ∷ xs) (suc k) l m is below same =
    ap (λ rs. x.role ∷ rs) (roles_set xs k l m is (omega (arith, below)) same)

-- Neither a push nor the end of an input changes the role of a channel.
push_role :
    (tables : List Table) (past next_past : Past) (c next : Channel) (b : Bool) (piece : List ℕ)
    (answer : Result Came Fault) → PushBy tables past c b piece answer next_past next → next.role ≡ c.role
push_role tables past next_past c next true piece answer h = ap (λ (x : Channel). x.role) h.2
push_role tables past next_past c next false [] answer h = ap (λ (x : Channel). x.role) h.2
push_role tables past next_past c next false (b ∷ bs) answer h = ap (λ (x : Channel). x.role) h.stream

finish_role :
    (c next : Channel) (b : Bool) (answer : Result (Unit {0}) Fault) → FinishBy c b answer next → next.role ≡ c.role
finish_role c next true answer h = ap (λ (x : Channel). x.role) h.1
finish_role c next false answer h = ap (λ (x : Channel). x.role) h.channel

-- A step that changes the state at a feed's index.
abbrev AtPlace : (ℕ → Option Channel → State → Type 0) → List (List ℕ) → List ℕ → State → State → Type 0
AtPlace claim names name s t = claim (place_of name names) (slice_get s.channels (place_of name names)) t

place_is :
    (claim : ℕ → Option Channel → State
    → Type 0) (names : List (List ℕ)) (name : List ℕ) (s t : State) (k : ℕ) (o : Option Channel)
    → k ≡ place_of name names → slice_get s.channels k ≡ o → claim k o t → AtPlace claim names name s t
place_is claim names name s t k o at is h =
    let here : claim k (slice_get s.channels k) t = subst (λ (x : Option Channel). claim k x t) (sym is) h in
    subst (λ (n : ℕ). claim n (slice_get s.channels n) t) at here

abbrev feed_names : SessionParts → List (List ℕ)
feed_names p = map (λ f. f.name) p.feeds

-- there is no feed of that name
pub push_unknown :
    (p : SessionParts) (name piece : List ℕ) (k : ℕ) (e : Fault) → k ≡ place_of name (map (λ f. f.name) p.feeds)
    → length p.links ≤ k
    → e ≡ refused cause.UnknownFeed → IsStep p (λ s t. PushStep (config_of p) s name piece (Err e) t) p
push_unknown p name piece k e at beyond saturated s shown =
    let none : slice_get s.channels k ≡ None = each_none (tables_in p.tables.stores) p.links s.channels k shown.channels
    beyond in (
      s,
      place_is (λ n o t. PushTo (tables_of (config_of p)) s n o piece (Err e) t) (feed_names p) name s s k None at none
          (ap (λ x. Err x) saturated, refl),
      shown,
    )

pub finish_unknown :
    (p : SessionParts) (name : List ℕ) (k : ℕ) (e : Fault) → k ≡ place_of name (map (λ f. f.name) p.feeds)
    → length p.links ≤ k
    → e ≡ refused cause.UnknownFeed → IsStep p (λ s t. FinishStep (config_of p) s name (Err e) t) p
finish_unknown p name k e at beyond saturated s shown =
    let none : slice_get s.channels k ≡ None = each_none (tables_in p.tables.stores) p.links s.channels k shown.channels
    beyond in (
      s,
      place_is (λ n o t. FinishTo s n o (Err e) t) (feed_names p) name s s k None at none (
        ap (λ x. Err x) saturated,
        refl,
      ),
      shown,
    )

-- what is represented with another channel at that index
channels_moved :
    (p q : SessionParts) (cs : List Channel) (k : ℕ) (m : Link) (d : Channel) → (tables_in q.tables.stores) ≡ (tables_in
    p.tables.stores)
    → q.links ≡ slice_set p.links k m
    → ShowsEach (tables_in p.tables.stores) p.links cs → ShowsChannel (tables_in p.tables.stores) m d
    → ShowsEach (tables_in q.tables.stores) q.links (slice_set cs k d)
channels_moved p q cs k m d table links shown feed =
    let made : ShowsEach (tables_in p.tables.stores) (slice_set p.links k m) (slice_set cs k d) =
    each_set (tables_in p.tables.stores) p.links cs k m d shown feed in
    let placed : ShowsEach (tables_in p.tables.stores) q.links (slice_set cs k d) =
    subst (λ (ls : List Link). ShowsEach (tables_in p.tables.stores) ls (slice_set cs k d)) (sym links) made in
    subst (λ (ts : List Table). ShowsEach ts q.links (slice_set cs k d)) (sym table) placed

past_moved :
    (t u : List Table) (slots : Rows) (records : List UndoRecord) (past : Past) → u ≡ t → ShowsPast t slots records past
    → ShowsPast u slots records past
past_moved t u slots records past same shown = subst (λ (x : List Table). ShowsPast x slots records past) (sym same)
    shown

-- the feed of that name represents a channel
pub link_shown :
    (p : SessionParts) (k : ℕ) (l : Link) → (s : State) × Shows p s → k < length p.links → l ≡ get_or p.links k l
    → (c : Channel) × ShowsChannel (tables_in p.tables.stores) l c
link_shown p k l some below is =
    let here = each_get (tables_in p.tables.stores) p.links some.0.channels k l some.1.channels below is in (
      here.0,
      here.2,
    )

pub push_known :
    (p q : SessionParts) (name piece : List ℕ) (k : ℕ) (l m : Link) (answer : Result Came Fault)
    → k ≡ place_of name (map (λ f. f.name) p.feeds)
    → k < length p.links → l ≡ get_or p.links k l
    → PushesTo (tables_in p.tables.stores) l (rows_in p.tables.stores) p.records piece answer m (rows_in
    q.tables.stores) q.records
    → (tables_in q.tables.stores) ≡ (tables_in p.tables.stores) → q.links ≡ slice_set p.links k m → Declares p q
    → IsStep p (λ s t. PushStep (config_of p) s name piece answer t) q
push_known p q name piece k l m answer at below is pushes table links declares s shown =
    let here = each_get (tables_in p.tables.stores) p.links s.channels k l shown.channels below is in
    let made : Pushed (tables_in p.tables.stores) s.past here.0 piece answer m (rows_in q.tables.stores) q.records =
    pushes s.past here.0 shown.past here.2 in
    let role : m.role ≡ l.role =
    made.feed.role
    ∙ push_role (tables_in p.tables.stores) s.past made.after here.0 made.channel (is_broken here.0.fed.condition) piece
    answer made.pushes
    ∙ sym here.2.role in
    let t : State = moved s k made.after made.channel in
    let goes : PushTo (tables_in p.tables.stores) s k (Some here.0) piece answer t =
    record { past = made.after; channel = made.channel; pushes = made.pushes; leads = refl } in
    let step : PushTo (tables_of (config_of p)) s k (Some here.0) piece answer t =
    subst (λ ts. PushTo ts s k (Some here.0) piece answer t) (sym (tables_told p shown.main)) goes in (
      t,
      place_is (λ n o u. PushTo (tables_of (config_of p)) s n o piece answer u) (feed_names p) name s t k (Some here.0)
          at here.1
          step,
      record {
        main = main_moved p q table shown.main;
        sides = sides_moved p q declares table shown.sides;
        links = links_moved p q declares (ap roles_of links ∙ roles_set p.links k l m is below role) shown.links;
        past = past_moved (tables_in p.tables.stores) (tables_in q.tables.stores) (rows_in q.tables.stores) q.records
            made.after table
            made.shows;
        channels = channels_moved p q s.channels k m made.channel table links shown.channels made.feed;
      },
    )

pub finish_known :
    (p q : SessionParts) (name : List ℕ) (k : ℕ) (l m : Link) (answer : Result (Unit {0}) Fault)
    → k ≡ place_of name (map (λ f. f.name) p.feeds)
    → k < length p.links → l ≡ get_or p.links k l → EndsTo l answer m → q.tables.stores ≡ p.tables.stores
    → q.records ≡ p.records
    → q.links ≡ slice_set p.links k m → Declares p q
    → IsStep p (λ s t. FinishStep (config_of p) s name answer t) q
finish_known p q name k l m answer at below is ends stores records links declares s shown =
    let here = each_get (tables_in p.tables.stores) p.links s.channels k l shown.channels below is in
    let made : Ended (tables_in p.tables.stores) here.0 answer m = ends (tables_in p.tables.stores) here.0 here.2 in
    let role : m.role ≡ l.role =
    made.feed.role ∙ finish_role here.0 made.channel (is_broken here.0.fed.condition) answer made.finishes
    ∙ sym here.2.role in
    let t : State = moved s k s.past made.channel in
    let table : tables_in q.tables.stores ≡ tables_in p.tables.stores = ap tables_in stores in
    let goes : FinishTo s k (Some here.0) answer t =
    record { channel = made.channel; finishes = made.finishes; leads = refl } in
    let rows : ShowsPast (tables_in p.tables.stores) (rows_in p.tables.stores) q.records s.past =
    subst (λ (rs : List UndoRecord). ShowsPast (tables_in p.tables.stores) (rows_in p.tables.stores) rs s.past) (sym
    records)
    shown.past in
    let slots : ShowsPast (tables_in p.tables.stores) (rows_in q.tables.stores) q.records s.past =
    subst (λ (ss : Rows). ShowsPast (tables_in p.tables.stores) ss q.records s.past) (sym (ap rows_in stores)) rows in (
      t,
      place_is (λ n o u. FinishTo s n o answer u) (feed_names p) name s t k (Some here.0) at here.1 goes,
      record {
        main = main_moved p q table shown.main;
        sides = sides_moved p q declares table shown.sides;
        links = links_moved p q declares (ap roles_of links ∙ roles_set p.links k l m is below role) shown.links;
        past = past_moved (tables_in p.tables.stores) (tables_in q.tables.stores) (rows_in q.tables.stores) q.records
            s.past table slots;
        channels = channels_moved p q s.channels k m made.channel table links shown.channels made.feed;
      },
    )

pub undo_known :
    (p q : SessionParts) (answer : Result (Unit {0}) Fault)
    → ((past : Past) → ShowsPast (tables_in p.tables.stores) (rows_in p.tables.stores) p.records past
    → (next : Past) × Undoes past answer next × ShowsPast (tables_in p.tables.stores) (rows_in q.tables.stores)
    q.records next)
    → (tables_in q.tables.stores) ≡ (tables_in p.tables.stores) → q.links ≡ p.links → Declares p q
    → IsStep p (λ s t. UndoTo s answer t) q
undo_known p q answer undoes table links declares s shown =
    let made = undoes s.past shown.past in
    let placed : ShowsEach (tables_in p.tables.stores) q.links s.channels =
    subst (λ (ls : List Link). ShowsEach (tables_in p.tables.stores) ls s.channels) (sym links) shown.channels in (
      record { past = made.0; channels = s.channels },
      (made.0, made.1, refl),
      record {
        main = main_moved p q table shown.main;
        sides = sides_moved p q declares table shown.sides;
        links = links_moved p q declares (ap roles_of links) shown.links;
        past = past_moved (tables_in p.tables.stores) (tables_in q.tables.stores) (rows_in q.tables.stores) q.records
            made.0 table made.2;
        channels = subst (λ (ts : List Table). ShowsEach ts q.links s.channels) (sym table) placed;
      },
    )

-- the rows are those of the edits
pub rows_shown :
    (p : SessionParts) (s : State) → Shows p s
    → world_of (rows_in p.tables.stores) ≡ world (tables_in p.tables.stores) s.past.edits
rows_shown p s shown =
    let held : AreWorld (tables_in p.tables.stores) (rows_in p.tables.stores) s.past.edits =
    holds_world (tables_in p.tables.stores) (rows_in p.tables.stores) p.records s.past.edits shown.past.holds in
    held.same

pub live_shown :
    (p : SessionParts) (s : State) (x : Store) (n : ℕ) → Shows p s → x ≡ get_or p.tables.stores 0 x
    → n ≡ length (live x.slots)
    → n ≡ length (contents_at (world (tables_of (config_of p)) s.past.edits) 0).live
live_shown p s x n shown is many =
    let rows : rows_at (rows_in p.tables.stores) 0 ≡ x.slots = rows_there p.tables.stores 0 x is shown.main in
    let have = rows_length p.tables.stores in
    many ∙ ap (λ (ss : List Slot). length (live ss)) (sym rows)
    ∙ ap (λ (c : Contents). length c.live) (sym (contents_there (rows_in p.tables.stores) 0 (omega (
      arith,
      have,
      shown.main,
    ))))
    ∙ ap (λ (w : World). length (contents_at w 0).live)
    (rows_shown p s shown ∙ ap (λ ts. world ts s.past.edits) (sym (tables_told p shown.main)))

-- nothing is claimed of what wasn't written whole
pub refused_read :
    (tables : List Table) (v : View) (w : World) (answer : Result ℕ ViewFault) (f : ViewFault) → answer ≡ Err f
    → IsReadIfWhole tables v w answer
refused_read tables v w answer f is = subst (IsReadIfWhole tables v w) (sym is) tt

pub write_known :
    (p q : SessionParts) (name : List ℕ) (k : ℕ) (v : View) (old new : Sunk) (answer : Result ℕ ViewFault)
    → k ≡ place_of name (map (λ x. x.name) p.tables.views) → k < length p.tables.views → v ≡ get_or p.tables.views k v
    → WriteAnswers old new answer (stream_of (tables_in p.tables.stores) v (world_of (rows_in p.tables.stores)))
    → IsReadIfWhole (tables_in p.tables.stores) v (world_of (rows_in p.tables.stores)) answer
    → (tables_in q.tables.stores) ≡ (tables_in p.tables.stores)
    → (rows_in q.tables.stores) ≡ (rows_in p.tables.stores) → q.links ≡ p.links → q.records ≡ p.records → Declares p q
    → IsStep p (λ s t. WriteStep (config_of p) s name old answer new × (t ≡ s)) q
write_known p q name k v old new answer at below is writes read table slots links records declares s shown =
    let found : slice_get p.tables.views k ≡ Some v = slice_get-get_or p.tables.views k v below
    ∙ ap (λ x. Some x) (sym is) in
    let there : view_in (config_of p) name ≡ Some v =
    subst (λ (n : ℕ). slice_get p.tables.views n ≡ Some v) at found in
    let rows : WriteAnswers old new answer (stream_of (tables_in p.tables.stores) v (world (tables_in p.tables.stores)
    s.past.edits))
    × IsReadIfWhole (tables_in p.tables.stores) v (world (tables_in p.tables.stores) s.past.edits) answer =
    subst (λ (w : World). WriteAnswers old new answer (stream_of (tables_in p.tables.stores) v w)
    × IsReadIfWhole (tables_in p.tables.stores) v w answer) (rows_shown p s shown) (writes, read) in
    let goes : WritesView (tables_in p.tables.stores) s.past (view_in (config_of p) name) old answer new =
    subst (λ (o : Option View). WritesView (tables_in p.tables.stores) s.past o old answer new) (sym there) rows in
    let step : WriteStep (config_of p) s name old answer new =
    subst (λ ts. WritesView ts s.past (view_in (config_of p) name) old answer new) (sym (tables_told p shown.main))
    goes in
    let past : ShowsPast (tables_in p.tables.stores) (rows_in p.tables.stores) q.records s.past =
    subst (λ (rs : List UndoRecord). ShowsPast (tables_in p.tables.stores) (rows_in p.tables.stores) rs s.past) (sym
    records)
    shown.past in
    let held : ShowsPast (tables_in p.tables.stores) (rows_in q.tables.stores) q.records s.past =
    subst (λ (ss : Rows). ShowsPast (tables_in p.tables.stores) ss q.records s.past) (sym slots) past in
    let placed : ShowsEach (tables_in p.tables.stores) q.links s.channels =
    subst (λ (ls : List Link). ShowsEach (tables_in p.tables.stores) ls s.channels) (sym links) shown.channels in (
      s,
      (step, refl),
      record {
        main = main_moved p q table shown.main;
        sides = sides_moved p q declares table shown.sides;
        links = links_moved p q declares (ap roles_of links) shown.links;
        past = past_moved (tables_in p.tables.stores) (tables_in q.tables.stores) (rows_in q.tables.stores) q.records
            s.past table held;
        channels = subst (λ (ts : List Table). ShowsEach ts q.links s.channels) (sym table) placed;
      },
    )

-- a view that exists, and its columns

pub view_there :
    (tables : List Table) (views : List View) (schemas : List Schema) (k : ℕ) (v : View)
    → AreShown tables views (columns_of schemas) → k < length views → v ≡ get_or views k v → IsView tables v
view_there tables views schemas k v shown below is =
    subst (IsView tables) (sym is) (All-get_or (IsView tables) views k v below shown.1)

pub schema_there :
    (tables : List Table) (views : List View) (schemas : List Schema) (k : ℕ) (v : View) (x : Schema)
    → AreShown tables views (columns_of schemas) → k < length views → v ≡ get_or views k v → x ≡ get_or schemas k x
    → x.fields.items ≡ view_columns tables v
schema_there tables views schemas k v x shown below is read =
    let one = length-map schemas (λ (s : Schema). s.fields.items) in
    let two = length-map views (view_columns tables) in
    let equal = ap length shown.2 in
    let within : k < length schemas = omega (arith, one, two, equal, below) in
    sym (at_mapped (λ (s : Schema). s.fields.items) schemas k x [] read within)
    ∙ ap (λ cs. get_or cs k []) shown.2 ∙ at_mapped (view_columns tables) views k v [] is below

-- a step leaves a session
pub session_kept :
    (p q : SessionParts) (step : State → State → Type 0) (m n : ℕ) (columns : List (List (Rose NamedType)))
    → IsSession p m columns → IsStep p step q
    → (tables_in q.tables.stores) ≡ (tables_in p.tables.stores)
    → q.tables.views ≡ p.tables.views → n ≡ max_undo_depth → IsSession q n columns
session_kept p q step m n columns was goes table views capacity =
    let made = goes was.some.0 was.some.1 in
    let placed : AreShown (tables_in p.tables.stores) q.tables.views columns =
    subst (λ (vs : List View). AreShown (tables_in p.tables.stores) vs columns) (sym views) was.views in
    record {
      capacity_is = capacity;
      views = subst (λ (ts : List Table). AreShown ts q.tables.views columns) (sym table) placed;
      some = (made.0, made.2);
    }

-- it is the store of that number, and the view
pub store_is : (stores : List Store) (k : ℕ) → k < length stores → store_at stores k ≡ get_or stores k (store_at stores
    k)
store_is [] k below = absurd (omega (arith, below))
store_is (s ∷ ss) zero below = refl
store_is (s ∷ ss) (suc k) below = store_is ss k (omega (arith, below))

pub view_is : (views : List View) (k : ℕ) → k < length views → view_at views k ≡ get_or views k (view_at views k)
view_is [] k below = absurd (omega (arith, below))
view_is (v ∷ vs) zero below = refl
view_is (v ∷ vs) (suc k) below = view_is vs k (omega (arith, below))
