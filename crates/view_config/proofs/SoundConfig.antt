-- A configuration that was read keeps its rules.
use Rattle.std.proofs.Common.{◌≡◌, ℕ, suc, ◌<◌, ◌≤◌, Ok, Err, Bool, true, false, refl, ap, sym, subst, arith, ◌∙◌, map}
use Rattle.std.proofs.Common.{String, Global}
use Rattle.std.specs.Prelude.{All, IfOk, Result, codes, if◌then◌else◌, nat_lt, length, List, [], ◌∷◌, Option, None}
use Rattle.std.specs.Prelude.{Some}
use Rattle.std.specs.Str.{bytes_eq}
use Rattle.std.proofs.lemmas.List.Elements.{All-nil, All-cons}
use Rattle.std.proofs.lemmas.Option.{slice_get_within}
use Rattle.toml.specs.Data.{Data, Members, no_members, member, get_member}
use Rattle.toml.specs.View.{members_view}
use Rattle.toml.specs.declared.value.Value.{Value}
use Rattle.values.specs.Reading.{◌>>=◌, cons, mapped, one}
use Rattle.values.proofs.Readings.{both_Ok, mapped_Ok}
use Rattle.view_lang.specs.Config.{Config, FeedConfig, SideTable, Table}
use Rattle.view_lang.specs.ConfigRules.{IsConfig, IsFeed, IsView}
use Rattle.view_lang.specs.Edits.{table_of as table_number}
use Rattle.view_lang.specs.Limits.{max_feeds, max_side_rows, max_sides, max_views}
use Rattle.view_lang.specs.TableRules.{IsTable}
use Rattle.view_lang.specs.declared.config.Role.{Role}
use Rattle.view_lang.specs.declared.config.Role.TheVariants as role
use Rattle.view_config.specs.Reading.{Answers, Reading}
use Rattle.view_config.specs.Tree.{count_members, each_member, members_in, members_or_none, needed, only, text_in}
use Rattle.view_config.specs.Tables.{main_of, table_of}
use Rattle.view_config.specs.Entries.{each_entry, entry_name, few_entries}
use Rattle.view_config.specs.Sides.{side_called, side_named, side_of, sides_of}
use Rattle.view_config.specs.Feeds.{feed_entries, feed_named, feed_of, feeds_of, role_by, role_of, side_number}
use Rattle.view_config.specs.Feeds.{sideless}
use Rattle.view_config.specs.Views.{view_of, views_of}
use Rattle.view_config.specs.Config.{config_by, config_entries, config_of}
use Rattle.view_config.specs.declared.faults.ConfigFault.{ConfigFault}
use Rattle.view_config.specs.declared.faults.ConfigFault.TheVariants as fault
use Rattle.view_config.proofs.Causes.{failing}
use Rattle.view_config.proofs.Found.{side-at}
use Rattle.view_config.proofs.Readings.{bound}
use Rattle.view_config.proofs.SoundTables.{entry-textual, main-sound, members-textual, passed, table-sound}
use Rattle.view_config.proofs.SoundViews.{tables, view-sound}
use Rattle.view_config.proofs.Texts.{HasTextual, IsTextual, table-textual}

each-named :
    {X : Type 0} (P : X → Type 0) (f : List ℕ → Data → Reading X) (ms : Members) (xs : List X)
    → ((key : List ℕ) (d : Data) (x : X) → IsTextual d → f key d ≡ Ok x → P x) → HasTextual ms
    → each_member f ms ≡ Ok xs → All P xs
unfolding each_member
each-named P f no_members xs h t e = let k : [] ≡ xs = cc in subst (λ (zs : List _). All P zs) k (All-nil P)
each-named P f (member key d ms) xs h t e =
    let p = both_Ok cons (f key d) (each_member f ms) xs e in
    subst (λ (zs : List _). All P zs) p.4 (All-cons P p.0 p.1 (h key d p.0 t.0 p.2) (each-named P f ms p.1 h t.1 p.3))

members-length :
    {X : Type 0} (f : List ℕ → Data → Reading X) (ms : Members) (xs : List X) → each_member f ms ≡ Ok xs
    → length xs ≡ count_members ms
unfolding each_member
members-length f no_members xs e = let k : [] ≡ xs = cc in ap length (sym k)
members-length f (member key d ms) xs e =
    let p = both_Ok cons (f key d) (each_member f ms) xs e in
    ap length (sym p.4) ∙ ap suc (members-length f ms p.1 p.3)

few-entries : (n : ℕ) (ms : Members) (u : Unit {0}) → few_entries n ms ≡ Ok u → count_members ms ≤ n
few-entries n ms u e =
    let p = passed fault.OverLimit (nat_lt n (count_members ms)) u e in
    grind (arith, p)

optional-textual : (o : Option Data) (ms : Members) → members_or_none o ≡ Ok ms
    → ((d : Data) → o ≡ Some d → IsTextual d) → HasTextual ms
optional-textual None ms e h = let q : no_members ≡ ms = cc in subst HasTextual q tt
optional-textual (Some d) ms e h = members-textual d ms e (h d refl)

entries-few :
    {X : Type 0} (n : ℕ) (f : List ℕ → Data → Reading X) (o : Option Data) (xs : List X) → each_entry n f o ≡ Ok xs
    → length xs ≤ n
entries-few n f o xs e =
    bound (members_or_none o) _ xs e (λ ms a e1.
    bound (few_entries n ms) _ xs e1 (λ u b e2.
    let long = members-length f ms xs e2 in
    let few = few-entries n ms u b in
    omega (arith, long, few)))

entries-all :
    {X : Type 0} (P : X → Type 0) (n : ℕ) (f : List ℕ → Data → Reading X) (o : Option Data) (xs : List X)
    → ((key : List ℕ) (d : Data) (x : X) → IsTextual d → f key d ≡ Ok x → P x) → ((d : Data) → o ≡ Some d → IsTextual d)
    → each_entry n f o ≡ Ok xs → All P xs
entries-all P n f o xs h t e =
    bound (members_or_none o) _ xs e (λ ms a e1.
    bound (few_entries n ms) _ xs e1 (λ u b e2.
    each-named P f ms xs h (optional-textual o ms a t) e2))

-- a side table within its bounds
IsSide : SideTable → Type 0
IsSide s = IsTable s.table × (s.table.max_rows ≡ max_side_rows)

side-sound : (key : List ℕ) (d : Data) (s : SideTable) → IsTextual d → side_of key d ≡ Ok s → IsSide s
unfolding side_of IsSide
side-sound key d s t e =
    let read = both_Ok side_named (entry_name key) (members_in d >>= table_of max_side_rows) s e in
    let made : IsSide (side_named read.0 read.1) =
    bound (members_in d) (table_of max_side_rows) read.1 read.3 (λ ms a e1.
    table-sound max_side_rows ms read.1 (omega arith) (members-textual d ms a t) e1) in
    subst IsSide read.4 made

count-map : {X Y : Type 0} (f : X → Y) (xs : List X) → length (map f xs) ≡ length xs
count-map f [] = refl
count-map f (x ∷ xs) = ap suc (count-map f xs)

-- the table of a role is there
IsRole : Table → List SideTable → Role → Type 0
IsRole main sides r = table_number r < length (tables main sides)

number-there : (main : Table) (sides : List SideTable) (ms : Members) (n : ℕ) → side_number sides ms ≡ Ok n
    → suc n < length (tables main sides)
unfolding side_number
number-there main sides ms n e =
    bound (needed (codes "side") ms >>= text_in) _ n e (λ name a e1.
    let read = mapped_Ok (λ (s : ℕ × SideTable). s.0) (side_called sides name) n e1 in
    let within = slice_get_within sides read.0.0 read.0.1 (side-at sides name read.0 read.1) in
    let count = count-map (λ (t : SideTable). t.table) sides in
    omega (arith, within, count, read.2))

sideless-role : (main : Table) (sides : List SideTable) (ms : Members) (q r : Role) → table_number q ≡ 0
    → sideless q ms ≡ Ok r → IsRole main sides r
unfolding IsRole
sideless-role main sides ms q r h e =
    bound (only (codes "role" ∷ []) ms) _ r e (λ u a e1.
    let same : q ≡ r = cc in
    subst (IsRole main sides) same (omega (arith, h)))

role-by-sound :
    (main : Table) (sides : List SideTable) (ms : Members) (r : Role) (a b c d : Bool)
    → (if a then sideless role.Append ms
    else if b then sideless role.Retract ms
    else if c then mapped role.Put (side_number sides ms)
    else if d then mapped role.Drop (side_number sides ms) else Err (one fault.Shape)) ≡ Ok r
    → IsRole main sides r
unfolding IsRole
role-by-sound main sides ms r true b c d e = sideless-role main sides ms role.Append r refl e
role-by-sound main sides ms r false true c d e = sideless-role main sides ms role.Retract r refl e
role-by-sound main sides ms r false false true d e =
    let read = mapped_Ok role.Put (side_number sides ms) r e in
    subst (IsRole main sides) read.2 (number-there main sides ms read.0 read.1)
role-by-sound main sides ms r false false false true e =
    let read = mapped_Ok role.Drop (side_number sides ms) r e in
    subst (IsRole main sides) read.2 (number-there main sides ms read.0 read.1)
role-by-sound main sides ms r false false false false e = cc

role-sound : (main : Table) (sides : List SideTable) (ms : Members) (r : Role) → role_of sides ms ≡ Ok r
    → IsRole main sides r
unfolding role_of role_by
role-sound main sides ms r e =
    bound (needed (codes "role") ms >>= text_in) (role_by sides ms) r e (λ w a e1.
    role-by-sound main sides ms r (bytes_eq w (codes "append")) (bytes_eq w (codes "retract"))
    (bytes_eq w (codes "put")) (bytes_eq w (codes "drop")) e1)

feed-sound : (main : Table) (sides : List SideTable) (key : List ℕ) (d : Data) (f : FeedConfig) → IsTextual d
    → feed_of sides key d ≡ Ok f → IsFeed (tables main sides) f
unfolding feed_of IsRole
feed-sound main sides key d f t e =
    bound (members_in d) _ f e (λ ms a e1.
    bound (only feed_entries ms) _ f e1 (λ u b e2.
    let read = both_Ok feed_named (entry_name key) (role_of sides ms) f e2 in
    subst (IsFeed (tables main sides)) read.4 (role-sound main sides ms read.1 read.3)))

-- what each side table is
sides-tables : (ss : List SideTable) → All IsSide ss → All (λ s. IsTable s.table) ss
unfolding IsSide
sides-tables ss h = λ k d l. (h k d l).0

sides-rows : (ss : List SideTable) → All IsSide ss → All (λ s. s.table.max_rows ≡ max_side_rows) ss
unfolding IsSide
sides-rows ss h = λ k d l. (h k d l).1

pub config-sound : (ms : Members) (c : Config) → HasTextual ms → config_of ms ≡ Ok c → IsConfig c
unfolding config_of
config-sound ms c h e =
    bound (only config_entries ms) _ c e (λ u a e1.
    bound (main_of ms) _ c e1 (λ t b e2.
    bound (sides_of ms) _ c e2 (λ ss f e3.
    let read = both_Ok (config_by t ss) (feeds_of ss ms) (views_of t ss ms) c e3 in
    let main = main-sound ms t h b in
    let side = get_member (codes "side") ms in
    let feed = get_member (codes "feed") ms in
    let view = get_member (codes "view") ms in
    let sides = entries-all IsSide max_sides side_of side ss side-sound
    (λ d q. entry-textual (codes "side") ms d q h) f in
    subst IsConfig read.4 (record {
      main = main.0;
      main_rows = main.1;
      sides = sides-tables ss sides;
      side_rows = sides-rows ss sides;
      few_sides = entries-few max_sides side_of side ss f;
      feeds = entries-all (IsFeed (tables t ss)) max_feeds (feed_of ss) feed read.0 (feed-sound t ss)
          (λ d q. entry-textual (codes "feed") ms d q h) read.2;
      few_feeds = entries-few max_feeds (feed_of ss) feed read.0 read.2;
      views = entries-all (IsView (tables t ss)) max_views (view_of t ss) view read.1 (view-sound t ss (sides-rows ss sides))
          (λ d q. entry-textual (codes "view") ms d q h) read.3;
      few_views = entries-few max_views (view_of t ss) view read.1 read.3;
    }))))

-- what a reader answers keeps the rules
pub answer-sound :
    (r : Result Config ConfigFault) (es : List (String Global × Value))
    → Answers (λ c. c) r (config_of (members_view es)) → IfOk r IsConfig
answer-sound (Ok c) es e = config-sound (members_view es) c (table-textual es) e
answer-sound (Err f) es e = tt

pub ruleset whole = (failing, answer-sound)
