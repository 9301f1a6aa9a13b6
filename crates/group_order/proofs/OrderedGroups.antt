-- The order follows the groups.
use Rattle.std.proofs.Common.{◌≡◌, refl, ap, ap₂, sym, ◌∙◌, subst, get_or, take, true≢false}
use Rattle.std.specs.Prelude.{ℕ, ◌+◌, ◌<◌, Bool, true, false, cond, List, Option, None, Some, length}
use Rattle.std.specs.BTreeMap.{is_at}
use Rattle.std.specs.Cmp.{Equal-is, eq_by_cmp_equiv}
use Rattle.std.specs.Ordering.{eq_by_cmp}
use Rattle.std.specs.declared.cmp.Ordering.TheVariants.{Equal}
use Rattle.std.specs.List.{list_any}
use Rattle.std.specs.Option.{option_and_then, option_map}
use Rattle.values.specs.Datum.{Datum}
use Rattle.values.specs.declared.key.Key.{Key}
use Rattle.view_lang.specs.Shifts.{Shift}
use Rattle.view_lang.specs.Truth.{passes}
use Rattle.view_lang.specs.declared.view.OrderBy.{OrderBy}
use Rattle.group_state.specs.Grouped.{Grouped}
use Rattle.group_state.specs.Keys.{tuple_cmp, tuple_total}
use Rattle.group_state.specs.Aggregates.{seen_at, seen_row}
use Rattle.group_state.specs.Readers.{read_at}
use Rattle.group_state.specs.Touched.{StayBut, group_at, touches}
use Rattle.group_state.specs.Tuples.{has_tuple, tuple_of}
use Rattle.group_state.proofs.Members.{tuple_exact}
use Rattle.top_rows.specs.EntryOrder.{sort_keys_cmp}
use Rattle.top_rows.specs.SortKeys.{sort_keys_of}
use Rattle.top_rows.specs.declared.sort_key.SortKey.{SortKey}
use Rattle.top_rows.specs.Ties.{KeepsBy, entry_by, has_sort_keys, is_entry_by, pick, stands_by, without}
use Rattle.top_rows.proofs.Ties.{all-picked, none-there, some-here, some-there, tied_exact, with-more, without-more}
use Rattle.group_order.specs.GroupEntries.{GroupEntry, group_entry_cmp}
use Rattle.group_order.specs.Ranked.{
  IsRanked,
  Ranked,
  Ranking,
  has_entries,
  if_passing,
  is_there,
  keys_read,
  named,
  placed_at,
  shown_at,
}

abbrev changed_at : Bool → Ranking → Grouped → List Key → List GroupEntry → GroupEntry → Bool
changed_at b r g t entries p =
    cond (is_entry_by tuple_cmp r.order t (placed_at r g t) p) b (stands_by tuple_cmp entries p)

-- a step of a loop, said of the state that the loop begins with
said : (b : Bool) (old mid : Ranked) (e f : List Key) (p : GroupEntry) → mid.groups ≡ old.groups
    → mid.ranking ≡ old.ranking → e ≡ f
    → changed_at b mid.ranking mid.groups e mid.entries p ≡ changed_at b old.ranking old.groups f mid.entries p
said b old mid e f p g r is =
    ap (λ x. changed_at b x mid.groups e mid.entries p) r
    ∙ ap (λ x. changed_at b old.ranking x e mid.entries p) g
    ∙ ap (λ x. changed_at b old.ranking old.groups x mid.entries p) is

module _ (old mid new : Ranked) (ns : List (List Key)) (i : ℕ) (e : List Key) (h : i < length ns)
    (is : e ≡ get_or ns i e) (g : mid.groups ≡ old.groups) (r : mid.ranking ≡ old.ranking)
  where
    pub take-step : ((p : GroupEntry) → stands_by tuple_cmp new.entries p
        ≡ changed_at false mid.ranking mid.groups e mid.entries p)
        → KeepsBy tuple_cmp old.ranking.order mid.entries
        (without tuple_cmp (take i ns) (placed_at old.ranking old.groups))
        → KeepsBy tuple_cmp old.ranking.order new.entries
        (without tuple_cmp (take (i + 1) ns) (placed_at old.ranking old.groups))
    take-step f k =
        without-more tuple_cmp tuple_total tuple_exact old.ranking.order ns i e h mid.entries new.entries
        (placed_at old.ranking old.groups) (λ p. f p ∙ said false old mid e (get_or ns i e) p g r is) k

    pub put-step : (before : List Key → Option (List Datum)) → ((p : GroupEntry) → stands_by tuple_cmp new.entries p
        ≡ changed_at true mid.ranking mid.groups e mid.entries p)
        → KeepsBy tuple_cmp old.ranking.order mid.entries
        (pick tuple_cmp (take i ns) (placed_at old.ranking old.groups) (without tuple_cmp ns before))
        → KeepsBy tuple_cmp old.ranking.order new.entries
        (pick tuple_cmp (take (i + 1) ns) (placed_at old.ranking old.groups) (without tuple_cmp ns before))
    put-step before f k =
        with-more tuple_cmp tuple_total tuple_exact old.ranking.order ns i e h mid.entries new.entries
        (placed_at old.ranking old.groups) (without tuple_cmp ns before)
        (none-there tuple_cmp tuple_total tuple_exact old.ranking.order ns i e h before)
        (λ p. f p ∙ said true old mid e (get_or ns i e) p g r is) k

-- The row of a group that stays is as before.
stays-shown : (r : Ranking) (t : List Key) (g next : Grouped) → next.columns ≡ g.columns
    → group_at next t ≡ group_at g t → placed_at r next t ≡ placed_at r g t
stays-shown r t g next c e =
    ap (λ o. cond (has_entries r) o None)
    (ap (λ cs. if_passing r.having (option_map (λ x. seen_row cs r.outputs (t, x)) (group_at next t))) c
    ∙ ap (λ o. if_passing r.having (option_map (λ x. seen_row g.columns r.outputs (t, x)) o)) e)

none-placed : (r : Ranking) (g : Grouped) (t : List Key) → has_entries r ≡ false → placed_at r g t ≡ None
none-placed r g t h = ap (λ b. cond b (shown_at r g t) None) h

-- Where no entries are stored, there are none whatever the groups are.
pub none-follow : (old new : Ranked) → has_entries old.ranking ≡ false → new.ranking ≡ old.ranking
    → new.entries ≡ old.entries → IsRanked old → IsRanked new
none-follow old new none r p k = record {
  entries_are = λ q.
      ap (λ ps. stands_by tuple_cmp ps q) p ∙ k.entries_are q
      ∙ ap (has_sort_keys old.ranking.order q.0) (none-placed old.ranking old.groups q.1 none)
      ∙ sym (ap (has_sort_keys new.ranking.order q.0)
      (none-placed new.ranking new.groups q.1 (ap has_entries r ∙ none)));
}

-- The entries of the touched tuples are removed, the groups are changed, and their new entries are inserted.
pub ranked-again : (old new : Ranked) (ns : List (List Key)) (es : List Shift) (next : Grouped)
    → ((t : List Key) → list_any (is_at (tuple_cmp t)) ns ≡ list_any (touches old.groups.keys t) es)
    → StayBut (λ t. list_any (touches old.groups.keys t) es) old.groups next → next.columns ≡ old.groups.columns
    → new.groups ≡ next → new.ranking ≡ old.ranking
    → KeepsBy tuple_cmp old.ranking.order new.entries
    (pick tuple_cmp ns (placed_at old.ranking next) (without tuple_cmp ns (placed_at old.ranking old.groups)))
    → IsRanked new
ranked-again old new ns es next touched stay c g r k =
    let kept : KeepsBy tuple_cmp old.ranking.order new.entries (placed_at old.ranking next) =
    all-picked tuple_cmp tuple_total tuple_exact old.ranking.order ns new.entries (placed_at old.ranking next)
    (placed_at old.ranking old.groups)
    (λ t none. stays-shown old.ranking t old.groups next c (stay t (sym (touched t) ∙ none))) k in
    subst (λ x. KeepsBy tuple_cmp new.ranking.order new.entries (placed_at new.ranking x)) (sym g)
    (subst (λ x. KeepsBy tuple_cmp x.order new.entries (placed_at x next)) (sym r) kept)

abbrev pub PutsIn : Grouped → List GroupEntry → List GroupEntry → Ranking → List (List Key) → Type 0
PutsIn next mid last r ns =
    (before : List Key → Option (List Datum)) → KeepsBy tuple_cmp r.order mid (without tuple_cmp ns before)
    → KeepsBy tuple_cmp r.order last (pick tuple_cmp ns (placed_at r next) (without tuple_cmp ns before))

-- first entries are removed, then inserted
pub through : (old : Ranked) (r : Ranking) (next : Grouped) (ns ns1 ns2 : List (List Key))
    (mid1 mid2 last : List GroupEntry) → ns1 ≡ ns → ns2 ≡ ns → mid2 ≡ mid1 → r ≡ old.ranking
    → (IsRanked old → KeepsBy tuple_cmp old.ranking.order mid1
    (without tuple_cmp ns1 (placed_at old.ranking old.groups)))
    → PutsIn next mid2 last r ns2 → IsRanked old
    → KeepsBy tuple_cmp old.ranking.order last
    (pick tuple_cmp ns (placed_at old.ranking next) (without tuple_cmp ns (placed_at old.ranking old.groups)))
through old r next ns ns1 ns2 mid1 mid2 last a b m same takes puts k =
    let at : List Key → Option (List Datum) = placed_at old.ranking old.groups in
    let taken : KeepsBy tuple_cmp old.ranking.order mid2 (without tuple_cmp ns at) =
    subst (λ x. KeepsBy tuple_cmp old.ranking.order x (without tuple_cmp ns at)) (sym m)
    (subst (λ x. KeepsBy tuple_cmp old.ranking.order mid1 (without tuple_cmp x at)) a (takes k)) in
    let put : PutsIn next mid2 last old.ranking ns =
    subst (λ x. PutsIn next mid2 last old.ranking x) b (subst (λ x. PutsIn next mid2 last x ns2) same puts) in
    put at taken

-- The entry of one row replaces the one before.
module _ (order : List OrderBy) (t : List Key) (at later : List Key → Option (List Datum))
    (entries next : List GroupEntry) (k : KeepsBy tuple_cmp order entries at)
    (same : (q : List Key) → is_at (tuple_cmp t) q ≡ false → later q ≡ at q) where
  own-name : (q : List Key) → is_at (tuple_cmp t) q ≡ true → q ≡ t
  own-name q h = sym (tuple_exact t q ((Equal-is (tuple_cmp t q)).0 h))

  own-entry : (p : GroupEntry) → is_at (tuple_cmp t) p.1 ≡ true
      → stands_by tuple_cmp entries p ≡ has_sort_keys order p.0 (at t)
  own-entry p h = k.entries_are p ∙ ap (λ m. has_sort_keys order p.0 (at m)) (own-name p.1 h)

  -- the entry before is there
  pub stood : (p : GroupEntry) (b : Bool) → is_at (tuple_cmp t) p.1 ≡ b
      → is_entry_by tuple_cmp order t (at t) p ≡ true → stands_by tuple_cmp entries p ≡ true
  stood p true h x =
      own-entry p h ∙ sym (some-here tuple_cmp tuple_total tuple_exact order t p (at t) h) ∙ x
  stood p false h x =
      absurd (true≢false (sym x ∙ some-there tuple_cmp tuple_total tuple_exact order t p (at t) h))

  replaced : (y x : Bool) → cond y true (cond x false x) ≡ y
  replaced true true = refl
  replaced true false = refl
  replaced false true = refl
  replaced false false = refl

  pub keeps-replaced : ((p : GroupEntry) → stands_by tuple_cmp next p
      ≡ cond (is_entry_by tuple_cmp order t (later t) p) true
      (cond (is_entry_by tuple_cmp order t (at t) p) false (stands_by tuple_cmp entries p)))
      → KeepsBy tuple_cmp order next later
  keeps-replaced f = record { entries_are = λ p. f p ∙ go p (is_at (tuple_cmp t) p.1) refl }
    where
      go : (p : GroupEntry) (b : Bool) → is_at (tuple_cmp t) p.1 ≡ b
          → cond (is_entry_by tuple_cmp order t (later t) p) true
          (cond (is_entry_by tuple_cmp order t (at t) p) false (stands_by tuple_cmp entries p))
          ≡ has_sort_keys order p.0 (later p.1)
      go p true h =
          rw (
            some-here tuple_cmp tuple_total tuple_exact order t p (later t) h,
            some-here tuple_cmp tuple_total tuple_exact order t p (at t) h,
            own-entry p h,
          )
          (replaced (has_sort_keys order p.0 (later t)) (has_sort_keys order p.0 (at t)))
          ∙ sym (ap (λ m. has_sort_keys order p.0 (later m)) (own-name p.1 h))
      go p false h =
          rw (
            some-there tuple_cmp tuple_total tuple_exact order t p (later t) h,
            some-there tuple_cmp tuple_total tuple_exact order t p (at t) h,
          )
          (k.entries_are p ∙ sym (ap (has_sort_keys order p.0) (same p.1 h)))

there-entry : (order : List OrderBy) (t : List Key) (o : Option (List Datum)) (p : GroupEntry)
    → is_there (option_map (entry_by tuple_cmp order t) o) p ≡ is_entry_by tuple_cmp order t o p
there-entry order t None p = refl
there-entry order t (Some row) p = refl

abbrev pub Replaces : Option GroupEntry → Option GroupEntry → List GroupEntry → List GroupEntry → Type 0
Replaces before after entries next =
    ((p : GroupEntry) → is_there before p ≡ true → stands_by tuple_cmp entries p ≡ true) → (p : GroupEntry)
    → stands_by tuple_cmp next p
    ≡ cond (is_there after p) true (cond (is_there before p) false (stands_by tuple_cmp entries p))

pub said-replaced : (b c a d : Option GroupEntry) (entries others next : List GroupEntry) → b ≡ c → a ≡ d
    → entries ≡ others → Replaces b a entries next → Replaces c d others next
said-replaced b c a d entries others next x y z f =
    subst (λ o. Replaces o d others next) x (subst (λ o. Replaces b o others next) y
    (subst (λ l. Replaces b a l next) z f))

itself : (q : GroupEntry) (entries : List GroupEntry) → Replaces (Some q) (Some q) entries entries
itself q entries = λ there p. go there p (is_at (group_entry_cmp q) p) refl
  where
    go : ((p : GroupEntry) → is_at (group_entry_cmp q) p ≡ true → stands_by tuple_cmp entries p ≡ true)
        → (p : GroupEntry) (b : Bool) → is_at (group_entry_cmp q) p ≡ b
        → stands_by tuple_cmp entries p ≡ cond b true (cond b false (stands_by tuple_cmp entries p))
    go there p true x = there p x
    go there p false x = refl

-- an entry that stays
pub same-entry : (q r : GroupEntry) (entries : List GroupEntry) → is_at (group_entry_cmp q) r ≡ true
    → Replaces (Some q) (Some r) entries entries
same-entry q r entries h =
    let same : q ≡ r = tied_exact tuple_cmp tuple_total tuple_exact q r ((Equal-is (group_entry_cmp q r)).0 h) in
    subst (λ x. Replaces (Some q) (Some x) entries entries) same (itself q entries)

-- sort keys that stay
pub same-keys : (t : List Key) (q r : List SortKey) (entries : List GroupEntry) → eq_by_cmp sort_keys_cmp q r ≡ true
    → Replaces (Some (q, t)) (Some (r, t)) entries entries
same-keys t q r entries h =
    let keys : sort_keys_cmp q r ≡ Equal = (Equal-is (sort_keys_cmp q r)).0 h in
    let own : tuple_cmp t t ≡ Equal = (Equal-is (tuple_cmp t t)).0 ((eq_by_cmp_equiv tuple_total).refl t) in
    same-entry (q, t) (r, t) entries (rw (keys, own) refl)

pub is-placed : (order : List OrderBy) (t : List Key) (o : Option (List Datum)) (q p : GroupEntry)
    (found : Option GroupEntry) → found ≡ Some q → found ≡ option_map (entry_by tuple_cmp order t) o
    → is_at (group_entry_cmp q) p ≡ is_entry_by tuple_cmp order t o p
is-placed order t o q p found is e = ap (λ x. is_there x p) (sym is ∙ e) ∙ there-entry order t o p

-- The entry of a row that passes is given by its sort keys.
shown-keys : (order : List OrderBy) (t : List Key) (row : List Datum) (c : Bool)
    → named t (option_map (sort_keys_of order) (cond c (Some row) None))
    ≡ option_map (entry_by tuple_cmp order t) (cond c (Some row) None)
shown-keys order t row true = refl
shown-keys order t row false = refl

keys-placed : (r : Ranking) (t : List Key) (b : Bool) (o : Option (List Datum))
    → named t
    (option_and_then (λ row. cond b (option_map (sort_keys_of r.order) (if_passing r.having (Some row))) None) o)
    ≡ option_map (entry_by tuple_cmp r.order t) (cond b (if_passing r.having o) None)
keys-placed r t true None = refl
keys-placed r t false None = refl
keys-placed r t false (Some row) = refl
keys-placed r t true (Some row) = shown-keys r.order t row (passes r.having row)

-- The sort keys that are read of a tuple's group are those of its entry.
pub read-placed : (r : Ranking) (g : Grouped) (t : List Key) (read : Option (List SortKey))
    → read ≡ read_at (keys_read r) r.outputs g t
    → named t read ≡ option_map (entry_by tuple_cmp r.order t) (placed_at r g t)
read-placed r g t read is = ap (named t) is ∙ keys-placed r t (has_entries r) (seen_at r.outputs g t)

-- Where the group of one tuple changes, the entry of its row replaces the one before.
pub ranked-at : (old new : Ranked) (t : List Key) (next : Grouped) (before after : Option GroupEntry)
    → StayBut (λ q. is_at (tuple_cmp t) q) old.groups next → next.columns ≡ old.groups.columns
    → new.groups ≡ next → new.ranking ≡ old.ranking
    → before ≡ option_map (entry_by tuple_cmp old.ranking.order t) (placed_at old.ranking old.groups t)
    → after ≡ option_map (entry_by tuple_cmp old.ranking.order t) (placed_at old.ranking next t)
    → Replaces before after old.entries new.entries → IsRanked old → IsRanked new
ranked-at old new t next before after stay c g r b a f k =
    let order : List OrderBy = old.ranking.order in
    let at : List Key → Option (List Datum) = placed_at old.ranking old.groups in
    let later : List Key → Option (List Datum) = placed_at old.ranking next in
    let same : (q : List Key) → is_at (tuple_cmp t) q ≡ false → later q ≡ at q =
    λ q h. stays-shown old.ranking q old.groups next c (stay q h) in
    let was : (p : GroupEntry) → is_there before p ≡ is_entry_by tuple_cmp order t (at t) p =
    λ p. ap (λ o. is_there o p) b ∙ there-entry order t (at t) p in
    let now : (p : GroupEntry) → is_there after p ≡ is_entry_by tuple_cmp order t (later t) p =
    λ p. ap (λ o. is_there o p) a ∙ there-entry order t (later t) p in
    let kept : KeepsBy tuple_cmp order new.entries later =
    keeps-replaced order t at later old.entries new.entries k same
    (λ p. f (λ q x. stood order t at later old.entries new.entries k same q (is_at (tuple_cmp t) q.1) refl
    (sym (was q) ∙ x)) p
    ∙ ap₂ (λ y x. cond y true (cond x false (stands_by tuple_cmp old.entries p))) (now p) (was p)) in
    subst (λ x. KeepsBy tuple_cmp new.ranking.order new.entries (placed_at new.ranking x)) (sym g)
    (subst (λ x. KeepsBy tuple_cmp x.order new.entries (placed_at x next)) (sym r) kept)

-- Where one row is inserted or deleted, the group of its tuple changes.
pub ranked-one : (old new : Ranked) (keys : List ℕ) (row : List Datum) (t : List Key) (next : Grouped)
    (before after : Option GroupEntry) → t ≡ tuple_of keys row
    → StayBut (λ q. has_tuple keys q row) old.groups next → next.columns ≡ old.groups.columns
    → new.groups ≡ next → new.ranking ≡ old.ranking
    → before ≡ option_map (entry_by tuple_cmp old.ranking.order t) (placed_at old.ranking old.groups t)
    → after ≡ option_map (entry_by tuple_cmp old.ranking.order t) (placed_at old.ranking next t)
    → Replaces before after old.entries new.entries → IsRanked old → IsRanked new
ranked-one old new keys row t next before after is stay =
    ranked-at old new t next before after
    (λ q h. stay q (ap (is_at (tuple_cmp q)) (sym is) ∙ (eq_by_cmp_equiv tuple_total).symm q t ∙ h))
