-- What is stored for a view, and the rows that it shows.
use Rattle.std.proofs.Common.{
  ◌≡◌,
  ℕ,
  zero,
  suc,
  ◌<◌,
  ◌≤◌,
  Bool,
  true,
  false,
  if◌then◌else◌,
  List,
  [],
  ◌∷◌,
  ◌++◌,
  ◌+◌,
  Option,
  None,
  Some,
  All,
  filter_map,
  length,
  get_or,
  map,
  take,
  refl,
  ap,
  sym,
  subst,
  ◌∙◌,
  arith,
}
use Rattle.std.specs.List.{AllByRecursion, cons_option}
use Rattle.std.specs.Map.{values_of}
use Rattle.std.specs.Option.{option_and_then, unwrap_or}
use Rattle.std.proofs.lemmas.List.{take_all, take_more}
use Rattle.std.proofs.lemmas.List.Elements.{All-cons, All-nil, All-weaker, filter_map-append}
use Rattle.values.specs.Datum.{Datum}
use Rattle.values.specs.Limits.{max_main_rows}
use Rattle.view_lang.specs.Config.{Table, View}
use Rattle.view_lang.specs.Images.{ImageAt, ImageFits, ImageValues, image}
use Rattle.view_lang.specs.Joined.{Side}
use Rattle.view_lang.specs.Laws.{Viewed, ViewsCanSum, ViewsHaveFewRows, ViewsOrderKeys, ViewsUseKeys}
use Rattle.view_lang.specs.Outputs.{Outputs, columns, groups}
use Rattle.view_lang.specs.RowOrder.{row_cmp}
use Rattle.view_lang.specs.Shifts.{NumberedRows, row_at}
use Rattle.view_lang.specs.Sorted.{sorted}
use Rattle.view_lang.specs.Sums.{CanSum}
use Rattle.view_lang.specs.ViewLaws.{KeptOneByOne, ShownOneByOne}
use Rattle.view_lang.specs.Views.{first_of, output_rows, passing_row, shown_row, shown_rows, view_input, view_rows}
use Rattle.group_order.specs.Ranked.{Keeps as KeepsRanked, Ranked, Ranking, ranked_rows, ranking_by}
use Rattle.group_state.specs.Reading.{CanReadAll}
use Rattle.top_rows.specs.Keeping.{Keeps as KeepsOrder}
use Rattle.top_rows.specs.OrderedEntries.{OrderedEntries}
use Rattle.top_rows.specs.ViewOrder.{AreFirst, IsKeptFor, OrdersKeys}
use Rattle.row_keys.specs.NumberLaws.{NumbersAscend, RowsAreAtNumbers, RowsAreLive}
use Rattle.row_keys.specs.Numbered.{live_at, numbered}
use Rattle.row_keys.specs.Slots.{IsLiveAt, Slot, live, no_slot, row_of}
use Rattle.row_keys.specs.Store.{Store}
use Rattle.upkeep.specs.Inputs.{listed, side_by}
use Rattle.upkeep.specs.Stores.{rows_at, rows_in, tables_in}
use Rattle.upkeep.specs.Reading.{
  AreShown,
  FirstsAreShown,
  GroupsAreShown,
  IsReadable,
  projected_at,
}
use Rattle.upkeep.specs.ViewStates.{IsMaterialized, IsMaterializedBy, ShowsEach, projected_by, projected_row}
use Rattle.upkeep.specs.declared.view_state.Materialized.TheVariants as kept

-- the laws of the crates below that are used
pub record Laws : Type 0 where
  pub fits : ImageFits
  pub at : ImageAt
  pub values : ImageValues
  pub kept : KeptOneByOne
  pub shown : ShownOneByOne
  pub ascend : NumbersAscend
  pub live : RowsAreLive
  pub numbers : RowsAreAtNumbers
  pub sums : ViewsCanSum
  pub few : ViewsHaveFewRows
  pub keys : ViewsUseKeys
  pub ordered : ViewsOrderKeys

-- Projected rows of all live rows

abbrev pub made_rows : Outputs → List (List Datum) → List (List Datum)
made_rows (columns outputs) rows = map (shown_row outputs) rows
made_rows (groups by outputs having) rows = rows

module _ (laws : Laws) where
  made_each :
      (os : Outputs) (v : View) (side : Side) (rows : List (List Datum))
      → filter_map (λ row. projected_by os (passing_row v side row)) rows ≡ made_rows os (view_input v side rows)
  made_each (columns outputs) v side rows = laws.shown v outputs side rows
  made_each (groups by outputs having) v side rows = laws.kept v side rows

  pub made_values :
      (os : Outputs) (v : View) (side : Side) (slots : List Slot)
      → values_of (image (λ row. projected_by os (passing_row v side row)) (numbered slots))
      ≡ made_rows os (view_input v side (live slots))
  made_values os v side slots =
      let make : List Datum → Option (List Datum) = λ row. projected_by os (passing_row v side row) in
      laws.values make (numbered slots) ∙ ap (filter_map make) (laws.live slots) ∙ made_each os v side (live slots)

-- Rows by number

-- Only a live row has a projected row.
live_made :
    (make : List Datum → Option (List Datum)) (b : Bool) (row r : List Datum)
    → option_and_then make (if b then Some row else None) ≡ Some r → (make row ≡ Some r) × (b ≡ true)
live_made make true row r is = (is, refl)
live_made make false row r is = absurd (cc)

live_there : (slots : List Slot) (n : ℕ) → (get_or slots n no_slot).live ≡ true → n < length slots
live_there [] n is = absurd (cc)
live_there (s ∷ ss) zero is = omega arith
live_there (s ∷ ss) (suc n) is = omega (arith, live_there ss n is)

abbrev tail_of : {X : Type 0} → List X → List X
tail_of [] = []
tail_of (x ∷ xs) = xs

pub record Are (make : ℕ → Option (List Datum)) (P : ℕ → Type 0) (numbers : List ℕ) (rows : List (List Datum)) : Type 0
  where
    pub made : filter_map make numbers ≡ rows
    pub all : All P numbers
    pub many : length numbers ≡ length rows

made_numbers :
    (given make : ℕ → Option (List Datum)) (P : ℕ → Type 0)
    → ((n : ℕ) (r : List Datum) → given n ≡ Some r → (make n ≡ Some r) × P n)
    → (numbers : List ℕ) (rows : List (List Datum)) → map given numbers ≡ map Some rows → Are make P numbers rows
made_numbers given make P each [] [] same = record { made = refl; all = All-nil P; many = refl }
made_numbers given make P each [] (r ∷ rs) same = absurd (omega (arith, ap length same))
made_numbers given make P each (n ∷ ns) [] same = absurd (omega (arith, ap length same))
made_numbers given make P each (n ∷ ns) (r ∷ rs) same =
    let here : given n ≡ Some r = ap (λ l. get_or l 0 None) same in
    let rest : Are make P ns rs = made_numbers given make P each ns rs (ap tail_of same) in
    let one = each n r here in
    record {
      made = ap (λ o. cons_option o (filter_map make ns)) one.0 ∙ ap (λ l. r ∷ l) rest.made;
      all = All-cons P n ns one.1 rest.all;
      many = ap suc rest.many;
    }

-- The row of that number is live, and has a projected row.
abbrev pub IsMadeAt : View → Side → List Slot → ℕ → Type 0
IsMadeAt v side slots n = IsLiveAt slots n × ((row : List Datum) × (projected_row v side (row_of slots n) ≡ Some row))

pub shown_by :
    (v : View) (side : Side) (slots : List Slot) (numbers : List ℕ)
    → Are (λ n. projected_row v side (row_of slots n)) (IsMadeAt v side slots) numbers (view_rows v side (live slots))
    → AreShown v side slots numbers
shown_by v side slots numbers are =
    let P : ℕ → Type 0 = IsMadeAt v side slots in
    let M : ℕ → Type 0 = λ n. (row : List Datum) × (projected_row v side (row_of slots n) ≡ Some row) in
    record {
      there = All-weaker P (λ n. n < length slots) (λ n h. live_there slots n h.0) numbers are.all;
      each_live = All-weaker P (IsLiveAt slots) (λ n h. h.0) numbers are.all;
      each_projected = All-weaker P M (λ n h. h.1) numbers are.all;
      rows = are.made;
      many = are.many;
    }

-- The first rows

all_at : (P : List Datum → Type 0) (es : NumberedRows) → AllByRecursion P (values_of es)
    → AllByRecursion (λ e. P e.1) es
all_at P [] all = tt
all_at P (e ∷ es) all = (all.0, all_at P es all.1)

-- a view without a number asks for as many as there may be
pub first_taken : {X : Type 0} (first : Option ℕ) (most : ℕ) (xs : List X) → most ≡ unwrap_or first max_main_rows
    → length (first_of first xs) ≤ max_main_rows → take most xs ≡ first_of first xs
first_taken None most xs is few = take_all most xs (omega (arith, is, few))
first_taken (Some n) most xs is few = ap (λ m. take m xs) is

record IsPlain (v : View) (side : Side) (slots : List Slot) (o : OrderedEntries) (es : NumberedRows) : Type 0 where
  order : o.order ≡ v.order
  keeps : KeepsOrder o es
  outputs : values_of es ≡ output_rows v.outputs (view_input v side (live slots))

module _ (laws : Laws) where
  made_there :
      (v : View) (side : Side) (slots : List Slot) (n : ℕ) (r : List Datum)
      → row_at n (image (projected_row v side) (numbered slots)) ≡ Some r
      → (projected_row v side (row_of slots n) ≡ Some r) × IsMadeAt v side slots n
  made_there v side slots n r here =
      let s : Slot = get_or slots n no_slot in
      let made : option_and_then (projected_row v side) (live_at slots n) ≡ Some r =
      sym (laws.at (projected_row v side) (numbered slots) n (laws.ascend slots)
      ∙ ap (option_and_then (projected_row v side)) (laws.numbers slots n)) ∙ here in
      let both = live_made (projected_row v side) s.live s.row r made in
      (both.0, (both.1, (r, both.0)))

  -- the rows of numbers that have one
  pub are_made :
      (v : View) (side : Side) (slots : List Slot) (numbers : List ℕ) (rows : List (List Datum))
      → map (λ n. row_at n (image (projected_row v side) (numbered slots))) numbers ≡ map Some rows
      → Are (λ n. projected_row v side (row_of slots n)) (IsMadeAt v side slots) numbers rows
  are_made v side slots numbers rows same =
      made_numbers (λ n. row_at n (image (projected_row v side) (numbered slots)))
      (λ n. projected_row v side (row_of slots n)) (IsMadeAt v side slots) (made_there v side slots) numbers rows same

  plain_by :
      (Each : Type 0) (v : View) (side : Side) (slots : List Slot) (os : Outputs) (o : OrderedEntries) → v.outputs ≡ os
      → IsMaterializedBy Each (kept.Order o) os v.order (image (λ row. projected_by os (passing_row v side row)) (numbered slots))
      → IsPlain v side slots o (image (λ row. projected_by os (passing_row v side row)) (numbered slots))
  unfolding output_rows
  plain_by Each v side slots (columns outputs) o same k = record {
    order = k.0;
    keeps = k.1;
    outputs = made_values laws (columns outputs) v side slots
        ∙ ap (λ x. output_rows x (view_input v side (live slots))) (sym same);
  }
  plain_by Each v side slots (groups by outputs having) o same k = absurd k

  module _ (tables : List Table) (v : View) (side : Side) (slots : List Slot) (o : OrderedEntries)
      (is : Viewed tables v side (live slots))
      (k : IsMaterialized v (kept.Order o) (image (projected_row v side) (numbered slots))) where
    plain : IsPlain v side slots o (image (projected_row v side) (numbered slots))
    plain = plain_by (ShowsEach v) v side slots v.outputs o refl k

    order_readable : IsKeptFor o (image (projected_row v side) (numbered slots))
    order_readable =
        let es : NumberedRows = image (projected_row v side) (numbered slots) in
        let keys : AllByRecursion (OrdersKeys v.order) (values_of es) =
        subst (AllByRecursion (OrdersKeys v.order)) (sym plain.outputs) (laws.ordered tables v side (live slots) is) in
        record {
          ascending = (laws.fits (projected_row v side) (numbered slots) []
              (record { ascending = laws.ascend slots; in_turn = tt })).ascending;
          kept_rows = plain.keeps;
          keys = all_at (OrdersKeys o.order) es
              (subst (λ os. AllByRecursion (OrdersKeys os) (values_of es)) (sym plain.order) keys);
        }

    shown_first :
        (most : ℕ) → most ≡ unwrap_or v.first max_main_rows
        → take most (sorted (row_cmp o.order) (values_of (image (projected_row v side) (numbered slots))))
        ≡ view_rows v side (live slots)
    unfolding view_rows shown_rows
    shown_first most asked =
        let made : List (List Datum) = output_rows v.outputs (view_input v side (live slots)) in
        ap (λ os. take most (sorted (row_cmp os) (values_of (image (projected_row v side) (numbered slots))))) plain.order
        ∙ ap (λ xs. take most (sorted (row_cmp v.order) xs)) plain.outputs
        ∙ first_taken v.first most (sorted (row_cmp v.order) made) asked (laws.few tables v side (live slots) is)

    firsts :
        (most : ℕ) (numbers : List ℕ) → most ≡ unwrap_or v.first max_main_rows
        → AreFirst o.order most (image (projected_row v side) (numbered slots)) numbers
        → Are (λ n. projected_row v side (row_of slots n)) (IsMadeAt v side slots) numbers (view_rows v side (live slots))
    firsts most numbers asked first =
        are_made v side slots numbers (view_rows v side (live slots)) (first ∙ ap (map Some) (shown_first most asked))

module _ (laws : Laws) where
  groups_by :
      (Each : Type 0) (tables : List Table) (v : View) (side : Side) (slots : List Slot) (os : Outputs) (g : Ranked)
      (made : List (List Datum)) → v.outputs ≡ os → Viewed tables v side (live slots)
      → IsMaterializedBy Each (kept.Groups g) os v.order (image (λ row. projected_by os (passing_row v side row)) (numbered slots))
      → ((rows : List (List Datum)) → KeepsRanked g rows
      → CanReadAll g.groups.keys g.groups.columns g.ranking.outputs rows
      → made ≡ take (unwrap_or v.first max_main_rows) (ranked_rows g.groups.keys g.ranking rows))
      → made ≡ view_rows v side (live slots)
  unfolding view_rows shown_rows output_rows
  groups_by Each tables v side slots (columns outputs) g made same is k read = absurd k
  groups_by Each tables v side slots (groups by outputs having) g made same is k read =
      let rows : List (List Datum) = view_input v side (live slots) in
      let most : ℕ = unwrap_or v.first max_main_rows in
      let r : Ranking = ranking_by outputs having v.order in
      let kept_rows : KeepsRanked g rows =
      subst (KeepsRanked g) (made_values laws (groups by outputs having) v side slots) k.3 in
      let can : CanReadAll by g.groups.columns outputs rows =
      record {
        kept = k.1;
        sums = subst (λ o. CanSum o rows) same (laws.sums tables v side (live slots) is);
        keys = laws.keys tables v by outputs having side (live slots) is same;
      } in
      let all : CanReadAll g.groups.keys g.groups.columns g.ranking.outputs rows =
      subst (λ ks. CanReadAll ks g.groups.columns g.ranking.outputs rows) (sym k.0)
      (subst (λ (x : Ranking). CanReadAll by g.groups.columns x.outputs rows) (sym k.2) can) in
      read rows kept_rows all
      ∙ ap (λ x. take most (ranked_rows g.groups.keys x rows)) k.2
      ∙ ap (λ ks. take most (ranked_rows ks r rows)) k.0
      ∙ ap (λ o. take most (sorted (row_cmp v.order) (output_rows o rows))) (sym same)
      ∙ first_taken v.first most (sorted (row_cmp v.order) (output_rows v.outputs rows)) refl
      (laws.few tables v side (live slots) is)

pub groups_are_shown : Laws → GroupsAreShown
groups_are_shown laws tables v side slots g made is read =
    groups_by laws (ShowsEach v) tables v side slots v.outputs g made refl is.viewed is.kept read

pub firsts_are_shown : Laws → FirstsAreShown
firsts_are_shown laws tables v side slots o numbers is first =
    let are = firsts laws tables v side slots o is.viewed is.kept (unwrap_or v.first max_main_rows) numbers refl
    (first (order_readable laws tables v side slots o is.viewed is.kept)) in
    shown_by v side slots numbers are

-- the first numbers, however the view's own was read
pub firsts_asked :
    (law : FirstsAreShown) (v : View) (o : OrderedEntries) (most : ℕ) (numbers : List ℕ)
    → most ≡ unwrap_or v.first max_main_rows
    → ((rows : NumberedRows) → IsKeptFor o rows → AreFirst o.order most rows numbers)
    → (tables : List Table) (side : Side) (slots : List Slot) → IsReadable tables v side slots (kept.Order o)
    → AreShown v side slots numbers
firsts_asked law v o most numbers asked first tables side slots is =
    law tables v side slots o numbers is
    (λ k. subst (λ m. AreFirst o.order m (image (projected_row v side) (numbered slots)) numbers) asked
    (first (image (projected_row v side) (numbered slots)) k))

-- Rows projected one after the other

one_listed : (o : Option (List Datum)) → listed o ≡ cons_option o []
one_listed None = refl
one_listed (Some r) = refl

pub made_more :
    (stores now : List Store) (v : View) (numbers : List ℕ) (i : ℕ) (before after : List (List Datum))
    (made : Option (List Datum)) → tables_in now ≡ tables_in stores → rows_in now ≡ rows_in stores
    → i < length numbers
    → before
    ≡ projected_at v (side_by (tables_in stores) (rows_in stores) v) (rows_at (rows_in stores) 0) (take i numbers)
    → made
    ≡ projected_row v (side_by (tables_in now) (rows_in now) v) (row_of (rows_at (rows_in now) 0) (get_or numbers i 0))
    → after ≡ before ++ listed made
    → after
    ≡ projected_at v (side_by (tables_in stores) (rows_in stores) v) (rows_at (rows_in stores) 0) (take (i + 1) numbers)
made_more stores now v numbers i before after made tables rows below so_far here pushed =
    let make : ℕ → Option (List Datum) = λ n.
    projected_row v (side_by (tables_in stores) (rows_in stores) v) (row_of (rows_at (rows_in stores) 0) n) in
    let n : ℕ = get_or numbers i 0 in
    let one : made ≡ make n =
    here ∙ ap (λ ts. projected_row v (side_by ts (rows_in now) v) (row_of (rows_at (rows_in now) 0) n)) tables
    ∙ ap (λ rs. projected_row v (side_by (tables_in stores) rs v) (row_of (rows_at rs 0) n)) rows in
    pushed ∙ ap (λ xs. xs ++ listed made) so_far
    ∙ ap (λ xs. filter_map make (take i numbers) ++ xs) (one_listed made ∙ ap (λ o. cons_option o []) one)
    ∙ sym (filter_map-append make (take i numbers) (n ∷ []))
    ∙ ap (filter_map make) (sym (take_more numbers i 0 below))
