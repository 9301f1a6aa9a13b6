use Rattle.std.proofs.Common.{◌≡◌, ℕ, List, Bool, [], ◌∷◌, ◌++◌, ◌+◌, ◌≤◌, Some, slice_get, ap, subst, sym, ◌∙◌, true, arith, length, nat_eq}
use Rattle.std.specs.Prelude.{if◌then◌else◌, is_ok}
use Rattle.std.proofs.lemmas.Grind.{common_steps}
use Rattle.row_keys.specs.Entries.{AreInOrder, all_entries}
use Rattle.row_keys.specs.declared.numbers.Entry.{Entry}
use Rattle.row_keys.specs.declared.numbers.RetainedEntry.{RetainedEntry}
use Rattle.row_keys.specs.Index.{HoldsPlace, IsFree, IsIndex, Puts, seen_all}
use Rattle.row_keys.specs.Numbers.{IsAt, IsUnused, Numbered, numbered}
use Rattle.row_keys.proofs.GoneRows.{Started, key_there, place_within, started}
use Rattle.row_keys.proofs.Indexes.{found_row}
use Rattle.row_keys.proofs.IndexChanges.{index_pushed, new_entry, rows_pushed, unused_before}
use Rattle.row_keys.proofs.RetainedEntries.{entries_long, entries_pushed, order_more}
use Rattle.row_keys.proofs.RetainedIndex.{live_fits}
use Rattle.row_keys.proofs.numbers.Numbers.push.Goals as goal

pub overflow_add-self : goal.overflow_add-self
overflow_add-self c =
    let fits =
    live_fits c.self.inside.keys c.self.inside.holders.items c.self.inside.kept.items c.self.inside.len
    c.self.inside.live c.self.invariant in
    omega (arith, fits)

abbrev before : goal.After-self-2-1 → List Entry
before c = all_entries c.self.inside.kept.items c.self.inside.len

abbrev fresh : goal.After-self-2-1 → Bool
fresh c = nat_eq c.in_ok-place.place c.len.result

abbrev last : goal.After-self-2-1 → RetainedEntry
last c = record { number = c.self.inside.len; entry = new_entry c.in_ok-place.place (fresh c) }

start : (c : goal.After-self-2-1)
    → Started c.self.inside.keys c.place_null.new.keys c.self.inside.holders.items c.place_null.new.holders.items
    (before c) c.self.inside.live
start c =
    started c.self.inside.keys c.place_null.new.keys c.self.inside.holders.items c.place_null.new.holders.items
    (before c) c.self.inside.live c.self.invariant.index c.in_ok-place_null.ensures.ok

items : (c : goal.After-self-2-1) → c.push.new.self.items ≡ c.self.inside.kept.items ++ last c ∷ []
items c =
    c.push.ensures.items
    ∙ ap (λ b. if b then c.reserve.new.self.items ++ last c ∷ [] else c.reserve.new.self.items) (ap is_ok c.unwrap.ensures)
    ∙ ap (λ ks. ks ++ last c ∷ []) c.reserve.ensures.items

pushed :
    (c : goal.After-self-2-1) → all_entries c.push.new.self.items c.in_ok-len.len ≡ before c
    ++ new_entry c.in_ok-place.place (fresh c) ∷ []
pushed c =
    ap (λ ks. all_entries ks c.in_ok-len.len) (items c)
    ∙ ap (λ n. all_entries (c.self.inside.kept.items ++ last c ∷ []) n) c.in_ok-len.ensures.0
    ∙ entries_pushed c.self.inside.kept.items c.self.inside.len (new_entry c.in_ok-place.place (fresh c))
    c.self.invariant.order

order : (c : goal.After-self-2-1) → AreInOrder 0 c.push.new.self.items c.in_ok-len.len
order c =
    let P : List RetainedEntry → Type 0 = λ ks. AreInOrder 0 ks c.in_ok-len.len in
    let more = c.in_ok-len.ensures.0 in
    subst P (sym (items c))
    (order_more 0 c.self.inside.len c.in_ok-len.len c.self.inside.kept.items (last c) c.self.invariant.order
    (omega arith) (omega (arith, more)))

puts : (c : goal.After-self-2-1)
    → Puts c.place_null.new.holders.items c.in_ok-place.place (length (before c)) c.hold.new.holders.items
puts c =
    let P : List ℕ → Type 0 = λ hs. Puts hs c.in_ok-place.place c.self.inside.len c.hold.new.holders.items in
    let Q : ℕ → Type 0 = λ k. Puts c.place_null.new.holders.items c.in_ok-place.place k c.hold.new.holders.items in
    subst Q (sym (entries_long c.self.inside.kept.items c.self.inside.len))
    (subst P c.reserve-2.ensures.items c.hold.ensures)

free : (c : goal.After-self-2-1) → IsFree c.place_null.new.holders.items (before c) c.in_ok-place.place
free c =
    let P : List ℕ → Type 0 = λ hs. IsFree hs (before c) c.in_ok-place.place in
    let Q : List RetainedEntry
    → Type 0 =
    λ ks. AreInOrder 0 ks c.self.inside.len
    → IsFree c.deref.result.now (all_entries ks c.self.inside.len) c.in_ok-place.place in
    subst P (c.deref.ensures.value ∙ c.reserve-2.ensures.items)
    (subst Q (c.deref-2.ensures.value ∙ c.reserve.ensures.items) (c.in-None.ensures c.self.inside.len)
    c.self.invariant.order)

pub invariant_of-self-2 : goal.invariant_of-self-2
invariant_of-self-2 c =
    let P : List Entry
    → Type 0 = λ es. IsIndex c.insert.new.self c.hold.new.holders.items es (c.self.inside.live + 1) in
    record {
      index = subst P (sym (pushed c))
          (index_pushed c.place_null.new.keys c.insert.new.self c.place_null.new.holders.items c.hold.new.holders.items
          (before c)
          c.self.inside.live c.in_ok-place.place c.args.key (fresh c) (start c).index (start c).some
          c.in_ok-place.ensures.place (free c) (puts c)
          (λ e. grind (arith, common_steps, e, c.len.ensures, ap length c.reserve-2.ensures.items)));
      order = order c;
      bound = c.in_ok-len.ensures.1;
    }

pub returns-clause-pushed : goal.returns-clause-pushed
returns-clause-pushed c = (
  subst (λ xs. IsUnused xs c.args.key) ((start c).same ∙ c.self.view_is)
      (unused_before c.place_null.new.keys c.insert.new.self c.place_null.new.holders.items
      (before c)
      c.self.inside.live
      c.in_ok-place.place c.args.key (start c).index c.distinct_law.ensures c.in_ok-place.ensures.place (free c)),
  ap (λ es. seen_all c.insert.new.self es) (pushed c)
      ∙ rows_pushed c.place_null.new.keys c.insert.new.self c.place_null.new.holders.items c.hold.new.holders.items
      (before c)
      c.self.inside.live c.in_ok-place.place c.args.key (fresh c) (start c).index c.in_ok-place.ensures.place (puts c)
      ∙ ap (λ xs. xs ++ numbered c.args.key true ∷ []) ((start c).same ∙ c.self.view_is),
)

abbrev before_there : goal.In-Some → List Entry
before_there c = all_entries c.self.inside.kept.items c.self.inside.len

started_there : (c : goal.In-Some)
    → Started c.self.inside.keys c.place_null.new.keys c.self.inside.holders.items c.place_null.new.holders.items
    (before_there c) c.self.inside.live
started_there c =
    started c.self.inside.keys c.place_null.new.keys c.self.inside.holders.items c.place_null.new.holders.items
    (before_there c) c.self.inside.live c.self.invariant.index c.in_ok-place_null.ensures.ok

holds : (c : goal.In-Some) → HoldsPlace (before_there c) c.in_ok-place.place c.in-Some.number
holds c =
    let Q : List RetainedEntry
    → Type 0 =
    λ ks. AreInOrder 0 ks c.self.inside.len
    → HoldsPlace (all_entries ks c.self.inside.len) c.in_ok-place.place c.in-Some.number in
    subst Q (c.deref-2.ensures.value ∙ c.reserve.ensures.items) (c.in-Some.ensures c.self.inside.len)
    c.self.invariant.order

there : (c : goal.In-Some)
    → (c.insert.new.self ≡ c.place_null.new.keys)
    × (slice_get c.place_null.new.keys c.in_ok-place.place ≡ Some c.args.key)
there c =
    key_there c.place_null.new.keys c.insert.new.self c.place_null.new.holders.items (before_there c)
    c.self.inside.live c.in_ok-place.place c.in-Some.number c.args.key (started_there c).index
    c.in_ok-place.ensures.place (holds c)

pub invariant_of-self-in-Some : goal.invariant_of-self-in-Some
invariant_of-self-in-Some c =
    rw ((there c).0, c.reserve-2.ensures.items, c.reserve.ensures.items) (record {
      index = (started_there c).index;
      order = c.self.invariant.order;
      bound = c.self.invariant.bound;
    })

pub returns-in-Some-clause-pushed : goal.returns-in-Some-clause-pushed
returns-in-Some-clause-pushed c =
    let P : List Numbered → Type 0 = λ xs. IsAt xs c.in-Some.number c.args.key true in (
      subst P ((started_there c).same ∙ c.self.view_is)
          (found_row c.place_null.new.keys c.place_null.new.holders.items (before_there c)
          c.self.inside.live c.in_ok-place.place c.args.key (Some c.in-Some.number) (started_there c).index
          c.distinct_law.ensures (there c).1 (holds c)),
      ap (λ ks. seen_all ks (all_entries c.reserve.new.self.items c.self.inside.len)) (there c).0
          ∙ ap (λ ks. seen_all c.place_null.new.keys (all_entries ks c.self.inside.len)) c.reserve.ensures.items
          ∙ (started_there c).same ∙ c.self.view_is,
    )

pub holder-requires : goal.holder-requires
holder-requires c =
    let P : List RetainedEntry → Type 0 = λ ks. AreInOrder 0 ks c.self.inside.len in
    (c.self.inside.len, subst P (sym (c.deref-2.ensures.value ∙ c.reserve.ensures.items)) c.self.invariant.order)

pub hold-requires-clause-within : goal.hold-requires-clause-within
hold-requires-clause-within c =
    let P : List ℕ → Type 0 = λ hs. c.in_ok-place.place ≤ length hs in
    let es = all_entries c.self.inside.kept.items c.self.inside.len in
    let st =
    started c.self.inside.keys c.place_null.new.keys c.self.inside.holders.items c.place_null.new.holders.items
    es c.self.inside.live c.self.invariant.index c.in_ok-place_null.ensures.ok in
    subst P (sym c.reserve-2.ensures.items)
    (place_within c.place_null.new.keys c.insert.new.self c.place_null.new.holders.items es
    c.self.inside.live c.in_ok-place.place c.args.key st.index c.in_ok-place.ensures.place)

pub invariant_of-self-in_err-reserve-2 : goal.invariant_of-self-in_err-reserve-2
invariant_of-self-in_err-reserve-2 c =
    let es = all_entries c.self.inside.kept.items c.self.inside.len in
    let st =
    started c.self.inside.keys c.place_null.new.keys c.self.inside.holders.items c.place_null.new.holders.items
    es c.self.inside.live c.self.invariant.index c.in_ok-place_null.ensures.ok in
    rw (c.reserve-2.ensures.items, c.reserve.ensures.items) (record {
      index = st.index;
      order = c.self.invariant.order;
      bound = c.self.invariant.bound;
    })
