use Rattle.std.proofs.Common.{ℕ, List, subst, sym, true}
use Rattle.std.specs.Prelude.{MatchOption}
use Rattle.row_keys.specs.Entries.{AreInOrder, all_entries}
use Rattle.row_keys.specs.declared.numbers.RetainedEntry.{RetainedEntry}
use Rattle.row_keys.specs.Index.{HoldsPlace, IsFree}
use Rattle.row_keys.specs.Numbers.{IsAt, IsUnused, Numbered}
use Rattle.row_keys.proofs.Indexes.{found_row, no_row}
use Rattle.row_keys.proofs.numbers.Numbers.find.Goals as goal

pub returns-in-Some : goal.returns-in-Some
returns-in-Some c =
    let P : List ℕ
    → Type 0 =
    λ hs. MatchOption c.holder.result
    (IsFree hs (all_entries c.self.inside.kept.items c.self.inside.len) c.in-Some.place)
    (HoldsPlace (all_entries c.self.inside.kept.items c.self.inside.len) c.in-Some.place) in
    let Q : List RetainedEntry
    → Type 0 =
    λ ks. AreInOrder 0 ks c.self.inside.len
    → MatchOption c.holder.result (IsFree c.deref.result.now (all_entries ks c.self.inside.len) c.in-Some.place)
    (HoldsPlace (all_entries ks c.self.inside.len) c.in-Some.place) in
    let R : List Numbered → Type 0 =
    λ xs. MatchOption c.holder.result (IsUnused xs c.args.key.now) (λ n. IsAt xs n c.args.key.now true) in
    subst R c.self.view_is
    (found_row c.self.inside.keys c.self.inside.holders.items (all_entries c.self.inside.kept.items c.self.inside.len)
    c.self.inside.live c.in-Some.place c.args.key.now
    c.holder.result c.self.invariant.index c.distinct_law.ensures c.in-Some.ensures
    (subst P c.deref.ensures.value
    (subst Q c.deref-in-Some.ensures.value (c.holder.ensures c.self.inside.len) c.self.invariant.order)))

pub returns-in-None : goal.returns-in-None
returns-in-None c =
    subst (λ xs. IsUnused xs c.args.key.now) c.self.view_is
    (no_row c.self.inside.keys c.self.inside.holders.items (all_entries c.self.inside.kept.items c.self.inside.len)
    c.self.inside.live c.args.key.now c.self.invariant.index c.in-None.ensures)

pub holder-requires : goal.holder-requires
holder-requires c =
    let P : List RetainedEntry → Type 0 = λ ks. AreInOrder 0 ks c.self.inside.len in
    (c.self.inside.len, subst P (sym c.deref-in-Some.ensures.value) c.self.invariant.order)
