use Rattle.std.proofs.Common.{◌≡◌, List, ap, arith, rules, subst, sym, ◌∙◌, ◌+◌, ◌-◌, ◌++◌, [], ◌∷◌, length, take}
use Rattle.std.specs.Prelude.{if◌then◌else◌}
use Rattle.row_keys.specs.Entries.{all_entries}
use Rattle.row_keys.specs.declared.numbers.Entry.{Entry}
use Rattle.row_keys.specs.Index.{IsIndex, seen_all}
use Rattle.row_keys.proofs.IndexChanges.{index_popped, kept_below, kept_within, live_covers, rows_popped}
use Rattle.row_keys.proofs.numbers.Numbers.pop.Goals as goal

abbrev rest : goal.After-self-2-1 → List Entry
rest c = all_entries c.pop_entry-entry.new.kept.items (c.self.inside.len - 1)

more : (c : goal.After-self-2-1) → c.self.inside.len ≡ (c.self.inside.len - 1) + 1
more c = let some = c.if-self-eq0.false in omega (arith, some)

split :
    (c : goal.After-self-2-1) → all_entries c.self.inside.kept.items c.self.inside.len ≡ rest c
    ++ c.pop_entry-entry.result ∷ []
split c = ap (λ n. all_entries c.self.inside.kept.items n) (more c) ∙ c.pop_entry-entry.ensures.entries

all : (c : goal.After-self-2-1)
    → IsIndex c.self.inside.keys c.self.inside.holders.items (rest c ++ c.pop_entry-entry.result ∷ []) c.self.inside.live
all c =
    let P : List Entry → Type 0 = λ es. IsIndex c.self.inside.keys c.self.inside.holders.items es c.self.inside.live in
    subst P (split c) c.self.invariant.index

which :
    (c : goal.After-self-2-1) → c.keys_left-keys.result ≡ (if c.pop_entry-entry.result.is_new then c.pop_entry-entry.result.key
    else length c.self.inside.holders.items)
which c = search rules

pub overflow_sub-self : goal.overflow_sub-self
overflow_sub-self c =
    let P : List Entry → Type 0 = λ es. IsIndex c.self.inside.keys c.self.inside.holders.items es c.self.inside.live in
    let some = c.if-self-eq0.false in
    let more : c.self.inside.len ≡ (c.self.inside.len - 1) + 1 = omega (arith, some) in
    let split = ap (λ n. all_entries c.self.inside.kept.items n) more ∙ c.pop_entry-entry.ensures.entries in
    let covered =
    live_covers c.self.inside.keys c.self.inside.holders.items
    (all_entries c.pop_entry-entry.new.kept.items (c.self.inside.len - 1)) c.pop_entry-entry.result
    c.self.inside.live (subst P split c.self.invariant.index) in
    omega (arith, covered, c.count.ensures)

pub invariant_of-self : goal.invariant_of-self
invariant_of-self c =
    let few = c.self.invariant.bound in
    rw (c.truncate.ensures, c.truncate-2.ensures.items, c.count.ensures)
    (record {
      index = index_popped c.self.inside.keys c.self.inside.holders.items (rest c) c.pop_entry-entry.result
          c.self.inside.live c.keys_left-keys.result (all c)
          (kept_within c.self.inside.keys c.self.inside.holders.items (rest c) c.pop_entry-entry.result
          c.self.inside.live c.keys_left-keys.result (all c) (which c))
          (kept_below c.self.inside.keys c.self.inside.holders.items (rest c) c.pop_entry-entry.result
          c.self.inside.live c.keys_left-keys.result (all c) (which c));
      order = c.pop_entry-entry.ensures.order;
      bound = omega (arith, few);
    })

pub returns : goal.returns
returns c =
    ap (λ ks. seen_all ks (rest c)) c.truncate.ensures
    ∙ rows_popped c.self.inside.keys (rest c) c.pop_entry-entry.result c.keys_left-keys.result
    (kept_below c.self.inside.keys c.self.inside.holders.items (rest c) c.pop_entry-entry.result c.self.inside.live
    c.keys_left-keys.result (all c) (which c))
    ∙ ap (λ es. take (length (seen_all c.self.inside.keys es) - 1) (seen_all c.self.inside.keys es))
    (sym (split c))
    ∙ ap (λ xs. take (length xs - 1) xs) c.self.view_is
