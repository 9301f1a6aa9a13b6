use Rattle.std.proofs.Common.{◌≡◌, ℕ, None, Vec, subst}
use Rattle.std.specs.Prelude.{IfErr, IfOk, OnOk}
use Rattle.std.specs.declared.alloc.Global.{Global}
use Rattle.view_lang.specs.Causes.{cause_of}
use Rattle.view_lang.specs.Edits.{retract}
use Rattle.row_keys.specs.Found.{FindsAll, MissesKey}
use Rattle.row_keys.specs.Slots.{CanRetract, contents_of, keys_at}
use Rattle.row_keys.specs.Store.{Refuses, Store}
use Rattle.row_keys.specs.Stored.{joined}
use Rattle.row_keys.proofs.FoundRows.{found_can, found_fits, found_keys, keys_refused, keys_unknown}
use Rattle.row_keys.proofs.Results.{if_err, if_ok, on_ok}
use Rattle.row_keys.proofs.store.RowStore.find_each.Goals as goal

pub returns-in-Ok-clause-numbers : goal.returns-in-Ok-clause-numbers
returns-in-Ok-clause-numbers c =
    let pushed = c.in-Ok.ensures.pushed.1 in
    let P : Store → Type 0 = λ s. IfOk c.find_keys.result (λ ns. CanRetract ns.items s.slots) in
    subst P c.self.view_is
    (if_ok (λ (ns : Vec ℕ Global). FindsAll c.args.keys.now.cells c.self.inside.numbers ns.items)
    (λ ns. CanRetract ns.items
    (joined c.self.inside.rows c.self.inside.numbers))
    c.find_keys.result
    (λ ns h. found_can c.self.inside.table c.self.inside.rows
    c.args.keys.now.cells c.self.inside.numbers ns.items c.self.invariant.keyed h pushed.single)
    c.find_keys.ensures.found)

pub returns-in-Ok-clause-keys : goal.returns-in-Ok-clause-keys
returns-in-Ok-clause-keys c =
    let P : Store
    → Type 0 = λ s. IfOk c.find_keys.result (λ ns. keys_at s.table ns.items s.slots ≡ c.args.keys.now.cells) in
    subst P c.self.view_is
    (if_ok (λ (ns : Vec ℕ Global). FindsAll c.args.keys.now.cells c.self.inside.numbers ns.items)
    (λ ns. keys_at c.self.inside.table ns.items
    (joined c.self.inside.rows
    c.self.inside.numbers) ≡ c.args.keys.now.cells) c.find_keys.result
    (λ ns h. found_keys c.self.inside.table c.self.inside.rows
    c.args.keys.now.cells c.self.inside.numbers ns.items c.self.invariant.keyed h)
    c.find_keys.ensures.found)

pub returns-in-Ok-clause-fits : goal.returns-in-Ok-clause-fits
returns-in-Ok-clause-fits c =
    let rows = c.in-Ok.ensures.pushed.0 in
    let pushed = c.in-Ok.ensures.pushed.1 in
    let P : Store
    → Type 0 =
    λ s. OnOk c.find_keys.result (cause_of s.table (contents_of s.slots) (retract c.args.keys.now.cells) ≡ None) in
    subst P c.self.view_is
    (on_ok (λ (ns : Vec ℕ Global). FindsAll c.args.keys.now.cells c.self.inside.numbers ns.items)
    (cause_of c.self.inside.table
    (contents_of (joined c.self.inside.rows c.self.inside.numbers))
    (retract c.args.keys.now.cells) ≡ None) c.find_keys.result
    (λ ns h. found_fits c.self.inside.table c.self.inside.rows
    c.self.inside.numbers rows c.args.keys.now.cells ns.items c.self.invariant pushed h)
    c.find_keys.ensures.found)

pub returns-in-Ok-clause-refused : goal.returns-in-Ok-clause-refused
returns-in-Ok-clause-refused c =
    let rows = c.in-Ok.ensures.pushed.0 in
    let pushed = c.in-Ok.ensures.pushed.1 in
    let P : Store
    → Type 0 =
    λ s. IfErr c.find_keys.result (Refuses (cause_of s.table (contents_of s.slots) (retract c.args.keys.now.cells))) in
    subst P c.self.view_is
    (if_err (MissesKey c.args.keys.now.cells c.self.inside.numbers)
    (Refuses
    (cause_of c.self.inside.table
    (contents_of (joined c.self.inside.rows c.self.inside.numbers))
    (retract c.args.keys.now.cells)))
    c.find_keys.result
    (λ e h. keys_unknown c.self.inside.table c.self.inside.rows
    c.self.inside.numbers rows c.args.keys.now.cells e c.self.invariant pushed h)
    c.find_keys.ensures.missed)

pub returns-in-Err-clause-refused : goal.returns-in-Err-clause-refused
returns-in-Err-clause-refused c =
    keys_refused c.args.self.now.table (contents_of c.args.self.now.slots) c.args.keys.now.cells c.in-Err.fault
    c.in-Err.ensures.refused
