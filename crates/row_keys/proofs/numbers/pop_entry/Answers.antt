use Rattle.std.proofs.Common.{List, false, subst, true}
use Rattle.row_keys.specs.Entries.{EndsAt}
use Rattle.row_keys.specs.declared.numbers.RetainedEntry.{RetainedEntry}
use Rattle.row_keys.proofs.RetainedEntries.{none_popped, one_popped}
use Rattle.row_keys.proofs.numbers.pop_entry.Goals as goal

pub returns-then-not-ends_at : goal.returns-then-not-ends_at
returns-then-not-ends_at c =
    let P : List RetainedEntry → Type 0 = λ ks. EndsAt ks c.args.last false in
    let popped =
    none_popped c.args.kept.now.items c.args.last c.requires (subst P c.deref.ensures.value c.if-not-ends_at.ensures) in
    record { order = popped.0; entries = popped.1 }

pub returns : goal.returns
returns c =
    let P : List RetainedEntry → Type 0 = λ ks. EndsAt ks c.args.last true in
    let ends = subst P c.deref.ensures.value c.if-not-ends_at.ensures in
    let popped =
    one_popped c.args.kept.now.items c.pop.new.self.items ends.0 c.args.last ends.1 c.in-Some.one c.requires ends.2
    ends.3 c.in-Some.ensures.items in
    record { order = popped.0; entries = popped.1 }
