use Rattle.std.proofs.Common.{ap, ◌∙◌}
use Rattle.std.specs.Map.{values_of}
use Rattle.std.proofs.lemmas.Map.Entries.{length-values_of}
use Rattle.view_lang.specs.Shifts.{patched}
use Rattle.view_lang.specs.Counted.{counted}
use Rattle.group_state.proofs.Same.{keeps-same}
use Rattle.group_state.proofs.Touched.{untouched}
use Rattle.group_state.specs.Touched.{goes}
use Rattle.std.specs.List.{list_any}
use Rattle.group_state.proofs.groups.Groups.apply_change.Goals as goal

pub add_all-requires : goal.add_all-requires
add_all-requires c =
    rw c.rows.ensures (values_of c.requires.0, (c.requires.1.0, rw length-values_of c.requires.1.1.1))

pub remove_all-requires : goal.remove_all-requires
remove_all-requires c =
    let k = rw c.rows.ensures at (c.in_ok-add_all.ensures.kept (values_of c.requires.0) c.requires.1.0) in
    rw c.rows-2.ensures (
      values_of (patched c.requires.0 c.args.change.now),
      keeps-same _ _
          (counted c.requires.0 c.args.change.now c.requires.1.1.0) c.add_all.new.self k,
    )

pub returns-clause-kept : goal.returns-clause-kept
returns-clause-kept c = λ rows fits k.
    let h = rw c.rows.ensures at (c.in_ok-add_all.ensures.kept (values_of rows) k) in
    let r = rw c.rows-2.ensures at (c.in_ok-remove_all.ensures.kept (values_of (patched rows c.args.change.now))) in
    r (keeps-same _ _ (counted rows c.args.change.now fits) c.add_all.new.self h)

pub returns-clause-others : goal.returns-clause-others
returns-clause-others c = λ t n.
    let a = rw c.rows.ensures at c.in_ok-add_all.ensures.others in
    let r = rw c.rows-2.ensures at c.in_ok-remove_all.ensures.others in
    let u = untouched c.args.self.now.keys t c.args.change.now n in
    r t (ap (λ ks. list_any (goes ks t) c.args.change.now) c.add_all.ensures.keys ∙ u.0) ∙ a t u.1
