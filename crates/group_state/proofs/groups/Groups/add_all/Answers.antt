use Rattle.std.proofs.Common.{sym, ◌∙◌, List, arith, subst, take}
use Rattle.values.specs.Datum.{Datum}
use Rattle.view_lang.specs.Shifts.{Shift, with_afters}
use Rattle.group_state.specs.Groups.{Keeps}
use Rattle.std.proofs.lemmas.List.{take_all}
use Rattle.group_state.proofs.Steps.{afters-more, afters-few}
use Rattle.group_state.proofs.Touched.{stay-more}
use Rattle.group_state.specs.Touched.{StayBut, comes}
use Rattle.std.specs.List.{list_any}
use Rattle.std.proofs.lemmas.List.{take_all as all_taken}
use Rattle.group_state.proofs.groups.Groups.add_all.Goals as goal

pub add_after-requires : goal.add_after-requires
add_after-requires c =
    let few = afters-few c.args.changes.now c.loop-changed.changed-index c.requires.0 (omega arith) in
    let room = c.requires.1.1 in (
      with_afters (take c.loop-changed.changed-index c.args.changes.now) c.requires.0,
      (c.loop-changed.invariant.0 c.requires.0 c.requires.1.0, omega (arith, few, room)),
    )

pub loop-changed-preserved : goal.loop-changed-preserved
loop-changed-preserved c = (
  λ rows k.
      let P : List (List Datum) → Type 0 = λ xs. Keeps c.add_after.new.self xs in
      subst P (sym
      (afters-more c.args.changes.now c.loop-changed.changed-index c.changed-item.result rows c.loop-changed-test.true
      c.changed-item.is))
      (c.in_ok-add_after.ensures.kept (with_afters (take c.loop-changed.changed-index c.args.changes.now) rows)
      (c.loop-changed.invariant.0 rows k)),
  (
    c.add_after.ensures.keys ∙ c.loop-changed.invariant.1.0,
    (
      c.add_after.ensures.columns ∙ c.loop-changed.invariant.1.1.0,
      stay-more comes c.args.self.now c.loop-changed.self c.add_after.new.self c.args.changes.now c.loop-changed.changed-index _
          c.changed-item.result c.loop-changed-test.true c.changed-item.is c.loop-changed.invariant.1.0
          c.loop-changed.invariant.1.1.1 c.in_ok-add_after.ensures.others,
    ),
  ),
)

pub returns-clause-kept : goal.returns-clause-kept
returns-clause-kept c = λ rows k.
    let P : List Shift → Type 0 = λ es. Keeps c.loop-changed.self (with_afters es rows) in
    subst P (take_all c.loop-changed.changed-index c.args.changes.now c.loop-changed-test.false)
    (c.loop-changed.invariant.0 rows k)

pub returns-clause-others : goal.returns-clause-others
returns-clause-others c =
    subst (λ (es : List Shift). StayBut (λ t. list_any (comes c.args.self.now.keys t) es) c.args.self.now
    c.loop-changed.self) (all_taken c.loop-changed.changed-index c.args.changes.now c.loop-changed-test.false)
    c.loop-changed.invariant.1.1.1
