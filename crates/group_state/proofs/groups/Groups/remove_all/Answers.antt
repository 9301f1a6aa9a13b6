use Rattle.std.proofs.Common.{◌∙◌, List, subst, ◌+◌, drop}
use Rattle.values.specs.Datum.{Datum}
use Rattle.view_lang.specs.Shifts.{Shift, with_befores}
use Rattle.group_state.specs.Groups.{Keeps}
use Rattle.std.proofs.Math.ListN.{drop_of_length-le}
use Rattle.group_state.proofs.Steps.{befores-more}
use Rattle.group_state.proofs.Touched.{stay-more}
use Rattle.group_state.specs.Touched.{StayBut, goes}
use Rattle.std.specs.List.{list_any}
use Rattle.std.proofs.lemmas.List.{take_all as all_taken}
use Rattle.group_state.proofs.groups.Groups.remove_all.Goals as goal

pub remove_before-requires : goal.remove_before-requires
remove_before-requires c =
    let P : List (List Datum) → Type 0 = λ xs. Keeps c.loop-changed.self xs in (
      with_befores (drop (c.loop-changed.changed-index + 1) c.args.changes.now) c.requires.0,
      subst P (befores-more c.args.changes.now c.loop-changed.changed-index c.changed-item.result c.requires.0
          c.loop-changed-test.true c.changed-item.is)
          (c.loop-changed.invariant.0 c.requires.0 c.requires.1),
    )

pub loop-changed-preserved : goal.loop-changed-preserved
loop-changed-preserved c = (
  λ rows k.
      let P : List (List Datum) → Type 0 = λ xs. Keeps c.loop-changed.self xs in
      c.in_ok-remove_before.ensures.kept (with_befores (drop (c.loop-changed.changed-index + 1) c.args.changes.now)
      rows)
      (subst P (befores-more c.args.changes.now c.loop-changed.changed-index c.changed-item.result rows
      c.loop-changed-test.true c.changed-item.is) (c.loop-changed.invariant.0 rows k)),
  (
    c.remove_before.ensures.keys ∙ c.loop-changed.invariant.1.0,
    (
      c.remove_before.ensures.columns ∙ c.loop-changed.invariant.1.1.0,
      stay-more goes c.args.self.now c.loop-changed.self c.remove_before.new.self c.args.changes.now c.loop-changed.changed-index _
          c.changed-item.result c.loop-changed-test.true c.changed-item.is c.loop-changed.invariant.1.0
          c.loop-changed.invariant.1.1.1 c.in_ok-remove_before.ensures.others,
    ),
  ),
)

pub returns-clause-kept : goal.returns-clause-kept
returns-clause-kept c = λ rows k.
    let P : List Shift → Type 0 = λ es. Keeps c.loop-changed.self (with_befores es rows) in
    subst P (drop_of_length-le c.args.changes.now c.loop-changed-test.false) (c.loop-changed.invariant.0 rows k)

pub returns-clause-others : goal.returns-clause-others
returns-clause-others c =
    subst (λ (es : List Shift). StayBut (λ t. list_any (goes c.args.self.now.keys t) es) c.args.self.now
    c.loop-changed.self) (all_taken c.loop-changed.changed-index c.args.changes.now c.loop-changed-test.false)
    c.loop-changed.invariant.1.1.1
