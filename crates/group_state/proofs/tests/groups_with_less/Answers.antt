use Rattle.std.proofs.Common.{[], ◌∷◌, ◌∙◌, arith, refl, sym}
use Rattle.std.proofs.lemmas.List.Sums.{sum_by-append}
use Rattle.std.specs.Prelude.{cond, List}
use Rattle.values.specs.Datum.{Datum}
use Rattle.group_state.specs.Groups.{Keeps}
use Rattle.group_state.proofs.SampleFits.{one-up, part-of_one}
use Rattle.group_state.proofs.tests.groups_with_less.Goals as goal

pub come-requires : goal.come-requires
come-requires c = ((0, c.args.row.now) ∷ [], (c.in_ok-groups.ensures.kept, omega arith))

pub give_up-requires : goal.give_up-requires
give_up-requires c =
    let x : List Datum = c.args.other.now in
    let y : List Datum = c.args.row.now in
    let kept : Keeps c.come.new.self (y ∷ x ∷ []) =
    c.in_ok-come.ensures.kept ((0, y) ∷ []) 1 (one-up y) refl c.in_ok-groups.ensures.kept in
    let part =
    part-of_one c.in_ok-ones.ones c.come.new.self.keys c.come.new.self.columns c.in_ok-tuple.tuple
    c.in-Some.group.now x (y ∷ x ∷ []) (y ∷ [])
    (c.in_ok-ones.ensures.keys ∙ sym (c.come.ensures.keys ∙ c.in_ok-groups.ensures.keys))
    (c.in_ok-ones.ensures.columns ∙ sym (c.come.ensures.columns ∙ c.in_ok-groups.ensures.columns))
    c.in_ok-ones.ensures.kept
    c.in_ok-tuple.ensures
    (sym c.in-Some.ensures)
    (λ p. let h = sum_by-append (λ (r : List Datum). cond (p r) 1 0) (y ∷ []) (x ∷ []) in omega (arith, h)) in
    record { part = (y ∷ x ∷ [], x ∷ [], y ∷ [], (kept, part)) }
