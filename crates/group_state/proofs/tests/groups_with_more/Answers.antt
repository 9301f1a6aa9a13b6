use Rattle.std.proofs.Common.{[], ◌∷◌, ◌∙◌, arith, sym}
use Rattle.std.proofs.lemmas.List.Sums.{sum_by-append}
use Rattle.std.specs.Prelude.{cond, List}
use Rattle.values.specs.Datum.{Datum}
use Rattle.group_state.proofs.SampleFits.{part-of_one}
use Rattle.group_state.proofs.tests.groups_with_more.Goals as goal

pub take_in-requires : goal.take_in-requires
take_in-requires c =
    let x : List Datum = c.args.other.now in
    let y : List Datum = c.args.row.now in
    let part =
    part-of_one c.in_ok-ones.ones c.in_ok-groups.groups.keys c.in_ok-groups.groups.columns c.in_ok-tuple.tuple
    c.in-Some.group.now x (x ∷ y ∷ []) (y ∷ []) (c.in_ok-ones.ensures.keys ∙ sym c.in_ok-groups.ensures.keys)
    (c.in_ok-ones.ensures.columns ∙ sym c.in_ok-groups.ensures.columns) c.in_ok-ones.ensures.kept
    c.in_ok-tuple.ensures
    (sym c.in-Some.ensures) (λ p. sum_by-append (λ (r : List Datum). cond (p r) 1 0) (x ∷ []) (y ∷ [])) in
    record { part = (x ∷ y ∷ [], x ∷ [], y ∷ [], (c.in_ok-groups.ensures.kept, (part, omega arith))) }
