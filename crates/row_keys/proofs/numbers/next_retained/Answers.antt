use Rattle.std.proofs.Common.{◌≡◌, ◌∙◌, Some, ap, arith, length, sym}
use Rattle.std.specs.Prelude.{slice_get}
use Rattle.std.proofs.lemmas.Bool.{ltb-false, ltb-true}
use Rattle.std.proofs.lemmas.Option.{get_or_from_slice_get, slice_get-get_or, slice_get_within}
use Rattle.row_keys.specs.declared.numbers.RetainedEntry.{RetainedEntry}
use Rattle.row_keys.proofs.RetainedEntries.{gone_between, next_from, number_within}
use Rattle.row_keys.proofs.numbers.next_retained.Goals as goal

pub returns-in-Some-clause-within : goal.returns-in-Some-clause-within
returns-in-Some-clause-within c =
    let ks = c.args.kept.now in
    let p = c.count_below.result in
    let one = c.in-Some.one.now in
    let inside = ltb-true p (length ks) (sym c.in-Some.ensures.lookup.0) in
    let there : slice_get ks p ≡ Some one =
    slice_get-get_or ks p one inside ∙ ap Some (sym c.in-Some.ensures.lookup.1) in
    let below = number_within 0 c.args.len p ks one c.requires.order there in
    omega (arith, below)

pub returns-in-Some-clause-from : goal.returns-in-Some-clause-from
returns-in-Some-clause-from c =
    let ks = c.args.kept.now in
    let p = c.count_below.result in
    let one = c.in-Some.one.now in
    let inside = ltb-true p (length ks) (sym c.in-Some.ensures.lookup.0) in
    next_from ks c.args.number p one c.count_below.ensures
    (slice_get-get_or ks p one inside ∙ ap Some (sym c.in-Some.ensures.lookup.1))

pub returns-in-Some-clause-gone : goal.returns-in-Some-clause-gone
returns-in-Some-clause-gone c =
    let ks = c.args.kept.now in
    let p = c.count_below.result in
    let one = c.in-Some.one.now in
    gone_between ks c.args.len c.args.number p one.number c.requires.order c.count_below.ensures
    (λ k there.
    let same : one ≡ k = c.in-Some.ensures.lookup.1 ∙ get_or_from_slice_get ks p k one there in
    omega (arith, ap (λ (x : RetainedEntry). x.number) same))

pub returns-in-None-clause-gone : goal.returns-in-None-clause-gone
returns-in-None-clause-gone c =
    let ks = c.args.kept.now in
    let p = c.count_below.result in
    gone_between ks c.args.len c.args.number p c.args.len c.requires.order c.count_below.ensures
    (λ k there.
    let within = slice_get_within ks p k there in
    let past = ltb-false p (length ks) (sym c.in-None.ensures.lookup.0) in
    absurd (omega (arith, within, past)))
