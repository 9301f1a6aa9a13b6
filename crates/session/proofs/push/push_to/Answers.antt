use Rattle.std.proofs.Common.{◌<◌, Err, ap, arith, length, subst, sym, ◌∙◌}
use Rattle.std.proofs.lemmas.Result.{err_from_is_err_and}
use Rattle.view_lang.specs.Edits.{table_of}
use Rattle.view_lang.specs.declared.config.Role.{Role}
use Rattle.upkeep.specs.Stores.{rows_in, tables_in}
use Rattle.session.proofs.Pushes.{
  event_typed,
  fault_shown,
  memory_shown,
  message_shown,
  part_shown,
  some_bytes,
  unfit_shown,
}
use Rattle.upkeep.specs.StoreLaws.{tables_length}
use Rattle.session.proofs.push.push_to.Goals as goal

pub returns-in_err-fed-clause-pushes : goal.returns-in_err-fed-clause-pushes
returns-in_err-fed-clause-pushes c = λ past d shows shown.
    let failed = err_from_is_err_and c.from_residual.result c.from_residual.ensures.1 in
    let goes = sym (c.is_broken.ensures.shown d.fed shown.feed) ∙ c.if-is_broken.false in
    let some = some_bytes (length c.args.piece.now) c.is_empty.result c.is_empty.ensures c.if-is_empty.false in
    fault_shown (tables_in c.args.tables.now.stores) past d c.args.link.now c.args.piece.now c.in_err-fed.field-0.0
    c.prepare.new.self
    c.from_residual.result
    (rows_in c.args.tables.now.stores) c.args.records.now.items goes some (failed.1
    ∙ ap (λ e. Err e) failed.2) c.in_err-fed.ensures.answer
    c.in_err-fed.ensures.fault shows shown

pub returns-in_default-clause-pushes : goal.returns-in_default-clause-pushes
returns-in_default-clause-pushes c = λ past d shows shown.
    let goes = sym (c.is_broken.ensures.shown d.fed shown.feed) ∙ c.if-is_broken.false in
    let some = some_bytes (length c.args.piece.now) c.is_empty.result c.is_empty.ensures c.if-is_empty.false in
    part_shown (tables_in c.args.tables.now.stores) past d c.args.link.now c.args.piece.now c.in_ok-fed.fed
    c.prepare.new.self
    c.commit.new.self
    (rows_in c.args.tables.now.stores) c.args.records.now.items goes some c.in_default.is c.in_ok-fed.ensures.answer
    c.in_ok-fed.ensures.leads
    c.commit.ensures.change shows shown

pub respond-requires-clause-there : goal.respond-requires-clause-there
respond-requires-clause-there c =
    let many = tables_length c.args.tables.now.stores in
    let there : table_of c.requires.link.0.role < length c.args.tables.now.stores =
    omega (arith, c.requires.link.1.there, many) in
    subst (λ (r : Role). table_of r < length c.args.tables.now.stores) (sym c.requires.link.1.role) there

pub respond-requires-clause-batch : goal.respond-requires-clause-batch
respond-requires-clause-batch c =
    event_typed c.logical_law.ensures.trees c.logical_law.ensures.cells c.logical_law.ensures.weights
    (tables_in c.args.tables.now.stores) c.requires.link.0
    c.args.link.now c.args.piece.now c.in_ok-fed.fed c.in-Some.event c.prepare.new.self c.in-Some.is
    c.in_ok-fed.ensures.leads
    c.in_ok-fed.ensures.typed c.requires.link.1

pub returns-in-Ok-clause-pushes : goal.returns-in-Ok-clause-pushes
returns-in-Ok-clause-pushes c = λ past d shows shown.
    let goes = sym (c.is_broken.ensures.shown d.fed shown.feed) ∙ c.if-is_broken.false in
    let some = some_bytes (length c.args.piece.now) c.is_empty.result c.is_empty.ensures c.if-is_empty.false in
    message_shown (tables_in c.args.tables.now.stores) past d c.args.link.now c.args.piece.now c.in_ok-fed.fed
    c.in-Some.event
    (rows_in c.args.tables.now.stores)
    (rows_in c.respond.new.tables.stores) c.args.records.now.items c.respond.new.records.items c.in-Ok.kind
    c.prepare.new.self
    c.commit-in-Ok.new.self goes
    some c.in-Some.is c.in_ok-fed.ensures.answer c.in_ok-fed.ensures.leads c.commit-in-Ok.ensures.change
    c.in-Ok.ensures.takes shows shown

pub returns-in-Err-Unfit-clause-pushes : goal.returns-in-Err-Unfit-clause-pushes
returns-in-Err-Unfit-clause-pushes c = λ past d shows shown.
    let goes = sym (c.is_broken.ensures.shown d.fed shown.feed) ∙ c.if-is_broken.false in
    let some = some_bytes (length c.args.piece.now) c.is_empty.result c.is_empty.ensures c.if-is_empty.false in
    let takes = rw c.in-Err-Unfit.field-0-is at c.in-Err-Unfit.ensures.takes in
    let saturated = ap (λ x. Err (record { cause = x; used = c.in_ok-fed.fed.used })) c.from.ensures in
    unfit_shown (tables_in c.args.tables.now.stores) past d c.args.link.now c.args.piece.now c.in_ok-fed.fed
    c.in-Some.event
    (rows_in c.args.tables.now.stores)
    (rows_in c.respond.new.tables.stores) c.args.records.now.items c.respond.new.records.items c.in-Err-Unfit.unfit
    (Err (record { cause = c.from.result; used = c.in_ok-fed.fed.used })) c.prepare.new.self
    c.commit-in-Err-Unfit.new.self goes some c.in-Some.is c.in_ok-fed.ensures.answer c.in_ok-fed.ensures.leads
    c.commit-in-Err-Unfit.ensures.change takes saturated shows shown

pub returns-in-Err-Memory-clause-pushes : goal.returns-in-Err-Memory-clause-pushes
returns-in-Err-Memory-clause-pushes c = λ past d shows shown.
    let goes = sym (c.is_broken.ensures.shown d.fed shown.feed) ∙ c.if-is_broken.false in
    let some = some_bytes (length c.args.piece.now) c.is_empty.result c.is_empty.ensures c.if-is_empty.false in
    let takes = rw c.in-Err-Memory.field-0-is at c.in-Err-Memory.ensures.takes in
    memory_shown (tables_in c.args.tables.now.stores) past d c.args.link.now c.args.piece.now c.in_ok-fed.fed
    c.in-Some.event
    (rows_in c.args.tables.now.stores)
    (rows_in c.respond.new.tables.stores) c.args.records.now.items c.respond.new.records.items _ c.prepare.new.self goes
    some
    c.in-Some.is
    c.in_ok-fed.ensures.or_memory c.in_ok-fed.ensures.same takes (ap (λ x. Err x) c.of-in-Err-Memory.ensures) shows
    shown
