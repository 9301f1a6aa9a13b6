use Rattle.std.proofs.Common.{All, OnOk, refl, subst, sym, ◌<◌, ◌^◌, List}
use Rattle.values.specs.Datum.{Datum}
use Rattle.values.specs.Layouts.{Holds}
use Rattle.values.specs.Weights.{weights}
use Rattle.body_writer.specs.Columns.{buffers, nodes}
use Rattle.body_writer.specs.Grows.{Grows}
use Rattle.body_writer.proofs.LocatedColumns.{ready-cells, ready-fits}
use Rattle.body_writer.proofs.from_locations.write.write_located.Goals as goal

pub write_gathered-requires-clause-fits : goal.write_gathered-requires-clause-fits
write_gathered-requires-clause-fits c =
    ready-fits c.args.layout.now c.args.column.now c.deref.result.now c.args.column.now.rows.locations.now
    c.deref.ensures.value refl (c.is_gathered.ensures c.if-is_gathered.true) c.requires.column

pub write_gathered-requires-clause-held : goal.write_gathered-requires-clause-held
write_gathered-requires-clause-held c =
    subst (All (Holds c.args.layout.now))
    (ready-cells c.args.layout.now c.args.column.now c.deref.result.now c.args.column.now.rows.locations.now
    c.deref.ensures.value refl (c.is_gathered.ensures c.if-is_gathered.true) c.requires.column) c.requires.held

pub write_gathered-requires-clause-light : goal.write_gathered-requires-clause-light
write_gathered-requires-clause-light c =
    subst (λ ds. weights c.args.layout.now ds < 2 ^ 31)
    (ready-cells c.args.layout.now c.args.column.now c.deref.result.now c.args.column.now.rows.locations.now
    c.deref.ensures.value refl (c.is_gathered.ensures c.if-is_gathered.true) c.requires.column) c.requires.light

pub returns-then-is_gathered : goal.returns-then-is_gathered
returns-then-is_gathered c =
    let P : List Datum → Type 0 = λ ds. OnOk c.write_gathered.result
    (Grows c.args.body.now c.write_gathered.new.body (nodes c.args.layout.now ds) (buffers c.args.layout.now ds)) in
    subst P
    (sym
    (ready-cells c.args.layout.now c.args.column.now c.deref.result.now c.args.column.now.rows.locations.now
    c.deref.ensures.value refl (c.is_gathered.ensures c.if-is_gathered.true) c.requires.column)) c.write_gathered.ensures
