use Rattle.std.proofs.Common.{◌++◌, ap}
use Rattle.indexmap.specs.IndexMap.{spare}
use Rattle.schema_meta.specs.Stage.{Whole}
use Rattle.schema_meta.specs.Sound.{after}
use Rattle.messages.specs.State.{known_of, whole_seen}
use Rattle.messages.proofs.Sounds.{first_sound}
use Rattle.messages.proofs.Streams.{next_fits, schema_known, used_within, used_some}
use Rattle.messages.proofs.Framers.{message_ready}
use Rattle.messages.proofs.stream.Framer.prepare.Goals as goal

pub schema_after-requires : goal.schema_after-requires
schema_after-requires c =
    let e = rw c.in-Whole.is at c.in_ok-wanted.ensures.ok in
    schema_known _ c.in-Whole.found.metadata.header c.in-Whole.found.metadata.body
    (first_sound (known_of c.self.inside.state) (c.truncate.new.self.items ++ c.args.piece.now)
    (whole_seen c.in-Whole.found) c.self.invariant.stream.small e.0).0

pub count-requires : goal.count-requires
count-requires c =
    let e = rw c.in-Whole.is at c.in_ok-wanted.ensures.ok in
    (first_sound (known_of c.self.inside.state) (c.truncate.new.self.items ++ c.args.piece.now)
    (whole_seen c.in-Whole.found) c.self.invariant.stream.small e.0).2

pub returns-in_ok-count-in-Whole-clause-used : goal.returns-in_ok-count-in-Whole-clause-used
returns-in_ok-count-in-Whole-clause-used c =
    let e = rw c.in-Whole.is at c.in_ok-wanted.ensures.ok in
    used_within (known_of c.self.inside.state) c.truncate.new.self.items c.args.piece.now c.in-Whole.used
    (whole_seen c.in-Whole.found) e.0 e.1

pub returns-in_ok-count-in-Whole-clause-progress : goal.returns-in_ok-count-in-Whole-clause-progress
returns-in_ok-count-in-Whole-clause-progress c = λ some.
    let e = rw c.in-Whole.is at c.in_ok-wanted.ensures.ok in
    used_some (known_of c.self.inside.state) c.truncate.new.self.items c.args.piece.now c.in-Whole.used
    (whole_seen c.in-Whole.found) (rw c.truncate.ensures.items c.self.invariant.stream.partial) e.0 e.1

pub invariant_of-self-in-Whole : goal.invariant_of-self-in-Whole
invariant_of-self-in-Whole c =
    let e = rw c.in-Whole.is at c.in_ok-wanted.ensures.ok in
    message_ready (known_of c.self.inside.state) (known_of c.count.new.self) c.self.inside.bytes.items
    c.truncate.new.self.items
    c.advance.new.held.items c.args.piece.now (spare c.self.inside.state.counts) (spare c.count.new.self.counts)
    c.self.inside.len
    c.self.inside.wanted c.self.inside.pending c.in-Whole.found c.in_ok-count-in-Whole.count c.self.invariant
    c.in_ok-count-in-Whole.ensures.same c.in_ok-count-in-Whole.ensures.room c.truncate.ensures.items e.3 e.0

pub returns-in_ok-count-in-Whole-clause-fits : goal.returns-in_ok-count-in-Whole-clause-fits
returns-in_ok-count-in-Whole-clause-fits c =
    let e = rw c.in-Whole.is at c.in_ok-wanted.ensures.ok in
    let w : Whole = whole_seen c.in-Whole.found in
    next_fits (known_of c.self.inside.state) (after (known_of c.count.new.self) w.meta)
    (c.truncate.new.self.items ++ c.args.piece.now) c.in-Whole.body.items w c.self.invariant.stream.small e.0
    (ap (λ k. after k w.meta) c.in_ok-count-in-Whole.ensures.same) e.2
