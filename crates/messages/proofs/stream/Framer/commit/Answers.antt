use Rattle.std.specs.Option.{option_map}
use Rattle.indexmap.specs.IndexMap.{spare}
use Rattle.messages.specs.State.{known_of}
use Rattle.messages.proofs.Framers.{message_done}
use Rattle.messages.proofs.stream.Framer.commit.Goals as goal

pub invariant_of-self-in-Message : goal.invariant_of-self-in-Message
invariant_of-self-in-Message c =
    let i = rw (← c.in-Message.ensures.value) at c.self.invariant.ready in
    message_done (known_of c.self.inside.state) (known_of c.learn.new.self)
    (option_map (λ s. s.value.fields.items) c.in-Message.schema)
    c.in-Message.count (spare c.learn.new.self.counts) c.self.inside.bytes.items c.replace.new.dest
    c.self.invariant.stream.small i.0 c.learn.ensures c.replace.ensures.after
