use Rattle.std.proofs.Common.{sym}
use Rattle.feed.proofs.message.take_parts.Goals as goal

pub returns-in-Dictionary-clause-seen : goal.returns-in-Dictionary-clause-seen
returns-in-Dictionary-clause-seen c =
    rw (c.in-Dictionary.is, sym c.deref.ensures) c.take_dictionary.ensures.seen
