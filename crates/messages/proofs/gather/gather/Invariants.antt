use Rattle.std.proofs.Common.{◌≡◌, ◌≤◌, ◌++◌, ◌-◌, Ok, None, length, take}
use Rattle.schema_meta.specs.Framing.{first}
use Rattle.messages.specs.State.{known_of}
use Rattle.messages.specs.Wanted.{Wants, followed}
use Rattle.messages.proofs.gather.gather.Given as goal

abbrev pub invariant-loop-used : goal.invariant-loop-used
invariant-loop-used l =
    record {
      held : l.held.items ≡ l.fn.held.items ++ take l.used l.piece;
      partial : first (known_of l.state) l.held.items ≡ Ok None;
      within : l.used ≤ length l.piece;
      wants : Wants (followed (known_of l.state) l.held.items) l.wanted;
      before : l.before ≡ length l.fn.held.items;
    }

abbrev pub decreases-loop-used : goal.decreases-loop-used
decreases-loop-used l = length l.piece - l.used
