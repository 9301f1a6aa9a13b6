use Rattle.std.proofs.Common.{ap}
use Rattle.row_keys.specs.Numbers.{Numbered}
use Rattle.row_keys.proofs.RetainedIndex.{kept_seen}
use Rattle.row_keys.proofs.numbers.Numbers.is_live.Goals as goal

pub returns : goal.returns
returns c =
    ap (λ (x : Numbered). x.live)
    (kept_seen c.self.inside.keys c.self.inside.kept.items c.deref.result.now c.self.inside.len c.args.number
    c.entry_at.result c.args.self.now c.self.view_is c.requires c.entry_at.ensures c.deref.ensures.value)
