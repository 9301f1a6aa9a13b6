use Rattle.std.proofs.Common.{ap, ◌∙◌}
use Rattle.row_keys.specs.Numbers.{Numbered}
use Rattle.row_keys.proofs.RetainedIndex.{kept_keyed, kept_seen, key_is}
use Rattle.row_keys.proofs.numbers.Numbers.key.Goals as goal

pub key_at-requires : goal.key_at-requires
key_at-requires c =
    kept_keyed c.self.inside.keys c.self.inside.holders.items c.self.inside.kept.items c.deref.result.now
    c.self.inside.len c.self.inside.live c.args.number c.entry_at-entry.result c.args.self.now c.self.invariant
    c.self.view_is c.requires c.entry_at-entry.ensures c.deref.ensures.value

pub returns : goal.returns
returns c =
    let seen =
    ap (λ (x : Numbered). x.key)
    (kept_seen c.self.inside.keys c.self.inside.kept.items c.deref.result.now c.self.inside.len c.args.number
    c.entry_at-entry.result c.args.self.now c.self.view_is c.requires c.entry_at-entry.ensures c.deref.ensures.value) in
    key_is c.self.inside.keys c.entry_at-entry.result.key c.in_ok-key.key c.in_ok-key.ensures ∙ seen
