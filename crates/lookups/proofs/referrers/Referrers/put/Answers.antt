use Rattle.lookups.proofs.Changed.{refers-at}
use Rattle.lookups.proofs.Numbered.{not-bare-with, still-numbered}
use Rattle.lookups.proofs.referrers.Referrers.put.Goals as goal
use Rattle.lookups.specs.Keeping.{is_key}
use Rattle.lookups.specs.Refers.{RowsByKey, refers}
use Rattle.std.proofs.Common.{◌∙◌, ap, sym, true}
use Rattle.std.specs.Prelude.{◌==◌, ◌&&◌, cond, option_copied}
use Rattle.values.specs.CellViews.{viewed}
use Rattle.values.specs.Keys.{key_of}

pub invariant_of-self-2 : goal.invariant_of-self-2
invariant_of-self-2 c =
    let new = c.put_number.new.rows.entries in
    still-numbered c.self.inside.rows.entries new c.in-Some.held.now c.put_number.ensures.others
    (not-bare-with new c.in-Some.held.now c.args.number _ (c.in_ok-put_number.ensures.here c.args.number))
    c.in_ok-put_number.ensures.ascending c.self.invariant

pub returns-clause-rows : goal.returns-clause-rows
returns-clause-rows c = λ k n.
    let o = key_of (viewed c.args.cell) in
    refers-at c.self.inside.rows.entries c.put_number.new.rows.entries c.in-Some.held.now c.args.number true c.in_ok-put_number.ensures.here
    c.put_number.ensures.others o (sym c.in_ok-held.ensures ∙ ap option_copied c.in-Some.is) k n
    ∙ ap (λ (rows : RowsByKey). cond (is_key k o && n == c.args.number) true (refers rows k n)) c.self.view_is
