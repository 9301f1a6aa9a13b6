use Rattle.lookups.proofs.Changed.{refers-at}
use Rattle.lookups.proofs.Numbered.{still-numbered}
use Rattle.lookups.proofs.referrers.Referrers.take.Goals as goal
use Rattle.lookups.specs.Keeping.{is_key}
use Rattle.lookups.specs.Refers.{RowsByKey, refers}
use Rattle.std.proofs.Common.{◌∙◌, ap, sym, false}
use Rattle.std.specs.Prelude.{◌==◌, ◌&&◌, cond, option_copied}
use Rattle.values.specs.CellViews.{viewed}
use Rattle.values.specs.Keys.{key_of}

pub invariant_of-self-2 : goal.invariant_of-self-2
invariant_of-self-2 c =
    still-numbered c.self.inside.rows.entries c.take_number.new.rows.entries c.in-Some.held.now
    c.take_number.ensures.others c.take_number.ensures.not_bare c.take_number.ensures.ascending c.self.invariant

pub returns-clause-rows : goal.returns-clause-rows
returns-clause-rows c = λ k n.
    let o = key_of (viewed c.args.cell) in
    refers-at c.self.inside.rows.entries c.take_number.new.rows.entries c.in-Some.held.now c.args.number false c.take_number.ensures.here
    c.take_number.ensures.others o (sym c.in_ok-held.ensures ∙ ap option_copied c.in-Some.is) k n
    ∙ ap (λ (rows : RowsByKey). cond (is_key k o && n == c.args.number) false (refers rows k n)) c.self.view_is
