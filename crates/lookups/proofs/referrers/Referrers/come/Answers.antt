use Rattle.lookups.proofs.Changed.{keeps-one, key-seen, said-of-row}
use Rattle.lookups.proofs.referrers.Referrers.come.Goals as goal
use Rattle.std.proofs.Common.{[], ◌∷◌, refl, true}
use Rattle.std.specs.Prelude.{None, Some}
use Rattle.values.specs.CellViews.{viewed}
use Rattle.values.specs.Keys.{key_of}

pub returns-clause-kept : goal.returns-clause-kept
returns-clause-kept c = λ rows held is s none kept.
    let row = Some (held ∷ []) in
    keeps-one c.args.self.now c.args.self.now c.put.new.self c.args.number None row rows (λ k m. refl)
    (said-of-row c.args.self.now c.put.new.self c.args.number true (key_of (viewed c.args.cell)) row
    (key-seen c.args.cell held is) c.in_ok-put.ensures.rows) s none kept
