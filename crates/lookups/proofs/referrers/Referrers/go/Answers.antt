use Rattle.lookups.proofs.Changed.{keeps-one, key-seen, said-of-row}
use Rattle.lookups.proofs.referrers.Referrers.go.Goals as goal
use Rattle.std.proofs.Common.{[], ◌∷◌, refl, false}
use Rattle.std.specs.Prelude.{None, Some}
use Rattle.values.specs.CellViews.{viewed}
use Rattle.values.specs.Keys.{key_of}

pub returns-clause-kept : goal.returns-clause-kept
returns-clause-kept c = λ rows held is s there kept.
    let row = Some (held ∷ []) in
    keeps-one c.args.self.now c.take.new.self c.take.new.self c.args.number row None rows
    (said-of-row c.args.self.now c.take.new.self c.args.number false (key_of (viewed c.args.cell)) row
    (key-seen c.args.cell held is) c.in_ok-take.ensures.rows) (λ k m. refl) s there kept
