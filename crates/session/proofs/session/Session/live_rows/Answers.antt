use Rattle.std.proofs.Common.{◌≡◌, length, subst}
use Rattle.row_keys.specs.Store.{live_in}
use Rattle.upkeep.specs.LiveParts.{store_at}
use Rattle.session.specs.Shows.{SessionParts}
use Rattle.session.proofs.Sessions.{live_shown, store_is}
use Rattle.session.proofs.session.Session.live_rows.Goals as goal

pub returns : goal.returns
returns c = λ s shown.
    live_shown c.args.self.now s (store_at c.args.self.now.tables.stores 0) c.len.result shown
    (store_is c.args.self.now.tables.stores 0 shown.main)
    (subst (λ (p : SessionParts). c.len.result ≡ length (live_in (store_at p.tables.stores 0))) c.self.view_is
    c.len.ensures)
