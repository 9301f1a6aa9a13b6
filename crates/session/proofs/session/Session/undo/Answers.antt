use Rattle.std.proofs.Common.{map, refl, subst, ◌∙◌}
use Rattle.std.specs.Prelude.{string_bytes}
use Rattle.session.specs.Shows.{IsStep, SessionParts, columns_of}
use Rattle.session.specs.Steps.{UndoTo}
use Rattle.session.proofs.Sessions.{parts, session_kept, undo_known}
use Rattle.session.proofs.session.Session.undo.Goals as goal

pub invariant_of-self : goal.invariant_of-self
invariant_of-self c =
    let p : SessionParts =
    parts (map string_bytes c.self.inside.names.items) c.self.inside.feeds.items c.self.inside.links.items
    c.self.inside.tables c.self.inside.records.items in
    let q : SessionParts =
    parts (map string_bytes c.self.inside.names.items) c.self.inside.feeds.items c.self.inside.links.items
    c.go_back.new.tables c.go_back.new.records.items in
    session_kept p q (λ s t. UndoTo s c.go_back.result t) c.self.inside.records.capacity c.go_back.new.records.capacity
    (columns_of c.self.inside.schemas.items) c.self.invariant
    (undo_known p q c.go_back.result c.go_back.ensures.undoes c.go_back.ensures.tables refl (refl, refl))
    c.go_back.ensures.tables c.go_back.ensures.views
    (c.go_back.ensures.capacity ∙ c.self.invariant.capacity_is)

pub returns-clause-step : goal.returns-clause-step
returns-clause-step c =
    let p : SessionParts =
    parts (map string_bytes c.self.inside.names.items) c.self.inside.feeds.items c.self.inside.links.items
    c.self.inside.tables c.self.inside.records.items in
    let q : SessionParts =
    parts (map string_bytes c.self.inside.names.items) c.self.inside.feeds.items c.self.inside.links.items
    c.go_back.new.tables c.go_back.new.records.items in
    subst (λ (x : SessionParts). IsStep x (λ s t. UndoTo s c.go_back.result t) q) c.self.view_is
    (undo_known p q c.go_back.result c.go_back.ensures.undoes c.go_back.ensures.tables refl (refl, refl))
