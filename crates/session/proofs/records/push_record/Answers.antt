use Rattle.std.proofs.Common.{◌≡◌, ◌∷◌, ◌≤◌, List, ap, arith, length, slice_get, suc, sym, take, ◌∙◌}
use Rattle.circular_buffer.specs.Buffer.{Buffer}
use Rattle.view_lang.specs.Limits.{max_undo_depth}
use Rattle.session.specs.declared.undo.UndoRecord.{UndoRecord}
use Rattle.session.proofs.LastItems.{if_oldest, none_out}
use Rattle.session.proofs.records.push_record.Goals as goal

pub returns-clause-oldest : goal.returns-clause-oldest
returns-clause-oldest c =
    let all : List UndoRecord = c.args.newest ∷ c.args.records.now.items in
    let items : c.push_front.new.self.items ≡ take max_undo_depth (c.args.newest ∷ c.args.records.now.items) =
    ap (λ (b : Buffer UndoRecord). b.items) c.push_front.ensures.items
    ∙ ap (λ n. take n (c.args.newest ∷ c.args.records.now.items)) c.requires in
    let room = c.capacity-room.ensures.within.0 in
    let is = c.capacity-room.ensures.capacity in
    let want = c.requires in
    let few : length (c.args.newest ∷ c.args.records.now.items) ≤ suc max_undo_depth = omega (arith, room, is, want) in
    rw items
    (if_oldest c.push_front.result max_undo_depth (c.args.newest ∷ c.args.records.now.items) few
    (c.push_front.ensures.value ∙ ap (λ n. slice_get (c.args.newest ∷ c.args.records.now.items) n) c.requires))

pub returns-clause-all : goal.returns-clause-all
returns-clause-all c = λ none.
    let items : c.push_front.new.self.items ≡ take max_undo_depth (c.args.newest ∷ c.args.records.now.items) =
    ap (λ (b : Buffer UndoRecord). b.items) c.push_front.ensures.items
    ∙ ap (λ n. take n (c.args.newest ∷ c.args.records.now.items)) c.requires in
    items
    ∙ none_out max_undo_depth (c.args.newest ∷ c.args.records.now.items)
    (sym (ap (λ n. slice_get (c.args.newest ∷ c.args.records.now.items) n) c.requires)
    ∙ sym c.push_front.ensures.value ∙ none)
