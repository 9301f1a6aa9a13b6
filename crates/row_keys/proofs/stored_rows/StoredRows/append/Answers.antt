use Rattle.std.proofs.Common.{◌≡◌, ◌++◌, ◌∷◌, [], arith, ap, length, ◌∙◌}
use Rattle.row_keys.specs.Batches.{batch_rows}
use Rattle.row_keys.specs.Chunks.{AreChunks, chunk, numbers_by, stored_rows}
use Rattle.row_keys.proofs.ChunkedRows.{chunks_come, none_come}
use Rattle.row_keys.proofs.stored_rows.StoredRows.append.Goals as goal

pub returns-then-rows-eq0-clause-ok : goal.returns-then-rows-eq0-clause-ok
returns-then-rows-eq0-clause-ok c = none_come c.args.self.now c.args.rows c.args.columns.items c.if-rows-eq0.true

came : (c : goal.After-self-1)
    → AreChunks 0 c.push.new.self.items c.in_ok-len.len
    × (stored_rows c.push.new.self.items c.in_ok-len.len ≡ stored_rows c.self.inside.chunks.items c.self.inside.len ++
    batch_rows c.args.rows c.args.columns.items)
came c =
    let at = rw c.in_ok-len.ensures.ok_part at c.checked_add.ensures in
    chunks_come c.self.inside.chunks.items c.push.new.self.items c.self.inside.len c.args.rows c.in_ok-len.len
    c.args.columns.items c.in_ok-gone.gone.items c.self.invariant c.requires c.in_ok-gone.ensures
    (c.in_ok-push.ensures.items
    ∙ ap (λ ns. c.self.inside.chunks.items
    ++ chunk c.self.inside.len c.args.rows (numbers_by ns c.self.inside.len (length c.in_ok-gone.gone.items)) c.args.rows
    c.args.columns.items c.in_ok-gone.gone.items ∷ [])
    c.new.ensures.items)
    (omega (arith, at))

pub invariant_of-self-2 : goal.invariant_of-self-2
invariant_of-self-2 c = (came c).0

pub returns-clause-ok : goal.returns-clause-ok
returns-clause-ok c = (came c).1 ∙ ap (λ rows. rows ++ batch_rows c.args.rows c.args.columns.items) c.self.view_is
