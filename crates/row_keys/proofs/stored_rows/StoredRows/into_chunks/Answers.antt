use Rattle.std.proofs.Common.{◌≡◌, ◌∙◌, ap, length, subst, sym}
use Rattle.row_keys.specs.Chunks.{AreChunks, stored_rows}
use Rattle.row_keys.proofs.ChunkedRows.{stored_long}
use Rattle.row_keys.proofs.stored_rows.StoredRows.into_chunks.Goals as goal

many : (c : goal.After-self) → c.self.inside.len ≡ length c.args.self
many c = sym (stored_long c.self.inside.chunks.items c.self.inside.len) ∙ ap length c.self.view_is

pub returns-clause-chunks : goal.returns-clause-chunks
returns-clause-chunks c = subst (λ n. AreChunks 0 c.self.inside.chunks.items n) (many c) c.self.invariant

pub returns-clause-rows : goal.returns-clause-rows
returns-clause-rows c = ap (λ n. stored_rows c.self.inside.chunks.items n) (sym (many c)) ∙ c.self.view_is
