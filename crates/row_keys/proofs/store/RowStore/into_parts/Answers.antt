use Rattle.std.proofs.Common.{◌≡◌, ◌∙◌, List, ap, length, subst, sym}
use Rattle.values.specs.Datum.{Datum}
use Rattle.row_keys.specs.Chunks.{AreChunks, stored_rows}
use Rattle.row_keys.specs.Numbers.{AreDistinct, Numbered}
use Rattle.row_keys.specs.Parts.{AreNumbered, numbers_in}
use Rattle.row_keys.specs.Stored.{IsStored, joined}
use Rattle.row_keys.proofs.JoinedNumbers.{keyed_length}
use Rattle.row_keys.proofs.store.RowStore.into_parts.Goals as goal
use Rattle.row_keys.proofs.store.RowStore.into_parts.Goals.{After-drop-numbers-inside-7}

many : (c : After-drop-numbers-inside-7) → length c.self.inside.rows ≡ c.len.result
many c =
    (keyed_length c.self.inside.table c.self.inside.rows c.self.inside.numbers c.self.invariant.keyed).0
    ∙ sym c.len.ensures.value

rows : (c : After-drop-numbers-inside-7) → stored_rows c.into_chunks.result.items c.len.result ≡ c.self.inside.rows
rows c = ap (λ n. stored_rows c.into_chunks.result.items n) (sym (many c)) ∙ c.into_chunks.ensures.rows

numbers : (c : After-drop-numbers-inside-7) → numbers_in c.in_ok-kept.kept.items c.len.result ≡ c.self.inside.numbers
numbers c = ap (numbers_in c.in_ok-kept.kept.items) c.len.ensures.value ∙ c.in_ok-kept.ensures.rows

pub returns-clause-value : goal.returns-clause-value
returns-clause-value c =
    ap (λ rs. record {
      table = c.self.inside.table;
      slots = joined rs (numbers_in c.in_ok-kept.kept.items c.len.result);
      visits = c.self.inside.visits;
    })
    (rows c)
    ∙ ap (λ xs. record { table = c.self.inside.table; slots = joined c.self.inside.rows xs; visits = c.self.inside.visits })
    (numbers c)
    ∙ c.self.view_is

pub returns-clause-stored : goal.returns-clause-stored
returns-clause-stored c =
    let P : List (List Datum) → Type 0 =
    λ rs. IsStored c.self.inside.table rs (numbers_in c.in_ok-kept.kept.items c.len.result) in
    let Q : List Numbered → Type 0 = λ xs. IsStored c.self.inside.table c.self.inside.rows xs in
    record {
      chunks = subst (λ n. AreChunks 0 c.into_chunks.result.items n) (many c) c.into_chunks.ensures.chunks;
      order = subst (λ n. AreNumbered 0 c.in_ok-kept.kept.items n) (sym c.len.ensures.value) c.in_ok-kept.ensures.order;
      bound = c.len.ensures.bound;
      stored = subst P (sym (rows c)) (subst Q (sym (numbers c)) c.self.invariant);
      distinct = subst AreDistinct (sym (numbers c)) c.distinct_law.ensures;
    }
