use Rattle.std.proofs.Common.{◌-◌, ◌∙◌, ap, length, min, take}
use Rattle.std.proofs.lemmas.List.{length-take}
use Rattle.row_keys.specs.Chunks.{Chunk, chunk, numbers_by}
use Rattle.row_keys.proofs.RowPlaces.{numbers_taken}
use Rattle.row_keys.proofs.stored_chunk.shorten.Goals as goal

pub returns : goal.returns
returns c =
    let x = c.chunk.inside in
    let k = c.rows_below-rows.result in
    record {
      many = k;
      below = c.rows_below-rows.ensures;
      new_is =
          ap (λ s. chunk x.first s (numbers_by c.truncate.new.self.items x.first (length c.truncate-2.new.self.items))
          x.batch.rows x.batch.columns.items c.truncate-2.new.self.items)
          c.min-chunk-inside.ensures
          ∙ ap (λ gs. chunk x.first (min x.span (c.args.len - x.first))
          (numbers_by c.truncate.new.self.items x.first (length gs)) x.batch.rows x.batch.columns.items gs)
          c.truncate-2.ensures.items
          ∙ ap (λ ns. chunk x.first (min x.span (c.args.len - x.first))
          (numbers_by ns x.first (length (take k x.gone.items))) x.batch.rows x.batch.columns.items
          (take k x.gone.items))
          c.truncate.ensures.items
          ∙ ap (λ ns. chunk x.first (min x.span (c.args.len - x.first)) ns x.batch.rows x.batch.columns.items
          (take k x.gone.items))
          (numbers_taken x.numbers.items x.first (length x.gone.items) (length (take k x.gone.items)) k
          (length-take k x.gone.items))
          ∙ ap (λ (y : Chunk). chunk y.first (min y.span (c.args.len - y.first)) (take k y.numbers) y.rows y.columns
          (take k y.gone))
          c.chunk.view_is;
    }
