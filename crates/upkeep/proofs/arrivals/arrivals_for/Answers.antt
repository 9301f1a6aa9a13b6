use Rattle.std.proofs.Common.{[], arith, ap, get_or, length, subst, sym, ◌≡◌, ◌∷◌, ℕ}
use Rattle.std.proofs.lemmas.List.{length-append}
use Rattle.row_keys.specs.Batches.{batch_rows}
use Rattle.upkeep.specs.Arrivals.{EachDescribes}
use Rattle.upkeep.proofs.ArrivalRows.{each_push}
use Rattle.upkeep.proofs.arrivals.arrivals_for.Goals as goal

pub loop-place-preserved : goal.loop-place-preserved
loop-place-preserved c = record {
  many = omega (
    arith,
    ap length c.in_ok-push.ensures.items,
    length-append c.loop-place.arrivals.items (c.in_ok-arrival.arrival ∷ []),
    c.loop-place.invariant.many,
  );
  each =
      subst (EachDescribes c.args.views.now (batch_rows c.args.rows c.args.columns.now)) (sym c.in_ok-push.ensures.items)
      (each_push c.args.views.now (batch_rows c.args.rows c.args.columns.now) c.loop-place.arrivals.items
      c.index-views-place.result c.in_ok-arrival.arrival
      (subst (λ (n : ℕ). c.index-views-place.result ≡ get_or c.args.views.now n c.index-views-place.result)
      (sym c.loop-place.invariant.many) c.index-views-place.is)
      c.in_ok-arrival.ensures c.loop-place.invariant.each);
}
