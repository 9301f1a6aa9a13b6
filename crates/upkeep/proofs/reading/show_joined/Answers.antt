use Rattle.std.proofs.Common.{ℕ, All, List, Option, suc, add-one, subst}
use Rattle.std.specs.Prelude.{IfSome}
use Rattle.row_keys.specs.Slots.{IsLiveAt}
use Rattle.row_keys.specs.Store.{Store}
use Rattle.upkeep.specs.JoinedRows.{AreLookedUp}
use Rattle.upkeep.specs.Stores.{slots_in}
use Rattle.upkeep.proofs.SideNumbers.{live_before, looked_before}
use Rattle.upkeep.proofs.reading.show_joined.Goals as goal

pub returns-clause-joined : goal.returns-clause-joined
returns-clause-joined c =
    let old = c.args.stores.now.items in
    let now = c.visit_all-visits.new.stores.items in
    let l = c.args.lookup in
    let visits : List ℕ = c.visit_all-visits.result in
    let sides : List (Option ℕ) = c.in_ok-side_numbers.side_numbers.items in
    let found : AreLookedUp now l visits sides =
    subst (λ (stores : List Store). AreLookedUp stores l visits sides) c.deref.ensures.value
    c.in_ok-side_numbers.ensures.rows in
    let live : All (λ o. IfSome o (IsLiveAt (slots_in now (suc l.side)))) sides =
    subst (λ (stores : List Store). All (λ o. IfSome o (IsLiveAt (slots_in stores (suc l.side)))) sides)
    c.deref.ensures.value c.in_ok-side_numbers.ensures.live in
    record {
      columns_are = c.in_ok-columns.ensures;
      visits_are = c.visit_all-visits.ensures.numbers;
      table_is = add-one l.side;
      looked_up =
          looked_before old now l c.args.numbers.items sides c.visit_all-visits.ensures.same_rows
          (subst (λ (ns : List ℕ). AreLookedUp now l ns sides) c.visit_all-visits.ensures.numbers found);
      live = live_before old now (suc l.side) sides c.visit_all-visits.ensures.same_rows live;
    }
