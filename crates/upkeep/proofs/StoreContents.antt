-- The tables and rows that stores hold, and what holds of them.
use Rattle.std.proofs.Common.{◌≡◌, List, subst, sym}
use Rattle.view_lang.specs.Config.{Table}
use Rattle.row_keys.specs.Store.{Store}
use Rattle.upkeep.specs.Stores.{HaveSameRows, Rows, rows_in, tables_in}

-- Stores hold these tables and rows.
pub record Hold (tables : List Table) (rows : Rows) (ss : List Store) : Type 0 where
  pub tables_are : tables_in ss ≡ tables
  pub rows_are : rows_in ss ≡ rows

pub hold_same : {before after : List Store} → HaveSameRows before after
    → Hold (tables_in before) (rows_in before) after
hold_same same = record { tables_are = same.tables; rows_are = same.rows }

-- stores that are borrowed
pub hold_lent : {before after lent : List Store} → HaveSameRows before after → lent ≡ after
    → Hold (tables_in before) (rows_in before) lent
hold_lent {before = before} same is = subst (Hold (tables_in before) (rows_in before)) (sym is) (hold_same same)

-- What holds of the tables and rows holds of those in the stores, and the other way round.
module _ {tables : List Table} {rows : Rows} {ss : List Store} (hold : Hold tables rows ss)
    (P : List Table → Rows → Type 0) where
  pub to_stores : P tables rows → P (tables_in ss) (rows_in ss)
  to_stores given =
      subst (P (tables_in ss)) (sym hold.rows_are)
      (subst (λ (ts : List Table). P ts rows) (sym hold.tables_are) given)

  pub from_stores : P (tables_in ss) (rows_in ss) → P tables rows
  from_stores given =
      subst (P tables) hold.rows_are (subst (λ (ts : List Table). P ts (rows_in ss)) hold.tables_are given)
