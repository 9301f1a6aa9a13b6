use Rattle.view_lang.proofs.OrderLaws.{sorted-is-arrangement}
use Rattle.view_lang.proofs.view_laws.order_law.Goals as goal

pub returns-clause-only : goal.returns-clause-only
returns-clause-only c = sorted-is-arrangement
