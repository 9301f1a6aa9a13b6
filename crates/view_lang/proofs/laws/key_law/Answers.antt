use Rattle.view_lang.proofs.LiveKeys.{keys-stay_distinct, no-rows_are_keyed}
use Rattle.view_lang.proofs.laws.key_law.Goals as goal

pub returns-clause-none : goal.returns-clause-none
returns-clause-none c = no-rows_are_keyed

pub returns-clause-edits : goal.returns-clause-edits
returns-clause-edits c = keys-stay_distinct
