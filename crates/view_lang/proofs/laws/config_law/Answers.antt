use Rattle.view_lang.proofs.Columns.{views_are_tables}
use Rattle.view_lang.proofs.laws.config_law.Goals as goal

pub returns : goal.returns
returns c = record { views = views_are_tables }
