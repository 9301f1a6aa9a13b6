use Rattle.view_lang.proofs.RowImages.{image-fits}
use Rattle.view_lang.proofs.view_laws.image_law.Goals as goal

pub returns-clause-fits : goal.returns-clause-fits
returns-clause-fits c = image-fits
