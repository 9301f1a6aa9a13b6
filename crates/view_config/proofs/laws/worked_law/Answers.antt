use Rattle.view_config.proofs.Samples.{sample-amounts, sample-constants, sample-faults, sample-limits, sample-pairs}
use Rattle.view_config.proofs.Samples.{sample-texts, sample-zones}
use Rattle.view_config.proofs.laws.worked_law.Goals as goal

pub returns : goal.returns
returns c = record {
  amounts = sample-amounts;
  pairs = sample-pairs;
  zones = sample-zones;
  texts = sample-texts;
  faults = sample-faults;
  limits = sample-limits;
  constants = sample-constants;
}
