use Rattle.schema_meta.proofs.Signs.{
  signed-arrays,
  signed-bound,
  signed-floor,
  signed-large-offsets,
  signed-length,
  signed-range,
  signed-offsets,
  signed-size,
}
use Rattle.schema_meta.proofs.laws.sign_law.Goals as goal

pub returns-clause-length : goal.returns-clause-length
returns-clause-length c = signed-length

pub returns-clause-range : goal.returns-clause-range
returns-clause-range c = signed-range

pub returns-clause-offsets : goal.returns-clause-offsets
returns-clause-offsets c = signed-offsets

pub returns-clause-size : goal.returns-clause-size
returns-clause-size c = signed-size

pub returns-clause-bound : goal.returns-clause-bound
returns-clause-bound c = signed-bound

pub returns-clause-floor : goal.returns-clause-floor
returns-clause-floor c = signed-floor

pub returns-clause-large_offsets : goal.returns-clause-large_offsets
returns-clause-large_offsets c = signed-large-offsets

pub returns-clause-arrays : goal.returns-clause-arrays
returns-clause-arrays c = signed-arrays
