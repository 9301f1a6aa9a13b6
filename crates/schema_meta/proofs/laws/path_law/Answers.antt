use Rattle.schema_meta.proofs.PathLemmas.{found_by_paths, stands_by_paths}
use Rattle.schema_meta.proofs.laws.path_law.Goals as goal

pub returns-clause-found : goal.returns-clause-found
returns-clause-found c = found_by_paths

pub returns-clause-stands : goal.returns-clause-stands
returns-clause-stands c = stands_by_paths
