use Rattle.session.proofs.ReleasedRecords.{evicted_go, nothing_is_seen, oldest_is_out}
use Rattle.session.proofs.TouchedRows.{newest_touches}
use Rattle.session.proofs.releases.release_law.Goals as goal

pub returns : goal.returns
returns c = record { out = oldest_is_out; go = evicted_go; seen = nothing_is_seen; touches = newest_touches }
