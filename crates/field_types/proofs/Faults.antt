-- A fault of a part is a fault of the whole.
use Rattle.values.proofs.Readings.{both_left, both_right, bind_left, stands_mapped}

pub ruleset faults = (bind_left, both_left, both_right, stands_mapped)
