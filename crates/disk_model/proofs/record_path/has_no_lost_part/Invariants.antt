use Rattle.std.proofs.Common.{◌↔◌, length}
use Rattle.disk_model.specs.RecordPath.{HasNoLostPart}
use Rattle.disk_model.proofs.record_path.has_no_lost_part.Given as goal

-- no part that was passed so far is one of a lost file, so all depends on the rest
abbrev pub invariant-loop-rest : goal.invariant-loop-rest
invariant-loop-rest l = HasNoLostPart l.bytes ↔ HasNoLostPart l.rest

abbrev pub decreases-loop-rest : goal.decreases-loop-rest
decreases-loop-rest l = length l.rest
