use Rattle.std.proofs.Common.{ℕ, ◌<◌, get_or}
use Rattle.disk_model.specs.declared.meta.FileInfo.{FileInfo}
use Rattle.disk_host.specs.Listing.{FitsAmong}
use Rattle.disk_host.proofs.order.is_apart.Given as goal

-- the files before this place fit
abbrev pub invariant-loop-file : goal.invariant-loop-file
invariant-loop-file l = (k : ℕ) (d : FileInfo) → k < l.file-index → FitsAmong l.files (get_or l.files k d)
