use Rattle.std.proofs.Common.{ℕ, ◌<◌, get_or}
use Rattle.disk_model.specs.declared.meta.FileInfo.{FileInfo}
use Rattle.disk_host.specs.Listing.{IsBelow}
use Rattle.disk_host.proofs.order.rises.Given as goal

-- the paths before this place rise
abbrev pub invariant-loop-i : goal.invariant-loop-i
invariant-loop-i l = (a b : ℕ) (d : FileInfo) → a < b → b < l.i → IsBelow (get_or l.files a d).path (get_or l.files b d).path
