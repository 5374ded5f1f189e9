use Rattle.std.proofs.Common.{◌≡◌, ℕ, ◌<◌, get_or, take}
use Rattle.disk_host.specs.Listing.{HasPath}
use Rattle.disk_host.proofs.order.has_directory_of.Given as goal

-- no file has a directory of the path that ends before this place
abbrev pub invariant-loop-end : goal.invariant-loop-end
invariant-loop-end l = (k : ℕ) → k < l.end → get_or l.path k 0 ≡ 47 → ¬ (HasPath l.files (take k l.path))
