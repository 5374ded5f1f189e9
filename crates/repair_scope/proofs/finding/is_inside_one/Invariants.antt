use Rattle.std.proofs.Common.{◌≡◌, ℕ, ◌<◌, get_or, take, is_some, false}
use Rattle.disk_model.specs.Tree.{listed}
use Rattle.repair_scope.specs.Blocked.{found_in}
use Rattle.repair_scope.proofs.finding.is_inside_one.Given as goal

-- no file has the path of what stands before a slash before this place
abbrev pub invariant-loop-end : goal.invariant-loop-end
invariant-loop-end l = (k : ℕ) → k < l.end → get_or l.path k 0 ≡ 47 → is_some (found_in (listed l.files) (take k l.path)) ≡ false
