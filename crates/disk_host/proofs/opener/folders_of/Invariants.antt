use Rattle.std.proofs.Common.{◌≡◌, vec_len, All}
use Rattle.disk_host.proofs.opener.folders_of.Given as goal

abbrev pub invariant-loop-dir : goal.invariant-loop-dir
invariant-loop-dir g l = record {
  count : vec_len l.folders ≡ l.dir-index;
  new : All (λ folder. folder.faults ≡ 0) l.folders.items;
  unwritten : All (λ folder. folder.writes ≡ 0) l.folders.items;
}
