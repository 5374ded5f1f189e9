use Rattle.std.proofs.Common.{◌≡◌, map, take}
use Rattle.array_setup.specs.declared.setup.Disk.{Disk}
use Rattle.snap_config.proofs.config.folders.Given as goal

abbrev pub invariant-loop-disk : goal.invariant-loop-disk
invariant-loop-disk l = l.dirs.items ≡ map (λ (disk : Disk). disk.dir) (take l.disk-index l.disks)
