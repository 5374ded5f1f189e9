use Rattle.std.proofs.Common.{take}
use Rattle.file_table.specs.Index.{AreIndexes}
use Rattle.file_table.proofs.table.indexes_of.Given as goal

-- the indexes so far are those of the disks so far
abbrev pub invariant-loop-disk : goal.invariant-loop-disk
invariant-loop-disk l = AreIndexes (take l.disk-index l.disks) l.indexes.items
