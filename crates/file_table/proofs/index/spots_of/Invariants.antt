use Rattle.std.proofs.Common.{◌≡◌, take}
use Rattle.file_table.specs.Table.{positions_of}
use Rattle.file_table.specs.Index.{spots_from}
use Rattle.file_table.proofs.index.spots_of.Given as goal

-- the spots so far are those of the blocks so far
abbrev pub invariant-loop-place : goal.invariant-loop-place
invariant-loop-place l = l.spots.items ≡ spots_from 0 (positions_of (take l.place l.blocks))
