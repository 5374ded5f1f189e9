use Rattle.std.proofs.Common.{◌≡◌, false, take}
use Rattle.file_table.specs.Cells.{holds_block}
use Rattle.file_table.proofs.table.Table.has_block.Given as goal

-- no column so far has a block there
abbrev pub invariant-loop-d : goal.invariant-loop-d
invariant-loop-d l = holds_block (take l.d l.self.columns) l.s ≡ false
