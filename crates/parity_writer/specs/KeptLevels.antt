-- How the levels of a stripe are kept.
use Rattle.parity_writer.specs.declared.levels.Levels.TheInside.{Inside}
use Rattle.parity_writer.specs.LevelsValue.{LevelsValue, AreLevels}

-- the levels
abbrev pub levels_of : Inside → LevelsValue
levels_of levels = record { block_size = levels.block_size; count = levels.count; levels = levels.levels.items }

-- there is room for six of them
abbrev pub IsKept : Inside → Type 0
IsKept levels = AreLevels (levels_of levels)
