-- How a column is kept: its records without their blocks, and the blocks of all of them in one list.
use Rattle.std.specs.Prelude.{◌≡◌, ℕ, ◌+◌, ◌≤◌, List, [], ◌∷◌, length, map, take, drop}
use Rattle.file_table.specs.declared.block.Block.{Block}
use Rattle.file_table.specs.declared.disk.File.{File}
use Rattle.file_table.specs.declared.disk.Disk.TheInside.{Inside}
use Rattle.file_table.specs.Table.{Record, Column, no_meta}
use Rattle.file_table.specs.Valid.{most_records, most_blocks}

-- a record, with its blocks taken from the list
abbrev pub record_of : List Block → File → Record
record_of blocks file = record { path = file.path; meta = file.meta; blocks = take file.count (drop file.first blocks) }

abbrev pub records_from : List Block → List File → List Record
records_from blocks files = map (record_of blocks) files

abbrev pub column_of : Inside → Column
column_of disk = record { name = disk.name; records = records_from disk.blocks.items disk.files.items }

-- what stands for a file that is not there
abbrev pub no_file : File
no_file = record { path = []; meta = no_meta; first = 0; count = 0 }

-- the blocks of these files stand one after another, from one place to another
abbrev pub AreCut : ℕ → List File → ℕ → Type 0
AreCut start [] end = start ≡ end
AreCut start (file ∷ files) end = (file.first ≡ start) × AreCut (start + file.count) files end

-- the files share the whole list of blocks among them, and both are within the limits of a table
pub record IsDisk (disk : Inside) : Type 0 where
  pub cut : AreCut 0 disk.files.items (length disk.blocks.items)
  pub few_files : length disk.files.items ≤ most_records
  pub few_blocks : length disk.blocks.items ≤ most_blocks
