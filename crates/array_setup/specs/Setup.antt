-- What a setup says, as lists.
use Rattle.std.specs.Prelude.{◌≡◌, ◌≢◌, ℕ, ◌*◌, ◌≤◌, List, length, map, sum, All, AllPairs, Bool, Option}
use Rattle.disk_model.specs.Name.{IsName}
use Rattle.array_setup.specs.declared.setup.Disk.{Disk}
use Rattle.array_setup.specs.declared.setup.Rule.{Rule}
use Rattle.array_setup.specs.declared.setup.Setup.{Setup}

-- the disks in column order and their folders, the parity files by level, how many of them each level has, how many bytes each
-- but the last of its level holds, the content files and the rules in the order of their lines
pub record SetupValue : Type 0 where
  pub disks : List Disk
  pub dirs : List (List ℕ)
  pub parities : List (List ℕ)
  pub parts : List ℕ
  pub split : ℕ
  pub contents : List (List ℕ)
  pub rules : List Rule
  pub nohidden : Bool
  pub block_size : ℕ
  pub autosave : ℕ
  pub log : Option (List ℕ)

abbrev pub setup_value : Setup → SetupValue
setup_value setup = record {
  disks = setup.disks;
  dirs = setup.places.dirs.items;
  parities = setup.places.parities.items;
  parts = setup.parts.items;
  split = setup.split;
  contents = setup.places.contents.items;
  rules = setup.rules;
  nohidden = setup.nohidden;
  block_size = setup.block_size;
  autosave = setup.autosave;
  log = setup.log;
}

-- a block size of 1 to 4,096 KiB, in bytes
pub record IsSize (bytes : ℕ) : Type 0 where
  pub kibibytes : ℕ
  pub bytes_are : bytes ≡ 1024 * kibibytes
  pub least : 1 ≤ kibibytes
  pub most : kibibytes ≤ 4096

-- What holds of each setup that is read: 1 to 6 levels of 1 to 8 files, 1 to 251 disks whose names may stand in a table, and
-- their folders.
pub record IsSetup (setup : SetupValue) : Type 0 where
  pub block_size : IsSize setup.block_size
  pub some_level : 1 ≤ length setup.parts
  pub few_levels : length setup.parts ≤ 6
  pub some_part : All (λ count. 1 ≤ count) setup.parts
  pub few_parts : All (λ count. count ≤ 8) setup.parts
  pub all_parts : sum setup.parts ≡ length setup.parities
  pub split : 1 ≤ setup.split
  pub some_disk : 1 ≤ length setup.disks
  pub few_disks : length setup.disks ≤ 251
  pub names : All (λ (disk : Disk). IsName disk.name) setup.disks
  pub distinct : AllPairs (λ (earlier later : Disk). earlier.name ≢ later.name) setup.disks
  pub dirs : setup.dirs ≡ map (λ (disk : Disk). disk.dir) setup.disks
