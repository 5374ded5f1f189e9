-- How the columns of a table are read into the lanes of a window.
use Rattle.std.specs.Prelude.{◌≡◌, ℕ, ◌+◌, ◌<◌, ◌≤◌, List, [], length, take, get_or, All, false}
use Rattle.disk_model.specs.Folder.{FolderView, quiet_folder}
use Rattle.file_table.specs.Table.{TableValue}
use Rattle.file_table.specs.Valid.{most_columns}
use Rattle.stripe_reader.specs.Column.{ReadsColumn}
use Rattle.stripe_reader.specs.Reading.{tasks_at}
use Rattle.stripe_reader.specs.SlotValue.{SlotValue}
use Rattle.stripe_reader.specs.Starts.{StartsValue, StartsFit}
use Rattle.stripe_reader.specs.WindowValue.{WindowValue, IsLane}

-- the folder of a column
abbrev pub folder_at : List FolderView → ℕ → FolderView
folder_at folders d = get_or folders d (quiet_folder 0 false)

-- these stripes of so many columns from one on can be read into these lanes, each of which has room for so many stripes
pub record HasLanes (table : TableValue) (starts : StartsValue) (first : ℕ) (stripes : List ℕ) (room columns : ℕ) (lanes : List (List SlotValue)) : Type 0 where
  pub as_many : length lanes ≡ columns
  pub within : first + columns ≤ length table.columns
  pub few : length table.columns ≤ most_columns
  pub have_starts : StartsFit table starts
  pub in_range : All (λ stripe. stripe < length table.infos) stripes
  pub enough : length stripes ≤ room
  pub have_slots : All (IsLane table.shape.block_size room) lanes

-- columns from one on were read, each of its own folder into the front of its own lane
pub record ReadsColumns (table : TableValue) (starts : StartsValue) (first : ℕ) (stripes : List ℕ) (lanes : List (List SlotValue)) (olds news : List FolderView) : Type 0 where
  pub folders : length news ≡ length olds
  pub each : (k : ℕ) → k < length olds →
      ReadsColumn table.shape (tasks_at table starts (first + k) stripes) (take (length stripes) (get_or lanes k [])) (folder_at olds k) (folder_at news k)

-- these stripes of all columns were read into a window, which stays as large as it was
pub record ReadsWindow (table : TableValue) (starts : StartsValue) (stripes : List ℕ) (before after : WindowValue) (olds news : List FolderView) : Type 0 where
  pub room : after.room ≡ before.room
  pub block_size : after.block_size ≡ before.block_size
  pub lanes : length after.lanes ≡ length before.lanes
  pub count : after.count ≡ length stripes
  pub folders : length news ≡ length olds
  pub each : (d : ℕ) → d < length olds →
      ReadsColumn table.shape (tasks_at table starts d stripes) (take (length stripes) (get_or after.lanes d [])) (folder_at olds d) (folder_at news d)
