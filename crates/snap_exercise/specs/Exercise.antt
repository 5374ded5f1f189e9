-- What an exercise tells.
use Rattle.std.specs.Prelude.{ℕ, ◌*◌, ◌==◌, ◌&&◌, List, [], ◌∷◌, codes, sum_by, Bool, if◌then◌else◌}
use Rattle.std.specs.Fmt.{decimal}
use Rattle.std.specs.List.{range_with_len}
use Rattle.snap_report.specs.EndLines.{check_text, fix_text}
use Rattle.snap_report.specs.EventLines.{joined}
use Rattle.snap_report.specs.Text.{sync_text}
use Rattle.snap_exercise.specs.Generated.{columns, files_of, size_of}

-- what the sync, the fix and the check of an exercise came to, and whether the trees are those of before
pub record Summary : Type 0 where
  pub stripes : ℕ
  pub synced : ℕ
  pub pending : ℕ
  pub sync_findings : ℕ
  pub blocks : ℕ
  pub parities : ℕ
  pub left : ℕ
  pub check_findings : ℕ
  pub same : Bool

-- the number of all files, and of their bytes
abbrev pub all_files : ℕ → ℕ
all_files n = 8 * files_of n

abbrev pub bytes_in : ℕ → ℕ → ℕ
bytes_in n column = sum_by (size_of column) (range_with_len 0 (files_of n))

abbrev pub all_bytes : ℕ → ℕ
all_bytes n = sum_by (bytes_in n) columns

abbrev pub array_line : ℕ → ℕ → List ℕ
array_line n stripes = joined (codes "exercise " ∷ decimal n ∷ codes ": " ∷ decimal (all_files n) ∷ codes " files, "
    ∷ decimal (all_bytes n) ∷ codes " bytes, " ∷ decimal stripes ∷ codes " stripes\n" ∷ [])

abbrev pub trees_line : Bool → List ℕ
trees_line same = if same then codes "trees equal\n" else codes "trees differ\n"

-- the five lines
abbrev pub exercise_text : ℕ → Summary → List ℕ
exercise_text n s = joined (array_line n s.stripes ∷ sync_text s.synced s.pending ∷ fix_text s.blocks s.parities s.left
    ∷ check_text s.check_findings ∷ trees_line s.same ∷ [])

-- nothing was found by the sync and by the check, nothing left by the fix, and the trees are those of before
abbrev pub is_well : Summary → Bool
is_well s = s.sync_findings == 0 && s.left == 0 && s.check_findings == 0 && s.same
