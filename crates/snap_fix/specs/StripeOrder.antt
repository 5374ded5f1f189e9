-- In which order the blocks of a column's cells are written: stripe after stripe.
use Rattle.std.specs.Prelude.{ℕ, List, [], ◌∷◌, ◌++◌, if◌then◌else◌, Option, None, Some}
use Rattle.disk_model.specs.Folder.{FolderCall, WriteAt}
use Rattle.disk_model.specs.Tree.{Tree}
use Rattle.file_table.specs.declared.block.Cell.{Cell}
use Rattle.stripe_examiner.specs.Facts.{StripeFacts}
use Rattle.snap_fix.specs.Mended.{Mended, is_written, writes_of}
use Rattle.stripe_examiner.specs.Showing.{block_or_none, known_block}
use Rattle.file_restorer.specs.Mending.{block_start, cell_path}
use Rattle.file_restorer.specs.Order.{set_up_calls}
use Rattle.repair_scope.specs.Plan.{FixPlan, cell_at}
use Rattle.file_restorer.specs.State.{has_some, place_in}

-- The calls that write the block of a cell, after some stripes: before the first block of its file, that is put under PATH, from the place
-- where it stood at first.
abbrev pub cell_calls : FixPlan → ℕ → Tree → List Mended → StripeFacts → Option Cell → List FolderCall
cell_calls plan d first before facts None = []
cell_calls plan d first before facts (Some cell) =
    let path = cell_path plan.table d cell in
    (if has_some (writes_of plan before d cell.rec) then [] else set_up_calls (place_in first path) path)
    ++ WriteAt path (block_start plan.table cell) (block_or_none (known_block plan facts d)) ∷ []

-- those of a stripe after some, and of stripes, one after another, after some
abbrev pub stripe_writes : FixPlan → ℕ → Tree → List Mended → Mended → List FolderCall
stripe_writes plan d first before mended =
    if is_written plan mended d then cell_calls plan d first before mended.facts (cell_at plan mended.facts.stripe d) else []

abbrev pub writes_after : FixPlan → ℕ → Tree → List Mended → List Mended → List FolderCall
writes_after plan d first before [] = []
writes_after plan d first before (mended ∷ stripes) =
    stripe_writes plan d first before mended ++ writes_after plan d first (before ++ mended ∷ []) stripes
