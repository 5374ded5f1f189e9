-- What a run did.
use Rattle.std.specs.Prelude.{Bool}
use Rattle.snap_sync.specs.Part.{SyncRun}
use Rattle.snap_top.specs.Fix.{FixRun}
use Rattle.snap_top.specs.Scrub.{ScrubRun}

-- what a run did to the files of the vault and of the folders: it only read them, or it synced, fixed or scrubbed them, and broke off in
-- that (`failed`) or did not
pub data Did : Type 0 where
  reads_only : Did
  syncs : (failed : Bool) → SyncRun → Did
  fixes : (failed : Bool) → FixRun → Did
  scrubs : (failed : Bool) → ScrubRun → Did
