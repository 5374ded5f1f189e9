use Rattle.std.proofs.Common.{◌≡◌, take}
use Rattle.disk_model.specs.Tree.{listed}
use Rattle.array_setup.specs.Setup.{setup_value}
use Rattle.folder_listing.specs.Kept.{kept_files}
use Rattle.folder_listing.proofs.keeping.kept.Given as goal

abbrev pub invariant-loop-file : goal.invariant-loop-file
invariant-loop-file l = listed l.kept.items ≡ kept_files (setup_value l.setup) l.column (listed (take l.file-index l.files))
