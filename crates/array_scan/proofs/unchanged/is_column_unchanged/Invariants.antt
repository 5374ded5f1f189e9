use Rattle.std.proofs.Common.{◌≡◌, ◌≤◌, length, take}
use Rattle.disk_model.specs.Tree.{listed}
use Rattle.file_table.specs.Table.{column_at}
use Rattle.array_setup.specs.Setup.{setup_value}
use Rattle.folder_listing.specs.Kept.{kept_files}
use Rattle.array_scan.specs.Own.{own_files}
use Rattle.array_scan.proofs.unchanged.is_column_unchanged.Given as goal

abbrev pub invariant-loop-file : goal.invariant-loop-file
invariant-loop-file l =
    let records = (column_at l.table.columns l.d).records in
    record {
      within : l.rec ≤ length records;
      same : kept_files (setup_value l.setup) l.d (listed (take l.file-index l.files)) ≡ take l.rec (own_files records);
    }
