use Rattle.std.proofs.Common.{◌≡◌, ℕ, ◌<◌, length, map, take, All, IfSome, Option}
use Rattle.disk_model.specs.Tree.{listed}
use Rattle.file_table.specs.Table.{column_at}
use Rattle.folder_listing.specs.Kept.{ListedFile}
use Rattle.array_scan.specs.Fates.{record_with}
use Rattle.array_scan.proofs.sorting.named.Given as goal

abbrev pub invariant-loop-file : goal.invariant-loop-file
invariant-loop-file l =
    let records = (column_at l.old.columns l.d).records in
    (l.named.items ≡ map (λ (file : ListedFile). record_with records file.0) (listed (take l.file-index l.files)))
    × All (λ (rec : Option ℕ). IfSome rec (λ i. i < length records)) l.named.items
