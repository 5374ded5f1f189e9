use Rattle.std.proofs.Common.{◌≡◌, ℕ, ◌≤◌, List, length, get_or, false}
use Rattle.file_table.specs.Table.{column_at}
use Rattle.folder_listing.specs.Kept.{ListedFile}
use Rattle.array_scan.specs.Fates.{is_listed}
use Rattle.array_scan.specs.Lost.{Offers}
use Rattle.array_scan.proofs.FatesLemmas.{vanished_from}
use Rattle.array_scan.proofs.sorting.lost_of.Given as goal

abbrev pub invariant-loop-rec : goal.invariant-loop-rec
invariant-loop-rec l =
    let records = (column_at l.old.columns l.d).records in
    (l.rec ≤ length records)
    × ((files : List ListedFile) → ((i : ℕ) → get_or l.marks i false ≡ is_listed records files i) → Offers l.lost (vanished_from records files l.rec))

abbrev pub decreases-loop-rec : goal.decreases-loop-rec
decreases-loop-rec l = l.rec
