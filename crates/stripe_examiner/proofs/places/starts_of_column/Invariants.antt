use Rattle.std.proofs.Common.{◌≡◌, map, take}
use Rattle.disk_model.specs.Tree.{listed}
use Rattle.file_table.specs.Table.{Record, records_in}
use Rattle.stripe_examiner.specs.Place.{start_of}
use Rattle.stripe_examiner.proofs.places.starts_of_column.Given as goal

abbrev pub invariant-loop-i : goal.invariant-loop-i
invariant-loop-i l = l.starts.items ≡ map (λ (kept : Record). start_of (listed l.files) kept.path) (take l.i (records_in l.table l.d))
