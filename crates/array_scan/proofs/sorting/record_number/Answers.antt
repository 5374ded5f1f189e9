use Rattle.file_table.specs.Table.{column_at}
use Rattle.array_scan.proofs.FatesLemmas.{record_found, found_within}
use Rattle.array_scan.proofs.sorting.record_number.Goals as goal

pub returns-clause-number : goal.returns-clause-number
returns-clause-number c = record_found (column_at c.args.old.now.columns c.args.d) c.args.path.now c.find.result c.find.ensures.found c.find.ensures.only

pub returns-clause-within : goal.returns-clause-within
returns-clause-within c = found_within (column_at c.args.old.now.columns c.args.d) c.args.path.now c.find.result c.find.ensures.found
