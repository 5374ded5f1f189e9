use Rattle.std.proofs.Common.{◌≤◌, List, length, subst}
use Rattle.file_table.specs.Table.{Column}
use Rattle.file_table.specs.Valid.{most_records}
use Rattle.hash_index.specs.Duplicates.{spots_of}
use Rattle.hash_index.proofs.PairLemmas.{few_pairs, pairs_within}
use Rattle.hash_index.proofs.pairs.Pairs.new.Goals as goal

pub returns-clause-within : goal.returns-clause-within
returns-clause-within c = pairs_within c.args.table.now.columns

pub returns-clause-few : goal.returns-clause-few
returns-clause-few c =
    few_pairs (spots_of c.args.table.now.columns)
    (subst (λ (columns : List Column). length (spots_of columns) ≤ most_records) c.in_ok-records.ensures.columns c.in_ok-records.ensures.few)
