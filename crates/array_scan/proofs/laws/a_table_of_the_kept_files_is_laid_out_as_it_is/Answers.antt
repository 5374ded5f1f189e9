use Rattle.array_scan.proofs.LawLemmas.{own_layout, own_unrefused}
use Rattle.array_scan.proofs.laws.a_table_of_the_kept_files_is_laid_out_as_it_is.Goals as goal

pub returns-clause-same : goal.returns-clause-same
returns-clause-same c = own_layout

pub returns-clause-unrefused : goal.returns-clause-unrefused
returns-clause-unrefused c = own_unrefused
