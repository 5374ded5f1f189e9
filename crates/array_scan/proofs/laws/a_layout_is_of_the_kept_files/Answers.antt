use Rattle.array_scan.proofs.TwiceLemmas.{layout_holds}
use Rattle.array_scan.proofs.laws.a_layout_is_of_the_kept_files.Goals as goal

pub returns : goal.returns
returns c = layout_holds
