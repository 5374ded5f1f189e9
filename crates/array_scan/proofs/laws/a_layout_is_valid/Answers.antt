use Rattle.array_scan.specs.Layout.{all_sorted}
use Rattle.array_scan.proofs.LaidLemmas.{IsValid-layout}
use Rattle.array_scan.proofs.RefusalLemmas.{few_blocks, few_files}
use Rattle.array_scan.proofs.laws.a_layout_is_valid.Goals as goal

pub returns : goal.returns
returns c = λ force_zero force_empty table kept valid are none.
    IsValid-layout table kept valid are (few_blocks force_zero force_empty table (all_sorted table kept) none) (few_files force_zero force_empty table (all_sorted table kept) none)
