use Rattle.std.specs.Prelude.{◌≡◌, List, Bool, None}
use Rattle.file_table.specs.Table.{TableValue}
use Rattle.file_table.specs.Valid.{IsValid}
use Rattle.folder_listing.specs.Kept.{ListedFile}
use Rattle.array_scan.specs.Layout.{all_sorted, layout}
use Rattle.array_scan.specs.Own.{AreKept}
use Rattle.array_scan.specs.Refusals.{refusal}
use Rattle.array_scan.proofs.LaidLemmas.{IsValid-layout}
use Rattle.array_scan.proofs.LawLemmas.{own_layout, own_unrefused}
use Rattle.array_scan.proofs.RefusalLemmas.{few_blocks, few_files}
use Rattle.array_scan.proofs.TwiceLemmas.{layout_holds}
use Rattle.array_scan.proofs.laws.a_layout_is_laid_out_as_it_is.Goals as goal

-- a layout that is not refused is a valid table
valid_layout : (force_zero force_empty : Bool) (table : TableValue) (kept : List (List ListedFile)) → IsValid table → AreKept table kept
    → refusal force_zero force_empty table (all_sorted table kept) ≡ None → IsValid (layout table kept)
valid_layout force_zero force_empty table kept valid are none =
    IsValid-layout table kept valid are (few_blocks force_zero force_empty table (all_sorted table kept) none) (few_files force_zero force_empty table (all_sorted table kept) none)

pub returns-clause-same : goal.returns-clause-same
returns-clause-same c = λ force_zero force_empty table kept valid are none.
    own_layout (layout table kept) kept (valid_layout force_zero force_empty table kept valid are none) (layout_holds table kept are.count)

pub returns-clause-unrefused : goal.returns-clause-unrefused
returns-clause-unrefused c = λ force_zero force_empty table kept valid are none zero_forced empty_forced.
    own_unrefused zero_forced empty_forced (layout table kept) kept (valid_layout force_zero force_empty table kept valid are none) (layout_holds table kept are.count)
