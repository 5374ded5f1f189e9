-- What an answer of the refusals says.
use Rattle.std.proofs.Common.{◌≡◌, ℕ, ◌≤◌, ◌||◌, List, cond, Bool, true, false, refl, arith, nat_lt, Option, None, Some}
use Rattle.std.proofs.lemmas.Bool.Decides.{nat_tests}
use Rattle.file_table.specs.Table.{TableValue}
use Rattle.file_table.specs.Valid.{most_blocks, most_records}
use Rattle.array_scan.specs.declared.fault.ScanFault.{ScanFault}
use Rattle.array_scan.specs.declared.fault.ScanFault.TheVariants.{Zeroed, Emptied, Full, Memory}
use Rattle.array_scan.specs.declared.sorting.Sorted.{Sorted}
use Rattle.array_scan.specs.Refusals.{or_else, unless, in_columns, zeroed_at, emptied_at, blocks_in, files_in, capped, full, refusal, IsCause}

pub is_cause : (refused : Option ScanFault) (fault : ScanFault) → refused ≡ Some fault → IsCause refused fault
is_cause refused Memory is = tt
is_cause refused (Zeroed d rec) is = is
is_cause refused (Emptied d) is = is
is_cause refused (Full blocks files) is = is

last_none : {X : Type 0} (a b : Option X) → or_else a b ≡ None → b ≡ None
last_none None b is = is
last_none (Some x) b is = absurd cc

not_more : (a b : ℕ) → nat_lt a b ≡ false → b ≤ a
not_more a b not = grind (arith, nat_tests)

not_full : (force_zero force_empty : Bool) (old : TableValue) (files : List (List Sorted)) → refusal force_zero force_empty old files ≡ None
    → (nat_lt most_blocks (blocks_in old.shape.block_size files) ≡ false) × (nat_lt most_records (files_in files) ≡ false)
not_full force_zero force_empty old files none =
    let last : full old files ≡ None =
    last_none (unless force_empty (in_columns old (emptied_at old files))) (full old files)
    (last_none (unless force_zero (in_columns old (zeroed_at old files))) (or_else (unless force_empty (in_columns old (emptied_at old files))) (full old files)) none) in
    both (nat_lt most_blocks (blocks_in old.shape.block_size files)) (nat_lt most_records (files_in files)) last
  where
    both : (s t : Bool) → cond (s || t) (Some (Full (capped (blocks_in old.shape.block_size files)) (capped (files_in files)))) None ≡ None → (s ≡ false) × (t ≡ false)
    both false false is = (refl, refl)
    both false true is = absurd cc
    both true t is = absurd cc

pub few_blocks : (force_zero force_empty : Bool) (old : TableValue) (files : List (List Sorted)) → refusal force_zero force_empty old files ≡ None → blocks_in old.shape.block_size files ≤ most_blocks
few_blocks force_zero force_empty old files none = not_more most_blocks (blocks_in old.shape.block_size files) (not_full force_zero force_empty old files none).0

pub few_files : (force_zero force_empty : Bool) (old : TableValue) (files : List (List Sorted)) → refusal force_zero force_empty old files ≡ None → files_in files ≤ most_records
few_files force_zero force_empty old files none = not_more most_records (files_in files) (not_full force_zero force_empty old files none).1
