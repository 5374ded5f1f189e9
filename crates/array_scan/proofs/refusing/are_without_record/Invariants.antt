use Rattle.std.proofs.Common.{◌≡◌, drop}
use Rattle.std.specs.List.{list_all}
use Rattle.std.specs.Option.{is_none}
use Rattle.array_scan.specs.declared.sorting.Sorted.{Sorted}
use Rattle.array_scan.specs.Fates.{origin}
use Rattle.array_scan.proofs.refusing.are_without_record.Given as goal

abbrev pub invariant-loop-file : goal.invariant-loop-file
invariant-loop-file l =
    list_all (λ (file : Sorted). is_none (origin file.fate)) (drop l.file-index l.files) ≡ list_all (λ (file : Sorted). is_none (origin file.fate)) l.files
