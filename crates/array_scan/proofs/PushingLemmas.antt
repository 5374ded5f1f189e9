-- Files take free positions in turn.
use Rattle.std.proofs.Common.{◌≡◌, ℕ, zero, suc, ◌+◌, ◌<◌, List, ◌∷◌, length, get_or, take, drop, refl, sym, ap, ◌∙◌, arith, nat_cmp, Option, None, Some}
use Rattle.std.specs.FinSet.{FinSet, insert}
use Rattle.std.proofs.lemmas.List.{at_drop_more, take-take}
use Rattle.std.proofs.lemmas.List.Sums.{sum_by-drop_more}
use Rattle.position_alloc.specs.Lowest.{lowest_free}
use Rattle.file_table.specs.declared.block.Block.{Block}
use Rattle.file_table.specs.Table.{Record, block_count}
use Rattle.std.proofs.lemmas.List.{take_all}
use Rattle.file_table.proofs.PushingLemmas.{record_of}
use Rattle.array_scan.specs.declared.sorting.Fate.{Fate}
use Rattle.array_scan.specs.declared.sorting.Sorted.{Sorted}
use Rattle.array_scan.specs.Fates.{record_of as kept_of, origin}
use Rattle.array_scan.specs.Laying.{bare, blocks_by, blocks_without, needed, all_needed, free_positions, laid_record, laid_records}

pub laid-step : (size : ℕ) (records : List Record) (free now rest : List ℕ) (files : List Sorted) (i : ℕ) (file : Sorted) → i < length files → file ≡ get_or files i file
    → now ≡ take (needed size file) free → rest ≡ drop (needed size file) free
    → laid_records size records free (drop i files) ≡ laid_record size records now file ∷ laid_records size records rest (drop (i + 1) files)
laid-step size records free now rest files i file within is now_is rest_is =
    at_drop_more (laid_records size records free) files i file within
    ∙ ap (λ (f : Sorted). laid_record size records free f ∷ laid_records size records (drop (needed size f) free) (drop (i + 1) files)) (sym is)
    ∙ ap (λ (ps : List ℕ). laid_record size records free file ∷ laid_records size records ps (drop (i + 1) files)) (sym rest_is)
    ∙ ap (λ (r : Record). r ∷ laid_records size records rest (drop (i + 1) files)) (same_record file.fate refl ∙ ap (λ (ps : List ℕ). laid_record size records ps file) (sym now_is))
  where
    taken_twice : (n : ℕ) (o : Option ℕ) → blocks_by records free n o ≡ blocks_by records (take (blocks_without n o) free) n o
    taken_twice n None = ap bare (sym (take-take n n free (omega arith)))
    taken_twice n (Some k) = refl

    same_record : (fate : Fate) → file.fate ≡ fate → laid_record size records free file ≡ laid_record size records (take (needed size file) free) file
    same_record fate same = ap (λ (bs : List Block). record { path = file.path; meta = file.meta; blocks = bs }) (taken_twice (block_count size file.meta.size) (origin file.fate))

pub needed-step : (size : ℕ) (files : List Sorted) (i : ℕ) (file : Sorted) → i < length files → file ≡ get_or files i file → all_needed size (drop i files) ≡ needed size file + all_needed size (drop (i + 1) files)
needed-step size files i file within is = sum_by-drop_more (needed size) files i file within ∙ ap (λ (f : Sorted). needed size f + all_needed size (drop (i + 1) files)) (sym is)

pub length-free : (list : FinSet nat_cmp) (n : ℕ) → length (free_positions list n) ≡ n
length-free list zero = refl
length-free list (suc n) = ap suc (length-free (insert list (lowest_free list)) n)

-- a file whose blocks stay, and one whose blocks take these positions
pub laid_kept : (size : ℕ) (records : List Record) (free : List ℕ) (file : Sorted) (i : ℕ) → origin file.fate ≡ Some i → laid_record size records free file ≡ record_of file.path file.meta (kept_of records i).blocks
laid_kept size records free file i is = ap (λ (o : Option ℕ). record_of file.path file.meta (blocks_by records free (block_count size file.meta.size) o)) is

pub laid_bare : (size : ℕ) (records : List Record) (free : List ℕ) (file : Sorted) → origin file.fate ≡ None → length free ≡ needed size file → laid_record size records free file ≡ record_of file.path file.meta (bare free)
laid_bare size records free file is many =
    let n = block_count size file.meta.size in
    let count : length free ≡ n = many ∙ ap (blocks_without n) is in
    ap (λ (o : Option ℕ). record_of file.path file.meta (blocks_by records free n o)) is ∙ ap (λ (ps : List ℕ). record_of file.path file.meta (bare ps)) (take_all n free (omega (arith, count)))
