-- What a binary search over files in order finds.
use Rattle.std.proofs.Common.{◌≡◌, ◌≢◌, ◌⊎◌, inl, inr, ℕ, ◌<◌, ◌≤◌, List, [], length, get_or, refl, sym, ap, ◌∙◌, subst, arith}
use Rattle.std.specs.List.{AllPairs}
use Rattle.std.specs.Ordering.{nat_cmp, ordering_index}
use Rattle.std.specs.Cmp.Lexicographic.{slice_cmp, nat_list_cmp_total}
use Rattle.std.specs.List.Sorted.{IsNonDecreasingBy, IsPartitionPoint}
use Rattle.std.specs.FinMap.{slice_cmp-IsAntisymmetric, nat_cmp-IsAntisymmetric}
use Rattle.std.specs.declared.cmp.Ordering.{Ordering}
use Rattle.std.specs.declared.cmp.Ordering.TheVariants.{Less, Equal, Greater}
use Rattle.std.proofs.lemmas.Cmp.{tied_itself}
use Rattle.std.proofs.lemmas.List.{get_or-map, length-map}
use Rattle.std.proofs.lemmas.Bool.{cases_lt}
use Rattle.std.proofs.lemmas.Bool.Decides.{eqb_tells}
use Rattle.file_table.specs.declared.block.Block.{Block}
use Rattle.file_table.specs.declared.disk.File.{File}
use Rattle.file_table.specs.Table.{Record, Column, HasPath, record_in, no_record, no_meta}
use Rattle.file_table.specs.Disk.{record_of, records_from}
use Rattle.file_table.specs.Valid.{ComesBefore, IsLessPath}

abbrev pub path_cmp : List ℕ → List ℕ → Ordering
path_cmp = slice_cmp nat_cmp

-- texts that are tied are equal
pub tied_paths : (a b : List ℕ) → path_cmp a b ≡ Equal → a ≡ b
tied_paths a b tied = slice_cmp-IsAntisymmetric nat_cmp-IsAntisymmetric a b tied

pub tied_same : (a b : List ℕ) → a ≡ b → path_cmp a b ≡ Equal
tied_same a b same = ap (λ (p : List ℕ). path_cmp a p) (sym same) ∙ tied_itself nat_list_cmp_total a

-- no two records of a column in order share a path
later_path : (column : Column) → AllPairs ComesBefore column.records → (i j : ℕ) (path : List ℕ) → i < j → HasPath column i path → HasPath column j path → ⊥
later_path column order i j path less at_i at_j =
    let before : IsLessPath (record_in column i).path (record_in column j).path = (order i j no_record less at_j.within).less in
    let tied : path_cmp (record_in column i).path (record_in column j).path ≡ Equal = tied_same (record_in column i).path (record_in column j).path (at_i.path_is ∙ sym at_j.path_is) in
    cc

pub path_once : (column : Column) → AllPairs ComesBefore column.records → (i j : ℕ) (path : List ℕ) → HasPath column i path → HasPath column j path → i ≡ j
path_once column order i j path at_i at_j =
    elim (eqb_tells i j) [
      | inl same ↦ same.1
      | inr other ↦ elim (less_or_more i j other.1) [
        | inl less ↦ absurd (later_path column order i j path less at_i at_j)
        | inr more ↦ absurd (later_path column order j i path more at_j at_i)
      ]
    ]
  where
    less_or_more : (m n : ℕ) → m ≢ n → (m < n) ⊎ (n < m)
    less_or_more m n other = elim (cases_lt m n) [ inl less ↦ inl less | inr le ↦ inr (omega arith) ]

-- the path of a record is that of its file
path_of_file : (name : List ℕ) (blocks : List Block) (files : List File) (i : ℕ) (d : File) → i < length files
    → (record_in (record { name = name; records = records_from blocks files }) i).path ≡ (get_or files i d).path
path_of_file name blocks files i d within = ap (λ (r : Record). r.path) (get_or-map (record_of blocks) files i d no_record within)

pub found_at : (name : List ℕ) (blocks : List Block) (files : List File) (i : ℕ) (path : List ℕ) → i < length files
    → ((d : File) → path_cmp (get_or files i d).path path ≡ Equal) → HasPath (record { name = name; records = records_from blocks files }) i path
found_at name blocks files i path within tied =
    let d : File = record { path = []; meta = no_meta; first = 0; count = 0 } in
    let long : length (records_from blocks files) ≡ length files = length-map files (record_of blocks) in
    record {
      within = omega arith;
      path_is = path_of_file name blocks files i d within ∙ tied_paths (get_or files i d).path path (tied d);
    }

-- the answers rise
rising : (path earlier later : List ℕ) → IsLessPath earlier later → ordering_index (path_cmp earlier path) ≤ ordering_index (path_cmp later path)
rising path earlier later less = by_cases (path_cmp later path) refl
  where
    by_cases : (o : Ordering) → path_cmp later path ≡ o → ordering_index (path_cmp earlier path) ≤ ordering_index (path_cmp later path)
    by_cases Less is = let first : path_cmp earlier path ≡ Less = nat_list_cmp_total.trans earlier later path less is in rw (first, is) (omega arith)
    by_cases Equal is =
        let first : path_cmp earlier path ≡ Less = subst (λ (p : List ℕ). path_cmp earlier p ≡ Less) (tied_paths later path is) less in rw (first, is) (omega arith)
    by_cases Greater is = rw is (most (path_cmp earlier path))
      where
        most : (o : Ordering) → ordering_index o ≤ ordering_index Greater
        most Less = omega arith
        most Equal = omega arith
        most Greater = omega arith

pub files_rise : (name : List ℕ) (blocks : List Block) (files : List File) (path : List ℕ) → AllPairs ComesBefore (records_from blocks files)
    → IsNonDecreasingBy (λ (file : File). ordering_index (path_cmp file.path path)) files
files_rise name blocks files path order i j d le within =
    elim (eqb_tells i j) [
      | inl same ↦ rw same.1 (omega arith)
      | inr other ↦
          let less : i < j = omega (arith, other.1) in
          let first : i < length files = omega arith in
          let long : length (records_from blocks files) ≡ length files = length-map files (record_of blocks) in
          let before : IsLessPath (get_or (records_from blocks files) i no_record).path (get_or (records_from blocks files) j no_record).path = (order i j no_record less (omega arith)).less in
          let here : IsLessPath (get_or files i d).path (get_or files j d).path =
          subst (λ (p : List ℕ). IsLessPath (get_or files i d).path p) (path_of_file name blocks files j d within)
          (subst (λ (p : List ℕ). IsLessPath p (get_or (records_from blocks files) j no_record).path) (path_of_file name blocks files i d first) before) in
          rising path (get_or files i d).path (get_or files j d).path here
    ]

pub found_nowhere : (name : List ℕ) (blocks : List Block) (files : List File) (place : ℕ) (path : List ℕ) → AllPairs ComesBefore (records_from blocks files)
    → (IsNonDecreasingBy (λ (file : File). ordering_index (path_cmp file.path path)) files → IsPartitionPoint (λ (file : File). path_cmp file.path path ≡ Less) (λ (file : File). path_cmp file.path path ≡ Greater) files place)
    → (i : ℕ) → ¬ (HasPath (record { name = name; records = records_from blocks files }) i path)
found_nowhere name blocks files place path order splits i at =
    let d : File = record { path = []; meta = no_meta; first = 0; count = 0 } in
    let long : length (records_from blocks files) ≡ length files = length-map files (record_of blocks) in
    let within : i < length (records_from blocks files) = at.within in
    let below : i < length files = omega arith in
    let parts = splits (files_rise name blocks files path order) in
    let tied : path_cmp (get_or files i d).path path ≡ Equal = tied_same (get_or files i d).path path (sym (path_of_file name blocks files i d below) ∙ at.path_is) in
    elim (cases_lt i place) [
      | inl before ↦ let less : path_cmp (get_or files i d).path path ≡ Less = parts.0 i d (omega arith) before in cc
      | inr after ↦ let greater : path_cmp (get_or files i d).path path ≡ Greater = parts.1 i d after below in cc
    ]
