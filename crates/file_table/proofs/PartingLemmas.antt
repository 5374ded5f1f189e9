-- A directory of a path ends where that path and the greatest one before it part.
use Rattle.std.proofs.Common.{◌≡◌, ◌⊎◌, inl, inr, ℕ, ◌+◌, ◌-◌, ◌<◌, List, [], ◌∷◌, ◌++◌, length, get_or, take, refl, sym, ap, ◌∙◌, subst, arith, length-append, Option, Some, None, is_some, true}
use Rattle.std.specs.List.{AllPairs, slice_get}
use Rattle.std.specs.Ordering.{nat_cmp, ordering_then}
use Rattle.std.specs.Cmp.Lexicographic.{slice_cmp, nat_list_cmp_total}
use Rattle.std.specs.FinMap.{nat_cmp-IsAntisymmetric}
use Rattle.std.specs.declared.cmp.Ordering.{Ordering}
use Rattle.std.specs.declared.cmp.Ordering.TheVariants.{Less, Equal, Greater}
use Rattle.std.proofs.lemmas.Cmp.{tied_itself}
use Rattle.std.proofs.lemmas.List.{get_or_append_left, get_or_at, get_or_default, get_or-map, length-map, take_at}
use Rattle.std.proofs.lemmas.Option.{get_or_from_slice_get}
use Rattle.std.proofs.lemmas.Bool.{cases_lt}
use Rattle.std.proofs.lemmas.Bool.Decides.{eqb_tells}
use Rattle.disk_model.specs.Path.{IsDirectoryOf}
use Rattle.file_table.specs.declared.block.Block.{Block}
use Rattle.file_table.specs.declared.disk.File.{File}
use Rattle.file_table.specs.declared.disk.Disk.TheInside.{Inside}
use Rattle.file_table.specs.Disk.{record_of, records_from, column_of}
use Rattle.file_table.specs.Table.{Record, Column, HasPath, record_in, no_record}
use Rattle.file_table.specs.Valid.{ComesBefore, IsLessPath}
use Rattle.file_table.specs.Building.{IsNested, last_record}
use Rattle.file_table.specs.Parting.{IsParting}

-- one text goes on after another
abbrev pub BeginsWith : List ℕ → List ℕ → Type 0
BeginsWith front one = (rest : List ℕ) × (one ≡ front ++ rest)

-- a text that is less than a longer one is less than a beginning of that, or begins so too
less_than_longer : (one front more : List ℕ) → IsLessPath one (front ++ more) → IsLessPath one front ⊎ BeginsWith front one
less_than_longer one [] more less = inr (one, refl)
less_than_longer [] (y ∷ ys) more less = inl refl
less_than_longer (x ∷ xs) (y ∷ ys) more less = by_cases (nat_cmp x y) refl (less_than_longer xs ys more)
  where
    by_cases : (o : Ordering) → nat_cmp x y ≡ o → (IsLessPath xs (ys ++ more) → IsLessPath xs ys ⊎ BeginsWith ys xs)
        → IsLessPath (x ∷ xs) (y ∷ ys) ⊎ BeginsWith (y ∷ ys) (x ∷ xs)
    by_cases Less is rest_is = inl (ap (λ (o : Ordering). ordering_then o (slice_cmp nat_cmp xs ys)) is)
    by_cases Equal is rest_is =
        let same : x ≡ y = nat_cmp-IsAntisymmetric x y is in
        let rest_less : IsLessPath xs (ys ++ more) = sym (ap (λ (o : Ordering). ordering_then o (slice_cmp nat_cmp xs (ys ++ more))) is) ∙ less in
        elim (rest_is rest_less) [
          | inl before ↦ inl (ap (λ (o : Ordering). ordering_then o (slice_cmp nat_cmp xs ys)) is ∙ before)
          | inr begins ↦ inr (begins.0, ap (λ (n : ℕ). n ∷ xs) same ∙ ap (λ (bytes : List ℕ). y ∷ bytes) begins.1)
        ]
    by_cases Greater is rest_is =
        let greater : Greater ≡ Less = sym (ap (λ (o : Ordering). ordering_then o (slice_cmp nat_cmp xs (ys ++ more))) is) ∙ less in absurd (cc)

-- no text is less than itself
not_less : (one : List ℕ) → IsLessPath one one → ⊥
not_less one less = let tied : slice_cmp nat_cmp one one ≡ Equal = tied_itself nat_list_cmp_total one in cc

-- a text that goes on with a slash has what stands before it as a directory
goes_on : (front one more : List ℕ) → one ≡ front ++ more → length front < length one → get_or one (length front) 0 ≡ 47 → IsDirectoryOf front one
goes_on front one [] joined longer slash = absurd (omega (arith, ap length joined, length-append {A = ℕ} front [], longer))
goes_on front one (next ∷ rest) joined longer slash =
    let here : get_or one (length front) 0 ≡ next = ap (λ (bytes : List ℕ). get_or bytes (length front) 0) joined ∙ get_or_at front next rest 0 (length front) refl in
    (rest, joined ∙ ap (λ (byte : ℕ). front ++ byte ∷ rest) (sym here ∙ slash))

module _ (column : Column) (path : List ℕ) (place : ℕ) (order : AllPairs ComesBefore column.records) (less : IsLessPath (last_record column.records).path path) (parts : IsParting (last_record column.records).path path place) where
  -- no record's path is greater than the last one's
  not_after_last : (i : ℕ) → i < length column.records → IsLessPath (last_record column.records).path (record_in column i).path → ⊥
  not_after_last i within after = elim (eqb_tells i (length column.records - 1)) [
    | inl same ↦ not_less (last_record column.records).path (subst (λ (n : ℕ). IsLessPath (last_record column.records).path (record_in column n).path) same.1 after)
    | inr other ↦
        let earlier : i < length column.records - 1 = omega (arith, other.1) in
        let there : length column.records - 1 < length column.records = omega arith in
        let before = order i (length column.records - 1) no_record earlier there in
        not_less (last_record column.records).path (nat_list_cmp_total.trans (last_record column.records).path (record_in column i).path (last_record column.records).path after before.less)
  ]

  -- no record's path is a directory of the last one's
  not_of_last : (i : ℕ) → i < length column.records → length (record_in column i).path < length (last_record column.records).path → IsDirectoryOf (record_in column i).path (last_record column.records).path → ⊥
  not_of_last i within shorter directory = elim (eqb_tells i (length column.records - 1)) [
    | inl same ↦ omega (arith, shorter, ap (λ (n : ℕ). length (record_in column n).path) same.1)
    | inr other ↦
        let earlier : i < length column.records - 1 = omega (arith, other.1) in
        let there : length column.records - 1 < length column.records = omega arith in
        (order i (length column.records - 1) no_record earlier there).not_nested directory
  ]

  -- a record whose path is a directory of this path has one that ends where it and the last one part
  pub directory_ends : (i : ℕ) → i < length column.records → IsDirectoryOf (record_in column i).path path → length (record_in column i).path ≡ place
  directory_ends i within directory =
      let last : List ℕ = (last_record column.records).path in
      let front : List ℕ = (record_in column i).path in
      let end : ℕ = length front in
      let rest : List ℕ = directory.0 in
      let joined : path ≡ front ++ 47 ∷ rest = directory.1 in
      let begins : BeginsWith front last = elim (less_than_longer last front (47 ∷ rest) (subst (IsLessPath last) joined less)) [
        | inl before ↦ absurd (not_after_last i within before)
        | inr begins ↦ begins
      ] in
      let long : length path ≡ end + length (47 ∷ rest) = ap length joined ∙ length-append front (47 ∷ rest) in
      let longer : end < length path = omega (arith, long) in
      let last_long : length last ≡ end + length begins.0 = ap length begins.1 ∙ length-append front begins.0 in
      elim (eqb_tells end place) [
        | inl same ↦ same.1
        | inr other ↦ absurd (elim (cases_lt place end) [
          | inl earlier ↦
              let there : place < length last = omega (arith, last_long) in
              let inside : place < length path = omega (arith, longer) in
              let one : get_or last place 0 ≡ get_or front place 0 = ap (λ (bytes : List ℕ). get_or bytes place 0) begins.1 ∙ get_or_append_left front begins.0 0 place earlier in
              let two : get_or path place 0 ≡ get_or front place 0 = ap (λ (bytes : List ℕ). get_or bytes place 0) joined ∙ get_or_append_left front (47 ∷ rest) 0 place earlier in
              parts.apart there inside (one ∙ sym two)
          | inr le ↦
              let later : end < place = omega (arith, other.1) in
              let there : end < length last = omega (arith, parts.within_one) in
              let slash : get_or last end 0 ≡ 47 = parts.shared end later ∙ ap (λ (bytes : List ℕ). get_or bytes end 0) joined ∙ get_or_at front 47 rest 0 end refl in
              not_of_last i within there (goes_on front last begins.0 begins.1 there slash)
        ])
      ]

-- where no record's path ends where the paths part, none is a directory
pub no_directory : (column : Column) (path : List ℕ) (place : ℕ) → AllPairs ComesBefore column.records → IsLessPath (last_record column.records).path path
    → IsParting (last_record column.records).path path place
    → (place < length path → get_or path place 0 ≡ 47 → (i : ℕ) → ¬ (HasPath column i (take place path))) → ¬ (IsNested column path)
no_directory column path place order less parts none nested =
    let (i, kept, within, is, directory) = nested in
    let read : record_in column i ≡ kept = get_or_default column.records i no_record kept within ∙ is in
    let here : IsDirectoryOf (record_in column i).path path = subst (λ (r : Record). IsDirectoryOf r.path path) (sym read) directory in
    let ends : length (record_in column i).path ≡ place = directory_ends column path place order less parts i within here in
    let front : List ℕ = (record_in column i).path in
    let joined : path ≡ front ++ 47 ∷ here.0 = here.1 in
    let longer : place < length path = omega (arith, ap length joined, length-append front (47 ∷ here.0), ends) in
    let slash : get_or path place 0 ≡ 47 = ap (λ (bytes : List ℕ). get_or bytes place 0) joined ∙ get_or_at front 47 here.0 0 place ends in
    let taken : take place path ≡ front = ap (λ (bytes : List ℕ). take place bytes) joined ∙ take_at front (47 ∷ here.0) place ends in
    none longer slash i (record { within = within; path_is = sym taken })

-- where a record's path that ends there would be found, a directory is
pub found_where_nested : (column : Column) (path : List ℕ) (place : ℕ) (found : Option ℕ) → AllPairs ComesBefore column.records → IsLessPath (last_record column.records).path path
    → IsParting (last_record column.records).path path place
    → ((i : ℕ) → HasPath column i (take place path) → found ≡ Some i) → IsNested column path → is_some found ≡ true
found_where_nested column path place (Some i) order less parts only nested = refl
found_where_nested column path place None order less parts only nested =
    absurd (no_directory column path place order less parts (λ below slash i at. let is : None ≡ Some i = only i at in cc) nested)

-- the last file's path is the last record's
pub last_of_files : (name : List ℕ) (blocks : List Block) (files : List File) (file : File) → Some file ≡ slice_get files (length files - 1)
    → (0 < length (records_from blocks files)) × ((last_record (records_from blocks files)).path ≡ file.path)
last_of_files name blocks [] file is = absurd (cc)
last_of_files name blocks (first ∷ rest) file is =
    let files : List File = first ∷ rest in
    let long : length (records_from blocks files) ≡ length files = length-map files (record_of blocks) in
    let there : length files - 1 < length files = omega arith in
    let read : get_or files (length files - 1) first ≡ file = get_or_from_slice_get files (length files - 1) file first (sym is) in (
      omega (arith, long),
      ap (λ (n : ℕ). (get_or (records_from blocks files) (n - 1) no_record).path) long
          ∙ ap (λ (r : Record). r.path) (get_or-map (record_of blocks) files (length files - 1) first no_record there)
          ∙ ap (λ (f : File). f.path) read,
    )

-- the files of a column, whose last one's path is read, part from a path as the records do
pub parts_of_files : (inside : Inside) (column : Column) (files : List File) (file : File) (one other path : List ℕ) (place : ℕ) → column_of inside ≡ column → files ≡ inside.files.items
    → Some file ≡ slice_get files (length files - 1) → one ≡ file.path → other ≡ path → IsParting one other place
    → (0 < length column.records) × IsParting (last_record column.records).path path place
parts_of_files inside column files file one other path place view files_are at one_is other_is parts =
    let here : Some file ≡ slice_get inside.files.items (length inside.files.items - 1) = subst (λ (fs : List File). Some file ≡ slice_get fs (length fs - 1)) files_are at in
    let last = last_of_files inside.name inside.blocks.items inside.files.items file here in
    let some : 0 < length column.records = subst (λ (c : Column). 0 < length c.records) view last.0 in
    let last_is : (last_record column.records).path ≡ file.path = subst (λ (c : Column). (last_record c.records).path ≡ file.path) view last.1 in
    (some, subst (λ (bytes : List ℕ). IsParting bytes path place) (one_is ∙ sym last_is) (subst (λ (bytes : List ℕ). IsParting one bytes place) other_is parts))
