-- The paths of a column's records: valid, distinct, and none a directory of another.
use Rattle.std.proofs.Common.{◌≡◌, ◌≢◌, ◌⊎◌, inl, inr, ℕ, ◌+◌, ◌<◌, List, [], ◌∷◌, ◌++◌, length, drop, get_or, Bool, true, false, refl, sym, ap, ◌∙◌, subst, arith, append_assoc, length-append}
use Rattle.std.proofs.lemmas.Bool.Decides.{Decides-eqb}
use Rattle.std.proofs.lemmas.Slice.Eq.{starts_is}
use Rattle.std.proofs.lemmas.Cmp.{tied_itself, nat_list_cmp_total, nat_cmp_total}
use Rattle.std.proofs.lemmas.List.{append_cancel_left}
use Rattle.std.proofs.lemmas.Bool.{cases_lt}
use Rattle.std.specs.Cmp.Lexicographic.{slice_cmp}
use Rattle.std.specs.Ordering.{nat_cmp, ordering_then}
use Rattle.std.specs.declared.cmp.Ordering.{Ordering}
use Rattle.std.specs.declared.cmp.Ordering.TheVariants.{Less, Equal, Greater}
use Rattle.disk_model.specs.Path.{IsRecordPath, IsDirectoryOf, lost_suffix}
use Rattle.disk_model.specs.Tree.{is_directory_of, path_of}
use Rattle.disk_model.proofs.TreeLemmas.{names_apart}
use Rattle.file_table.specs.Table.{Record, Column, TableValue, column_at, no_record, no_column, records_in}
use Rattle.file_table.specs.Valid.{IsColumn, IsLessPath, IsValid}
use Rattle.file_restorer.specs.State.{record_path}

-- ---- directories

-- a directory and a slash begin the path
pub nested_is : (directory path : List ℕ) → is_directory_of directory path ≡ true → IsDirectoryOf directory path
nested_is directory path is = (
  drop (length (directory ++ 47 ∷ [])) path,
  (starts_is Decides-eqb path (directory ++ 47 ∷ []) (is_directory_of directory path) refl).0 is
      ∙ append_assoc directory (47 ∷ []) (drop (length (directory ++ 47 ∷ [])) path),
)

-- the two names of a path are not nested
pub own_not_nested : (path : List ℕ) (lost : Bool) → is_directory_of path (path_of path lost) ≡ true → ⊥
own_not_nested path true is =
    let nested = nested_is path (path_of path true) is in
    let same : lost_suffix ≡ 47 ∷ nested.0 = append_cancel_left path lost_suffix (47 ∷ nested.0) nested.1 in
    let heads : 46 ≡ 47 = ap (λ (bytes : List ℕ). get_or bytes 0 0) same in
    omega (arith, heads)
own_not_nested path false is =
    let nested = nested_is path (path_of path false) is in
    let same : [] ≡ 47 ∷ nested.0 = append_cancel_left path [] (47 ∷ nested.0) nested.1 in
    cc

pub own_not_inside : (path : List ℕ) (lost : Bool) → is_directory_of (path_of path lost) path ≡ true → ⊥
own_not_inside path lost is =
    let nested = nested_is (path_of path lost) path is in
    let longer = ap length nested.1 ∙ length-append (path_of path lost) (47 ∷ nested.0) in
    let long = by lost in
    omega (arith, longer, long)
  where
    by : (l : Bool) → length path < length (path_of path l) + 1
    by true = let sum = length-append path lost_suffix in omega arith
    by false = let sum = length-append path [] in omega arith

-- ---- the order of bytes

longer_greater : (path : List ℕ) (byte : ℕ) (rest : List ℕ) → slice_cmp nat_cmp (path ++ byte ∷ rest) path ≡ Greater
longer_greater [] byte rest = refl
longer_greater (first ∷ path) byte rest =
    let tied : nat_cmp first first ≡ Equal = tied_itself nat_cmp_total first in
    ap (λ (o : Ordering). ordering_then o (slice_cmp nat_cmp (path ++ byte ∷ rest) path)) tied ∙ longer_greater path byte rest

-- what is less is not inside the other
less_not_inside : (earlier later : List ℕ) → IsLessPath earlier later → ¬ (IsDirectoryOf later earlier)
less_not_inside earlier later less nested =
    let greater : slice_cmp nat_cmp earlier later ≡ Greater = ap (λ (p : List ℕ). slice_cmp nat_cmp p later) nested.1 ∙ longer_greater later 47 nested.0 in
    cc

less_other : (earlier later : List ℕ) → IsLessPath earlier later → earlier ≢ later
less_other earlier later less same =
    let less_itself : slice_cmp nat_cmp later later ≡ Less = subst (λ (p : List ℕ). slice_cmp nat_cmp p later ≡ Less) same less in
    let tied : slice_cmp nat_cmp later later ≡ Equal = tied_itself nat_list_cmp_total later in
    cc

-- ---- of a column

-- The paths of records are valid, distinct, and none is a directory of another.
pub record ArePaths (records : List Record) : Type 0 where
  pub each : (i : ℕ) → i < length records → IsRecordPath (record_path records i)
  pub distinct : (i k : ℕ) → i < length records → k < length records → k ≢ i → record_path records k ≢ record_path records i
  pub apart : (i k : ℕ) → i < length records → k < length records → k ≢ i → ¬ (IsDirectoryOf (record_path records k) (record_path records i))

either : (i k : ℕ) → k ≢ i → (k < i) ⊎ (i < k)
either i k other = elim (cases_lt k i) [ inl less ↦ inl less | inr more ↦ inr (omega arith) ]

pub column_paths : (the_length : ℕ) (column : Column) → IsColumn the_length column → ArePaths column.records
column_paths the_length column is = record {
  each = λ i within. (is.records i no_record within).path;
  distinct = λ i k within also other same. elim (either i k other) [
    | inl less ↦ less_other _ _ (is.order k i no_record less within).less same
    | inr more ↦ less_other _ _ (is.order i k no_record more also).less (sym same)
  ];
  apart = λ i k within also other nested. elim (either i k other) [
    | inl less ↦ (is.order k i no_record less within).not_nested nested
    | inr more ↦ less_not_inside _ _ (is.order i k no_record more also).less nested
  ];
}

pub table_paths : (table : TableValue) (d : ℕ) → IsValid table → d < length table.columns → ArePaths (records_in table d)
table_paths table d valid within = column_paths (length table.infos) (column_at table.columns d) (valid.columns.each d no_column within)

-- their names are distinct too
pub names_distinct : (records : List Record) → ArePaths records → (i k : ℕ) → i < length records → k < length records → k ≢ i
    → (one other : Bool) → path_of (record_path records k) one ≢ path_of (record_path records i) other
names_distinct records are i k within also other = names_apart (record_path records i) (record_path records k) (are.each i within) (are.each k also) (are.distinct i k within also other)
