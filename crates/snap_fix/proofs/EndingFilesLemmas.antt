-- What stays of the file of one record, where that of another is finished.
use Rattle.std.proofs.Common.{◌≡◌, ◌≢◌, ◌⊎◌, inl, inr, ℕ, ◌<◌, List, [], ◌∷◌, ◌++◌, length, Bool, true, false, Option, None, refl, sym, ap, ap₂, ◌∙◌, subst, bytes_eq}
use Rattle.std.specs.List.{AllByRecursion}
use Rattle.std.proofs.lemmas.Bool.Decides.{eqb_tells, not_from_Decides}
use Rattle.std.proofs.lemmas.Slice.Eq.{bytes_eq-Decides}
use Rattle.disk_model.specs.Bytes.{resized}
use Rattle.disk_model.specs.Path.{EndsWith, components, lost_suffix, with_front}
use Rattle.disk_model.specs.Tree.{Tree, File, IsApart, file_of, is_directory_of, path_of}
use Rattle.disk_model.specs.declared.meta.Meta.{Meta}
use Rattle.disk_model.specs.declared.meta.Stamp.{Stamp}
use Rattle.disk_model.proofs.PathLemmas.{components-here, components-other}
use Rattle.disk_model.proofs.TreeLemmas.{own_name}
use Rattle.file_table.specs.Table.{Record}
use Rattle.stripe_reader.specs.declared.starts.Place.{Place}
use Rattle.stripe_reader.specs.declared.starts.Start.{Start}
use Rattle.file_restorer.specs.declared.finishing.Finish.{Finish}
use Rattle.file_restorer.specs.declared.finishing.Finish.TheVariants.{Kept, Restored, Unstamped, Renamed, Gone}
use Rattle.file_restorer.specs.declared.state.FileState.{FileState}
use Rattle.file_restorer.specs.Finishing.{FitsTree, HoldsFinished, SameNames, StandsWhole, bytes_now, lost_after}
use Rattle.file_restorer.specs.Mending.{IsFree}
use Rattle.file_restorer.specs.State.{OthersStay, bytes_or, record_path}
use Rattle.file_restorer.proofs.FinishNameLemmas.{lost_directory}
use Rattle.file_restorer.proofs.RecordPathsLemmas.{ArePaths, names_distinct, nested_is}

-- ---- names

abbrev NotLost : List ℕ → Type 0
NotLost part = ¬ (EndsWith lost_suffix part)

without_front : (byte : ℕ) (parts : List (List ℕ)) → AllByRecursion NotLost (with_front byte parts) → AllByRecursion NotLost parts
without_front byte [] all = tt
without_front byte (part ∷ parts) all = (λ ends. all.0 (byte ∷ ends.0, ap (λ (bytes : List ℕ). byte ∷ bytes) ends.1), all.1)

-- the name of a lost file is no directory of a path of which no part ends as such a name does
inside_lost : (front rest : List ℕ) → ¬ (AllByRecursion NotLost (components ((front ++ lost_suffix) ++ 47 ∷ rest)))
inside_lost [] rest all = all.0 ([], refl)
inside_lost (byte ∷ front) rest all = elim (eqb_tells byte 47) [
  | inl slash ↦ inside_lost front rest (subst (AllByRecursion NotLost) (components-here byte ((front ++ lost_suffix) ++ 47 ∷ rest) slash.1) all).1
  | inr other ↦ inside_lost front rest (without_front byte (components ((front ++ lost_suffix) ++ 47 ∷ rest))
      (subst (AllByRecursion NotLost) (components-other byte ((front ++ lost_suffix) ++ 47 ∷ rest) other.1) all))
]

if_not : (b : Bool) → (b ≡ true → ⊥) → b ≡ false
if_not true is = absurd (is refl)
if_not false is = refl

-- of two records of a column neither name of one is a directory of a name of the other
not_inside : (records : List Record) → ArePaths records → (i k : ℕ) → i < length records → k < length records → k ≢ i → (one : Bool)
    → is_directory_of (path_of (record_path records k) one) (record_path records i) ≡ true → ⊥
not_inside records are i k within also other true is =
    let nested = nested_is (path_of (record_path records k) true) (record_path records i) is in
    inside_lost (record_path records k) nested.0 (subst (λ (bytes : List ℕ). AllByRecursion NotLost (components bytes)) nested.1 (are.each i within).not_lost)
not_inside records are i k within also other false is =
    are.apart i k within also other (nested_is (record_path records k) (record_path records i)
    (subst (λ (bytes : List ℕ). is_directory_of bytes (record_path records i) ≡ true) (own_name (record_path records k)) is))

pub names_not_nested : (records : List Record) → ArePaths records → (i k : ℕ) → i < length records → k < length records → k ≢ i → (one two : Bool)
    → is_directory_of (path_of (record_path records k) one) (path_of (record_path records i) two) ≡ false
names_not_nested records are i k within also other one true =
    if_not _ (λ is. not_inside records are i k within also other one (lost_directory (path_of (record_path records k) one) (record_path records i) is))
names_not_nested records are i k within also other one false =
    if_not _ (λ is. not_inside records are i k within also other one
    (subst (λ (bytes : List ℕ). is_directory_of (path_of (record_path records k) one) bytes ≡ true) (own_name (record_path records i)) is))

-- a name is one of the two of a path, or it isn't
name_is : (name path : List ℕ) (lost : Bool) → (name ≡ path_of path lost) ⊎ (name ≢ path_of path lost)
name_is name path lost = by (bytes_eq name (path_of path lost)) refl
  where
    by : (b : Bool) → bytes_eq name (path_of path lost) ≡ b → (name ≡ path_of path lost) ⊎ (name ≢ path_of path lost)
    by true is = inl ((bytes_eq-Decides name (path_of path lost)).0 is)
    by false is = inr (not_from_Decides (bytes_eq name (path_of path lost)) (bytes_eq-Decides name (path_of path lost)) is)

name_or_not : (path name : List ℕ) → ((lost : Bool) × (name ≡ path_of path lost)) ⊎ ((lost : Bool) → name ≢ path_of path lost)
name_or_not path name = elim (name_is name path true) [
  | inl is ↦ inl (true, is)
  | inr not_lost ↦ elim (name_is name path false) [
    | inl is ↦ inl (false, is)
    | inr not_plain ↦ inr (both not_lost not_plain)
  ]
]
  where
    both : name ≢ path_of path true → name ≢ path_of path false → (lost : Bool) → name ≢ path_of path lost
    both one two true = one
    both one two false = two

-- ---- what stays

-- both names of one record hold what they held, where those of another are touched
pub names_stay : (records : List Record) → ArePaths records → (i k : ℕ) → i < length records → k < length records → k ≢ i → (before later : Tree)
    → OthersStay (record_path records i) before later → SameNames (record_path records k) before later
names_stay records are i k within also other before later others lost =
    others (path_of (record_path records k) lost) (λ l. names_distinct records are i k within also other lost l)

-- and no file stands in its way
pub free_stays : (records : List Record) → ArePaths records → (i k : ℕ) → i < length records → k < length records → k ≢ i → (before later : Tree)
    → OthersStay (record_path records i) before later → IsFree before (record_path records k) → IsFree later (record_path records k)
free_stays records are i k within also other before later others free = record {
  plain = by free.plain;
  lost = λ name there. elim (name_or_not (record_path records i) name) [
    | inl is ↦ subst (λ (n : List ℕ). is_directory_of (path_of (record_path records k) true) n ≡ false) (sym is.1) (names_not_nested records are i k within also other true is.0)
    | inr away ↦ free.lost name (λ none. there (others name away ∙ none))
  ];
}
  where
    back : i ≢ k
    back same = other (sym same)

    same_plain : file_of later (record_path records k) ≡ file_of before (record_path records k)
    same_plain = others (record_path records k) (λ l same. names_distinct records are i k within also other false l (own_name (record_path records k) ∙ same))

    apart_of : (lost : Bool) → (is_directory_of (path_of (record_path records i) lost) (record_path records k) ≡ false) × (is_directory_of (record_path records k) (path_of (record_path records i) lost) ≡ false)
    apart_of lost = (
      subst (λ (n : List ℕ). is_directory_of (path_of (record_path records i) lost) n ≡ false) (own_name (record_path records k)) (names_not_nested records are k i also within back lost false),
      subst (λ (n : List ℕ). is_directory_of n (path_of (record_path records i) lost) ≡ false) (own_name (record_path records k)) (names_not_nested records are i k within also other false lost),
    )

    by : (file_of before (record_path records k) ≢ None) ⊎ IsApart before (record_path records k) → (file_of later (record_path records k) ≢ None) ⊎ IsApart later (record_path records k)
    by (inl there) = inl (λ none. there (sym same_plain ∙ none))
    by (inr apart) = inr (λ name file there. elim (name_or_not (record_path records i) name) [
      | inl is ↦ subst (λ (n : List ℕ). (is_directory_of n (record_path records k) ≡ false) × (is_directory_of (record_path records k) n ≡ false)) (sym is.1) (apart_of is.0)
      | inr away ↦ apart name file (sym (others name away) ∙ there)
    ])

pub bytes_same : (path : List ℕ) (before later : Tree) → SameNames path before later → bytes_now later path ≡ bytes_now before path
bytes_same path before later same = ap₂ (λ (plain lost : Option File). bytes_or plain (bytes_or lost [])) (same false) (same true)

pub fits_stays : (path : List ℕ) (listed : Option Meta) (start : Start) (state : FileState) (before later : Tree) → SameNames path before later
    → FitsTree path listed start state before → FitsTree path listed start state later
fits_stays path listed start state before later same fits = record {
  plain = λ is none. fits.plain is (sym (same false) ∙ none);
  absent = λ is. same false ∙ fits.absent is;
  lost = λ is none. fits.lost is (sym (same true) ∙ none);
  nowhere = λ is. same true ∙ fits.nowhere is;
  size = fits.size ∙ sym (ap (λ (bytes : List ℕ). length bytes) (bytes_same path before later same));
  recorded = λ untouched plain file there. fits.recorded untouched plain file (sym (same false) ∙ there);
}

-- ---- what is held

-- after the record was finished, its names stayed
pub whole_on : (keeps : Stamp → Bool) (meta : Meta) (place : Place) (bytes path : List ℕ) (before mid later : Tree) → SameNames path mid later
    → StandsWhole keeps meta place bytes path before mid → StandsWhole keeps meta place bytes path before later
whole_on keeps meta place bytes path before mid later same whole = record {
  file = whole.file;
  there = same false ∙ whole.there;
  bytes_are = whole.bytes_are;
  stamp = whole.stamp;
  lost = same true ∙ whole.lost;
}

pub holds_on : (finish : Finish) (keeps : Stamp → Bool) (meta : Meta) (start : Start) (state : FileState) (bytes path : List ℕ) (before mid later : Tree) → SameNames path mid later
    → HoldsFinished finish keeps meta start state bytes path before mid → HoldsFinished finish keeps meta start state bytes path before later
holds_on Kept keeps meta start state bytes path before mid later same holds = λ lost. same lost ∙ holds lost
holds_on (Restored stamped) keeps meta start state bytes path before mid later same holds = whole_on keeps meta start.place bytes path before mid later same holds
holds_on Unstamped keeps meta start state bytes path before mid later same holds = λ lost. same lost ∙ holds lost
holds_on Renamed keeps meta start state bytes path before mid later same holds = record { moved = same true ∙ holds.moved; none = same false ∙ holds.none }
holds_on Gone keeps meta start state bytes path before mid later same holds = holds

-- before it was finished, they stayed
pub whole_since : (keeps : Stamp → Bool) (meta : Meta) (place : Place) (path : List ℕ) (before mid later : Tree) → SameNames path before mid
    → StandsWhole keeps meta place (bytes_now mid path) path mid later → StandsWhole keeps meta place (bytes_now before path) path before later
whole_since keeps meta place path before mid later same whole = record {
  file = whole.file;
  there = whole.there;
  bytes_are = whole.bytes_are ∙ ap (λ (bytes : List ℕ). resized bytes meta.size) (bytes_same path before mid same);
  stamp = whole.stamp;
  lost = whole.lost ∙ ap (lost_after place) (same true);
}

pub holds_since : (finish : Finish) (keeps : Stamp → Bool) (meta : Meta) (start : Start) (state : FileState) (path : List ℕ) (before mid later : Tree) → SameNames path before mid
    → HoldsFinished finish keeps meta start state (bytes_now mid path) path mid later → HoldsFinished finish keeps meta start state (bytes_now before path) path before later
holds_since Kept keeps meta start state path before mid later same holds = λ lost. holds lost ∙ same lost
holds_since (Restored stamped) keeps meta start state path before mid later same holds = whole_since keeps meta start.place path before mid later same holds
holds_since Unstamped keeps meta start state path before mid later same holds = λ lost. holds lost ∙ same lost
holds_since Renamed keeps meta start state path before mid later same holds = record { moved = holds.moved ∙ same false; none = holds.none }
holds_since Gone keeps meta start state path before mid later same holds = holds
