-- What the steps of a finish make of the files of a folder.
use Rattle.std.proofs.Common.{◌≡◌, ◌≢◌, ℕ, ◌==◌, List, [], length, replicate, ◌-◌, ◌++◌, Bool, true, false, cond, Option, None, Some, refl, sym, ◌∙◌, ap, ap₂, subst, arith, append-nil}
use Rattle.std.specs.FinMap as map
use Rattle.std.proofs.Math.Seq.{take-length}
use Rattle.std.proofs.lemmas.Bool.{eqb-true}
use Rattle.disk_model.specs.Bytes.{resized}
use Rattle.disk_model.specs.Folder.{FolderView, MayHold}
use Rattle.disk_model.specs.Tree.{Tree, File, file_of, path_of, is_directory_of, IsApart}
use Rattle.disk_model.specs.Writing.{ChangesFile, Resizes, Stamps, made, or_added, moved, renamed}
use Rattle.disk_model.specs.declared.meta.Meta.{Meta}
use Rattle.disk_model.specs.declared.meta.Stamp.{Stamp}
use Rattle.disk_model.proofs.TreeLemmas.{set_here, set_other, gone_here, gone_other, own_name, two_names}
use Rattle.stripe_reader.specs.declared.starts.Start.{Start}
use Rattle.stripe_reader.specs.declared.starts.Place.{Place}
use Rattle.stripe_reader.specs.declared.starts.Place.TheVariants.{Plain, Lost, Nowhere}
use Rattle.file_restorer.specs.declared.state.FileState.{FileState}
use Rattle.file_restorer.specs.Finishing.{HoldsFinished, SameNames, StandsLost, StandsWhole, bytes_now, lost_after, stamped_finish}
use Rattle.file_restorer.specs.FinishSteps.{IsPlaced, IsPlacedIn, SizesBy, Stands}
use Rattle.file_restorer.specs.State.{OthersStay, bytes_or, stands}
use Rattle.file_restorer.proofs.FinishNameLemmas.{lost_name_valid, lost_directory}

pub some_file : (o : Option File) → o ≢ None → (file : File) × (o ≡ Some file)
some_file None none = absurd (none refl)
some_file (Some file) none = (file, refl)

pub some_is_some : {o : Option File} {file : File} → o ≡ Some file → o ≢ None
some_is_some is none = let clash : None ≡ Some _ = sym none ∙ is in cc

-- the other name of a path is not its own
pub other_name : (path : List ℕ) → path_of path true ≢ path_of path false
other_name path same = let clash : true ≡ false = two_names path true false same in cc

not_true : (b : Bool) → (b ≡ true → ⊥) → b ≡ false
not_true true none = absurd (none refl)
not_true false none = refl

-- ---- what may stand

apart_of : {path : List ℕ} {place : Place} {touched : Bool} {tree : Tree} → IsPlacedIn path place touched tree → (file_of tree path ≢ None) → IsApart tree path
apart_of {path = path} {tree = tree} placed there =
    let file = some_file (file_of tree path) there in
    (placed.is_tree path file.0 file.1).apart

-- a file that stands there may stand under the other name
pub may_lose : {path : List ℕ} {place : Place} {touched : Bool} {folder : FolderView} → IsPlaced path place touched folder → stands place touched ≡ true → MayHold folder (path_of path true)
may_lose {path = path} {folder = folder} placed standing = λ told.
    let it = placed.tree told in
    let there : file_of folder.tree path ≢ None = subst (λ (name : List ℕ). file_of folder.tree name ≢ None) (own_name path) (it.plain standing) in
    let apart = apart_of it there in
    record {
      is_open = placed.is_open;
      valid = lost_name_valid path placed.is_path;
      apart = λ other file found. (
        not_true (is_directory_of other (path_of path true)) (λ inside. let clash : true ≡ false = sym (lost_directory other path inside) ∙ (apart other file found).0 in cc),
        it.free.lost other (some_is_some found),
      );
    }

-- ---- a file is put under the path

-- it stands there
pub stands_there : (path : List ℕ) (place : Place) (touched : Bool) (tree : Tree) → IsPlacedIn path place touched tree → stands place touched ≡ true
    → Stands path (bytes_now tree path) (lost_after place (file_of tree (path_of path true))) tree tree
stands_there path place touched tree placed standing =
    let it = some_file (file_of tree (path_of path false)) (placed.plain standing) in
    record {
      file = it.0;
      there = it.1;
      bytes_are = sym (ap (λ (o : Option File). bytes_or o (bytes_or (file_of tree (path_of path true)) [])) it.1);
      lost_is = stays place standing;
      others = λ name apart. refl;
    }
  where
    stays : (place : Place) → stands place touched ≡ true → file_of tree (path_of path true) ≡ lost_after place (file_of tree (path_of path true))
    stays Plain standing = refl
    stays Lost standing = absurd (cc)
    stays Nowhere standing = refl

-- it is renamed back
pub stands_moved : (path : List ℕ) (touched : Bool) (old new : Tree) → IsPlacedIn path Lost touched old → new ≡ renamed (path_of path true) (path_of path false) old
    → Stands path (bytes_now old path) None old new
stands_moved path touched old new placed does =
    let it = some_file (file_of old (path_of path true)) (placed.lost refl) in
    let new_is : new ≡ map.insert (map.remove old (path_of path true)) (path_of path false) it.0
    = does ∙ ap (λ (o : Option File). moved o (path_of path true) (path_of path false) old) it.1 in
    let rest = map.remove old (path_of path true) in
    record {
      file = it.0;
      there = ap (λ (tree : Tree). file_of tree (path_of path false)) new_is ∙ set_here rest (path_of path false) it.0;
      bytes_are = sym (ap₂ (λ (o other : Option File). bytes_or o (bytes_or other [])) (placed.absent refl) it.1);
      lost_is = ap (λ (tree : Tree). file_of tree (path_of path true)) new_is ∙ set_other rest (path_of path false) it.0 (path_of path true) (other_name path) ∙ gone_here old (path_of path true);
      others = λ name apart.
          ap (λ (tree : Tree). file_of tree name) new_is ∙ set_other rest (path_of path false) it.0 name (apart false) ∙ gone_other old (path_of path true) name (apart true);
    }

-- it is made
pub stands_made : (path : List ℕ) (touched : Bool) (stamp : Stamp) (old new : Tree) → IsPlacedIn path Nowhere touched old → touched ≡ false → new ≡ made path stamp old
    → Stands path (bytes_now old path) (file_of old (path_of path true)) old new
stands_made path touched stamp old new placed untouched does =
    let empty : File = record { stamp = stamp; bytes = [] } in
    let none = placed.absent untouched in
    let none_here : file_of old path ≡ None = ap (file_of old) (sym (own_name path)) ∙ none in
    let new_is : new ≡ map.insert old path empty = does ∙ ap (λ (o : Option File). or_added o path empty old) none_here in
    record {
      file = empty;
      there = ap₂ file_of new_is (own_name path) ∙ set_here old path empty;
      bytes_are = sym (ap₂ (λ (o other : Option File). bytes_or o (bytes_or other [])) none (placed.nowhere refl));
      lost_is = ap (λ (tree : Tree). file_of tree (path_of path true)) new_is ∙ set_other old path empty (path_of path true) (λ same. other_name path (same ∙ sym (own_name path)));
      others = λ name apart. ap (λ (tree : Tree). file_of tree name) new_is ∙ set_other old path empty name (λ same. apart false (same ∙ sym (own_name path)));
    }

-- ---- the file under the path is changed

-- it became another, and nothing else
record Became (path : List ℕ) (after : File) (lost : Option File) (before later : Tree) : Type 0 where
  there : file_of later (path_of path false) ≡ Some after
  lost_is : file_of later (path_of path true) ≡ lost
  others : OthersStay path before later

became : (path bytes : List ℕ) (lost : Option File) (step : File → File → Type 0) (before mid later : Tree) (at : Stands path bytes lost before mid) → ChangesFile path step mid later
    → (after : File) × step at.file after × Became path after lost before later
became path bytes lost step before mid later at changes =
    let it = changes.some at.file (ap (file_of mid) (sym (own_name path)) ∙ at.there) in
    let after = it.0 in
    let later_is : later ≡ map.insert mid path after = it.2 in (
      after,
      it.1,
      record {
        there = ap₂ file_of later_is (own_name path) ∙ set_here mid path after;
        lost_is = ap (λ (tree : Tree). file_of tree (path_of path true)) later_is ∙ set_other mid path after (path_of path true) (λ same. other_name path (same ∙ sym (own_name path))) ∙ at.lost_is;
        others = λ name apart. ap (λ (tree : Tree). file_of tree name) later_is ∙ set_other mid path after name (λ same. apart false (same ∙ sym (own_name path))) ∙ at.others name apart;
      },
    )

pub resized_same : (bytes : List ℕ) → resized bytes (length bytes) ≡ bytes
resized_same bytes =
    let none : length bytes - length bytes ≡ 0 = omega arith in
    ap₂ (λ (front : List ℕ) (n : ℕ). front ++ replicate n 0) (take-length bytes) none ∙ append-nil bytes

-- its size is set, where it has another
pub stands_sized : (path bytes : List ℕ) (lost : Option File) (size now_size : ℕ) (before mid later : Tree) → Stands path bytes lost before mid → now_size ≡ length bytes
    → SizesBy (now_size == size) path size mid later → Stands path (resized bytes size) lost before later
stands_sized path bytes lost size now_size before mid later at long = by (now_size == size) refl
  where
    by : (same : Bool) → now_size == size ≡ same → SizesBy same path size mid later → Stands path (resized bytes size) lost before later
    by true same stays =
        let size_is : length bytes ≡ size = sym long ∙ eqb-true now_size size same in
        let whole : bytes ≡ resized bytes size = sym (resized_same bytes) ∙ ap (resized bytes) size_is in
        subst (λ (tree : Tree). Stands path (resized bytes size) lost before tree) (sym stays)
        (record { file = at.file; there = at.there; bytes_are = at.bytes_are ∙ whole; lost_is = at.lost_is; others = at.others })
    by false same changes =
        let it = became path bytes lost (Resizes size) before mid later at changes in
        record { file = it.0; there = it.2.there; bytes_are = it.1 ∙ ap (λ (b : List ℕ). resized b size) at.bytes_are; lost_is = it.2.lost_is; others = it.2.others }

-- its stamp is set, where it is kept
pub stands_stamped : (path bytes : List ℕ) (place : Place) (keeps : Stamp → Bool) (meta : Meta) (before mid later : Tree)
    → Stands path (resized bytes meta.size) (lost_after place (file_of before (path_of path true))) before mid
    → ChangesFile path (Stamps (keeps meta.stamp) meta.stamp) mid later → StandsWhole keeps meta place bytes path before later × OthersStay path before later
stands_stamped path bytes place keeps meta before mid later at changes =
    let it = became path (resized bytes meta.size) (lost_after place (file_of before (path_of path true))) (Stamps (keeps meta.stamp) meta.stamp) before mid later at changes in (
      record {
        file = it.0;
        there = it.2.there;
        bytes_are = ap (λ (file : File). file.bytes) it.1 ∙ at.bytes_are;
        stamp = λ kept. ap (λ (file : File). file.stamp) it.1 ∙ ap (λ (b : Bool). cond b meta.stamp at.file.stamp) kept;
        lost = it.2.lost_is;
      },
      it.2.others,
    )

-- ---- what is held then

pub same_names : (path : List ℕ) (before later : Tree) → later ≡ before → SameNames path before later
same_names path before later same = λ lost. ap (λ (tree : Tree). file_of tree (path_of path lost)) same

pub holds_stamped : (changed : Bool) (keeps : Stamp → Bool) (meta : Meta) (start : Start) (state : FileState) (bytes path : List ℕ) (before later : Tree)
    → StandsWhole keeps meta start.place bytes path before later → (changed ≡ false → keeps meta.stamp ≡ false → SameNames path before later)
    → HoldsFinished (stamped_finish changed (keeps meta.stamp)) keeps meta start state bytes path before later
holds_stamped changed keeps meta start state bytes path before later whole same = by changed (keeps meta.stamp) refl refl
  where
    by : (its_changed is_kept : Bool) → changed ≡ its_changed → keeps meta.stamp ≡ is_kept → HoldsFinished (stamped_finish its_changed is_kept) keeps meta start state bytes path before later
    by true is_kept changed_is kept_is = whole
    by false true changed_is kept_is = whole
    by false false changed_is kept_is = same changed_is kept_is

-- the file that stands under the path is renamed
pub stands_lost : (path : List ℕ) (old new : Tree) → file_of old (path_of path false) ≢ None → new ≡ renamed (path_of path false) (path_of path true) old
    → StandsLost path old new × OthersStay path old new
stands_lost path old new there does =
    let it = some_file (file_of old (path_of path false)) there in
    let new_is : new ≡ map.insert (map.remove old (path_of path false)) (path_of path true) it.0
    = does ∙ ap (λ (o : Option File). moved o (path_of path false) (path_of path true) old) it.1 in
    let rest = map.remove old (path_of path false) in (
      record {
        moved = ap (λ (tree : Tree). file_of tree (path_of path true)) new_is ∙ set_here rest (path_of path true) it.0 ∙ sym it.1;
        none = ap (λ (tree : Tree). file_of tree (path_of path false)) new_is ∙ set_other rest (path_of path true) it.0 (path_of path false) (λ same. other_name path (sym same)) ∙ gone_here old (path_of path false);
      },
      λ name apart. ap (λ (tree : Tree). file_of tree name) new_is ∙ set_other rest (path_of path true) it.0 name (apart true) ∙ gone_other old (path_of path false) name (apart false),
    )
