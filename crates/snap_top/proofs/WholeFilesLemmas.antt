-- Two fixes of one plan that leave the same bytes leave the same files with their stamps, but those with a lost block.
use Rattle.std.proofs.Common.{◌≡◌, ◌≢◌, inl, inr, ℕ, ◌<◌, List, length, Bool, true, false, Some, IsTrue, refl, sym, ap, ap₂, ◌∙◌, subst}
use Rattle.disk_model.specs.Folder.{FolderView}
use Rattle.disk_model.specs.Tree.{Tree, File, file_of, path_of}
use Rattle.disk_model.specs.declared.meta.Stamp.{Stamp}
use Rattle.file_restorer.specs.State.{IsNameOf, place_in, record_path}
use Rattle.file_restorer.specs.declared.finishing.Finish.{Finish}
use Rattle.file_table.specs.Table.{record_at, records_in}
use Rattle.snap_fix.specs.Ending.{is_finished}
use Rattle.snap_fix.specs.Mended.{Mended, has_lost}
use Rattle.snap_fix.specs.Restored.{HasFixed, HasFixedRecord, StandsFinished}
use Rattle.repair_scope.specs.Plan.{FixPlan}
use Rattle.stripe_reader.specs.Columns.{folder_at}
use Rattle.stripe_reader.specs.Starts.{StartsValue}
use Rattle.stripe_reader.specs.declared.starts.Place.{Place}
use Rattle.stripe_reader.specs.declared.starts.Place.TheVariants.{Plain, Lost, Nowhere}
use Rattle.snap_top.specs.FixedAlike.{HaveSameBytes, bytes_in}
use Rattle.snap_top.proofs.PlacesLemmas.{named_or_not}
use Rattle.snap_top.proofs.RestoredLastLemmas.{FilesAreFinished}

-- what snap_fix says of what a fix leaves as it was
pub record LeavesTheRest : Type 0 where
  pub unfinished : (plan : FixPlan) (starts : StartsValue) (stripes : List Mended) (finishes : List (List Finish)) (firsts news : List FolderView) (d i : ℕ) (lost : Bool)
      → HasFixedRecord plan starts stripes finishes firsts news d i → is_finished plan d i ≡ false
      → file_of (folder_at news d).tree (path_of (record_path (records_in plan.table d) i) lost) ≡ file_of (folder_at firsts d).tree (path_of (record_path (records_in plan.table d) i) lost)
  pub others : (plan : FixPlan) (starts : StartsValue) (stripes : List Mended) (finishes : List (List Finish)) (firsts news : List FolderView) (d : ℕ) (name : List ℕ)
      → HasFixed plan starts stripes finishes firsts news → IsTrue (folder_at firsts d).tells → d < length plan.table.columns → ¬ (IsNameOf (records_in plan.table d) name)
      → file_of (folder_at news d).tree name ≡ file_of (folder_at firsts d).tree name

module _ (rest : LeavesTheRest) (says : FilesAreFinished) (plan : FixPlan) (starts : StartsValue) (ones others : List Mended) (finishes finishes_then : List (List Finish)) (firsts firsts_then news news_then : List FolderView)
    (has : HasFixed plan starts ones finishes firsts news) (has_then : HasFixed plan starts others finishes_then firsts_then news_then) (d : ℕ) (below : d < length plan.table.columns)
    (tells : IsTrue (folder_at firsts d).tells) (tells_then : IsTrue (folder_at firsts_then d).tells) (trees : (folder_at firsts d).tree ≡ (folder_at firsts_then d).tree)
    (keeps : (folder_at firsts d).keeps ≡ (folder_at firsts_then d).keeps) (lost_same : (i : ℕ) → has_lost plan ones d i ≡ has_lost plan others d i)
    (bytes : HaveSameBytes (folder_at news d).tree (folder_at news_then d).tree) where
  abbrev SameUnder : List ℕ → Type 0
  SameUnder name = file_of (folder_at news d).tree name ≡ file_of (folder_at news_then d).tree name

  -- what both had under a name, and what both left there
  kept_same : (name : List ℕ) → file_of (folder_at news d).tree name ≡ file_of (folder_at firsts d).tree name → file_of (folder_at news_then d).tree name ≡ file_of (folder_at firsts_then d).tree name → SameUnder name
  kept_same name one other = one ∙ ap (λ (tree : Tree). file_of tree name) trees ∙ sym other

  module _ (i : ℕ) (inside : i < length (records_in plan.table d)) where
    abbrev path : List ℕ
    path = record_path (records_in plan.table d) i

    -- the folder keeps its recorded stamp
    abbrev IsKept : Type 0
    IsKept = IsTrue ((folder_at firsts d).keeps (record_at plan.table.columns d i).meta.stamp)

    its : HasFixedRecord plan starts ones finishes firsts news d i
    its = record { fixed = has; tells = tells; column = below; inside = inside }

    its_then : HasFixedRecord plan starts others finishes_then firsts_then news_then d i
    its_then = record { fixed = has_then; tells = tells_then; column = below; inside = inside }

    unfinished_same : (lost : Bool) → is_finished plan d i ≡ false → SameUnder (path_of path lost)
    unfinished_same lost not = kept_same (path_of path lost) (rest.unfinished plan starts ones finishes firsts news d i lost its not) (rest.unfinished plan starts others finishes_then firsts_then news_then d i lost its_then not)

    module _ (finished : is_finished plan d i ≡ true) (whole : has_lost plan ones d i ≡ false) where
      stands : StandsFinished plan ones d i (folder_at firsts d).keeps (folder_at firsts d).tree (folder_at news d).tree
      stands = says plan starts ones finishes firsts news d i (record { fixed = its; finished = finished })

      stands_then : StandsFinished plan others d i (folder_at firsts_then d).keeps (folder_at firsts_then d).tree (folder_at news_then d).tree
      stands_then = says plan starts others finishes_then firsts_then news_then d i (record { fixed = its_then; finished = finished })

      whole_then : has_lost plan others d i ≡ false
      whole_then = sym (lost_same i) ∙ whole

      place_then : place_in (folder_at firsts_then d).tree path ≡ place_in (folder_at firsts d).tree path
      place_then = ap (λ (tree : Tree). place_in tree path) (sym trees)

      -- under PATH
      plain_same : IsKept → SameUnder (path_of path false)
      plain_same stamped =
          let stamped_then : IsTrue ((folder_at firsts_then d).keeps (record_at plan.table.columns d i).meta.stamp)
          = sym (ap (λ (keeps_it : Stamp → Bool). keeps_it (record_at plan.table.columns d i).meta.stamp) keeps) ∙ stamped in
          let one = stands.whole whole in
          let other = stands_then.whole whole_then in
          let both : Some one.file.bytes ≡ Some other.file.bytes = sym (ap bytes_in one.there) ∙ bytes (path_of path false) ∙ ap bytes_in other.there in
          let same : one.file.bytes ≡ other.file.bytes = cc in
          let stamps : one.file.stamp ≡ other.file.stamp = one.stamp stamped ∙ sym (other.stamp stamped_then) in
          let files : one.file ≡ other.file = ap₂ (λ (s : Stamp) (b : List ℕ). let file : File = record { stamp = s; bytes = b } in file) stamps same in
          one.there ∙ ap (λ (file : File). Some file) files ∙ sym other.there

      -- under PATH`.unrecoverable`
      lost_name_same : SameUnder (path_of path true)
      lost_name_same = by (place_in (folder_at firsts d).tree path) refl
        where
          none_left : place_in (folder_at firsts d).tree path ≢ Plain → SameUnder (path_of path true)
          none_left other = stands.gone whole other ∙ sym (stands_then.gone whole_then (λ plain. other (sym place_then ∙ plain)))

          by : (place : Place) → place_in (folder_at firsts d).tree path ≡ place → SameUnder (path_of path true)
          by Plain is = kept_same (path_of path true) (stands.kept whole is) (stands_then.kept whole_then (place_then ∙ is))
          by Lost is = none_left (λ plain. let clash : Lost ≡ Plain = sym is ∙ plain in cc)
          by Nowhere is = none_left (λ plain. let clash : Nowhere ≡ Plain = sym is ∙ plain in cc)

    finished_same : (lost : Bool) → (lost ≡ false → IsKept) → is_finished plan d i ≡ true → has_lost plan ones d i ≡ false → SameUnder (path_of path lost)
    finished_same false kept finished whole = plain_same finished whole (kept refl)
    finished_same true kept finished whole = lost_name_same finished whole

    record_same : (lost : Bool) → (is_finished plan d i ≡ true → lost ≡ false → IsKept) → (is_finished plan d i ≡ true → has_lost plan ones d i ≡ true → ⊥) → SameUnder (path_of path lost)
    record_same lost kept none = by (is_finished plan d i) refl
      where
        by_lost : is_finished plan d i ≡ true → (b : Bool) → has_lost plan ones d i ≡ b → SameUnder (path_of path lost)
        by_lost finished true is = absurd (none finished is)
        by_lost finished false is = finished_same lost (kept finished) finished is

        by : (b : Bool) → is_finished plan d i ≡ b → SameUnder (path_of path lost)
        by true finished = by_lost finished (has_lost plan ones d i) refl
        by false not = unfinished_same lost not

  -- under each name but those of a finished file with a lost block
  pub whole_same : (name : List ℕ) → ((i : ℕ) → i < length (records_in plan.table d) → is_finished plan d i ≡ true → path_of (record_path (records_in plan.table d) i) false ≡ name
      → IsTrue ((folder_at firsts d).keeps (record_at plan.table.columns d i).meta.stamp))
      → ((i : ℕ) (lost : Bool) → i < length (records_in plan.table d) → is_finished plan d i ≡ true → has_lost plan ones d i ≡ true → path_of (record_path (records_in plan.table d) i) lost ≢ name)
      → file_of (folder_at news d).tree name ≡ file_of (folder_at news_then d).tree name
  whole_same name kept none = elim (named_or_not (record_path (records_in plan.table d)) name (length (records_in plan.table d))) [
    | inl is ↦
        let under_path = λ (plain : is.1 ≡ false). sym (is.3 ∙ ap (path_of (record_path (records_in plan.table d) is.0)) plain) in
        subst SameUnder (sym is.3)
        (record_same is.0 is.2 is.1 (λ finished plain. kept is.0 is.2 finished (under_path plain)) (λ finished lost. none is.0 is.1 is.2 finished lost (sym is.3)))
    | inr unnamed ↦
        let apart : ¬ (IsNameOf (records_in plan.table d) name) = λ is. unnamed is.0 is.1 is.2 is.3 in
        kept_same name (rest.others plan starts ones finishes firsts news d name has tells below apart) (rest.others plan starts others finishes_then firsts_then news_then d name has_then tells_then below apart)
  ]
