-- What the sync of an exercise leaves: its table, the trees and parity follow from the number.
use Rattle.std.proofs.Common.{◌≡◌, ◌≢◌, ◌⊎◌, inl, inr, ⊎_elim, ℕ, zero, suc, ◌+◌, ◌*◌, ◌/◌, ◌%◌, ◌<◌, ◌≤◌, ◌^◌, List, [], ◌∷◌, ◌++◌, length, map, get_or, set, slice_index, All, IsTrue, Option, None, Some, refl, sym, ap, ◌∙◌, subst, arith}
use Rattle.std.specs.FinMap as finite
use Rattle.std.proofs.Math.Nat.{mul-le-mul_left}
use Rattle.std.proofs.lemmas.List.{ext_get_or, length-map, length-set, map-set, take_all}
use Rattle.std.proofs.lemmas.List.FromFn.{length-range_with_len}
use Rattle.folder_listing.specs.Kept.{kept_lists}
use Rattle.disk_model.specs.Bytes.{resized}
use Rattle.disk_model.specs.Files.{Files, parity_of}
use Rattle.disk_model.specs.Folder.{FolderView}
use Rattle.disk_model.specs.Tree.{Tree}
use Rattle.disk_model.proofs.BytesLemmas.{length-resized}
use Rattle.file_table.specs.Table.{TableValue}
use Rattle.file_table.specs.Valid.{IsValid}
use Rattle.parity_writer.specs.Keeps.{IsOutside}
use Rattle.parity_writer.specs.Parity.{Row, Rows}
use Rattle.snap_exercise.specs.Exercised.{Array, IsSynced, NoneFailed, begun, damaged, damaged_trees, plan_from, readings_of, start_of, table_of_sync, vault_of}
use Rattle.snap_exercise.specs.Generated.{columns, first_table, moment, setup, standing, tree_of, trees, turned_tree}
use Rattle.snap_exercise.proofs.HeldLemmas.{tree_of_folder}
use Rattle.snap_exercise.proofs.LawLemmas.{IsLaidByTrees, IsReadByTrees, eight, is_end, keeps_all, keeps_at, readings_are, start_is, tells_at}
use Rattle.snap_sync.specs.Calls.{SyncPlan}
use Rattle.snap_sync.specs.Closing.{closed}
use Rattle.snap_sync.specs.Images.{HasParity, HasParityAfter, IsOutsideRows, table_after}
use Rattle.snap_sync.specs.Part.{tree_at, trees_of}
use Rattle.snap_sync.specs.Reading.{ReadsFirst}
use Rattle.snap_sync.specs.declared.syncing.SyncEnd.{SyncEnd}
use Rattle.snap_sync.proofs.PartLemmas.{length-layout}
use Rattle.stripe_findings.specs.Reading.{StripeReading}
use Rattle.stripe_reader.specs.Columns.{folder_at}

-- what snap_sync says of the tables that it saves
abbrev pub SavesValid : Type 0
SavesValid = (plan : SyncPlan) (readings ahead : List StripeReading) (olds news : List FolderView) (count : ℕ)
    → length olds ≡ length plan.start.columns → ReadsFirst plan.start (readings ++ ahead) olds news
    → IsValid plan.start → plan.now < 2 ^ 64 → count ≤ length readings → IsValid (table_after plan readings count)

-- ---- folders

standing_tree : (those : List Tree) (d : ℕ) → (folder_at (map standing those) d).tree ≡ tree_at those d
standing_tree [] d = refl
standing_tree (tree ∷ those) zero = refl
standing_tree (tree ∷ those) (suc d) = standing_tree those d

pub none_at : (folders : List FolderView) → All (λ (folder : FolderView). folder.faults ≡ 0) folders → (d : ℕ) → (folder_at folders d).faults ≡ 0
none_at [] well d = refl
none_at (folder ∷ folders) well zero = well 0 folder (omega arith)
none_at (folder ∷ folders) well (suc d) = none_at folders (λ k e below. well (suc k) e (omega (arith, below))) d

-- of folders of which three are others
pub worn_tells : (n : ℕ) (folders : List FolderView) → length folders ≡ 8 → ((d : ℕ) → d < 8 → IsTrue (folder_at folders d).tells) → (d : ℕ) → d < length (damaged n folders) → IsTrue (folder_at (damaged n folders) d).tells
worn_tells n [] long tell d within = absurd (omega (arith, long))
worn_tells n (a ∷ []) long tell d within = absurd (omega (arith, long))
worn_tells n (a ∷ b ∷ []) long tell d within = absurd (omega (arith, long))
worn_tells n (a ∷ b ∷ c ∷ rest) long tell zero within = refl
worn_tells n (a ∷ b ∷ c ∷ rest) long tell (suc zero) within = refl
worn_tells n (a ∷ b ∷ c ∷ rest) long tell (suc (suc zero)) within = refl
worn_tells n (a ∷ b ∷ c ∷ rest) long tell (suc (suc (suc d))) within = tell (suc (suc (suc d))) (omega (arith, within, long))

pub worn_keeps : (n : ℕ) (folders : List FolderView) → length folders ≡ 8 → ((d : ℕ) → d < 8 → (folder_at folders d).keeps ≡ keeps_all) → (d : ℕ) → d < length (damaged n folders) → (folder_at (damaged n folders) d).keeps ≡ keeps_all
worn_keeps n [] long keep d within = absurd (omega (arith, long))
worn_keeps n (a ∷ []) long keep d within = absurd (omega (arith, long))
worn_keeps n (a ∷ b ∷ []) long keep d within = absurd (omega (arith, long))
worn_keeps n (a ∷ b ∷ c ∷ rest) long keep zero within = refl
worn_keeps n (a ∷ b ∷ c ∷ rest) long keep (suc zero) within = refl
worn_keeps n (a ∷ b ∷ c ∷ rest) long keep (suc (suc zero)) within = refl
worn_keeps n (a ∷ b ∷ c ∷ rest) long keep (suc (suc (suc d))) within = keep (suc (suc (suc d))) (omega (arith, within, long))

pub worn_faultless : (n : ℕ) (folders : List FolderView) → length folders ≡ 8 → All (λ (folder : FolderView). folder.faults ≡ 0) folders → (d : ℕ) → (folder_at (damaged n folders) d).faults ≡ 0
worn_faultless n [] long well d = absurd (omega (arith, long))
worn_faultless n (a ∷ []) long well d = absurd (omega (arith, long))
worn_faultless n (a ∷ b ∷ []) long well d = absurd (omega (arith, long))
worn_faultless n (a ∷ b ∷ c ∷ rest) long well zero = refl
worn_faultless n (a ∷ b ∷ c ∷ rest) long well (suc zero) = refl
worn_faultless n (a ∷ b ∷ c ∷ rest) long well (suc (suc zero)) = refl
worn_faultless n (a ∷ b ∷ c ∷ rest) long well (suc (suc (suc d))) = none_at (a ∷ b ∷ c ∷ rest) well (suc (suc (suc d)))

abbrev its_tree : FolderView → Tree
its_tree folder = folder.tree

pub worn_trees : (n : ℕ) (folders : List FolderView) → trees_of folders ≡ trees n → trees_of (damaged n folders) ≡ damaged_trees n
worn_trees n folders same =
    map-set its_tree (set (set folders 0 (standing finite.empty)) 1 (standing finite.empty)) 2 (standing (turned_tree n))
    ∙ ap (λ (ts : List Tree). set ts 2 (turned_tree n))
    (map-set its_tree (set folders 0 (standing finite.empty)) 1 (standing finite.empty)
    ∙ ap (λ (ts : List Tree). set ts 1 finite.empty) (map-set its_tree folders 0 (standing finite.empty) ∙ ap (λ (ts : List Tree). set ts 0 finite.empty) same))

pub length-worn : (n : ℕ) (folders : List FolderView) → length (damaged n folders) ≡ length folders
length-worn n folders =
    length-set (set (set folders 0 (standing finite.empty)) 1 (standing finite.empty)) 2 (standing (turned_tree n))
    ∙ length-set (set folders 0 (standing finite.empty)) 1 (standing finite.empty) ∙ length-set folders 0 (standing finite.empty)

pub length-trees : (n : ℕ) → length (trees n) ≡ 8
length-trees n = length-map columns (tree_of n) ∙ length-range_with_len 0 8

-- ---- parity

-- a place that is in no row is outside of all
outside_rows : (size : ℕ) (rows : Rows) (i : ℕ) → 0 < size → rows (i / size) ≡ None → IsOutsideRows size rows i
outside_rows size rows i some none stripe row is = outside_by (i / size) (i % size) (omega (arith, some)) (omega (arith, some)) other
  where
    other : stripe ≢ i / size
    other same = let clash : None ≡ Some row = sym none ∙ ap rows (sym same) ∙ is in cc

    outside_by : (q r : ℕ) → size * q + r ≡ i → r < size → stripe ≢ q → IsOutside size stripe i
    outside_by q r at below apart = ⊎_elim
        (λ less. inr (let more = mul-le-mul_left size less in omega (arith, more, at, below)))
        (λ more. inl (let less = mul-le-mul_left size more in omega (arith, less, at, below)))
        (split stripe q apart)
      where
        split : (a b : ℕ) → a ≢ b → (a + 1 ≤ b) ⊎ (b + 1 ≤ a)
        split zero zero differ = absurd (differ refl)
        split zero (suc b) differ = inl (omega arith)
        split (suc a) zero differ = inr (omega arith)
        split (suc a) (suc b) differ = ⊎_elim (λ less. inl (omega (arith, less))) (λ more. inr (omega (arith, more))) (split a b (λ same. differ (ap suc same)))

-- parity after a sync is what the rows and the parity before it make
pub same_parity : (levels size bytes : ℕ) (rows : Rows) (old one other : Files) → 0 < size → HasParity levels size bytes rows old one → HasParity levels size bytes rows old other
    → (r : ℕ) → r < levels → parity_of one r ≡ parity_of other r
same_parity levels size bytes rows old one other some has has_then r below =
    ext_get_or 0 (parity_of one r) (parity_of other r) (has.lengths r below ∙ sym (has_then.lengths r below))
    (λ i within. by_row i (omega (arith, within, has.lengths r below)) (rows (i / size)) refl)
  where
    by_row : (i : ℕ) → i < bytes → (row : Option Row) → rows (i / size) ≡ row → get_or (parity_of one r) i 0 ≡ get_or (parity_of other r) i 0
    by_row i few None is =
        let first = has.others r i (slice_index (resized (parity_of old r) bytes) i) below (outside_rows size rows i some is) (record { within = omega (arith, few, length-resized (parity_of old r) bytes); is = refl }) in
        let second = has_then.others r i (slice_index (resized (parity_of old r) bytes) i) below (outside_rows size rows i some is) (record { within = omega (arith, few, length-resized (parity_of old r) bytes); is = refl }) in
        first.is ∙ sym second.is
    by_row i few (Some row) is =
        let at : (i / size) * size + i % size ≡ i = omega (arith, some) in
        let first = has.rows_held.level r (i / size) row below is (i % size) (omega (arith, some)) in
        let second = has_then.rows_held.level r (i / size) row below is (i % size) (omega (arith, some)) in
        ap (λ (k : ℕ). slice_index (parity_of one r) k) (sym at) ∙ first.is ∙ sym second.is ∙ ap (λ (k : ℕ). slice_index (parity_of other r) k) at

-- ---- the sync

module _ (laid : IsLaidByTrees) (read : IsReadByTrees) (n : ℕ) (new : Array) (end : SyncEnd) (done : IsSynced (begun n) new end) (well : NoneFailed new) where
  pub table_is : end.table ≡ table_of_sync n
  table_is = (is_end laid read n new end done well).table_is

  pub parity_after : HasParityAfter (plan_from (start_of n) (vault_of (begun n))) (readings_of n) (length (readings_of n)) (vault_of (begun n)).files (vault_of new).files
  parity_after =
      subst (λ (rs : List StripeReading). HasParityAfter (plan_from (start_of n) (vault_of (begun n))) rs (length rs) (vault_of (begun n)).files (vault_of new).files) (readings_are laid read n new end done well)
      (subst (λ (t : TableValue). HasParityAfter (plan_from t (vault_of (begun n))) done.readings (length done.readings) (vault_of (begun n)).files (vault_of new).files) (start_is laid read n new end done well) (done.parity.reads refl))

  listed_at : (d : ℕ) → d < 8 → d < length done.listed
  listed_at d below = omega (arith, below, done.laid.as_many, eight laid read n new end done well)

  pub tells_after : (d : ℕ) → d < 8 → IsTrue (folder_at new.folders d).tells
  tells_after d below =
      let first : d < length (begun n).folders = omega (arith, below, eight laid read n new end done well) in
      (done.reads.read.each d (listed_at d below)).folder.goes_on.tells ∙ (done.laid.listed.each d first).call.called.goes_on.tells ∙ tells_at (trees n) d first

  pub keeps_after : (d : ℕ) → d < 8 → (folder_at new.folders d).keeps ≡ keeps_all
  keeps_after d below =
      let first : d < length (begun n).folders = omega (arith, below, eight laid read n new end done well) in
      (done.reads.read.each d (listed_at d below)).folder.goes_on.keeps ∙ (done.laid.listed.each d first).call.called.goes_on.keeps ∙ keeps_at (trees n) d first

  pub tree_after : (d : ℕ) → d < 8 → (folder_at new.folders d).tree ≡ tree_at (trees n) d
  tree_after d below =
      let first : d < length (begun n).folders = omega (arith, below, eight laid read n new end done well) in
      let told = tells_at (trees n) d first in
      let listed = (done.laid.listed.each d first).call in
      (done.reads.read.each d (listed_at d below)).folder.tree (listed.called.goes_on.tells ∙ told) ∙ listed.tree told ∙ standing_tree (trees n) d

  pub eight_after : length new.folders ≡ 8
  eight_after = done.reads.read.folders ∙ done.laid.as_many ∙ eight laid read n new end done well

  pub trees_after : trees_of new.folders ≡ trees n
  trees_after = ext_get_or finite.empty (trees_of new.folders) (trees n) (length-map new.folders its_tree ∙ eight_after ∙ sym (length-trees n))
      (λ d within.
      let below : d < 8 = omega (arith, within, length-map new.folders its_tree, eight_after) in
      tree_of_folder new.folders d ∙ tree_after d below)

  pub valid_after : SavesValid → IsValid end.table
  valid_after saves =
      let many : length done.listed ≡ length done.start.columns = done.laid.as_many ∙ eight laid read n new end done well
      ∙ sym (ap (λ (t : TableValue). length t.columns) done.laid.start_is ∙ length-layout first_table (kept_lists setup done.laid.lists)) in
      let closed_is : end.table ≡ table_after (plan_from done.start (vault_of (begun n))) done.readings (length done.readings)
      = done.table_is ∙ ap (closed moment done.start) (sym (take_all (length done.readings) done.readings (omega arith))) in
      subst IsValid (sym closed_is)
      (saves (plan_from done.start (vault_of (begun n))) done.readings [] done.listed new.folders (length done.readings) many done.reads done.laid.valid (omega arith) (omega arith))
