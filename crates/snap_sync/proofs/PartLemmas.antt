-- A sync over folders that tell their trees: what was laid out, and that it is a part sync of that.
use Rattle.std.proofs.Common.{◌≡◌, ◌⊎◌, inl, inr, ⊎_elim, Some, ℕ, ◌<◌, ◌≤◌, List, [], ◌∷◌, ◌++◌, length, map, take, get_or, Bool, true, false, if◌then◌else◌, IsTrue, refl, sym, ap, ap₂, ◌∙◌, subst, suc, arith}
use Rattle.std.specs.List.{All, Contains, filter}
use Rattle.std.specs.FinMap as finite_map
use Rattle.std.proofs.lemmas.Bool.{cases_Bool}
use Rattle.std.proofs.lemmas.List.{take_all, get_or-map, length-map, ext_get_or}
use Rattle.std.proofs.lemmas.List.FromFn.{length-map-range_with_len}
use Rattle.folder_listing.specs.Kept.{ListedFile, kept_lists}
use Rattle.array_scan.specs.Layout.{layout, all_sorted, column_laid, pending_stripes}
use Rattle.folder_listing.specs.Listings.{Lists}
use Rattle.disk_model.specs.Cause.{Rose}
use Rattle.content_file.specs.Spelling.{spelling}
use Rattle.disk_model.specs.Files.{Files, content_of}
use Rattle.disk_model.specs.Folder.{FolderView, quiet_folder}
use Rattle.disk_model.specs.Tree.{Tree, listing_of}
use Rattle.file_table.specs.Table.{TableValue}
use Rattle.array_setup.specs.Setup.{SetupValue}
use Rattle.stripe_reader.specs.Columns.{folder_at}
use Rattle.stripe_reader.specs.Reading.{is_unread}
use Rattle.parity_writer.specs.Parity.{Rows, with_row, no_rows}
use Rattle.snap_sync.specs.Calls.{SyncPlan, level_bytes}
use Rattle.snap_sync.specs.Closing.{closed, closed_by, with_closed, rows_with, rows_of}
use Rattle.snap_sync.specs.Images.{HasParity, MayStand, Opening, AtWork, table_after}
use Rattle.snap_sync.specs.Part.{AreOfPartSyncs, IsFullSync, IsPartSync, IsPartTable, IsVerifiedBy, NoneRose, SyncsTold, layout_by, reading_by, readings_by, trees_of, tree_at, verified_stripes}
use Rattle.stripe_findings.specs.Reading.{StripeReading, is_verified, row_of, stripes_of}
use Rattle.snap_sync.proofs.CellLemmas.{FindsCells, IsStripeRead, stripes_read}
use Rattle.snap_sync.proofs.GivenLemmas.{AreTrees, given_stripe, verified_is_given}
use Rattle.snap_sync.proofs.ListFacts.{filter_all, kept_made, kept_among, kept_pass, All-left, All-through, All-take, All-first, contains_first}
use Rattle.snap_sync.proofs.StillPending.{first_stripes}

-- ---- stripes that are not verified change nothing

module _ (start : TableValue) where
  pub closed_filter : (now : ℕ) (readings : List StripeReading) (table : TableValue) → closed_by start now readings table ≡ closed_by start now (filter (is_verified start) readings) table
  closed_filter now [] table = refl
  closed_filter now (reading ∷ readings) table = by_case (is_verified start reading) refl (closed_filter now readings)
    where
      by_case : (b : Bool) → is_verified start reading ≡ b → ((t : TableValue) → closed_by start now readings t ≡ closed_by start now (filter (is_verified start) readings) t)
          → closed_by start now (reading ∷ readings) table ≡ closed_by start now (filter (is_verified start) (reading ∷ readings)) table
      by_case true is rest =
          let here : TableValue = with_closed now reading table in
          let rest_of : List StripeReading = filter (is_verified start) readings in
          ap (λ (b : Bool). closed_by start now readings (if b then here else table)) is
          ∙ rest here
          ∙ ap (λ (b : Bool). closed_by start now rest_of (if b then here else table)) (sym is)
          ∙ ap (λ (b : Bool). closed_by start now (if b then reading ∷ rest_of else rest_of) table) (sym is)
      by_case false is rest =
          let here : TableValue = with_closed now reading table in
          let rest_of : List StripeReading = filter (is_verified start) readings in
          ap (λ (b : Bool). closed_by start now readings (if b then here else table)) is
          ∙ rest table
          ∙ ap (λ (b : Bool). closed_by start now (if b then reading ∷ rest_of else rest_of) table) (sym is)

  pub rows_filter : (readings : List StripeReading) (rows : Rows) → rows_with start readings rows ≡ rows_with start (filter (is_verified start) readings) rows
  rows_filter [] rows = refl
  rows_filter (reading ∷ readings) rows = by_case (is_verified start reading) refl (rows_filter readings)
    where
      by_case : (b : Bool) → is_verified start reading ≡ b → ((r : Rows) → rows_with start readings r ≡ rows_with start (filter (is_verified start) readings) r)
          → rows_with start (reading ∷ readings) rows ≡ rows_with start (filter (is_verified start) (reading ∷ readings)) rows
      by_case true is rest =
          let here : Rows = with_row reading.stripe (row_of reading) rows in
          let rest_of : List StripeReading = filter (is_verified start) readings in
          ap (λ (b : Bool). rows_with start readings (if b then here else rows)) is
          ∙ rest here
          ∙ ap (λ (b : Bool). rows_with start rest_of (if b then here else rows)) (sym is)
          ∙ ap (λ (b : Bool). rows_with start (if b then reading ∷ rest_of else rest_of) rows) (sym is)
      by_case false is rest =
          let here : Rows = with_row reading.stripe (row_of reading) rows in
          let rest_of : List StripeReading = filter (is_verified start) readings in
          ap (λ (b : Bool). rows_with start readings (if b then here else rows)) is
          ∙ rest rows
          ∙ ap (λ (b : Bool). rows_with start (if b then reading ∷ rest_of else rest_of) rows) (sym is)

-- ---- the folders

rose_since : (before mid now : ℕ) → before ≤ mid → Rose mid now → Rose before now
rose_since before mid now later rose = omega (arith, later, rose)

-- the tree of a column's folder
pub tree_of_folder : (folders : List FolderView) (d : ℕ) → d < length folders → tree_at (trees_of folders) d ≡ (folder_at folders d).tree
tree_of_folder folders d below = get_or-map (λ (folder : FolderView). folder.tree) folders d (quiet_folder 0 false) finite_map.empty below

pub length-layout : (old : TableValue) (kept : List (List ListedFile)) → length (layout old kept).columns ≡ length old.columns
length-layout old kept = length-map-range_with_len (column_laid old (all_sorted old kept)) 0 (length old.columns)

-- a list whose elements are each made of their keys
made_again : {K A : Type 0} (f : K → A) (key : A → K) (xs : List A) → All (λ (x : A). x ≡ f (key x)) xs → xs ≡ map f (map key xs)
made_again f key [] each = refl
made_again f key (x ∷ xs) each = ap₂ (λ y ys. y ∷ ys) (each 0 x (omega arith)) (made_again f key xs (λ k d within. each (suc k) d (omega arith)))

module _ (setup : SetupValue) (old start : TableValue) (read_all : List StripeReading) (olds mids news : List FolderView) (syncs : SyncsTold setup old start read_all olds mids news) where
  abbrev trees : List Tree
  trees = trees_of olds

  pub trees_long : length trees ≡ length olds
  trees_long = length-map olds (λ (folder : FolderView). folder.tree)

  lists_are : syncs.of_lists.lists ≡ map listing_of trees
  lists_are = ext_get_or [] syncs.of_lists.lists (map listing_of trees) (syncs.of_lists.listed.as_many ∙ sym (length-map trees listing_of ∙ trees_long)) (λ d below.
      let there : d < length olds = omega (arith, below, syncs.of_lists.listed.as_many) in
      (syncs.of_lists.listed.each d there).found (syncs.told d there) ∙ ap listing_of (sym (tree_of_folder olds d there))
      ∙ sym (get_or-map listing_of trees d finite_map.empty [] (omega (arith, there, trees_long))))

  pub laid_by_trees : start ≡ layout_by setup old trees
  laid_by_trees = syncs.of_lists.start_is ∙ ap (λ (lists : List (List ListedFile)). layout old (kept_lists setup lists)) lists_are

  pub columns_are : length start.columns ≡ length olds
  columns_are = ap (λ (table : TableValue). length table.columns) syncs.of_lists.start_is ∙ length-layout old (kept_lists setup syncs.of_lists.lists) ∙ sym syncs.of_lists.folders

  pub mids_are : length mids ≡ length start.columns
  mids_are = syncs.of_lists.as_many ∙ sym columns_are

  pub are_trees : AreTrees (length start.columns) mids trees
  are_trees = record {
    told = λ d below.
        let there : d < length olds = omega (arith, below, columns_are) in
        let lists : Lists (folder_at olds d) (folder_at mids d) (get_or syncs.of_lists.lists d []) = syncs.of_lists.listed.each d there in
        subst IsTrue (sym lists.call.called.goes_on.tells) (syncs.told d there);
    are = λ d below.
        let there : d < length olds = omega (arith, below, columns_are) in
        let lists : Lists (folder_at olds d) (folder_at mids d) (get_or syncs.of_lists.lists d []) = syncs.of_lists.listed.each d there in
        lists.call.tree (syncs.told d there) ∙ sym (tree_of_folder olds d there);
  }

  pub all_stripes_read : All (IsStripeRead start mids news) read_all
  all_stripes_read = stripes_read start read_all mids news syncs.of_lists.reads.read mids_are

  module _ (finds : FindsCells) where
    all_given : All (λ (reading : StripeReading). is_verified start reading ≡ true → reading ≡ reading_by start trees reading.stripe) read_all
    all_given k d within = verified_is_given finds start mids news trees are_trees (get_or read_all k d) (all_stripes_read k d within)

    -- the first so many of them
    module _ (readings ahead : List StripeReading) (is_all : read_all ≡ readings ++ ahead) (count : ℕ) (within : count ≤ length readings) where
      abbrev read : List StripeReading
      read = take count readings

      given : All (λ (reading : StripeReading). is_verified start reading ≡ true → reading ≡ reading_by start trees reading.stripe) read
      given = All-first (λ (reading : StripeReading). is_verified start reading ≡ true → reading ≡ reading_by start trees reading.stripe) read_all readings ahead count is_all all_given

      pub given_again : filter (is_verified start) read ≡ readings_by start trees (verified_stripes start read)
      given_again = kept_made (is_verified start) (reading_by start trees) (λ (reading : StripeReading). reading.stripe) read given

      pub stripes_are : stripes_of read ≡ take count (pending_stripes start.infos)
      stripes_are = first_stripes read_all readings ahead count (pending_stripes start.infos) is_all within syncs.of_lists.reads.stripes

      -- the table of the part sync of those that are verified
      pub part_table : (now : ℕ) → IsPartTable start trees (verified_stripes start read) now (closed now start read)
      part_table now = record {
        pending = λ k d below. contains_first (pending_stripes start.infos) count (get_or (verified_stripes start read) k d)
            (subst (λ (stripes : List ℕ). Contains stripes (get_or (verified_stripes start read) k d)) stripes_are
            (kept_among (is_verified start) (λ (reading : StripeReading). reading.stripe) read k d below));
        verified = All-through (λ (reading : StripeReading). reading.stripe) (IsVerifiedBy start trees) (filter (is_verified start) read)
            (kept_pass (is_verified start) (λ (reading : StripeReading). IsVerifiedBy start trees reading.stripe) read
            (λ k d below verified. subst (λ (reading : StripeReading). is_verified start reading ≡ true) (given k d below verified) verified));
        is = closed_filter start now read start ∙ ap (closed now start) given_again;
      }

      -- and that part sync
      pub part_sync : (now : ℕ) (files new : Files) → HasParity start.shape.levels start.shape.block_size (level_bytes start) (rows_of start read) files new
          → IsPartSync start trees (verified_stripes start read) now files (closed now start read) new
      part_sync now files new has = record {
        of_table = part_table now;
        parity = subst (λ (rows : Rows). HasParity start.shape.levels start.shape.block_size (level_bytes start) rows files new)
            (rows_filter start read no_rows ∙ ap (rows_of start) given_again) has;
      }

      -- all of them, where all pending stripes were read and are verified
      pub full_sync : (now : ℕ) (files new : Files) → count ≡ length (pending_stripes start.infos) → All (λ (reading : StripeReading). is_verified start reading ≡ true) read
          → HasParity start.shape.levels start.shape.block_size (level_bytes start) (rows_of start read) files new
          → IsFullSync setup old trees now files (closed now start read) new
      full_sync now files new many all has =
          let pending : List ℕ = pending_stripes start.infos in
          let every : verified_stripes start read ≡ pending = ap stripes_of (filter_all (is_verified start) read all) ∙ stripes_are ∙ take_all count pending (omega (arith, many)) in
          let part : IsPartSync start trees pending now files (closed now start read) new =
          subst (λ (stripes : List ℕ). IsPartSync start trees stripes now files (closed now start read) new) every (part_sync now files new has) in
          subst (λ (table : TableValue). IsPartSync table trees (pending_stripes table.infos) now files (closed now start read) new) laid_by_trees part

    -- they are verified where no count rose and the trees verify all pending stripes
    module _ (none : NoneRose olds news) where
      no_cell_failed : (reading : StripeReading) (read : IsStripeRead start mids news reading) (d : ℕ) (below : d < length start.columns) → is_unread (read.cells d below).reading ≡ false
      no_cell_failed reading read d below = elim (cases_Bool (is_unread (read.cells d below).reading)) [
        | inr came ↦ came
        | inl failed ↦
            let there : d < length olds = omega (arith, below, columns_are) in
            let lists : Lists (folder_at olds d) (folder_at mids d) (get_or syncs.of_lists.lists d []) = syncs.of_lists.listed.each d there in
            absurd (none d there (rose_since _ _ _ lists.call.called.goes_on.later ((read.cells d below).unread failed)))
      ]

      -- then what was read is what the trees give
      all_as_given : All (λ (reading : StripeReading). reading ≡ reading_by start trees reading.stripe) read_all
      all_as_given k d within =
          let reading : StripeReading = get_or read_all k d in
          let read : IsStripeRead start mids news reading = all_stripes_read k d within in
          given_stripe finds start mids news trees are_trees reading read (no_cell_failed reading read)

      pub read_as_given : (readings ahead : List StripeReading) → read_all ≡ readings ++ ahead → readings ≡ readings_by start trees (stripes_of readings)
      read_as_given readings ahead is = made_again (reading_by start trees) (λ (reading : StripeReading). reading.stripe) readings
          (All-left (λ (reading : StripeReading). reading ≡ reading_by start trees reading.stripe) readings ahead
          (subst (All (λ (reading : StripeReading). reading ≡ reading_by start trees reading.stripe)) is all_as_given))

      pub unfailed : All (IsVerifiedBy start trees) (pending_stripes start.infos) → All (λ (reading : StripeReading). is_verified start reading ≡ true) read_all
      unfailed verified k d within =
          let reading : StripeReading = get_or read_all k d in
          let first : All (IsVerifiedBy start trees) (take (length read_all) (pending_stripes start.infos)) = All-take (IsVerifiedBy start trees) (length read_all) (pending_stripes start.infos) verified in
          let all : All (IsVerifiedBy start trees) (stripes_of read_all) = subst (All (IsVerifiedBy start trees)) (sym syncs.of_lists.reads.stripes) first in
          let long : length (stripes_of read_all) ≡ length read_all = length-map read_all (λ (r : StripeReading). r.stripe) in
          let here : IsVerifiedBy start trees reading.stripe = subst (IsVerifiedBy start trees) (get_or-map (λ (r : StripeReading). r.stripe) read_all k d 0 within) (all k 0 (omega (arith, within, long))) in
          subst (λ (r : StripeReading). is_verified start r ≡ true) (sym (all_as_given k d within)) here

-- each copy at a moment of it
pub part_copies : FindsCells → (setup : SetupValue) (old : TableValue) (plan : SyncPlan) (readings ahead : List StripeReading) (olds mids news : List FolderView)
    → SyncsTold setup old plan.start (readings ++ ahead) olds mids news → (files new : Files) → MayStand plan readings files new → AreOfPartSyncs plan.start (trees_of olds) plan.now plan.copies files new
part_copies finds setup old plan readings ahead olds mids news syncs files new moment copy below = by_moment moment
  where
    saved : (count : ℕ) → count ≤ length readings → content_of new copy ≡ Some (spelling (table_after plan readings count))
        → (content_of new copy ≡ content_of files copy) ⊎ ((table : TableValue) × (stripes : List ℕ) × IsPartTable plan.start (trees_of olds) stripes plan.now table × (content_of new copy ≡ Some (spelling table)))
    saved count within is = inr (
      table_after plan readings count,
      verified_stripes plan.start (take count readings),
      part_table setup old plan.start (readings ++ ahead) olds mids news syncs finds readings ahead refl count within plan.now,
      is,
    )

    by_moment : MayStand plan readings files new → (content_of new copy ≡ content_of files copy)
        ⊎ ((table : TableValue) × (stripes : List ℕ) × IsPartTable plan.start (trees_of olds) stripes plan.now table × (content_of new copy ≡ Some (spelling table)))
    by_moment (Opening saves) = ⊎_elim (λ same. inl same) (λ laid. saved 0 (omega arith) laid) (saves.contents copy)
    by_moment (AtWork c k work) = ⊎_elim
        (λ one. saved c (omega (arith, work.order, work.within)) one)
        (λ other. saved k work.within other)
        (work.copies copy below)
