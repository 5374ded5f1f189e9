-- Where files were only taken away since the first run over an array, a fix meets no block that has a recorded hash by chance.
use Rattle.std.proofs.Common.{◌≡◌, inl, inr, ⊎_elim, ℕ, ◌<◌, ◌≤◌, List, [], ◌∷◌, length, get_or, take, Bool, true, false, Option, None, Some, IsTrue, refl, sym, ap, ap₂, ◌∙◌, subst, arith}
use Rattle.std.specs.List.{Contains}
use Rattle.std.specs.Option.{option_map}
use Rattle.std.proofs.lemmas.Bool.{and_parts}
use Rattle.std.proofs.lemmas.List.Elements.{All-contains_itself}
use Rattle.cauchy.specs.Field.{product}
use Rattle.content_file.specs.Spelling.{spelling, HoldsTable}
use Rattle.disk_model.specs.Files.{Files, content_of}
use Rattle.disk_model.specs.Folder.{FolderView}
use Rattle.disk_model.specs.Opener.{OpenerView}
use Rattle.disk_model.specs.Sink.{SinkView}
use Rattle.disk_model.specs.Tree.{Tree, listing_of}
use Rattle.disk_model.specs.Vault.{VaultView, copies_of}
use Rattle.file_restorer.specs.State.{place_in}
use Rattle.file_table.specs.Cells.{cell_in, cell_seen, cell_view}
use Rattle.file_table.specs.Closing.{DiffersInHashesAndInfos}
use Rattle.file_table.specs.Table.{TableValue, column_at}
use Rattle.file_table.specs.Valid.{IsValid}
use Rattle.file_table.specs.declared.block.Cell.{Cell}
use Rattle.file_table.specs.declared.shape.Shape.{Shape}
use Rattle.parity_writer.specs.Parity.{Row}
use Rattle.parity_writer.specs.Sound.{IsSynced, Sound, Closed, last_row, newest, HasCells, closed_cells}
use Rattle.parity_writer.specs.WindowRow.{bytes_found, bytes_of}
use Rattle.parity_writer.specs.declared.levels.LevelRead.{LevelRead}
use Rattle.parity_writer.specs.declared.levels.LevelRead.TheVariants as here
use Rattle.snap_fix.specs.Fixing.{facts_of}
use Rattle.snap_fix.specs.Genuine.{AreGenuine, IsGenuine, IsIntactLevel}
use Rattle.snap_fix.specs.Stopped.{StandInPlace}
use Rattle.snap_fix.proofs.SoundFixLemmas.{searched_is_synced}
use Rattle.snap_sync.specs.Images.{StandsBy, rows_after, table_after}
use Rattle.snap_sync.specs.Part.{AllTell, IsToldRun, SyncRun, run_trees, tree_at, trees_of}
use Rattle.snap_sync.specs.Soundness.{IsLoadedFrom, in_front}
use Rattle.snap_sync.proofs.CellLemmas.{FindsCells}
use Rattle.snap_sync.proofs.StaysLemmas.{differs-closed}
use Rattle.stripe_examiner.specs.Facts.{StripeFacts, gift_of, slot_of}
use Rattle.stripe_examiner.specs.Known.{AreFacts, is_whole, whole_level}
use Rattle.repair_scope.specs.Plan.{is_searched}
use Rattle.stripe_examiner.specs.Place.{starts_of}
use Rattle.stripe_examiner.specs.Present.{IsPresent}
use Rattle.stripe_reader.specs.Column.{IsReadingOf}
use Rattle.stripe_reader.specs.Columns.{folder_at}
use Rattle.stripe_reader.specs.Reading.{CellReading, IsReadingBy, NoBlock, Task, cell_task, task_at}
use Rattle.stripe_reader.specs.Slot.{kept}
use Rattle.stripe_reader.specs.SlotValue.{SlotValue}
use Rattle.stripe_reader.specs.Starts.{StartsValue, starts_at}
use Rattle.stripe_reader.specs.declared.slot.Found.{Found}
use Rattle.snap_top.specs.Fix.{FixRun}
use Rattle.snap_top.specs.Headline.{Headline, IsSoundStanding}
use Rattle.snap_top.specs.LastSynced.{AreSoundBy, LastSynced, synced_by}
use Rattle.snap_top.specs.Effect.{effect}
use Rattle.snap_top.specs.Began.{IsFixOf, IsSyncOf}
use Rattle.snap_top.specs.RunOf.{end_of, entry_of, RunOf}
use Rattle.snap_top.specs.Entry.{Entry, Exit}
use Rattle.snap_top.specs.Standing.{BeginsOver, Edits, GoesOver, IsHistory, IsOrigin, LeavesTrees, Runs, Stage, Standing, after_of, before_of}
use Rattle.snap_top.specs.Did.{Did, fixes, reads_only, scrubs, syncs}
use Rattle.snap_top.specs.Undamaged.{IsUndamaged, is_read}
use Rattle.snap_top.proofs.OfFixLemmas.{loaded_sound}
use Rattle.snap_top.proofs.OneSizeLemmas.{SavesValidTables}
use Rattle.snap_top.proofs.RestoredLastLemmas.{tree_of_folder}
use Rattle.snap_top.proofs.StoppingLemmas.{ListedStandInPlace}
use Rattle.snap_top.proofs.SyncedLemmas.{OneTable}
use Rattle.snap_top.specs.Taken.{OnlyTakenAway, StandsOrIsGone}
use Rattle.snap_top.proofs.MetLemmas.{BlocksFollow, IsMet, meets_no_chance}
use Rattle.snap_top.proofs.SyncedRows.{IsGivenRow, rows_given}
use Rattle.snap_top.proofs.TakenLemmas.{StandThere, is_in_row}
use Rattle.snap_top.proofs.HistoryLemmas.{last_bytes}
use Rattle.snap_top.proofs.UnchangedLemmas.{unchanged_without}
use Rattle.snap_fix.proofs.ExactLemmas.{RowOfCells, SameParity}
use Rattle.parity_writer.proofs.CellsLemmas.{cells_of}

-- what snap_top says of the levels of a fix, where the table was sound
abbrev pub LevelsAreIntact : Entry → FixRun → Type 0
LevelsAreIntact before run = (snapshot : Closed) (is_changed : ℕ → ℕ → Bool) (facts : StripeFacts) (r : ℕ) → Sound run.loaded before.opener.vault.files snapshot is_changed → IsUndamaged run is_changed facts r
    → (whole_level facts.levels r ≡ true) × IsIntactLevel run.plan facts (last_row snapshot facts.stripe) r

-- ---- the run before

-- it is a sync that closed this row, and what stands by then
record ClosedBy (before : Entry) (exit : Exit) (count : ℕ) (first next : Standing) (stripe : ℕ) (row : Row) : Type 0 where
  run : SyncRun
  is_sync : IsSyncOf before exit run
  stands : StandsBy run.plan run.readings count first.files next.files
  trees : next.trees ≡ first.trees
  has_row : rows_after run.plan run.readings count stripe ≡ Some row

closed_by : (before : Entry) (exit : Exit) (count : ℕ) (first next : Standing) (did : Did) → (effect did).is_of before exit → (effect did).has_closed count first.files next.files → LeavesTrees (effect did).writes_files before exit first.trees next.trees
    → (stripe : ℕ) (row : Row) → (effect did).rows_closed count stripe ≡ Some row → ClosedBy before exit count first next stripe row
closed_by before exit count first next reads_only is closed trees stripe row has = let clash : None ≡ Some row = has in absurd cc
closed_by before exit count first next (syncs failed run) is closed trees stripe row has = record { run = run; is_sync = is; stands = closed; trees = trees; has_row = has }
closed_by before exit count first next (fixes failed run) is closed trees stripe row has = let clash : None ≡ Some row = has in absurd cc
closed_by before exit count first next (scrubs failed run) is closed trees stripe row has = let clash : None ≡ Some row = has in absurd cc

module _ (finds : FindsCells) (one_table : OneTable) (saves_valid : SavesValidTables) (before : Entry) (exit : Exit) (count : ℕ) (first next : Standing) (stripe : ℕ) (row : Row)
    (over : BeginsOver first before) (origin : IsOrigin first) (closed : ClosedBy before exit count first next stripe row) where
  abbrev run : SyncRun
  run = closed.run

  abbrev start : TableValue
  start = closed.run.plan.start

  told_run : IsToldRun run
  told_run = record { told = subst AllTell (sym closed.is_sync.folders_are) over.tells.tells_folders; of_lists = closed.is_sync.over.listed }

  within : count ≤ length run.readings
  within = ⊎_elim (λ none. omega (arith, none.0)) (λ work. work.1.within) closed.stands

  given_row : IsGivenRow start (run_trees run) stripe row
  given_row = rows_given finds run count told_run within stripe row closed.has_row

  trees_stay : next.trees ≡ run_trees run
  trees_stay = closed.trees ∙ sym over.trees ∙ sym (ap trees_of closed.is_sync.folders_are)

  -- each table that a copy has by then differs from the laid out one in hashes and infos alone
  module _ (loaded : TableValue) (valid : IsValid loaded) (copy : ℕ) (below : copy < first.copies) (spells : content_of next.files copy ≡ Some (spelling loaded)) where
    spelled_by : (table : TableValue) → IsValid table → HoldsTable table (content_of next.files copy) → loaded ≡ table
    spelled_by table is_valid is = one_table loaded table (content_of next.files copy) valid is_valid spells is

    differs_after : (k : ℕ) → k ≤ length run.readings → content_of next.files copy ≡ Some (spelling (table_after run.plan run.readings k)) → DiffersInHashesAndInfos start loaded
    differs_after k k_in is =
        let listed = closed.is_sync.over.listed in
        let stands = closed.is_sync.over.stands in
        let is_valid : IsValid (table_after run.plan run.readings k)
        = saves_valid run.plan run.readings run.ahead run.listed run.ended k (listed.as_many ∙ listed.folders ∙ sym stands.keeps.columns) listed.reads stands.laid stands.in_time k_in in
        subst (DiffersInHashesAndInfos start) (sym (spelled_by (table_after run.plan run.readings k) is_valid is)) (differs-closed run.plan.now start (take k run.readings))

    differs : DiffersInHashesAndInfos start loaded
    differs = by closed.stands
      where
        by : StandsBy run.plan run.readings count first.files next.files → DiffersInHashesAndInfos start loaded
        by (inl (none, saves)) = ⊎_elim
            (λ same. absurd (origin.none copy below (spelling loaded) (sym same ∙ spells) (record { table = loaded; valid = valid; spelled = refl })))
            (λ is. subst (DiffersInHashesAndInfos start) (sym (spelled_by start closed.is_sync.over.stands.laid is)) (differs-closed run.plan.now start []))
            (saves.contents copy)
        by (inr (c, work)) = ⊎_elim
            (λ is. differs_after c (omega (arith, work.order, work.within)) is)
            (λ is. differs_after count work.within is)
            (work.copies copy (omega (arith, below, closed.is_sync.over.copies_are, over.copies)))

  differs_by : (copies : ℕ) (loaded : TableValue) → IsValid loaded → copies ≡ first.copies → IsLoadedFrom copies loaded next.files → IsSynced loaded stripe → DiffersInHashesAndInfos start loaded
  differs_by copies loaded valid as_many (inl (copy, below, spells)) synced = differs loaded valid copy (omega (arith, below, as_many)) spells
  differs_by copies loaded valid as_many (inr none) synced = absurd (none stripe synced)

-- ---- what a fix met

whole_is_read : (state : LevelRead) → is_whole state ≡ true → is_read state ≡ true
whole_is_read here.Bytes is = refl
whole_is_read here.Short is = absurd cc
whole_is_read here.Unread is = absurd cc

bytes_kept : (shape : Shape) (first : FolderView) (task : Task) (slot : SlotValue) (is : IsPresent shape first task slot) → bytes_of slot ≡ bytes_of (kept shape is.reading)
bytes_kept shape first task slot is =
    ap (λ (found : Found). bytes_found found slot.cell.got slot.block) is.found
    ∙ ap₂ (λ (got : ℕ) (block : List ℕ). bytes_found (kept shape is.reading).cell.found got block) is.got is.block

-- of a column without a cell no block is read
no_block : (table : TableValue) (starts : StartsValue) (first : FolderView) (d stripe : ℕ) (reading : CellReading) → IsReadingOf first (task_at table starts d stripe) reading
    → cell_view (column_at table.columns d) stripe ≡ None → reading ≡ NoBlock
no_block table starts first d stripe reading is_of none = by (cell_in (column_at table.columns d) stripe) is_of.by none
  where
    by : (found : Option Cell) → IsReadingBy (cell_task table.shape.block_size (column_at table.columns d) (starts_at starts.columns d) found) reading
        → option_map (cell_seen (column_at table.columns d)) found ≡ None → reading ≡ NoBlock
    by None is nothing = is
    by (Some cell) is nothing = absurd cc

module _ (finds : FindsCells) (one_table : OneTable) (saves_valid : SavesValidTables) (places : ListedStandInPlace) (follow : BlocksFollow) (nothing : (a : ℕ) → product a 0 ≡ 0) (row_of : RowOfCells) (same_parity : SameParity)
    (before : Entry) (exit : Exit) (did : Did) (count : ℕ) (first next : Standing) (over : BeginsOver first before) (origin : IsOrigin first) (is_did : (effect did).is_of before exit)
    (closed : (effect did).has_closed count first.files next.files) (leaves : LeavesTrees (effect did).writes_files before exit first.trees next.trees) (last_is : next.last ≡ synced_by did count first.last) (as_many : next.copies ≡ first.copies)
    (trees : List Tree) (taken : OnlyTakenAway next.trees trees) (fix_before : Entry) (fix_exit : Exit) (begins : BeginsOver (record next { trees = trees }) fix_before)
    (sound : IsSoundStanding (record next { trees = trees })) (run : FixRun) (is : IsFixOf fix_before fix_exit run) (intact : LevelsAreIntact fix_before run) where
  abbrev files : Files
  files = fix_before.opener.vault.files

  abbrev table : TableValue
  table = run.plan.table

  table_is : table ≡ run.loaded
  table_is = is.over.plan_is.table_is

  loaded_is_sound : Sound run.loaded files next.last.snapshot next.last.is_changed
  loaded_is_sound =
      let are : AreSoundBy (copies_of fix_before.opener.vault) files next.last
      = subst (λ (k : ℕ). AreSoundBy k files next.last) (sym begins.copies) (subst (λ (fs : Files). AreSoundBy next.copies fs next.last) (sym begins.files) sound.sound) in
      loaded_sound (copies_of fix_before.opener.vault) run.loaded files next.last.snapshot next.last.is_changed is.over.valid is.over.is_loaded are

  unchanged : (stripe r : ℕ) → next.last.is_changed stripe r ≡ false
  unchanged stripe r =
      ap (λ (last : LastSynced). last.is_changed stripe r) last_is
      ∙ unchanged_without (effect did).levels_closed ((effect did).rows_closed count) first.last.is_changed stripe r (ap (λ (last : LastSynced). last.is_changed stripe r) origin.nothing)

  -- the snapshot has the row that was closed, or none
  snapshot_by : (stripe : ℕ) (found : Option Row) → (effect did).rows_closed count stripe ≡ found → next.last.snapshot stripe ≡ in_front found []
  snapshot_by stripe found has =
      ap (λ (last : LastSynced). last.snapshot stripe) last_is
      ∙ ap₂ (λ (it : Option Row) (rows : List Row). in_front it rows) has (ap (λ (last : LastSynced). last.snapshot stripe) origin.nothing)

  folder_tells : (d : ℕ) → d < length table.columns → IsTrue (folder_at run.folders d).tells
  folder_tells d below =
      let columns : length table.columns ≡ length run.loaded.columns = ap (λ (t : TableValue). length t.columns) table_is in
      let all_tell : AllTell run.folders = subst AllTell (sym is.folders_are) begins.tells.tells_folders in
      all_tell d (omega (arith, below, columns, is.over.columns))

  listed_within : (d : ℕ) → d < length table.columns → d < length run.folders
  listed_within d below =
      let columns : length table.columns ≡ length run.loaded.columns = ap (λ (t : TableValue). length t.columns) table_is in
      omega (arith, below, columns, is.over.columns)

  listed_tells : (d : ℕ) → d < length table.columns → IsTrue (folder_at run.listed d).tells
  listed_tells d below = (is.over.listed.each d (listed_within d below)).call.called.goes_on.tells ∙ folder_tells d below

  listed_tree : (d : ℕ) → d < length table.columns → (folder_at run.listed d).tree ≡ (folder_at run.folders d).tree
  listed_tree d below = (is.over.listed.each d (listed_within d below)).call.tree (folder_tells d below)

  -- its folders hold the trees that are left
  tree_is : (d : ℕ) → d < length table.columns → tree_at trees d ≡ (folder_at run.listed d).tree
  tree_is d below =
      ap (λ (ts : List Tree). tree_at ts d) (sym begins.trees ∙ sym (ap trees_of is.folders_are)) ∙ tree_of_folder run.folders d ∙ sym (listed_tree d below)

  stand_in_place : (d : ℕ) → d < length table.columns → StandInPlace run.plan (starts_of run.loaded run.lists) d (folder_at run.listed d).tree
  stand_in_place d below =
      subst (λ (t : TableValue). StandInPlace run.plan (starts_of t run.lists) d (folder_at run.listed d).tree) table_is
      (places run.plan run.lists d (folder_at run.listed d).tree below
      ((is.over.listed.each d (listed_within d below)).found (folder_tells d below) ∙ ap listing_of (sym (listed_tree d below))))

  module _ (facts : StripeFacts) (are : AreFacts run.plan facts) (one : Contains (facts_of run.stripes) facts) (searched : is_searched run.plan facts.stripe ≡ true)
      (cells : (d : ℕ) → d < length table.columns → IsPresent table.shape (folder_at run.listed d) (task_at table (starts_of run.loaded run.lists) d facts.stripe) (slot_of facts d))
      (no_gifts : (d : ℕ) → gift_of facts d ≡ None) where
    synced : IsSynced table facts.stripe
    synced = searched_is_synced run.plan facts are searched

    table_sound : Sound table files next.last.snapshot next.last.is_changed
    table_sound = subst (λ (t : TableValue). Sound t files next.last.snapshot next.last.is_changed) (sym table_is) loaded_is_sound

    was : HasCells table.shape (closed_cells table facts.stripe) (last_row next.last.snapshot facts.stripe)
    was = cells_of table files next.last.snapshot next.last.is_changed table_sound facts.stripe synced

    valid : IsValid table
    valid = subst IsValid (sym table_is) is.over.valid

    -- a stripe without a row is not called synced
    no_row : next.last.snapshot facts.stripe ≡ [] → ⊥
    no_row none =
        let some : 0 < length (next.last.snapshot facts.stripe) = table_sound.was_closed facts.stripe synced in
        let long : length (next.last.snapshot facts.stripe) ≡ 0 = ap (λ (rows : List Row). length rows) none in
        omega (arith, some, long)

    level_is : (r : ℕ) → r < length facts.levels → whole_level facts.levels r ≡ true → IsIntactLevel run.plan facts (last_row next.last.snapshot facts.stripe) r
    level_is r below whole =
        (intact next.last.snapshot next.last.is_changed facts r loaded_is_sound (record {
          one = one;
          synced = (and_parts _ _ searched).0;
          within = below;
          read = whole_is_read _ whole;
          unchanged = unchanged facts.stripe r;
        })).1

    module _ (row : Row) (has : ClosedBy before exit count first next facts.stripe row) (row_is : last_row next.last.snapshot facts.stripe ≡ row) where
      differs_here : DiffersInHashesAndInfos has.run.plan.start table
      differs_here =
          subst (DiffersInHashesAndInfos has.run.plan.start) (sym table_is)
          (differs_by finds one_table saves_valid before exit count first next facts.stripe row over origin has (copies_of fix_before.opener.vault) run.loaded is.over.valid
          (begins.copies ∙ as_many)
          (subst (λ (fs : Files). IsLoadedFrom (copies_of fix_before.opener.vault) run.loaded fs) begins.files is.over.is_loaded)
          (subst (λ (t : TableValue). IsSynced t facts.stripe) table_is synced))

      stand_there : (d : ℕ) → d < length table.columns
          → StandThere (column_at has.run.plan.start.columns d) (starts_at (starts_of run.loaded run.lists).columns d) (folder_at run.listed d).tree
      stand_there d below i within =
          stand_in_place d below i (omega (arith, within, (differs_here.files d).count)) ∙ ap (place_in (folder_at run.listed d).tree) ((differs_here.files d).path i)

      met : (d : ℕ) → d < length table.columns → IsMet run.plan facts (last_row next.last.snapshot facts.stripe) d
      met d below =
          let there = cells d below in
          record {
            reading = there.reading;
            bytes_are = bytes_kept table.shape (folder_at run.listed d) (task_at table (starts_of run.loaded run.lists) d facts.stripe) (slot_of facts d) there;
            digest_is = there.digest;
            none = no_block table (starts_of run.loaded run.lists) (folder_at run.listed d) d facts.stripe there.reading there.is_of;
            whole = λ seen bytes whole.
                let its = is_in_row finds has.run.plan.start table differs_here (run_trees has.run) (starts_of run.loaded run.lists) (folder_at run.listed d) d facts.stripe row
                (omega (arith, below, differs_here.columns)) (listed_tells d below)
                (given_row finds one_table saves_valid before exit count first next facts.stripe row over origin has) (stand_there d below)
                (λ path. subst (λ (tree : Tree). StandsOrIsGone (tree_at (run_trees has.run) d) tree path) (tree_is d below)
                (subst (λ (ts : List Tree). StandsOrIsGone (tree_at ts d) (tree_at trees d) path) (trees_stay finds one_table saves_valid before exit count first next facts.stripe row over origin has) ((taken d).plain path)))
                there.reading seen bytes there.is_of whole in
                (ap (λ (r : Row). get_or r d []) row_is ∙ its.0, subst (λ (shape : Shape). length bytes ≤ shape.block_size) (sym differs_here.shape) its.1);
          }

      genuine : IsGenuine run.plan (last_row next.last.snapshot facts.stripe) facts
      genuine = meets_no_chance row_of same_parity run.plan facts (last_row next.last.snapshot facts.stripe)
          (record { valid = valid; are = are; searched = searched; was = was; bytes = last_bytes next.last.snapshot facts.stripe sound.bytes; no_gifts = no_gifts; cells = met; intact = level_is })
          nothing follow

    -- by the row that was closed, if one was
    genuine_by : (found : Option Row) → (effect did).rows_closed count facts.stripe ≡ found → IsGenuine run.plan (last_row next.last.snapshot facts.stripe) facts
    genuine_by None has = absurd (no_row (snapshot_by facts.stripe None has))
    genuine_by (Some row) has = genuine row (closed_by before exit count first next did is_did closed leaves facts.stripe row has) (ap newest (snapshot_by facts.stripe (Some row) has))

  pub all_genuine : AreGenuine run.plan (last_row next.last.snapshot) (facts_of run.stripes)
  all_genuine k other within searched =
      let facts : StripeFacts = get_or (facts_of run.stripes) k other in
      genuine_by facts (is.over.finds.are k other within) (All-contains_itself (facts_of run.stripes) k other within) searched (is.over.finds.cells k other within) (is.over.no_gifts k other within)
      ((effect did).rows_closed count facts.stripe) refl

-- ---- a fix of what is left

module _ {O F V W : Type 0} (opener_view : O → OpenerView) (folder_view : F → FolderView) (vault_view : V → VaultView) (sink_view : W → SinkView) where
  -- what snap_top says of whatever stands after a history, and of the levels of a fix
  abbrev HoldsAlways : Type 0
  HoldsAlways = (first standing : Standing) (stages : List (Stage O F V W)) → IsOrigin first → IsHistory opener_view folder_view vault_view sink_view first stages standing
      → Headline opener_view folder_view vault_view sink_view standing

  abbrev LevelsAreRead : Type 0
  LevelsAreRead = (run : RunOf O F V W) (fix : FixRun) (snapshot : Closed) (is_changed : ℕ → ℕ → Bool) (facts : StripeFacts) (r : ℕ)
      → IsFixOf (entry_of opener_view sink_view run) (end_of opener_view folder_view vault_view sink_view run) fix → IsTrue (entry_of opener_view sink_view run).opener.vault.tells
      → Sound fix.loaded (entry_of opener_view sink_view run).opener.vault.files snapshot is_changed → IsUndamaged fix is_changed facts r
      → (whole_level facts.levels r ≡ true) × IsIntactLevel fix.plan facts (last_row snapshot facts.stripe) r

  pub no_chance_met : HoldsAlways → LevelsAreRead → FindsCells → OneTable → SavesValidTables → ListedStandInPlace → BlocksFollow → ((a : ℕ) → product a 0 ≡ 0) → RowOfCells → SameParity
      → (sync fix : RunOf O F V W) (first next : Standing) (trees : List Tree) (did : Did) → IsOrigin first → GoesOver opener_view folder_view vault_view sink_view sync first next → OnlyTakenAway next.trees trees
      → BeginsOver (record next { trees = trees }) (before_of opener_view folder_view vault_view sink_view fix)
      → (effect did).is_of (before_of opener_view folder_view vault_view sink_view fix) (after_of opener_view folder_view vault_view sink_view fix) → (effect did).meets_no_chance next.last.snapshot
  no_chance_met holds levels finds one_table saves_valid places follow nothing row_of same_parity sync fix first next trees reads_only origin goes taken begins is = tt
  no_chance_met holds levels finds one_table saves_valid places follow nothing row_of same_parity sync fix first next trees (syncs failed _) origin goes taken begins is = tt
  no_chance_met holds levels finds one_table saves_valid places follow nothing row_of same_parity sync fix first next trees (scrubs failed _) origin goes taken begins is = tt
  no_chance_met holds levels finds one_table saves_valid places follow nothing row_of same_parity sync fix first next trees (fixes failed its) origin goes taken begins is =
      let standing : Standing = record next { trees = trees } in
      let stages : List (Stage O F V W) = record { change = Runs sync; next = next } ∷ record { change = Edits; next = standing } ∷ [] in
      let history : IsHistory opener_view folder_view vault_view sink_view first stages standing = (goes, (refl, refl)) in
      let headline = holds first standing stages origin history in
      all_genuine finds one_table saves_valid places follow nothing row_of same_parity (before_of opener_view folder_view vault_view sink_view sync) (after_of opener_view folder_view vault_view sink_view sync)
      goes.step.always.did goes.count first next goes.over origin goes.step.always.is_did goes.closed goes.trees goes.last (ap (λ (s : Standing). s.copies) goes.array)
      trees taken (before_of opener_view folder_view vault_view sink_view fix) (after_of opener_view folder_view vault_view sink_view fix) begins headline.sound its is
      (λ snapshot is_changed facts r sound undamaged. levels fix its snapshot is_changed facts r is begins.tells.tells_vault sound undamaged)
