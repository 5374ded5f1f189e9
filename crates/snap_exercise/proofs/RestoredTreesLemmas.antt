-- After the fix of an exercise that meets no hash by chance the trees are those of before.
use Rattle.std.proofs.Common.{◌≡◌, ⊎_elim, ℕ, ◌+◌, ◌*◌, ◌/◌, ◌%◌, ◌<◌, ◌==◌, ◌&&◌, ◌||◌, List, [], length, map, get_or, Bool, true, false, if◌then◌else◌, All, IsTrue, Option, None, Some, refl, sym, ap, ap₂, ◌∙◌, subst, arith}
use Rattle.std.specs.Cmp.Lexicographic.{nat_list_cmp_total}
use Rattle.std.specs.FinMap as finite
use Rattle.std.specs.FinMap.{nat_cmp-IsAntisymmetric, slice_cmp-IsAntisymmetric}
use Rattle.std.specs.List.{Contains, list_any, range_with_len}
use Rattle.std.proofs.lemmas.Bool.Decides.{Decides-eqb}
use Rattle.std.proofs.lemmas.List.{ext_get_or, get_or-map, length-map}
use Rattle.std.proofs.lemmas.List.Elements.{All-contains_itself}
use Rattle.std.proofs.lemmas.List.FromFn.{length-range_with_len}
use Rattle.folder_listing.proofs.JoinedLemmas.{all_of_flat}
use Rattle.cauchy.specs.Matrix.{byte_of}
use Rattle.disk_model.specs.Folder.{FolderView}
use Rattle.disk_model.specs.Tree.{File, Tree, file_of, listing_of, meta_of, path_of as name_of}
use Rattle.disk_model.specs.declared.meta.Meta.{Meta}
use Rattle.disk_model.specs.declared.meta.Stamp.{Stamp}
use Rattle.disk_model.proofs.BytesLemmas.{length-resized}
use Rattle.disk_model.proofs.TreeLemmas.{own_name}
use Rattle.file_restorer.specs.State.{IsNameOf, bytes_placed, has_some, place_in, puts, record_path}
use Rattle.file_table.specs.Cells.{cell_in}
use Rattle.file_table.specs.Closing.{DiffersInHashesAndInfos}
use Rattle.file_table.specs.Table.{Column, Record, TableValue, block_count, block_in, column_at, column_blocks, no_block, no_column, no_record, record_at, record_in, records_in}
use Rattle.file_table.specs.Valid.{IsValid, IsWhole}
use Rattle.file_table.specs.declared.block.Block.{Block}
use Rattle.file_table.specs.declared.block.Cell.{Cell}
use Rattle.file_table.specs.declared.shape.Shape.{Shape}
use Rattle.file_table.proofs.CellInLemmas.{cell_in-Some, cell_in_only}
use Rattle.parity_writer.specs.Keeps.{HasByte}
use Rattle.snap_exercise.specs.Exercised.{Array, IsCourse, damaged_lists, damaged_trees, fix_plan, readings_of, start_of, table_of_sync, vault_of}
use Rattle.snap_exercise.specs.Generated.{before, files_of, moment, path_of, tree_of, trees}
use Rattle.snap_exercise.specs.Mends.{snapshot}
use Rattle.snap_exercise.proofs.AfterFixLemmas.{IsLeft, file_left, lost_by, name_among}
use Rattle.snap_exercise.proofs.AfterSyncLemmas.{SavesValid, length-trees}
use Rattle.snap_exercise.proofs.AlikeLemmas.{in_range}
use Rattle.snap_exercise.proofs.CellByteLemmas.{LeavesBytes, byte_at}
use Rattle.snap_exercise.proofs.ClosingLemmas.{FindsExactly, FindsNoChange}
use Rattle.snap_exercise.proofs.FixLemmas.{IsFixOf, fix_of_number, levels_of_number, many_trees, plan_same, valid_of_number}
use Rattle.snap_exercise.proofs.FreeLemmas.{IsOfKept, all_free}
use Rattle.snap_exercise.proofs.HeldLemmas.{tree_of_folder}
use Rattle.snap_exercise.proofs.IntactLemmas.{WholeLevelsHold}
use Rattle.snap_exercise.proofs.LawLemmas.{IsLaidByTrees, IsReadByTrees}
use Rattle.snap_exercise.proofs.MendsLemmas.{GivesFacts, KnownByCounting, WrongWasChanged, columns_of_start, is_genuine, its_bytes, its_intact, its_restorable, its_row, left_none, seen_before, verified_of}
use Rattle.snap_exercise.proofs.NamedLemmas.{HasNoOthers, IsOfFile, damaged_others, few_files, file_at, made_file, made_record, no_others, not_lost, record_made, tree_is}
use Rattle.snap_exercise.proofs.UndamagedLemmas.{row_byte}
use Rattle.snap_exercise.proofs.WholeLemmas.{first_is, kept, left_of_number, many_fixed, selected_of, tells}
use Rattle.snap_fix.specs.Fixing.{facts_of}
use Rattle.snap_fix.specs.FixCourse.{FixesFiles}
use Rattle.snap_fix.specs.Genuine.{AreGenuine}
use Rattle.snap_fix.specs.Mended.{AnswersFit, Mended, has_lost, writes_of}
use Rattle.snap_fix.specs.Restored.{HasFixed, RestoresGenuine}
use Rattle.snap_fix.specs.declared.checks.FixEnd.{FixEnd}
use Rattle.snap_sync.specs.Part.{tree_at, trees_of}
use Rattle.snap_sync.specs.declared.syncing.SyncEnd.{SyncEnd}
use Rattle.snap_sync.proofs.CellLemmas.{FindsCells}
use Rattle.snap_sync.proofs.ListFacts.{filter_all}
use Rattle.snap_sync.proofs.SeenLemmas.{GivesItsHashes, LeavesTheOthers}
use Rattle.snap_sync.proofs.StaysLemmas.{differs-closed}
use Rattle.stripe_examiner.specs.Facts.{StripeFacts, damaged_at}
use Rattle.stripe_examiner.specs.Looking.{facts_at, no_facts, numbers_of}
use Rattle.repair_scope.specs.Plan.{FixPlan, cell_at, has_selected, has_selected_cell, is_in_scope, is_looked_at, selects_cell, selects_level}
use Rattle.stripe_examiner.specs.Place.{starts_of}
use Rattle.stripe_reader.specs.Columns.{folder_at}
use Rattle.stripe_reader.specs.Reading.{block_length}
use Rattle.stripe_reader.specs.Starts.{StartsValue}
use Rattle.stripe_reader.specs.declared.starts.Place.{Place}
use Rattle.stripe_reader.specs.declared.starts.Place.TheVariants as place

or_true : (b : Bool) → (b || true) ≡ true
or_true true = refl
or_true false = refl

-- a file has a block for each of its bytes
in_count : (bytes index : ℕ) → index * 1024 < bytes → index < block_count 1024 bytes
in_count bytes index below = by (bytes % 1024 == 0) refl
  where
    by : (b : Bool) → (bytes % 1024 == 0) ≡ b → index < bytes / 1024 + (if b then 0 else 1)
    by true is = let none : bytes % 1024 ≡ 0 = (Decides-eqb (bytes % 1024) 0).0 is in omega (arith, below, none)
    by false is = omega (arith, below)

lost_none : (written : Bool) (stood : Place) → lost_by written stood None ≡ None
lost_none true place.Plain = refl
lost_none true place.Lost = refl
lost_none true place.Nowhere = refl
lost_none false place.Plain = refl
lost_none false place.Lost = refl
lost_none false place.Nowhere = refl

module _ (laid : IsLaidByTrees) (read : IsReadByTrees) (leaves : LeavesTheOthers) (gives : GivesItsHashes) (exactly : FindsExactly) (no_change : FindsNoChange) (finds : FindsCells)
    (n : ℕ) (synced : SyncEnd) (fixed checked : FixEnd) (last : Array) (is : IsCourse n synced fixed checked last)
    (saves : SavesValid) (gives_facts : GivesFacts) (was_changed : WrongWasChanged) (by_counting : KnownByCounting) (holds : WholeLevelsHold) (just : IsOfKept)
    (genuine : AreGenuine is.fix.plan (snapshot n) (facts_of is.fix.stripes)) (restores : RestoresGenuine) (leaves_bytes : LeavesBytes) where
  abbrev start : TableValue
  start = start_of n

  abbrev table : TableValue
  table = table_of_sync n

  abbrev plan : FixPlan
  plan = fix_plan n

  abbrev stripes : List Mended
  stripes = is.fix.stripes

  abbrev found : List StripeFacts
  found = facts_of stripes

  abbrev starts : StartsValue
  starts = starts_of synced.table is.fix.lists

  abbrev mids : List FolderView
  mids = is.fix.mids

  abbrev news : List FolderView
  news = is.after_fix.folders

  none : fixed.left ≡ 0
  none = left_none laid read leaves gives exactly no_change finds n synced fixed checked last is saves gives_facts was_changed by_counting holds just genuine

  valid : IsValid table
  valid = valid_of_number laid read n synced fixed checked last is saves

  differs : DiffersInHashesAndInfos start table
  differs = differs-closed moment start (readings_of n)

  fix_is : IsFixOf plan (damaged_lists n) (damaged_trees n) (vault_of is.after_sync).files stripes fixed
  fix_is = fix_of_number laid read n synced fixed checked last is

  plan_is : is.fix.plan ≡ plan
  plan_is = plan_same laid read n synced fixed checked last is

  eight_columns : length table.columns ≡ 8
  eight_columns = differs.columns ∙ columns_of_start n

  size_is : table.shape.block_size ≡ 1024
  size_is = ap (λ (shape : Shape). shape.block_size) differs.shape

  its_tells : (d : ℕ) → d < length table.columns → IsTrue (folder_at mids d).tells
  its_tells = subst (λ (p : FixPlan). (d : ℕ) → d < length p.table.columns → IsTrue (folder_at mids d).tells) plan_is (tells laid read n synced fixed checked last is none)

  its_first : (d : ℕ) → d < length table.columns → (folder_at mids d).tree ≡ tree_at (damaged_trees n) d
  its_first = subst (λ (p : FixPlan). (d : ℕ) → d < length p.table.columns → (folder_at mids d).tree ≡ tree_at (damaged_trees n) d) plan_is (first_is laid read n synced fixed checked last is none)

  none_lost : (d i : ℕ) → d < length table.columns → has_lost plan stripes d i ≡ false
  none_lost = subst (λ (p : FixPlan). (d i : ℕ) → d < length p.table.columns → has_lost p stripes d i ≡ false) plan_is (kept laid read n synced fixed checked last is none)

  has_fixed : HasFixed plan starts stripes is.fix.finishes mids news
  has_fixed = record {
    valid = valid;
    numbers = fix_is.numbers;
    are = fix_is.seen.are;
    answered = subst (λ (p : FixPlan). All (AnswersFit p mids) stripes) plan_is is.fix.finds.answered;
    files = subst (λ (p : FixPlan). FixesFiles p starts stripes is.fix.finishes mids news) plan_is is.fix.files;
  }

  -- ---- each stripe is looked at

  looked_at : (s : ℕ) → is_looked_at plan s ≡ true
  looked_at s = ap (λ (b : Bool). has_selected_cell plan s || b) (ap (λ (m : ℕ). list_any (selects_level plan s) (range_with_len 0 m)) (levels_of_number n)) ∙ or_true (has_selected_cell plan s)

  numbers_are : numbers_of found ≡ range_with_len 0 (length table.infos)
  numbers_are = fix_is.numbers ∙ filter_all (is_looked_at plan) (range_with_len 0 (length table.infos)) (λ k d within. looked_at (get_or (range_with_len 0 (length table.infos)) k d))

  many_found : length found ≡ length table.infos
  many_found = sym (length-map found (λ (facts : StripeFacts). facts.stripe)) ∙ ap length numbers_are ∙ length-range_with_len 0 (length table.infos)

  number_at : (s : ℕ) → s < length found → (facts_at found s).stripe ≡ s
  number_at s within =
      sym (get_or-map (λ (facts : StripeFacts). facts.stripe) found s no_facts 0 within) ∙ ap (λ (ns : List ℕ). get_or ns s 0) numbers_are
      ∙ (in_range (length table.infos) s (omega (arith, within, many_found, length-range_with_len 0 (length table.infos)))).0

  -- ---- a record

  module _ (d : ℕ) (below : d < length table.columns) where
    few : d < 8
    few = omega (arith, below, eight_columns)

    in_start : d < length start.columns
    in_start = omega (arith, below, differs.columns)

    abbrev column : Column
    column = column_at table.columns d

    abbrev first : Tree
    first = (folder_at mids d).tree

    abbrev after : Tree
    after = (folder_at news d).tree

    first_others : HasNoOthers (files_of n) first
    first_others = subst (HasNoOthers (files_of n)) (sym (its_first d below)) (damaged_others n d finite.empty (omega (arith, few, many_trees laid read n synced fixed checked last is)))

    left : IsLeft plan stripes d first after
    left = subst (λ (t : Tree). IsLeft plan stripes d t after) (sym (its_first d below)) (left_of_number laid read n synced fixed checked last is none d below)

    module _ (i : ℕ) (inside : i < length (records_in table d)) where
      its_made : IsOfFile n d (get_or (records_in start d) i no_record)
      its_made = record_made just n d few in_start i (omega (arith, inside, (differs.files d).count))

      abbrev file : File
      file = made_file (before n d) d false its_made.k

      path_is : record_path (records_in table d) i ≡ path_of its_made.k
      path_is = (differs.files d).path i ∙ its_made.path

      meta_is : (record_at table.columns d i).meta ≡ meta_of file
      meta_is = (differs.files d).meta i ∙ its_made.meta

      abbrev left_file : File
      left_file = file_left (record_at table.columns d i).meta (puts (bytes_placed first (record_path (records_in table d) i)) (writes_of plan stripes d i))

      lost_name : file_of first (name_of (record_path (records_in table d) i) true) ≡ None
      lost_name = first_others (name_of (record_path (records_in table d) i) true) (λ k under same. not_lost its_made.k k (ap (λ (path : List ℕ). name_of path true) (sym path_is) ∙ same))

      module _ (index : ℕ) (under : index * 1024 < length file.bytes) where
        abbrev cell : Cell
        cell = record { rec = i; index = index }

        abbrev s : ℕ
        s = (block_in (record_in column i) index).position

        index_within : index < length (record_in column i).blocks
        index_within =
            let whole : IsWhole table.shape.block_size (record_in column i) = all_of_flat (IsWhole table.shape.block_size) (λ (c : Column). c.records) table.columns valid.whole d no_column below i no_record inside in
            let counted : length (record_in column i).blocks ≡ block_count 1024 (length file.bytes) = whole ∙ ap₂ block_count size_is (ap (λ (meta : Meta). meta.size) meta_is) in
            omega (arith, counted, in_count (length file.bytes) index under)

        cell_there : cell_in column s ≡ Some cell
        cell_there = cell_in_only column s (valid.columns.each d no_column below).once i index (record { within = inside; index_within = index_within; position_is = refl })

        within : s < length found
        within =
            let its = valid.columns.each d no_column below in
            let each : All (λ (block : Block). block.position < length table.infos) (column_blocks column) = λ k e inner.
            subst (λ (position : ℕ). position < length table.infos) (get_or-map (λ (block : Block). block.position) (column_blocks column) k e 0 inner)
            (its.below k 0 (omega (arith, inner, length-map (column_blocks column) (λ (block : Block). block.position)))) in
            let here : s < length table.infos = all_of_flat (λ (block : Block). block.position < length table.infos) (λ (file_record : Record). file_record.blocks) column.records each i no_record inside index no_block index_within in
            omega (arith, here, many_found)

        abbrev facts : StripeFacts
        facts = facts_at found s

        stripe_is : facts.stripe ≡ s
        stripe_is = number_at s within

        cell_is : cell_at plan facts.stripe d ≡ Some cell
        cell_is = ap (cell_in column) stripe_is ∙ cell_there

        selected : selects_cell plan facts.stripe d ≡ true
        selected = ap (λ (it : Option Cell). is_in_scope plan facts.stripe && has_selected plan d it) cell_is ∙ selected_of n d i below inside

        alike : (mended : Mended) → Contains stripes mended → cell_at plan mended.facts.stripe d ≡ Some cell → damaged_at plan mended.facts d ≡ damaged_at plan facts d
        alike mended among its =
            let k : ℕ = among.0 in
            let there : k < length found = omega (arith, among.1, length-map stripes (λ (m : Mended). m.facts)) in
            let facts_are : facts_at found k ≡ mended.facts = get_or-map (λ (m : Mended). m.facts) stripes k mended no_facts among.1 ∙ ap (λ (m : Mended). m.facts) among.2 in
            let position : (block_in (record_in column i) index).position ≡ mended.facts.stripe = (cell_in-Some column mended.facts.stripe cell its).position_is in
            let number : (facts_at found k).stripe ≡ k = number_at k there in
            let stripe : (facts_at found k).stripe ≡ mended.facts.stripe = ap (λ (f : StripeFacts). f.stripe) facts_are in
            let same : k ≡ s = omega (arith, position, number, stripe) in
            ap (λ (f : StripeFacts). damaged_at plan f d) (sym facts_are ∙ ap (facts_at found) same)

        -- a byte of it
        byte_left : (p : ℕ) → p < block_length 1024 (length file.bytes) index → get_or left_file.bytes (index * 1024 + p) 0 ≡ get_or file.bytes (index * 1024 + p) 0
        byte_left p inner =
            let length_is : block_length table.shape.block_size (record_at table.columns d i).meta.size index ≡ block_length 1024 (length file.bytes) index
            = ap₂ (λ (a b : ℕ). block_length a b index) size_is (ap (λ (meta : Meta). meta.size) meta_is) in
            let has : HasByte left_file.bytes (index * table.shape.block_size + p) (byte_of (snapshot n facts.stripe) d p)
            = byte_at restores leaves_bytes plan starts stripes is.fix.finishes mids news has_fixed d below (its_tells d below) facts (All-contains_itself found s no_facts within) cell cell_is inside selected
            (all_free just n d i few below inside) (none_lost d i below) (snapshot n facts.stripe)
            (is_genuine laid read leaves gives exactly no_change finds n synced fixed checked last is saves gives_facts was_changed by_counting holds just genuine s within)
            (its_row laid read leaves gives exactly no_change finds n synced fixed checked last is saves gives_facts was_changed by_counting holds just genuine s within)
            (its_bytes laid read leaves gives exactly no_change finds n synced fixed checked last is saves gives_facts was_changed by_counting holds just genuine s within)
            (λ r. true)
            (its_intact laid read leaves gives exactly no_change finds n synced fixed checked last is saves gives_facts was_changed by_counting holds just genuine s within)
            (its_restorable laid read leaves gives exactly no_change finds n synced fixed checked last is saves gives_facts was_changed by_counting holds just genuine s within)
            lost_name alike left_file (left.files i inside) p (subst (λ (m : ℕ). p < m) (sym length_is) inner) in
            let value : byte_of (snapshot n facts.stripe) d p ≡ get_or file.bytes (index * 1024 + p) 0 = original p inner in
            ap (λ (size : ℕ). get_or left_file.bytes (index * size + p) 0) (sym size_is) ∙ has.is ∙ value
          where
            original : (q : ℕ) → q < block_length 1024 (length file.bytes) index → byte_of (snapshot n facts.stripe) d q ≡ get_or file.bytes (index * 1024 + q) 0
            original q inner_q =
                let in_stripes : facts.stripe < length start.infos = omega (arith, stripe_is, within, many_found, differs.stripes) in
                let there : cell_in (column_at start.columns d) facts.stripe ≡ Some cell = sym ((differs.files d).cell facts.stripe) ∙ cell_is in
                let stands : file_of (tree_at (trees n) d) (name_of (get_or (records_in start d) i no_record).path false) ≡ Some file
                = ap (λ (t : Tree). file_of t (name_of (get_or (records_in start d) i no_record).path false)) (tree_is just n d few in_start)
                ∙ ap (file_of (tree_of n d)) (own_name (get_or (records_in start d) i no_record).path ∙ its_made.path) ∙ file_at (before n d) d false (files_of n) its_made.k its_made.below (few_files n) in
                row_byte finds start table differs (trees n) (trees n) (map listing_of (trees n)) d facts.stripe in_start (get_or-map listing_of (trees n) d finite.empty [] (omega (arith, few, length-trees n))) refl
                (verified_of laid read leaves gives exactly no_change finds n synced fixed checked last is facts.stripe in_stripes)
                (seen_before laid read leaves gives exactly no_change finds n synced fixed checked last is facts.stripe d in_stripes in_start)
                cell there file stands q (subst (λ (m : ℕ). q < m) (sym (ap (λ (meta : Meta). block_length 1024 meta.size index) its_made.meta)) inner_q)

      -- all bytes of its file
      file_is : left_file ≡ file
      file_is =
          let long : length left_file.bytes ≡ length file.bytes
          = length-resized (puts (bytes_placed first (record_path (records_in table d) i)) (writes_of plan stripes d i)) (record_at table.columns d i).meta.size ∙ ap (λ (meta : Meta). meta.size) meta_is in
          let bytes : left_file.bytes ≡ file.bytes = ext_get_or 0 left_file.bytes file.bytes long (λ q inner.
          let at : (q / 1024) * 1024 + q % 1024 ≡ q = omega arith in
          let below_file : q < length file.bytes = omega (arith, inner, long) in
          subst (λ (place_at : ℕ). get_or left_file.bytes place_at 0 ≡ get_or file.bytes place_at 0) at (byte_left (q / 1024) (omega (arith, at, below_file)) (q % 1024) (omega (arith, at, below_file)))) in
          ap₂ (λ (stamp : Stamp) (its : List ℕ). let it : File = record { stamp = stamp; bytes = its } in it) (ap (λ (meta : Meta). meta.stamp) meta_is) bytes

      under_name : (lost : Bool) → file_of after (name_of (record_path (records_in table d) i) lost) ≡ file_of (tree_of n d) (name_of (record_path (records_in table d) i) lost)
      under_name false =
          left.files i inside ∙ ap (λ (it : File). Some it) file_is
          ∙ sym (ap (file_of (tree_of n d)) (own_name (record_path (records_in table d) i) ∙ path_is) ∙ file_at (before n d) d false (files_of n) its_made.k its_made.below (few_files n))
      under_name true =
          left.lost i inside ∙ ap (λ (it : Option File). lost_by (has_some (writes_of plan stripes d i)) (place_in first (record_path (records_in table d) i)) it) lost_name ∙ lost_none (has_some (writes_of plan stripes d i)) (place_in first (record_path (records_in table d) i))
          ∙ sym (no_others (before n d) d false (files_of n) (few_files n) (name_of (record_path (records_in table d) i) true) (λ k under same. not_lost its_made.k k (ap (λ (path : List ℕ). name_of path true) (sym path_is) ∙ same)))

    no_file : (name : List ℕ) → ¬ (IsNameOf (records_in table d) name) → (k : ℕ) → k < files_of n → name ≡ path_of k → ⊥
    no_file name apart k under same =
        let its = made_record just n d few in_start k under in
        apart (its.0, false, omega (arith, its.1, (differs.files d).count), same ∙ sym its.2 ∙ sym ((differs.files d).path its.0) ∙ sym (own_name (record_path (records_in table d) its.0)))

    tree_after : after ≡ tree_of n d
    tree_after = finite.same_map nat_list_cmp_total (slice_cmp-IsAntisymmetric nat_cmp-IsAntisymmetric) after (tree_of n d) (λ name. ⊎_elim
        (λ named. subst (λ (its : List ℕ). file_of after its ≡ file_of (tree_of n d) its) (sym named.3) (under_name named.0 named.2 named.1))
        (λ apart. left.others name apart ∙ first_others name (no_file name apart) ∙ sym (no_others (before n d) d false (files_of n) (few_files n) name (no_file name apart)))
        (name_among (records_in table d) name))

  abbrev its_tree : FolderView → Tree
  its_tree folder = folder.tree

  pub trees_restored : trees_of news ≡ trees n
  trees_restored =
      let many : length news ≡ 8 = many_fixed laid read n synced fixed checked last is none in
      ext_get_or finite.empty (trees_of news) (trees n) (length-map news its_tree ∙ many ∙ sym (length-trees n)) (λ d inner.
      let below : d < length table.columns = omega (arith, inner, length-map news its_tree, many, eight_columns) in
      tree_of_folder news d ∙ tree_after d below ∙ sym (tree_is just n d (few d below) (in_start d below)))
