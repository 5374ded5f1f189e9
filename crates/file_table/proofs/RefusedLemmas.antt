-- The builder refuses nothing that may stand in a table, but where memory runs out.
use Rattle.std.proofs.Common.{◌≡◌, ◌≢◌, ℕ, ◌-◌, ◌<◌, ◌≤◌, List, [], ◌∷◌, ◌++◌, length, refl, sym, ap, subst, ◌∙◌, append_assoc, arith, All, IsTrue}
use Rattle.std.specs.Prelude.{AllPairs}
use Rattle.std.proofs.lemmas.List.{length-append, map-append, get_or_at}
use Rattle.disk_model.specs.Path.{IsRecordPath, IsDirectoryOf}
use Rattle.disk_model.specs.declared.meta.Meta.{Meta}
use Rattle.file_table.specs.declared.block.Block.{Block}
use Rattle.file_table.specs.declared.info.Info.{Info}
use Rattle.file_table.specs.declared.info.Mark.TheVariants.{Synced}
use Rattle.file_table.specs.declared.fault.BuildFault.{BuildFault}
use Rattle.file_table.specs.declared.fault.BuildFault.TheVariants.{Name, Order, Nested, Range, Repeated, Blocks, Full, Length, Hash, State, Memory}
use Rattle.file_table.specs.Table.{Record, Column, no_record, records_of, column_blocks, positions_of, blocks_due, info_at}
use Rattle.file_table.specs.Valid.{AreInfos, IsColumn, IsRecord, ComesBefore, IsInfo, IsState, IsHashedAt}
use Rattle.file_table.specs.Building.{BuildingValue, LacksBlock, IsNewName, IsGreatest, IsNested, HasRoom, Uses, IsLength, last_column, newest_record, with_block, is_disk_fault, is_record_fault, is_block_fault, is_info_fault, is_finish_fault}
use Rattle.file_table.specs.Pushing.{with_records, AreWhole, MayStand}
use Rattle.file_table.proofs.PushingLemmas.{record_of, front, front_and_last, records_of-with_records}
use Rattle.file_table.proofs.PrefixLemmas.{AllPairs-last, last_is, positions_in, positions_in-push, records_last, blocks_last, due-append}

pub whole_lacks_none : (building : BuildingValue) → AreWhole building (records_of building.columns) → ¬ (LacksBlock building)
whole_lacks_none building whole lacks =
    let last = length (records_of building.columns) - 1 in
    let within : last < length (records_of building.columns) = omega (arith, lacks.some) in
    let full = whole last no_record within in
    omega (arith, full, lacks.fewer)

-- ---- a block

-- the positions of the column, when the block is there
positions_with : (columns : List Column) (block : Block) → 0 < length (last_column columns).records
    → positions_in (front (last_column columns).records ++ record_of (newest_record columns).path (newest_record columns).meta ((newest_record columns).blocks ++ block ∷ []) ∷ [])
    ≡ positions_of (column_blocks (last_column columns)) ++ block.position ∷ []
positions_with columns block some =
    let records = front (last_column columns).records in
    let last = newest_record columns in
    positions_in-push records (record_of last.path last.meta (last.blocks ++ block ∷ []))
    ∙ ap (λ (ps : List ℕ). positions_in records ++ ps) (map-append (λ (b : Block). b.position) last.blocks (block ∷ []))
    ∙ sym (append_assoc (positions_in records) (positions_of last.blocks) (block.position ∷ []))
    ∙ ap (λ (ps : List ℕ). ps ++ block.position ∷ []) (sym (positions_in-push records last))
    ∙ ap (λ (rs : List Record). positions_in rs ++ block.position ∷ []) (front_and_last (last_column columns).records no_record some)

pub block_refused : (fault : BuildFault) (mid : BuildingValue) (block : Block)
    → (fault ≡ Blocks → ¬ (LacksBlock mid)) → (fault ≡ Range → LacksBlock mid × (mid.length ≤ block.position))
    → (fault ≡ Repeated → LacksBlock mid × (block.position < mid.length) × Uses (last_column mid.columns) block.position)
    → IsTrue (is_block_fault fault)
    → LacksBlock mid → 0 < length (last_column mid.columns).records → MayStand mid (with_block mid.columns block) → fault ≡ Memory
block_refused fault mid block blocks range repeated only lacks some may =
    let column = blocks_last mid.length mid.shape.block_size mid.columns (block ∷ []) may in
    let positions = positions_with mid.columns block some in
    let used = positions_of (column_blocks (last_column mid.columns)) in
    let below : block.position < mid.length = last_is (λ p. p < mid.length) used block.position (subst (All (λ p. p < mid.length)) positions column.below) in
    let once : AllPairs (λ a b. a ≢ b) (used ++ block.position ∷ []) = subst (AllPairs (λ a b. a ≢ b)) positions column.once in
    let unused : ¬ (Uses (last_column mid.columns) block.position) = λ uses. AllPairs-last (λ a b. a ≢ b) used block.position once uses.0 block.position uses.1 uses.2 in
    by_cases fault blocks range repeated only below unused
  where
    by_cases : (fault : BuildFault) → (fault ≡ Blocks → ¬ (LacksBlock mid)) → (fault ≡ Range → LacksBlock mid × (mid.length ≤ block.position))
        → (fault ≡ Repeated → LacksBlock mid × (block.position < mid.length) × Uses (last_column mid.columns) block.position)
        → IsTrue (is_block_fault fault) → block.position < mid.length → ¬ (Uses (last_column mid.columns) block.position) → fault ≡ Memory
    by_cases Blocks blocks range repeated only below unused = absurd (blocks refl lacks)
    by_cases Range blocks range repeated only below unused = absurd (omega (arith, (range refl).1))
    by_cases Repeated blocks range repeated only below unused = absurd (unused (repeated refl).2)
    by_cases Memory blocks range repeated only below unused = refl
    by_cases _ blocks range repeated only below unused = absurd cc

-- ---- a record

pub record_refused : (fault : BuildFault) (mid : BuildingValue) (path : List ℕ) (meta : Meta) (blocks : List Block)
    → (fault ≡ Blocks → LacksBlock mid) → (fault ≡ Name → ¬ (LacksBlock mid) × ¬ (IsRecordPath path))
    → (fault ≡ Order → ¬ (LacksBlock mid) × IsRecordPath path × ¬ (IsGreatest (last_column mid.columns) path))
    → (fault ≡ Nested → ¬ (LacksBlock mid) × IsRecordPath path × IsGreatest (last_column mid.columns) path × IsNested (last_column mid.columns) path)
    → (fault ≡ Full → ¬ (LacksBlock mid) × IsRecordPath path × IsGreatest (last_column mid.columns) path × ¬ (IsNested (last_column mid.columns) path) × ¬ (HasRoom mid meta.size))
    → IsTrue (is_record_fault fault)
    → 0 < length mid.columns → AreWhole mid (records_of mid.columns) → MayStand mid (with_records mid.columns (record_of path meta blocks ∷ [])) → fault ≡ Memory
record_refused fault mid path meta blocks lacks name order nested full only some whole may =
    let kept = record_of path meta blocks in
    let records = (last_column mid.columns).records in
    let size = mid.shape.block_size in
    let column = records_last mid.length size mid.columns (kept ∷ []) may in
    let is_path : IsRecordPath path = (last_is IsRecord records kept column.records).path in
    let before = λ (k : ℕ) (d : Record). AllPairs-last ComesBefore records kept column.order k d in
    let greatest : IsGreatest (last_column mid.columns) path = λ some_record. (before (length records - 1) no_record (omega (arith, some_record))).less in
    let not_nested : ¬ (IsNested (last_column mid.columns) path) =
    λ found. (before found.0 found.1 found.2).not_nested (subst (λ (r : Record). IsDirectoryOf r.path path) (sym found.3) found.4) in
    let all = records_of-with_records mid.columns (kept ∷ []) some in
    let count = length-append (records_of mid.columns) (kept ∷ []) in
    let due = due-append size (records_of mid.columns) (kept ∷ []) in
    let room : HasRoom mid meta.size = record {
      records = omega (arith, may.few_records, ap length all, count);
      blocks = omega (arith, may.few_blocks, ap (blocks_due size) all, due);
    } in
    by_cases fault lacks name order nested full only (whole_lacks_none mid whole) is_path greatest not_nested room
  where
    by_cases : (fault : BuildFault) → (fault ≡ Blocks → LacksBlock mid) → (fault ≡ Name → ¬ (LacksBlock mid) × ¬ (IsRecordPath path))
        → (fault ≡ Order → ¬ (LacksBlock mid) × IsRecordPath path × ¬ (IsGreatest (last_column mid.columns) path))
        → (fault ≡ Nested → ¬ (LacksBlock mid) × IsRecordPath path × IsGreatest (last_column mid.columns) path × IsNested (last_column mid.columns) path)
        → (fault ≡ Full → ¬ (LacksBlock mid) × IsRecordPath path × IsGreatest (last_column mid.columns) path × ¬ (IsNested (last_column mid.columns) path) × ¬ (HasRoom mid meta.size))
        → IsTrue (is_record_fault fault)
        → ¬ (LacksBlock mid) → IsRecordPath path → IsGreatest (last_column mid.columns) path → ¬ (IsNested (last_column mid.columns) path) → HasRoom mid meta.size → fault ≡ Memory
    by_cases Blocks lacks name order nested full only none is_path greatest not_nested room = absurd (none (lacks refl))
    by_cases Name lacks name order nested full only none is_path greatest not_nested room = absurd ((name refl).1 is_path)
    by_cases Order lacks name order nested full only none is_path greatest not_nested room = absurd ((order refl).2 greatest)
    by_cases Nested lacks name order nested full only none is_path greatest not_nested room = absurd (not_nested (nested refl).3)
    by_cases Full lacks name order nested full only none is_path greatest not_nested room = absurd ((full refl).4 room)
    by_cases Memory lacks name order nested full only none is_path greatest not_nested room = refl
    by_cases _ lacks name order nested full only none is_path greatest not_nested room = absurd cc

-- ---- a column

pub disk_refused : (fault : BuildFault) (mid : BuildingValue) (column : Column)
    → (fault ≡ Blocks → LacksBlock mid) → (fault ≡ Name → ¬ (LacksBlock mid) × ¬ (IsNewName mid.columns column.name))
    → IsTrue (is_disk_fault fault)
    → AreWhole mid (records_of mid.columns) → MayStand mid (mid.columns ++ column ∷ []) → fault ≡ Memory
disk_refused fault mid column lacks name only whole may =
    let new : IsNewName mid.columns column.name = record {
      allowed = (last_is (IsColumn mid.length) mid.columns column may.each).name;
      new = AllPairs-last (λ (a b : Column). a.name ≢ b.name) mid.columns column may.names;
      room = omega (arith, may.few, length-append mid.columns (column ∷ []));
    } in
    by_cases fault lacks name only (whole_lacks_none mid whole) new
  where
    by_cases : (fault : BuildFault) → (fault ≡ Blocks → LacksBlock mid) → (fault ≡ Name → ¬ (LacksBlock mid) × ¬ (IsNewName mid.columns column.name))
        → IsTrue (is_disk_fault fault) → ¬ (LacksBlock mid) → IsNewName mid.columns column.name → fault ≡ Memory
    by_cases Blocks lacks name only none new = absurd (none (lacks refl))
    by_cases Name lacks name only none new = absurd ((name refl).1 new)
    by_cases Memory lacks name only none new = refl
    by_cases _ lacks name only none new = absurd cc

-- ---- the information on a stripe

pub info_refused : (fault : BuildFault) (mid : BuildingValue) (info : Info)
    → (fault ≡ Blocks → LacksBlock mid) → (fault ≡ State → ¬ (LacksBlock mid) × ¬ (IsState info))
    → (fault ≡ Length → ¬ (LacksBlock mid) × IsState info × (length mid.infos ≡ mid.length))
    → (fault ≡ Hash → ¬ (LacksBlock mid) × IsState info × (length mid.infos < mid.length) × (info.mark ≡ Synced) × ¬ (IsHashedAt mid.columns (length mid.infos)))
    → IsTrue (is_info_fault fault)
    → AreWhole mid (records_of mid.columns) → length mid.infos < mid.length → AreInfos mid.columns (mid.infos ++ info ∷ []) → fault ≡ Memory
info_refused fault mid info lacks state size hash only whole room may =
    let is : IsInfo info = last_is IsInfo mid.infos info may.each in
    let within : length mid.infos < length (mid.infos ++ info ∷ []) = omega (arith, length-append mid.infos (info ∷ [])) in
    let here : info_at (mid.infos ++ info ∷ []) (length mid.infos) ≡ info = get_or_at mid.infos info [] _ (length mid.infos) refl in
    let hashed : info.mark ≡ Synced → IsHashedAt mid.columns (length mid.infos) = λ synced. may.hashed (length mid.infos) within (ap (λ (i : Info). i.mark) here ∙ synced) in
    by_cases fault lacks state size hash only (whole_lacks_none mid whole) is.state room hashed
  where
    by_cases : (fault : BuildFault) → (fault ≡ Blocks → LacksBlock mid) → (fault ≡ State → ¬ (LacksBlock mid) × ¬ (IsState info))
        → (fault ≡ Length → ¬ (LacksBlock mid) × IsState info × (length mid.infos ≡ mid.length))
        → (fault ≡ Hash → ¬ (LacksBlock mid) × IsState info × (length mid.infos < mid.length) × (info.mark ≡ Synced) × ¬ (IsHashedAt mid.columns (length mid.infos)))
        → IsTrue (is_info_fault fault)
        → ¬ (LacksBlock mid) → IsState info → length mid.infos < mid.length → (info.mark ≡ Synced → IsHashedAt mid.columns (length mid.infos)) → fault ≡ Memory
    by_cases Blocks lacks state size hash only none is room hashed = absurd (none (lacks refl))
    by_cases State lacks state size hash only none is room hashed = absurd ((state refl).1 is)
    by_cases Length lacks state size hash only none is room hashed = absurd (let e = (size refl).2 in omega (arith, e))
    by_cases Hash lacks state size hash only none is room hashed = absurd ((hash refl).4 (hashed (hash refl).3))
    by_cases Memory lacks state size hash only none is room hashed = refl
    by_cases _ lacks state size hash only none is room hashed = absurd cc

-- ---- the whole

pub finish_refused : (fault : BuildFault) (mid : BuildingValue)
    → (fault ≡ Name → mid.columns ≡ []) → (fault ≡ Blocks → (0 < length mid.columns) × LacksBlock mid)
    → (fault ≡ State → (0 < length mid.columns) × ¬ (LacksBlock mid) × (length mid.infos < mid.length))
    → (fault ≡ Length → (0 < length mid.columns) × ¬ (LacksBlock mid) × (length mid.infos ≡ mid.length) × ¬ (IsLength mid))
    → IsTrue (is_finish_fault fault)
    → 0 < length mid.columns → AreWhole mid (records_of mid.columns) → length mid.infos ≡ mid.length → IsLength mid → fault ≡ Memory
finish_refused fault mid name lacks state size only some whole full is_length = by_cases fault name lacks state size only (whole_lacks_none mid whole)
  where
    by_cases : (fault : BuildFault) → (fault ≡ Name → mid.columns ≡ []) → (fault ≡ Blocks → (0 < length mid.columns) × LacksBlock mid)
        → (fault ≡ State → (0 < length mid.columns) × ¬ (LacksBlock mid) × (length mid.infos < mid.length))
        → (fault ≡ Length → (0 < length mid.columns) × ¬ (LacksBlock mid) × (length mid.infos ≡ mid.length) × ¬ (IsLength mid))
        → IsTrue (is_finish_fault fault) → ¬ (LacksBlock mid) → fault ≡ Memory
    by_cases Name name lacks state size only none = absurd (omega (arith, ap length (name refl)))
    by_cases Blocks name lacks state size only none = absurd (none (lacks refl).1)
    by_cases State name lacks state size only none = absurd (let fewer = (state refl).2 in omega (arith, fewer))
    by_cases Length name lacks state size only none = absurd ((size refl).3 is_length)
    by_cases Memory name lacks state size only none = refl
    by_cases _ name lacks state size only none = absurd cc
