-- What may stand in a table is pushed part by part: each part is refused only where memory runs out.
use Rattle.std.proofs.Common.{◌≡◌, ℕ, ◌+◌, ◌<◌, ◌≤◌, List, [], ◌∷◌, ◌++◌, length, get_or, take, drop, All, sym, ap, subst, ◌∙◌, append_assoc, arith, IsTrue}
use Rattle.std.proofs.lemmas.List.{length-append, get_or_append_left, take-append-drop, take_more, length-take-le}
use Rattle.std.proofs.lemmas.Grind.{flat_map-append}
use Rattle.std.proofs.lemmas.List.Elements.{All-append, All-same, All-head, All-nil, All-cons}
use Rattle.file_table.proofs.BuildingLemmas.{records_of-with_column}
use Rattle.file_table.specs.declared.block.Block.{Block}
use Rattle.file_table.specs.declared.fault.BuildFault.{BuildFault}
use Rattle.file_table.specs.declared.fault.BuildFault.TheVariants.{Range, Repeated, Blocks, Memory}
use Rattle.file_table.specs.declared.info.Info.{Info}
use Rattle.file_table.specs.Table.{Record, Column, records_of, block_count, no_info}
use Rattle.disk_model.specs.declared.meta.Meta.{Meta}
use Rattle.file_table.specs.Valid.{IsWhole, AreInfos, IsInfo}
use Rattle.file_table.specs.Building.{BuildingValue, LacksBlock, Uses, PushesDisk, PushesRecord, last_column, last_record, newest_record, with_column, with_record, with_block, is_block_fault}
use Rattle.file_table.specs.Pushing.{with_more_blocks, with_blocks, with_records, with_columns, TakesBlocks, TakesRecords, TakesThese, TakesColumns, MayStand, AreWhole, LacksBlocks}
use Rattle.file_table.proofs.PushingLemmas.{record_of, takes_blocks, takes_records, disk_takes, with_blocks-more, with_blocks-record, with_records-more, with_records-column, newest-with_record, records_of-with_records, last_record-with_blocks, some_record_of-with_blocks}
use Rattle.file_table.proofs.PrefixLemmas.{All-left, All-right, blocks_front, records_front, columns_front}
use Rattle.file_table.proofs.RefusedLemmas.{block_refused}

-- some of the blocks of a record were pushed, and one more is
module _ (old mid : BuildingValue) (blocks : List Block) (i : ℕ) (block : Block) (takes : TakesBlocks old) (lacks : LacksBlocks old (length blocks)) (may : MayStand old (with_blocks old.columns blocks))
    (within : i < length blocks) (is : block ≡ get_or blocks i block) (so_far : mid ≡ with_columns old (with_blocks old.columns (take i blocks))) where
  still_lacks : LacksBlock mid
  still_lacks =
      let front = take i blocks in
      let columns = with_blocks old.columns front in
      let size = old.shape.block_size in
      let last : last_record (records_of columns) ≡ with_more_blocks (newest_record old.columns) front = last_record-with_blocks old.columns front in
      let count : length ((newest_record old.columns).blocks ++ front) ≡ length (newest_record old.columns).blocks + length front = length-append (newest_record old.columns).blocks front in
      let some : length front ≡ i = length-take-le i blocks (omega arith) in
      let here : LacksBlock (with_columns old columns) = record {
        some = some_record_of-with_blocks old.columns front;
        fewer = subst (λ (r : Record). length r.blocks < block_count size r.meta.size) (sym last) (omega (arith, count, some, lacks, within));
      } in
      subst LacksBlock (sym so_far) here

  one_more : MayStand mid (with_block mid.columns block)
  one_more =
      let front = take i blocks in
      let rest = drop (i + 1) blocks in
      let next : take (i + 1) blocks ≡ front ++ block ∷ [] = take_more blocks i block within ∙ ap (λ (b : Block). front ++ b ∷ []) (sym is) in
      let all : blocks ≡ (front ++ block ∷ []) ++ rest = sym (take-append-drop (i + 1) blocks) ∙ ap (λ (bs : List Block). bs ++ rest) next in
      let whole : MayStand old (with_blocks old.columns ((front ++ block ∷ []) ++ rest)) = subst (λ (bs : List Block). MayStand old (with_blocks old.columns bs)) all may in
      let cut : MayStand old (with_blocks old.columns (front ++ block ∷ [])) = blocks_front old.length old.shape.block_size old.columns (front ++ block ∷ []) rest whole in
      let here : MayStand (with_columns old (with_blocks old.columns front)) (with_block (with_blocks old.columns front) block) =
      subst (MayStand old) (sym (with_blocks-more old.columns front (block ∷ []))) cut in
      subst (λ (b : BuildingValue). MayStand b (with_block b.columns block)) (sym so_far) here

  has_record : 0 < length (last_column mid.columns).records
  has_record = let made : TakesBlocks mid = subst TakesBlocks (sym so_far) (takes_blocks old (take i blocks) takes) in made.some

  pub block_fits : (fault : BuildFault) → (fault ≡ Blocks → ¬ (LacksBlock mid)) → (fault ≡ Range → LacksBlock mid × (mid.length ≤ block.position))
      → (fault ≡ Repeated → LacksBlock mid × (block.position < mid.length) × Uses (last_column mid.columns) block.position)
      → IsTrue (is_block_fault fault) → fault ≡ Memory
  block_fits fault lacking range repeated only = block_refused fault mid block lacking range repeated only still_lacks has_record one_more

-- ---- a record, and its blocks

-- a record was pushed, and lacks its blocks
module _ (old mid : BuildingValue) (path : List ℕ) (meta : Meta) (blocks : List Block) (takes : TakesThese old (record_of path meta blocks ∷ [])) (push : PushesRecord old path meta mid) where
  abbrev pushed : BuildingValue
  pushed = with_columns old (with_record old.columns path meta)

  pub blocks_lack : LacksBlocks mid (length blocks)
  blocks_lack =
      let whole : IsWhole old.shape.block_size (record_of path meta blocks) = All-head (IsWhole old.shape.block_size) (record_of path meta blocks) [] takes.whole in
      let here : LacksBlocks pushed (length blocks) =
      subst (λ (r : Record). length r.blocks + length blocks ≤ block_count old.shape.block_size r.meta.size) (sym (newest-with_record old.columns path meta)) (omega (arith, whole)) in
      subst (λ (b : BuildingValue). LacksBlocks b (length blocks)) (sym push.pushed) here

  pub blocks_may : MayStand mid (with_blocks mid.columns blocks)
  blocks_may =
      let here : MayStand pushed (with_blocks (with_record old.columns path meta) blocks) = subst (MayStand old) (sym (with_blocks-record old.columns path meta blocks)) takes.may in
      subst (λ (b : BuildingValue). MayStand b (with_blocks b.columns blocks)) (sym push.pushed) here

-- ---- records, one after another

one_between : {X : Type 0} (done : List X) (x : X) (later : List X) → done ++ x ∷ later ≡ (done ++ x ∷ []) ++ later
one_between done x later = sym (append_assoc done (x ∷ []) later)

pub takes_next : (old mid : BuildingValue) (done later : List Record) (kept : Record) → TakesThese old (done ++ kept ∷ later) → mid ≡ with_columns old (with_records old.columns done) → TakesThese mid (kept ∷ [])
takes_next old mid done later kept takes so_far =
    let whole = IsWhole old.shape.block_size in
    let all : MayStand old (with_records old.columns ((done ++ kept ∷ []) ++ later)) = subst (λ (rs : List Record). MayStand old (with_records old.columns rs)) (one_between done kept later) takes.may in
    let cut : MayStand old (with_records old.columns (done ++ kept ∷ [])) = records_front old.length old.shape.block_size old.columns (done ++ kept ∷ []) later all in
    let here : TakesThese (with_columns old (with_records old.columns done)) (kept ∷ []) = record {
      takes = takes_records old done takes.takes;
      whole_before = All-same whole _ _ (records_of-with_records old.columns done takes.takes.column) (All-append whole (records_of old.columns) done takes.whole_before (All-left whole done (kept ∷ later) takes.whole));
      whole = All-cons whole kept [] (All-head whole kept later (All-right whole done (kept ∷ later) takes.whole)) (All-nil whole);
      may = subst (MayStand old) (sym (with_records-more old.columns done (kept ∷ []))) cut;
    } in
    subst (λ (b : BuildingValue). TakesThese b (kept ∷ [])) (sym so_far) here

-- ---- columns, one after another

module _ (old mid : BuildingValue) (done later : List Column) (column : Column) (takes : TakesColumns old (done ++ column ∷ later)) (so_far : mid ≡ with_columns old (old.columns ++ done)) where
  pub column_whole : AreWhole mid (records_of mid.columns)
  column_whole =
      let whole = IsWhole old.shape.block_size in
      let parts = flat_map-append (λ (c : Column). c.records) done (column ∷ later) in
      let first : AreWhole old (records_of done) = All-left whole (records_of done) (records_of (column ∷ later)) (subst (AreWhole old) parts takes.whole) in
      let here : AreWhole old (records_of (old.columns ++ done)) = All-same whole _ _ (flat_map-append (λ (c : Column). c.records) old.columns done) (All-append whole (records_of old.columns) (records_of done) takes.whole_before first) in
      subst (λ (b : BuildingValue). AreWhole b (records_of b.columns)) (sym so_far) here

  pub column_may : MayStand mid (mid.columns ++ column ∷ [])
  column_may =
      let same : old.columns ++ (done ++ column ∷ later) ≡ ((old.columns ++ done) ++ column ∷ []) ++ later =
      sym (append_assoc old.columns done (column ∷ later)) ∙ one_between (old.columns ++ done) column later in
      let all : MayStand old (((old.columns ++ done) ++ column ∷ []) ++ later) = subst (MayStand old) same takes.may in
      let here : MayStand old ((old.columns ++ done) ++ column ∷ []) = columns_front old.length old.shape.block_size ((old.columns ++ done) ++ column ∷ []) later all in
      subst (λ (b : BuildingValue). MayStand b (b.columns ++ column ∷ [])) (sym so_far) here

  column_records_whole : AreWhole mid column.records
  column_records_whole =
      let whole = IsWhole old.shape.block_size in
      let parts = flat_map-append (λ (c : Column). c.records) done (column ∷ later) in
      let rest : All (IsWhole old.shape.block_size) (column.records ++ records_of later) = All-right whole (records_of done) (records_of (column ∷ later)) (subst (AreWhole old) parts takes.whole) in
      subst (λ (b : BuildingValue). AreWhole b column.records) (sym so_far) (All-left whole column.records (records_of later) rest)

  -- once its name was pushed, its records may be
  pub records_may : (next : BuildingValue) → PushesDisk mid column.name next → TakesThese next column.records
  records_may next push =
      let none : mid.infos ≡ [] = ap (λ (b : BuildingValue). b.infos) so_far ∙ takes.before_infos in
      let takes_here : TakesRecords (with_columns mid (with_column mid.columns column.name)) = subst TakesRecords push.pushed (disk_takes mid next column.name none push) in
      let here : TakesThese (with_columns mid (with_column mid.columns column.name)) column.records = record {
        takes = takes_here;
        whole_before = subst (AreWhole mid) (sym (records_of-with_column mid.columns column.name)) column_whole;
        whole = column_records_whole;
        may = subst (MayStand mid) (sym (with_records-column mid.columns column.name column.records)) column_may;
      } in
      subst (λ (b : BuildingValue). TakesThese b column.records) (sym push.pushed) here

-- ---- the information on stripes

pub infos_front : (columns : List Column) (infos more : List Info) → AreInfos columns (infos ++ more) → AreInfos columns infos
infos_front columns infos more are = record {
  each = All-left IsInfo infos more are.each;
  hashed = λ stripe within synced. are.hashed stripe (omega (arith, within, length-append infos more)) (ap (λ (i : Info). i.mark) (get_or_append_left infos more no_info stripe within) ∙ synced);
}
