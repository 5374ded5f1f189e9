-- Each call of the builder keeps what is pushed well formed, and counted.
use Rattle.std.proofs.Common.{◌≡◌, ◌≢◌, ◌⊎◌, inl, inr, ℕ, ◌+◌, ◌-◌, ◌<◌, ◌≤◌, max, List, [], ◌∷◌, ◌++◌, length, take, refl, sym, ap, ◌∙◌, subst, arith, Bool, true, false, is_some}
use Rattle.std.specs.List.{All}
use Rattle.std.proofs.lemmas.List.{length_push, get_or_push, get_or_append_left}
use Rattle.std.proofs.lemmas.List.Elements.{All-nil, All-push}
use Rattle.std.proofs.Math.Nat.{zero-div, zero-mod}
use Rattle.std.proofs.lemmas.Bool.{cases_lt}
use Rattle.disk_model.specs.Path.{IsRecordPath}
use Rattle.disk_model.specs.declared.meta.Meta.{Meta}
use Rattle.file_table.specs.declared.shape.Shape.{Shape}
use Rattle.file_table.specs.declared.block.Block.{Block}
use Rattle.file_table.specs.declared.info.Info.{Info}
use Rattle.file_table.specs.declared.info.Mark.TheVariants.{Synced}
use Rattle.file_table.specs.Table.{Record, Column, block_count, records_of, blocks_of, positions_of, blocks_due, end_of, info_at, no_info}
use Rattle.file_table.specs.Valid.{IsShape, IsMeta, HasDigest, IsColumn, AreColumns, AreInfos, IsInfo, IsHashedAt, IsWhole, IsValid, most_records, most_blocks}
use Rattle.file_table.specs.Building.{BuildingValue, IsNewName, IsGreatest, IsNested, HasRoom, Uses, last_column, last_record, with_column, with_record, with_block, records_with_block, new_building}
use Rattle.file_table.specs.Counted.{IsCounted}
use Rattle.file_table.proofs.BuildingLemmas.{records_of-with_column, blocks_of-with_column, records_of-with_record, blocks_of-with_record, records_of-with_block, blocks_of-with_block, records_of-last}
use Rattle.file_table.proofs.ColumnLemmas.{AreColumns-column, AreColumns-last, IsColumn-record, IsColumn-block}
use Rattle.file_table.proofs.CountLemmas.{Lacks, front_records, all_whole, front-record, lacks-record, front-block, lacks-block, blocks_due-push, blocks_due-block, length-with_block, end_of-with_block, length-blocks_of}
use Rattle.file_table.proofs.MarkLemmas.{AreUsers-column, AreUsers-record, AreUsers-block, AreLacking-same, AreLacking-block}

-- no information is there, whatever the columns
no_infos : (columns : List Column) (infos : List Info) → infos ≡ [] → AreInfos columns infos
no_infos columns infos none = subst (AreInfos columns) (sym none) (record { each = All-nil IsInfo; hashed = λ stripe below is. absurd (omega arith) })

-- a column more
pub counted-column : (old : BuildingValue) (used : ℕ → ℕ) (unhashed : ℕ → Bool) (records due end : ℕ) (name : List ℕ) → old.infos ≡ [] → IsNewName old.columns name
    → IsCounted old used unhashed records due 0 end → IsCounted (record old { columns = with_column old.columns name }) used unhashed records due 0 end
counted-column old used unhashed records due end name none new is =
    let bs : ℕ = old.shape.block_size in
    let rs : records_of (with_column old.columns name) ≡ records_of old.columns = records_of-with_column old.columns name in
    let blocks : blocks_of (with_column old.columns name) ≡ blocks_of old.columns = blocks_of-with_column old.columns name in
    record {
      building = record {
        shape = is.building.shape;
        short = is.building.short;
        columns = AreColumns-column old.length bs old.columns name is.building.columns new;
        earlier_whole = subst (λ (l : List Record). All (IsWhole bs) (front_records l)) (sym rs) is.building.earlier_whole;
        last_within = subst (λ (l : List Record). length (last_record l).blocks ≤ block_count bs (last_record l).meta.size) (sym rs) is.building.last_within;
        few_infos = is.building.few_infos;
        infos = no_infos (with_column old.columns name) old.infos none;
      };
      users = AreUsers-column old.columns old.length used name is.users;
      hashes = AreLacking-same old.columns (with_column old.columns name) old.length unhashed blocks is.hashes;
      record_count = is.record_count ∙ ap length (sym rs);
      due_count = is.due_count ∙ ap (blocks_due bs) (sym rs);
      last_lacks = subst (Lacks bs 0) (sym rs) is.last_lacks;
      end_is = is.end_is ∙ ap (λ (l : List Block). end_of (positions_of l)) (sym blocks);
    }

-- a record more, without blocks
pub counted-record : (old : BuildingValue) (used : ℕ → ℕ) (unhashed : ℕ → Bool) (records due end : ℕ) (path : List ℕ) (meta : Meta) → old.infos ≡ [] → 0 < length old.columns
    → IsRecordPath path → IsMeta meta → IsGreatest (last_column old.columns) path → ¬ (IsNested (last_column old.columns) path) → HasRoom old meta.size
    → IsCounted old used unhashed records due 0 end
    → IsCounted (record old { columns = with_record old.columns path meta }) used unhashed (records + 1) (due + block_count old.shape.block_size meta.size) (block_count old.shape.block_size meta.size) end
counted-record old used unhashed records due end path meta none some path_is meta_is greatest not_nested room is =
    let bs : ℕ = old.shape.block_size in
    let kept : Record = record { path = path; meta = meta; blocks = [] } in
    let rs : records_of (with_record old.columns path meta) ≡ records_of old.columns ++ kept ∷ [] = records_of-with_record old.columns path meta some in
    let blocks : blocks_of (with_record old.columns path meta) ≡ blocks_of old.columns = blocks_of-with_record old.columns path meta some in
    let whole : All (IsWhole bs) (records_of old.columns) = all_whole bs (records_of old.columns) is.building.earlier_whole is.last_lacks in
    let longer : length (records_of old.columns ++ kept ∷ []) ≡ length (records_of old.columns) + 1 = length_push (records_of old.columns) kept in
    let more_due : blocks_due bs (records_of old.columns ++ kept ∷ []) ≡ blocks_due bs (records_of old.columns) + block_count bs meta.size = blocks_due-push bs (records_of old.columns) kept in
    let few_records : length (records_of (with_record old.columns path meta)) ≤ most_records = subst (λ (l : List Record). length l ≤ most_records) (sym rs) (omega (arith, longer, room.records)) in
    let few_blocks : blocks_due bs (records_of (with_record old.columns path meta)) ≤ most_blocks = subst (λ (l : List Record). blocks_due bs l ≤ most_blocks) (sym rs) (omega (arith, more_due, room.blocks)) in
    let column : IsColumn old.length (last_column old.columns) = is.building.columns.each (length old.columns - 1) _ (omega arith) in
    let lacks : Lacks bs (block_count bs meta.size) (records_of old.columns ++ kept ∷ []) = lacks-record bs (records_of old.columns) kept refl in
    record {
      building = record {
        shape = is.building.shape;
        short = is.building.short;
        columns = AreColumns-last old.length bs old.columns _ some is.building.columns
            (IsColumn-record old.length (last_column old.columns) kept column (record { path = path_is; meta = meta_is; digests = All-nil HasDigest }) refl greatest not_nested)
            refl few_records few_blocks;
        earlier_whole = subst (λ (l : List Record). All (IsWhole bs) (front_records l)) (sym rs) (front-record bs (records_of old.columns) kept whole);
        last_within = subst (λ (l : List Record). length (last_record l).blocks ≤ block_count bs (last_record l).meta.size) (sym rs) (omega (arith, lacks));
        few_infos = is.building.few_infos;
        infos = no_infos (with_record old.columns path meta) old.infos none;
      };
      users = AreUsers-record old.columns old.length used path meta some is.users;
      hashes = AreLacking-same old.columns (with_record old.columns path meta) old.length unhashed blocks is.hashes;
      record_count = ap (λ (n : ℕ). n + 1) is.record_count ∙ sym longer ∙ ap length (sym rs);
      due_count = ap (λ (n : ℕ). n + block_count bs meta.size) is.due_count ∙ sym more_due ∙ ap (blocks_due bs) (sym rs);
      last_lacks = subst (Lacks bs (block_count bs meta.size)) (sym rs) lacks;
      end_is = is.end_is ∙ ap (λ (l : List Block). end_of (positions_of l)) (sym blocks);
    }

-- a block more of the last record
pub counted-block : (old : BuildingValue) (used new_used : ℕ → ℕ) (unhashed new_unhashed : ℕ → Bool) (records due lacking end : ℕ) (block : Block) (lacks : Bool) → old.infos ≡ [] → 0 < length (last_column old.columns).records
    → HasDigest block → 0 < lacking → block.position < old.length → ¬ (Uses (last_column old.columns) block.position)
    → (lacks ≡ true → (unhashed block.position ≡ true) ⊎ (is_some block.hash ≡ false))
    → (lacks ≡ false → (unhashed block.position ≡ false) × (is_some block.hash ≡ true))
    → new_used block.position ≡ length old.columns → ((position : ℕ) → position ≢ block.position → new_used position ≡ used position)
    → new_unhashed block.position ≡ lacks → ((position : ℕ) → position ≢ block.position → new_unhashed position ≡ unhashed position)
    → IsCounted old used unhashed records due lacking end
    → IsCounted (record old { columns = with_block old.columns block }) new_used new_unhashed records due (lacking - 1) (max end (block.position + 1))
counted-block old used new_used unhashed new_unhashed records due lacking end block lacks none has digest more below unused when unless user_here other_users lacks_here other_lacks is =
    let bs : ℕ = old.shape.block_size in
    let some : 0 < length old.columns = columns_there old.columns has in
    let rs : records_of (with_block old.columns block) ≡ records_with_block (records_of old.columns) block = records_of-with_block old.columns block some has in
    let blocks : blocks_of (with_block old.columns block) ≡ blocks_of old.columns ++ block ∷ [] = blocks_of-with_block old.columns block some has in
    let any : 0 < length (records_of old.columns) = records_there old.columns some has in
    let same_long : length (records_with_block (records_of old.columns) block) ≡ length (records_of old.columns) = length-with_block (records_of old.columns) block any in
    let same_due : blocks_due bs (records_with_block (records_of old.columns) block) ≡ blocks_due bs (records_of old.columns) = blocks_due-block bs (records_of old.columns) block any in
    let few_records : length (records_of (with_block old.columns block)) ≤ most_records = subst (λ (n : ℕ). n ≤ most_records) (sym (ap length rs ∙ same_long)) is.building.columns.few_records in
    let few_blocks : blocks_due bs (records_of (with_block old.columns block)) ≤ most_blocks = subst (λ (n : ℕ). n ≤ most_blocks) (sym (ap (blocks_due bs) rs ∙ same_due)) is.building.columns.few_blocks in
    let column : IsColumn old.length (last_column old.columns) = is.building.columns.each (length old.columns - 1) _ (omega arith) in
    let left : Lacks bs (lacking - 1) (records_with_block (records_of old.columns) block) = lacks-block bs lacking (records_of old.columns) block more is.last_lacks in
    record {
      building = record {
        shape = is.building.shape;
        short = is.building.short;
        columns = AreColumns-last old.length bs old.columns _ some is.building.columns (IsColumn-block old.length (last_column old.columns) block has column digest below unused) refl few_records few_blocks;
        earlier_whole = subst (λ (l : List Record). All (IsWhole bs) (front_records l)) (sym rs) (front-block bs (records_of old.columns) block is.building.earlier_whole);
        last_within = subst (λ (l : List Record). length (last_record l).blocks ≤ block_count bs (last_record l).meta.size) (sym rs) (omega (arith, left));
        few_infos = is.building.few_infos;
        infos = no_infos (with_block old.columns block) old.infos none;
      };
      users = AreUsers-block old.columns old.length used new_used block some has below user_here other_users is.users;
      hashes = AreLacking-block old.columns (with_block old.columns block) old.length unhashed new_unhashed block lacks blocks below when unless lacks_here other_lacks is.hashes;
      record_count = is.record_count ∙ sym same_long ∙ ap length (sym rs);
      due_count = is.due_count ∙ sym same_due ∙ ap (blocks_due bs) (sym rs);
      last_lacks = subst (Lacks bs (lacking - 1)) (sym rs) left;
      end_is = ap (λ (n : ℕ). max n (block.position + 1)) is.end_is ∙ sym (end_of-with_block (blocks_of old.columns) block) ∙ ap (λ (l : List Block). end_of (positions_of l)) (sym blocks);
    }
  where
    columns_there : (columns : List Column) → 0 < length (last_column columns).records → 0 < length columns
    columns_there [] held = absurd (omega (arith, held))
    columns_there (c ∷ cs) held = omega arith

    records_there : (columns : List Column) → 0 < length columns → 0 < length (last_column columns).records → 0 < length (records_of columns)
    records_there columns first held = subst (λ (l : List Record). 0 < length l) (sym (records_of-last columns first held)) (omega (arith, length_push (records_of (take (length columns - 1) columns) ++ take (length (last_column columns).records - 1) (last_column columns).records) (last_record (last_column columns).records)))

-- an information more
pub counted-info : (old : BuildingValue) (used : ℕ → ℕ) (unhashed : ℕ → Bool) (records due lacking end : ℕ) (info : Info) → length old.infos < old.length → IsInfo info
    → (info.mark ≡ Synced → IsHashedAt old.columns (length old.infos))
    → IsCounted old used unhashed records due lacking end → IsCounted (record old { infos = old.infos ++ info ∷ [] }) used unhashed records due lacking end
counted-info old used unhashed records due lacking end info room info_is hashed is =
    let longer : length (old.infos ++ info ∷ []) ≡ length old.infos + 1 = length_push old.infos info in
    let each : (stripe : ℕ) → stripe < length (old.infos ++ info ∷ []) → (info_at (old.infos ++ info ∷ []) stripe).mark ≡ Synced → IsHashedAt old.columns stripe =
    λ stripe below synced. elim (cases_lt stripe (length old.infos)) [
      | inl earlier ↦ is.building.infos.hashed stripe earlier (ap (λ (i : Info). i.mark) (sym (get_or_append_left old.infos (info ∷ []) no_info stripe earlier)) ∙ synced)
      | inr last ↦
          let here : length old.infos ≡ stripe = omega arith in
          subst (IsHashedAt old.columns) here (hashed (ap (λ (i : Info). i.mark) (sym (get_or_push old.infos info no_info stripe here)) ∙ synced))
    ] in
    record {
      building = record {
        shape = is.building.shape;
        short = is.building.short;
        columns = is.building.columns;
        earlier_whole = is.building.earlier_whole;
        last_within = is.building.last_within;
        few_infos = omega arith;
        infos = record { each = All-push IsInfo old.infos info is.building.infos.each info_is; hashed = each };
      };
      users = is.users;
      hashes = is.hashes;
      record_count = is.record_count;
      due_count = is.due_count;
      last_lacks = is.last_lacks;
      end_is = is.end_is;
    }

-- what is counted of each stripe, told otherwise
pub counted-same : (built : BuildingValue) (used more : ℕ → ℕ) (unhashed others : ℕ → Bool) (records due lacking end : ℕ)
    → ((position : ℕ) → more position ≡ used position) → ((position : ℕ) → others position ≡ unhashed position)
    → IsCounted built used unhashed records due lacking end → IsCounted built more others records due lacking end
counted-same built used more unhashed others records due lacking end same_users same_lacks is = record {
  building = is.building;
  users = record {
    within = λ position. omega (arith, same_users position, is.users.within position);
    here = λ position some at. is.users.here position some (sym (same_users position) ∙ at);
    nowhere_else = λ position some below uses. same_users position ∙ is.users.nowhere_else position some below uses;
  };
  hashes = record {
    lacks = λ stripe at. is.hashes.lacks stripe (sym (same_lacks stripe) ∙ at);
    has = λ stripe below at. is.hashes.has stripe below (sym (same_lacks stripe) ∙ at);
  };
  record_count = is.record_count;
  due_count = is.due_count;
  last_lacks = is.last_lacks;
  end_is = is.end_is;
}

-- nothing is there yet
pub counted-start : (shape : Shape) (the_length : ℕ) (used : ℕ → ℕ) (unhashed : ℕ → Bool) → IsShape shape → the_length ≤ most_blocks
    → ((position : ℕ) → used position ≡ 0) → ((position : ℕ) → unhashed position ≡ false) → IsCounted (new_building shape the_length) used unhashed 0 0 0 0
counted-start shape the_length used unhashed shape_is short unused none_lack = record {
  building = record {
    shape = shape_is;
    short = short;
    columns = record { few = omega arith; each = All-nil (IsColumn the_length); names = λ i j d less within. absurd (omega arith); few_records = omega arith; few_blocks = omega arith };
    earlier_whole = All-nil (IsWhole shape.block_size);
    last_within = omega arith;
    few_infos = omega arith;
    infos = no_infos [] [] refl;
  };
  users = record {
    within = λ position. omega (arith, unused position);
    here = λ position some is. absurd (omega arith);
    nowhere_else = λ position some below uses. absurd (omega arith);
  };
  hashes = record {
    lacks = λ stripe is. absurd (differ (unhashed stripe) (none_lack stripe) is);
    has = λ stripe below is k d within. absurd (omega arith);
  };
  record_count = refl;
  due_count = refl;
  last_lacks = sym (no_blocks shape.block_size (omega (arith, shape_is.block_size.least)));
  end_is = refl;
}
  where
    differ : (b : Bool) → b ≡ false → b ≡ true → ⊥
    differ b off on = cc

    no_blocks : (block_size : ℕ) → 0 < block_size → block_count block_size 0 ≡ 0
    no_blocks block_size positive = rw (zero-div block_size, zero-mod block_size) refl

-- a table of all that was pushed is valid, and its blocks are as many as were due
pub finished : (old : BuildingValue) (used : ℕ → ℕ) (unhashed : ℕ → Bool) (records due end : ℕ) → IsCounted old used unhashed records due 0 end → 0 < length old.columns → length old.infos ≡ old.length → old.length ≡ end
    → IsValid (record { shape = old.shape; columns = old.columns; infos = old.infos }) × (due ≡ length (blocks_of old.columns))
finished old used unhashed records due end is some all at_end =
    let bs : ℕ = old.shape.block_size in
    let whole : All (IsWhole bs) (records_of old.columns) = all_whole bs (records_of old.columns) is.building.earlier_whole is.last_lacks in (
      record {
        shape = is.building.shape;
        some_column = omega arith;
        columns = subst (λ (n : ℕ). AreColumns n bs old.columns) (sym all) is.building.columns;
        whole = whole;
        short = subst (λ (n : ℕ). n ≤ most_blocks) (sym all) is.building.short;
        length_is = all ∙ at_end ∙ is.end_is;
        infos = is.building.infos;
      },
      is.due_count ∙ sym (length-blocks_of bs old.columns whole),
    )
