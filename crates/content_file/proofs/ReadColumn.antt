-- A column and the information on stripes that may stand in a table are read again from their spellings, without a flaw.
use Rattle.std.proofs.Common.{◌≡◌, ◌≢◌, ℕ, ◌+◌, ◌^◌, ◌<◌, ◌≤◌, Bool, true, not, ◌||◌, eqb, List, [], ◌∷◌, ◌++◌, length, refl, ap, subst, ◌∙◌, arith, All}
use Rattle.std.specs.Prelude.{Any}
use Rattle.std.specs.List.{flat_map}
use Rattle.std.specs.Int.{w32, w64, to_le_bytes}
use Rattle.std.proofs.lemmas.Bool.Decides.{Decides-and, Decides-not, Decides-eqb}
use Rattle.std.proofs.lemmas.List.{length-append, get_or_at}
use Rattle.std.proofs.lemmas.Grind.{flat_map-append}
use Rattle.file_table.specs.declared.info.Info.{Info}
use Rattle.file_table.specs.declared.info.Mark.{Mark}
use Rattle.file_table.specs.declared.info.Mark.TheVariants.{Pending, Synced}
use Rattle.file_table.specs.Table.{Record, Column, records_of, blocks_due, info_at, no_info}
use Rattle.file_table.specs.Valid.{AreColumns, IsColumn, IsWhole, AreInfos, IsInfo, IsState, IsHashedAt, most_records, most_blocks}
use Rattle.disk_model.specs.Name.{IsName}
use Rattle.content_file.specs.declared.head.Head.{Head}
use Rattle.content_file.specs.Spelling.{short_text, record_bytes, column_bytes, info_bytes, flags}
use Rattle.content_file.specs.Tests.{is_pending, is_hashed}
use Rattle.content_file.specs.Flaw.{Good}
use Rattle.content_file.specs.FirstFlaw.{read_name, read_count, read_record, read_column, read_info}
use Rattle.content_file.proofs.Fields.{wide32, wide64, number_again, short_text_again}
use Rattle.content_file.proofs.Heads.{info_again_of}
use Rattle.content_file.proofs.Columns.{records_of-push}
use Rattle.content_file.proofs.Fronts.{All-left, All-right, AllPairs-last, last_is, columns_front}
use Rattle.content_file.proofs.Apart.{regroup}
use Rattle.content_file.proofs.FlawLemmas.{then_good, found_good, passed_good}
use Rattle.content_file.proofs.TestsLemmas.{leb_Decides, is_name-Decides, is_named-Decides, is_hashed-Decides}
use Rattle.content_file.proofs.TakenRecord.{AreRecords}
use Rattle.content_file.proofs.TakenColumn.{AreColumnsOf}
use Rattle.content_file.proofs.ReadRecord.{ReadsNext, many_read, one_more, records_step}

-- ---- a column

name_reads : (columns : List Column) (name rest : List ℕ) → IsName name → ¬ (Any (λ (column : Column). column.name ≡ name) columns) → read_name columns (short_text name ++ rest) ≡ Good (name, rest)
unfolding read_name
name_reads columns name rest is new =
    then_good _ _ (name, rest) _ (found_good _ _ _ _ (short_text_again name rest))
    (passed_good _ _ _ _ ((Decides-and _ _ (is_name-Decides name) (Decides-not _ (is_named-Decides columns name))).1 (is, new)))

count_reads : (columns : List Column) (count : ℕ) (rest : List ℕ) → length (records_of columns) + count ≤ most_records → read_count columns (to_le_bytes w32 count ++ rest) ≡ Good (count, rest)
unfolding read_count
count_reads columns count rest room =
    let small : count < 2 ^ 32 = omega (arith, room) in
    then_good _ _ (count, rest) _ (found_good _ _ _ _ (number_again w32 (2 ^ 32) wide32 count rest small))
    (passed_good _ _ _ _ ((leb_Decides (length (records_of columns) + count) most_records).1 room))

pub columns_step : (head : Head) → head.length ≤ most_blocks → ReadsNext (read_column head) column_bytes (AreColumnsOf head)
unfolding read_column
columns_step head short before column later rest are =
    let size = head.shape.block_size in
    let all : AreColumns head.length size ((before ++ column ∷ []) ++ later) = subst (λ (cs : List Column). AreColumns head.length size cs) (one_more before column later) are.columns in
    let cut = columns_front head.length size (before ++ column ∷ []) later all in
    let is : IsColumn head.length column = last_is (IsColumn head.length) before column cut.each in
    let new : ¬ (Any (λ (c : Column). c.name ≡ column.name) before) = λ found.
    AllPairs-last (λ (a b : Column). a.name ≢ b.name) before column cut.names found.0 found.1 found.2 (ap (λ (c : Column). c.name) found.3 ∙ found.4) in
    let front = records_of-push before column in
    let room : length (records_of before) + length column.records ≤ most_records = omega (arith, cut.few_records, ap length front, length-append (records_of before) column.records) in
    let parts = flat_map-append (λ (c : Column). c.records) before (column ∷ later) in
    let whole : All (IsWhole size) column.records =
    All-left (IsWhole size) column.records (records_of later) (All-right (IsWhole size) (records_of before) (column.records ++ records_of later) (subst (All (IsWhole size)) parts are.whole)) in
    let records : AreRecords head before column.name column.records = record {
      column = is;
      whole = whole;
      room = subst (λ (rs : List Record). blocks_due size rs ≤ most_blocks) front cut.few_blocks;
    } in
    let rows = flat_map record_bytes column.records in
    let after_count = rows ++ rest in
    let after_name = to_le_bytes w32 (length column.records) ++ after_count in
    ap (read_column head before) (regroup (short_text column.name) (to_le_bytes w32 (length column.records)) rows rest)
    ∙ then_good _ _ (column.name, after_name) _ (name_reads before column.name after_name is.name new)
    (then_good _ _ (length column.records, after_count) _ (count_reads before (length column.records) after_count room)
    (then_good _ _ (column.records, rest) _ (many_read (read_record head before) record_bytes (AreRecords head before column.name) (records_step head before column.name short) column.records [] rest records) refl))

-- ---- the information on stripes

-- the tests of a stripe's fields pass
hash_passes : (mark : Mark) (hashed : Bool) → (mark ≡ Synced → hashed ≡ true) → (is_pending mark || hashed) ≡ true
hash_passes Pending hashed is = refl
hash_passes Synced hashed is = is refl

last_passes : (mark : Mark) (last : ℕ) → (mark ≡ Pending → last ≡ 0) → (not (is_pending mark) || eqb last 0) ≡ true
last_passes Pending last is = (Decides-eqb last 0).1 (is refl)
last_passes Synced last is = refl

pub infos_step : (columns : List Column) → ReadsNext (read_info columns) info_bytes (AreInfos columns)
unfolding read_info
infos_step columns before info later rest are =
    let is : IsInfo info = last_is IsInfo before info (All-left IsInfo (before ++ info ∷ []) later (subst (All IsInfo) (one_more before info later) are.each)) in
    let here : info_at (before ++ info ∷ later) (length before) ≡ info = get_or_at before info later no_info (length before) refl in
    let within : length before < length (before ++ info ∷ later) = omega (arith, length-append before (info ∷ later)) in
    let hashed : info.mark ≡ Synced → IsHashedAt columns (length before) = λ synced. are.hashed (length before) within (ap (λ (i : Info). i.mark) here ∙ synced) in
    let unchecked : Info = record info { last = 0 } in
    let state : IsState unchecked = λ pending. let none = is.state pending in record { last = refl; bad = none.bad; fresh = none.fresh } in
    let after = to_le_bytes w64 info.last ++ rest in
    then_good _ _ (flags info, after) _ (found_good _ _ _ _ refl)
    (then_good _ _ unchecked _ (found_good _ _ _ _ (info_again_of info.mark 0 info.bad info.fresh state))
    (then_good _ _ after _ (passed_good _ _ _ _ (hash_passes info.mark (is_hashed columns (length before)) (λ synced. (is_hashed-Decides columns (length before)).1 (hashed synced))))
    (then_good _ _ (info.last, rest) _ (found_good _ _ _ _ (number_again w64 (2 ^ 64) wide64 info.last rest is.last))
    (passed_good _ _ _ _ (last_passes info.mark info.last (λ pending. (is.state pending).last))))))
