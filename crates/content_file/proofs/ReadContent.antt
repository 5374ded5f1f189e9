-- A valid table is read again from its spelling, without a flaw; so no content file has one, and nothing else is without.
use Rattle.std.proofs.Common.{◌≡◌, ℕ, ◌-◌, List, [], ◌++◌, length, take, Some, None, refl, sym, ap, ◌∙◌, arith}
use Rattle.std.specs.List.{flat_map}
use Rattle.std.proofs.lemmas.Bool.Decides.{Decides-eqb}
use Rattle.std.proofs.lemmas.List.{append-nil, length-append, take_at}
use Rattle.std.proofs.lemmas.Slice.Eq.{bytes_eq-Decides}
use Rattle.sha2.specs.Sha256.{sha256}
use Rattle.sha2.proofs.Facts256.{length-sha256}
use Rattle.file_table.specs.Table.{TableValue, blocks_of, positions_of, end_of}
use Rattle.file_table.specs.Valid.{IsValid, AreInfos}
use Rattle.content_file.specs.Spelling.{column_bytes, info_bytes, body, spelling, IsContent}
use Rattle.content_file.specs.Reading.{piece_at}
use Rattle.content_file.specs.Flaw.{Good, damage_of}
use Rattle.content_file.specs.FirstFlaw.{read_head, read_column, read_info, read_end, read_content, first_flaw}
use Rattle.content_file.proofs.Fields.{piece_again}
use Rattle.content_file.proofs.Whole.{head_of_table, is_head, body-parts}
use Rattle.content_file.proofs.FlawLemmas.{then_good, found_good, passed_good}
use Rattle.content_file.proofs.TakenColumn.{AreColumnsOf}
use Rattle.content_file.proofs.ReadHead.{head_reads}
use Rattle.content_file.proofs.ReadRecord.{many_read}
use Rattle.content_file.proofs.ReadColumn.{columns_step, infos_step}

end_reads : (front : List ℕ) → read_end (front ++ sha256 front) (sha256 front) ≡ Good (sha256 front)
unfolding read_end
end_reads front =
    let digest = sha256 front in
    let whole = front ++ digest in
    let long : length front ≡ length whole - length digest = omega (arith, length-append front digest) in
    let same : digest ≡ sha256 (take (length whole - length digest) whole) = ap sha256 (sym (take_at front digest (length whole - length digest) long)) in
    let alone : piece_at 32 digest ≡ Some (digest, []) = ap (piece_at 32) (sym (append-nil digest)) ∙ piece_again 32 digest [] (length-sha256 front) in
    then_good _ _ (digest, []) _ (found_good _ _ _ _ alone)
    (then_good _ _ [] _ (passed_good _ _ _ _ ((bytes_eq-Decides digest (sha256 (take (length whole - length digest) whole))).1 same)) (passed_good _ _ _ _ refl))

pub content_reads : (table : TableValue) → IsValid table → read_content (spelling table) ≡ Good table
unfolding read_content
content_reads table valid =
    let head = head_of_table table in
    let digest = sha256 (body table) in
    let after_columns = flat_map info_bytes table.infos ++ digest in
    let after_head = flat_map column_bytes table.columns ++ after_columns in
    let is_short = valid.short in
    let columns : AreColumnsOf head table.columns = record { columns = valid.columns; whole = valid.whole } in
    then_good _ _ (head, after_head) _ (ap read_head (body-parts table digest) ∙ head_reads head after_head (is_head table valid))
    (then_good _ _ (table.columns, after_columns) _ (many_read (read_column head) column_bytes (AreColumnsOf head) (columns_step head is_short) table.columns [] after_columns columns)
    (then_good _ _ after_columns _ (passed_good _ _ _ _ ((Decides-eqb head.length (end_of (positions_of (blocks_of table.columns)))).1 valid.length_is))
    (then_good _ _ (table.infos, digest) _ (many_read (read_info table.columns) info_bytes (AreInfos table.columns) (infos_step table.columns) table.infos [] digest valid.infos)
    (then_good _ _ digest _ (end_reads (body table)) refl))))

pub none_from_content : (bytes : List ℕ) → IsContent bytes → first_flaw bytes ≡ None
none_from_content bytes content = ap first_flaw content.spelled ∙ ap (damage_of (spelling content.table)) (content_reads content.table content.valid)
