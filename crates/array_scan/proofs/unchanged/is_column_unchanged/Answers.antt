use Rattle.std.proofs.Common.{◌<◌, List, ◌∷◌, [], ◌++◌, length, take, cond, IsTrue, ap, sym, ◌∙◌, arith}
use Rattle.std.proofs.lemmas.List.{append-nil}
use Rattle.disk_model.specs.Tree.{listed}
use Rattle.file_table.specs.Table.{column_at}
use Rattle.array_setup.specs.Setup.{setup_value}
use Rattle.folder_listing.specs.Kept.{ListedFile, kept_files}
use Rattle.array_scan.specs.Own.{own_files}
use Rattle.array_scan.proofs.UnchangedLemmas.{kept_more, own_more}
use Rattle.array_scan.proofs.unchanged.is_column_unchanged.Goals as goal
use Rattle.array_scan.proofs.unchanged.is_column_unchanged.Goals.{then-keeps+else-rec-count+else-not-is_record, else-keeps}

pub loop-file-preserved : goal.loop-file-preserved
loop-file-preserved c =
    let setup = setup_value c.args.setup.now in
    let d = c.args.d in
    let files = c.args.files.now in
    let k = c.loop-file.file-index in
    let file = c.file-item.result in
    let records = (column_at c.args.table.now.columns d).records in
    let rec = c.loop-file.rec in
    let more = kept_more setup d files k file c.keeps.result c.loop-file-test.true c.file-item.is c.keeps.ensures in
    elim c.if-keeps.branch [
      | then-keeps+else-rec-count+else-not-is_record w ↦
          let within : rec < length records = omega (arith, c.loop-file.invariant.within, c.records-count.ensures, w.if-rec-count.false) in
          let known : IsTrue w.is_record.result = w.if-not-is_record.false in
          record {
            within = omega (arith, within, w.rec-is);
            same =
                more ∙ ap (λ t. kept_files setup d (listed (take k files)) ++ cond t ((file.path, file.meta) ∷ []) []) w.if-keeps.true
                ∙ ap (λ (fs : List ListedFile). fs ++ (file.path, file.meta) ∷ []) c.loop-file.invariant.same
                ∙ sym (own_more records rec (file.path, file.meta) within (w.is_record.ensures.path known) (w.is_record.ensures.meta known)) ∙ ap (λ n. take n (own_files records)) (sym w.rec-is);
          }
      | else-keeps w ↦
          record {
            within = omega (arith, c.loop-file.invariant.within, w.rec-is);
            same =
                more ∙ ap (λ t. kept_files setup d (listed (take k files)) ++ cond t ((file.path, file.meta) ∷ []) []) w.if-keeps.false
                ∙ append-nil (kept_files setup d (listed (take k files))) ∙ c.loop-file.invariant.same ∙ ap (λ n. take n (own_files records)) (sym w.rec-is);
          }
    ]
