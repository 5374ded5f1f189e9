use Rattle.std.proofs.Common.{◌≡◌, ◌+◌, ◌++◌, ◌∷◌, [], length, arith, ap, add-zero}
use Rattle.std.proofs.lemmas.List.{length_push}
use Rattle.file_table.specs.Table.{Column}
use Rattle.file_table.specs.Disk.{AreCut}
use Rattle.file_table.proofs.DiskLemmas.{AreCut-push, length-records_from}
use Rattle.file_table.proofs.disk.Disk.push_file.Goals as goal

pub invariant_of-self-2 : goal.invariant_of-self-2
invariant_of-self-2 c =
    let files = c.self.inside.files.items in
    let end = length c.self.inside.blocks.items in
    let long = length-records_from c.self.inside.blocks.items files in
    let same = ap (λ (column : Column). length column.records) c.self.view_is in
    let at : c.len-first.result ≡ end = omega arith in
    let more = length_push files (record { path = c.args.path; meta = c.args.meta; first = c.len-first.result; count = 0 }) in
    let cut : AreCut 0 (files ++ record { path = c.args.path; meta = c.args.meta; first = c.len-first.result; count = 0 } ∷ []) (end + 0) =
    AreCut-push 0 files end (record { path = c.args.path; meta = c.args.meta; first = c.len-first.result; count = 0 }) c.self.invariant.cut at in
    record {
      cut = rw (c.in_ok-push.ensures.items, ← add-zero end) cut;
      few_files = rw c.in_ok-push.ensures.items (omega arith);
      few_blocks = c.self.invariant.few_blocks;
    }
