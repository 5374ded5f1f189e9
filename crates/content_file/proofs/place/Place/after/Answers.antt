use Rattle.std.proofs.Common.{◌+◌, List, ◌++◌, ap, ap₂, sym, ◌∙◌, ℕ}
use Rattle.file_table.specs.Table.{record_at}
use Rattle.content_file.specs.Encoding.{field_of, from, records_from, most_blocks_at_once, most_stripes_at_once}
use Rattle.content_file.specs.Spelling.{block_bytes, info_bytes}
use Rattle.content_file.proofs.EncodingLemmas.{spelled_on}
use Rattle.content_file.proofs.place.Place.after.Goals as goal

pub returns-in-Blocks-clause-rest : goal.returns-in-Blocks-clause-rest
returns-in-Blocks-clause-rest c = λ end.
    let table = c.args.table.now in
    let d = c.in-Blocks.d in
    let i = c.in-Blocks.i in
    let k = c.in-Blocks.k in
    ap (from table end) c.in-Blocks.is ∙ spelled_on block_bytes (record_at table.columns d i).blocks k most_blocks_at_once (records_from table end d (i + 1))
    ∙ ap₂ (λ (a b : List ℕ). a ++ b) (sym (ap (field_of table end) c.in-Blocks.is)) (sym (c.next_blocks.ensures.rest end))

pub returns-in-Stripes-clause-rest : goal.returns-in-Stripes-clause-rest
returns-in-Stripes-clause-rest c = λ end.
    let table = c.args.table.now in
    let s = c.in-Stripes.s in
    ap (from table end) c.in-Stripes.is ∙ spelled_on info_bytes table.infos s most_stripes_at_once end
    ∙ ap₂ (λ (a b : List ℕ). a ++ b) (sym (ap (field_of table end) c.in-Stripes.is)) (sym (c.next_stripes.ensures.rest end))
