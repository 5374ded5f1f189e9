use Rattle.std.proofs.Common.{List, [], ◌∷◌, length, ap, sym, ◌∙◌, subst, Err}
use Rattle.file_table.specs.declared.block.Block.{Block}
use Rattle.file_table.specs.Table.{Record, column_at}
use Rattle.file_table.specs.Pushing.{with_columns, with_records, with_blocks, TakesThese, MayStand, LacksBlocks}
use Rattle.file_table.proofs.FittingLemmas.{blocks_lack, blocks_may}
use Rattle.file_table.proofs.PushingLemmas.{record_of, file_pushed}
use Rattle.file_table.proofs.RefusedLemmas.{record_refused}
use Rattle.array_scan.specs.Fates.{record_of as kept_of}
use Rattle.array_scan.specs.Laying.{bare, laid_record}
use Rattle.array_scan.proofs.MemoryLemmas.{memory_exits, on_ok}
use Rattle.array_scan.proofs.PushingLemmas.{laid_kept, laid_bare}
use Rattle.array_scan.proofs.building.push_file.Goals as goal

pub returns-in_err-push_record-clause-memory : goal.returns-in_err-push_record-clause-memory
returns-in_err-push_record-clause-memory c =
    let old = c.args.builder.now in
    let file = c.args.file in
    let kept : Record = laid_record c.args.old.now.shape.block_size (column_at c.args.old.now.columns c.args.d).records c.args.free.now file in
    let fault = c.in_err-push_record.field-0.0 in
    let refused = c.in_err-push_record.ensures in
    let takes = c.requires.takes in
    memory_exits _ c.from_residual.result fault c.from_residual.ensures.1 (λ why is. is)
    (record_refused fault old file.path file.meta kept.blocks
    (λ e. refused.blocks (ap (λ f. Err f) e)) (λ e. refused.name (ap (λ f. Err f) e)) (λ e. refused.order (ap (λ f. Err f) e)) (λ e. refused.nested (ap (λ f. Err f) e)) (λ e. refused.full (ap (λ f. Err f) e)) refused.only
    takes.takes.column takes.whole_before takes.may)

pub push_kept-requires-clause-lacks : goal.push_kept-requires-clause-lacks
push_kept-requires-clause-lacks c =
    let old = c.args.builder.now in
    let file = c.args.file in
    let records = (column_at c.args.old.now.columns c.args.d).records in
    let laid = laid_kept c.args.old.now.shape.block_size records c.args.free.now file c.in-Some.rec (sym c.origin-kept.ensures ∙ c.in-Some.is) in
    let takes : TakesThese old (record_of file.path file.meta (kept_of records c.in-Some.rec).blocks ∷ []) = subst (λ (r : Record). TakesThese old (r ∷ [])) laid c.requires.takes in
    subst (λ (bs : List Block). LacksBlocks c.push_record.new.self (length bs)) (sym c.blocks-in-Some.ensures)
    (blocks_lack old c.push_record.new.self file.path file.meta (kept_of records c.in-Some.rec).blocks takes c.in_ok-push_record.ensures.ok)

pub push_kept-requires-clause-may : goal.push_kept-requires-clause-may
push_kept-requires-clause-may c =
    let old = c.args.builder.now in
    let file = c.args.file in
    let records = (column_at c.args.old.now.columns c.args.d).records in
    let laid = laid_kept c.args.old.now.shape.block_size records c.args.free.now file c.in-Some.rec (sym c.origin-kept.ensures ∙ c.in-Some.is) in
    let takes : TakesThese old (record_of file.path file.meta (kept_of records c.in-Some.rec).blocks ∷ []) = subst (λ (r : Record). TakesThese old (r ∷ [])) laid c.requires.takes in
    subst (λ (bs : List Block). MayStand c.push_record.new.self (with_blocks c.push_record.new.self.columns bs)) (sym c.blocks-in-Some.ensures)
    (blocks_may old c.push_record.new.self file.path file.meta (kept_of records c.in-Some.rec).blocks takes c.in_ok-push_record.ensures.ok)

pub push_bare-requires-clause-lacks : goal.push_bare-requires-clause-lacks
push_bare-requires-clause-lacks c =
    let old = c.args.builder.now in
    let file = c.args.file in
    let free = c.args.free.now in
    let laid = laid_bare c.args.old.now.shape.block_size (column_at c.args.old.now.columns c.args.d).records free file (sym c.origin-kept.ensures ∙ c.in-None.is) c.requires.free in
    let takes : TakesThese old (record_of file.path file.meta (bare free) ∷ []) = subst (λ (r : Record). TakesThese old (r ∷ [])) laid c.requires.takes in
    subst (LacksBlocks c.push_record.new.self) (Rattle.std.proofs.lemmas.List.length-map free Rattle.array_scan.specs.Laying.bare_block)
    (blocks_lack old c.push_record.new.self file.path file.meta (bare free) takes c.in_ok-push_record.ensures.ok)

pub push_bare-requires-clause-may : goal.push_bare-requires-clause-may
push_bare-requires-clause-may c =
    let old = c.args.builder.now in
    let file = c.args.file in
    let free = c.args.free.now in
    let laid = laid_bare c.args.old.now.shape.block_size (column_at c.args.old.now.columns c.args.d).records free file (sym c.origin-kept.ensures ∙ c.in-None.is) c.requires.free in
    let takes : TakesThese old (record_of file.path file.meta (bare free) ∷ []) = subst (λ (r : Record). TakesThese old (r ∷ [])) laid c.requires.takes in
    blocks_may old c.push_record.new.self file.path file.meta (bare free) takes c.in_ok-push_record.ensures.ok

pub returns-in-Some-clause-pushed : goal.returns-in-Some-clause-pushed
returns-in-Some-clause-pushed c =
    let old = c.args.builder.now in
    let file = c.args.file in
    let records = (column_at c.args.old.now.columns c.args.d).records in
    let laid = laid_kept c.args.old.now.shape.block_size records c.args.free.now file c.in-Some.rec (sym c.origin-kept.ensures ∙ c.in-Some.is) in
    let blocks = c.blocks-in-Some.result.now in
    on_ok _ _ c.push_kept.result (λ pushed.
    file_pushed old c.push_record.new.self c.push_kept.new.builder file.path file.meta blocks c.in_ok-push_record.ensures.ok pushed
    ∙ ap (λ (bs : List Block). with_columns old (with_records old.columns (record_of file.path file.meta bs ∷ []))) c.blocks-in-Some.ensures
    ∙ ap (λ (r : Record). with_columns old (with_records old.columns (r ∷ []))) (sym laid)) c.push_kept.ensures.pushed

pub returns-in-None-clause-pushed : goal.returns-in-None-clause-pushed
returns-in-None-clause-pushed c =
    let old = c.args.builder.now in
    let file = c.args.file in
    let free = c.args.free.now in
    let laid = laid_bare c.args.old.now.shape.block_size (column_at c.args.old.now.columns c.args.d).records free file (sym c.origin-kept.ensures ∙ c.in-None.is) c.requires.free in
    on_ok _ _ c.push_bare.result (λ pushed.
    file_pushed old c.push_record.new.self c.push_bare.new.builder file.path file.meta (bare free) c.in_ok-push_record.ensures.ok pushed
    ∙ ap (λ (r : Record). with_columns old (with_records old.columns (r ∷ []))) (sym laid)) c.push_bare.ensures.pushed
