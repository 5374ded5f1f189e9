use Rattle.std.proofs.Common.{sym, ap, ◌∙◌}
use Rattle.file_table.specs.declared.info.Info.{Info}
use Rattle.snap_top_restores.proofs.NamedLemmas.{synced_of}
use Rattle.snap_top_restores.proofs.named.is_synced.Goals as goal

pub returns : goal.returns
returns c synced =
    synced_of c.args.table.now _ c.info.result.mark c.length.ensures.count c.if-length-ne1.false (ap (λ (i : Info). i.mark) c.info.ensures) (sym c.is_mark_synced.ensures ∙ synced)
