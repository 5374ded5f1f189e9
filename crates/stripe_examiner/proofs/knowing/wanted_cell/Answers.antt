use Rattle.std.proofs.Common.{sym, ◌∙◌}
use Rattle.stripe_examiner.proofs.KnowLemmas.{hash_missing}
use Rattle.stripe_examiner.proofs.knowing.wanted_cell.Goals as goal

pub unreachable-requires-in_default-cell_hash : goal.unreachable-requires-in_default-cell_hash
unreachable-requires-in_default-cell_hash c =
    let cell = c.in-Some.cell in
    hash_missing c.args.table.now c.args.stripe c.args.d cell.rec cell.index c.requires.valid c.requires.within c.requires.column c.requires.synced
    c.in-Some.ensures.found (sym c.cell_hash.ensures ∙ c.in_default-cell_hash.is)
