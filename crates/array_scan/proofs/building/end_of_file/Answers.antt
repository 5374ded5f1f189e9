use Rattle.std.proofs.Common.{ℕ, ◌<◌, List, max, ap, sym, ◌∙◌, subst, arith}
use Rattle.std.proofs.lemmas.List.{length-map, get_or-map}
use Rattle.file_table.specs.declared.block.Block.{Block}
use Rattle.file_table.specs.Table.{Record, column_at, positions_of, end_of, no_block}
use Rattle.file_table.specs.Valid.{most_blocks}
use Rattle.array_scan.specs.Laying.{bare, bare_block}
use Rattle.array_scan.specs.Marks.{StandBelow}
use Rattle.array_scan.proofs.PlacedLemmas.{positions-bare}
use Rattle.array_scan.proofs.PushingLemmas.{laid_bare}
use Rattle.array_scan.proofs.building.end_of_file.Goals as goal

pub end_of_given-requires : goal.end_of_given-requires
end_of_given-requires c =
    let free = c.args.free.now in
    let laid = laid_bare c.args.old.now.shape.block_size (column_at c.args.old.now.columns c.args.d).records free c.args.file.now (sym c.origin.ensures ∙ c.in-None.is) c.requires.free in
    let below : StandBelow most_blocks (bare free) = subst (λ (r : Record). StandBelow most_blocks r.blocks) laid c.requires.below in
    λ k d within.
    subst (λ (b : Block). b.position < most_blocks) (get_or-map bare_block free k d no_block within) (below k no_block (omega (arith, within, length-map free bare_block)))

pub returns-in-None : goal.returns-in-None
returns-in-None c =
    let free = c.args.free.now in
    let laid = laid_bare c.args.old.now.shape.block_size (column_at c.args.old.now.columns c.args.d).records free c.args.file.now (sym c.origin.ensures ∙ c.in-None.is) c.requires.free in
    c.end_of_given.ensures ∙ ap (λ (ps : List ℕ). max c.args.end (end_of ps)) (sym (positions-bare free)) ∙ ap (λ (r : Record). max c.args.end (end_of (positions_of r.blocks))) (sym laid)
