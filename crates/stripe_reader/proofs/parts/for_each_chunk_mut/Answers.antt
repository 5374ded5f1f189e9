use Rattle.std.proofs.Common.{◌*◌, refl, sym, subst}
use Rattle.std.specs.Fork.{IsChunk}
use Rattle.stripe_reader.proofs.PartLemmas.{in_chunk, is_chunk}
use Rattle.stripe_reader.proofs.parts.for_each_chunk_mut.Goals as goal

pub each_chunk-requires-clause-accepts : goal.each_chunk-requires-clause-accepts
each_chunk-requires-clause-accepts g c κs within n lt p is =
    let size = c.args.size in
    c.requires.accepts (n * size) p (subst (IsChunk c.args.s.now size (n * size)) (sym is) (is_chunk c.args.s.now size n c.requires.size lt))

pub returns-then-not-is_empty-clause-by_index : goal.returns-then-not-is_empty-clause-by_index
returns-then-not-is_empty-clause-by_index g c i d lt =
    (refl, in_chunk g.F.Fn c.args.f.now c.args.size c.args.s.now c.each_chunk.new.s c.requires.size c.each_chunk.ensures i d lt)
