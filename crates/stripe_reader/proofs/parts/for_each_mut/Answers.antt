use Rattle.std.proofs.Common.{◌+◌, refl, subst}
use Rattle.std.specs.Fork.{ChangesAt}
use Rattle.std.specs.Prelude.{slice_index_or}
use Rattle.stripe_reader.proofs.parts.for_each_mut.Goals as goal

pub returns : goal.returns
returns g c i d lt =
    let f = c.args.f.now in
    let x = slice_index_or c.args.s.now i d in
    let y = slice_index_or c.for_each_chunk_mut.new.s i d in
    let one = (c.for_each_chunk_mut.ensures.by_index i d lt).1 in
    let done = one.call one.offset d one.offset_in_chunk in (
      refl,
      subst (λ k. ChangesAt g.F.Fn f k x y) one.start_plus_offset
          (subst (λ z. ChangesAt g.F.Fn f (one.start + one.offset) z y) one.old_element
          (subst (ChangesAt g.F.Fn f (one.start + one.offset) (slice_index_or one.argument.now one.offset d)) one.new_element done)),
    )
