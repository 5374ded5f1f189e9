use Rattle.std.proofs.Common.{arith, ℕ, ◌≡◌, ◌<◌, ◌≤◌, List, [], ◌++◌, ◌∙◌, ap, sym, refl, length}
use Rattle.std.specs.Borrow.{Bor}
use Rattle.block_hash.specs.declared.Kind.TheVariants.{Md5}
use Rattle.block_hash.specs.Hash.{hash}
use Rattle.md5.specs.Md5.{hash_after, md5}
use Rattle.md5_lanes.specs.Lanes.{bytes_of}
use Rattle.md5_lanes.specs.Message.{chunk_count}
use Rattle.md5_lanes.proofs.MessageLemmas.{AllZip_by_index, bytes_is}
use Rattle.md5_lanes.proofs.StageLemmas.{goes_on, made_next, running_next}
use Rattle.md5_lanes.proofs.digest_eight.Goals as goal

pub stages-init : goal.stages-init
unfolding hash_after
stages-init c = record {
  long = refl;
  running = λ i lt more. c.start-s.ensures i lt;
  made = λ i other lt none. absurd (omega (arith, none));
}

pub chunk_count-end-requires : goal.chunk_count-end-requires
chunk_count-end-requires c =
    let none : Bor (List ℕ) = record { ref_ptr = (0, 0); now = [] } in
    let some : 0 < length c.shown-lanes.result = omega (arith, c.shown-lanes.ensures.long) in
    omega (arith, c.least_length-len.ensures.least 0 none some, c.shown-lanes.ensures.short 0 none some)

pub advance_to-s-requires-clause-from : goal.advance_to-s-requires-clause-from
advance_to-s-requires-clause-from c =
    let goes = goes_on c.shown-lanes.result c.stages.k c.least_length-len.result c.shown-lanes.ensures.more c.least_length-len.ensures.greatest in
    omega (arith, goes, c.chunk_count-end.ensures)

pub stages-smaller : goal.stages-smaller
stages-smaller c =
    let goes = goes_on c.shown-lanes.result c.stages.k c.least_length-len.result c.shown-lanes.ensures.more c.least_length-len.ensures.greatest in
    omega (arith, goes, c.chunk_count-end.ensures, c.stages-test.true)

pub stages-preserved : goal.stages-preserved
stages-preserved c =
    let seed = c.args.seed.now in
    let blocks = c.args.blocks.now in
    let lanes = c.shown-lanes.result in
    let k = c.stages.k in
    let end = c.chunk_count-end.result in
    let len = c.least_length-len.result in
    let goes = goes_on lanes k len c.shown-lanes.ensures.more c.least_length-len.ensures.greatest in
    let later : k < end = omega (arith, goes, c.chunk_count-end.ensures) in
    let before = c.stages.s in
    let after = c.advance_to-s.result in
    let own = c.shown-lanes.ensures.own in
    let ran = c.advance_to-s.ensures in
    let so_far = c.stages.invariant in
    record {
      long = c.digests_after-digests.ensures.long;
      running = running_next seed blocks lanes k end before after own ran so_far.running later;
      made = made_next seed blocks lanes k end before after own ran so_far.running later
          len c.stages.digests c.digests_after-digests.result c.chunk_count-end.ensures c.told-seed c.shown-lanes.ensures.long c.least_length-len.ensures.least c.digests_after-digests.ensures.each so_far.made;
    }

pub returns : goal.returns
unfolding hash
returns c =
    let seed = c.args.seed.now in
    let blocks = c.args.blocks.now in
    let so_far = c.stages.invariant in
    AllZip_by_index (λ block digest. digest.0 ≡ hash Md5 seed block.now) blocks c.stages.digests (c.told-blocks ∙ sym so_far.long) (λ i d e h.
    let is = bytes_is blocks i d h in
    let size = ap length is in
    let ended : chunk_count (length (bytes_of blocks i)) ≤ c.stages.k = omega (arith, size, c.longest-longest.ensures.longest i d h, c.chunk_count-count.ensures, c.stages-test.false) in
    so_far.made i e (omega (arith, h, c.told-blocks)) ended ∙ ap (λ b. md5 (seed ++ b)) is)
