use Rattle.std.proofs.Common.{arith}
use Rattle.std.proofs.lemmas.Simd.{length-put_chunk, get_or-put_chunk_at, get_or-put_chunk_below, get_or-put_chunk_above}
use Rattle.cauchy.proofs.lanes.store.Goals as goal

pub returns : goal.returns
returns c =
    let start = c.args.start in
    let out = c.args.out.now in
    let lanes = c.args.lanes in
    record {
      same_length = length-put_chunk start out lanes;
      within = λ k l. get_or-put_chunk_at start out lanes k 0 (omega arith) (omega arith);
      before = λ k l. get_or-put_chunk_below start out lanes k 0 l;
      after = λ k l. get_or-put_chunk_above start out lanes k 0 (omega arith);
    }
