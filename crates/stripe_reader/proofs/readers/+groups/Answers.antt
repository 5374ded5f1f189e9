use Rattle.std.proofs.Common.{◌≡◌, length, arith}
use Rattle.stripe_reader.proofs.GroupLemmas.{both_lanes}
use Rattle.stripe_reader.proofs.readers.+groups.Goals as goal

pub fetch_group-returns-clause-read : goal.fetch_group-returns-clause-read
fetch_group-returns-clause-read g t c =
    let cut = c.split_at_mut-near_folders in
    let both = c.fetch_both.ensures in
    let as_many : length c.fetch_both.new.near_lanes ≡ length cut.result.0.now = omega (arith, both.near.as_many, c.fetch_both.auto.near_folders) in
    both_lanes g.F.Folder.view _ _ _ _ _ _ _ _ _ c.fetch_both.new.near_folders _ c.fetch_both.new.far_folders cut.ensures.value (omega (arith, cut.ensures.front_len)) as_many both.near_read both.far_read
