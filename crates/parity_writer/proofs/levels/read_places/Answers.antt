use Rattle.std.proofs.Common.{◌<◌, length, subst, arith}
use Rattle.parity_writer.specs.LevelReading.{ReadsLevel}
use Rattle.parity_writer.proofs.LevelReadingLemmas.{levels_start, levels_more, sizes_more}
use Rattle.parity_writer.proofs.levels.read_places.Goals as goal

pub loop-level-init : goal.loop-level-init
loop-level-init g c = record { end = c.levels-level-end.ensures; size = c.requires.size; read = levels_start c.args.block_size c.args.stripe c.args.places.now (g.V.Vault.view c.args.vault.now) }

pub loop-level-preserved : goal.loop-level-preserved
loop-level-preserved g c =
    let so_far = c.loop-level.invariant in
    let level = c.loop-level.level in
    let places = c.loop-level.places in
    let value = c.read_level.new.place in
    let old = g.V.Vault.view c.args.vault.now in
    let mid = g.V.Vault.view c.loop-level.vault in
    let new = g.V.Vault.view c.read_level.new.vault in
    let within : level < length places = omega (arith, c.loop-level-test.true, so_far.end, c.requires.room, c.loop-level.auto.places) in
    let one : ReadsLevel c.args.block_size c.args.stripe level value mid new = subst (λ n. ReadsLevel n c.args.stripe level value mid new) (so_far.size level c.index-places-level.result within) c.read_level.ensures in
    record {
      end = so_far.end;
      size = sizes_more c.args.block_size c.args.stripe level places value mid new so_far.size one;
      read = levels_more c.args.block_size c.args.stripe level places value old mid new within so_far.read one;
    }
