use Rattle.std.proofs.Common.{◌*◌, ◌+◌, arith}
use Rattle.cauchy.specs.Levels.{blocks_of}
use Rattle.cauchy.proofs.LevelsLemmas.{FilledBelow-none, FilledBelow-more, FilledBelow-level}
use Rattle.cauchy.proofs.levels.groups.fill_groups.Goals as goal

pub loop-group-init : goal.loop-group-init
loop-group-init g c = FilledBelow-none g.row.N c.args.size (blocks_of c.args.blocks.now) c.args.out.now c.requires.out

pub loop-group-preserved : goal.loop-group-preserved
loop-group-preserved g c =
    FilledBelow-more (32 * c.loop-group.group) _ (32 * (c.loop-group.group + 1)) g.row.N c.args.size (blocks_of c.args.blocks.now) c.loop-group.out c.put_lanes.new.out
    (λ p hp hs. omega (arith, hp, hs, c.min-width.ensures)) c.loop-group.invariant
    (c.put_lanes.ensures (blocks_of c.args.blocks.now) (c.row_lanes.ensures c.requires.tables))

pub returns : goal.returns
returns g c = λ r h. FilledBelow-level (32 * c.loop-group.group) g.row.N c.args.size (blocks_of c.args.blocks.now) c.loop-group.out r (omega arith) h c.loop-group.invariant
