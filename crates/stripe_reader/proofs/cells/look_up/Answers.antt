use Rattle.std.proofs.Common.{◌≡◌, ◌<◌, ◌≤◌, [], length, get_or, ◌∙◌, arith}
use Rattle.std.proofs.lemmas.List.{length-set}
use Rattle.std.proofs.lemmas.List.Elements.{All-get_or, All-set}
use Rattle.stripe_reader.specs.WindowValue.{IsCellLane}
use Rattle.stripe_reader.proofs.LookedUpLemmas.{column_more}
use Rattle.stripe_reader.proofs.cells.look_up.Goals as goal

pub look_up-requires-clause-room : goal.look_up-requires-clause-room
look_up-requires-clause-room c =
    let so_far = c.loop-d.invariant in
    let there : c.loop-d.d < length c.loop-d.cells = omega (arith, so_far.room.as_many, c.disks-d-end.ensures.count) in
    let long : length (get_or c.loop-d.cells c.loop-d.d c.index-cells-d.result) ≡ c.args.room = All-get_or (IsCellLane c.args.room) c.loop-d.cells c.loop-d.d c.index-cells-d.result there so_far.room.each in
    omega (arith, long, c.requires.enough)

pub loop-d-preserved : goal.loop-d-preserved
loop-d-preserved c =
    let so_far = c.loop-d.invariant in
    let d = c.loop-d.d in
    let column = c.look_up.new.self in
    let there : d < length c.loop-d.cells = omega (arith, so_far.room.as_many, c.disks-d-end.ensures.count) in
    let long : length (get_or c.loop-d.cells d c.index-cells-d.result) ≡ c.args.room = All-get_or (IsCellLane c.args.room) c.loop-d.cells d c.index-cells-d.result there so_far.room.each in
    record {
      room = record {
        as_many = length-set c.loop-d.cells d column ∙ so_far.room.as_many;
        each = All-set (IsCellLane c.args.room) c.loop-d.cells d column (c.look_up.ensures.room ∙ long) so_far.room.each;
      };
      each = column_more c.args.table.now c.args.stripes.now c.loop-d.cells d column there c.look_up.ensures.cells so_far.each;
    }

pub returns-clause-cells : goal.returns-clause-cells
returns-clause-cells c =
    let now = c.loop-d.invariant in
    let all : length c.args.table.now.columns ≤ c.loop-d.d = omega (arith, c.disks-d-end.ensures.count) in
    record {
      as_many = now.room.as_many;
      enough = λ d lt.
          let there : d < length c.loop-d.cells = omega (arith, lt, now.room.as_many) in
          let long : length (get_or c.loop-d.cells d []) ≡ c.args.room = All-get_or (IsCellLane c.args.room) c.loop-d.cells d [] there now.room.each in
          omega (arith, long, c.requires.enough);
      each = λ d lt. now.each d (omega (arith, lt, all));
    }
