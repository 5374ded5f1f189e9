use Rattle.std.proofs.Common.{rules}
use Rattle.stripe_examiner.proofs.AheadLemmas.{levels_between}
use Rattle.snap_fix.proofs.checking.turn.Goals as goal

pub returns-clause-examined : goal.returns-clause-examined
returns-clause-examined g c =
    let it = c.join_mut.ensures.1.met.1 in
    let each = it.each in
    let levels = it.levels in
    let asked = it.asked in
    let room = it.room in
    let as_large = it.as_large in
    record {
      stripes = it.stripes;
      numbers_are = it.numbers_are;
      slots = it.slots;
      are = it.are;
      each = search (each, rules);
      levels = levels_between _ it.stripes _ _ _ _ c.take_levels_ahead-levels.ensures c.put_ahead.ensures (search (levels, rules));
      asked = search (asked, rules);
      room = search (room, rules);
      as_large = search (as_large, rules);
    }
