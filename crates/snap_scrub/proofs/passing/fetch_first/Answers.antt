use Rattle.std.proofs.Common.{◌≡◌, length, take, ap, arith}
use Rattle.std.specs.Prelude.{min}
use Rattle.disk_model.proofs.UntouchedLemmas.{untouched_then}
use Rattle.snap_scrub.proofs.PassingLemmas.{fetched_as, first_fetched, first_ready}
use Rattle.snap_scrub.proofs.passing.fetch_first.Goals as goal

pub returns-clause-fetched : goal.returns-clause-fetched
returns-clause-fetched g c =
    let work = c.args.work.now in
    let count_is : c.min-count.result ≡ min (length work.stripes.items) work.room.near.room = omega (arith, c.min-count.ensures, c.len.ensures, work.stripes.ok.0, c.room.ensures) in
    first_fetched c.args.table.now work c.fetch_beside.new.window c.min-count.result _ _ c.requires.work c.requires.enough count_is
    (fetched_as _ _ _ _ _ _ _ _ _ c.requires.work.room.starts (ap (take c.min-count.result) c.deref.ensures.value) c.fetch_beside.ensures.fetched)

pub returns-clause-ready : goal.returns-clause-ready
returns-clause-ready g c =
    let work = c.args.work.now in
    let count_is : c.min-count.result ≡ min (length work.stripes.items) work.room.near.room = omega (arith, c.min-count.ensures, c.len.ensures, work.stripes.ok.0, c.room.ensures) in
    first_ready c.args.table.now work c.fetch_beside.new.window c.min-count.result _ _ c.requires.work c.requires.enough count_is
    (fetched_as _ _ _ _ _ _ _ _ _ c.requires.work.room.starts (ap (take c.min-count.result) c.deref.ensures.value) c.fetch_beside.ensures.fetched)

pub returns-clause-vault : goal.returns-clause-vault
returns-clause-vault g c = untouched_then _ _ _ c.take_ahead-levels.ensures c.put_ahead.ensures
