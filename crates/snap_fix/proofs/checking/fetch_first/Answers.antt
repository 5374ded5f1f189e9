use Rattle.std.proofs.Common.{◌≡◌, length, take, map, ℕ, List, ap, ◌∙◌, subst, arith}
use Rattle.std.specs.Prelude.{min}
use Rattle.disk_model.proofs.UntouchedLemmas.{untouched_then}
use Rattle.stripe_reader.specs.Fetched.{FetchesWindow}
use Rattle.stripe_reader.specs.Held.{HoldsCells}
use Rattle.snap_fix.proofs.checking.fetch_first.Goals as goal

pub returns-clause-cells : goal.returns-clause-cells
returns-clause-cells g c =
    let work = c.args.work.now in
    let count_is : c.min-count.result ≡ min (length work.stripes.items) work.room.window.room = omega (arith, c.min-count.ensures, c.len.ensures, work.stripes.ok.0, c.room.ensures) in
    subst (λ (ns : List ℕ). HoldsCells c.args.table.now ns c.fetch_beside.new.window)
    (ap (take c.min-count.result) c.deref.ensures.value ∙ ap (λ (n : ℕ). take n work.stripes.items) count_is) c.fetch_beside.ensures.cells

pub returns-clause-fetched : goal.returns-clause-fetched
returns-clause-fetched g c =
    let work = c.args.work.now in
    let count_is : c.min-count.result ≡ min (length work.stripes.items) work.room.window.room = omega (arith, c.min-count.ensures, c.len.ensures, work.stripes.ok.0, c.room.ensures) in
    subst (λ (ns : List ℕ). FetchesWindow c.args.table.now work.starts ns work.room.window c.fetch_beside.new.window (map g.F.Folder.view c.args.folders.now) (map g.F.Folder.view c.fetch_beside.new.folders))
    (ap (take c.min-count.result) c.deref.ensures.value ∙ ap (λ (n : ℕ). take n work.stripes.items) count_is) c.fetch_beside.ensures.fetched

pub returns-clause-vault : goal.returns-clause-vault
returns-clause-vault g c = untouched_then _ _ _ c.take_levels_ahead-levels.ensures c.put_ahead.ensures
