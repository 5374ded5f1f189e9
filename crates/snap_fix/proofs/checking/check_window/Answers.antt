use Rattle.std.proofs.Common.{◌≡◌, ℕ, ◌+◌, ◌-◌, List, length, map, take, drop, ap, subst, ◌∙◌, arith}
use Rattle.std.specs.Prelude.{min}
use Rattle.snap_fix.specs.CheckWindows.{stripes_next}
use Rattle.stripe_reader.specs.Fetched.{FetchesWindow}
use Rattle.snap_fix.proofs.checking.check_window.Goals as goal

pub returns-clause-fetched : goal.returns-clause-fetched
returns-clause-fetched g c =
    let work = c.args.work.now in
    let far = c.args.far.now in
    let next = c.args.done + c.count.result in
    let behind = c.args.done + work.room.window.count in
    let count_is : (next + c.min-more.result) - next ≡ min (length work.stripes.items - behind) far.room =
    omega (arith, c.min-more.ensures, c.len.ensures, c.count.ensures, work.stripes.ok.0, c.room.ensures) in
    let ahead_is : take ((next + c.min-more.result) - next) (drop next c.deref-2.result.now) ≡ stripes_next work far c.args.done =
    ap (λ (ns : List ℕ). take ((next + c.min-more.result) - next) (drop next ns)) c.deref-2.ensures.value
    ∙ ap (λ (n : ℕ). take ((next + c.min-more.result) - next) (drop n work.stripes.items)) (ap (λ (n : ℕ). c.args.done + n) c.count.ensures)
    ∙ ap (λ (n : ℕ). take n (drop behind work.stripes.items)) count_is in
    subst (λ (ns : List ℕ). FetchesWindow c.args.task.now.table.now work.starts ns far c.look_at.new.far (map g.F.Folder.view c.args.folders.now) (map g.F.Folder.view c.look_at.new.folders))
    ahead_is c.look_at.ensures.fetched
