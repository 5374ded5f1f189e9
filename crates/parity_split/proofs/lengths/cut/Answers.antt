use Rattle.std.proofs.Common.{◌≡◌, ◌+◌, ◌-◌, ◌*◌, ◌<◌, arith}
use Rattle.disk_model.specs.Bytes.{Stretched}
use Rattle.disk_model.proofs.VaultLemmas.{on_ok}
use Rattle.parity_split.specs.Works.{LevelBy}
use Rattle.parity_split.proofs.PieceLemmas.{stretched_then}
use Rattle.parity_split.proofs.WorksLemmas.{level_works_then, still_within, set_len_works, rose_after}
use Rattle.parity_split.proofs.CutLemmas.{ready_to_cut, stretched_keeps, resized_level}
use Rattle.parity_split.proofs.LengthLemmas.{stretch_works, resized_after, found_holds}
use Rattle.parity_split.proofs.lengths.cut.Goals as goal

pub returns-clause-works : goal.returns-clause-works
returns-clause-works g c =
    let p = c.args.parts in
    let old = g.V.Base.view c.args.base.now in
    let mid = g.V.Base.view c.cut_behind.new.base in
    let new = g.V.Base.view c.part_set_len.new.self in
    let last = c.in_ok-last.last in
    let near = c.in_ok-last.ensures.last in
    let s = c.start.ensures in
    let l = c.requires.shorter in
    let below = near.cut.below in
    let from = near.from in
    let m = c.args.len - c.start.result in
    let is : last.part * p.capacity + m ≡ c.args.len = omega arith in
    let some : 0 < last.len = omega arith in
    let room : last.part + 1 < p.count → m < p.capacity = (λ more. let r = near.cut.room more in omega arith) in
    let within = still_within p (LevelBy p (Stretched c.args.len)) old mid c.cut_behind.ensures.works c.requires.at.parts in
    let ready = ready_to_cut p last m mid (g.V.Base.well_formed _) within some room near.held near.near in
    let works = set_len_works p last.part m _ _ mid new near.cut.within c.part_set_len.ensures.call c.part_set_len.ensures.changes c.part_set_len.ensures.drafts in
    level_works_then p (Stretched c.args.len) old mid new (stretched_then c.args.len) c.cut_behind.ensures.works
    (stretch_works p last.part m c.args.len mid new (g.V.Base.well_formed _) within near.cut.within (λ more. let r = room more in omega arith) is ready works)

pub returns-clause-cause : goal.returns-clause-cause
returns-clause-cause g c = rose_after c.part_set_len.result _ (g.V.Base.view c.args.base.now) (g.V.Base.view c.cut_behind.new.base) (g.V.Base.view c.part_set_len.new.self) c.cut_behind.ensures.works c.part_set_len.ensures.call.cause

pub returns-clause-kept : goal.returns-clause-kept
returns-clause-kept g c =
    let p = c.args.parts in
    let old = g.V.Base.view c.args.base.now in
    let mid = g.V.Base.view c.cut_behind.new.base in
    let new = g.V.Base.view c.part_set_len.new.self in
    let last = c.in_ok-last.last in
    let near = c.in_ok-last.ensures.last in
    let s = c.start.ensures in
    let l = c.requires.shorter in
    let below = near.cut.below in
    let from = near.from in
    let m = c.args.len - c.start.result in
    let is : last.part * p.capacity + m ≡ c.args.len = omega arith in
    let some : 0 < last.len = omega arith in
    let room : last.part + 1 < p.count → m < p.capacity = (λ more. let r = near.cut.room more in omega arith) in
    let within = still_within p (LevelBy p (Stretched c.args.len)) old mid c.cut_behind.ensures.works c.requires.at.parts in
    let ready = ready_to_cut p last m mid (g.V.Base.well_formed _) within some room near.held near.near in
    let works = set_len_works p last.part m _ _ mid new near.cut.within c.part_set_len.ensures.call c.part_set_len.ensures.changes c.part_set_len.ensures.drafts in
    stretched_keeps p last.part m mid new (g.V.Base.well_formed _) within near.cut.within ready works

pub returns-clause-written : goal.returns-clause-written
returns-clause-written g c =
    let p = c.args.parts in
    let old = g.V.Base.view c.args.base.now in
    let mid = g.V.Base.view c.cut_behind.new.base in
    let new = g.V.Base.view c.part_set_len.new.self in
    let last = c.in_ok-last.last in
    let near = c.in_ok-last.ensures.last in
    let s = c.start.ensures in
    let l = c.requires.shorter in
    let below = near.cut.below in
    let from = near.from in
    let m = c.args.len - c.start.result in
    let is : last.part * p.capacity + m ≡ c.args.len = omega arith in
    let some : 0 < last.len = omega arith in
    let room : last.part + 1 < p.count → m < p.capacity = (λ more. let r = near.cut.room more in omega arith) in
    let within = still_within p (LevelBy p (Stretched c.args.len)) old mid c.cut_behind.ensures.works c.requires.at.parts in
    let ready = ready_to_cut p last m mid (g.V.Base.well_formed _) within some room near.held near.near in
    let works = set_len_works p last.part m _ _ mid new near.cut.within c.part_set_len.ensures.call c.part_set_len.ensures.changes c.part_set_len.ensures.drafts in
    on_ok c.part_set_len.result
    (λ written. resized_after p c.args.len (last.part * p.capacity + m) old mid new is c.part_set_len.ensures.call.goes_on.tells c.in_ok-last.ensures.same
    (resized_level p last.part m mid new (g.V.Base.well_formed _) within near.cut.within (λ more. let r = room more in omega arith) ready works written))
    c.part_set_len.ensures.written

pub cut_behind-requires-clause-from : goal.cut_behind-requires-clause-from
cut_behind-requires-clause-from g c = record {
  parts = c.requires.at.parts;
  near = c.requires.at.near;
  held = found_holds c.args.parts c.args.end (g.V.Base.view c.args.base.now) c.requires.at.found;
  cut = record { within = c.requires.at.within; below = omega (arith, c.requires.shorter); room = c.requires.room };
}
