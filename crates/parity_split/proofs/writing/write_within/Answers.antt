use Rattle.std.proofs.Common.{◌+◌, ◌-◌, ◌<◌, ◌≤◌, length, arith}
use Rattle.disk_model.specs.Bytes.{Torn}
use Rattle.disk_model.proofs.VaultLemmas.{on_ok}
use Rattle.parity_split.specs.Joined.{joined}
use Rattle.parity_split.specs.Works.{parts_in}
use Rattle.parity_split.proofs.CutLemmas.{ready_to_cut}
use Rattle.parity_split.proofs.GrowthLemmas.{near_keeps}
use Rattle.parity_split.proofs.LengthLemmas.{found_holds}
use Rattle.parity_split.proofs.PieceLemmas.{torn_then}
use Rattle.parity_split.proofs.WorksLemmas.{level_works_then, still_within, rose_after}
use Rattle.parity_split.proofs.WriteLemmas.{all_before}
use Rattle.parity_split.proofs.writing.write_within.Goals as goal

pub returns-in_err-write_all_before-clause-kept : goal.returns-in_err-write_all_before-clause-kept
returns-in_err-write_all_before-clause-kept g c =
    let p = c.args.parts in
    let new = g.V.Base.view c.write_all_before.new.base in
    near_keeps p c.args.end.part new (g.V.Base.well_formed _) (still_within p _ (g.V.Base.view c.args.base.now) new c.write_all_before.ensures.works c.requires.at.parts) c.write_all_before.ensures.near

pub returns-then-to-start-clause-kept : goal.returns-then-to-start-clause-kept
returns-then-to-start-clause-kept g c =
    let p = c.args.parts in
    let new = g.V.Base.view c.write_all_before.new.base in
    near_keeps p c.args.end.part new (g.V.Base.well_formed _) (still_within p _ (g.V.Base.view c.args.base.now) new c.write_all_before.ensures.works c.requires.at.parts) c.write_all_before.ensures.near

pub returns-then-to-start-clause-written : goal.returns-then-to-start-clause-written
returns-then-to-start-clause-written g c =
    let p = c.args.parts in
    let old = g.V.Base.view c.args.base.now in
    let new = g.V.Base.view c.write_all_before.new.base in
    all_before p c.args.end c.args.at c.args.bytes.now old new (g.V.Base.well_formed _) c.requires.at.parts (omega (arith, c.start-start.ensures, c.if-to-start.true)) c.write_all_before.ensures.works.calls.goes_on.tells c.requires.at.found c.in_ok-write_all_before.ensures.written

pub returns-clause-works : goal.returns-clause-works
returns-clause-works g c =
    let n = length c.args.bytes.now in
    level_works_then c.args.parts (Torn c.args.at n) (g.V.Base.view c.args.base.now) (g.V.Base.view c.write_all_before.new.base) (g.V.Base.view c.write_end.new.base) (torn_then c.args.at n) c.write_all_before.ensures.works c.write_end.ensures.works

pub returns-clause-cause : goal.returns-clause-cause
returns-clause-cause g c = rose_after c.write_end.result _ (g.V.Base.view c.args.base.now) (g.V.Base.view c.write_all_before.new.base) (g.V.Base.view c.write_end.new.base) c.write_all_before.ensures.works c.write_end.ensures.cause

pub returns-clause-written : goal.returns-clause-written
returns-clause-written g c =
    let p = c.args.parts in
    let old = g.V.Base.view c.args.base.now in
    on_ok c.write_end.result (λ written. written (joined p.capacity (parts_in p old.files)) c.in_ok-write_all_before.ensures.written) c.write_end.ensures.written

pub write_all_before-requires-clause-end : goal.write_all_before-requires-clause-end
write_all_before-requires-clause-end g c = record { parts = c.requires.at.parts; within = c.requires.at.within; near = c.requires.at.near }

pub write_end-requires-clause-at : goal.write_end-requires-clause-at
write_end-requires-clause-at g c =
    let p = c.args.parts in
    let old = g.V.Base.view c.args.base.now in
    let len = c.args.at + length c.args.bytes.now - c.start-start.result in
    let low : len ≤ c.args.end.len = omega (arith, c.start-start.ensures, c.if-to-start.false, c.requires.inside) in
    let some : 0 < len = omega (arith, c.if-to-start.false) in
    record {
      parts = still_within c.args.parts _ (g.V.Base.view c.args.base.now) (g.V.Base.view c.write_all_before.new.base) c.write_all_before.ensures.works c.requires.at.parts;
      place = record {
        within = c.requires.at.within;
        is = omega (arith, c.start-start.ensures, c.if-to-start.false, c.requires.inside);
        room = λ more. let l = c.requires.last more in omega (arith, c.start-start.ensures, c.if-to-start.false, c.requires.inside);
      };
      ready = c.write_all_before.ensures.ready len
          (ready_to_cut p c.args.end len old (g.V.Base.well_formed _) c.requires.at.parts (omega arith) (λ more. let l = c.requires.last more in omega arith) (found_holds p c.args.end old c.requires.at.found) c.requires.at.near);
    }
