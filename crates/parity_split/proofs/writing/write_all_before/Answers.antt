use Rattle.std.proofs.Common.{◌+◌, ◌*◌, ◌≡◌, length, refl, sym, subst, arith}
use Rattle.disk_model.specs.Bytes.{Torn}
use Rattle.parity_split.specs.Joined.{joined}
use Rattle.parity_split.specs.Values.{IsPutBelow}
use Rattle.parity_split.specs.Works.{LevelBy, parts_in}
use Rattle.parity_split.proofs.PieceLemmas.{torn_then, same_torn}
use Rattle.parity_split.proofs.ValueLemmas.{put_below_none}
use Rattle.parity_split.proofs.WorksLemmas.{works_start, level_stays, level_works_then, still_within, rose_at}
use Rattle.parity_split.proofs.writing.write_all_before.Goals as goal

pub loop-part-init : goal.loop-part-init
loop-part-init g c =
    let n = length c.args.bytes.now in
    record {
      works = works_start (LevelBy c.args.parts (Torn c.args.at n)) _ (λ files. level_stays c.args.parts (Torn c.args.at n) (λ x. same_torn c.args.at n x x refl) files files refl);
      within = c.requires.end.parts;
      near = c.requires.end.near;
      ready = λ len holds. holds;
      written = λ t. let K = c.args.parts.capacity in let zero : 0 * K ≡ 0 = omega arith in
          let x = joined K (parts_in c.args.parts (g.V.Base.view c.args.base.now).files) in
          subst (λ s. IsPutBelow s c.args.at c.args.bytes.now x x) (sym zero) (put_below_none c.args.at c.args.bytes.now x);
    }

pub loop-part-preserved : goal.loop-part-preserved
loop-part-preserved g c =
    let p = c.args.parts in
    let n = length c.args.bytes.now in
    let part = c.loop-part.part in
    let old = g.V.Base.view c.args.base.now in
    let mid = g.V.Base.view c.loop-part.base in
    let new = g.V.Base.view c.write_before.new.base in
    let works = level_works_then p (Torn c.args.at n) old mid new (torn_then c.args.at n) c.loop-part.invariant.works c.write_before.ensures.works in
    let more : part * p.capacity + p.capacity ≡ (part + 1) * p.capacity = omega arith in
    record {
      works = works;
      within = still_within p (LevelBy p (Torn c.args.at n)) old new works c.requires.end.parts;
      near = c.write_before.ensures.near;
      ready = λ len holds. c.write_before.ensures.ready len (c.loop-part.invariant.ready len holds);
      written = λ t. subst (λ s. IsPutBelow s c.args.at c.args.bytes.now (joined p.capacity (parts_in p old.files)) (joined p.capacity (parts_in p new.files))) more
          (c.in_ok-write_before.ensures.written (joined p.capacity (parts_in p old.files)) c.loop-part.invariant.written t);
    }

pub returns-in_err-write_before-clause-works : goal.returns-in_err-write_before-clause-works
returns-in_err-write_before-clause-works g c =
    let n = length c.args.bytes.now in
    level_works_then c.args.parts (Torn c.args.at n) (g.V.Base.view c.args.base.now) (g.V.Base.view c.loop-part.base) (g.V.Base.view c.write_before.new.base) (torn_then c.args.at n) c.loop-part.invariant.works c.write_before.ensures.works

pub returns-in_err-write_before-clause-cause : goal.returns-in_err-write_before-clause-cause
returns-in_err-write_before-clause-cause g c = rose_at c.from_residual.result (LevelBy c.args.parts (Torn c.args.at (length c.args.bytes.now))) (g.V.Base.view c.args.base.now) (g.V.Base.view c.loop-part.base) (g.V.Base.view c.write_before.new.base) c.loop-part.invariant.works c.in_err-write_before.ensures.cause

pub returns-in_err-write_before-clause-ready : goal.returns-in_err-write_before-clause-ready
returns-in_err-write_before-clause-ready g c = λ len holds. c.write_before.ensures.ready len (c.loop-part.invariant.ready len holds)

pub returns-clause-written : goal.returns-clause-written
returns-clause-written g c = λ t.
    let p = c.args.parts in
    let old = g.V.Base.view c.args.base.now in
    let new = g.V.Base.view c.loop-part.base in
    let done : c.loop-part.part ≡ c.args.end = omega arith in
    subst (λ m. IsPutBelow (m * p.capacity) c.args.at c.args.bytes.now (joined p.capacity (parts_in p old.files)) (joined p.capacity (parts_in p new.files))) done (c.loop-part.invariant.written t)

pub returns-clause-ready : goal.returns-clause-ready
returns-clause-ready g c = λ len holds. c.loop-part.invariant.ready len holds

pub write_before-requires-clause-part : goal.write_before-requires-clause-part
write_before-requires-clause-part g c = record { parts = c.loop-part.invariant.within; before = omega arith; within = c.requires.end.within; near = c.loop-part.invariant.near }
