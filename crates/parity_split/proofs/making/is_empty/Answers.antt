use Rattle.std.proofs.Common.{refl, arith}
use Rattle.disk_model.specs.Files.{Stays}
use Rattle.parity_split.proofs.WorksLemmas.{works_start, reads_then, still_within, rose_at}
use Rattle.parity_split.proofs.making.is_empty.Goals as goal

pub loop-part-init : goal.loop-part-init
loop-part-init g c = record { works = works_start Stays _ (λ files. refl); within = c.requires }

pub part_len-requires : goal.part_len-requires
part_len-requires g c = omega (arith, c.loop-part.invariant.within.within)

pub returns-in_err-part_len-clause-works : goal.returns-in_err-part_len-clause-works
returns-in_err-part_len-clause-works g c = reads_then _ _ _ _ _ _ c.loop-part.invariant.works c.in_err-part_len.ensures.call

pub returns-in_err-part_len-clause-cause : goal.returns-in_err-part_len-clause-cause
returns-in_err-part_len-clause-cause g c = rose_at c.from_residual.result Stays _ _ (g.V.Base.view c.part_len.new.self) c.loop-part.invariant.works c.in_err-part_len.ensures.call.called.cause

pub returns-then-branch-gt0-clause-works : goal.returns-then-branch-gt0-clause-works
returns-then-branch-gt0-clause-works g c = reads_then _ _ _ _ _ _ c.loop-part.invariant.works c.in_ok-part_len.ensures.call

pub loop-part-preserved : goal.loop-part-preserved
loop-part-preserved g c =
    let works = reads_then _ _ _ _ _ _ c.loop-part.invariant.works c.in_ok-part_len.ensures.call in
    record { works = works; within = still_within c.args.parts Stays _ _ works c.requires }
