use Rattle.std.proofs.Common.{refl, arith}
use Rattle.disk_model.specs.Files.{Stays}
use Rattle.parity_split.proofs.WorksLemmas.{works_start, still_within, rose_at}
use Rattle.parity_split.proofs.MakingLemmas.{makes_then}
use Rattle.parity_split.proofs.making.make_all.Goals as goal

pub loop-part-init : goal.loop-part-init
loop-part-init g c = record { works = works_start Stays _ (λ files. refl); within = c.requires }

pub part_write-requires-clause-level : goal.part_write-requires-clause-level
part_write-requires-clause-level g c = omega (arith, c.loop-part.invariant.within.within)

pub returns-in_err-part_write-clause-works : goal.returns-in_err-part_write-clause-works
returns-in_err-part_write-clause-works g c = makes_then _ _ _ _ _ _ c.loop-part.invariant.works c.part_write.ensures.call c.part_write.ensures.changes c.part_write.ensures.drafts

pub returns-in_err-part_write-clause-cause : goal.returns-in_err-part_write-clause-cause
returns-in_err-part_write-clause-cause g c = rose_at c.from_residual.result Stays _ _ (g.V.Base.view c.part_write.new.self) c.loop-part.invariant.works c.in_err-part_write.ensures.call.cause

pub loop-part-preserved : goal.loop-part-preserved
loop-part-preserved g c =
    let works = makes_then _ _ _ _ _ _ c.loop-part.invariant.works c.part_write.ensures.call c.part_write.ensures.changes c.part_write.ensures.drafts in
    record { works = works; within = still_within c.args.parts Stays _ _ works c.requires }
