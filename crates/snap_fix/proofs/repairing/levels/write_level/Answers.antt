use Rattle.std.proofs.Common.{ℕ, ◌*◌, ap₂, ap, ◌∙◌}
use Rattle.cauchy.specs.Matrix.{parity_of as level_of}
use Rattle.parity_writer.specs.WindowRow.{row_at}
use Rattle.file_restorer.proofs.GoesOnLemmas.{handed_on}
use Rattle.snap_fix.proofs.MendedLevelLemmas.{level_not_written, level_written}
use Rattle.snap_fix.proofs.repairing.levels.write_level.Goals as goal

pub returns-clause-written : goal.returns-clause-written
returns-clause-written g c =
    level_written _ _ _ _ c.args.one.now.window.now.block_size c.args.one.now.stripe c.args.r _ (row_at c.args.one.now.window.now c.args.one.now.slot) c.sum_row.new.out _ _
    (ap₂ (λ (m n : ℕ). m * n) c.from.ensures c.requires.block) (c.sum_row.auto.out ∙ c.requires.block)
    (c.sum_row.ensures ∙ ap (λ (n : ℕ). level_of c.args.r n (row_at c.args.one.now.window.now c.args.one.now.slot)) c.requires.block)
    c.in_ok-parity_write.ensures.call.goes_on c.in_ok-parity_write.ensures.written c.parity_write.ensures.changes c.parity_write.ensures.drafts c.tell.ensures

pub returns-in_err-parity_write-clause-failed : goal.returns-in_err-parity_write-clause-failed
returns-in_err-parity_write-clause-failed g c =
    handed_on c.from_residual.result _ c.in_err-parity_write.field-0.0 c.from_residual.ensures.1
    (level_not_written _ _ _ _ c.args.one.now.window.now.block_size c.args.one.now.stripe c.args.r _ (row_at c.args.one.now.window.now c.args.one.now.slot) c.sum_row.new.out _ _ _ _
    (ap₂ (λ (m n : ℕ). m * n) c.from.ensures c.requires.block) (c.sum_row.auto.out ∙ c.requires.block)
    (c.sum_row.ensures ∙ ap (λ (n : ℕ). level_of c.args.r n (row_at c.args.one.now.window.now c.args.one.now.slot)) c.requires.block)
    c.in_err-parity_write.ensures.call.cause c.in_err-parity_write.ensures.call.goes_on c.parity_write.ensures.changes c.parity_write.ensures.drafts)
