use Rattle.std.proofs.Common.{◌≡◌, ◌<◌, ◌+◌, ℕ, List, ◌*◌, ◌∙◌, ap, ap₂, get_or, length, subst, sym, arith}
use Rattle.std.specs.Prelude.{slice_range}
use Rattle.cauchy.specs.Matrix.{parity_of as level_of}
use Rattle.disk_model.specs.Bytes.{put}
use Rattle.disk_model.specs.Files.{parity_of, TearsParity}
use Rattle.disk_model.specs.Ran.{log_of}
use Rattle.disk_model.specs.Vault.{ParityWrite, state_of}
use Rattle.disk_model.proofs.RanLemmas.{ran_each_none, ran_each_more, ran_each_fails, ran_exit}
use Rattle.disk_model.proofs.VaultLemmas.{one_call, calls_then}
use Rattle.parity_writer.specs.Calls.{sum_call, sum_calls}
use Rattle.parity_writer.specs.Keeps.{WritesBlock}
use Rattle.parity_writer.specs.WindowRow.{row_at}
use Rattle.parity_writer.proofs.KeepsLemmas.{writes_nothing, writes_then, other_level}
use Rattle.parity_writer.proofs.Keeping.{keeping_start, keeping_more}
use Rattle.parity_writer.proofs.LevelsLemmas.{mapped_start, mapped_reads}
use Rattle.parity_writer.proofs.SumLemmas.{length-level}
use Rattle.parity_writer.proofs.WriteLemmas.{one_went_well, one_failed}
use Rattle.parity_writer.proofs.writing.write_levels.Goals as goal

pub loop-level-init : goal.loop-level-init
loop-level-init g c = let stripe = get_or c.args.stripes.now c.args.i 0 in record { keeping = keeping_start _ _ (writes_nothing _ _); ran = ran_each_none (sum_call c.args.window.now.block_size stripe (row_at c.args.window.now c.args.i)) (log_of (state_of (g.V.Vault.view c.args.vault.now))); written = λ told. mapped_start _ _ }

pub loop-level-preserved : goal.loop-level-preserved
loop-level-preserved g c =
    let size = c.args.window.now.block_size in
    let stripe = get_or c.args.stripes.now c.args.i 0 in
    let row = row_at c.args.window.now c.args.i in
    let at = ap₂ (λ (m : ℕ) (n : ℕ). m * n) c.from.ensures c.block_size-size.ensures in
    let below : c.loop-level.level < (g.V.Vault.view c.args.vault.now).levels = omega (arith, c.loop-level-test.true, c.levels-level-end.ensures) in
    let sums = subst (λ (n : ℕ). slice_range c.args.sums.now (c.loop-level.level * n) (c.loop-level.level * n + n) ≡ level_of c.loop-level.level size row) (sym c.block_size-size.ensures) (c.requires.sums c.loop-level.level below) in
    let long = ap length sums ∙ length-level c.loop-level.level size row in
    record {
      keeping = keeping_more (WritesBlock size stripe) _ _ _ _ (writes_then size stripe c.loop-level.level _ _ at long) c.loop-level.invariant.keeping (one_call _ _ _ c.parity_write.ensures.call.goes_on) c.parity_write.ensures.changes c.parity_write.ensures.drafts;
      ran = ran_each_more (sum_call size stripe row) c.loop-level.level (log_of (state_of (g.V.Vault.view c.args.vault.now))) (log_of (state_of (g.V.Vault.view c.loop-level.vault))) (log_of (state_of (g.V.Vault.view c.parity_write.new.self))) c.loop-level.invariant.ran
          (one_went_well _ (sum_call size stripe row c.loop-level.level) (g.V.Vault.view c.loop-level.vault) (g.V.Vault.view c.parity_write.new.self) (ap₂ (λ (n : ℕ) (xs : List ℕ). ParityWrite c.loop-level.level n xs) at sums) c.in_ok-parity_write.ensures.call.goes_on);
      written = mapped_reads (λ level xs. put xs (stripe * size) (level_of level size row)) c.loop-level.level (TearsParity c.loop-level.level _ _) (g.V.Vault.view c.args.vault.now) _ _ (λ a b step l other. other_level _ step.file a b step.rest l other) c.parity_write.ensures.call.goes_on.tells c.parity_write.ensures.changes c.loop-level.invariant.written
          (λ told. c.in_ok-parity_write.ensures.written told ∙ ap₂ (λ (n : ℕ) (xs : List ℕ). put (parity_of (g.V.Vault.view c.loop-level.vault).files c.loop-level.level) n xs) at sums);
    }

pub returns-in_err-parity_write-clause-calls : goal.returns-in_err-parity_write-clause-calls
returns-in_err-parity_write-clause-calls g c =
    calls_then (g.V.Vault.view c.args.vault.now) (g.V.Vault.view c.loop-level.vault) (g.V.Vault.view c.parity_write.new.self) c.loop-level.invariant.keeping.calls (one_call _ _ _ c.parity_write.ensures.call.goes_on)

pub returns-in_err-parity_write-clause-changes : goal.returns-in_err-parity_write-clause-changes
returns-in_err-parity_write-clause-changes g c =
    let size = c.args.window.now.block_size in
    let stripe = get_or c.args.stripes.now c.args.i 0 in
    let row = row_at c.args.window.now c.args.i in
    let at = ap₂ (λ (m : ℕ) (n : ℕ). m * n) c.from.ensures c.block_size-size.ensures in
    let below : c.loop-level.level < (g.V.Vault.view c.args.vault.now).levels = omega (arith, c.loop-level-test.true, c.levels-level-end.ensures) in
    let sums = subst (λ (n : ℕ). slice_range c.args.sums.now (c.loop-level.level * n) (c.loop-level.level * n + n) ≡ level_of c.loop-level.level size row) (sym c.block_size-size.ensures) (c.requires.sums c.loop-level.level below) in
    let long = ap length sums ∙ length-level c.loop-level.level size row in
    (keeping_more (WritesBlock size stripe) _ _ _ _ (writes_then size stripe c.loop-level.level _ _ at long) c.loop-level.invariant.keeping (one_call _ _ _ c.parity_write.ensures.call.goes_on) c.parity_write.ensures.changes c.parity_write.ensures.drafts).changes

pub returns-in_err-parity_write-clause-ran : goal.returns-in_err-parity_write-clause-ran
returns-in_err-parity_write-clause-ran g c =
    let size = c.args.window.now.block_size in
    let stripe = get_or c.args.stripes.now c.args.i 0 in
    let row = row_at c.args.window.now c.args.i in
    let old = g.V.Vault.view c.args.vault.now in
    let mid = g.V.Vault.view c.loop-level.vault in
    let new = g.V.Vault.view c.parity_write.new.self in
    let at = ap₂ (λ (m : ℕ) (n : ℕ). m * n) c.from.ensures c.block_size-size.ensures in
    let below : c.loop-level.level < (g.V.Vault.view c.args.vault.now).levels = omega (arith, c.loop-level-test.true, c.levels-level-end.ensures) in
    let sums = subst (λ (n : ℕ). slice_range c.args.sums.now (c.loop-level.level * n) (c.loop-level.level * n + n) ≡ level_of c.loop-level.level size row) (sym c.block_size-size.ensures) (c.requires.sums c.loop-level.level below) in
    let within : c.loop-level.level < old.levels = omega (arith, c.loop-level-test.true, c.levels-level-end.ensures) in
    ran_exit _ (sum_calls old.levels size stripe row) c.from_residual.result (state_of old) (state_of new) c.from_residual.ensures.1
    (ran_each_fails (sum_call size stripe row) c.loop-level.level old.levels (log_of (state_of old)) (log_of (state_of mid)) (log_of (state_of new)) within c.loop-level.invariant.ran
    (one_failed _ (sum_call size stripe row c.loop-level.level) mid new (ap₂ (λ (n : ℕ) (xs : List ℕ). ParityWrite c.loop-level.level n xs) at sums) c.in_err-parity_write.ensures.call.cause c.in_err-parity_write.ensures.call.goes_on))
