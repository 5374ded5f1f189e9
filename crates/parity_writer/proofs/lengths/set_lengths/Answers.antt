use Rattle.std.proofs.Common.{◌<◌, IsTrue, ◌∙◌, subst, arith}
use Rattle.disk_model.specs.Calls.{MakesThese, FailsAmong}
use Rattle.disk_model.proofs.InOrder.{all_more, all_fail}
use Rattle.parity_writer.proofs.LengthCalls.{same_level_calls}
use Rattle.disk_model.specs.Files.{StretchesParity}
use Rattle.disk_model.proofs.CallsLemmas.{these_none, makes_none, makes_then, fails_after}
use Rattle.disk_model.proofs.VaultLemmas.{calls_then, on_any}
use Rattle.parity_writer.specs.Calls.{IsLengthCall, level_calls}
use Rattle.parity_writer.specs.Keeps.{KeepsAt}
use Rattle.parity_writer.proofs.KeepsLemmas.{stretch_then, keeps_nothing_less, other_level}
use Rattle.parity_writer.proofs.Keeping.{keeping_start, keeping_more}
use Rattle.parity_writer.proofs.LevelsLemmas.{mapped_start, mapped_reads}
use Rattle.parity_writer.proofs.lengths.set_lengths.Goals as goal

pub loop-level-init : goal.loop-level-init
loop-level-init g c = record { keeping = keeping_start _ _ (keeps_nothing_less (λ i. i < c.args.bytes)); made = makes_none _ _; ordered = λ told. these_none (g.V.Vault.view c.args.vault.now); end = c.levels-level-end.ensures; set = λ told. mapped_start _ _ }

pub loop-level-preserved : goal.loop-level-preserved
loop-level-preserved g c = record {
  keeping = keeping_more (KeepsAt (λ i. i < c.args.bytes)) _ _ _ _ (stretch_then c.loop-level.level c.args.bytes) c.loop-level.invariant.keeping c.set_length.ensures.calls c.set_length.ensures.changes c.set_length.ensures.drafts;
  made = makes_then (IsLengthCall c.args.bytes) _ _ _ c.loop-level.invariant.made c.in_ok-set_length.ensures.made;
  ordered = λ told. all_more (level_calls c.args.bytes (g.V.Vault.view c.args.vault.now).files) c.loop-level.level (g.V.Vault.view c.args.vault.now) (g.V.Vault.view c.loop-level.vault) (g.V.Vault.view c.set_length.new.vault) (c.loop-level.invariant.ordered told)
      (let was : IsTrue (g.V.Vault.view c.loop-level.vault).tells = c.loop-level.invariant.keeping.calls.goes_on.tells ∙ told in
      subst (λ calls. MakesThese calls (g.V.Vault.view c.loop-level.vault) (g.V.Vault.view c.set_length.new.vault))
      (same_level_calls c.args.bytes c.loop-level.level (g.V.Vault.view c.loop-level.vault).files (g.V.Vault.view c.args.vault.now).files ((c.loop-level.invariant.set was).rest c.loop-level.level (omega arith)))
      (c.in_ok-set_length.ensures.ordered was));
  end = c.loop-level.invariant.end;
  set = mapped_reads _ c.loop-level.level (StretchesParity c.loop-level.level c.args.bytes) (g.V.Vault.view c.args.vault.now) _ _ (λ a b step l other. other_level _ step.file a b step.rest l other) c.set_length.ensures.calls.goes_on.tells c.set_length.ensures.changes c.loop-level.invariant.set c.in_ok-set_length.ensures.set;
}

pub returns-in_err-set_length-clause-cause : goal.returns-in_err-set_length-clause-cause
returns-in_err-set_length-clause-cause g c =
    on_any c.from_residual.result (fails_after (IsLengthCall c.args.bytes) (g.V.Vault.view c.args.vault.now) (g.V.Vault.view c.loop-level.vault) (g.V.Vault.view c.set_length.new.vault) c.loop-level.invariant.keeping.calls.goes_on.later c.set_length.ensures.calls.goes_on.calls.told c.loop-level.invariant.made c.in_err-set_length.ensures.cause)

pub returns-in_err-set_length-clause-changes : goal.returns-in_err-set_length-clause-changes
returns-in_err-set_length-clause-changes g c = (keeping_more (KeepsAt (λ i. i < c.args.bytes)) _ _ _ _ (stretch_then c.loop-level.level c.args.bytes) c.loop-level.invariant.keeping c.set_length.ensures.calls c.set_length.ensures.changes c.set_length.ensures.drafts).changes

pub returns-in_err-set_length-clause-failed : goal.returns-in_err-set_length-clause-failed
returns-in_err-set_length-clause-failed g c =
    let old = g.V.Vault.view c.args.vault.now in
    let mid = g.V.Vault.view c.loop-level.vault in
    let new = g.V.Vault.view c.set_length.new.vault in
    let so_far = c.loop-level.invariant in
    let within : c.loop-level.level < old.levels = omega (arith, c.loop-level-test.true, c.loop-level.invariant.end) in
    on_any c.from_residual.result (λ told.
    let was : IsTrue mid.tells = so_far.keeping.calls.goes_on.tells ∙ told in
    all_fail (level_calls c.args.bytes old.files) c.loop-level.level old.levels old mid new within so_far.keeping.calls.goes_on.later c.set_length.ensures.calls.goes_on.calls.told (so_far.ordered told)
    (subst (λ calls. FailsAmong calls mid new) (same_level_calls c.args.bytes c.loop-level.level mid.files old.files ((so_far.set was).rest c.loop-level.level (omega arith))) (c.in_err-set_length.ensures.failed was)))

pub returns-in_err-set_length-clause-calls : goal.returns-in_err-set_length-clause-calls
returns-in_err-set_length-clause-calls g c = calls_then _ _ _ c.loop-level.invariant.keeping.calls c.set_length.ensures.calls
