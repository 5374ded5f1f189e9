use Rattle.std.proofs.Common.{◌≡◌, ◌<◌, length, refl, subst, arith}
use Rattle.std.proofs.lemmas.Grind.{common_steps}
use Rattle.disk_model.specs.Calls.{MakesThese, FailsAmong}
use Rattle.disk_model.specs.Vault.{copies_of, state_of}
use Rattle.disk_model.proofs.InOrder.{all_fail}
use Rattle.disk_model.proofs.RanLemmas.{ran_exit, ran_of_these, ran_of_among}
use Rattle.disk_model.proofs.VaultLemmas.{calls_then}
use Rattle.content_file.specs.Save.{copy_calls, piecewise_calls}
use Rattle.content_file.specs.Spelling.{spelling}
use Rattle.content_file.proofs.SaveLemmas.{saving_start, saving_more, saving_so_far, drafts_so_far}
use Rattle.content_file.proofs.saving.save.Goals as goal

pub returns-in_err-save_copy-clause-ran : goal.returns-in_err-save_copy-clause-ran
returns-in_err-save_copy-clause-ran g c =
    let size = length c.args.buffer.now in
    let bytes = spelling c.args.table.now in
    let copy = c.loop-copy.copy in
    let old = g.V.Vault.view c.args.vault.now in
    let mid = g.V.Vault.view c.loop-copy.vault in
    let new = g.V.Vault.view c.save_copy.new.vault in
    let so_far = c.loop-copy.invariant.saving in
    let below : copy < copies_of old = (let end = c.loop-copy.invariant.end in omega (arith, end, c.loop-copy-test.true)) in
    let cause : FailsAmong (copy_calls size bytes copy) mid new = subst (λ n. FailsAmong (copy_calls n bytes copy) mid new) c.loop-copy.invariant.long c.in_err-save_copy.ensures.cause in
    ran_exit _ (piecewise_calls size (copies_of old) bytes) c.from_residual.result (state_of old) (state_of new) c.from_residual.ensures.1
    (ran_of_among (piecewise_calls size (copies_of old) bytes) old new (calls_then old mid new so_far.calls c.save_copy.ensures.calls)
    (all_fail (copy_calls size bytes) copy (copies_of old) old mid new below so_far.calls.goes_on.later c.save_copy.ensures.calls.goes_on.calls.told so_far.made cause))

pub returns-in_err-save_copy-clause-calls : goal.returns-in_err-save_copy-clause-calls
returns-in_err-save_copy-clause-calls g c = calls_then _ _ _ c.loop-copy.invariant.saving.calls c.save_copy.ensures.calls

pub returns-clause-ran : goal.returns-clause-ran
returns-clause-ran g c =
    let size = length c.args.buffer.now in
    let bytes = spelling c.args.table.now in
    let old = g.V.Vault.view c.args.vault.now in
    let mid = g.V.Vault.view c.loop-copy.vault in
    let all : c.loop-copy.copy ≡ copies_of old = grind (arith, common_steps) in
    ran_of_these (piecewise_calls size (copies_of old) bytes) old mid c.loop-copy.invariant.saving.calls
    (subst (λ n. MakesThese (piecewise_calls size n bytes) old mid) all c.loop-copy.invariant.saving.made)

pub loop-copy-init : goal.loop-copy-init
loop-copy-init g c = record { saving = saving_start _ _ _; end = c.copies-copy-end.ensures; long = refl }

pub returns-in_err-save_copy-clause-changes : goal.returns-in_err-save_copy-clause-changes
returns-in_err-save_copy-clause-changes g c = saving_so_far _ _ _ _ _ _ c.loop-copy.invariant.saving c.save_copy.ensures.changes

pub returns-in_err-save_copy-clause-drafts : goal.returns-in_err-save_copy-clause-drafts
returns-in_err-save_copy-clause-drafts g c = drafts_so_far _ _ _ _ _ _ c.loop-copy.invariant.saving c.save_copy.ensures.gone

pub loop-copy-preserved : goal.loop-copy-preserved
loop-copy-preserved g c =
    let size = length c.args.buffer.now in
    let bytes = spelling c.args.table.now in
    let copy = c.loop-copy.copy in
    let mid = g.V.Vault.view c.loop-copy.vault in
    let new = g.V.Vault.view c.save_copy.new.vault in
    let made : MakesThese (copy_calls size bytes copy) mid new = subst (λ n. MakesThese (copy_calls n bytes copy) mid new) c.loop-copy.invariant.long c.in_ok-save_copy.ensures.made in
    record {
      saving = saving_more size copy bytes _ mid new (let same = c.loop-copy.invariant.saving.calls.goes_on.copies in let end = c.loop-copy.invariant.end in omega (arith, same, end, c.loop-copy-test.true))
          c.loop-copy.invariant.saving c.save_copy.ensures.calls made c.save_copy.ensures.changes c.in_ok-save_copy.ensures.saved c.save_copy.ensures.gone;
      end = c.loop-copy.invariant.end;
      long = grind (arith, common_steps);
    }
