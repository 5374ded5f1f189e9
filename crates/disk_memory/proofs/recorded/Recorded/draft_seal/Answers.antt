use Rattle.std.proofs.Common.{Some, not, refl, ◌∙◌}
use Rattle.disk_model.specs.Vault as vault
use Rattle.disk_model.specs.declared.answer.Answer.TheVariants.{Done}
use Rattle.disk_calm.specs.Store.{held}
use Rattle.disk_memory.specs.declared.calls.VaultEntry.TheVariants as entries
use Rattle.disk_memory.proofs.RecordedLemmas.{IsWritten, written_grows, written_kept, recorded_on}
use Rattle.disk_memory.proofs.recorded.Recorded.draft_seal.Goals as goal

pub invariant_of-self : goal.invariant_of-self
invariant_of-self c =
    let r = c.args.self.now in
    let entry = Some (entries.DraftSeal c.args.copy) in
    let call = vault.DraftSeal c.args.copy in
    let written : IsWritten entry Done c.admit-done.result r.past c.admit-done.new.self c.end_if.new.self = record { noted = c.admit-done.ensures.noted; refused = c.admit-done.ensures.refused; ok = c.end_if.ensures.done; failed = c.end_if.ensures.failed } in
    let grows = written_grows entry call Done c.admit-done.result r.past c.admit-done.new.self c.end_if.new.self written refl in
    record {
      same_levels = (c.seal_draft.ensures.same.levels ∙ r.same_levels);
      same_copies = (c.seal_draft.ensures.same.copies ∙ r.same_copies);
      recorded = recorded_on call Done refl (not c.admit-done.result) r.base (held r.opened) (held r.store) (held c.seal_draft.new.store) r.past c.end_if.new.self grows (written_kept entry Done c.admit-done.result r.past c.admit-done.new.self c.end_if.new.self written) tt r.recorded c.seal_draft.ensures.now;
    }

pub returns-clause-goes : goal.returns-clause-goes
returns-clause-goes c =
    let r = c.args.self.now in
    let entry = Some (entries.DraftSeal c.args.copy) in
    let call = vault.DraftSeal c.args.copy in
    let written : IsWritten entry Done c.admit-done.result r.past c.admit-done.new.self c.end_if.new.self = record { noted = c.admit-done.ensures.noted; refused = c.admit-done.ensures.refused; ok = c.end_if.ensures.done; failed = c.end_if.ensures.failed } in
    record {
      calls = written_grows entry call Done c.admit-done.result r.past c.admit-done.new.self c.end_if.new.self written refl;
      kept = written_kept entry Done c.admit-done.result r.past c.admit-done.new.self c.end_if.new.self written;
      now = c.seal_draft.ensures.now;
      base = refl;
      opened = refl;
      same = c.seal_draft.ensures.same;
    }
