use Rattle.std.proofs.Common.{Some, not, refl, ◌∙◌}
use Rattle.disk_model.specs.Vault as vault
use Rattle.disk_model.specs.declared.answer.Answer.TheVariants.{Done}
use Rattle.disk_calm.specs.Store.{held}
use Rattle.disk_memory.specs.declared.calls.VaultEntry.TheVariants as entries
use Rattle.disk_memory.proofs.RecordedLemmas.{IsWritten, written_grows, written_kept, recorded_on}
use Rattle.disk_memory.proofs.recorded.Recorded.parity_set_len.Goals as goal

pub invariant_of-self : goal.invariant_of-self
invariant_of-self c =
    let r = c.args.self.now in
    let entry = Some (entries.ParitySetLen c.args.level c.args.len) in
    let call = vault.ParitySetLen c.args.level c.args.len in
    let written : IsWritten entry Done c.set_parity_len-done.result r.past c.admit-may.new.self c.end_if.new.self = record { noted = c.admit-may.ensures.noted; refused = c.admit-may.ensures.refused; ok = c.end_if.ensures.done; failed = c.end_if.ensures.failed } in
    let grows = written_grows entry call Done c.set_parity_len-done.result r.past c.admit-may.new.self c.end_if.new.self written refl in
    record {
      same_levels = (c.set_parity_len-done.ensures.same.levels ∙ r.same_levels);
      same_copies = (c.set_parity_len-done.ensures.same.copies ∙ r.same_copies);
      recorded = recorded_on call Done refl (not c.set_parity_len-done.result) r.base (held r.opened) (held r.store) (held c.set_parity_len-done.new.store) r.past c.end_if.new.self grows (written_kept entry Done c.set_parity_len-done.result r.past c.admit-may.new.self c.end_if.new.self written) tt r.recorded c.set_parity_len-done.ensures.now;
    }

pub returns-clause-goes : goal.returns-clause-goes
returns-clause-goes c =
    let r = c.args.self.now in
    let entry = Some (entries.ParitySetLen c.args.level c.args.len) in
    let call = vault.ParitySetLen c.args.level c.args.len in
    let written : IsWritten entry Done c.set_parity_len-done.result r.past c.admit-may.new.self c.end_if.new.self = record { noted = c.admit-may.ensures.noted; refused = c.admit-may.ensures.refused; ok = c.end_if.ensures.done; failed = c.end_if.ensures.failed } in
    record {
      calls = written_grows entry call Done c.set_parity_len-done.result r.past c.admit-may.new.self c.end_if.new.self written refl;
      kept = written_kept entry Done c.set_parity_len-done.result r.past c.admit-may.new.self c.end_if.new.self written;
      now = c.set_parity_len-done.ensures.now;
      base = refl;
      opened = refl;
      same = c.set_parity_len-done.ensures.same;
    }
