use Rattle.std.proofs.Common.{not, refl, ◌∙◌, arith}
use Rattle.disk_model.specs.Vault as vault
use Rattle.disk_model.specs.declared.answer.Answer.TheVariants.{Done}
use Rattle.disk_calm.specs.Store.{held}
use Rattle.disk_calm.proofs.BytesLemmas.{slice_bytes}
use Rattle.disk_memory.proofs.RecordedLemmas.{IsWritten, written_grows, written_kept, recorded_on}
use Rattle.disk_memory.proofs.recorded.Recorded.parity_write.Goals as goal

pub invariant_of-self : goal.invariant_of-self
invariant_of-self c =
    let r = c.args.self.now in
    let entry = c.write_entry-entry.result in
    let call = vault.ParityWrite c.args.level c.args.at c.args.bytes.now in
    let written : IsWritten entry Done c.write_parity-done.result r.past c.admit-may.new.self c.end_if.new.self = record { noted = c.admit-may.ensures.noted; refused = c.admit-may.ensures.refused; ok = c.end_if.ensures.done; failed = c.end_if.ensures.failed } in
    let grows = written_grows entry call Done c.write_parity-done.result r.past c.admit-may.new.self c.end_if.new.self written c.write_entry-entry.ensures in
    record {
      same_levels = (c.write_parity-done.ensures.same.levels ∙ r.same_levels);
      same_copies = (c.write_parity-done.ensures.same.copies ∙ r.same_copies);
      recorded = recorded_on call Done refl (not c.write_parity-done.result) r.base (held r.opened) (held r.store) (held c.write_parity-done.new.store) r.past c.end_if.new.self grows (written_kept entry Done c.write_parity-done.result r.past c.admit-may.new.self c.end_if.new.self written) (slice_bytes c.args.bytes.now (λ i. omega (arith, c.type_inv.bytes i))) r.recorded c.write_parity-done.ensures.now;
    }

pub returns-clause-goes : goal.returns-clause-goes
returns-clause-goes c =
    let r = c.args.self.now in
    let entry = c.write_entry-entry.result in
    let call = vault.ParityWrite c.args.level c.args.at c.args.bytes.now in
    let written : IsWritten entry Done c.write_parity-done.result r.past c.admit-may.new.self c.end_if.new.self = record { noted = c.admit-may.ensures.noted; refused = c.admit-may.ensures.refused; ok = c.end_if.ensures.done; failed = c.end_if.ensures.failed } in
    record {
      calls = written_grows entry call Done c.write_parity-done.result r.past c.admit-may.new.self c.end_if.new.self written c.write_entry-entry.ensures;
      kept = written_kept entry Done c.write_parity-done.result r.past c.admit-may.new.self c.end_if.new.self written;
      now = c.write_parity-done.ensures.now;
      base = refl;
      opened = refl;
      same = c.write_parity-done.ensures.same;
    }
