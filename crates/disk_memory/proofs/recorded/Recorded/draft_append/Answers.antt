use Rattle.std.proofs.Common.{not, refl, ◌∙◌, arith}
use Rattle.disk_model.specs.Vault as vault
use Rattle.disk_model.specs.declared.answer.Answer.TheVariants.{Done}
use Rattle.disk_calm.specs.Store.{held}
use Rattle.disk_calm.proofs.BytesLemmas.{slice_bytes}
use Rattle.disk_memory.proofs.RecordedLemmas.{IsWritten, written_grows, written_kept, recorded_on}
use Rattle.disk_memory.proofs.recorded.Recorded.draft_append.Goals as goal

pub invariant_of-self : goal.invariant_of-self
invariant_of-self c =
    let r = c.args.self.now in
    let entry = c.append_entry-entry.result in
    let call = vault.DraftAppend c.args.copy c.args.bytes.now in
    let written : IsWritten entry Done c.append_draft-done.result r.past c.admit-may.new.self c.end_if.new.self = record { noted = c.admit-may.ensures.noted; refused = c.admit-may.ensures.refused; ok = c.end_if.ensures.done; failed = c.end_if.ensures.failed } in
    let grows = written_grows entry call Done c.append_draft-done.result r.past c.admit-may.new.self c.end_if.new.self written c.append_entry-entry.ensures in
    record {
      same_levels = (c.append_draft-done.ensures.same.levels ∙ r.same_levels);
      same_copies = (c.append_draft-done.ensures.same.copies ∙ r.same_copies);
      recorded = recorded_on call Done refl (not c.append_draft-done.result) r.base (held r.opened) (held r.store) (held c.append_draft-done.new.store) r.past c.end_if.new.self grows (written_kept entry Done c.append_draft-done.result r.past c.admit-may.new.self c.end_if.new.self written) (slice_bytes c.args.bytes.now (λ i. omega (arith, c.type_inv.bytes i))) r.recorded c.append_draft-done.ensures.now;
    }

pub returns-clause-goes : goal.returns-clause-goes
returns-clause-goes c =
    let r = c.args.self.now in
    let entry = c.append_entry-entry.result in
    let call = vault.DraftAppend c.args.copy c.args.bytes.now in
    let written : IsWritten entry Done c.append_draft-done.result r.past c.admit-may.new.self c.end_if.new.self = record { noted = c.admit-may.ensures.noted; refused = c.admit-may.ensures.refused; ok = c.end_if.ensures.done; failed = c.end_if.ensures.failed } in
    record {
      calls = written_grows entry call Done c.append_draft-done.result r.past c.admit-may.new.self c.end_if.new.self written c.append_entry-entry.ensures;
      kept = written_kept entry Done c.append_draft-done.result r.past c.admit-may.new.self c.end_if.new.self written;
      now = c.append_draft-done.ensures.now;
      base = refl;
      opened = refl;
      same = c.append_draft-done.ensures.same;
    }
