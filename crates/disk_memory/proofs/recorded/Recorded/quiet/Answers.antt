use Rattle.std.proofs.Common.{Some, not, refl}
use Rattle.disk_memory.specs.Calls.{vault_call}
use Rattle.disk_calm.specs.Store.{held}
use Rattle.disk_memory.proofs.RecordedLemmas.{IsWritten, written_grows, written_kept, recorded_on, quiet_held, quiet_gives}
use Rattle.disk_memory.proofs.recorded.Recorded.quiet.Goals as goal

pub invariant_of-self : goal.invariant_of-self
invariant_of-self c =
    let r = c.args.self.now in
    let entry = Some c.args.entry in
    let call = vault_call c.args.entry in
    let written : IsWritten entry c.args.given c.admit-done.result r.past c.admit-done.new.self c.end_if.new.self = record { noted = c.admit-done.ensures.noted; refused = c.admit-done.ensures.refused; ok = c.end_if.ensures.done; failed = c.end_if.ensures.failed } in
    let grows = written_grows entry call c.args.given c.admit-done.result r.past c.admit-done.new.self c.end_if.new.self written refl in
    record {
      same_levels = r.same_levels;
      same_copies = r.same_copies;
      recorded = recorded_on call c.args.given c.requires.given (not c.admit-done.result) r.base (held r.opened) (held r.store) (held r.store) r.past c.end_if.new.self grows (written_kept entry c.args.given c.admit-done.result r.past c.admit-done.new.self c.end_if.new.self written) (quiet_gives call c.requires.quiet) r.recorded (quiet_held (held r.store) call (not c.admit-done.result) c.requires.quiet);
    }

pub returns-clause-goes : goal.returns-clause-goes
returns-clause-goes c =
    let r = c.args.self.now in
    let entry = Some c.args.entry in
    let call = vault_call c.args.entry in
    let written : IsWritten entry c.args.given c.admit-done.result r.past c.admit-done.new.self c.end_if.new.self = record { noted = c.admit-done.ensures.noted; refused = c.admit-done.ensures.refused; ok = c.end_if.ensures.done; failed = c.end_if.ensures.failed } in
    record {
      calls = written_grows entry call c.args.given c.admit-done.result r.past c.admit-done.new.self c.end_if.new.self written refl;
      kept = written_kept entry c.args.given c.admit-done.result r.past c.admit-done.new.self c.end_if.new.self written;
      now = (quiet_held (held r.store) call (not c.admit-done.result) c.requires.quiet);
      base = refl;
      opened = refl;
      same = record { levels = refl; copies = refl };
    }
