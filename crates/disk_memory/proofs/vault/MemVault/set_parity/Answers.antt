use Rattle.std.proofs.Common.{refl}
use Rattle.disk_calm.specs.Store.{held, with_level}
use Rattle.disk_memory.proofs.SettledLemmas.{settled_damaged, ok_more, drafts_kept}
use Rattle.disk_memory.proofs.vault.MemVault.set_parity.Goals as goal

pub returns-clause-settled_now : goal.returns-clause-settled_now
returns-clause-settled_now c = ok_more c.set_parity.result c.set_parity.ensures.set (settled_damaged c.args.self.now.schedule.faults c.args.self.now.recorded c.set_parity.new.self (with_level (held c.args.self.now.recorded.store) c.args.level c.in_ok-parity.parity))

pub returns-clause-drafts : goal.returns-clause-drafts
returns-clause-drafts c = drafts_kept c.set_parity.result c.args.self.now.recorded c.set_parity.new.self (with_level (held c.args.self.now.recorded.store) c.args.level c.in_ok-parity.parity) refl c.set_parity.ensures.set c.set_parity.ensures.err
