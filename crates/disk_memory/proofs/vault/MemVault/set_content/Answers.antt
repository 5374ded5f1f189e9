use Rattle.std.proofs.Common.{refl}
use Rattle.disk_calm.specs.Store.{held, with_copy}
use Rattle.disk_memory.proofs.SettledLemmas.{settled_damaged, ok_more, drafts_kept}
use Rattle.disk_memory.proofs.vault.MemVault.set_content.Goals as goal

pub returns-clause-settled_now : goal.returns-clause-settled_now
returns-clause-settled_now c = ok_more c.set_content.result c.set_content.ensures.set (settled_damaged c.args.self.now.schedule.faults c.args.self.now.recorded c.set_content.new.self (with_copy (held c.args.self.now.recorded.store) c.args.copy c.in_ok-content.content))

pub returns-clause-drafts : goal.returns-clause-drafts
returns-clause-drafts c = drafts_kept c.set_content.result c.args.self.now.recorded c.set_content.new.self (with_copy (held c.args.self.now.recorded.store) c.args.copy c.in_ok-content.content) refl c.set_content.ensures.set c.set_content.ensures.err
