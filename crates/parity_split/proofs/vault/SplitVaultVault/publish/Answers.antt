use Rattle.std.proofs.Common.{◌≡◌, Some}
use Rattle.disk_model.specs.Vault.{staged_of}
use Rattle.disk_model.proofs.VaultLemmas.{on_ok}
use Rattle.parity_split.proofs.SplitLemmas.{are_on, in_step_publish, one_seen, draft_seen, publish_seen, contents_seen}
use Rattle.parity_split.proofs.vault.SplitVaultVault.publish.Goals as goal

pub publish-requires-clause-copy : goal.publish-requires-clause-copy
publish-requires-clause-copy g c = c.requires.copy

pub publish-requires-clause-draft : goal.publish-requires-clause-draft
publish-requires-clause-draft g c = c.requires.draft

pub invariant_of-self : goal.invariant_of-self
invariant_of-self g c = record {
  counts_are = c.args.self.now.counts_are;
  capacity_is = c.args.self.now.capacity_is;
  are = are_on g.P.Shape.counts g.P.Shape.capacity _ (g.V.Vault.view c.args.self.now.base) (g.V.Vault.view c.publish.new.self) c.publish.ensures.call.goes_on c.args.self.now.are;
  in_step = in_step_publish g.P.Shape.counts g.P.Shape.capacity c.args.copy _ _ (g.V.Vault.view c.args.self.now.base) (g.V.Vault.view c.publish.new.self) (g.V.Vault.well_formed _) c.publish.ensures.call.goes_on.tells c.publish.ensures.changes c.args.self.now.in_step;
}

pub returns-clause-call : goal.returns-clause-call
returns-clause-call g c = one_seen g.P.Shape.counts g.P.Shape.capacity _ _ (g.V.Vault.view c.args.self.now.base) (g.V.Vault.view c.publish.new.self) c.publish.ensures.call

pub returns-clause-gone : goal.returns-clause-gone
returns-clause-gone g c = draft_seen g.P.Shape.counts g.P.Shape.capacity c.args.copy _ _ (g.V.Vault.view c.args.self.now.base) (g.V.Vault.view c.publish.new.self) c.publish.ensures.gone

pub returns-clause-published : goal.returns-clause-published
returns-clause-published g c = on_ok c.publish.result (λ given sealed. contents_seen g.P.Shape.counts g.P.Shape.capacity c.args.copy (λ content. content ≡ Some (staged_of (g.V.Vault.view c.args.self.now.base) c.args.copy)) (g.V.Vault.view c.publish.new.self) (given sealed)) c.publish.ensures.published

pub returns-clause-changes : goal.returns-clause-changes
returns-clause-changes g c = publish_seen g.P.Shape.counts g.P.Shape.capacity c.args.copy _ _ (g.V.Vault.view c.args.self.now.base) (g.V.Vault.view c.publish.new.self) c.publish.ensures.changes
