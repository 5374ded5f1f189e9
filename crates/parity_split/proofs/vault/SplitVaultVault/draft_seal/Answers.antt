use Rattle.disk_model.proofs.VaultLemmas.{on_ok, on_err}
use Rattle.parity_split.proofs.SplitLemmas.{are_on, in_step_stays, one_seen, draft_seen, stays_seen}
use Rattle.parity_split.proofs.vault.SplitVaultVault.draft_seal.Goals as goal

pub draft_seal-requires-clause-copy : goal.draft_seal-requires-clause-copy
draft_seal-requires-clause-copy g c = c.requires.copy

pub draft_seal-requires-clause-draft : goal.draft_seal-requires-clause-draft
draft_seal-requires-clause-draft g c = c.requires.draft

pub invariant_of-self : goal.invariant_of-self
invariant_of-self g c = record {
  counts_are = c.args.self.now.counts_are;
  capacity_is = c.args.self.now.capacity_is;
  are = are_on g.P.Shape.counts g.P.Shape.capacity _ (g.V.Vault.view c.args.self.now.base) (g.V.Vault.view c.draft_seal.new.self) c.draft_seal.ensures.call.goes_on c.args.self.now.are;
  in_step = in_step_stays g.P.Shape.counts g.P.Shape.capacity (g.V.Vault.view c.args.self.now.base) (g.V.Vault.view c.draft_seal.new.self) (g.V.Vault.well_formed _) c.draft_seal.ensures.call.goes_on.tells c.draft_seal.ensures.changes c.args.self.now.in_step;
}

pub returns-clause-call : goal.returns-clause-call
returns-clause-call g c = one_seen g.P.Shape.counts g.P.Shape.capacity _ _ (g.V.Vault.view c.args.self.now.base) (g.V.Vault.view c.draft_seal.new.self) c.draft_seal.ensures.call

pub returns-clause-sealed : goal.returns-clause-sealed
returns-clause-sealed g c = on_ok c.draft_seal.result (λ is. draft_seen g.P.Shape.counts g.P.Shape.capacity c.args.copy _ _ (g.V.Vault.view c.args.self.now.base) (g.V.Vault.view c.draft_seal.new.self) is) c.draft_seal.ensures.sealed

pub returns-clause-gone : goal.returns-clause-gone
returns-clause-gone g c = on_err c.draft_seal.result (λ is. draft_seen g.P.Shape.counts g.P.Shape.capacity c.args.copy _ _ (g.V.Vault.view c.args.self.now.base) (g.V.Vault.view c.draft_seal.new.self) is) c.draft_seal.ensures.gone

pub returns-clause-changes : goal.returns-clause-changes
returns-clause-changes g c = stays_seen g.P.Shape.counts g.P.Shape.capacity (g.V.Vault.view c.args.self.now.base) (g.V.Vault.view c.draft_seal.new.self) c.draft_seal.ensures.changes
