use Rattle.disk_model.proofs.VaultLemmas.{on_ok, on_err}
use Rattle.parity_split.proofs.SplitLemmas.{are_on, in_step_stays, one_seen, draft_seen, stays_seen}
use Rattle.parity_split.proofs.vault.SplitVaultVault.draft_begin.Goals as goal

pub draft_begin-requires : goal.draft_begin-requires
draft_begin-requires g c = c.requires

pub invariant_of-self : goal.invariant_of-self
invariant_of-self g c = record {
  counts_are = c.args.self.now.counts_are;
  capacity_is = c.args.self.now.capacity_is;
  are = are_on g.P.Shape.counts g.P.Shape.capacity _ (g.V.Vault.view c.args.self.now.base) (g.V.Vault.view c.draft_begin.new.self) c.draft_begin.ensures.call.goes_on c.args.self.now.are;
  in_step = in_step_stays g.P.Shape.counts g.P.Shape.capacity (g.V.Vault.view c.args.self.now.base) (g.V.Vault.view c.draft_begin.new.self) (g.V.Vault.well_formed _) c.draft_begin.ensures.call.goes_on.tells c.draft_begin.ensures.changes c.args.self.now.in_step;
}

pub returns-clause-call : goal.returns-clause-call
returns-clause-call g c = one_seen g.P.Shape.counts g.P.Shape.capacity _ _ (g.V.Vault.view c.args.self.now.base) (g.V.Vault.view c.draft_begin.new.self) c.draft_begin.ensures.call

pub returns-clause-begun : goal.returns-clause-begun
returns-clause-begun g c = on_ok c.draft_begin.result (λ is. draft_seen g.P.Shape.counts g.P.Shape.capacity c.args.copy _ _ (g.V.Vault.view c.args.self.now.base) (g.V.Vault.view c.draft_begin.new.self) is) c.draft_begin.ensures.begun

pub returns-clause-gone : goal.returns-clause-gone
returns-clause-gone g c = on_err c.draft_begin.result (λ is. draft_seen g.P.Shape.counts g.P.Shape.capacity c.args.copy _ _ (g.V.Vault.view c.args.self.now.base) (g.V.Vault.view c.draft_begin.new.self) is) c.draft_begin.ensures.gone

pub returns-clause-changes : goal.returns-clause-changes
returns-clause-changes g c = stays_seen g.P.Shape.counts g.P.Shape.capacity (g.V.Vault.view c.args.self.now.base) (g.V.Vault.view c.draft_begin.new.self) c.draft_begin.ensures.changes
