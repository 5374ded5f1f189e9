use Rattle.parity_split.proofs.SplitLemmas.{are_on, in_step_stays, one_reading_seen}
use Rattle.parity_split.proofs.vault.SplitVaultVault.content_read.Goals as goal

pub content_read-requires : goal.content_read-requires
content_read-requires g c = c.requires

pub invariant_of-self : goal.invariant_of-self
invariant_of-self g c = record {
  counts_are = c.args.self.now.counts_are;
  capacity_is = c.args.self.now.capacity_is;
  are = are_on g.P.Shape.counts g.P.Shape.capacity _ (g.V.Vault.view c.args.self.now.base) (g.V.Vault.view c.content_read.new.self) c.content_read.ensures.call.called.goes_on c.args.self.now.are;
  in_step = in_step_stays g.P.Shape.counts g.P.Shape.capacity (g.V.Vault.view c.args.self.now.base) (g.V.Vault.view c.content_read.new.self) (g.V.Vault.well_formed _) c.content_read.ensures.call.called.goes_on.tells c.content_read.ensures.call.changes c.args.self.now.in_step;
}

pub returns-clause-call : goal.returns-clause-call
returns-clause-call g c = one_reading_seen g.P.Shape.counts g.P.Shape.capacity _ _ _ (g.V.Vault.view c.args.self.now.base) (g.V.Vault.view c.content_read.new.self) c.content_read.ensures.call

pub returns-clause-bound : goal.returns-clause-bound
returns-clause-bound g c = c.content_read.ensures.bound

pub returns-clause-found : goal.returns-clause-found
returns-clause-found g c = c.content_read.ensures.found
