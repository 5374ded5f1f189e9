use Rattle.parity_split.proofs.SplitLemmas.{are_on, in_step_stays, one_reading_seen}
use Rattle.parity_split.proofs.vault.SplitVaultVault.content_size.Goals as goal

pub content_size-requires : goal.content_size-requires
content_size-requires g c = c.requires

pub invariant_of-self : goal.invariant_of-self
invariant_of-self g c = record {
  counts_are = c.args.self.now.counts_are;
  capacity_is = c.args.self.now.capacity_is;
  are = are_on g.P.Shape.counts g.P.Shape.capacity _ (g.V.Vault.view c.args.self.now.base) (g.V.Vault.view c.content_size.new.self) c.content_size.ensures.call.called.goes_on c.args.self.now.are;
  in_step = in_step_stays g.P.Shape.counts g.P.Shape.capacity (g.V.Vault.view c.args.self.now.base) (g.V.Vault.view c.content_size.new.self) (g.V.Vault.well_formed _) c.content_size.ensures.call.called.goes_on.tells c.content_size.ensures.call.changes c.args.self.now.in_step;
}

pub returns-clause-call : goal.returns-clause-call
returns-clause-call g c = one_reading_seen g.P.Shape.counts g.P.Shape.capacity _ _ _ (g.V.Vault.view c.args.self.now.base) (g.V.Vault.view c.content_size.new.self) c.content_size.ensures.call

pub returns-clause-found : goal.returns-clause-found
returns-clause-found g c = c.content_size.ensures.found
