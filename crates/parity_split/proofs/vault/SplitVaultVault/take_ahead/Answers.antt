use Rattle.parity_split.proofs.UntouchedLemmas.{untouched_seen, are_untouched, in_step_untouched}
use Rattle.parity_split.proofs.vault.SplitVaultVault.take_ahead.Goals as goal

pub invariant_of-self : goal.invariant_of-self
invariant_of-self g c = record {
  counts_are = c.args.self.now.counts_are;
  capacity_is = c.args.self.now.capacity_is;
  are = are_untouched g.P.Shape.counts g.P.Shape.capacity (g.V.Vault.view c.args.self.now.base) (g.V.Vault.view c.take_ahead.new.self) c.take_ahead.ensures c.args.self.now.are;
  in_step = in_step_untouched g.P.Shape.counts g.P.Shape.capacity (g.V.Vault.view c.args.self.now.base) (g.V.Vault.view c.take_ahead.new.self) (g.V.Vault.well_formed _) c.take_ahead.ensures c.args.self.now.in_step;
}

pub returns : goal.returns
returns g c = untouched_seen g.P.Shape.counts g.P.Shape.capacity (g.V.Vault.view c.args.self.now.base) (g.V.Vault.view c.take_ahead.new.self) c.take_ahead.ensures
