use Rattle.std.proofs.Common.{sym, subst, ◌^◌, ◌<◌, ◌∙◌}
use Rattle.std.specs.List.{sum}
use Rattle.parity_split.specs.Works.{IsWithin}
use Rattle.parity_split.proofs.SplitLemmas.{parts_fit, parts_same, within_at}
use Rattle.parity_split.proofs.UntouchedLemmas.{untouched_seen, are_untouched, in_step_untouched}
use Rattle.parity_split.proofs.vault.SplitVaultVault.plan_ahead.Goals as goal

pub parts_of-parts-requires-clause-fit : goal.parts_of-parts-requires-clause-fit
parts_of-parts-requires-clause-fit g c = subst (λ xs. sum xs < 2 ^ 32) (sym (c.deref.ensures.value ∙ c.args.self.now.counts_are)) (parts_fit g.P.Shape.counts g.P.Shape.capacity _ c.args.self.now.are)

pub plan-requires : goal.plan-requires
plan-requires g c = subst (λ q. IsWithin q (g.V.Vault.view c.args.self.now.base).levels) (sym (c.parts_of-parts.ensures ∙ parts_same c.args.level c.deref.ensures.value c.args.self.now.counts_are c.args.self.now.capacity_is)) (within_at g.P.Shape.counts g.P.Shape.capacity c.args.level (g.V.Vault.view c.args.self.now.base).levels c.args.self.now.are c.requires)

pub invariant_of-self : goal.invariant_of-self
invariant_of-self g c = record {
  counts_are = c.args.self.now.counts_are;
  capacity_is = c.args.self.now.capacity_is;
  are = are_untouched g.P.Shape.counts g.P.Shape.capacity (g.V.Vault.view c.args.self.now.base) (g.V.Vault.view c.plan.new.base) c.plan.ensures c.args.self.now.are;
  in_step = in_step_untouched g.P.Shape.counts g.P.Shape.capacity (g.V.Vault.view c.args.self.now.base) (g.V.Vault.view c.plan.new.base) (g.V.Vault.well_formed _) c.plan.ensures c.args.self.now.in_step;
}

pub returns : goal.returns
returns g c = untouched_seen g.P.Shape.counts g.P.Shape.capacity (g.V.Vault.view c.args.self.now.base) (g.V.Vault.view c.plan.new.base) c.plan.ensures
