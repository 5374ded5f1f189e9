use Rattle.std.proofs.Common.{◌≡◌, length, take, IfOk, sym, ◌∙◌, ap, subst, ◌^◌, ◌<◌}
use Rattle.std.specs.List.{sum}
use Rattle.disk_model.specs.Bytes.{read_from}
use Rattle.disk_model.specs.Files.{Stays}
use Rattle.parity_split.specs.Joined.{level_bytes}
use Rattle.parity_split.specs.Works.{IsWithin, parts_in}
use Rattle.parity_split.proofs.SeenLemmas.{seen_parity}
use Rattle.parity_split.proofs.SplitLemmas.{parts_fit, parts_same, within_at, are_still, in_step_stays, reading_seen}
use Rattle.parity_split.proofs.vault.SplitVaultVault.parity_read.Goals as goal

pub parts_of-parts-requires-clause-fit : goal.parts_of-parts-requires-clause-fit
parts_of-parts-requires-clause-fit g c = subst (λ xs. sum xs < 2 ^ 32) (sym (c.deref.ensures.value ∙ c.args.self.now.counts_are)) (parts_fit g.P.Shape.counts g.P.Shape.capacity _ c.args.self.now.are)

pub read-requires : goal.read-requires
read-requires g c = subst (λ q. IsWithin q (g.V.Vault.view c.args.self.now.base).levels) (sym (c.parts_of-parts.ensures ∙ parts_same c.args.level c.deref.ensures.value c.args.self.now.counts_are c.args.self.now.capacity_is)) (within_at g.P.Shape.counts g.P.Shape.capacity c.args.level (g.V.Vault.view c.args.self.now.base).levels c.args.self.now.are c.requires)

pub invariant_of-self : goal.invariant_of-self
invariant_of-self g c = record {
  counts_are = c.args.self.now.counts_are;
  capacity_is = c.args.self.now.capacity_is;
  are = are_still g.P.Shape.counts g.P.Shape.capacity Stays (g.V.Vault.view c.args.self.now.base) (g.V.Vault.view c.read.new.base) c.read.ensures.works c.args.self.now.are;
  in_step = in_step_stays g.P.Shape.counts g.P.Shape.capacity (g.V.Vault.view c.args.self.now.base) (g.V.Vault.view c.read.new.base) (g.V.Vault.well_formed _) c.read.ensures.works.calls.goes_on.tells c.read.ensures.works.changes c.args.self.now.in_step;
}

pub returns-clause-call : goal.returns-clause-call
returns-clause-call g c = reading_seen g.P.Shape.counts g.P.Shape.capacity _ _ c.read.result (g.V.Vault.view c.args.self.now.base) (g.V.Vault.view c.read.new.base) c.read.ensures.works c.read.ensures.unwritten c.read.ensures.cause

pub returns-clause-bound : goal.returns-clause-bound
returns-clause-bound g c = c.read.ensures.bound

pub returns-clause-found : goal.returns-clause-found
returns-clause-found g c = λ t. subst (λ x. IfOk c.read.result (λ n. take n c.read.new.out ≡ read_from x c.args.at (length c.args.out.now)))
    (ap (λ q. level_bytes q.capacity (parts_in q (g.V.Vault.view c.args.self.now.base).files)) (c.parts_of-parts.ensures ∙ parts_same c.args.level c.deref.ensures.value c.args.self.now.counts_are c.args.self.now.capacity_is) ∙ sym (seen_parity g.P.Shape.counts g.P.Shape.capacity (g.V.Vault.view c.args.self.now.base).files c.args.level c.requires)) (c.read.ensures.found t)
