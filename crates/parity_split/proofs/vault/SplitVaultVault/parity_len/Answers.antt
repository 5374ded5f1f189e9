use Rattle.std.proofs.Common.{◌≡◌, ◌+◌, ◌-◌, ◌*◌, ◌^◌, min, sym, subst, ◌<◌, ◌∙◌}
use Rattle.std.specs.List.{sum}
use Rattle.disk_model.specs.Files.{Stays}
use Rattle.disk_model.proofs.VaultLemmas.{on_any}
use Rattle.parity_split.specs.Works.{IsWithin, IsFound}
use Rattle.parity_split.proofs.SplitLemmas.{parts_fit, parts_same, within_at, are_still, in_step_stays, reading_seen, len_found}
use Rattle.parity_split.proofs.vault.SplitVaultVault.parity_len.Goals as goal

pub parts_of-parts-requires-clause-fit : goal.parts_of-parts-requires-clause-fit
parts_of-parts-requires-clause-fit g c = subst (λ xs. sum xs < 2 ^ 32) (sym (c.deref.ensures.value ∙ c.args.self.now.counts_are)) (parts_fit g.P.Shape.counts g.P.Shape.capacity _ c.args.self.now.are)

pub find-requires : goal.find-requires
find-requires g c = subst (λ q. IsWithin q (g.V.Vault.view c.args.self.now.base).levels) (sym (c.parts_of-parts.ensures ∙ parts_same c.args.level c.deref.ensures.value c.args.self.now.counts_are c.args.self.now.capacity_is)) (within_at g.P.Shape.counts g.P.Shape.capacity c.args.level (g.V.Vault.view c.args.self.now.base).levels c.args.self.now.are c.requires)

pub invariant_of-self : goal.invariant_of-self
invariant_of-self g c = record {
  counts_are = c.args.self.now.counts_are;
  capacity_is = c.args.self.now.capacity_is;
  are = are_still g.P.Shape.counts g.P.Shape.capacity Stays (g.V.Vault.view c.args.self.now.base) (g.V.Vault.view c.find.new.base) c.find.ensures.works c.args.self.now.are;
  in_step = in_step_stays g.P.Shape.counts g.P.Shape.capacity (g.V.Vault.view c.args.self.now.base) (g.V.Vault.view c.find.new.base) (g.V.Vault.well_formed _) c.find.ensures.works.calls.goes_on.tells c.find.ensures.works.changes c.args.self.now.in_step;
}

pub returns-in_err-end-clause-call : goal.returns-in_err-end-clause-call
returns-in_err-end-clause-call g c = reading_seen g.P.Shape.counts g.P.Shape.capacity _ _ c.from_residual.result (g.V.Vault.view c.args.self.now.base) (g.V.Vault.view c.find.new.base) c.find.ensures.works c.find.ensures.unwritten (on_any c.from_residual.result c.in_err-end.ensures.cause)

pub returns-clause-call : goal.returns-clause-call
returns-clause-call g c = reading_seen g.P.Shape.counts g.P.Shape.capacity _ _ _ (g.V.Vault.view c.args.self.now.base) (g.V.Vault.view c.find.new.base) c.find.ensures.works c.find.ensures.unwritten tt

pub returns-clause-found : goal.returns-clause-found
returns-clause-found g c = λ t. len_found g.P.Shape.counts g.P.Shape.capacity c.args.level c.in_ok-end.end _ (g.V.Vault.view c.args.self.now.base) c.args.self.now.are c.requires
    (subst (λ q. IsFound q c.in_ok-end.end (g.V.Vault.view c.args.self.now.base).files) (c.parts_of-parts.ensures ∙ parts_same c.args.level c.deref.ensures.value c.args.self.now.counts_are c.args.self.now.capacity_is) (c.in_ok-end.ensures.found t))
    (subst (λ q. c.len_to.result ≡ min (c.in_ok-end.end.part * q.capacity + c.in_ok-end.end.len) (2 ^ 64 - 1)) (c.parts_of-parts.ensures ∙ parts_same c.args.level c.deref.ensures.value c.args.self.now.counts_are c.args.self.now.capacity_is) c.len_to.ensures)
