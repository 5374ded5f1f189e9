use Rattle.std.proofs.Common.{refl, sym, subst, ◌^◌, ◌<◌, ◌∙◌}
use Rattle.std.specs.List.{sum}
use Rattle.disk_model.specs.Files.{Stays}
use Rattle.disk_model.specs.Vault.{Holds}
use Rattle.disk_model.proofs.VaultLemmas.{on_ok}
use Rattle.parity_split.specs.Works.{IsWithin, SameFrom, parts_in}
use Rattle.parity_split.proofs.SplitLemmas.{parts_fit, parts_same, within_at, are_still, in_step_stays, call_seen, drafts_seen, stays_seen, synced_seen}
use Rattle.parity_split.proofs.vault.SplitVaultVault.parity_sync.Goals as goal

pub parts_of-parts-requires-clause-fit : goal.parts_of-parts-requires-clause-fit
parts_of-parts-requires-clause-fit g c = subst (λ xs. sum xs < 2 ^ 32) (sym (c.deref.ensures.value ∙ c.args.self.now.counts_are)) (parts_fit g.P.Shape.counts g.P.Shape.capacity _ c.args.self.now.are)

pub sync_from-requires : goal.sync_from-requires
sync_from-requires g c = subst (λ q. IsWithin q (g.V.Vault.view c.args.self.now.base).levels) (sym (c.parts_of-parts.ensures ∙ parts_same c.args.level c.deref.ensures.value c.args.self.now.counts_are c.args.self.now.capacity_is)) (within_at g.P.Shape.counts g.P.Shape.capacity c.args.level (g.V.Vault.view c.args.self.now.base).levels c.args.self.now.are c.requires)

pub invariant_of-self : goal.invariant_of-self
invariant_of-self g c = record {
  counts_are = c.args.self.now.counts_are;
  capacity_is = c.args.self.now.capacity_is;
  are = are_still g.P.Shape.counts g.P.Shape.capacity Stays (g.V.Vault.view c.args.self.now.base) (g.V.Vault.view c.sync_from.new.base) c.sync_from.ensures.works c.args.self.now.are;
  in_step = in_step_stays g.P.Shape.counts g.P.Shape.capacity (g.V.Vault.view c.args.self.now.base) (g.V.Vault.view c.sync_from.new.base) (g.V.Vault.well_formed _) c.sync_from.ensures.works.calls.goes_on.tells c.sync_from.ensures.works.changes c.args.self.now.in_step;
}

pub returns-clause-call : goal.returns-clause-call
returns-clause-call g c = call_seen g.P.Shape.counts g.P.Shape.capacity _ Stays c.sync_from.result (g.V.Vault.view c.args.self.now.base) (g.V.Vault.view c.sync_from.new.base) refl c.sync_from.ensures.works c.sync_from.ensures.cause

pub returns-clause-changes : goal.returns-clause-changes
returns-clause-changes g c = stays_seen g.P.Shape.counts g.P.Shape.capacity (g.V.Vault.view c.args.self.now.base) (g.V.Vault.view c.sync_from.new.base) c.sync_from.ensures.works.changes

pub returns-clause-drafts : goal.returns-clause-drafts
returns-clause-drafts g c = drafts_seen g.P.Shape.counts g.P.Shape.capacity (g.V.Vault.view c.args.self.now.base) (g.V.Vault.view c.sync_from.new.base) c.sync_from.ensures.works.drafts

pub returns-clause-synced : goal.returns-clause-synced
returns-clause-synced g c = on_ok c.sync_from.result
    (λ same. synced_seen g.P.Shape.counts g.P.Shape.capacity c.args.level (g.V.Vault.view c.args.self.now.base) (g.V.Vault.view c.sync_from.new.base) (g.V.Vault.well_formed _) (g.V.Vault.well_formed _) c.args.self.now.are c.requires c.sync_from.ensures.works
    (subst (λ q. Holds (λ files. SameFrom 0 q.count (parts_in q (g.V.Vault.view c.args.self.now.base).files) (parts_in q files)) (g.V.Vault.view c.sync_from.new.base)) (c.parts_of-parts.ensures ∙ parts_same c.args.level c.deref.ensures.value c.args.self.now.counts_are c.args.self.now.capacity_is) same))
    c.sync_from.ensures.synced
