use Rattle.std.proofs.Common.{refl, sym, subst, arith, ◌^◌, ◌<◌, ◌∙◌}
use Rattle.std.specs.List.{sum}
use Rattle.disk_model.specs.Bytes.{Stretched}
use Rattle.disk_model.specs.Vault.{Reads}
use Rattle.disk_model.proofs.VaultLemmas.{on_ok}
use Rattle.parity_split.specs.Joined.{level_bytes}
use Rattle.parity_split.specs.Parts.{InStep}
use Rattle.parity_split.specs.Values.{IsResized}
use Rattle.parity_split.specs.Works.{Works, HoldsOf, LevelBy, IsWithin, parts_in}
use Rattle.parity_split.proofs.SplitLemmas.{parts_fit, parts_same, within_at, are_still, in_step_one, call_seen, drafts_seen, stretches_seen, resized_seen}
use Rattle.parity_split.proofs.vault.SplitVaultVault.parity_set_len.Goals as goal

pub parts_of-parts-requires-clause-fit : goal.parts_of-parts-requires-clause-fit
parts_of-parts-requires-clause-fit g c = subst (λ xs. sum xs < 2 ^ 32) (sym (c.deref.ensures.value ∙ c.args.self.now.counts_are)) (parts_fit g.P.Shape.counts g.P.Shape.capacity _ c.args.self.now.are)

pub set_len-requires-clause-parts : goal.set_len-requires-clause-parts
set_len-requires-clause-parts g c = subst (λ q. IsWithin q (g.V.Vault.view c.args.self.now.base).levels) (sym (c.parts_of-parts.ensures ∙ parts_same c.args.level c.deref.ensures.value c.args.self.now.counts_are c.args.self.now.capacity_is)) (within_at g.P.Shape.counts g.P.Shape.capacity c.args.level (g.V.Vault.view c.args.self.now.base).levels c.args.self.now.are c.requires)

pub set_len-requires-clause-in_step : goal.set_len-requires-clause-in_step
set_len-requires-clause-in_step g c = subst (λ q. HoldsOf q (InStep q.capacity) (g.V.Vault.view c.args.self.now.base)) (sym (c.parts_of-parts.ensures ∙ parts_same c.args.level c.deref.ensures.value c.args.self.now.counts_are c.args.self.now.capacity_is)) (c.args.self.now.in_step c.args.level c.requires)

pub invariant_of-self : goal.invariant_of-self
invariant_of-self g c = record {
  counts_are = c.args.self.now.counts_are;
  capacity_is = c.args.self.now.capacity_is;
  are = are_still g.P.Shape.counts g.P.Shape.capacity _ (g.V.Vault.view c.args.self.now.base) (g.V.Vault.view c.set_len.new.base) c.set_len.ensures.works c.args.self.now.are;
  in_step = in_step_one g.P.Shape.counts g.P.Shape.capacity (Stretched c.args.len) c.args.level (g.V.Vault.view c.args.self.now.base) (g.V.Vault.view c.set_len.new.base) (g.V.Vault.well_formed _) c.args.self.now.are c.requires
      (subst (λ q. Works (LevelBy q (Stretched c.args.len)) (g.V.Vault.view c.args.self.now.base) (g.V.Vault.view c.set_len.new.base)) (c.parts_of-parts.ensures ∙ parts_same c.args.level c.deref.ensures.value c.args.self.now.counts_are c.args.self.now.capacity_is) c.set_len.ensures.works)
      (subst (λ q. HoldsOf q (InStep q.capacity) (g.V.Vault.view c.set_len.new.base)) (c.parts_of-parts.ensures ∙ parts_same c.args.level c.deref.ensures.value c.args.self.now.counts_are c.args.self.now.capacity_is) c.set_len.ensures.kept) c.args.self.now.in_step;
}

pub returns-clause-call : goal.returns-clause-call
returns-clause-call g c = call_seen g.P.Shape.counts g.P.Shape.capacity _ _ c.set_len.result (g.V.Vault.view c.args.self.now.base) (g.V.Vault.view c.set_len.new.base) refl c.set_len.ensures.works c.set_len.ensures.cause

pub returns-clause-written : goal.returns-clause-written
returns-clause-written g c = on_ok c.set_len.result
    (λ is. resized_seen g.P.Shape.counts g.P.Shape.capacity c.args.level c.args.len (g.V.Vault.view c.args.self.now.base) (g.V.Vault.view c.set_len.new.base) c.requires
    (subst (λ q. Reads (λ files. IsResized c.args.len (level_bytes q.capacity (parts_in q (g.V.Vault.view c.args.self.now.base).files)) (level_bytes q.capacity (parts_in q files))) (g.V.Vault.view c.set_len.new.base)) (c.parts_of-parts.ensures ∙ parts_same c.args.level c.deref.ensures.value c.args.self.now.counts_are c.args.self.now.capacity_is) is))
    c.set_len.ensures.written

pub returns-clause-changes : goal.returns-clause-changes
returns-clause-changes g c = stretches_seen g.P.Shape.counts g.P.Shape.capacity c.args.level c.args.len (g.V.Vault.view c.args.self.now.base) (g.V.Vault.view c.set_len.new.base) c.requires (omega (arith, c.ranges.len.fits)) (subst (λ q. Works (LevelBy q (Stretched c.args.len)) (g.V.Vault.view c.args.self.now.base) (g.V.Vault.view c.set_len.new.base)) (c.parts_of-parts.ensures ∙ parts_same c.args.level c.deref.ensures.value c.args.self.now.counts_are c.args.self.now.capacity_is) c.set_len.ensures.works)

pub returns-clause-drafts : goal.returns-clause-drafts
returns-clause-drafts g c = drafts_seen g.P.Shape.counts g.P.Shape.capacity (g.V.Vault.view c.args.self.now.base) (g.V.Vault.view c.set_len.new.base) c.set_len.ensures.works.drafts
