use Rattle.std.proofs.Common.{refl, sym, ◌∙◌, arith}
use Rattle.disk_memory.specs.Vault.{vault_view}
use Rattle.snap_top_stops.proofs.SparedLemmas.{stripe_loaded}
use Rattle.snap_top_stops.proofs.stopped.has_stripe.Goals as goal

pub returns-in-Some : goal.returns-in-Some
returns-in-Some c holds =
    stripe_loaded (vault_view c.args.vault) (vault_view c.load.new.vault) c.in-Ok.loaded c.in-Some.table _ _ _ _ refl c.in-Ok.ensures.loaded c.in-Some.is
    (sym c.faults.ensures ∙ omega (arith, c.if-faults-gt0.false)) (c.has_cells.ensures.kept holds) (c.has_cells.ensures.lost holds)
