use Rattle.disk_memory.specs.Folder.{folder_view}
use Rattle.disk_memory.specs.Sink.{sink_view}
use Rattle.disk_memory.specs.Vault.{vault_view}
use Rattle.snap_top_restores.proofs.NamedLemmas.{named_lost}
use Rattle.snap_top_restores.proofs.named.check_what_is_lost.Goals as goal

pub returns : goal.returns
returns g c =
    let says = c.a_check_finds_what_a_fix_finds.ensures in
    named_lost _ folder_view vault_view sink_view c.headline.ensures c.a_fix_of_what_is_left_meets_no_chance.ensures c.undamaged_levels_restore.ensures.intact
    c.what_is_read_determines_what_is_found.ensures.stripe says.facts (record { plans = says.plans; stripes = says.stripes; events = says.events; fixed = says.fixed })
    c.one_table_has_a_spelling.ensures _ _ _ _ c.in_ok-ends.ensures (c.asks_check_of_all.ensures c.if-not-asks_check_of_all.false) (c.asks_fix_of_all.ensures c.if-not-asks_fix_of_all.false) c.if-ends-ne1.false
