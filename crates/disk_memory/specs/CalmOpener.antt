-- Openers in memory that keep no record of their calls.
use Rattle.std.specs.Prelude.{[], true, map}
use Rattle.disk_model.specs.Opener.{OpenerView}
use Rattle.disk_calm.specs.Calm.{calm_folder_view, calm_vault_view}
use Rattle.disk_memory.specs.Opener.{opener_view, folders_left, vault_left, import_left}
use Rattle.disk_memory.specs.declared.calm_opener.CalmOpener.{CalmOpener}

-- it tells what it gives, and no calls
abbrev pub calm_opener_view : CalmOpener → OpenerView
calm_opener_view o = opener_view o.faults o.config.items
    (folders_left (λ h. map calm_folder_view h.folders.items) o.held)
    (vault_left (λ h. calm_vault_view h.vault) o.held)
    (import_left calm_folder_view o.imported)
    true []
