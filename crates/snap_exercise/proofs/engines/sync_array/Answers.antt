use Rattle.std.proofs.Common.{map, refl, sym, ap, ◌∙◌, length}
use Rattle.std.proofs.lemmas.List.{length-map}
use Rattle.disk_calm.specs.Calm.{calm_folder_view, calm_value}
use Rattle.array_setup.specs.Setup.{setup_value}
use Rattle.snap_exercise.proofs.EngineLemmas.{synced_by}
use Rattle.snap_exercise.proofs.engines.sync_array.Goals as goal

pub sync-requires-after_bounds : goal.sync-requires-after_bounds
sync-requires-after_bounds g c κs within =
    let columns = ap (λ t. length t.columns) c.in_ok-table.ensures in
    record {
      folders_are = length-map _ _ ∙ c.requires.folders ∙ sym columns;
      disks = ap (λ s. length s.disks) c.requires.setup ∙ sym columns;
      levels = c.requires.levels ∙ sym (ap (λ t. t.shape.levels) c.in_ok-table.ensures);
      every = tt;
    }

pub returns-in-Ok : goal.returns-in-Ok
returns-in-Ok g c =
    synced_by _ _ _ (map calm_folder_view c.args.folders.now) (map calm_folder_view c.sync.new.folders) (calm_value c.args.vault.now) (calm_value c.sync.new.vault) _ _ _ _
    (setup_value c.args.setup.now) _ _ c.in-Ok.end c.requires.setup refl c.in_ok-table.ensures c.in-Ok.ensures.done
