use Rattle.std.proofs.Common.{map, refl, sym, ap, ◌∙◌, length, inl}
use Rattle.std.proofs.lemmas.List.{length-map}
use Rattle.disk_calm.specs.Calm.{calm_folder_view, calm_value}
use Rattle.array_setup.specs.Setup.{setup_value}
use Rattle.snap_exercise.proofs.EngineLemmas.{calm_is_open, fixed_by}
use Rattle.snap_exercise.proofs.engines.fix_array.Goals as goal

pub repair-requires-clause-array : goal.repair-requires-clause-array
repair-requires-clause-array g c κs within = record {
  folders_are = length-map _ _ ∙ c.requires.folders ∙ sym c.requires.columns;
  disks_are = ap (λ s. length s.disks) c.requires.setup ∙ sym c.requires.columns;
  levels = c.requires.levels ∙ sym c.requires.shape;
  spare_is = inl refl;
}

pub repair-requires-clause-open : goal.repair-requires-clause-open
repair-requires-clause-open g c κs within = calm_is_open c.args.table.now c.args.folders.now

pub returns-in-Ok : goal.returns-in-Ok
returns-in-Ok g c =
    fixed_by _ _ _ (map calm_folder_view c.args.folders.now) (map calm_folder_view c.repair.new.folders) (calm_value c.args.vault.now) (calm_value c.repair.new.vault) _ _ _ _
    (setup_value c.args.setup.now) c.everything.result c.args.table.now c.in-Ok.end c.requires.setup c.everything.ensures c.in-Ok.ensures.repairs
