use Rattle.std.proofs.Common.{map, ap, ◌∙◌}
use Rattle.disk_calm.specs.Calm.{calm_folder_view, calm_value}
use Rattle.snap_exercise.proofs.EngineLemmas.{eight_folders, is_course, levels_fixed, levels_synced, synced_columns, synced_levels}
use Rattle.snap_exercise.proofs.exercising.go_through.Goals as goal

pub sync_array-requires-clause-setup : goal.sync_array-requires-clause-setup
sync_array-requires-clause-setup g c κs within = c.in_ok-setup.ensures

pub sync_array-requires-clause-folders : goal.sync_array-requires-clause-folders
sync_array-requires-clause-folders g c κs within = eight_folders c.args.n c.args.folders.now c.requires.folders

pub sync_array-requires-clause-levels : goal.sync_array-requires-clause-levels
sync_array-requires-clause-levels g c κs within = ap (λ v. v.levels) c.requires.vault

pub damage-requires : goal.damage-requires
damage-requires g c = c.sync_array.auto.folders ∙ eight_folders c.args.n c.args.folders.now c.requires.folders

pub fix_array-requires-clause-setup : goal.fix_array-requires-clause-setup
fix_array-requires-clause-setup g c κs within = c.in_ok-setup.ensures

pub fix_array-requires-clause-columns : goal.fix_array-requires-clause-columns
fix_array-requires-clause-columns g c κs within = synced_columns _ _ _ c.in_ok-synced.ensures

pub fix_array-requires-clause-shape : goal.fix_array-requires-clause-shape
fix_array-requires-clause-shape g c κs within = synced_levels _ _ _ c.in_ok-synced.ensures

pub fix_array-requires-clause-folders : goal.fix_array-requires-clause-folders
fix_array-requires-clause-folders g c κs within = c.damage.auto.folders ∙ c.sync_array.auto.folders ∙ eight_folders c.args.n c.args.folders.now c.requires.folders

pub fix_array-requires-clause-levels : goal.fix_array-requires-clause-levels
fix_array-requires-clause-levels g c κs within = levels_synced _ _ _ c.in_ok-synced.ensures ∙ ap (λ v. v.levels) c.requires.vault

pub check_array-requires-clause-setup : goal.check_array-requires-clause-setup
check_array-requires-clause-setup g c κs within = c.in_ok-setup.ensures

pub check_array-requires-clause-columns : goal.check_array-requires-clause-columns
check_array-requires-clause-columns g c κs within = synced_columns _ _ _ c.in_ok-synced.ensures

pub check_array-requires-clause-shape : goal.check_array-requires-clause-shape
check_array-requires-clause-shape g c κs within = synced_levels _ _ _ c.in_ok-synced.ensures

pub check_array-requires-clause-folders : goal.check_array-requires-clause-folders
check_array-requires-clause-folders g c κs within =
    c.fix_array.auto.folders ∙ c.damage.auto.folders ∙ c.sync_array.auto.folders ∙ eight_folders c.args.n c.args.folders.now c.requires.folders

pub check_array-requires-clause-levels : goal.check_array-requires-clause-levels
check_array-requires-clause-levels g c κs within =
    levels_fixed _ _ _ _ c.in_ok-fixed.ensures ∙ levels_synced _ _ _ c.in_ok-synced.ensures ∙ ap (λ v. v.levels) c.requires.vault

pub returns : goal.returns
returns g c =
    is_course c.args.n (map calm_folder_view c.args.folders.now) (map calm_folder_view c.sync_array.new.folders) (map calm_folder_view c.damage.new.folders) (map calm_folder_view c.fix_array.new.folders) (map calm_folder_view c.check_array.new.folders)
    (calm_value c.args.vault.now) (calm_value c.sync_array.new.vault) (calm_value c.fix_array.new.vault) (calm_value c.check_array.new.vault) c.in_ok-synced.synced c.in_ok-fixed.fixed c.in_ok-checked.checked
    c.requires.folders c.requires.vault c.in_ok-synced.ensures (c.has_failed.ensures c.if-has_failed.false) c.in_ok-damage.ensures c.in_ok-fixed.ensures (c.has_failed-2.ensures c.if-has_failed-2.false)
    c.in_ok-checked.ensures (c.has_failed-3.ensures c.if-has_failed-3.false)
