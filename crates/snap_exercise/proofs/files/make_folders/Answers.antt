use Rattle.std.proofs.Common.{ap, map, ◌∙◌}
use Rattle.disk_calm.specs.Calm.{calm_folder_view}
use Rattle.snap_exercise.proofs.GeneratedLemmas.{before_none, column_more, folders_more}
use Rattle.snap_exercise.proofs.files.make_folders.Goals as goal

pub loop-column-init : goal.loop-column-init
loop-column-init c = (ap (map calm_folder_view) c.new-folders.ensures.items, c.generator_of-rng.ensures ∙ before_none c.args.n)

pub loop-column-preserved : goal.loop-column-preserved
loop-column-preserved c = (
  ap (map calm_folder_view) c.in_ok-push.ensures.items
      ∙ folders_more c.args.n c.loop-column.column c.loop-column.folders.items c.in_ok-make_folder.field-0 c.loop-column.rng c.loop-column.invariant.0 c.loop-column.invariant.1 c.in_ok-make_folder.ensures.folder,
  column_more c.args.n c.loop-column.column c.loop-column.rng c.make_folder.new.rng c.loop-column.invariant.1 c.in_ok-make_folder.ensures.rng,
)
