use Rattle.std.proofs.Common.{◌∙◌, arith}
use Rattle.disk_calm.specs.Calm.{calm_folder_view}
use Rattle.snap_exercise.proofs.GeneratedLemmas.{behind_none, file_more, folder_more}
use Rattle.snap_exercise.proofs.files.make_folder.Goals as goal

pub loop-file-init : goal.loop-file-init
loop-file-init c = (c.new-folder.ensures, behind_none c.args.rng.now)

pub loop-file-preserved : goal.loop-file-preserved
loop-file-preserved c = (
  folder_more c.args.rng.now c.args.column c.args.turns c.loop-file.file (calm_folder_view c.loop-file.folder) (calm_folder_view c.put_file.new.folder) c.loop-file.rng c.size_of.result c.as_slice.result.now
      (omega arith) c.loop-file.invariant.0 c.loop-file.invariant.1 c.size_of.ensures (c.as_slice.ensures.value ∙ c.in_ok-bytes.ensures.bytes) c.in_ok-put_file.ensures,
  file_more c.args.column c.loop-file.file c.size_of.result c.args.rng.now c.loop-file.rng c.draw.new.rng c.loop-file.invariant.1 c.size_of.ensures c.in_ok-bytes.ensures.rng,
)
