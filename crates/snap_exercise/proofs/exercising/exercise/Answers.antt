use Rattle.std.proofs.Common.{map, length, drop, ap, ◌∙◌, arith, rules}
use Rattle.disk_calm.specs.Calm.{calm_folder_view, calm_value}
use Rattle.snap_exercise.specs.Exercised.{summary_of}
use Rattle.snap_exercise.proofs.EngineLemmas.{is_exercise, same_lists}
use Rattle.snap_exercise.proofs.GeneratedLemmas.{written_back}
use Rattle.snap_exercise.proofs.exercising.exercise.Goals as goal

pub go_through-requires-clause-folders : goal.go_through-requires-clause-folders
go_through-requires-clause-folders g c κs within = ap (map calm_folder_view) c.as_mut_slice.ensures.value ∙ c.in_ok-folders.ensures

pub go_through-requires-clause-vault : goal.go_through-requires-clause-vault
go_through-requires-clause-vault g c κs within = c.in_ok-vault.ensures

pub returns-clause-told : goal.returns-clause-told
returns-clause-told g c =
    let ends = c.in_ok-ends.ends in
    let same = c.have_same_trees-same.result in
    let folders = c.go_through.new.folders in
    let made = c.in_ok-made.made in
    let lent = ap length c.as_mut_slice.ensures.value in
    let back = written_back c.in_ok-folders.folders.len folders (drop (length folders) c.in_ok-folders.folders.items) (omega (arith, c.in_ok-folders.folders.ok.0, lent, c.go_through.auto.folders)) in (
      summary_of ends.synced ends.fixed ends.checked same,
      is_exercise c.args.n ends.synced ends.fixed ends.checked (map calm_folder_view folders) (map calm_folder_view made.items) (calm_value c.go_through.new.vault) same c.in_ok-ends.ensures
          c.in_ok-made.ensures (same_lists same folders made.items c.as_slice.result.now c.as_slice-2.result.now (c.as_slice.ensures.value ∙ back) c.as_slice-2.ensures.value c.have_same_trees-same.ensures),
      search rules,
      c.tell.ensures.puts,
    )
