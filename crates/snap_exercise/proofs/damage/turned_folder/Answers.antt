use Rattle.std.proofs.Common.{◌≡◌, ◌∙◌, true, subst, IfOk}
use Rattle.disk_calm.specs.Calm.{calm_folder_view}
use Rattle.rand_pcg.specs.Lcg.{Lcg}
use Rattle.snap_exercise.specs.Generated.{before, files_of, standing, tree_from}
use Rattle.snap_exercise.proofs.GeneratedLemmas.{before_none, column_more}
use Rattle.snap_exercise.proofs.damage.turned_folder.Goals as goal

pub returns : goal.returns
returns c =
    let n = c.args.n in
    let first : c.make_folder.new.rng ≡ before n 1 = column_more n 0 c.generator_of-rng.result c.make_folder.new.rng (c.generator_of-rng.ensures ∙ before_none n) c.in_ok-make_folder.ensures.rng in
    let second : c.make_folder-2.new.rng ≡ before n 2 = column_more n 1 c.make_folder.new.rng c.make_folder-2.new.rng first c.in_ok-make_folder-2.ensures.rng in
    subst (λ (g : Lcg). IfOk c.make_folder-3.result (λ folder. calm_folder_view folder ≡ standing (tree_from g 2 true (files_of n)))) second c.make_folder-3.ensures.folder
