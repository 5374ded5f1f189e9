use Rattle.std.proofs.Common.{◌≡◌, ◌<◌, ℕ, List, length, get_or, subst, sym, ap, Some}
use Rattle.std.specs.List.{AllPairs}
use Rattle.std.specs.List.Sorted.{IsNonDecreasingBy, IsPartitionPoint}
use Rattle.std.specs.Ordering.{ordering_index}
use Rattle.std.specs.declared.cmp.Ordering.TheVariants.{Less, Equal, Greater}
use Rattle.file_table.specs.declared.disk.File.{File}
use Rattle.file_table.specs.Table.{Column, HasPath}
use Rattle.file_table.specs.Valid.{ComesBefore}
use Rattle.file_table.proofs.FindLemmas.{found_at, found_nowhere, path_once, path_cmp}
use Rattle.file_table.proofs.disk.Disk.find.Goals as goal

pub returns-in-Ok-clause-found : goal.returns-in-Ok-clause-found
returns-in-Ok-clause-found c =
    let files = c.self.inside.files.items in
    let path = c.args.path.now in
    let within = subst (λ (fs : List File). c.in-Ok.i < length fs) c.deref.ensures.value c.in-Ok.ensures.bound in
    let tied = λ (d : File). subst (λ (fs : List File). path_cmp (get_or fs c.in-Ok.i d).path path ≡ Equal) c.deref.ensures.value (c.in-Ok.ensures.place d) in
    subst (λ (column : Column). HasPath column c.in-Ok.i path) c.self.view_is (found_at c.self.inside.name c.self.inside.blocks.items files c.in-Ok.i path within tied)

pub returns-in-Ok-clause-only : goal.returns-in-Ok-clause-only
returns-in-Ok-clause-only c = λ i at.
    let same : c.in-Ok.i ≡ i = path_once c.args.self.now c.requires c.in-Ok.i i c.args.path.now (returns-in-Ok-clause-found c) at in
    ap (λ (n : ℕ). Some n) same

pub returns-in-Err-clause-only : goal.returns-in-Err-clause-only
returns-in-Err-clause-only c = λ i at.
    let path = c.args.path.now in
    let order = subst (λ (column : Column). AllPairs ComesBefore column.records) (sym c.self.view_is) c.requires in
    let splits = subst (λ (fs : List File). IsNonDecreasingBy (λ (file : File). ordering_index (path_cmp file.path path)) fs → IsPartitionPoint (λ (file : File). path_cmp file.path path ≡ Less) (λ (file : File). path_cmp file.path path ≡ Greater) fs c.in-Err.field-0) c.deref.ensures.value c.in-Err.ensures.place in
    let held = subst (λ (column : Column). HasPath column i path) (sym c.self.view_is) at in
    absurd (found_nowhere c.self.inside.name c.self.inside.blocks.items c.self.inside.files.items c.in-Err.field-0 path order splits i held)
