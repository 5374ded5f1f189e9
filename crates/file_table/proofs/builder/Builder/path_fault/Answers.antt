use Rattle.std.proofs.Common.{◌≡◌, ◌<◌, ◌-◌, length, subst, sym, arith, refl}
use Rattle.file_table.specs.Table.{Column}
use Rattle.file_table.specs.Building.{BuildingValue, IsGreatest, IsNested, last_column}
use Rattle.file_table.proofs.CallLemmas.{read_last, read_column}
use Rattle.file_table.proofs.builder.Builder.path_fault.Goals as goal

pub has_directory_of-requires-clause-order : goal.has_directory_of-requires-clause-order
has_directory_of-requires-clause-order c =
    let b = c.self.inside in
    let columns = b.disks.items in
    let some : 0 < length columns = subst (λ (v : BuildingValue). 0 < length v.columns) (sym c.self.view_is) c.requires in
    let last : c.len.result - 1 ≡ length columns - 1 = omega arith in
    (read_column columns (c.len.result - 1) c.index-last.result.now last some c.index-last.ensures b.length c.self.invariant.building.columns.each).order

pub returns-then-has_directory_of : goal.returns-then-has_directory_of
returns-then-has_directory_of c =
    let columns = c.self.inside.disks.items in
    let some : 0 < length columns = subst (λ (v : BuildingValue). 0 < length v.columns) (sym c.self.view_is) c.requires in
    let last : c.len.result - 1 ≡ length columns - 1 = omega arith in
    let is_last : c.index-last.result.now ≡ last_column columns = read_last columns (c.len.result - 1) c.index-last.result.now last some c.index-last.ensures in
    let greatest : IsGreatest (last_column columns) c.args.path.now = subst (λ (column : Column). IsGreatest column c.args.path.now) is_last (c.if-not-is_greatest.ensures.0 refl) in
    let nested : IsNested (last_column columns) c.args.path.now = subst (λ (column : Column). IsNested column c.args.path.now) is_last (c.if-has_directory_of.ensures.0 refl) in
    rw (← c.self.view_is) (c.if-not-is_record_path.ensures.0 refl, greatest, nested)
