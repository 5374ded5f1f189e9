use Rattle.std.proofs.Common.{◌≡◌, ◌∙◌, ℕ, [], subst, ap, arith, refl}
use Rattle.disk_model.specs.Name.{IsName}
use Rattle.file_table.specs.Builder.{building_of}
use Rattle.file_table.specs.Stripes.{users_of, lacking_of}
use Rattle.file_table.specs.Building.{BuildingValue, IsNewName}
use Rattle.file_table.specs.Counted.{IsCounted}
use Rattle.file_table.proofs.CountedLemmas.{counted-column}
use Rattle.file_table.proofs.NameLemmas.{no_column_named}
use Rattle.file_table.proofs.builder.Builder.push_disk.Goals as goal

pub invariant_of-self-2 : goal.invariant_of-self-2
invariant_of-self-2 c =
    let b = c.self.inside in
    let none : b.lacking ≡ 0 = omega arith in
    let is : IsCounted (building_of b) (users_of b.stripes) (lacking_of b.stripes) b.records b.due 0 b.end = subst (λ (n : ℕ). IsCounted (building_of b) (users_of b.stripes) (lacking_of b.stripes) b.records b.due n b.end) none c.self.invariant in
    let new : IsNewName b.disks.items c.args.name = record {
      allowed = subst IsName c.as_str.ensures.value (c.if-not-is_name.ensures.0 refl);
      new = no_column_named b.disks.items c.deref.result.now c.args.name c.as_str-else-not-is_name.result.now c.has_name.result c.deref.ensures.value c.as_str-else-not-is_name.ensures.value c.has_name.ensures c.if-has_name.false;
      room = omega arith;
    } in
    let infos : b.infos.items ≡ [] = ap (λ (v : BuildingValue). v.infos) c.self.view_is ∙ c.requires.before_infos in
    rw (c.in_ok-push.ensures.items, c.new.ensures, none) (counted-column (building_of b) (users_of b.stripes) (lacking_of b.stripes) b.records b.due b.end c.args.name infos new is)

pub returns-clause-building : goal.returns-clause-building
returns-clause-building c = (invariant_of-self-2 c).building
