use Rattle.std.proofs.Common.{◌≡◌, ◌<◌, ◌≤◌, ◌-◌, ◌+◌, ◌∙◌, ℕ, List, [], length, subst, sym, ap, arith, refl, set, rules, None}
use Rattle.file_table.specs.Table.{Column, records_of, blocks_due, block_count}
use Rattle.file_table.specs.Valid.{IsMeta, most_blocks}
use Rattle.file_table.specs.Builder.{building_of}
use Rattle.file_table.specs.Stripes.{users_of, lacking_of}
use Rattle.file_table.specs.Building.{BuildingValue, HasRoom, IsPathFault, LacksBlock, with_record}
use Rattle.file_table.specs.Counted.{IsCounted}
use Rattle.file_table.proofs.CountLemmas.{Lacks, lacks_none}
use Rattle.file_table.proofs.CountedLemmas.{counted-record}
use Rattle.file_table.proofs.CallLemmas.{put_record}
use Rattle.file_table.proofs.builder.Builder.push_record.Goals as goal

pub invariant_of-self-2 : goal.invariant_of-self-2
invariant_of-self-2 c =
    let b = c.self.inside in
    let columns = b.disks.items in
    let some : 0 < length columns = subst (λ (v : BuildingValue). 0 < length v.columns) (sym c.self.view_is) c.requires.column in
    let infos : b.infos.items ≡ [] = ap (λ (v : BuildingValue). v.infos) c.self.view_is ∙ c.requires.before_infos in
    let none : b.lacking ≡ 0 = omega arith in
    let is : IsCounted (building_of b) (users_of b.stripes) (lacking_of b.stripes) b.records b.due 0 b.end = subst (λ (n : ℕ). IsCounted (building_of b) (users_of b.stripes) (lacking_of b.stripes) b.records b.due n b.end) none c.self.invariant in
    let last : c.len-last.result - 1 ≡ length columns - 1 = omega arith in
    let passes : IsPathFault columns c.args.path None = subst (λ (v : BuildingValue). IsPathFault v.columns c.args.path None) (sym c.self.view_is) c.in_default.ensures in
    let fits : blocks_due b.shape.block_size (records_of columns) + block_count b.shape.block_size c.args.meta.size ≤ most_blocks =
    subst (λ (v : BuildingValue). blocks_due v.shape.block_size (records_of v.columns) + block_count v.shape.block_size c.args.meta.size ≤ most_blocks) (sym c.self.view_is) (c.if-not-size_fits.ensures.0 refl) in
    let room : HasRoom (building_of b) c.args.meta.size = record { records = omega (arith, c.self.invariant.record_count); blocks = fits } in
    let meta : IsMeta c.args.meta = record { size = search rules; seconds = search rules; nanos = c.requires.nanos } in
    let put : set columns (c.len-last.result - 1) c.push_file.new.self ≡ with_record columns c.args.path c.args.meta =
    put_record columns (c.len-last.result - 1) c.index_mut.result.now c.push_file.new.self c.args.path c.args.meta last some c.index_mut.ensures.value c.in_ok-push_file.ensures.ok in
    rw (put, c.blocks_for-blocks.ensures) (counted-record (building_of b) (users_of b.stripes) (lacking_of b.stripes) b.records b.due b.end c.args.path c.args.meta infos some passes.0 meta passes.1 passes.2 room is)

pub returns-clause-ok : goal.returns-clause-ok
returns-clause-ok c =
    let b = c.self.inside in
    let columns = b.disks.items in
    let some : 0 < length columns = subst (λ (v : BuildingValue). 0 < length v.columns) (sym c.self.view_is) c.requires.column in
    let none : b.lacking ≡ 0 = omega arith in
    let whole : ¬ (LacksBlock (building_of b)) = lacks_none (building_of b) (subst (λ (n : ℕ). Lacks b.shape.block_size n (records_of columns)) none c.self.invariant.last_lacks) in
    let last : c.len-last.result - 1 ≡ length columns - 1 = omega arith in
    let passes : IsPathFault columns c.args.path None = subst (λ (v : BuildingValue). IsPathFault v.columns c.args.path None) (sym c.self.view_is) c.in_default.ensures in
    let fits : blocks_due b.shape.block_size (records_of columns) + block_count b.shape.block_size c.args.meta.size ≤ most_blocks =
    subst (λ (v : BuildingValue). blocks_due v.shape.block_size (records_of v.columns) + block_count v.shape.block_size c.args.meta.size ≤ most_blocks) (sym c.self.view_is) (c.if-not-size_fits.ensures.0 refl) in
    let room : HasRoom (building_of b) c.args.meta.size = record { records = omega (arith, c.self.invariant.record_count); blocks = fits } in
    let put : set columns (c.len-last.result - 1) c.push_file.new.self ≡ with_record columns c.args.path c.args.meta =
    put_record columns (c.len-last.result - 1) c.index_mut.result.now c.push_file.new.self c.args.path c.args.meta last some c.index_mut.ensures.value c.in_ok-push_file.ensures.ok in
    rw (← c.self.view_is) (record {
      whole = whole;
      record_path = passes.0;
      order = passes.1;
      not_nested = passes.2;
      room = room;
      pushed = ap (λ (cs : List Column). let v : BuildingValue = record { shape = b.shape; length = b.length; columns = cs; infos = b.infos.items } in v) put;
    })

pub returns-clause-building : goal.returns-clause-building
returns-clause-building c = (invariant_of-self-2 c).building
