use Rattle.std.proofs.Common.{◌≡◌, rules, arith, true, false}
use Rattle.std.proofs.Math.Dec.{leb}
use Rattle.std.specs.List.Sorted.{IsPartitionPoint}
use Rattle.std.proofs.lemmas.List.Sorted.{IsPartitionPoint-from_clause, IsPartitionedBy-leb}
use Rattle.file_table.specs.declared.disk.File.{File}
use Rattle.file_table.proofs.PlaceLemmas.{some_begin, last_begins, next_begins}
use Rattle.file_table.proofs.disk.file_with.Goals as goal

pub overflow_sub-result : goal.overflow_sub-result
overflow_sub-result c =
    let splits : IsPartitionPoint (λ (file : File). leb file.first c.args.place ≡ true) (λ (file : File). leb file.first c.args.place ≡ false) c.args.files.now c.partition_point.result =
    IsPartitionPoint-from_clause (λ (file : File). leb file.first c.args.place) c.args.files.now c.partition_point.result c.partition_point.ensures.partitioned
    (IsPartitionedBy-leb (λ (file : File). file.first) c.args.files.now c.args.place c.requires.rise) (λ a r f k. search rules) in
    omega (arith, some_begin c.args.files.now c.args.place c.partition_point.result splits c.requires.some c.requires.start)

pub returns-clause-begins : goal.returns-clause-begins
returns-clause-begins c =
    let splits : IsPartitionPoint (λ (file : File). leb file.first c.args.place ≡ true) (λ (file : File). leb file.first c.args.place ≡ false) c.args.files.now c.partition_point.result =
    IsPartitionPoint-from_clause (λ (file : File). leb file.first c.args.place) c.args.files.now c.partition_point.result c.partition_point.ensures.partitioned
    (IsPartitionedBy-leb (λ (file : File). file.first) c.args.files.now c.args.place c.requires.rise) (λ a r f k. search rules) in
    last_begins c.args.files.now c.args.place c.partition_point.result splits
    (some_begin c.args.files.now c.args.place c.partition_point.result splits c.requires.some c.requires.start)

pub returns-clause-last : goal.returns-clause-last
returns-clause-last c =
    let splits : IsPartitionPoint (λ (file : File). leb file.first c.args.place ≡ true) (λ (file : File). leb file.first c.args.place ≡ false) c.args.files.now c.partition_point.result =
    IsPartitionPoint-from_clause (λ (file : File). leb file.first c.args.place) c.args.files.now c.partition_point.result c.partition_point.ensures.partitioned
    (IsPartitionedBy-leb (λ (file : File). file.first) c.args.files.now c.args.place c.requires.rise) (λ a r f k. search rules) in
    next_begins c.args.files.now c.args.place c.partition_point.result splits
    (some_begin c.args.files.now c.args.place c.partition_point.result splits c.requires.some c.requires.start)
