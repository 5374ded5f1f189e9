use Rattle.std.proofs.Common.{◌≡◌, ℕ, rules, arith, true, false}
use Rattle.std.proofs.Math.Dec.{leb}
use Rattle.std.specs.List.Sorted.{IsPartitionPoint}
use Rattle.std.proofs.lemmas.List.Sorted.{IsPartitionPoint-from_clause, IsPartitionedBy-leb}
use Rattle.hash_index.proofs.StartLemmas.{some_begin, last_begins, next_begins}
use Rattle.hash_index.proofs.records.disk_with.Goals as goal

pub overflow_sub-result : goal.overflow_sub-result
overflow_sub-result c =
    let splits : IsPartitionPoint (λ (start : ℕ). leb start c.args.number ≡ true) (λ (start : ℕ). leb start c.args.number ≡ false) c.args.starts.now c.partition_point.result =
    IsPartitionPoint-from_clause (λ (start : ℕ). leb start c.args.number) c.args.starts.now c.partition_point.result c.partition_point.ensures.partitioned
    (IsPartitionedBy-leb (λ (start : ℕ). start) c.args.starts.now c.args.number c.requires.rise) (λ a r f k. search rules) in
    omega (arith, some_begin c.args.starts.now c.args.number c.partition_point.result splits c.requires.some c.requires.start)

pub returns-clause-begins : goal.returns-clause-begins
returns-clause-begins c =
    let splits : IsPartitionPoint (λ (start : ℕ). leb start c.args.number ≡ true) (λ (start : ℕ). leb start c.args.number ≡ false) c.args.starts.now c.partition_point.result =
    IsPartitionPoint-from_clause (λ (start : ℕ). leb start c.args.number) c.args.starts.now c.partition_point.result c.partition_point.ensures.partitioned
    (IsPartitionedBy-leb (λ (start : ℕ). start) c.args.starts.now c.args.number c.requires.rise) (λ a r f k. search rules) in
    last_begins c.args.starts.now c.args.number c.partition_point.result splits
    (some_begin c.args.starts.now c.args.number c.partition_point.result splits c.requires.some c.requires.start)

pub returns-clause-last : goal.returns-clause-last
returns-clause-last c =
    let splits : IsPartitionPoint (λ (start : ℕ). leb start c.args.number ≡ true) (λ (start : ℕ). leb start c.args.number ≡ false) c.args.starts.now c.partition_point.result =
    IsPartitionPoint-from_clause (λ (start : ℕ). leb start c.args.number) c.args.starts.now c.partition_point.result c.partition_point.ensures.partitioned
    (IsPartitionedBy-leb (λ (start : ℕ). start) c.args.starts.now c.args.number c.requires.rise) (λ a r f k. search rules) in
    next_begins c.args.starts.now c.args.number c.partition_point.result splits
    (some_begin c.args.starts.now c.args.number c.partition_point.result splits c.requires.some c.requires.start)
