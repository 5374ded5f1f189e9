use Rattle.std.proofs.Common.{◌≡◌, ℕ, filter}
use Rattle.std.specs.List.{range_with_len}
use Rattle.file_table.specs.Table.{info_at}
use Rattle.array_scan.specs.Layout.{is_pending}
use Rattle.array_scan.proofs.layout.pending_stripes.Given as goal

abbrev pub invariant-loop-stripe : goal.invariant-loop-stripe
invariant-loop-stripe l = l.pending.items ≡ filter (λ (stripe : ℕ). is_pending (info_at l.table.infos stripe).mark) (range_with_len 0 l.stripe)
