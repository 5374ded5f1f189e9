use Rattle.std.proofs.Common.{◌≡◌, ◌+◌, ◌-◌, ℕ, length}
use Rattle.file_table.specs.Stripes.{lists_of, page_at}
use Rattle.file_table.proofs.stripes.make_pages.Given as goal

-- an empty page more is as none
abbrev pub invariant-loop-alloc : goal.invariant-loop-alloc
invariant-loop-alloc l = (other : ℕ) → page_at (lists_of l.pages.items) other ≡ page_at (lists_of l.initial.pages.items) other

abbrev pub decreases-loop-alloc : goal.decreases-loop-alloc
decreases-loop-alloc l = l.number + 1 - length l.pages.items
