use Rattle.std.proofs.Common.{◌*◌}
use Rattle.cauchy.specs.Products.{AddsWithin}
use Rattle.cauchy.proofs.products.add_doubled_groups.Given as goal

abbrev pub invariant-loop-group : goal.invariant-loop-group
invariant-loop-group l = AddsWithin 0 (32 * l.group) 2 l.block l.initial.out l.out
