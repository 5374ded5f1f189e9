use Rattle.std.proofs.Common.{◌*◌}
use Rattle.cauchy.specs.Products.{AddsWithin}
use Rattle.cauchy.proofs.products.add_groups.Given as goal

abbrev pub invariant-loop-group : goal.invariant-loop-group
invariant-loop-group l = AddsWithin 0 (32 * l.group) l.coefficient l.block l.initial.out l.out
