use Rattle.cauchy.specs.Products.{AddsWithin}
use Rattle.cauchy.proofs.products.add_block.Given as goal

abbrev pub invariant-loop-i : goal.invariant-loop-i
invariant-loop-i l = AddsWithin 0 l.i 1 l.block l.initial.out l.out
