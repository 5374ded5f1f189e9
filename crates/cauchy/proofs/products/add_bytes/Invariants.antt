use Rattle.cauchy.specs.Products.{AddsWithin}
use Rattle.cauchy.proofs.products.add_bytes.Given as goal

abbrev pub invariant-loop-i : goal.invariant-loop-i
invariant-loop-i l = AddsWithin l.start l.i l.coefficient l.block l.initial.out l.out
