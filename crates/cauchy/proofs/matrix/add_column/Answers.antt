use Rattle.std.proofs.Common.{ℕ, subst}
use Rattle.cauchy.specs.Matrix.{AddsTerm}
use Rattle.cauchy.specs.Products.{AddsProducts}
use Rattle.cauchy.proofs.ParityLemmas.{next_block}
use Rattle.cauchy.proofs.ProductLemmas.{AddsTerm-products}
use Rattle.cauchy.proofs.matrix.add_column.Goals as goal

pub returns : goal.returns
returns c =
    let block = c.args.block.now in
    let level = c.args.out.now in
    let term : AddsTerm c.args.level c.args.column block level c.add_products.new.out =
    AddsTerm-products c.args.level c.args.column block level c.add_products.new.out
    (subst (λ (k : ℕ). AddsProducts k block level c.add_products.new.out) c.entry.ensures c.add_products.ensures) in
    record {
      added = term;
      next_block = λ row here whole. next_block c.args.level c.args.column row block level c.add_products.new.out term here whole;
    }
