use Rattle.gf256.proofs.ProductLemmas.{product_lt, product_comm, product_assoc, one_times, product-zero, product_of_sum}
use Rattle.gf256.proofs.laws.products.Goals as goal

pub returns : goal.returns
returns c =
    record {
      closed = product_lt;
      commutative = product_comm;
      associative = product_assoc;
      one = one_times;
      zero = product-zero;
      distributive = product_of_sum;
    }
