use Rattle.stripe_examiner.proofs.FactsAlike.{all_alike_same, alike_same}
use Rattle.stripe_examiner.proofs.laws.what_is_read_determines_what_is_found.Goals as goal

pub returns-clause-stripe : goal.returns-clause-stripe
returns-clause-stripe c plan other facts others see valid are too alike = alike_same c.one_solution.ensures.only plan valid other facts others see are too alike

pub returns-clause-stripes : goal.returns-clause-stripes
returns-clause-stripes c plan other stripes others see valid are too long alike = all_alike_same c.one_solution.ensures.only plan valid other stripes others see are too long alike
