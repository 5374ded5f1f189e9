use Rattle.std.proofs.Common.{◌*◌, ◌/◌, ◌+◌, length, arith, ◌∙◌}
use Rattle.cauchy.specs.Elimination.{entries}
use Rattle.cauchy.specs.System.{byte_in, SolvesBlocks}
use Rattle.cauchy.proofs.MatrixLemmas.{recovered_solution}
use Rattle.cauchy.proofs.RecoveryLemmas.{columns_hold}
use Rattle.cauchy.proofs.SolvingLemmas.{RecoversWithin-then, recovered-turned}
use Rattle.cauchy.proofs.recovery.solve.Goals as goal

pub returns : goal.returns
returns c =
    let choice = c.requires.choice in
    let missing = c.args.missing.now in
    let levels = c.args.levels.now in
    let block = c.args.block in
    let old = c.args.work.now in
    let new = c.recover_bytes.new.work in
    let count = length missing in
    let inverse = entries c.inverse_columns-inverse.result in
    let all = RecoversWithin-then 0 (32 * (block / 32)) block block count inverse old c.recover_groups.new.work new
    (omega arith) (omega arith) (omega arith) c.recover_groups.ensures.recovered c.recover_bytes.ensures in
    let solved : SolvesBlocks missing levels block old new =
    record {
      same_length = all.same_length;
      every_byte = λ p hp.
          recovered_solution missing levels choice inverse c.inverse_columns-inverse.ensures.elements c.inverse_columns-inverse.ensures.units
          (byte_in block old p) (byte_in block new p) (λ i hi. c.recover_groups.ensures.given (i * block + p))
          (λ j hj.
          all.within p j (omega arith) hp hj
          ∙ recovered-turned count inverse (byte_in block old p) j
          (λ i hi. c.inverse_columns-inverse.ensures.elements i j (omega (arith, choice.same_count)) (omega (arith, choice.same_count))) (λ i hi. c.recover_groups.ensures.given (i * block + p)));
    } in
    record {
      solution = solved;
      columns = λ row rows part remainders. columns_hold row missing levels block old new choice part rows solved remainders;
    }
