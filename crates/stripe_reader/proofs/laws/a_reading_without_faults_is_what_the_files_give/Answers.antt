use Rattle.stripe_reader.proofs.WindowLemmas.{all_given}
use Rattle.stripe_reader.proofs.laws.a_reading_without_faults_is_what_the_files_give.Goals as goal

pub returns : goal.returns
returns c = all_given
