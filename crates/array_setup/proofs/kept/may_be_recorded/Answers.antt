use Rattle.array_setup.proofs.KeepsLemmas.{recordable}
use Rattle.array_setup.proofs.kept.may_be_recorded.Goals as goal

pub returns : goal.returns
returns c = recordable c.args.path.now c.is_record_path.result c.is_record_path.ensures c.requires
