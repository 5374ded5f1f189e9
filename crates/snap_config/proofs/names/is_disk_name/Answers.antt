use Rattle.snap_config.proofs.NamesLemmas.{disk_name}
use Rattle.snap_config.proofs.names.is_disk_name.Goals as goal

pub returns : goal.returns
returns c = disk_name c.args.name.now c.is_name.result c.is_name.ensures
