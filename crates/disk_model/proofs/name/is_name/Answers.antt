use Rattle.disk_model.proofs.NameLemmas.{IsName-tests}
use Rattle.disk_model.proofs.name.is_name.Goals as goal

pub returns : goal.returns
returns c = IsName-tests c.args.name.now c.as_bytes-bytes.result.now c.is_empty.result c.is_level_name.result _ c.as_bytes-bytes.ensures.value c.is_empty.ensures c.if-is_empty.false c.if-bytes-gt-LONGEST.false c.is_level_name.ensures c.if-is_level_name.false c.has_name_bytes.ensures
