use Rattle.snap_exercise.proofs.PathLemmas.{utf8_name}
use Rattle.snap_exercise.proofs.files.path_of.Goals as goal

pub unreachable-requires : goal.unreachable-requires
unreachable-requires c =
    c.in_default.ensures.cases.0 (utf8_name c.args.file c.digit.result c.digit-2.result c.digit-3.result c.digit-4.result c.digit.ensures c.digit-2.ensures c.digit-3.ensures c.digit-4.ensures)
