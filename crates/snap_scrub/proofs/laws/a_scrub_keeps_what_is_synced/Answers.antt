use Rattle.std.proofs.Common.{refl, map}
use Rattle.stripe_findings.specs.Reading.{stripes_of}
use Rattle.snap_scrub.specs.Marks.{verdict_of}
use Rattle.snap_scrub.specs.Reading.{cells_of}
use Rattle.snap_scrub.proofs.LawLemmas.{scrubbed_marks, scrubbed_sound, scrubbed_valid}
use Rattle.snap_scrub.proofs.MarkLemmas.{length-marked}
use Rattle.snap_scrub.proofs.laws.a_scrub_keeps_what_is_synced.Goals as goal

pub returns-clause-rest : goal.returns-clause-rest
returns-clause-rest c = λ table now readings. (refl, refl)

pub returns-clause-count : goal.returns-clause-count
returns-clause-count c = λ table now readings. length-marked now (stripes_of (cells_of readings)) (map (verdict_of table) readings) table.infos

pub returns-clause-marks : goal.returns-clause-marks
returns-clause-marks c = λ table way now readings stripe planned. scrubbed_marks table way now readings planned stripe

pub returns-clause-valid : goal.returns-clause-valid
returns-clause-valid c = λ table way now readings planned. scrubbed_valid table way now readings planned

pub returns-clause-sound : goal.returns-clause-sound
returns-clause-sound c = λ table way now readings old new snapshot is_changed planned same sound. scrubbed_sound table way now readings planned old new snapshot is_changed same sound
