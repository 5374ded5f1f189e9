-- What a scrub keeps in the table of the stripes that it read.
use Rattle.std.specs.Prelude.{ℕ, ◌-◌, ◌^◌, min, List, [], ◌∷◌, map, slice_set, if◌then◌else◌, Bool, true, false}
use Rattle.std.specs.List.{list_any}
use Rattle.file_table.specs.Table.{TableValue, info_at}
use Rattle.file_table.specs.declared.info.Info.{Info}
use Rattle.file_table.specs.declared.info.Mark.TheVariants.{Synced}
use Rattle.snap_report.specs.declared.events.Event.{Event}
use Rattle.snap_report.specs.declared.events.Event.TheVariants.{ChangedBlock}
use Rattle.stripe_findings.specs.Reading.{stripes_of}
use Rattle.snap_scrub.specs.declared.verdict.Verdict.{Verdict}
use Rattle.snap_scrub.specs.declared.verdict.Verdict.TheVariants.{Right, Wrong, Changed}
use Rattle.snap_scrub.specs.Findings.{scrub_events}
use Rattle.snap_scrub.specs.Reading.{ScrubReading, cells_of}

-- a finding makes its stripe bad: each but that of a changed file
abbrev pub makes_bad : Event → Bool
makes_bad (ChangedBlock stripe disk rec index found got) = false
makes_bad event = true

-- nothing was found in a stripe; or something that makes it bad; or changed files alone
abbrev pub verdict_by : List Event → Verdict
verdict_by [] = Right
verdict_by (event ∷ events) = if list_any makes_bad (event ∷ events) then Wrong else Changed

abbrev pub verdict_of : TableValue → ScrubReading → Verdict
verdict_of table reading = verdict_by (scrub_events table reading)

-- a stripe that is right is not bad and not fresh, and was checked now; a wrong one is bad; a changed file marks nothing
abbrev pub info_by : ℕ → Verdict → Info → Info
info_by now Right info = record { mark = Synced; last = now; bad = false; fresh = false }
info_by now Wrong info = record info { bad = true }
info_by now Changed info = info

-- what is known of all stripes once these are marked, one after another
abbrev pub marked : ℕ → List ℕ → List Verdict → List Info → List Info
marked now [] verdicts infos = infos
marked now (stripe ∷ stripes) [] infos = infos
marked now (stripe ∷ stripes) (verdict ∷ verdicts) infos =
    marked now stripes verdicts (slice_set infos stripe (info_by now verdict (info_at infos stripe)))

-- the table after a scrub that read these stripes
abbrev pub with_marks : ℕ → TableValue → List ℕ → List Verdict → TableValue
with_marks now table stripes verdicts = record table { infos = marked now stripes verdicts table.infos }

abbrev pub scrubbed : ℕ → TableValue → List ScrubReading → TableValue
scrubbed now table readings = with_marks now table (stripes_of (cells_of readings)) (map (verdict_of table) readings)

-- a number of findings, which stays at the greatest u64
abbrev pub at_most : ℕ → ℕ
at_most count = min count (2 ^ 64 - 1)
