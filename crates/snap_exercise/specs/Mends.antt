-- An exercise whose fix meets no block that has a recorded hash by chance.
use Rattle.std.specs.Prelude.{◌≡◌, ℕ}
use Rattle.parity_writer.specs.Sound.{Snapshot}
use Rattle.snap_exercise.specs.Exercise.{Summary}
use Rattle.snap_exercise.specs.Exercised.{IsExercise, start_of}
use Rattle.snap_exercise.specs.Generated.{trees}
use Rattle.snap_fix.specs.Fixing.{facts_of}
use Rattle.snap_fix.specs.Genuine.{AreGenuine}
use Rattle.snap_sync.specs.Part.{reading_by}
use Rattle.stripe_findings.specs.Reading.{row_of}

-- the row of each stripe, as the sync of a number reads it
abbrev pub snapshot : ℕ → Snapshot
snapshot n stripe = row_of (reading_by (start_of n) (trees n) stripe)

-- no block that its fix looks at has a recorded hash by chance: each that has it is the one that the sync read
abbrev pub MeetsNoChance : (n : ℕ) (s : Summary) → IsExercise n s → Type 0
MeetsNoChance n s is = AreGenuine is.course.fix.plan (snapshot n) (facts_of is.course.fix.stripes)

-- its fix leaves no finding, and writes no level
pub record MendsAll (s : Summary) : Type 0 where
  pub left : s.left ≡ 0
  pub parities : s.parities ≡ 0
