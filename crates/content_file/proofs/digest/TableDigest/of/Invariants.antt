use Rattle.std.proofs.Common.{◌≢◌, [], length}
use Rattle.content_file.specs.Encoding.{IsPlace, from}
use Rattle.content_file.specs.Hashed.{HoldsFront}
use Rattle.content_file.specs.declared.place.Place.TheVariants.{End}
use Rattle.content_file.proofs.digest.TableDigest.of.Given as goal

abbrev pub invariant-loop-place : goal.invariant-loop-place
invariant-loop-place l = record { is_place : IsPlace l.table l.place; before_end : l.place ≢ End; hashed : HoldsFront l.table l.hasher (from l.table [] l.place) }

abbrev pub decreases-loop-place : goal.decreases-loop-place
decreases-loop-place l = length (from l.table [] l.place)
