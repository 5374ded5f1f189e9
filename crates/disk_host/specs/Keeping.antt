-- Which stamps a data folder of the system keeps.
use Rattle.std.specs.Prelude.{Bool, ◌&&◌, not}
use Rattle.std.specs.Int.{is_negative}
use Rattle.disk_model.specs.declared.meta.Stamp.{Stamp}

-- one that is not before 1970, where nanoseconds are kept
abbrev pub keeps_of : Bool → Stamp → Bool
keeps_of keeps_nanoseconds stamp = keeps_nanoseconds && not (is_negative stamp.seconds)
