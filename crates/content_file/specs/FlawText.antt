-- The words for what is wrong with a field.
use Rattle.std.specs.Prelude.{ℕ, List, codes}
use Rattle.content_file.specs.declared.fault.Flaw.{Flaw}
use Rattle.content_file.specs.declared.fault.Flaw.TheVariants.{Short, Magic, Version, Value, Name, Path, Order, Full, Position, Length, Hash, Digest, Extra}

abbrev pub printed_flaw : Flaw → List ℕ
printed_flaw Short = codes "too short"
printed_flaw Magic = codes "not a content file"
printed_flaw Version = codes "unknown version"
printed_flaw Value = codes "bad value"
printed_flaw Name = codes "bad name"
printed_flaw Path = codes "bad path"
printed_flaw Order = codes "out of order"
printed_flaw Full = codes "too many"
printed_flaw Position = codes "bad position"
printed_flaw Length = codes "wrong length"
printed_flaw Hash = codes "missing hash"
printed_flaw Digest = codes "wrong digest"
printed_flaw Extra = codes "bytes after the end"
